-- What predicates that are joined two by two have, and what they say.
use Rattle.std.proofs.Common.{◌≡◌, ℕ, zero, suc, ◌+◌, ◌*◌, ◌≤◌, ◌<◌, Bool, List, [], ◌∷◌, length, refl, sym, ap, ◌∙◌, arith}
use Rattle.std.specs.List.{AllByRecursion}
use Rattle.vortex_expr.specs.Trees.Tree.{Tree, Place}
use Rattle.vortex_rewrite.specs.Rewriting.Falsifiers.{bool_literal}
use Rattle.vortex_normal.specs.Balanced.{balanced, first_or, in_turns, paired}
use Rattle.vortex_normal.specs.Pushed.{connected}

-- ---- how many are left

pub half : (w : Bool) (es : List (Tree Place)) → length (paired w es) * 2 ≤ length es + 1
half w [] = omega arith
half w (a ∷ []) = omega arith
half w (a ∷ b ∷ es) = omega (arith, half w es)

-- one or none stays as it is
few_stay : (w : Bool) (es : List (Tree Place)) → length es ≤ 1 → paired w es ≡ es
few_stay w [] h = refl
few_stay w (a ∷ []) h = refl
few_stay w (a ∷ b ∷ es) h = absurd (omega (arith, h))

fewer : (w : Bool) (n : ℕ) (es : List (Tree Place)) → length es ≤ suc (suc n) → length (paired w es) ≤ suc n
fewer w n es h = omega (arith, h, half w es)

pub one_left : (w : Bool) (n : ℕ) (es : List (Tree Place)) → length es ≤ suc n → length (in_turns n w es) ≤ 1
one_left w zero es h = h
one_left w (suc n) es h = one_left w n (paired w es) (fewer w n es h)

-- more turns than there are predicates change nothing
same_turns : (w : Bool) (m n : ℕ) (es : List (Tree Place)) → length es ≤ suc m → length es ≤ suc n → in_turns m w es ≡ in_turns n w es
same_turns w zero zero es h k = refl
same_turns w zero (suc n) es h k =
    let e = few_stay w es h in
    same_turns w zero n es h (omega (arith, h)) ∙ ap (in_turns n w) (sym e)
same_turns w (suc m) zero es h k =
    let e = few_stay w es k in
    ap (in_turns m w) e ∙ same_turns w m zero es (omega (arith, k)) k
same_turns w (suc m) (suc n) es h k = same_turns w m n (paired w es) (fewer w m es h) (fewer w n es k)

-- a turn changes nothing in what is left
pub paired_balanced : (w : Bool) (es : List (Tree Place)) → balanced w (paired w es) ≡ balanced w es
paired_balanced w es =
    ap (first_or (bool_literal w))
    (same_turns w (length (paired w es)) (length es) (paired w es) (omega arith) (omega (arith, half w es))
    ∙ same_turns w (suc (length es)) (length es) es (omega arith) (omega arith))

pub pairs_fewer : (w : Bool) (es : List (Tree Place)) → 1 < length es → length (paired w es) < length es
pairs_fewer w es h = omega (arith, h, half w es)

-- ---- what each has

-- what a turn keeps of a list, all turns keep
pub turns_keep : (Q : List (Tree Place) → Type 0) (w : Bool) → ((es : List (Tree Place)) → Q es → Q (paired w es)) → (n : ℕ) (es : List (Tree Place)) → Q es → Q (in_turns n w es)
turns_keep Q w f zero es h = h
turns_keep Q w f (suc n) es h = turns_keep Q w f n (paired w es) (f es h)

pub first_has : (P : Tree Place → Type 0) (e : Tree Place) (es : List (Tree Place)) → P e → AllByRecursion P es → P (first_or e es)
first_has P e [] h k = h
first_has P e (a ∷ es) h k = k.0

module _ (P : Tree Place → Type 0) (w : Bool) (join : (a b : Tree Place) → P a → P b → P (connected w a b)) where
  pub paired_have : (es : List (Tree Place)) → AllByRecursion P es → AllByRecursion P (paired w es)
  paired_have [] h = tt
  paired_have (a ∷ []) h = h
  paired_have (a ∷ b ∷ es) h = (join a b h.0 h.1.0, paired_have es h.1.1)

  -- what each of them has, and none
  pub balanced_has : (es : List (Tree Place)) → P (bool_literal w) → AllByRecursion P es → P (balanced w es)
  balanced_has es h k = first_has P (bool_literal w) (in_turns (length es) w es) h (turns_keep (AllByRecursion P) w paired_have (length es) es k)

-- ---- what they say

module _ (value : Tree Place → Bool) (op : Bool → Bool → Bool) (none : Bool) where
  -- the values of a chain, joined from the last on
  abbrev pub values_joined : List (Tree Place) → Bool
  values_joined [] = none
  values_joined (e ∷ es) = op (value e) (values_joined es)

module _ (P : Tree Place → Type 0) (w : Bool) (join : (a b : Tree Place) → P a → P b → P (connected w a b))
    (value : Tree Place → Bool) (op : Bool → Bool → Bool) (none : Bool)
    (assoc : (a b c : Bool) → op (op a b) c ≡ op a (op b c)) (unit : (a : Bool) → op a none ≡ a)
    (joins : (a b : Tree Place) → P a → P b → value (connected w a b) ≡ op (value a) (value b)) where
  paired_value : (es : List (Tree Place)) → AllByRecursion P es → values_joined value op none (paired w es) ≡ values_joined value op none es
  paired_value [] h = refl
  paired_value (a ∷ []) h = refl
  paired_value (a ∷ b ∷ es) h =
      ap (λ v. op v (values_joined value op none (paired w es))) (joins a b h.0 h.1.0)
      ∙ ap (op (op (value a) (value b))) (paired_value es h.1.1)
      ∙ assoc (value a) (value b) (values_joined value op none es)

  turns_value : (n : ℕ) (es : List (Tree Place)) → AllByRecursion P es → values_joined value op none (in_turns n w es) ≡ values_joined value op none es
  turns_value zero es h = refl
  turns_value (suc n) es h = turns_value n (paired w es) (paired_have P w join es h) ∙ paired_value es h

  first_value : (es : List (Tree Place)) → length es ≤ 1 → value (bool_literal w) ≡ none → value (first_or (bool_literal w) es) ≡ values_joined value op none es
  first_value [] h e = e
  first_value (a ∷ []) h e = sym (unit (value a))
  first_value (a ∷ b ∷ es) h e = absurd (omega (arith, h))

  pub balanced_value : (es : List (Tree Place)) → value (bool_literal w) ≡ none → AllByRecursion P es → value (balanced w es) ≡ values_joined value op none es
  balanced_value es e h = first_value (in_turns (length es) w es) (one_left w (length es) es (omega arith)) e ∙ turns_value (length es) es h
