-- How many are left of expressions that are joined two by two.
use Rattle.std.proofs.Common.{◌≡◌, ℕ, zero, suc, ◌+◌, ◌*◌, ◌≤◌, ◌<◌, Bool, List, [], ◌∷◌, length, refl, sym, ap, ◌∙◌, arith}
use Rattle.vortex_expr.specs.Trees.Tree.{Tree, Place}
use Rattle.vortex_rewrite.specs.Rewriting.Falsifiers.{bool_literal}
use Rattle.vortex_capi.specs.Nesting.Halves.{joined, first_or, in_turns, paired}

pub half : (w : Bool) (es : List (Tree Place)) → length (paired w es) * 2 ≤ length es + 1
half w [] = omega arith
half w (a ∷ []) = omega arith
half w (a ∷ b ∷ es) = omega (arith, half w es)

-- one or none stays as it is
few_stay : (w : Bool) (es : List (Tree Place)) → length es ≤ 1 → paired w es ≡ es
few_stay w [] h = refl
few_stay w (a ∷ []) h = refl
few_stay w (a ∷ b ∷ es) h = absurd (omega (arith, h))

fewer : (w : Bool) (n : ℕ) (es : List (Tree Place)) → length es ≤ suc (suc n) → length (paired w es) ≤ suc n
fewer w n es h = omega (arith, h, half w es)

-- more turns than there are items change nothing
same_turns : (w : Bool) (m n : ℕ) (es : List (Tree Place)) → length es ≤ suc m → length es ≤ suc n → in_turns m w es ≡ in_turns n w es
same_turns w zero zero es h k = refl
same_turns w zero (suc n) es h k =
    let e = few_stay w es h in
    same_turns w zero n es h (omega (arith, h)) ∙ ap (in_turns n w) (sym e)
same_turns w (suc m) zero es h k =
    let e = few_stay w es k in
    ap (in_turns m w) e ∙ same_turns w m zero es (omega (arith, k)) k
same_turns w (suc m) (suc n) es h k = same_turns w m n (paired w es) (fewer w m es h) (fewer w n es k)

-- a turn changes nothing in what is left
pub paired_joined : (w : Bool) (es : List (Tree Place)) → joined w (paired w es) ≡ joined w es
paired_joined w es =
    ap (first_or (bool_literal w))
    (same_turns w (length (paired w es)) (length es) (paired w es) (omega arith) (omega (arith, half w es))
    ∙ same_turns w (suc (length es)) (length es) es (omega arith) (omega arith))

pub pairs_fewer : (w : Bool) (es : List (Tree Place)) → 1 < length es → length (paired w es) < length es
pairs_fewer w es h = omega (arith, h, half w es)

pub no_more : (w : Bool) (es : List (Tree Place)) → length (paired w es) ≤ length es
no_more w [] = omega arith
no_more w (a ∷ es) = omega (arith, half w (a ∷ es))

pub one_left : (w : Bool) (n : ℕ) (es : List (Tree Place)) → length es ≤ suc n → length (in_turns n w es) ≤ 1
one_left w zero es h = h
one_left w (suc n) es h = one_left w n (paired w es) (fewer w n es h)

pub some_paired : (w : Bool) (es : List (Tree Place)) → 0 < length es → 0 < length (paired w es)
some_paired w [] h = h
some_paired w (a ∷ []) h = h
some_paired w (a ∷ b ∷ es) h = omega arith
