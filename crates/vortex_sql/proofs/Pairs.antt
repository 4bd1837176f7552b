-- How many are left of expressions that are joined two by two.
use Rattle.std.proofs.Common.{◌≡◌, ℕ, zero, suc, ◌+◌, ◌*◌, ◌≤◌, ◌<◌, List, [], ◌∷◌, ◌++◌, length, length-append, refl, sym, ap, ◌∙◌, arith}
use Rattle.std.specs.Prelude.{Some, None}
use Rattle.vortex_expr.specs.Trees.Tree.{Tree, Place}
use Rattle.vortex_sql.specs.Halves.{joined, first_of, in_turns, paired}

half : (es : List (Tree Place)) → length (paired es) * 2 ≤ length es + 1
half [] = omega arith
half (a ∷ []) = omega arith
half (a ∷ b ∷ es) = omega (arith, half es)

-- one or none stays as it is
few_stay : (es : List (Tree Place)) → length es ≤ 1 → paired es ≡ es
few_stay [] h = refl
few_stay (a ∷ []) h = refl
few_stay (a ∷ b ∷ es) h = absurd (omega (arith, h))

fewer : (n : ℕ) (es : List (Tree Place)) → length es ≤ suc (suc n) → length (paired es) ≤ suc n
fewer n es h = omega (arith, h, half es)

-- more turns than there are expressions change nothing
same_turns : (m n : ℕ) (es : List (Tree Place)) → length es ≤ suc m → length es ≤ suc n → in_turns m es ≡ in_turns n es
same_turns zero zero es h k = refl
same_turns zero (suc n) es h k =
    let e = few_stay es h in
    same_turns zero n es h (omega (arith, h)) ∙ ap (in_turns n) (sym e)
same_turns (suc m) zero es h k =
    let e = few_stay es k in
    ap (in_turns m) e ∙ same_turns m zero es (omega (arith, k)) k
same_turns (suc m) (suc n) es h k = same_turns m n (paired es) (fewer m es h) (fewer n es k)

-- a turn changes nothing in what is left
pub paired_joined : (es : List (Tree Place)) → joined (paired es) ≡ joined es
paired_joined es =
    ap first_of
    (same_turns (length (paired es)) (length es) (paired es) (omega arith) (omega (arith, half es))
    ∙ same_turns (suc (length es)) (length es) es (omega arith) (omega arith))

pub pairs_fewer : (es : List (Tree Place)) → 1 < length es → length (paired es) < length es
pairs_fewer es h = omega (arith, h, half es)

pub one_left : (n : ℕ) (es : List (Tree Place)) → length es ≤ suc n → length (in_turns n es) ≤ 1
one_left zero es h = h
one_left (suc n) es h = one_left n (paired es) (fewer n es h)

-- the last of one
pub last_joined : (es rest : List (Tree Place)) (e : Tree Place) → length es ≤ 1 → es ≡ rest ++ e ∷ [] → Some e ≡ joined es
last_joined es [] e few is = ap joined (sym is)
last_joined es (r ∷ rs) e few is = absurd (omega (arith, ap length is, length-append rs (e ∷ []), few))

pub none_joined : (es : List (Tree Place)) → length es ≡ 0 → None ≡ joined es
none_joined [] none = refl
none_joined (e ∷ es) none = absurd (omega (arith, none))
