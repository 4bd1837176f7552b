-- Joining neighbours, round after round.
use Rattle.std.proofs.Common.{◌≡◌, ℕ, zero, suc, ◌-◌, ◌<◌, ◌≤◌, List, [], ◌∷◌, ◌++◌, length, take, Option, Some, None, option_to_list, refl, arith, sym, ap, ◌∙◌}
use Rattle.vortex_expr.specs.Trees.Tree.{Tree, Place, binary}
use Rattle.vortex_expr.specs.declared.scalar_fn.Operator.TheVariants.{Or}
use Rattle.vortex_rewrite.specs.Rewriting.Falsifiers.{round, rounds, reduce_balanced}

length_round : (xs : List (Tree Place)) → length (round xs) ≤ length xs
length_round [] = omega arith
length_round (x ∷ []) = omega arith
length_round (x ∷ y ∷ rest) = let h : length (round rest) ≤ length rest = length_round rest in omega arith

length_round_less : (xs : List (Tree Place)) → 1 < length xs → length (round xs) < length xs
length_round_less [] h = absurd (omega arith)
length_round_less (x ∷ []) h = absurd (omega arith)
length_round_less (x ∷ y ∷ rest) h = let k : length (round rest) ≤ length rest = length_round rest in omega arith

rounds_enough : (m n : ℕ) (xs : List (Tree Place)) → length xs ≤ m → length xs ≤ n → rounds m xs ≡ rounds n xs
rounds_enough m n [] h k = refl
rounds_enough m n (x ∷ []) h k = refl
rounds_enough zero n (x ∷ y ∷ rest) h k = absurd (omega arith)
rounds_enough (suc m) zero (x ∷ y ∷ rest) h k = absurd (omega arith)
rounds_enough (suc m) (suc n) (x ∷ y ∷ rest) h k =
    let l : length (round rest) ≤ length rest = length_round rest in
    rounds_enough m n (binary Or x y ∷ round rest) (omega arith) (omega arith)

join_round : (xs : List (Tree Place)) → 1 < length xs → reduce_balanced (round xs) ≡ reduce_balanced xs
unfolding reduce_balanced
join_round [] h = absurd (omega arith)
join_round (x ∷ []) h = absurd (omega arith)
join_round (x ∷ y ∷ rest) h =
    let l : length (round rest) ≤ length rest = length_round rest in
    rounds_enough (suc (length (round rest))) (suc (length rest)) (binary Or x y ∷ round rest) (omega arith) (omega arith)

-- a round leaves fewer of two or more
pub shorter : (xs ys : List (Tree Place)) → ys ≡ round xs → 1 < length xs → length ys < length xs
shorter xs ys e h =
    let k : length (round xs) < length xs = length_round_less xs h in
    let n : length ys ≡ length (round xs) = ap length e in
    omega arith

-- and what they join to
pub join_again : (xs ys : List (Tree Place)) → ys ≡ round xs → 1 < length xs → reduce_balanced ys ≡ reduce_balanced xs
join_again xs ys e h = ap reduce_balanced e ∙ join_round xs h

one_left : (o : Option (Tree Place)) → reduce_balanced (option_to_list o) ≡ o
unfolding reduce_balanced
one_left None = refl
one_left (Some x) = refl

-- one proof, or none, is what it joins to
pub popped : (xs rest : List (Tree Place)) (n : ℕ) (o : Option (Tree Place)) → n ≤ 1 → rest ≡ take (n - 1) xs → xs ≡ rest ++ option_to_list o → o ≡ reduce_balanced xs
popped xs rest n o h r e =
    let z : n - 1 ≡ 0 = omega arith in
    let s : rest ≡ [] = r ∙ ap (λ k. take k xs) z in
    let t : xs ≡ option_to_list o = e ∙ ap (λ (q : List (Tree Place)). q ++ option_to_list o) s in
    sym (ap reduce_balanced t ∙ one_left o)
