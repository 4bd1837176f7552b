-- Sizes together, as a loop adds them.
use Rattle.std.proofs.Common.{◌≡◌, ℕ, ◌+◌, ◌≤◌, ◌<◌, ◌^◌, true, List, [], length, Option, Some, refl, sym, ap, ◌∙◌, arith, drop}
use Rattle.std.specs.Prelude.{is_some, sum_by}
use Rattle.std.specs.List.{list_all}
use Rattle.std.proofs.lemmas.Bool.{lt-ltb}
use Rattle.std.proofs.lemmas.List.{drop_all}
use Rattle.vortex_parquet.specs.Stats.{or_zero, sum_of}

-- each was added
pub sum_done : (os : List (Option ℕ)) (i s : ℕ) → length os ≤ i → s + sum_by or_zero (drop i os) ≡ sum_by or_zero os → list_all is_some (drop i os) ≡ list_all is_some os → s < 2 ^ 64 → sum_of os ≡ Some s
sum_done os i s le h k lt =
    let none : drop i os ≡ [] = drop_all i os le in
    let all : list_all is_some os ≡ true = sym k ∙ ap (list_all is_some) none in
    let same : sum_by or_zero os ≡ s = omega (arith, h, ap (λ (xs : List (Option ℕ)). sum_by or_zero xs) none) in
    rw (all, same, lt-ltb s (2 ^ 64) lt) refl
