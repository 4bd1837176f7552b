-- True sums: of two columns together, and of a column in another order.
use Rattle.std.proofs.Common.{◌≡◌, ℕ, ◌+◌, Bool, true, false, cond, List, [], ◌∷◌, ◌++◌, Option, Some, None, refl, ap, subst, ◌∙◌, arith}
use Rattle.std.specs.Prelude.{MatchOption, ℤ, pos, ◌+ℤ◌, int_le, ◌&&◌, nat_lt, ◌^◌, IsPermutation, ⊤}
use Rattle.std.specs.List.{sum_by}
use Rattle.std.proofs.lemmas.Int.{ints}
use Rattle.std.proofs.lemmas.List.Sums.{sum_by-cons}
use Rattle.std.proofs.lemmas.List.Sorted.{sum_by-IsPermutation}
use Rattle.std.proofs.lemmas.List.Elements.{filter_map-append}
use borrow.Author.Differences.{up, down}
use Rattle.vortex_base.specs.declared.types.PType.TheVariants as ptype
use Rattle.vortex_base.specs.declared.pvalue.PValue.TheVariants as number
use Rattle.vortex_base.specs.declared.scalar_value.ScalarValue.{ScalarValue}
use Rattle.vortex_base.specs.declared.scalar_value.ScalarValue.TheVariants as value
use Rattle.vortex_base.specs.Data.Values.{whole, least, greatest}
use Rattle.vortex_stats.specs.declared.precision.Precision.{Precision}
use Rattle.vortex_stats.specs.declared.precision.Precision.TheVariants.{Exact, Inexact, Absent}
use Rattle.vortex_stats.specs.Sets.Claims.{present, sum_of, ClaimsSum}
use Rattle.vortex_stats.specs.Merging.Merges.{sum_added, sum_merged}
use Rattle.vortex_stats.specs.Precision.{inexact_of}

pub present-append : (xs ys : List (Option ScalarValue)) → present (xs ++ ys) ≡ present xs ++ present ys
present-append xs ys = filter_map-append (λ x. x) xs ys

sum_of-append : (vs ws : List ScalarValue) → sum_of (vs ++ ws) ≡ sum_of vs +ℤ sum_of ws
sum_of-append [] ws = omega (arith, ints)
sum_of-append (v ∷ vs) ws = omega (arith, ints, sum_of-append vs ws)

-- the sum of the values of both columns
pub sum_of-both : (xs ys : List (Option ScalarValue)) → sum_of (present (xs ++ ys)) ≡ sum_of (present xs) +ℤ sum_of (present ys)
sum_of-both xs ys = ap sum_of (present-append xs ys) ∙ sum_of-append (present xs) (present ys)

-- the sum, where it stays in its type, has what the sum has
added : (v : ScalarValue) (n : ℤ) (b : Bool) → whole v ≡ n → MatchOption (cond b (Some (Exact v)) None) ⊤ (λ r. ClaimsSum r n)
added v n true h = h
added v n false h = tt

sum_of_added : (v w : ScalarValue) → MatchOption (sum_added v w) ⊤ (λ r. ClaimsSum r (whole v +ℤ whole w))
sum_of_added (value.Primitive (number.I64 m)) (value.Primitive (number.I64 n)) =
    added (value.Primitive (number.I64 (m +ℤ n))) (m +ℤ n) (int_le (least ptype.I64) (m +ℤ n) && int_le (m +ℤ n) (greatest ptype.I64)) refl
sum_of_added (value.Primitive (number.U64 m)) (value.Primitive (number.U64 n)) =
    added (value.Primitive (number.U64 (m + n))) (pos (m + n)) (nat_lt (m + n) (2 ^ 64)) refl
sum_of_added v w = tt

-- the sum of true sums is true of both together
pub sum_of_merged : (p q : Precision ScalarValue) (m n : ℤ) → ClaimsSum p m → ClaimsSum q n → MatchOption (sum_merged p q) ⊤ (λ r. ClaimsSum r (m +ℤ n))
sum_of_merged (Exact v) (Exact w) m n p q =
    subst (λ i. MatchOption (sum_added v w) ⊤ (λ r. ClaimsSum r (i +ℤ n))) p
    (subst (λ j. MatchOption (sum_added v w) ⊤ (λ r. ClaimsSum r (whole v +ℤ j))) q (sum_of_added v w))
sum_of_merged (Exact v) (Inexact w) m n p q = tt
sum_of_merged (Exact v) Absent m n p q = tt
sum_of_merged (Inexact v) q m n p h = tt
sum_of_merged Absent q m n p h = tt

pub sum_of_inexact : (p : Precision ScalarValue) (n : ℤ) → ClaimsSum (inexact_of p) n
sum_of_inexact (Exact v) n = tt
sum_of_inexact (Inexact v) n = tt
sum_of_inexact Absent n = tt

-- ---- in another order

abbrev rise : Option ScalarValue → ℕ
rise None = 0
rise (Some v) = up (whole v)

abbrev fall : Option ScalarValue → ℕ
fall None = 0
fall (Some v) = down (whole v)

-- the sum by what the numbers above and below zero add up to
sum_by_parts : (xs : List (Option ScalarValue)) → up (sum_of (present xs)) + sum_by fall xs ≡ down (sum_of (present xs)) + sum_by rise xs
sum_by_parts [] = omega arith
sum_by_parts (None ∷ xs) = omega (arith, sum_by_parts xs, sum_by-cons fall None xs, sum_by-cons rise None xs)
sum_by_parts (Some v ∷ xs) = omega (arith, ints, sum_by_parts xs, sum_by-cons fall (Some v) xs, sum_by-cons rise (Some v) xs)

pub sum_of_reordered : (xs ys : List (Option ScalarValue)) → IsPermutation xs ys → sum_of (present ys) ≡ sum_of (present xs)
sum_of_reordered xs ys m = omega (arith, ints, sum_by_parts xs, sum_by_parts ys, sum_by-IsPermutation fall xs ys m, sum_by-IsPermutation rise xs ys m)
