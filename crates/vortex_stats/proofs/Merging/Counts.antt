-- True counts: of two columns together, and of one column twice.
use Rattle.std.proofs.Common.{◌≡◌, ℕ, ◌+◌, ◌≤◌, Bool, true, false, cond, List, ◌++◌, Option, Some, None, refl, sym, subst, arith}
use Rattle.std.specs.Prelude.{MatchOption, nat_lt, ◌^◌, is_none, ⊤}
use Rattle.std.specs.declared.cmp.Ordering.TheVariants.{Less, Equal, Greater}
use Rattle.std.specs.Ordering.{is_lt, is_eq, ordering_then}
use Rattle.std.specs.Cmp.{tied_itself}
use Rattle.std.proofs.lemmas.Bool.{le-ltb}
use Rattle.std.proofs.lemmas.List.Sums.{sum_by-append}
use Rattle.vortex_base.specs.declared.scalar_value.ScalarValue.{ScalarValue}
use Rattle.vortex_base.specs.Data.Values.{value_cmp}
use Rattle.vortex_stats.specs.declared.precision.Precision.{Precision}
use Rattle.vortex_stats.specs.declared.precision.Precision.TheVariants.{Exact, Inexact, Absent}
use Rattle.vortex_stats.specs.Sets.Claims.{count_value, ClaimsCount, null_count}
use Rattle.vortex_stats.specs.Merging.Merges.{count_added, count_merged}
use Rattle.vortex_stats.specs.declared.bound.IntersectionResult.{IntersectionResult}
use Rattle.vortex_stats.specs.declared.bound.IntersectionResult.TheVariants.{Value, Empty}
use Rattle.vortex_stats.specs.Bounds.Bound.{MatchIntersection}
use Rattle.vortex_stats.specs.Precision.{inexact_of}
use Rattle.vortex_stats.specs.Bounds.UpperBound.{upper_intersection}
use Rattle.vortex_stats.proofs.Bounds.ValueOrder.{value_total}

pub null_count-append : (xs ys : List (Option ScalarValue)) → null_count (xs ++ ys) ≡ null_count xs + null_count ys
null_count-append xs ys = sum_by-append (λ x. cond (is_none x) 1 0) xs ys

-- the sum, where it is small enough, has what the sum has
added : (case : ScalarValue → Precision ScalarValue) (i j k : ℕ) (b : Bool) → ClaimsCount (case (count_value (i + j))) k
    → MatchOption (cond b (Some (case (count_value (i + j)))) None) ⊤ (λ r. ClaimsCount r k)
added case i j k true h = h
added case i j k false h = tt

-- the sum of true counts is true of both together
pub count_of_merged : (p q : Precision ScalarValue) (m n : ℕ) → ClaimsCount p m → ClaimsCount q n → MatchOption (count_merged p q) ⊤ (λ r. ClaimsCount r (m + n))
count_of_merged (Exact v) (Exact w) m n p q =
    subst (λ u. MatchOption (count_added Exact u w) ⊤ (λ r. ClaimsCount r (m + n))) (sym p)
    (subst (λ u. MatchOption (count_added Exact (count_value m) u) ⊤ (λ r. ClaimsCount r (m + n))) (sym q)
    (added Exact m n (m + n) (nat_lt (m + n) (2 ^ 64)) refl))
count_of_merged (Exact v) (Inexact w) m n p q =
    subst (λ u. MatchOption (count_added Inexact u w) ⊤ (λ r. ClaimsCount r (m + n))) (sym p)
    (subst (λ u. MatchOption (count_added Inexact (count_value m) u) ⊤ (λ r. ClaimsCount r (m + n))) (sym q.1)
    (added Inexact m q.0 (m + n) (nat_lt (m + q.0) (2 ^ 64)) (m + q.0, refl, omega (arith, q.2))))
count_of_merged (Inexact v) (Exact w) m n p q =
    subst (λ u. MatchOption (count_added Inexact u w) ⊤ (λ r. ClaimsCount r (m + n))) (sym p.1)
    (subst (λ u. MatchOption (count_added Inexact (count_value p.0) u) ⊤ (λ r. ClaimsCount r (m + n))) (sym q)
    (added Inexact p.0 n (m + n) (nat_lt (p.0 + n) (2 ^ 64)) (p.0 + n, refl, omega (arith, p.2))))
count_of_merged (Inexact v) (Inexact w) m n p q =
    subst (λ u. MatchOption (count_added Inexact u w) ⊤ (λ r. ClaimsCount r (m + n))) (sym p.1)
    (subst (λ u. MatchOption (count_added Inexact (count_value p.0) u) ⊤ (λ r. ClaimsCount r (m + n))) (sym q.1)
    (added Inexact p.0 q.0 (m + n) (nat_lt (p.0 + q.0) (2 ^ 64)) (p.0 + q.0, refl, omega (arith, p.2, q.2))))
count_of_merged (Exact v) Absent m n p q = tt
count_of_merged (Inexact v) Absent m n p q = tt
count_of_merged Absent q m n p h = tt

pub count_of_inexact : (p : Precision ScalarValue) (n : ℕ) → ClaimsCount p n → ClaimsCount (inexact_of p) n
count_of_inexact (Exact v) n h = (n, h, omega arith)
count_of_inexact (Inexact v) n h = h
count_of_inexact Absent n h = tt

-- ---- two true counts of one column

above_step : (b c : Bool) → b ≡ false → is_lt (ordering_then (cond b Less (cond c Greater Equal)) Equal) ≡ false
above_step true true h = absurd (cc)
above_step true false h = absurd (cc)
above_step false true h = refl
above_step false false h = refl

-- a count that is not less compares so
not_below : (m n : ℕ) → n ≤ m → is_lt (value_cmp (count_value m) (count_value n)) ≡ false
not_below m n h = above_step (nat_lt m n) (nat_lt n m) (le-ltb m n h)

abbrev HasCount : ℕ → Option (IntersectionResult (Precision ScalarValue)) → Type 0
HasCount n o = MatchOption o ⊤ (λ m. MatchIntersection m ⊥ (λ r. ClaimsCount r n))

within : (v w : ScalarValue) (n : ℕ) → ClaimsCount (Exact v) n → ClaimsCount (Inexact w) n → HasCount n (Some (cond (is_lt (value_cmp w v)) Empty (Value (Exact v))))
within v w n p q =
    let below : is_lt (value_cmp w v) ≡ false = rw (p, q.1) (not_below q.0 n q.2) in
    subst (λ b. HasCount n (Some (cond b Empty (Value (Exact v))))) (sym below) p

either_count : (v w : ScalarValue) (n : ℕ) (b : Bool) → ClaimsCount (Inexact v) n → ClaimsCount (Inexact w) n → ClaimsCount (Inexact (cond b w v)) n
either_count v w n true p q = q
either_count v w n false p q = p

-- there is an intersection, and it is true
pub count_of_intersection : (p q : Precision ScalarValue) (n : ℕ) → ClaimsCount p n → ClaimsCount q n
    → MatchOption (upper_intersection value_cmp p q) ⊤ (λ m. MatchIntersection m ⊥ (λ r. ClaimsCount r n))
count_of_intersection (Exact v) (Exact w) n p q =
    let tied : value_cmp v w ≡ Equal = rw (p, q) (tied_itself value_total (count_value n)) in
    subst (λ c. HasCount n (Some (cond (is_eq c) (Value (Exact v)) Empty))) (sym tied) p
count_of_intersection (Exact v) (Inexact w) n p q = within v w n p q
count_of_intersection (Exact v) Absent n p q = tt
count_of_intersection (Inexact v) (Exact w) n p q = within w v n q p
count_of_intersection (Inexact v) (Inexact w) n p q = either_count v w n (is_lt (value_cmp w v)) p q
count_of_intersection (Inexact v) Absent n p q = tt
count_of_intersection Absent q n p h = tt
