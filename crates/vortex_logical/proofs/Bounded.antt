-- What a bound says of whole numbers.
use Rattle.std.proofs.Common.{◌≡◌, Bool, true, false, refl, sym, ◌∙◌, ap, arith}
use Rattle.std.specs.Prelude.{ℤ, ◌<ℤ◌, ◌≤ℤ◌, int_le, Option, Some, None, IfSome, if◌then◌else◌}
use Rattle.std.specs.Ordering.{int_cmp, is_le, is_ge}
use Rattle.std.specs.declared.cmp.Ordering.{Ordering}
use Rattle.std.specs.declared.cmp.Ordering.TheVariants.{Less, Equal, Greater}
use Rattle.std.proofs.lemmas.Int.{ints}
use Rattle.vortex_logical.specs.declared.bounds.Bound.{Bound}
use Rattle.vortex_logical.specs.declared.comparison.Comparison.{Comparison}
use Rattle.vortex_logical.specs.declared.comparison.Comparison.TheVariants as comparison
use Rattle.vortex_logical.specs.declared.exact.Exact.{Exact}
use Rattle.vortex_logical.specs.declared.logical_type.LogicalType.{LogicalType}
use Rattle.vortex_logical.specs.declared.cell_range.CellRange.{CellRange}
use Rattle.vortex_logical.specs.declared.point.Point.{Point}
use Rattle.vortex_logical.specs.Meaning.{fraction_cmp, fraction_of, holds}
use Rattle.vortex_logical.specs.Lowering.{IsIn}
use Rattle.vortex_logical.specs.LogicalTypes.{IsAt, range, value}
use Rattle.vortex_logical.specs.declared.point.Point.TheVariants.{Between}
use Rattle.vortex_logical.specs.Points.{point_cmp}
use Rattle.vortex_logical.proofs.Orders.{is_less, is_greater, cases_int, le_true, le_false}

pub ge_whole : (n q : ℤ) → is_ge (int_cmp n q) ≡ true → q ≤ℤ n
ge_whole n q h = cases_int n q (λ l. let e = ap is_ge (is_less n q l) in cc) (λ e. omega (arith, ints)) (λ g. omega (arith, ints))

pub le_whole : (n q : ℤ) → is_le (int_cmp n q) ≡ true → n ≤ℤ q
le_whole n q h = cases_int n q (λ l. omega (arith, ints)) (λ e. omega (arith, ints)) (λ g. let e = ap is_le (is_greater n q g) in cc)

pub eq_whole : (n q : ℤ) → int_cmp n q ≡ Equal → n ≡ q
eq_whole n q h = cases_int n q (λ l. let e = is_less n q l in cc) (λ e. e) (λ g. let e = is_greater n q g in cc)

abbrev side : Bool → Ordering
side t = if t then Less else Greater

above_by : (n q : ℤ) (t : Bool) → int_le n q ≡ t → is_ge (side t) ≡ true → q <ℤ n
above_by n q true e h = cc
above_by n q false e h = le_false n q e

below_by : (n q : ℤ) (t : Bool) → int_le n q ≡ t → is_le (side t) ≡ true → n ≤ℤ q
below_by n q true e h = le_true n q e
below_by n q false e h = cc

pub ge_between : (n q : ℤ) → is_ge (point_cmp n (Between q)) ≡ true → q <ℤ n
ge_between n q h = above_by n q (int_le n q) refl h

pub le_between : (n q : ℤ) → is_le (point_cmp n (Between q)) ≡ true → n ≤ℤ q
le_between n q h = below_by n q (int_le n q) refl h

-- ---- bounds of values from bounds of whole numbers

pub least_same : (t : LogicalType) (x : Exact) (p : Point) → IsAt t x p → (b : Option Bound) → IfSome b (λ b. (n : ℤ) → holds comparison.Gte (point_cmp n p) ≡ true → b.number ≤ℤ n)
    → IfSome b (λ b. (n : ℤ) → IsIn (range t) n → holds comparison.Gte (fraction_cmp (value t n) (fraction_of x)) ≡ true → b.number ≤ℤ n)
least_same t x p at None h = h
least_same t x p at (Some b) h = λ n i e. h n (sym (ap (holds comparison.Gte) (at n i)) ∙ e)

pub greatest_same : (t : LogicalType) (x : Exact) (p : Point) → IsAt t x p → (b : Option Bound) → IfSome b (λ b. (n : ℤ) → holds comparison.Lte (point_cmp n p) ≡ true → n ≤ℤ b.number)
    → IfSome b (λ b. (n : ℤ) → IsIn (range t) n → holds comparison.Lte (fraction_cmp (value t n) (fraction_of x)) ≡ true → n ≤ℤ b.number)
greatest_same t x p at None h = h
greatest_same t x p at (Some b) h = λ n i e. h n (sym (ap (holds comparison.Lte) (at n i)) ∙ e)

pub attained_same : (t : LogicalType) (x : Exact) (p : Point) (exact : Bool) → IsAt t x p → (b : Option Bound) → IfSome b (λ b. b.exact ≡ true → (exact ≡ true) × ((n : ℤ) → point_cmp n p ≡ Equal → n ≡ b.number))
    → IfSome b (λ b. b.exact ≡ true → (exact ≡ true) × ((n : ℤ) → IsIn (range t) n → fraction_cmp (value t n) (fraction_of x) ≡ Equal → n ≡ b.number))
attained_same t x p exact at None h = h
attained_same t x p exact at (Some b) h = λ e. ((h e).0, λ n i q. (h e).1 n (sym (at n i) ∙ q))

pub reached_same : (c : Comparison) (t : LogicalType) (x : Exact) (p : Point) → IsAt t x p → (b : Option Bound) → IfSome b (λ b. IsIn (range t) b.number) → IfSome b (λ b. holds c (point_cmp b.number p) ≡ true)
    → IfSome b (λ b. holds c (fraction_cmp (value t b.number) (fraction_of x)) ≡ true)
reached_same c t x p at None i h = h
reached_same c t x p at (Some b) i h = ap (holds c) (at b.number i) ∙ h

-- ---- what is told

-- a point that has cells on both sides, or at it, is within the type
pub whole_inside : (m n q : ℤ) (r : CellRange) → IsIn r m → IsIn r n → is_le (int_cmp m q) ≡ true → is_ge (int_cmp n q) ≡ true → IsIn r q
whole_inside m n q r h k p s =
    let a = le_whole m q p in
    let b = ge_whole n q s in
    (omega (arith, ints, h.0), omega (arith, ints, k.1))

pub between_inside : (m n q : ℤ) (r : CellRange) → IsIn r m → IsIn r n → is_le (point_cmp m (Between q)) ≡ true → is_ge (point_cmp n (Between q)) ≡ true → (r.least ≤ℤ q) × (q <ℤ r.greatest)
between_inside m n q r h k p s =
    let a = le_between m q p in
    let b = ge_between n q s in
    (omega (arith, ints, h.0), omega (arith, ints, k.1))
