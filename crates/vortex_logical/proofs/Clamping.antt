-- A comparison with a point is the one with a whole number of the type.
use Rattle.std.proofs.Common.{◌≡◌, Bool, true, false, refl, sym, ◌∙◌, ap, arith}
use Rattle.std.specs.Prelude.{ℤ, ◌<ℤ◌, ◌≤ℤ◌, int_lt, int_le, if◌then◌else◌}
use Rattle.std.specs.Ordering.{int_cmp, is_lt, is_gt}
use Rattle.std.specs.declared.cmp.Ordering.{Ordering}
use Rattle.std.specs.declared.cmp.Ordering.TheVariants.{Less, Equal, Greater}
use Rattle.std.proofs.lemmas.Int.{ints}
use Rattle.vortex_logical.specs.declared.comparison.Comparison.{Comparison}
use Rattle.vortex_logical.specs.declared.comparison.Comparison.TheVariants as comparison
use Rattle.vortex_logical.specs.declared.point.Point.{Point}
use Rattle.vortex_logical.specs.declared.point.Point.TheVariants.{Whole, Between}
use Rattle.vortex_logical.specs.declared.cell_range.CellRange.{CellRange}
use Rattle.vortex_logical.specs.Meaning.{holds}
use Rattle.vortex_logical.specs.Points.{point_cmp}
use Rattle.vortex_logical.specs.Lowering.{IsIn, test_holds, with_least, with_greatest, clamped_by, clamped, between, lowered}
use Rattle.vortex_logical.proofs.Orders.{is_less, is_greater, is_equal, cases_int, le_true, le_false}

least_holds : (c : Comparison) (o : Ordering) → is_lt o ≡ false → holds (with_least c) o ≡ holds c Greater
least_holds c Less h = cc
least_holds comparison.Eq Equal h = refl
least_holds comparison.Eq Greater h = refl
least_holds comparison.NotEq Equal h = refl
least_holds comparison.NotEq Greater h = refl
least_holds comparison.Gt Equal h = refl
least_holds comparison.Gt Greater h = refl
least_holds comparison.Gte Equal h = refl
least_holds comparison.Gte Greater h = refl
least_holds comparison.Lt Equal h = refl
least_holds comparison.Lt Greater h = refl
least_holds comparison.Lte Equal h = refl
least_holds comparison.Lte Greater h = refl

greatest_holds : (c : Comparison) (o : Ordering) → is_gt o ≡ false → holds (with_greatest c) o ≡ holds c Less
greatest_holds c Greater h = cc
greatest_holds comparison.Eq Equal h = refl
greatest_holds comparison.Eq Less h = refl
greatest_holds comparison.NotEq Equal h = refl
greatest_holds comparison.NotEq Less h = refl
greatest_holds comparison.Gt Equal h = refl
greatest_holds comparison.Gt Less h = refl
greatest_holds comparison.Gte Equal h = refl
greatest_holds comparison.Gte Less h = refl
greatest_holds comparison.Lt Equal h = refl
greatest_holds comparison.Lt Less h = refl
greatest_holds comparison.Lte Equal h = refl
greatest_holds comparison.Lte Less h = refl

not_less : (x y : ℤ) → y ≤ℤ x → is_lt (int_cmp x y) ≡ false
not_less x y h = cases_int x y (λ l. absurd (omega (arith, ints))) (λ e. ap is_lt (is_equal x y e)) (λ g. ap is_lt (is_greater x y g))

not_greater : (x y : ℤ) → x ≤ℤ y → is_gt (int_cmp x y) ≡ false
not_greater x y h = cases_int x y (λ l. ap is_gt (is_less x y l)) (λ e. ap is_gt (is_equal x y e)) (λ g. absurd (omega (arith, ints)))

lt_true : (x y : ℤ) → int_lt x y ≡ true → x <ℤ y
lt_true x y h = grind (arith, ints)

lt_false : (x y : ℤ) → int_lt x y ≡ false → y ≤ℤ x
lt_false x y h = grind (arith, ints)

clamped_same : (c : Comparison) (q n : ℤ) (r : CellRange) → IsIn r n → (low high : Bool) → int_lt q r.least ≡ low → int_lt r.greatest q ≡ high
    → holds c (int_cmp n q) ≡ test_holds n (clamped_by c q r low high)
clamped_same c q n r h true high e f =
    let l = lt_true q r.least e in
    let g : q <ℤ n = omega (arith, ints, h.0) in
    ap (holds c) (is_greater n q g) ∙ sym (least_holds c (int_cmp n r.least) (not_less n r.least h.0))
clamped_same c q n r h false true e f =
    let l = lt_true r.greatest q f in
    let g : n <ℤ q = omega (arith, ints, h.1) in
    ap (holds c) (is_less n q g) ∙ sym (greatest_holds c (int_cmp n r.greatest) (not_greater n r.greatest h.1))
clamped_same c q n r h false false e f = refl

clamped_is : (c : Comparison) (q n : ℤ) (r : CellRange) → IsIn r n → holds c (int_cmp n q) ≡ test_holds n (clamped c q r)
clamped_is c q n r h = clamped_same c q n r h (int_lt q r.least) (int_lt r.greatest q) refl refl

-- ---- between two numbers

abbrev side : Bool → Ordering
side t = if t then Less else Greater

above_by : (q n : ℤ) (t : Bool) → int_le n q ≡ t → holds comparison.Gt (side t) ≡ holds comparison.Gt (int_cmp n q)
above_by q n true e = sym (not_greater n q (le_true n q e))
above_by q n false e = sym (ap is_gt (is_greater n q (le_false n q e)))

up_to_by : (q n : ℤ) (t : Bool) → int_le n q ≡ t → holds comparison.Lte (side t) ≡ holds comparison.Lte (int_cmp n q)
up_to_by q n true e = cases_int n q (λ l. sym (ap (holds comparison.Lte) (is_less n q l))) (λ w. sym (ap (holds comparison.Lte) (is_equal n q w))) (λ g. let w = le_true n q e in absurd (omega (arith, ints)))
up_to_by q n false e = sym (ap (holds comparison.Lte) (is_greater n q (le_false n q e)))

sides : (t : Bool) → (holds comparison.Eq (side t) ≡ false) × (holds comparison.NotEq (side t) ≡ true) × (holds comparison.Gte (side t) ≡ holds comparison.Gt (side t)) × (holds comparison.Lt (side t) ≡ holds comparison.Lte (side t))
sides true = (refl, refl, refl, refl)
sides false = (refl, refl, refl, refl)

at_most : (x y : ℤ) → x ≤ℤ y → holds comparison.Lte (int_cmp x y) ≡ true
at_most x y h = cases_int x y (λ l. ap (holds comparison.Lte) (is_less x y l)) (λ e. ap (holds comparison.Lte) (is_equal x y e)) (λ g. absurd (omega (arith, ints)))

between_is : (c : Comparison) (q n : ℤ) (r : CellRange) → IsIn r n → holds c (side (int_le n q)) ≡ test_holds n (between c q r)
between_is comparison.Eq q n r h = (sides (int_le n q)).0 ∙ sym (not_greater n r.greatest h.1)
between_is comparison.NotEq q n r h = (sides (int_le n q)).1 ∙ sym (at_most n r.greatest h.1)
between_is comparison.Gt q n r h = above_by q n (int_le n q) refl ∙ clamped_is comparison.Gt q n r h
between_is comparison.Gte q n r h = (sides (int_le n q)).2 ∙ above_by q n (int_le n q) refl ∙ clamped_is comparison.Gt q n r h
between_is comparison.Lt q n r h = (sides (int_le n q)).3 ∙ up_to_by q n (int_le n q) refl ∙ clamped_is comparison.Lte q n r h
between_is comparison.Lte q n r h = up_to_by q n (int_le n q) refl ∙ clamped_is comparison.Lte q n r h

pub lowered_is : (c : Comparison) (p : Point) (n : ℤ) (r : CellRange) → IsIn r n → holds c (point_cmp n p) ≡ test_holds n (lowered c p r)
lowered_is c (Whole q) n r h = clamped_is c q n r h
lowered_is c (Between q) n r h = between_is c q n r h

-- ---- the number is one of the type

refl_le : (x : ℤ) → x ≤ℤ x
refl_le x = omega (arith, ints)

clamped_in_by : (c : Comparison) (q : ℤ) (r : CellRange) → r.least ≤ℤ r.greatest → (low high : Bool) → int_lt q r.least ≡ low → int_lt r.greatest q ≡ high → IsIn r (clamped_by c q r low high).number
clamped_in_by c q r o true high e f = (refl_le r.least, o)
clamped_in_by c q r o false true e f = (o, refl_le r.greatest)
clamped_in_by c q r o false false e f = (lt_false q r.least e, lt_false r.greatest q f)

clamped_in : (c : Comparison) (q : ℤ) (r : CellRange) → r.least ≤ℤ r.greatest → IsIn r (clamped c q r).number
clamped_in c q r o = clamped_in_by c q r o (int_lt q r.least) (int_lt r.greatest q) refl refl

between_in : (c : Comparison) (q : ℤ) (r : CellRange) → r.least ≤ℤ r.greatest → IsIn r (between c q r).number
between_in comparison.Eq q r o = (o, refl_le r.greatest)
between_in comparison.NotEq q r o = (o, refl_le r.greatest)
between_in comparison.Gt q r o = clamped_in comparison.Gt q r o
between_in comparison.Gte q r o = clamped_in comparison.Gt q r o
between_in comparison.Lt q r o = clamped_in comparison.Lte q r o
between_in comparison.Lte q r o = clamped_in comparison.Lte q r o

pub lowered_in : (c : Comparison) (p : Point) (r : CellRange) → r.least ≤ℤ r.greatest → IsIn r (lowered c p r).number
lowered_in c (Whole q) r o = clamped_in c q r o
lowered_in c (Between q) r o = between_in c q r o
