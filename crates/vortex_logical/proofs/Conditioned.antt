-- What is said of each whole number is said of each optional cell.
use Rattle.std.proofs.Common.{◌≡◌, ◌-◌, ◌^◌, ℤ, Bool, true, false, Option, Some, None, List, [], ◌∷◌, ◌++◌, refl, ap, ◌∙◌, arith, FitsSigned}
use Rattle.std.specs.Prelude.{pos, negsuc, ◌≤ℤ◌, nat_lt, if◌then◌else◌}
use Rattle.std.specs.Int.{w128}
use Rattle.std.proofs.lemmas.Int.{ints}
use Rattle.vortex_logical.specs.declared.comparison.Comparison.TheVariants as comparison
use Rattle.vortex_logical.specs.declared.logical_type.LogicalType.TheVariants.{Date, Time, Timestamp, TimestampTz, Decimal}
use Rattle.vortex_logical.specs.declared.comparison.Comparison.{Comparison}
use Rattle.vortex_logical.specs.declared.exact.Exact.{Exact}
use Rattle.vortex_logical.specs.declared.logical_type.LogicalType.{LogicalType}
use Rattle.vortex_logical.specs.declared.lower.CellTest.{CellTest}
use Rattle.vortex_logical.specs.LogicalTypes.{range, bits_64, digits_38, IsSame}
use Rattle.vortex_logical.specs.Lowering.{IsIn}
use Rattle.vortex_logical.specs.Conditions.{compared, tested, IsCell, AreSame, among, any_tested, either}

pub cell_same : (t : LogicalType) (c : Comparison) (x : Exact) (r : CellTest) → IsSame t c x r → (cell : Option ℤ) → IsCell t cell → compared t c cell x ≡ tested cell r
cell_same t c x r same None h = refl
cell_same t c x r same (Some n) h = ap Some (same n h)

pub same_more : (t : LogicalType) (xs : List Exact) (rs : List CellTest) (x : Exact) (r : CellTest) → AreSame t xs rs → IsSame t comparison.Eq x r → AreSame t (xs ++ (x ∷ [])) (rs ++ (r ∷ []))
same_more t [] [] x r h k = (k, tt)
same_more t [] (y ∷ ys) x r h k = absurd h
same_more t (y ∷ ys) [] x r h k = absurd h
same_more t (y ∷ ys) (s ∷ ss) x r h k = (h.0, same_more t ys ss x r h.1 k)

pub among_same : (t : LogicalType) (xs : List Exact) (rs : List CellTest) → AreSame t xs rs → (cell : Option ℤ) → IsCell t cell → among t cell xs ≡ any_tested cell rs
among_same t [] [] h cell i = refl
among_same t [] (r ∷ rs) h cell i = absurd h
among_same t (x ∷ xs) [] h cell i = absurd h
among_same t (x ∷ xs) (r ∷ rs) h cell i =
    ap (λ (p : Option Bool). either p (among t cell xs)) (cell_same t comparison.Eq x r h.0 cell i) ∙ ap (either (tested cell r)) (among_same t xs rs h.1 cell i)

-- ---- cells of 128 bits

fits : (n : ℤ) → negsuc (2 ^ 127 - 1) ≤ℤ n → n ≤ℤ pos (2 ^ 127 - 1) → FitsSigned w128 n
fits (pos n) h k = record { sfits = omega (arith, ints) }
fits (negsuc n) h k = record { sfits = omega (arith, ints) }

fits_decimal : (b : Bool) (n : ℤ) → IsIn (if b then digits_38 else bits_64) n → FitsSigned w128 n
fits_decimal true n h = fits n (omega (arith, ints, h.0)) (omega (arith, ints, h.1))
fits_decimal false n h = fits n (omega (arith, ints, h.0)) (omega (arith, ints, h.1))

pub fits_cell : (t : LogicalType) (n : ℤ) → IsIn (range t) n → FitsSigned w128 n
fits_cell Date n h = fits n (omega (arith, ints, h.0)) (omega (arith, ints, h.1))
fits_cell (Time u) n h = fits n (omega (arith, ints, h.0)) (omega (arith, ints, h.1))
fits_cell (Timestamp u) n h = fits n (omega (arith, ints, h.0)) (omega (arith, ints, h.1))
fits_cell (TimestampTz u) n h = fits n (omega (arith, ints, h.0)) (omega (arith, ints, h.1))
fits_cell (Decimal d) n h = fits_decimal (nat_lt 18 d.precision) n h
