-- Comparisons with a point as comparisons with a whole number of a type.
use Rattle.std.specs.Prelude.{ℤ, Bool, int_lt, ◌≤ℤ◌, if◌then◌else◌}
use Rattle.std.specs.Ordering.{int_cmp}
use Rattle.vortex_logical.specs.declared.comparison.Comparison.{Comparison}
use Rattle.vortex_logical.specs.declared.comparison.Comparison.TheVariants as comparison
use Rattle.vortex_logical.specs.declared.point.Point.{Point}
use Rattle.vortex_logical.specs.declared.point.Point.TheVariants.{Whole, Between}
use Rattle.vortex_logical.specs.declared.cell_range.CellRange.{CellRange}
use Rattle.vortex_logical.specs.declared.lower.CellTest.{CellTest}
use Rattle.vortex_logical.specs.Meaning.{holds}

abbrev pub IsIn : CellRange → ℤ → Type 0
IsIn r n = (r.least ≤ℤ n) × (n ≤ℤ r.greatest)

abbrev pub test_holds : ℤ → CellTest → Bool
test_holds n t = holds t.comparison (int_cmp n t.number)

-- a comparison with a number below the least, as one with the least
abbrev pub with_least : Comparison → Comparison
with_least comparison.Eq = comparison.Lt
with_least comparison.NotEq = comparison.Gte
with_least comparison.Gt = comparison.Gte
with_least comparison.Gte = comparison.Gte
with_least comparison.Lt = comparison.Lt
with_least comparison.Lte = comparison.Lt

-- a comparison with a number above the greatest, as one with the greatest
abbrev pub with_greatest : Comparison → Comparison
with_greatest comparison.Eq = comparison.Gt
with_greatest comparison.NotEq = comparison.Lte
with_greatest comparison.Gt = comparison.Gt
with_greatest comparison.Gte = comparison.Gt
with_greatest comparison.Lt = comparison.Lte
with_greatest comparison.Lte = comparison.Lte

abbrev pub tested : Comparison → ℤ → CellTest
tested c n = record { comparison = c; number = n }

abbrev pub clamped_by : Comparison → ℤ → CellRange → Bool → Bool → CellTest
clamped_by c q r low high = if low then tested (with_least c) r.least else (if high then tested (with_greatest c) r.greatest else tested c q)

abbrev pub clamped : Comparison → ℤ → CellRange → CellTest
clamped c q r = clamped_by c q r (int_lt q r.least) (int_lt r.greatest q)

abbrev pub between : Comparison → ℤ → CellRange → CellTest
between comparison.Eq q r = tested comparison.Gt r.greatest
between comparison.NotEq q r = tested comparison.Lte r.greatest
between comparison.Gt q r = clamped comparison.Gt q r
between comparison.Gte q r = clamped comparison.Gt q r
between comparison.Lt q r = clamped comparison.Lte q r
between comparison.Lte q r = clamped comparison.Lte q r

abbrev pub lowered : Comparison → Point → CellRange → CellTest
lowered c (Whole q) r = clamped c q r
lowered c (Between q) r = between c q r
