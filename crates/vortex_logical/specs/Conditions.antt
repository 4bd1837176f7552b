-- Conditions on the optional cells of a column of numbers, in SQL's three truths.
use Rattle.std.specs.Prelude.{ℤ, Bool, true, false, Option, Some, None, List, [], ◌∷◌, option_map}
use Rattle.vortex_logical.specs.declared.comparison.Comparison.{Comparison}
use Rattle.vortex_logical.specs.declared.comparison.Comparison.TheVariants as comparison
use Rattle.vortex_logical.specs.declared.exact.Exact.{Exact}
use Rattle.vortex_logical.specs.declared.logical_type.LogicalType.{LogicalType}
use Rattle.vortex_logical.specs.declared.lower.CellTest.{CellTest}
use Rattle.vortex_logical.specs.Meaning.{holds, fraction_cmp, fraction_of}
use Rattle.vortex_logical.specs.LogicalTypes.{range, value, IsSame}
use Rattle.vortex_logical.specs.Lowering.{IsIn, test_holds}

abbrev pub both : Option Bool → Option Bool → Option Bool
both (Some true) q = q
both (Some false) q = Some false
both None (Some false) = Some false
both None q = None

abbrev pub either : Option Bool → Option Bool → Option Bool
either (Some true) q = Some true
either (Some false) q = q
either None (Some true) = Some true
either None q = None

-- a cell is null or holds a whole number of the type
abbrev pub IsCell : LogicalType → Option ℤ → Type 0
IsCell t None = Unit {0}
IsCell t (Some n) = IsIn (range t) n

-- ---- of values

abbrev pub compared : LogicalType → Comparison → Option ℤ → Exact → Option Bool
compared t c cell x = option_map (λ n. holds c (fraction_cmp (value t n) (fraction_of x))) cell

abbrev pub within : LogicalType → Option ℤ → Exact → Exact → Option Bool
within t cell low high = both (compared t comparison.Gte cell low) (compared t comparison.Lte cell high)

abbrev pub among : LogicalType → Option ℤ → List Exact → Option Bool
among t cell [] = Some false
among t cell (x ∷ xs) = either (compared t comparison.Eq cell x) (among t cell xs)

-- ---- of whole numbers

abbrev pub tested : Option ℤ → CellTest → Option Bool
tested cell t = option_map (λ n. test_holds n t) cell

abbrev pub any_tested : Option ℤ → List CellTest → Option Bool
any_tested cell [] = Some false
any_tested cell (t ∷ ts) = either (tested cell t) (any_tested cell ts)

-- each test says of each cell that it is equal to the value at its place
abbrev pub AreSame : LogicalType → List Exact → List CellTest → Type 0
AreSame t [] [] = Unit {0}
AreSame t [] (r ∷ rs) = ⊥
AreSame t (x ∷ xs) [] = ⊥
AreSame t (x ∷ xs) (r ∷ rs) = IsSame t comparison.Eq x r × AreSame t xs rs
