-- What the cells of logical columns stand for, and the order of these values. No mapping occurs here.
use Rattle.std.specs.Prelude.{ℕ, ◌^◌, Bool, ℤ, pos, ◌*ℤ◌}
use Rattle.std.specs.Ordering.{int_cmp, is_eq, is_ne, is_lt, is_le, is_gt, is_ge}
use Rattle.std.specs.declared.cmp.Ordering.{Ordering}
use Rattle.vortex_logical.specs.declared.comparison.Comparison.{Comparison}
use Rattle.vortex_logical.specs.declared.comparison.Comparison.TheVariants as comparison
use Rattle.vortex_logical.specs.declared.exact.Exact.{Exact}
use Rattle.vortex_logical.specs.declared.exact.Step.{Step}

-- the comparison holds of two values of that order
abbrev pub holds : Comparison → Ordering → Bool
holds comparison.Eq o = is_eq o
holds comparison.NotEq o = is_ne o
holds comparison.Gt o = is_gt o
holds comparison.Gte o = is_ge o
holds comparison.Lt o = is_lt o
holds comparison.Lte o = is_le o

-- an exact number, as a fraction of a whole number and one above 0
pub record Fraction : Type 0 where
  pub top : ℤ
  pub under : ℕ

-- a / b and c / d compare as a * d and c * b
abbrev pub fraction_cmp : Fraction → Fraction → Ordering
fraction_cmp a b = int_cmp (a.top *ℤ pos b.under) (b.top *ℤ pos a.under)

-- a number divided by ten to the scale
abbrev pub over : ℤ → ℕ → Fraction
over top scale = record { top = top; under = 10 ^ scale }

abbrev pub fraction_of : Exact → Fraction
fraction_of x = over x.top x.scale

-- the number that n steps make
abbrev pub steps : Step → ℤ → Fraction
steps s n = record { top = n *ℤ pos s.each; under = 10 ^ s.scale }
