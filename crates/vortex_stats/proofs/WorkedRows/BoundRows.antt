-- Worked rows of bounds: unions of points, and the order of a bound against a value.
use Rattle.std.proofs.Common.{refl}
use Rattle.std.specs.Prelude.{◌≡◌, ℕ, List, [], ◌∷◌, Option, Some, None, map}
use Rattle.std.specs.declared.cmp.Ordering.{Ordering}
use Rattle.std.specs.declared.cmp.Ordering.TheVariants.{Less, Equal, Greater}
use Rattle.std.specs.Ordering.{nat_cmp}
use Rattle.vortex_stats.specs.declared.precision.Precision.{Precision}
use Rattle.vortex_stats.specs.declared.precision.Precision.TheVariants.{Exact, Inexact, Absent}
use Rattle.vortex_stats.specs.Bounds.PointBound.{point_union}
use Rattle.vortex_stats.specs.Bounds.UpperBound.{upper_compared}
use Rattle.vortex_stats.specs.Bounds.LowerBound.{lower_compared}

-- ---- the union of a point with 5: with 3, with 5, with 8, with nothing known

abbrev of_exact : List (Precision ℕ)
of_exact = Exact 3 ∷ Exact 5 ∷ Exact 8 ∷ Absent ∷ []

abbrev of_inexact : List (Precision ℕ)
of_inexact = Inexact 3 ∷ Inexact 5 ∷ Inexact 8 ∷ Absent ∷ []

exact_with_exact : map (point_union nat_cmp (Exact 5)) of_exact ≡ Some (Exact 3) ∷ Some (Exact 5) ∷ Some (Exact 5) ∷ None ∷ []
exact_with_exact = refl

exact_with_inexact : map (point_union nat_cmp (Exact 5)) of_inexact ≡ Some (Inexact 3) ∷ Some (Inexact 5) ∷ Some (Inexact 5) ∷ None ∷ []
exact_with_inexact = refl

inexact_with_exact : map (point_union nat_cmp (Inexact 5)) of_exact ≡ Some (Inexact 3) ∷ Some (Inexact 5) ∷ Some (Inexact 5) ∷ None ∷ []
inexact_with_exact = refl

inexact_with_inexact : map (point_union nat_cmp (Inexact 5)) of_inexact ≡ Some (Inexact 3) ∷ Some (Inexact 5) ∷ Some (Inexact 5) ∷ None ∷ []
inexact_with_inexact = refl

absent_with_any : map (point_union nat_cmp Absent) (Exact 5 ∷ Inexact 5 ∷ Absent ∷ []) ≡ None ∷ None ∷ None ∷ []
absent_with_any = refl

-- ---- a bound of 10 against 9, 10 and 11

abbrev against : (ℕ → Option Ordering) → List (Option Ordering)
against compared = map compared (9 ∷ 10 ∷ 11 ∷ [])

exact_upper : against (upper_compared nat_cmp (Exact 10)) ≡ Some Greater ∷ Some Equal ∷ Some Less ∷ []
exact_upper = refl

inexact_upper : against (upper_compared nat_cmp (Inexact 10)) ≡ None ∷ Some Equal ∷ Some Less ∷ []
inexact_upper = refl

absent_upper : against (upper_compared nat_cmp Absent) ≡ None ∷ None ∷ None ∷ []
absent_upper = refl

exact_lower : against (lower_compared nat_cmp (Exact 10)) ≡ Some Greater ∷ Some Equal ∷ Some Less ∷ []
exact_lower = refl

inexact_lower : against (lower_compared nat_cmp (Inexact 10)) ≡ Some Greater ∷ Some Equal ∷ None ∷ []
inexact_lower = refl

absent_lower : against (lower_compared nat_cmp Absent) ≡ None ∷ None ∷ None ∷ []
absent_lower = refl
