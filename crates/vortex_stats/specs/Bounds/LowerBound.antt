-- Lower bounds: what they allow, their unions and intersections, and their order against a value.
use Rattle.std.specs.Prelude.{◌≡◌, Option, Some, None, if◌then◌else◌, ⊤}
use Rattle.std.specs.declared.cmp.Ordering.{Ordering}
use Rattle.std.specs.declared.cmp.Ordering.TheVariants.{Equal}
use Rattle.std.specs.Ordering.{is_lt, is_eq}
use Rattle.std.specs.Cmp.{IsTotalOrder, tied_back}
use Rattle.vortex_stats.specs.declared.precision.Precision.{Precision}
use Rattle.vortex_stats.specs.declared.precision.Precision.TheVariants.{Exact, Inexact, Absent}
use Rattle.vortex_stats.specs.declared.bound.IntersectionResult.{IntersectionResult}
use Rattle.vortex_stats.specs.declared.bound.IntersectionResult.TheVariants.{Value, Empty}
use Rattle.vortex_stats.specs.Bounds.Bound.{TiesAllowed, IsUnion, IsIntersection, IsTightIntersection}
pub use Rattle.vortex_stats.specs.Bounds.Order.{greater, lesser, AtMost}
use Rattle.vortex_stats.specs.Bounds.Order.{reversed_total}
use Rattle.vortex_stats.specs.Bounds.UpperBound.{upper_union-law, upper_intersection-law, upper_intersection-tight}

module _ {T : Type 0} (R : T → T → Ordering) where
  -- Exact(v) allows what compares equal to v, Inexact(v) what is at least v, Absent everything
  abbrev pub lower_allows : Precision T → T → Type 0
  lower_allows (Exact v) z = R z v ≡ Equal
  lower_allows (Inexact v) z = AtMost R v z
  lower_allows Absent z = ⊤

  -- the lesser, and the exact one where the two are of different precision and compare equal
  abbrev pub lower_union : Precision T → Precision T → Option (Precision T)
  lower_union (Exact a) (Exact b) = Some (Exact (lesser R a b))
  lower_union (Exact e) (Inexact i) = Some (if is_lt (R i e) then Inexact i else Exact e)
  lower_union (Exact e) Absent = None
  lower_union (Inexact i) (Exact e) = Some (if is_lt (R i e) then Inexact i else Exact e)
  lower_union (Inexact a) (Inexact b) = Some (Inexact (lesser R a b))
  lower_union (Inexact i) Absent = None
  lower_union Absent b = None

  -- an exact one that both allow; the greater of two inexact ones
  abbrev pub lower_intersection : Precision T → Precision T → Option (IntersectionResult (Precision T))
  lower_intersection (Exact a) (Exact b) = Some (if is_eq (R b a) then Value (Exact a) else Empty)
  lower_intersection (Exact e) (Inexact i) = Some (if is_lt (R e i) then Empty else Value (Exact e))
  lower_intersection (Exact e) Absent = None
  lower_intersection (Inexact i) (Exact e) = Some (if is_lt (R e i) then Empty else Value (Exact e))
  lower_intersection (Inexact a) (Inexact b) = Some (Value (Inexact (greater R a b)))
  lower_intersection (Inexact i) Absent = None
  lower_intersection Absent b = None

  -- the order of the bound's value and z; of an inexact one nothing is known where its value is less
  abbrev pub lower_compared : Precision T → T → Option Ordering
  lower_compared (Exact v) z = Some (R v z)
  lower_compared (Inexact v) z = if is_lt (R v z) then None else Some (R v z)
  lower_compared Absent z = None

-- each table is that of upper bounds under the reversed order, and so are the laws
module _ {T : Type 0} {R : T → T → Ordering} (o : IsTotalOrder R) where
  pub lower_allows-tied : TiesAllowed R (lower_allows R)
  lower_allows-tied = record { exact = λ v z. (λ e. tied_back o z v e, λ e. tied_back o v z e); absent = λ z. tt }

  pub lower_union-law : IsUnion (lower_allows R) (lesser R) (lower_union R)
  lower_union-law = upper_union-law (reversed_total o)

  pub lower_intersection-tight : IsTightIntersection (lower_allows R) (lower_intersection R)
  lower_intersection-tight = upper_intersection-tight (reversed_total o)

  pub lower_intersection-law : IsIntersection (lower_allows R) (lower_intersection R)
  lower_intersection-law = upper_intersection-law (reversed_total o)
