-- The statistics of one array, from two sets of it.
use Rattle.std.specs.Prelude.{◌≡◌, List, [], ◌∷◌, Option, Some, None, Result, Ok, Err}
use Rattle.vortex_base.specs.declared.scalar_value.ScalarValue.{ScalarValue}
use Rattle.vortex_base.specs.Data.Values.{value_cmp}
use Rattle.vortex_stats.specs.declared.bound.IntersectionResult.{IntersectionResult}
use Rattle.vortex_stats.specs.declared.bound.IntersectionResult.TheVariants.{Value, Empty}
use Rattle.vortex_stats.specs.declared.error.StatsError.{StatsError}
use Rattle.vortex_stats.specs.declared.error.StatsError.TheVariants as errors
use Rattle.vortex_stats.specs.declared.precision.Precision.{Precision}
use Rattle.vortex_stats.specs.declared.precision.Precision.TheVariants.{Absent}
use Rattle.vortex_stats.specs.declared.stat.Stat.{Stat}
use Rattle.vortex_stats.specs.declared.stat.Stat.TheVariants.{IsConstant, IsSorted, IsStrictSorted, Max, Min, Sum, NullCount, UncompressedSizeInBytes, NaNCount}
use Rattle.vortex_stats.specs.Sets.Entries.{entry_value, with_entry, without_entry}
use Rattle.vortex_stats.specs.Bounds.LowerBound.{lower_intersection}
use Rattle.vortex_stats.specs.Bounds.PointBound.{point_intersection}
use Rattle.vortex_stats.specs.Bounds.UpperBound.{upper_intersection}

-- the intersection of two values under the statistic's bound
abbrev pub intersection_of : Stat → Precision ScalarValue → Precision ScalarValue → Option (IntersectionResult (Precision ScalarValue))
intersection_of IsConstant p q = point_intersection value_cmp p q
intersection_of IsSorted p q = point_intersection value_cmp p q
intersection_of IsStrictSorted p q = point_intersection value_cmp p q
intersection_of Max p q = upper_intersection value_cmp p q
intersection_of Min p q = lower_intersection value_cmp p q
intersection_of Sum p q = point_intersection value_cmp p q
intersection_of NullCount p q = upper_intersection value_cmp p q
intersection_of UncompressedSizeInBytes p q = upper_intersection value_cmp p q
intersection_of NaNCount p q = upper_intersection value_cmp p q

-- the entries with the intersection in place; none where the two values contradict each other
abbrev pub met : Stat → Option (IntersectionResult (Precision ScalarValue)) → List (Stat × Precision ScalarValue) → Option (List (Stat × Precision ScalarValue))
met s (Some (Value p)) es = Some (with_entry s p es)
met s (Some Empty) es = None
met s None es = Some es

-- the entries after one entry of the other set, by the left value and the other's; none where they contradict each other
abbrev pub combined_by : Stat → (left other : Precision ScalarValue) → List (Stat × Precision ScalarValue) → Option (List (Stat × Precision ScalarValue))
combined_by s Absent Absent es = Some (without_entry s es)
combined_by s Absent q es = Some (with_entry s q es)
combined_by s p Absent es = Some es
combined_by s p q es = met s (intersection_of s p q) es

abbrev pub combined_entry : List (Stat × Precision ScalarValue) → Stat × Precision ScalarValue → Option (List (Stat × Precision ScalarValue))
combined_entry es e = combined_by e.0 (entry_value e.0 es) e.1 es

-- the entries that a combination leaves, and the statistic at which it stopped, if two values contradict each other there
pub record Outcome : Type 0 where
  pub entries : List (Stat × Precision ScalarValue)
  pub conflict : Option Stat

abbrev pub or_conflict : Option (List (Stat × Precision ScalarValue)) → List (Stat × Precision ScalarValue) → Stat → (List (Stat × Precision ScalarValue) → Outcome) → Outcome
or_conflict None es s rest = record { entries = es; conflict = Some s }
or_conflict (Some new) es s rest = rest new

-- the other set's entries in order, each combined with what the earlier ones left
abbrev pub combined : (left other : List (Stat × Precision ScalarValue)) → Outcome
combined es [] = record { entries = es; conflict = None }
combined es (e ∷ more) = or_conflict (combined_entry es e) es e.0 (λ new. combined new more)

-- a call combined all, or stopped at the conflict with the earlier entries combined, or changed nothing where memory was refused
abbrev pub Combines : Outcome → (old new : List (Stat × Precision ScalarValue)) → Result (Unit {0}) StatsError → Type 0
Combines o old new (Ok u) = (o.conflict ≡ None) × (new ≡ o.entries)
Combines o old new (Err (errors.Conflict s)) = (o.conflict ≡ Some s) × (new ≡ o.entries)
Combines o old new (Err (errors.Memory e)) = new ≡ old
Combines o old new (Err e) = ⊥
