-- Which merges and combinations copy a text or bytes: these alone can be refused for memory.
use Rattle.std.specs.Prelude.{Bool, true, false, not, ◌&&◌, ◌||◌, List, [], ◌∷◌, Option, Some, None}
use Rattle.std.specs.List.{list_any}
use Rattle.vortex_base.specs.declared.dtype.DType.{DType}
use Rattle.vortex_base.specs.declared.dtype.DType.TheVariants as dtype
use Rattle.vortex_base.specs.declared.scalar_value.ScalarValue.{ScalarValue}
use Rattle.vortex_base.specs.Data.Scalars.{is_long}
use Rattle.vortex_base.specs.Data.Scalars.{value_eq}
use Rattle.vortex_stats.specs.declared.bound.IntersectionResult.{IntersectionResult}
use Rattle.vortex_stats.specs.declared.bound.IntersectionResult.TheVariants.{Value, Empty}
use Rattle.vortex_stats.specs.declared.precision.Precision.{Precision}
use Rattle.vortex_stats.specs.declared.precision.Precision.TheVariants.{Exact, Inexact, Absent}
use Rattle.vortex_stats.specs.declared.stat.Stat.{Stat}
use Rattle.vortex_stats.specs.declared.stat.Stat.TheVariants.{Max, Min}
use Rattle.vortex_stats.specs.Merging.Combined.{intersection_of, combined_entry}
use Rattle.vortex_stats.specs.Sets.Entries.{entry_value}
use Rattle.vortex_stats.specs.Merging.Merges.{merged_value}
use Rattle.vortex_stats.specs.Precision.{present_value}

-- the value is a text or bytes, so that a copy of it takes memory
abbrev pub is_copied : Precision ScalarValue → Bool
is_copied p = is_long (present_value p)

-- the set has a text or bytes among its values, so that a copy of it takes memory
abbrev pub set_copies : List (Stat × Precision ScalarValue) → Bool
set_copies es = list_any (λ e. is_copied e.1) es

-- both are in the same case, with equal values
abbrev pub are_same : Precision ScalarValue → Precision ScalarValue → Bool
are_same (Exact v) (Exact w) = value_eq v w
are_same (Inexact v) (Inexact w) = value_eq v w
are_same Absent Absent = true
are_same p q = false

-- the bound of both sides of a merge is copied, unless it is the left side's
abbrev pub is_bound_copied : (left : Precision ScalarValue) → (bound : Option (Precision ScalarValue)) → Bool
is_bound_copied p None = false
is_bound_copied p (Some q) = not (are_same q p) && is_copied q

-- a merge copies a text or bytes: the greatest value of both sides, or the least
abbrev pub merge_copies : (left right : List (Stat × Precision ScalarValue)) → Bool
merge_copies a b = is_bound_copied (entry_value Max a) (merged_value Max a b) || is_bound_copied (entry_value Min a) (merged_value Min a b)

-- the value that two values of a statistic meet in is copied
abbrev pub is_meeting_copied : Option (IntersectionResult (Precision ScalarValue)) → Bool
is_meeting_copied (Some (Value p)) = is_copied p
is_meeting_copied (Some Empty) = false
is_meeting_copied None = false

-- an entry of the right set copies a text or bytes: the right's value where the left has none, else what the two meet in
abbrev pub entry_copies : Stat → (left right : Precision ScalarValue) → Bool
entry_copies s Absent q = is_copied q
entry_copies s p Absent = false
entry_copies s p q = is_meeting_copied (intersection_of s p q)

-- what follows where there is no conflict
abbrev pub unless_conflict : Option (List (Stat × Precision ScalarValue)) → (List (Stat × Precision ScalarValue) → Bool) → Bool
unless_conflict None rest = false
unless_conflict (Some new) rest = rest new

-- a combination copies a text or bytes at an entry of the right set, in order and as far as the first conflict
abbrev pub combination_copies : (left right : List (Stat × Precision ScalarValue)) → Bool
combination_copies es [] = false
combination_copies es (e ∷ more) =
    entry_copies e.0 (entry_value e.0 es) e.1 || unless_conflict (combined_entry es e) (λ new. combination_copies new more)

-- a column of the type holds texts or bytes
abbrev pub holds_long : DType → Bool
holds_long (dtype.Utf8 n) = true
holds_long (dtype.Binary n) = true
holds_long t = false
