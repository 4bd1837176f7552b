-- What one step of a combination answers.
use Rattle.std.specs.Prelude.{◌≡◌, Bool, false, List, [], ◌∷◌, Option, Some, None, Result, Ok, Err, IsTrue, ⊤}
use Rattle.vortex_base.specs.declared.scalar_value.ScalarValue.{ScalarValue}
use Rattle.vortex_base.specs.declared.scalar_value.ScalarValue.TheVariants as value
use Rattle.vortex_stats.specs.declared.bound.IntersectionResult.{IntersectionResult}
use Rattle.vortex_stats.specs.declared.bound.IntersectionResult.TheVariants.{Value, Empty}
use Rattle.vortex_stats.specs.declared.error.StatsError.{StatsError}
use Rattle.vortex_stats.specs.declared.error.StatsError.TheVariants as errors
use Rattle.vortex_stats.specs.declared.merge.Change.{Change}
use Rattle.vortex_stats.specs.declared.precision.Precision.{Precision}
use Rattle.vortex_stats.specs.declared.precision.Precision.TheVariants.{Exact, Inexact, Absent}
use Rattle.vortex_stats.specs.declared.stat.Stat.{Stat}
use Rattle.vortex_stats.specs.Sets.Changes.{changed}
use Rattle.vortex_stats.specs.Merging.Combined.{combined_by}
use Rattle.vortex_stats.specs.Copies.{is_copied, entry_copies}
use Rattle.vortex_stats.specs.Sets.Entries.{entry_value}

-- the value that two values of a statistic meet in, None where nothing is to be written; a conflict where there is none
abbrev pub meeting : {T : Type 0} → Stat → Option (IntersectionResult (Precision T)) → Result (Option (Precision T)) StatsError
meeting s (Some (Value p)) = Ok (Some p)
meeting s (Some Empty) = Err (errors.Conflict s)
meeting s None = Ok None

-- the truth in a value that is one
abbrev pub truth_value : Precision ScalarValue → Precision Bool
truth_value (Exact (value.Bool b)) = Exact b
truth_value (Inexact (value.Bool b)) = Inexact b
truth_value p = Absent

-- the expected answer is a value whose copy takes memory
abbrev pub is_answer_copied : Result (Option (Precision ScalarValue)) StatsError → Bool
is_answer_copied (Ok (Some p)) = is_copied p
is_answer_copied (Ok None) = false
is_answer_copied (Err e) = false

-- the answer is the expected one; or that is a text or bytes, and memory for a copy was refused
abbrev pub IsAnswerOrCopy : (expected answer : Result (Option (Precision ScalarValue)) StatsError) → Type 0
IsAnswerOrCopy expected (Ok a) = expected ≡ Ok a
IsAnswerOrCopy expected (Err (errors.Memory e)) = IsTrue (is_answer_copied expected)
IsAnswerOrCopy expected (Err e) = expected ≡ Err e

-- an entry of the other set makes this change, whatever else the entries hold; or its conflict was told, or memory for a copy was refused
abbrev pub IsChange : Stat → (left other : Precision ScalarValue) → Result Change StatsError → Type 0
IsChange s p q (Ok c) = (es : List (Stat × Precision ScalarValue)) → combined_by s p q es ≡ Some (changed s c es)
IsChange s p q (Err (errors.Conflict t)) = ((es : List (Stat × Precision ScalarValue)) → combined_by s p q es ≡ None) × (t ≡ s)
IsChange s p q (Err (errors.Memory e)) = IsTrue (entry_copies s p q)
IsChange s p q (Err e) = ⊥

-- the statistics of the entries have the same value in both lists
abbrev pub AgreeOn : List (Stat × Precision ScalarValue) → (left work : List (Stat × Precision ScalarValue)) → Type 0
AgreeOn [] left work = ⊤
AgreeOn (e ∷ es) left work = (entry_value e.0 work ≡ entry_value e.0 left) × AgreeOn es left work
