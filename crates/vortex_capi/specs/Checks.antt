-- Whether statistics are true of a column of values.
use Rattle.std.specs.Prelude.{◌≡◌, ◌≢◌, ◌<◌, ◌⊎◌, ℕ, List, [], ◌∷◌, Result, Ok, Err, MatchResult, if◌then◌else◌, length, slice_index_or}
use Rattle.vortex_base.specs.Data.Columns.{ColumnData}
use Rattle.vortex_stats.specs.Sets.Claims.{IsTrueOf}
use Rattle.vortex_capi.specs.declared.fault.Fault.{Fault}
use Rattle.vortex_capi.specs.declared.fault.Refusal.{Refusal}
use Rattle.vortex_capi.specs.declared.statistic.Statistic.{Statistic}
use Rattle.vortex_capi.specs.declared.status.Status.{Status}
use Rattle.vortex_capi.specs.declared.status.Status.TheVariants.{BadLength, NoMemory, Untrue}
use Rattle.vortex_stats.specs.declared.stat.Stat.{Stat}
use Rattle.vortex_base.specs.declared.dtype.DType.{DType}
use Rattle.vortex_capi.specs.Measures.{stat_of}
use Rattle.vortex_capi.specs.Statistics.{Entry, entry, fills_zones}
use Rattle.vortex_capi.specs.Statuses.{at_entry, in_zone, status_number}

abbrev pub entry_filled : DType → ℕ → Statistic → Result Stat Status → Result Entry Status
entry_filled t zone x (Err e) = Err e
entry_filled t zone x (Ok s) = if fills_zones t s (length x.known.now) x then entry t zone x else Err BadLength

-- the statistic and its value in a zone, of arrays that have as many elements as one another
abbrev pub told_entry : DType → ℕ → Statistic → Result Entry Status
told_entry t zone x = entry_filled t zone x (stat_of t x.stat)

-- what a statistic says of a zone is true of the column
abbrev pub TellsTruth : ColumnData → ℕ → Statistic → Type 0
TellsTruth c zone x = MatchResult (told_entry c.dtype zone x) (λ e. IsTrueOf (e ∷ []) c) (λ s. ⊥)

-- it isn't
abbrev pub TellsUntruth : ColumnData → ℕ → Statistic → Type 0
TellsUntruth c zone x = MatchResult (told_entry c.dtype zone x) (λ e. ¬ IsTrueOf (e ∷ []) c) (λ s. ⊥)

-- why the statistic at place i ends the check: it isn't true, or it can't be read
abbrev pub IsFault : ColumnData → ℕ → ℕ → Statistic → Refusal → Type 0
IsFault c zone i x r = ((r ≡ at_entry Untrue i) × TellsUntruth c zone x) ⊎ ((s : Status) × (told_entry c.dtype zone x ≡ Err s) × (r ≡ in_zone zone s i))

-- the statistics before a place are true
abbrev pub AreTrueBefore : ColumnData → ℕ → List Statistic → ℕ → Type 0
AreTrueBefore c zone xs n = (k : ℕ) (d : Statistic) → k < n → TellsTruth c zone (slice_index_or xs k d)

-- the place of the first statistic that isn't true, or can't be read
pub record StopsAt (c : ColumnData) (zone : ℕ) (xs : List Statistic) (r : Refusal) : Type 0 where
  pub place : ℕ
  pub within : place < length xs
  pub before : AreTrueBefore c zone xs place
  pub fault : (d : Statistic) → IsFault c zone place (slice_index_or xs place d) r

-- each statistic is true, or the check stops; memory may be refused
abbrev pub Checks : ColumnData → ℕ → List Statistic → Result (Unit {0}) Refusal → Type 0
Checks c zone xs (Ok u) = AreTrueBefore c zone xs (length xs)
Checks c zone xs (Err r) = r.status ≢ NoMemory → StopsAt c zone xs r

-- refused so; memory may be refused
abbrev pub IsRefusedAs : Refusal → Result (Unit {0}) Refusal → Type 0
IsRefusedAs e (Ok u) = ⊥
IsRefusedAs e (Err r) = r.status ≢ NoMemory → r ≡ e

-- the zone has as many rows as the column and each statistic is true; the place behind the statistics stands for the number of rows
pub record ChecksZone (c : ColumnData) (rows zone : ℕ) (xs : List Statistic) (r : Result (Unit {0}) Refusal) : Type 0 where
  pub same : length c.values ≡ rows → Checks c zone xs r
  pub other : length c.values ≢ rows → IsRefusedAs (at_entry Untrue (length xs)) r

-- the same of a column that may be refused itself
abbrev pub IsVerdict : Result ColumnData Refusal → (rows zone : ℕ) → List Statistic → Result (Unit {0}) Refusal → Type 0
IsVerdict (Ok c) rows zone xs r = ChecksZone c rows zone xs r
IsVerdict (Err e) rows zone xs r = IsRefusedAs e r

-- what the call tells is such a verdict
abbrev pub IsTold : Result ColumnData Refusal → (rows zone : ℕ) → List Statistic → ℕ → Fault → Type 0
IsTold c rows zone xs result fault = (verdict : Result (Unit {0}) Refusal) × IsVerdict c rows zone xs verdict × MatchResult verdict (λ u. result ≡ 0) (λ r. (result ≡ status_number r.status) × (fault ≡ r.fault))
