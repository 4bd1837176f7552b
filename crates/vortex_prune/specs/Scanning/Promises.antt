-- What scans promise of their answers and of their refusals: each fact is a field with a name.
use Rattle.std.specs.Prelude.{◌≡◌, ◌-◌, ◌^◌, ◌↔◌, ℕ, Bool, true, false, List, [], Option, Result, Err, IfErr, IsTrue, min}
use Rattle.vortex_base.specs.Data.Columns.{ChunkData}
use Rattle.vortex_expr.specs.Trees.Tree.{Tree, Place}
use Rattle.vortex_prune.specs.Part.{AreParts, PartData}
use Rattle.vortex_zone_map.specs.Zone.{ZoneData}
use Rattle.vortex_prune.specs.Scanning.Found.{Found}
use Rattle.vortex_prune.specs.Scanning.RangeScans.{AreRangesBehind, ranges_by, satisfying_ranges, selected_from, tested_by, tested_ranges}
use Rattle.vortex_prune.specs.Scanning.ScanRefusals.{AreClosed, KeptAreClosed, faithful_causes, scan_causes}
use Rattle.vortex_prune.specs.Scanning.Selection.{Answered, AreFaithful, answered, any_binder, is_skipped, is_whole, places_where, selected_rows, skipped_parts, tested_rows, whole_parts}
use Rattle.vortex_prune.specs.Scanning.TrueRows.{AreTrueRanges, EachRowOf}
use Rattle.vortex_prune.specs.Scanning.ZoneScans.{IsShutIfKept, is_left_open, most_causes, pruning_causes, row_verdicts, skipped_zones, statistics_answers, whole_zones, zone_causes}
use Rattle.vortex_zone_map.specs.ZoneMaps.{IsMapOf, MapData}
use Rattle.vortex_prune.specs.declared.bind.stat_binder.StatBinder.{Ghosts}
use Rattle.vortex_prune.specs.declared.scan.outcome.Scan.{Scan}
use Rattle.vortex_rewrite.specs.Answers.{IsMemory}
use Rattle.vortex_rewrite.specs.Causes.{IsRefusal}
use Rattle.vortex_rewrite.specs.Rewriting.Falsifiers.{falsifier, satisfier}
use Rattle.vortex_rewrite.specs.Rewriting.Lawful.{OwnRule}
use Rattle.vortex_rewrite.specs.Rewriting.Predicates.{is_predicate}
use Rattle.vortex_stats.specs.declared.error.StatsError.{StatsError}
use Rattle.vortex_stats.specs.declared.error.StatsError.TheVariants.{Mismatch, NotPredicate}

-- ---- scans of parts

-- by a falsifier and a satisfier, and by the answers that each part stands with, the scan finds this
pub record ScansParts (falsifier satisfier : Option (Tree Place)) (p : Tree Place) (parts : List Answered) (scan : Scan) : Type 0 where
  -- a part is skipped exactly if the falsifier is true of it
  pub skipped : scan.skipped.items ≡ skipped_parts falsifier parts
  -- and whole exactly if it isn't skipped and the satisfier is true of it
  pub whole : scan.whole.items ≡ whole_parts falsifier satisfier parts
  -- whether or not the answers are facts, all rows of the whole parts are selected, and the satisfying rows of the parts that are neither
  pub kept : scan.selected.items ≡ selected_rows falsifier satisfier p parts
  -- the rows of these were tested
  pub evaluated : scan.evaluated ≡ min (tested_rows falsifier satisfier parts) (2 ^ 64 - 1)

-- so does a scan by a binder for each part
pub record ScansByBinders {S : Type 0} (B : Ghosts S) (falsifier satisfier : Option (Tree Place)) (p : Tree Place) (parts : List PartData) (binders : List S) (scan : Scan) : Type 0 where
  -- by the answers of the binders, where these are faithful
  pub found : AreFaithful B.is_faithful_over parts binders → ScansParts falsifier satisfier p (answered B.value parts binders) scan
  -- what was looked at are parts, as `statistics_binders_are_honest` asks
  pub are_parts : AreParts parts
  -- where there is a falsifier, each binder has bound it to a closed expression
  pub closed : AreClosed B.answer B.is_missing falsifier binders
  -- where there is a satisfier, so has the binder of each part that isn't skipped
  pub kept_closed : KeptAreClosed B.answer B.is_missing scan.skipped.items satisfier binders

-- the refusals of such a scan
pub record RefusesByBinders {S : Type 0} (B : Ghosts S) (rules : List OwnRule) (p : Tree Place) (parts : List PartData) (binders : List S) (result : Result Scan StatsError) : Type 0 where
  -- by built-in rules, and binders that are faithful and name no fault of their own, as those of the parts' own statistics, a predicate is refused for memory alone
  pub memory : IsTrue (is_predicate p) → rules ≡ [] → AreFaithful B.is_faithful_over parts binders → ((k : ℕ) → any_binder B.can_fault binders k ≡ false) → IfErr result IsMemory
  -- what is no predicate is always refused
  pub not_predicate : is_predicate p ≡ false → result ≡ Err NotPredicate
  -- a refusal has its cause: a rule asked at a visited node, or a binder asked for a proof
  pub refusal : IsTrue (is_predicate p) → IfErr result (IsRefusal (scan_causes B.answer B.is_missing B.can_fault rules p binders))
  -- faithful binders are asked for the satisfier only where the falsifier isn't true of the part
  pub faithful : IsTrue (is_predicate p) → AreFaithful B.is_faithful_over parts binders → IfErr result (IsRefusal (faithful_causes B.answer B.is_missing B.can_fault B.value rules p parts binders))

-- a scan by a map finds this, by the answers that the statistics of each part are
pub record ScansByZones (rules : List OwnRule) (p : Tree Place) (parts : List PartData) (answers : List Answered) (scan : Scan) : Type 0 where
  -- by the map it finds what it would find by a binder for each part that answers so
  pub found : ScansParts (falsifier rules p) (satisfier rules p) p answers scan
  -- what is answered is a predicate
  pub predicate : IsTrue (is_predicate p)
  -- no falsifier that has a column outside its placeholders was bound
  pub closed : is_left_open (falsifier rules p) parts ≡ false
  -- nor such a satisfier, for a part that isn't skipped
  pub kept_closed : IsShutIfKept scan.skipped.items (satisfier rules p) parts

-- the refusals of such a scan
pub record RefusesByZones (rules : List OwnRule) (p : Tree Place) (parts : List PartData) (result : Result Scan StatsError) : Type 0 where
  -- by built-in rules a predicate is refused for memory alone
  pub memory : IsTrue (is_predicate p) → rules ≡ [] → IfErr result IsMemory
  -- what is no predicate is always refused
  pub not_predicate : is_predicate p ≡ false → result ≡ Err NotPredicate
  -- a refusal has its cause: a rule asked at a visited node, a falsifier with a column outside its placeholders and a part, or such a satisfier and a part that isn't skipped
  pub refusal : IsTrue (is_predicate p) → IfErr result (IsRefusal (zone_causes rules p parts))

-- ---- scans of one chunk, whose ranges begin at a row

-- by a map of zones, each a range of the chunk's rows, the scan finds this
pub record ScansRanges (rules : List OwnRule) (p : Tree Place) (k : ChunkData) (from : ℕ) (m : MapData) (found : Found) : Type 0 where
  -- whatever the table was made of, the verdicts on its rows tell which zones are skipped
  pub rows_skipped : found.skipped ≡ places_where is_skipped (row_verdicts (falsifier rules p) (satisfier rules p) m)
  -- they tell which zones are whole
  pub rows_whole : found.whole ≡ places_where is_whole (row_verdicts (falsifier rules p) (satisfier rules p) m)
  -- they select all rows of the whole zones, and the satisfying rows of those that are neither
  pub rows_kept : found.selected ≡ ranges_by p k 0 from (row_verdicts (falsifier rules p) (satisfier rules p) m) m.rows
  -- the rows of the zones that are neither were tested
  pub rows_evaluated : found.evaluated ≡ tested_by (row_verdicts (falsifier rules p) (satisfier rules p) m) m.rows
  -- whatever rows stand in a skipped zone, if its row of the table is true of them: none satisfies the predicate
  pub skipped_sound : EachRowOf false p m found.skipped
  -- and of a whole one each does
  pub whole_sound : EachRowOf true p m found.whole
  -- so where each row of the table is true of its range no wanted row is lost and no other is told
  pub rows_full : AreTrueRanges k from m → found.selected ≡ satisfying_ranges p k 0 from m.rows
  -- where the map is that of zones, one is skipped exactly if the falsifier is true by its statistics
  pub skipped : (zones : List ZoneData) → IsMapOf zones m → found.skipped ≡ skipped_zones (falsifier rules p) m.scope zones
  -- and whole exactly if it isn't skipped and the satisfier is
  pub whole : (zones : List ZoneData) → IsMapOf zones m → found.whole ≡ whole_zones (falsifier rules p) (satisfier rules p) m.scope zones
  -- whether or not the statistics are true, all rows of the whole zones are selected, and the satisfying rows of the zones that are neither
  pub kept : (zones : List ZoneData) → IsMapOf zones m → found.selected ≡ selected_from (falsifier rules p) (satisfier rules p) p k from m.scope zones
  -- so they are those that a scan of the ranges as parts with their statistics selects
  pub parted : (parts : List PartData) → AreRangesBehind k from m parts → found.selected ≡ selected_rows (falsifier rules p) (satisfier rules p) p (statistics_answers parts)
  -- the rows of the zones that are neither were tested
  pub evaluated : (zones : List ZoneData) → IsMapOf zones m → found.evaluated ≡ tested_ranges (falsifier rules p) (satisfier rules p) m.scope zones
  -- what is answered is a predicate
  pub predicate : IsTrue (is_predicate p)
  -- no falsifier that has a column outside its placeholders was bound
  pub closed : is_left_open (falsifier rules p) m.rows ≡ false
  -- nor such a satisfier, for a zone that isn't skipped
  pub kept_closed : IsShutIfKept found.skipped (satisfier rules p) m.rows

-- the refusals of such a scan, by whether the zones are ranges of the chunk
pub record RefusesRanges {X : Type 0} (are_ranges : Bool) (rules : List OwnRule) (p : Tree Place) (m : MapData) (result : Result X StatsError) : Type 0 where
  -- exactly where the zones aren't ranges of the chunk, that is refused
  pub mismatch : (result ≡ Err Mismatch) ↔ (are_ranges ≡ false)
  -- where they are, the other refusals have their causes. By built-in rules a predicate is refused for memory alone
  pub memory : IsTrue are_ranges → IsTrue (is_predicate p) → rules ≡ [] → IfErr result IsMemory
  -- what is no predicate is always refused
  pub not_predicate : IsTrue are_ranges → is_predicate p ≡ false → result ≡ Err NotPredicate
  -- a refusal has its cause: a rule asked at a visited node, a falsifier with a column outside its placeholders and a zone, or such a satisfier and a zone that isn't skipped
  pub refusal : IsTrue are_ranges → IsTrue (is_predicate p) → IfErr result (λ e. (zones : List ZoneData) → IsMapOf zones m → IsRefusal (pruning_causes rules p m.scope zones) e)
  -- whatever the table was made of, it has such a rule, or such a falsifier or satisfier and a zone
  pub at_most : IsTrue are_ranges → IsTrue (is_predicate p) → IfErr result (IsRefusal (most_causes rules p m.rows))
