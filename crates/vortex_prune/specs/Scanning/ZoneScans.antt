-- Pruning by a map of zones: what is evaluated, what has to be found, and what it may be refused for.
use Rattle.std.specs.Prelude.{◌≡◌, ◌<◌, ◌⊎◌, ℕ, Bool, true, false, not as not_b, Contains, List, [], ◌∷◌, Option, Some, None, if◌then◌else◌, alloc_error, filter, length, map, slice_get}
use Rattle.std.specs.List.{enumerate_from}
use Rattle.vortex_base.specs.Data.Columns.{ChunkData, ColumnData, row_count as rows_of, row_of}
use Rattle.vortex_base.specs.Data.Scopes.{Named}
use Rattle.vortex_expr.specs.Meanings.Meaning.{is_true, meaning, satisfies}
use Rattle.vortex_expr.specs.Trees.Tree.{Tree, Place}
use Rattle.vortex_rewrite.specs.Causes.{Causes, IsRefusal, no_causes}
use Rattle.vortex_rewrite.specs.Rewriting.Lawful.{OwnRule}
use Rattle.vortex_prune.specs.Part.{IsPartOf, IsTruePart, PartData}
use Rattle.vortex_zone_map.specs.Zone.{ZoneData}
use Rattle.vortex_prune.specs.Binding.PartAnswers.{part_values, told_values}
use Rattle.vortex_rewrite.specs.Rewriting.Proof.{Assignment, is_open}
use Rattle.vortex_rewrite.specs.Rewriting.Falsifiers.{falsifier}
use Rattle.vortex_prune.specs.Scanning.ScanRefusals.{causes_by}
use Rattle.vortex_prune.specs.Scanning.PartScans.{UnlessSkipped}
use Rattle.vortex_prune.specs.Scanning.Selection.{Answered, answered, is_whole, is_proved, places_where, proves_of, verdict_of}
use Rattle.vortex_prune.specs.declared.scan.verdict.Verdict.{Verdict}
use Rattle.vortex_prune.specs.declared.scan.verdict.Verdict.TheVariants.{Skipped, Whole, Tested}
use Rattle.vortex_prune.specs.Zones.{zone_values}
use Rattle.vortex_zone_map.specs.ZoneMaps.{MapData}
use Rattle.vortex_stats.specs.declared.error.StatsError.{StatsError}
use Rattle.vortex_stats.specs.declared.error.StatsError.TheVariants.{Memory}

-- ---- what pruning has to find

-- what becomes of a zone by what its statistics answer
abbrev pub zone_verdict : (falsifier satisfier : Option (Tree Place)) → List Named → ZoneData → Verdict
zone_verdict falsifier satisfier scope zone = verdict_of falsifier satisfier zone.rows (told_values scope zone)

abbrev pub zone_verdicts : (falsifier satisfier : Option (Tree Place)) → List Named → List ZoneData → List Verdict
zone_verdicts falsifier satisfier scope zones = map (zone_verdict falsifier satisfier scope) zones

-- the places of the zones of which the falsifier is true, ascending
abbrev pub skipped_zones : Option (Tree Place) → List Named → List ZoneData → List ℕ
skipped_zones proof scope zones = places_where (λ zone. proves_of proof zone.rows (told_values scope zone)) zones

-- the places of the others of which the satisfier is, ascending
abbrev pub whole_zones : (falsifier satisfier : Option (Tree Place)) → List Named → List ZoneData → List ℕ
whole_zones falsifier satisfier scope zones = places_where (λ zone. is_whole (zone_verdict falsifier satisfier scope zone)) zones

-- each row of a chunk satisfies the predicate, or each doesn't
abbrev pub EachSatisfies : Bool → Tree Place → ChunkData → Type 0
EachSatisfies b p k = (r : ℕ) → r < rows_of k.columns → satisfies p (row_of r k.columns) (rows_of k.columns) ≡ b

-- whatever rows stand in a zone, if its statistics are true of them: none satisfies the predicate where the zone is skipped, and each does where it is whole
abbrev pub IsSoundPruning : Tree Place → List Named → List ZoneData → (skipped whole : List ℕ) → Type 0
IsSoundPruning p scope zones skipped whole =
    (i : ℕ) (zone : ZoneData) (part : PartData) → slice_get zones i ≡ Some zone → IsPartOf scope zone part → IsTruePart part →
    (Contains skipped i → EachSatisfies false p part.chunk) × (Contains whole i → EachSatisfies true p part.chunk)

-- the parts, each with the answers of its own statistics, as a scan has them
abbrev pub statistics_answers : List PartData → List Answered
statistics_answers parts = answered (λ (p : PartData) row n. part_values p) parts parts

-- ---- proofs that are bound to the table

-- what a bound proof, if there is one, tells on a row of these columns
abbrev pub zone_truth : Option (Tree Place) → List ColumnData → (r n : ℕ) → Bool
zone_truth None cs r n = false
zone_truth (Some b) cs r n = is_true (meaning b (row_of r cs) n)

-- what the row of the table at a place answers to the placeholders of a proof
abbrev pub row_values : MapData → ℕ → Assignment
row_values m r = zone_values m.scope (row_of r m.table.columns)

-- on each row it tells what the proof does by what the row answers
abbrev pub TellsAs : (bound proof : Option (Tree Place)) → MapData → Type 0
TellsAs bound proof m = (r n : ℕ) → slice_get m.rows r ≡ Some n → zone_truth bound m.table.columns r n ≡ proves_of proof n (row_values m r)

-- the verdict on the row at a place, whose zone has n rows, by what it answers
abbrev pub row_verdict : (falsifier satisfier : Option (Tree Place)) → MapData → (r n : ℕ) → Verdict
row_verdict falsifier satisfier m r n = verdict_of falsifier satisfier n (row_values m r)

-- these are the verdicts on the rows of the table, in their order
abbrev pub AreRowVerdicts : (falsifier satisfier : Option (Tree Place)) → MapData → List Verdict → Type 0
AreRowVerdicts falsifier satisfier m vs = (r n : ℕ) (v : Verdict) → slice_get m.rows r ≡ Some n → slice_get vs r ≡ Some v → v ≡ row_verdict falsifier satisfier m r n

-- all of them
abbrev pub row_verdicts : (falsifier satisfier : Option (Tree Place)) → MapData → List Verdict
row_verdicts falsifier satisfier m = map (λ e. row_verdict falsifier satisfier m e.0 e.1) (enumerate_from 0 m.rows)

-- the verdict on a row by a falsifier that was bound, and by a satisfier
abbrev pub table_verdict : (bound satisfier : Option (Tree Place)) → MapData → (r n : ℕ) → Verdict
table_verdict bound satisfier m r n =
    if zone_truth bound m.table.columns r n then Skipped else if proves_of satisfier n (row_values m r) then Whole else Tested

-- this is told of the row at a place, and the satisfier has no column outside its placeholders, if the zone isn't skipped
abbrev pub table_tells : (bound satisfier : Option (Tree Place)) → MapData → ℕ → Verdict → Type 0
table_tells bound satisfier m r v =
    ((n : ℕ) → slice_get m.rows r ≡ Some n → v ≡ table_verdict bound satisfier m r n) × UnlessSkipped v (is_open satisfier ≡ false)

-- it was told of each row
abbrev pub AllTold : (bound satisfier : Option (Tree Place)) → MapData → List Verdict → Type 0
AllTold bound satisfier m vs = (r : ℕ) (v : Verdict) → slice_get vs r ≡ Some v → table_tells bound satisfier m r v

-- ---- refusals

-- the proof, if there is one, has a column outside its placeholders, and there are parts for which it would be bound
abbrev pub is_left_open : {X : Type 0} → Option (Tree Place) → List X → Bool
is_left_open proof [] = false
is_left_open proof (part ∷ parts) = is_open proof

-- so binding it to the table is refused
abbrev pub open_causes : {X : Type 0} → Option (Tree Place) → List X → Causes
open_causes proof parts = record no_causes { open_proof = is_left_open proof parts ≡ true }

-- what is left where this tells what is skipped
abbrev pub kept : {X : Type 0} → (X → Bool) → List X → List X
kept skips xs = filter (λ x. not_b (skips x)) xs

-- what may be refused over parts or zones of which this tells what is proved: what the rules cause at the nodes that are visited, a falsifier that is left open, and such a satisfier, if one of them isn't skipped
abbrev pub causes_over : {X : Type 0} → (Option (Tree Place) → X → Bool) → List OwnRule → Tree Place → List X → Causes
causes_over proved rules p xs = causes_by (λ proof. open_causes proof xs) (λ proof. open_causes proof (kept (proved (falsifier rules p)) xs)) rules p

-- the proof is true of the zone by its statistics
abbrev pub is_proved_zone : List Named → Option (Tree Place) → ZoneData → Bool
is_proved_zone scope proof zone = proves_of proof zone.rows (told_values scope zone)

-- the zones that aren't skipped: those of which the falsifier isn't true
abbrev pub kept_zones : (falsifier : Option (Tree Place)) → List Named → List ZoneData → List ZoneData
kept_zones falsifier scope zones = kept (is_proved_zone scope falsifier) zones

-- what pruning may be refused for
abbrev pub pruning_causes : List OwnRule → Tree Place → List Named → List ZoneData → Causes
pruning_causes rules p scope zones = causes_over (is_proved_zone scope) rules p zones

-- it is true of the part by its own
abbrev pub is_proved_part : Option (Tree Place) → PartData → Bool
is_proved_part proof part = is_proved proof part (part_values part)

-- the parts that aren't skipped: those of which the falsifier isn't true, by their own statistics
abbrev pub kept_parts : (falsifier : Option (Tree Place)) → List PartData → List PartData
kept_parts falsifier parts = kept (is_proved_part falsifier) parts

-- what a scan of parts with their map may be refused for
abbrev pub zone_causes : List OwnRule → Tree Place → List PartData → Causes
zone_causes rules p parts = causes_over is_proved_part rules p parts

-- what it may be refused for at most, whatever is skipped
abbrev pub most_causes : {X : Type 0} → List OwnRule → Tree Place → List X → Causes
most_causes rules p xs = causes_by (λ proof. open_causes proof xs) (λ proof. open_causes proof xs) rules p

-- a row of the table is refused where the falsifier that was bound isn't true on it, and the satisfier has a column outside its placeholders
abbrev pub table_refuses : (bound satisfier : Option (Tree Place)) → MapData → ℕ → StatsError → Type 0
table_refuses bound satisfier m r =
    IsRefusal (record no_causes { open_proof = ((n : ℕ) → slice_get m.rows r ≡ Some n → zone_truth bound m.table.columns r n ≡ false) × (is_open satisfier ≡ true) })

-- memory was refused, or some row
abbrev pub IsTableRefused : (bound satisfier : Option (Tree Place)) → MapData → StatsError → Type 0
IsTableRefused bound satisfier m f = (f ≡ Memory alloc_error) ⊎ ((r : ℕ) × (r < length m.rows) × table_refuses bound satisfier m r f)

-- the satisfier has no column outside its placeholders, if some part isn't skipped
abbrev pub IsShutIfKept : {X : Type 0} → (skipped : List ℕ) → (satisfier : Option (Tree Place)) → List X → Type 0
IsShutIfKept skipped satisfier parts = (i : ℕ) → i < length parts → Contains skipped i ⊎ (is_open satisfier ≡ false)

-- the same, where the verdicts are listed
abbrev pub IsShutIfVerdict : (satisfier : Option (Tree Place)) → List Verdict → Type 0
IsShutIfVerdict satisfier vs = (i : ℕ) (v : Verdict) → slice_get vs i ≡ Some v → UnlessSkipped v (is_open satisfier ≡ false)
