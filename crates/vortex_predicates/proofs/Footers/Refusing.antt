-- What making a condition over a file's columns and pruning by it are refused for.
use Rattle.std.proofs.Common.{◌≡◌, ◌⊎◌, ℕ, [], ◌∷◌, false, List, Option, Ok, inl, inr, length, map, refl, ap, subst, subst₂, sym, ◌∙◌}
use Rattle.vortex_base.specs.Data.Scopes.{Named}
use Rattle.vortex_parquet.specs.Columns.{ColumnView}
use Rattle.vortex_parquet.specs.GroupPages.{TailData}
use Rattle.vortex_parquet.specs.Reading.{Fails}
use Rattle.vortex_parquet.specs.Records.{FileData}
use Rattle.vortex_parquet.specs.Stats.{group_view, groups_of}
use Rattle.vortex_parquet.specs.declared.columns.Leaf.{Leaf}
use Rattle.vortex_parquet.specs.declared.fault.ReadError.{ReadError}
use Rattle.vortex_parquet.specs.declared.fault.ReadError.TheVariants as read
use Rattle.vortex_predicates.specs.Conditions.Conditions.{ProvedCondition}
use Rattle.vortex_sql.specs.Schemas.{SchemaData}
use Rattle.vortex_predicates.specs.Conditions.Refusals.{IsProvingRefusal}
use Rattle.vortex_predicates.specs.Footers.Choosing.{IsSchemaFor}
use Rattle.vortex_predicates.specs.Footers.Mentions.{mentions}
use Rattle.vortex_predicates.specs.Footers.PagePruning.{IsPageFault}
use Rattle.vortex_predicates.specs.Footers.PagedGroups.{AreStretchesIn, paged_groups}
use Rattle.vortex_predicates.specs.Footers.Refusals.{IsGroupFault, IsLeftOutOf, IsToldOf, IsZoneRefusal, of_condition, of_read}
use Rattle.vortex_parquet.specs.declared.stats.GroupStats.{GroupStats}
use Rattle.vortex_predicates.specs.RowGroups.Pruning.{known_zone, zone_data}
use Rattle.vortex_zone_map.specs.ZoneMaps.{MapData, zone_map}
use Rattle.vortex_predicates.specs.declared.parquet.error.FooterError.{FooterError}
use Rattle.vortex_predicates.specs.declared.parquet.error.FooterError.TheVariants as error
use Rattle.vortex_predicates.specs.declared.parquet.page_ranges.PageRange.{PageRange}
use Rattle.vortex_predicates.specs.declared.sql.error.ConditionError.{ConditionError}
use Rattle.vortex_predicates.specs.declared.sql.error.ConditionError.TheVariants as condition
use Rattle.vortex_prune.specs.Scanning.ZoneScans.{is_left_open, open_causes}
use Rattle.vortex_expr.specs.Trees.Tree.{Place, Tree}
use Rattle.std.proofs.lemmas.List.{length-map}
use Rattle.vortex_rewrite.specs.Answers.{IsMemory}
use Rattle.vortex_rewrite.specs.Causes.{IsRefusal, either_causes}
use Rattle.vortex_rewrite.specs.Rewriting.Lawful.{OwnRule}
use Rattle.vortex_sql.specs.Parsing.Joining.{Joins, ands}
use Rattle.vortex_sql.specs.Parsing.Places.{Ascends, leaves}
use Rattle.vortex_sql.specs.declared.error.SqlError.TheVariants as sql
use Rattle.vortex_sql.specs.declared.syntax.tree.Condition.{Condition}
use Rattle.vortex_stats.specs.declared.error.StatsError.{StatsError}
use Rattle.vortex_stats.specs.declared.error.StatsError.TheVariants as stats
use Rattle.vortex_zone_map.specs.Zone.{ZoneData, zones_fit}

-- ---- a condition

pub name_told : (own : List OwnRule) (cs : List ColumnView) (count : ℕ) (text : List ℕ) (c : Condition) (e : FooterError) → Ascends 0 (leaves c) (length text) → Joins text 0 (leaves c) (false ∷ ands c)
    → IsLeftOutOf cs (mentions c) e → IsToldOf own cs count text e
name_told own cs count text c error.Memory places joined h = tt
name_told own cs count text c (error.Footer f) places joined h = absurd h
name_told own cs count text c (error.Sql f) places joined h = absurd h
name_told own cs count text c (error.LeftOut s e why) places joined h = (c, places, joined, h)
name_told own cs count text c (error.Stats f) places joined h = absurd h

pub condition_told : (own : List OwnRule) (cs : List ColumnView) (count : ℕ) (text : List ℕ) (c : Condition) (s : SchemaData) (ls : List Leaf) (e : ConditionError) → Ascends 0 (leaves c) (length text) → Joins text 0 (leaves c) (false ∷ ands c) → IsSchemaFor cs count (mentions c) s ls
    → IsProvingRefusal own text s c e → IsToldOf own cs count text (of_condition e)
condition_told own cs count text c s ls (condition.Sql sql.Memory) places joined chosen h = tt
condition_told own cs count text c s ls (condition.Sql (sql.Syntax f)) places joined chosen h = absurd h
condition_told own cs count text c s ls (condition.Sql (sql.Misfit b e)) places joined chosen h =
    record { condition = c; schema = s; leaves = ls; chosen = chosen; misfit = record { condition = c; places = places; joined = joined; first = h } }
condition_told own cs count text c s ls (condition.Sql sql.Name) places joined chosen h =
    record { condition = c; schema = s; leaves = ls; chosen = chosen; taken = record { condition = c; places = places; joined = joined; unnamed = h } }
condition_told own cs count text c s ls (condition.Stats f) places joined chosen h =
    record { condition = c; schema = s; leaves = ls; chosen = chosen; refused = record { condition = c; places = places; joined = joined; unproved = h } }

-- ---- zones

pub map_refused : (x : ProvedCondition) (zones : List ZoneData) (e : StatsError) → IsMemory e ⊎ ((zones_fit x.scope zones ≡ false) × (e ≡ stats.Mismatch)) → IsZoneRefusal x zones e
map_refused x zones e h = elim h [
  | inl memory ↦ subst (IsZoneRefusal x zones) (sym memory) tt
  | inr misfit ↦ subst (IsZoneRefusal x zones) (sym misfit.1) misfit.0
]

pub judging_refused : (x : ProvedCondition) (zones : List ZoneData) (e : StatsError)
    → IsRefusal (either_causes (open_causes x.falsifier (map (λ zone. zone.rows) zones)) (open_causes x.satisfier (map (λ zone. zone.rows) zones))) e → IsZoneRefusal x zones e
judging_refused x zones (stats.Memory e) h = h
judging_refused x zones stats.NotPredicate h = h
judging_refused x zones stats.Mismatch h = absurd h
judging_refused x zones stats.Unsupported h = h
judging_refused x zones (stats.Conflict s) h = h
judging_refused x zones (stats.Binder f) h = h
judging_refused x zones (stats.Rule f) h = h
judging_refused x zones stats.OpenProof h = h
judging_refused x zones stats.TooLarge h = h

pub same_zones : (gs : List GroupStats) → map zone_data gs ≡ map known_zone (map group_view gs)
same_zones [] = refl
same_zones (g ∷ gs) = ap (λ (zs : List ZoneData). zone_data g ∷ zs) (same_zones gs)

-- the rows of row groups are those of their zones
pub same_rows : (gs : List GroupStats) → map (λ (z : ZoneData). z.rows) (map zone_data gs) ≡ map (λ (g : GroupStats). g.rows) gs
same_rows [] = refl
same_rows (g ∷ gs) = ap (λ (ns : List ℕ). g.rows ∷ ns) (same_rows gs)

pub shut_rows : (proof : Option (Tree Place)) (gs : List GroupStats) (scope : List Named) (m : MapData) → m ≡ zone_map scope (map zone_data gs) → is_left_open proof m.rows ≡ false → is_left_open proof (map (λ (g : GroupStats). g.rows) gs) ≡ false
shut_rows proof gs scope m made h = subst (λ (ns : List ℕ). is_left_open proof ns ≡ false) (ap (λ (k : MapData). k.rows) made ∙ same_rows gs) h

-- there is a verdict for each
pub zones_long : (gs : List GroupStats) (scope : List Named) (m : MapData) → m ≡ zone_map scope (map zone_data gs) → length m.rows ≡ length gs
zones_long gs scope m made = ap (λ (k : MapData). length k.rows) made ∙ ap length (same_rows gs) ∙ length-map gs (λ (g : GroupStats). g.rows)

pub no_map : (x : ProvedCondition) (gs : List GroupStats) (scope : List Named) (e : StatsError) → scope ≡ x.scope → IsMemory e ⊎ ((zones_fit scope (map zone_data gs) ≡ false) × (e ≡ stats.Mismatch))
    → IsZoneRefusal x (map known_zone (map group_view gs)) e
no_map x gs scope e same h =
    map_refused x (map known_zone (map group_view gs)) e
    (subst₂ (λ (s : List Named) (zs : List ZoneData). IsMemory e ⊎ ((zones_fit s zs ≡ false) × (e ≡ stats.Mismatch))) same (same_zones gs) h)

pub no_verdicts : (x : ProvedCondition) (gs : List GroupStats) (scope : List Named) (m : MapData) (e : StatsError) → m ≡ zone_map scope (map zone_data gs)
    → IsRefusal (either_causes (open_causes x.falsifier m.rows) (open_causes x.satisfier m.rows)) e → IsZoneRefusal x (map known_zone (map group_view gs)) e
no_verdicts x gs scope m e made h =
    let rows : m.rows ≡ map (λ (z : ZoneData). z.rows) (map known_zone (map group_view gs)) = ap (λ (k : MapData). k.rows) made ∙ ap (map (λ (z : ZoneData). z.rows)) (same_zones gs) in
    judging_refused x (map known_zone (map group_view gs)) e
    (subst (λ (ns : List ℕ). IsRefusal (either_causes (open_causes x.falsifier ns) (open_causes x.satisfier ns)) e) rows h)

pub groups_without_map : (x : ProvedCondition) (ls : List Leaf) (count : ℕ) (file : FileData) (gs : List GroupStats) (scope : List Named) (e : StatsError) → groups_of ls count file ≡ Ok (map group_view gs) → scope ≡ x.scope
    → IsMemory e ⊎ ((zones_fit scope (map zone_data gs) ≡ false) × (e ≡ stats.Mismatch)) → IsGroupFault x (groups_of ls count file) (error.Stats e)
groups_without_map x ls count file gs scope e read same h = (map group_view gs, read, no_map x gs scope e same h)

pub groups_without_verdicts : (x : ProvedCondition) (ls : List Leaf) (count : ℕ) (file : FileData) (gs : List GroupStats) (scope : List Named) (m : MapData) (e : StatsError) → groups_of ls count file ≡ Ok (map group_view gs) → m ≡ zone_map scope (map zone_data gs)
    → IsRefusal (either_causes (open_causes x.falsifier m.rows) (open_causes x.satisfier m.rows)) e → IsGroupFault x (groups_of ls count file) (error.Stats e)
groups_without_verdicts x ls count file gs scope m e read made h = (map group_view gs, read, no_verdicts x gs scope m e made h)

-- ---- row groups and their pages

pub stretches_without_map : (x : ProvedCondition) (t : TailData) (ls : List Leaf) (count : ℕ) (file : FileData) (ranges : List PageRange) (gs : List GroupStats) (scope : List Named) (e : StatsError) → AreStretchesIn t ls count file ranges (map group_view gs) → scope ≡ x.scope
    → IsMemory e ⊎ ((zones_fit scope (map zone_data gs) ≡ false) × (e ≡ stats.Mismatch)) → IsPageFault x t ls count file (error.Stats e)
stretches_without_map x t ls count file ranges gs scope e known same h = inl (record { ranges = ranges; known = map group_view gs; are_known = known; refused = no_map x gs scope e same h })

pub stretches_without_verdicts : (x : ProvedCondition) (t : TailData) (ls : List Leaf) (count : ℕ) (file : FileData) (ranges : List PageRange) (gs : List GroupStats) (scope : List Named) (m : MapData) (e : StatsError) → AreStretchesIn t ls count file ranges (map group_view gs) → m ≡ zone_map scope (map zone_data gs)
    → IsRefusal (either_causes (open_causes x.falsifier m.rows) (open_causes x.satisfier m.rows)) e → IsPageFault x t ls count file (error.Stats e)
stretches_without_verdicts x t ls count file ranges gs scope m e known made h = inl (record { ranges = ranges; known = map group_view gs; are_known = known; refused = no_verdicts x gs scope m e made h })

pub group_faulty : (x : ProvedCondition) (ls : List Leaf) (count : ℕ) (file : FileData) (e : ReadError) → Fails e (groups_of ls count file) → IsGroupFault x (groups_of ls count file) (of_read e)
group_faulty x ls count file read.Memory h = tt
group_faulty x ls count file (read.Fault f) h = h

pub pages_faulty : (x : ProvedCondition) (t : TailData) (ls : List Leaf) (count : ℕ) (file : FileData) (e : ReadError) → Fails e (paged_groups t ls count file) → IsPageFault x t ls count file (of_read e)
pages_faulty x t ls count file read.Memory h = tt
pages_faulty x t ls count file (read.Fault f) h = inl h

pub groups_faulty : (x : ProvedCondition) (t : TailData) (ls : List Leaf) (count : ℕ) (file : FileData) (e : FooterError) → IsGroupFault x (groups_of ls count file) e → IsPageFault x t ls count file e
groups_faulty x t ls count file error.Memory h = tt
groups_faulty x t ls count file (error.Footer f) h = inr h
groups_faulty x t ls count file (error.Sql f) h = absurd h
groups_faulty x t ls count file (error.LeftOut s e why) h = absurd h
groups_faulty x t ls count file (error.Stats f) h = inr h
