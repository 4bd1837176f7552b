-- Pruning row groups by a condition is sound.
use Rattle.std.proofs.Common.{◌≡◌, ℕ, zero, suc, List, [], ◌∷◌, Ok, length, ap, map, subst, sym, ◌∙◌}
use Rattle.std.proofs.lemmas.List.{length-map}
use Rattle.vortex_base.specs.Data.Scopes.{Named}
use Rattle.vortex_predicates.specs.Pruning.{skipped_places, whole_places}
use Rattle.vortex_parquet.specs.declared.columns.Leaf.{Leaf}
use Rattle.vortex_parquet.specs.declared.stats.GroupStats.{GroupStats}
use Rattle.vortex_parquet.specs.Records.{FileData}
use Rattle.vortex_parquet.specs.Fields.{many}
use Rattle.vortex_parquet.specs.Reading.{◌>>=◌, Read}
use Rattle.vortex_parquet.specs.Stats.{group_at, group_view, groups_of}
use Rattle.vortex_parquet.proofs.Sound.{bind_ok, one_ok}
use Rattle.vortex_predicates.specs.RowGroups.Pruning.{GroupsAreParts, zone_data}
use Rattle.vortex_zone_map.specs.Zone.{AreZonesOf, ZoneData}
use Rattle.vortex_zone_map.specs.ZoneMaps.{IsMapOf, MapData, zone_map}
use Rattle.vortex_prune.specs.declared.scan.verdict.Verdict.{Verdict}
use Rattle.vortex_predicates.specs.Conditions.Conditions.{IsSoundFor}
use Rattle.vortex_sql.specs.Schemas.{SchemaData}
use Rattle.vortex_sql.specs.declared.syntax.tree.Condition.{Condition}
use Rattle.vortex_predicates.specs.Footers.Pruning.{PrunesCondition}

pub prunes_condition : GroupsAreParts → (s : SchemaData) (c : Condition) (ls : List Leaf) (gs : List GroupStats) (m : MapData) (vs : List Verdict) → m ≡ zone_map s.scope (map zone_data gs) → IsMapOf (map zone_data gs) m
    → ((zones : List ZoneData) → IsMapOf zones m → IsSoundFor s c zones (skipped_places vs) (whole_places vs))
    → (file : FileData) (count : ℕ) → groups_of ls count file ≡ Ok (map group_view gs) → PrunesCondition s c ls file (skipped_places vs) (whole_places vs)
prunes_condition parts s c ls gs m vs made is_map sound file count e i g k at may =
    let same : m.scope ≡ s.scope = ap (λ (x : MapData). x.scope) made in
    let zones : AreZonesOf s.scope (map zone_data gs) = subst (λ (ns : List Named). AreZonesOf ns (map zone_data gs)) same is_map.are_zones in
    let x = parts s.scope ls gs zones file count e i g k at may in
    sound (map zone_data gs) is_map i x.0 (record { chunk = k; stats = x.0.stats }) x.1 x.2 x.3

-- ---- each row group of the file is read

many_long : {A : Type 0} (one : List ℕ → Read A) (n : ℕ) (bytes : List ℕ) (xs : List A) → many one n bytes ≡ Ok xs → length xs ≡ n
unfolding many
many_long {A} one zero bytes xs e = ap length (sym (one_ok [] xs e))
many_long {A} one (suc n) bytes xs e =
    let a = bind_ok (one bytes) (λ x. many one n x.1 >>= λ ys. Ok (x.0 ∷ ys)) xs e in
    let b = bind_ok (many one n a.0.1) (λ ys. Ok (a.0.0 ∷ ys)) xs a.2 in
    ap length (sym (one_ok (a.0.0 ∷ b.0) xs b.2)) ∙ ap suc (many_long one n a.0.1 b.0 b.1)

pub groups_long : (ls : List Leaf) (count : ℕ) (file : FileData) (gs : List GroupStats) → groups_of ls count file ≡ Ok (map group_view gs) → length gs ≡ file.groups.count
unfolding groups_of
groups_long ls count file gs e = sym (length-map gs group_view) ∙ many_long (group_at ls count file.orders) file.groups.count file.groups.from (map group_view gs) e
