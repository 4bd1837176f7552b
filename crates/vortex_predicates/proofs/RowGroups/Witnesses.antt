-- The witness of pruning row groups: a file of one row group with the rows 3, null and 7, whose statistics are true.
use Rattle.std.proofs.Common.{◌≡◌, ℕ, List, [], ◌∷◌, Ok, Some, codes, map, refl, arith, subst, sym}
use Rattle.std.proofs.lemmas.Option.{same_Some}
use Rattle.std.specs.Prelude.{pos, slice_get, suc, zero}
use Rattle.std.specs.declared.vec.Vec.{Vec}
use Rattle.std.specs.declared.alloc.Global.{Global}
use Rattle.vortex_base.specs.declared.dtype.DType.{DType}
use Rattle.vortex_base.specs.declared.dtype.DType.TheVariants as dtype
use Rattle.vortex_base.specs.declared.pvalue.PValue.TheVariants as number
use Rattle.vortex_base.specs.declared.scalar_value.ScalarValue.TheVariants as value
use Rattle.vortex_base.specs.declared.types.Nullability.TheVariants.{Nullable}
use Rattle.vortex_base.specs.declared.types.PType.TheVariants as ptype
use Rattle.vortex_base.specs.Data.Columns.{ChunkData}
use Rattle.vortex_base.specs.Data.Scopes.{Named}
use Rattle.vortex_expr.specs.Trees.Tree.{Place, Tree, binary, column, literal}
use Rattle.vortex_expr.specs.declared.scalar_fn.Operator.TheVariants.{Gt}
use Rattle.vortex_parquet.proofs.Witness.{a_file_is_true}
use Rattle.vortex_parquet.specs.Compact.{binary_at, count_at, head_at, id_at, items_at, jump, kind_at, kinds_at, map_at, natural_at, varint_at, varint_from, varint_in}
use Rattle.vortex_parquet.specs.Fields.{binary_in, is_told, items_in, items_of, last_found, many, natural_in, number_in, spans_in, struct_of}
use Rattle.vortex_parquet.specs.Records.{chunk_of, meta_of, row_group_of, row_groups_of, spans_of, statistics_in, statistics_of}
use Rattle.vortex_parquet.specs.Skip.{fields_in, skip_at, skip_entry, skip_value, struct_at, times}
use Rattle.vortex_parquet.specs.Stats.{Entries, group_view, groups_of}
use Rattle.vortex_parquet.specs.declared.stats.GroupStats.{GroupStats}
use Rattle.vortex_parquet.specs.Witness.{file, group, leaf, rows, set}
use Rattle.vortex_predicates.specs.RowGroups.Pruning.{IsGroupAt, MayStandIn, PrunesSoundly, zone_data}
use Rattle.vortex_prune.specs.Part.{IsPartOf, IsTruePart}
use Rattle.vortex_stats.specs.declared.precision.Precision.TheVariants.{Exact}
use Rattle.vortex_stats.specs.declared.stat.Stat.TheVariants.{Max}
use Rattle.vortex_zone_map.specs.Zone.{AreZonesOf, IsZone, ZoneData}
use Rattle.vortex_zone_map.proofs.WorkedRows.Witnesses.{IsWitness}
use Rattle.vortex_prune.proofs.WorkedRows.Witnesses.Pruning.{shut}
use Rattle.vortex_zone_map.specs.ZoneMaps.{MapData, zone_map}
use denote.RawPtr.{null_ptr}
use mathlib.Core.Bool.{true≢false}

abbrev numbers : DType
numbers = dtype.Primitive ptype.I32 Nullable

abbrev over_five : Tree Place
over_five = binary Gt (column (record { index = 0; dtype = numbers })) (literal (record { dtype = numbers; value = Some (value.Primitive (number.I32 (pos 5))) }))

abbrev pub scope : List Named
scope = (codes "qty", numbers) ∷ []

abbrev pub chunk : ChunkData
chunk = record { scope = scope; columns = rows ∷ [] }

pub here : IsGroupAt file 0 group
unfolding kind_at jump varint_from varint_in varint_at natural_at binary_at id_at head_at count_at items_at kinds_at map_at times skip_entry fields_in struct_at skip_value skip_at struct_of last_found binary_in number_in natural_in is_told spans_in items_of items_in many statistics_of statistics_in meta_of chunk_of spans_of row_group_of row_groups_of
here = record { groups = group ∷ []; are_groups = refl; here = refl }

pub stands : MayStandIn file scope (leaf ∷ []) group chunk
stands = record { is_chunk = refl; scoped = refl; counted = refl; are_true = a_file_is_true.truth }

-- the row group is skipped, whose last row satisfies
pub prune_groups_sound : IsWitness ((groups_of (leaf ∷ []) 1 file ≡ Ok (record { rows = 3; size = Some 40; stats = set ∷ [] } ∷ [])) × IsGroupAt file 0 group × MayStandIn file scope (leaf ∷ []) group chunk)
    (λ (skipped : List ℕ). PrunesSoundly over_five scope (leaf ∷ []) file skipped []) (0 ∷ [])
prune_groups_sound = record {
  met = (a_file_is_true.known, here, stands);
  refuted = λ h. true≢false ((h 0 group chunk here stands).0 (0, omega arith, refl) 2 (omega arith));
}

-- it is whole, whose first row doesn't satisfy
pub prune_groups_sound_of_whole : IsWitness ((groups_of (leaf ∷ []) 1 file ≡ Ok (record { rows = 3; size = Some 40; stats = set ∷ [] } ∷ [])) × IsGroupAt file 0 group × MayStandIn file scope (leaf ∷ []) group chunk)
    (λ (whole : List ℕ). PrunesSoundly over_five scope (leaf ∷ []) file [] whole) (0 ∷ [])
prune_groups_sound_of_whole = record {
  met = (a_file_is_true.known, here, stands);
  refuted = λ h. shut ((h 0 group chunk here stands).1 (0, omega arith, refl) 0 (omega arith));
}

-- ---- the law that row groups are parts

abbrev sets : Vec Entries Global
sets = record { ptr = null_ptr; len = 1; cap = 1; alloc = record { memory = record { seal = tt } }; items = set ∷ []; ok = (refl, omega arith); small = omega arith }

abbrev groups : List GroupStats
groups = record { rows = 3; size = Some 40; stats = sets } ∷ []

are_zones : AreZonesOf scope (map zone_data groups)
are_zones zero zone there = subst (λ (z : ZoneData). IsZone scope z) (same_Some _ zone there) refl
are_zones (suc i) zone there = absurd cc

-- the map is of a scope without columns
pub map_of_are_zones : IsWitness (slice_get (map zone_data groups) 0 ≡ Some (record { rows = 3; stats = set ∷ [] })) (λ (made : MapData). AreZonesOf made.scope (map zone_data groups)) (zone_map [] [])
map_of_are_zones = record { met = refl; refuted = λ h. shut (h 0 (record { rows = 3; stats = set ∷ [] }) refl) }

-- the zone of another row group, whose greatest value is 3
abbrev up_to_three : ZoneData
up_to_three = record { rows = 3; stats = ((Max, Exact (value.Primitive (number.I32 (pos 3)))) ∷ []) ∷ [] }

seven_is_above : (zone : ZoneData) → up_to_three ≡ zone → IsTruePart (record { chunk = chunk; stats = zone.stats }) → ⊥
seven_is_above zone is h =
    let t : IsTruePart (record { chunk = chunk; stats = up_to_three.stats }) = subst (λ (z : ZoneData). IsTruePart (record { chunk = chunk; stats = z.stats })) (sym is) h in
    true≢false ((t.0.claims Max).1 (value.Primitive (number.I32 (pos 7))) (2, omega arith, refl))

pub groups_are_parts : IsWitness
    (AreZonesOf scope (map zone_data groups) × (groups_of (leaf ∷ []) 1 file ≡ Ok (map group_view groups)) × IsGroupAt file 0 group × MayStandIn file scope (leaf ∷ []) group chunk)
    (λ (zones : List ZoneData).
    (zone : ZoneData) × (slice_get zones 0 ≡ Some zone) × IsPartOf scope zone (record { chunk = chunk; stats = zone.stats }) × IsTruePart (record { chunk = chunk; stats = zone.stats }))
    (up_to_three ∷ [])
groups_are_parts = record {
  met = (are_zones, a_file_is_true.known, here, stands);
  refuted = λ h. seven_is_above h.0 (same_Some up_to_three h.0 h.1) h.3;
}
