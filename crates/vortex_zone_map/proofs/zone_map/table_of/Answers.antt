use Rattle.std.proofs.Common.{ap, map, sym, ◌∙◌}
use Rattle.std.specs.Prelude.{slice_get}
use Rattle.vortex_base.specs.Data.Scopes.{named_columns}
use Rattle.vortex_zone_map.specs.ZoneMaps.{zone_column}
use Rattle.vortex_zone_map.proofs.ZoneMaps.ZoneNames.{all_tell, chunk_is_made, scope_is_made, table_is_made}
use Rattle.vortex_zone_map.proofs.zone_map.table_of.Goals as goal

pub zone_columns-requires : goal.zone_columns-requires
zone_columns-requires c = λ k h there. all_tell c.args.scope.now c.args.zones.now c.requires.are_zones k h (ap (λ l. slice_get l k) (sym (c.deref.ensures.value ∙ c.in_ok-heads.ensures.heads)) ∙ there)

pub new_unchecked-requires : goal.new_unchecked-requires
new_unchecked-requires c = scope_is_made c.args.scope.now (named_columns c.in_ok-names.names.items) c.in_ok-heads.heads.items c.in_ok-heads.ensures.is_scope c.in_ok-heads.ensures.heads c.in_ok-names.ensures

pub unreachable-requires : goal.unreachable-requires
unreachable-requires c =
    chunk_is_made c.args.scope.now c.new_unchecked.result c.in_ok-heads.heads.items c.args.zones.now c.in_ok-columns.columns.items c.in_ok-heads.ensures.heads (c.new_unchecked.ensures ∙ c.in_ok-names.ensures)
    (c.in_ok-columns.ensures.columns ∙ ap (λ l. map (zone_column c.args.zones.now) l) c.deref.ensures.value) c.in-Err.field-0 (sym c.in-Err.is ∙ c.try_new.ensures)

pub returns-clause-table : goal.returns-clause-table
returns-clause-table c =
    table_is_made c.args.scope.now c.new_unchecked.result c.in_ok-heads.heads.items c.args.zones.now c.in_ok-columns.columns.items c.in_ok-heads.ensures.heads (c.new_unchecked.ensures ∙ c.in_ok-names.ensures)
    (c.in_ok-columns.ensures.columns ∙ ap (λ l. map (zone_column c.args.zones.now) l) c.deref.ensures.value) c.in-Ok.table (sym c.in-Ok.is ∙ c.try_new.ensures)
