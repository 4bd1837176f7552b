use Rattle.std.proofs.Common.{◌≡◌, ap, length, refl, sym, true, ◌∙◌}
use Rattle.vortex_base.specs.Data.Scopes.{named_columns}
use Rattle.vortex_zone_map.proofs.ZoneMaps.ZoneNames.{scope_is_made}
use Rattle.vortex_zone_map.proofs.ZoneMaps.ZonesGiven.{given_are_chunk, given_is_kept}
use Rattle.vortex_zone_map.specs.GivenTables.{is_table}
use Rattle.vortex_zone_map.specs.ZoneMaps.{heads}
use Rattle.vortex_zone_map.proofs.zone_map.ZoneMap.of_table.Goals as goal

pub chunk_with-table-requires-clause-scope : goal.chunk_with-table-requires-clause-scope
chunk_with-table-requires-clause-scope c = scope_is_made c.args.scope (named_columns c.in-Ok.names.items) (heads c.args.scope) c.in-Ok.ensures.is_scope refl c.in-Ok.ensures.names

pub chunk_with-table-requires-clause-chunk : goal.chunk_with-table-requires-clause-chunk
chunk_with-table-requires-clause-chunk c =
    let fits : is_table c.len.result c.args.scope c.args.columns.items ≡ true = ap (is_table c.len.result c.args.scope) (sym c.deref.ensures.value) ∙ c.in-Ok.ensures.table in
    given_are_chunk c.len.result c.args.scope (named_columns c.in-Ok.names.items) (heads c.args.scope) c.args.columns.items c.in-Ok.ensures.is_scope refl c.in-Ok.ensures.names fits

pub invariant_of-result : goal.invariant_of-result
invariant_of-result c =
    let fits : is_table (length c.args.rows.items) c.args.scope c.args.columns.items ≡ true =
    ap (λ n. is_table n c.args.scope c.args.columns.items) (sym (c.len.ensures ∙ c.args.rows.ok.0)) ∙ ap (is_table c.len.result c.args.scope) (sym c.deref.ensures.value) ∙ c.in-Ok.ensures.table in
    given_is_kept c.args.scope c.args.rows.items c.tested_names.new.starts.items c.chunk_with-table.result (named_columns c.in-Ok.names.items) c.args.columns.items
    c.in-Ok.ensures.is_scope c.in-Ok.ensures.names fits c.chunk_with-table.ensures c.in-Ok.ensures.starts
