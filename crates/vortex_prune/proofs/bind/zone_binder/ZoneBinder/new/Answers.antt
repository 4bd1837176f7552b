use Rattle.std.proofs.Common.{subst}
use Rattle.vortex_base.specs.Data.Columns.{ChunkData, IsChunk}
use Rattle.vortex_prune.proofs.ZoneMaps.ZoneRows.{row_is_honest, row_is_zone_row}
use Rattle.vortex_prune.proofs.bind.zone_binder.ZoneBinder.new.Goals as goal

pub returns-clause-faithful : goal.returns-clause-faithful
returns-clause-faithful c = λ r n.
    let m = c.args.map.now in
    row_is_zone_row m.scope m.table r (subst (λ (k : ChunkData). IsChunk k) c.table-table.ensures.value c.rows-rows.ensures.is_chunk) c.table-table.ensures.named

pub returns-clause-honest : goal.returns-clause-honest
returns-clause-honest c = λ zones r zone part is there of is_true.
    let m = c.args.map.now in
    row_is_honest m zones r zone part (row_is_zone_row m.scope m.table r (subst (λ (k : ChunkData). IsChunk k) c.table-table.ensures.value c.rows-rows.ensures.is_chunk) c.table-table.ensures.named) is there of is_true
