use Rattle.vortex_capi.proofs.BatchLemmas.{has_named}
use Rattle.vortex_capi.proofs.batches.Batch.map.Goals as goal

pub returns-in-Ok-of_table-clause-has : goal.returns-in-Ok-of_table-clause-has
returns-in-Ok-of_table-clause-has c = λ zones found.
    has_named c.in-Ok.scope c.args.self.now.scope.now c.in_ok-rows.rows.items c.in_ok-columns.columns.items c.args.lookups.now.heads.items c.args.lookups.now.named.items zones c.in-Ok-of_table.made c.in-Ok-of_table.ensures.made c.in-Ok.ensures c.requires.lookups.heads
    (c.in_ok-rows.ensures zones found) c.in-Ok-of_table.ensures.table (c.in_ok-columns.ensures zones found)
