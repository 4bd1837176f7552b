use Rattle.vortex_base.proofs.Data.RowLemmas.{row_of-IsRow}
use Rattle.vortex_base.proofs.chunk.Chunk.row.Goals as goal

pub of_columns-requires : goal.of_columns-requires
of_columns-requires c =
    rw c.deref.ensures.value (row_of-IsRow (record { scope = c.self.inside.scope; columns = c.self.inside.columns.items }) c.args.i c.self.invariant.1 (rw (← c.self.view_is) at c.requires))
