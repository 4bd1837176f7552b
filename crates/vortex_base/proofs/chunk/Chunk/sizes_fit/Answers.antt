-- All pairs of columns are asked.
use Rattle.std.proofs.Common.{ap, ◌∙◌}
use Rattle.vortex_base.proofs.Data.AppendLemmas.{all_sizes_fit}
use Rattle.vortex_base.specs.Data.Columns.{ChunkData, sizes_fit}
use Rattle.vortex_base.specs.contracts.chunk.Chunk.{the_view}
use Rattle.vortex_base.proofs.chunk.Chunk.sizes_fit.Goals as goal

pub returns : goal.returns
returns c =
    rw (c.deref.ensures.value, c.deref-2.ensures.value) at c.sizes_fit.ensures ∙ all_sizes_fit c.self.inside.columns.items c.other.inside.columns.items
    ∙ ap (λ (k : ChunkData). sizes_fit k.columns (the_view c.other.inside).columns) c.self.view_is
    ∙ ap (λ (k : ChunkData). sizes_fit c.args.self.now.columns k.columns) c.other.view_is
