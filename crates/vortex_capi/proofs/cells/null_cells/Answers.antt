use Rattle.std.proofs.Common.{Ok, None, ap, sym, ◌∙◌}
use Rattle.std.specs.Prelude.{replicate}
use Rattle.vortex_capi.proofs.CellLemmas.{nulls_are}
use Rattle.vortex_capi.proofs.cells.null_cells.Goals as goal

pub returns : goal.returns
returns c = λ f rows from. nulls_are f rows from c.args.count ∙ ap (λ n. Ok (replicate n None)) (sym c.new.ensures)
