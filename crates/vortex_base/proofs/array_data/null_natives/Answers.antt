use Rattle.std.proofs.Common.{ap, ◌∙◌, map, option_map}
use Rattle.vortex_base.proofs.Data.CellLemmas.{mapped_nulls}
use Rattle.vortex_base.proofs.array_data.null_natives.Goals as goal

pub returns : goal.returns
returns g c =
    let f = g.T.Native.scalar in
    c.into_cells.ensures.values ∙ ap (map (option_map f)) c.in_ok-nulls.ensures ∙ mapped_nulls f c.args.count
