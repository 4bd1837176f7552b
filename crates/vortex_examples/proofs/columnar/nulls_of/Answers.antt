use Rattle.std.proofs.Common.{◌∙◌, ap, count_by, is_none, map, option_map, sym}
use Rattle.vortex_examples.proofs.NullCounts.{nulls_are_told}
use Rattle.vortex_examples.proofs.columnar.nulls_of.Goals as goal

pub returns : goal.returns
returns g c =
    let f = g.T.Native.scalar in
    let slices = c.as_slices.result in
    c.absent.ensures ∙ nulls_are_told f slices.0.now slices.1.now c.as_slices.ensures.long
    ∙ ap (λ vs. count_by is_none (map (option_map f) vs)) (sym c.as_slices.ensures.values)
    ∙ ap (count_by is_none) (sym c.in_ok-natives.ensures)
