use Rattle.std.proofs.Common.{ap, map, ◌∙◌}
use Rattle.vortex_expr.specs.Trees.Connectives.{is_and}
use Rattle.vortex_normal.specs.Groups.{set_fits}
use Rattle.vortex_normal.specs.Intervals.{interval_of, set_of}
use Rattle.vortex_normal.proofs.Fits.{combined_fits}
use Rattle.vortex_normal.proofs.groups.said_test.Goals as goal

pub values_test-requires : goal.values_test-requires
values_test-requires c =
    let said = c.args.said in
    ap (λ s. set_fits said.dtype (map interval_of s)) c.deref.ensures.value
    ∙ ap (set_fits said.dtype) c.in_ok-set.ensures
    ∙ combined_fits said.dtype (is_and c.args.connective) (map set_of said.sets.items) c.requires.fits
