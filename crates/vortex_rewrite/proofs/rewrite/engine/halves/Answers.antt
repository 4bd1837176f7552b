use Rattle.std.proofs.Common.{sym, ap, ◌∙◌, option_map}
use Rattle.vortex_rewrite.proofs.Soundness.MovedEnds.{moved_typed}
use Rattle.vortex_rewrite.proofs.Rewriting.ProofTypes.{ends_compare}
use Rattle.vortex_rewrite.specs.Rewriting.BuiltIn.{ends_from}
use Rattle.vortex_rewrite.proofs.rewrite.engine.halves.Goals as goal

pub ends-requires : goal.ends-requires
ends-requires c = ends_compare c.args.options c.args.x.now c.args.lower.now c.args.upper.now c.requires

pub both_halves-requires : goal.both_halves-requires
both_halves-requires c =
    moved_typed c.args.options c.args.x.now c.args.lower.now c.args.upper.now (record { options = c.in-Some.options; lower = c.in-Some.lower; upper = c.in-Some.upper }) c.requires
    (sym c.in_ok-ends.ensures ∙ ap (option_map ends_from) c.in-Some.is)
