use Rattle.vortex_rewrite.proofs.Soundness.PatternProofs.{beyond_is}
use Rattle.vortex_rewrite.proofs.Rewriting.ProofTypes.{texts_compare}
use Rattle.vortex_rewrite.proofs.rewrite.builtins.like.beyond.Goals as goal

pub compared-requires-2-clause-comparable : goal.compared-requires-2-clause-comparable
compared-requires-2-clause-comparable c = texts_compare c.args.x.now c.in_ok-below.below c.requires.text c.in_ok-below.ensures.text

pub returns : goal.returns
returns c =
    beyond_is c.args.x.now c.in_ok-above.above c.in_ok-below.below c.args.operator c.args.above.now c.args.below.now c.in_ok-above-2.above c.in_ok-below-2.below _
    c.in_ok-above.ensures.value c.in_ok-below.ensures.value c.in_ok-above-2.ensures c.in_ok-below-2.ensures c.both_joined.ensures
