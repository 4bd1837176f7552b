use Rattle.std.proofs.Common.{◌∙◌, refl}
use Rattle.std.specs.Prelude.{◌||◌}
use Rattle.vortex_prune.proofs.ZoneMaps.ZoneMarks.{paired_all, paired_more}
use Rattle.vortex_prune.proofs.scan.marks.add_marks.Goals as goal

pub loop-k-preserved : goal.loop-k-preserved
loop-k-preserved c = paired_more (λ a b. a || b) c.loop-k.k c.args.marks.now c.args.others.now c.loop-k.marks _ c.loop-k.invariant c.loop-k-test.true c.requires refl

pub returns : goal.returns
returns c = c.loop-k.invariant ∙ paired_all (λ a b. a || b) c.loop-k.k c.args.marks.now c.args.others.now c.loop-k-test.false c.requires
