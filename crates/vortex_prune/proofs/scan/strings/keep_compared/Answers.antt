use Rattle.std.proofs.Common.{map, ◌∙◌}
use Rattle.std.specs.Prelude.{option_map}
use Rattle.vortex_prune.specs.Scanning.Leaves.{compares_at}
use Rattle.vortex_prune.proofs.ZoneMaps.ZoneMarks.{marked_all, marked_more}
use Rattle.vortex_prune.proofs.scan.strings.keep_compared.Goals as goal

pub loop-k-preserved : goal.loop-k-preserved
loop-k-preserved g c = marked_more (compares_at g.C.Comparison.operator (g.S.Strings.scalar c.args.other.now) (map (option_map g.S.Strings.scalar) (g.S.Strings.strings c.args.strings.now))) c.args.from c.loop-k.k c.args.marks.now c.loop-k.marks c.stays.result c.loop-k.invariant c.loop-k-test.true c.stays.ensures

pub returns : goal.returns
returns g c = c.loop-k.invariant ∙ marked_all (compares_at g.C.Comparison.operator (g.S.Strings.scalar c.args.other.now) (map (option_map g.S.Strings.scalar) (g.S.Strings.strings c.args.strings.now))) c.args.from c.loop-k.k c.args.marks.now c.loop-k-test.false
