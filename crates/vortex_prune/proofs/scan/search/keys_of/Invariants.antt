use Rattle.std.proofs.Common.{take}
use Rattle.vortex_prune.specs.Scanning.Keys.{AreKeys}
use Rattle.vortex_prune.proofs.scan.search.keys_of.Given as goal

-- the gaps before this one have their keys
abbrev pub invariant-loop-gap : goal.invariant-loop-gap
invariant-loop-gap g l = AreKeys l.operator l.at_null g.T.Native.scalar l.keys.items (take l.gap-index l.gaps)
