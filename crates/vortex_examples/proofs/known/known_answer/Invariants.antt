use Rattle.std.proofs.Common.{◌≡◌, drop}
use Rattle.vortex_examples.proofs.known.known_answer.Given as goal
use Rattle.vortex_examples.specs.Known.{found}

abbrev pub invariant-loop-entry : goal.invariant-loop-entry
invariant-loop-entry l = found l.aggregate l.input l.dtype (drop l.entry-index l.entries) ≡ found l.aggregate l.input l.dtype l.entries
