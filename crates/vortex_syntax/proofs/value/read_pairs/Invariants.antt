use Rattle.std.proofs.Common.{◌≤◌, length}
use Rattle.vortex_syntax.specs.Plain.{BeginsBytes}
use Rattle.vortex_syntax.proofs.value.read_pairs.Given as goal

-- the bytes so far are those of the pairs so far
abbrev pub invariant-pairs : goal.invariant-pairs
invariant-pairs l = record {
  pairs : BeginsBytes l.text l.bytes.items l.rest;
  shorter : length l.rest ≤ length l.text;
}

abbrev pub decreases-pairs : goal.decreases-pairs
decreases-pairs l = length l.rest
