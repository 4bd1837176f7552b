use Rattle.std.proofs.Common.{◌≡◌, ◌++◌}
use Rattle.std.specs.Prelude.{map}
use Rattle.std.specs.List.{AllByRecursion}
use Rattle.vortex_prune.specs.Part.{IsTruePart, measured_part}
use Rattle.vortex_examples.proofs.measured.parts_measured.Given as goal

-- the parts so far, and those of the chunks that are left, are all; those so far are true
abbrev pub invariant-loop-chunk : goal.invariant-loop-chunk
invariant-loop-chunk l = (l.parts.items ++ map measured_part l.chunk-iterator.rest.items ≡ map measured_part l.fn.chunks.items) × AllByRecursion IsTruePart l.parts.items
