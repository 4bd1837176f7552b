use Rattle.std.proofs.Common.{◌≡◌, ℕ, List, ◌++◌, length}
use Rattle.std.specs.Io.KnownBytes.{Appends}
use Rattle.vortex_text.specs.Streams.{HasNotFailed}
use Rattle.vortex_text.proofs.streams.write_out.Given as goal

-- what is gone from the rest was written, and no write has failed
abbrev pub invariant-loop-rest : goal.invariant-loop-rest
invariant-loop-rest g l =
    (done : List ℕ) × (l.bytes ≡ done ++ l.rest) × Appends (g.W.Sink.contents l.initial.writer) (g.W.Sink.contents l.writer) done
    × HasNotFailed (g.W.Sink.has_failed l.initial.writer) (g.W.Sink.has_failed l.writer)

abbrev pub decreases-loop-rest : goal.decreases-loop-rest
decreases-loop-rest g l = length l.rest
