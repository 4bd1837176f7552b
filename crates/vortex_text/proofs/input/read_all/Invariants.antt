use Rattle.std.proofs.Common.{◌-◌, ℕ, List}
use Rattle.std.specs.Io.KnownBytes.{Consumes}
use Rattle.vortex_text.specs.OpenTexts.{IsOpenText}
use Rattle.vortex_text.specs.Streams.{HasNotFailed}
use Rattle.vortex_text.specs.declared.streams.TheConstants.{INPUT_LIMIT}
use Rattle.vortex_text.proofs.input.read_all.Given as goal

-- what was pushed so far is what the reader has lost, and no read has failed
abbrev pub invariant-reads : goal.invariant-reads
invariant-reads g l =
    (text : List ℕ) × IsOpenText text l.text × Consumes (g.R.Source.remaining l.initial.reader) (g.R.Source.remaining l.reader) text
    × HasNotFailed (g.R.Source.has_failed l.initial.reader) (g.R.Source.has_failed l.reader)

abbrev pub decreases-reads : goal.decreases-reads
decreases-reads g l = INPUT_LIMIT - l.text.taken
