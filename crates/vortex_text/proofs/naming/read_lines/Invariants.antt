use Rattle.std.proofs.Common.{◌+◌, ◌≤◌, length}
use Rattle.std.specs.Str.Lines.{lines}
use Rattle.vortex_text.proofs.ManyRows.{Reached}
use Rattle.vortex_text.specs.Drafts.{reading_of}
use Rattle.vortex_text.specs.Fitting.{FitsTogether}
use Rattle.vortex_text.proofs.naming.read_lines.Given as goal

-- the lines before the rest are fine, and were counted
abbrev pub invariant-lines : goal.invariant-lines
invariant-lines l = record {
  fits : FitsTogether (reading_of l.draft);
  reached : Reached (reading_of l.initial.draft) l.first (lines l.text) (reading_of l.draft) l.number (lines l.rest);
  few : l.number + length l.rest ≤ l.first + length l.text;
}

abbrev pub decreases-lines : goal.decreases-lines
decreases-lines l = length l.rest
