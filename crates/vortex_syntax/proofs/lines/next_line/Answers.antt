use Rattle.std.proofs.Common.{◌+◌, sym, ◌∙◌}
use Rattle.std.proofs.lemmas.List.{take_rest}
use Rattle.vortex_syntax.proofs.FirstLine.{lines_first, lines_last}
use Rattle.vortex_syntax.proofs.lines.next_line.Goals as goal

pub returns-in-Some-clause-line : goal.returns-in-Some-clause-line
returns-in-Some-clause-line c =
    rw (c.without_return.ensures, take_rest c.args.text.now (c.in-Some.end + 1)) (lines_first c.args.text.now c.in-Some.end (sym c.line_feed.ensures ∙ c.in-Some.is))

pub returns-in-None-clause-line : goal.returns-in-None-clause-line
returns-in-None-clause-line c = lines_last c.args.text.now c.requires (sym c.line_feed.ensures ∙ c.in-None.is)
