use Rattle.std.proofs.Common.{sym, ◌∙◌}
use Rattle.std.specs.Str.Lines.{lines}
use Rattle.vortex_syntax.proofs.BadLemmas.{bad_fails}
use Rattle.vortex_syntax.specs.Words.{words}
use Rattle.vortex_text.proofs.ColumnLemmas.{fails_on}
use Rattle.vortex_text.proofs.FirstRows.{words_broken, words_not_utf8, words_read}
use Rattle.vortex_text.specs.Columns.{with_values}
use Rattle.vortex_text.specs.FirstLines.{first_row}
use Rattle.vortex_text.proofs.first_row.push_words.Goals as goal

pub returns-then-not-is_utf8-clause-refused : goal.returns-then-not-is_utf8-clause-refused
returns-then-not-is_utf8-clause-refused c long =
    bad_fails c.at.result (first_row c.args.columns.now (lines c.args.text.now)) c.at.ensures (words_not_utf8 c.args.columns.now c.args.text.now c.next_line.result.0.now (lines c.next_line.result.1.now) c.next_line.ensures.line (sym c.is_utf8.ensures ∙ c.if-not-is_utf8.true))

pub returns-in-Ok-clause-row : goal.returns-in-Ok-clause-row
returns-in-Ok-clause-row c short =
    words_read c.args.columns.now c.push_row.new.columns c.args.text.now c.next_line.result.0.now (lines c.next_line.result.1.now) c.next_line.ensures.line (sym c.is_utf8.ensures ∙ c.if-not-is_utf8.false) c.in-Ok.ensures

pub returns-in-Err-clause-refused : goal.returns-in-Err-clause-refused
returns-in-Err-clause-refused c long =
    fails_on c.in-Err.error (with_values c.args.columns.now (words c.next_line.result.0.now)) (first_row c.args.columns.now (lines c.args.text.now))
    (λ none. words_broken c.args.columns.now c.args.text.now c.next_line.result.0.now (lines c.next_line.result.1.now) c.next_line.ensures.line (sym c.is_utf8.ensures ∙ c.if-not-is_utf8.false) none) c.in-Err.ensures
