use Rattle.std.proofs.Common.{◌≡◌, ◌-◌, get_or, length, drop, take, arith}
use Rattle.std.specs.Str.Lines.{lines}
use Rattle.vortex_syntax.proofs.PlainLemmas.{uncons}
use Rattle.vortex_text.proofs.ColumnLemmas.{fails_on}
use Rattle.vortex_text.proofs.FirstRows.{row_broken, row_ends_plain, row_rest}
use Rattle.vortex_text.specs.FirstLines.{first_row}
use Rattle.vortex_text.proofs.first_row.push_first_row.Goals as goal

pub returns-in-10-clause-row : goal.returns-in-10-clause-row
returns-in-10-clause-row c =
    let rest = c.take_plain-count.result.1.now in
    let feed : get_or rest 0 0 ≡ 10 = omega arith in
    row_ends_plain c.args.columns.now c.take_plain-count.new.columns c.args.text.now rest (take (length rest - 1) (drop 1 rest)) c.take_plain-count.result.0 c.take_plain-count.ensures.row (omega arith) (uncons rest 10 (omega arith) feed)

pub returns-then-after-rest-clause-row : goal.returns-then-after-rest-clause-row
returns-then-after-rest-clause-row c =
    row_rest c.args.columns.now c.take_plain-count.new.columns c.push_words-after.new.columns c.args.text.now c.take_plain-count.result.1.now (lines c.push_words-after.result.now) c.take_plain-count.result.0
    c.take_plain-count.ensures.row c.take_plain-count.ensures.ends (c.push_words-after.ensures.row c.if-after-rest.true)

pub returns-else-after-rest-clause-row : goal.returns-else-after-rest-clause-row
returns-else-after-rest-clause-row c =
    let new = c.take_plain-count.new.columns in
    let rest = c.take_plain-count.result.1.now in
    let i = c.take_plain-count.result.0 in
    fails_on c.push_words-after.new.refused (first_row (take (length new - i) (drop i new)) (lines rest)) (first_row c.args.columns.now (lines c.args.text.now))
    (λ none. row_broken c.args.columns.now new c.args.text.now rest i c.take_plain-count.ensures.row c.take_plain-count.ensures.ends none) (c.push_words-after.ensures.refused c.if-after-rest.false)
