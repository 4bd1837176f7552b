use Rattle.std.proofs.Common.{Ok, ap, sym, ◌∙◌}
use Rattle.std.proofs.lemmas.Result.{err_from_is_err_and}
use Rattle.std.specs.Str.Lines.{lines}
use Rattle.vortex_text.proofs.NamedLines.{reads_ok}
use Rattle.vortex_text.proofs.OpenLineLemmas.{ends_refused, reads_none, stops_named}
use Rattle.vortex_text.specs.Drafts.{reading_of}
use Rattle.vortex_text.specs.declared.query.Query.{Query}
use Rattle.vortex_text.proofs.naming.read_last.Goals as goal

pub returns-in_err-number-clause-named : goal.returns-in_err-number-clause-named
returns-in_err-number-clause-named c =
    let p = err_from_is_err_and c.from_residual.result c.from_residual.ensures.1 in
    rw (p.1, p.2)
    (stops_named {X = Query} (λ q. (q.parts, q.predicate)) c.args.first (reading_of c.args.draft) (reading_of c.read_lines.new.draft) (lines c.args.text.now) c.in_err-number.field-0.0 c.in_err-number.ensures.read)

pub returns-in-Ok-Some-clause-named : goal.returns-in-Ok-Some-clause-named
returns-in-Ok-Some-clause-named c =
    let read = reading_of c.read_lines.new.draft in
    let query = rw c.in-Ok-Some.field-0-is at c.in-Ok-Some.ensures.query in
    reads_ok c.args.first (reading_of c.args.draft) read (lines c.args.text.now) c.in-Ok-Some.query.predicate c.in_ok-number.ensures.read.0 query.0
    ∙ ap (λ parts. Ok (parts, c.in-Ok-Some.query.predicate)) (sym query.1)

pub returns-in-Ok-None-clause-named : goal.returns-in-Ok-None-clause-named
returns-in-Ok-None-clause-named c =
    let none = rw c.in-Ok-None.field-0-is at c.in-Ok-None.ensures.query in
    reads_none c.args.first c.without_predicate.result.number (reading_of c.args.draft) (reading_of c.read_lines.new.draft) (lines c.args.text.now)
    c.in_ok-number.ensures.read.0 (c.without_predicate.ensures ∙ c.in_ok-number.ensures.read.1) none

pub returns-in-Err-clause-memory : goal.returns-in-Err-clause-memory
returns-in-Err-clause-memory c =
    λ refused. ends_refused (reading_of c.args.draft) (reading_of c.read_lines.new.draft) (lines c.args.text.now) c.in_ok-number.ensures.read.0 c.in-Err.ensures.memory
