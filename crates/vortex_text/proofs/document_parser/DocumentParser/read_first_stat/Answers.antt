use Rattle.std.proofs.Common.{List, ap, is_some, option_map, ◌∙◌, ℕ}
use Rattle.std.proofs.lemmas.Result.{err_from_is_err_and}
use Rattle.std.specs.Str.Lines.{lines}
use Rattle.vortex_text.proofs.PlainLines.{stat_first, stat_refused}
use Rattle.vortex_text.specs.Drafts.{reading_of}
use Rattle.vortex_text.specs.Lines.{Reading}
use Rattle.vortex_text.proofs.document_parser.DocumentParser.read_first_stat.Goals as goal

pub returns-clause-read : goal.returns-clause-read
returns-clause-read c =
    let told = c.in-Some.told in
    stat_first (reading_of c.args.self.now) c.args.text.now c.args.said.now c.in-Some.after.now (told.place, told.stat, told.value) (ap is_some c.requires.open_yet) c.requires.split c.in-Some.ensures.told
    ∙ ap (option_map {U = Reading × List (List ℕ)} (λ next. (next, lines c.in-Some.after.now))) c.in_ok-tell.ensures.read

pub returns-in_err-tell-clause-read : goal.returns-in_err-tell-clause-read
returns-in_err-tell-clause-read c =
    let told = c.in-Some.told in
    let e = err_from_is_err_and c.from_residual.result c.from_residual.ensures.1 in
    rw (e.1, e.2)
    (stat_refused _ (reading_of c.args.self.now) c.args.text.now c.args.said.now c.in-Some.after.now (told.place, told.stat, told.value) (ap is_some c.requires.open_yet) c.requires.split c.in-Some.ensures.told c.in_err-tell.ensures.read)
