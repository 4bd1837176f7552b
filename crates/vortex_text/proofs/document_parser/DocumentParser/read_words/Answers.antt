use Rattle.std.proofs.Common.{◌≡◌, ◌<◌, Option, true, false, is_some, length, subst, sym, ◌∙◌, arith}
use Rattle.std.proofs.lemmas.Bool.Decides.{nat_tests}
use Rattle.std.proofs.lemmas.Result.{err_from_is_err_and}
use Rattle.vortex_syntax.proofs.BadLemmas.{bad_fails}
use Rattle.vortex_syntax.proofs.WordLemmas.{some_words}
use Rattle.vortex_syntax.specs.Fails.{Changes}
use Rattle.vortex_syntax.specs.Words.{words}
use Rattle.vortex_text.proofs.DraftLemmas.{by_kind, fails_first, stops_after}
use Rattle.vortex_text.specs.Drafts.{reading_of}
use Rattle.vortex_text.specs.Lines.{Reading, read_words}
use Rattle.vortex_text.proofs.document_parser.DocumentParser.read_words.Goals as goal

pub returns-then-is_some-clause-read : goal.returns-then-is_some-clause-read
returns-then-is_some-clause-read c =
    let at_word : 0 < length (words c.skip_spaces.result.now) = some_words c.skip_spaces.result.now (grind (arith, nat_tests)) c.skip_spaces.ensures.at_word in
    let more : 0 < length (words c.args.line.now) = rw c.skip_spaces.ensures.same at at_word in
    let done : is_some c.args.self.now.predicate ≡ true = (cc) in
    bad_fails c.at.result (read_words (reading_of c.args.self.now) (words c.args.line.now)) c.at.ensures
    (stops_after (reading_of c.args.self.now) (words c.args.line.now) more done)

pub returns-in_err-first-clause-read : goal.returns-in_err-first-clause-read
returns-in_err-first-clause-read c =
    let at_word : 0 < length (words c.skip_spaces.result.now) = some_words c.skip_spaces.result.now (grind (arith, nat_tests)) c.skip_spaces.ensures.at_word in
    let more : 0 < length (words c.args.line.now) = rw c.skip_spaces.ensures.same at at_word in
    let open_yet : is_some c.args.self.now.predicate ≡ false = (cc) in
    let p = err_from_is_err_and c.from_residual.result c.from_residual.ensures.1 in
    rw (p.1, p.2) (fails_first _ (reading_of c.args.self.now) (words c.args.line.now) more open_yet c.in_err-first.ensures.word)

pub returns-clause-read : goal.returns-clause-read
returns-clause-read c =
    let open_yet : is_some c.args.self.now.predicate ≡ false = (cc) in
    let P : Option Reading → Type 0 = λ o. Changes c.read_kind.result o (reading_of c.read_kind.new.self) in
    subst P (sym (by_kind (reading_of c.args.self.now) (words c.args.line.now) (words c.in_ok-first.rest.now) c.in_ok-first.first.now c.in-Some.kind open_yet c.in_ok-first.ensures.word (sym c.kind_of.ensures ∙ c.in-Some.is))) c.read_kind.ensures.read
