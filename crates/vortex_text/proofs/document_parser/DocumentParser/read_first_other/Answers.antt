use Rattle.std.proofs.Common.{◌≡◌, ◌-◌, ◌++◌, ◌∷◌, List, [], ℕ, Err, codes, false, get_or, is_some, length, take, drop, option_map, ap, ◌∙◌, arith}
use Rattle.std.proofs.lemmas.Result.{err_from_is_err_and}
use Rattle.std.specs.Str.Lines.{lines}
use Rattle.vortex_syntax.proofs.Fronts.{front_is}
use Rattle.vortex_syntax.specs.declared.line_error.LineError.TheVariants.{Memory}
use Rattle.vortex_text.proofs.PlainLines.{part_first, part_may}
use Rattle.vortex_text.specs.Drafts.{reading_of}
use Rattle.vortex_text.specs.Lines.{Reading}
use Rattle.vortex_text.proofs.document_parser.DocumentParser.read_first_other.Goals as goal

pub returns-in-112-clause-read : goal.returns-in-112-clause-read
returns-in-112-clause-read c =
    let text = c.args.text.now in
    let after = take (length text - 5) (drop 5 text) in
    let p : get_or text 0 0 ≡ 112 = omega arith in
    let a : get_or text 1 0 ≡ 97 = omega arith in
    let r : get_or text 2 0 ≡ 114 = omega arith in
    let t : get_or text 3 0 ≡ 116 = omega arith in
    let feed : get_or text 4 0 ≡ 10 = omega arith in
    let open_yet : is_some c.args.self.now.predicate ≡ false = (cc) in
    part_first (reading_of c.args.self.now) text after open_yet (front_is (codes "part" ++ 10 ∷ []) text (omega arith) (p, (a, (r, (t, (feed, tt))))))
    ∙ ap (option_map {U = Reading × List (List ℕ)} (λ next. (next, lines after))) c.in_ok-read_part.ensures.read

pub returns-in_err-read_part-clause-memory : goal.returns-in_err-read_part-clause-memory
returns-in_err-read_part-clause-memory c =
    let text = c.args.text.now in
    let after = take (length text - 5) (drop 5 text) in
    let p : get_or text 0 0 ≡ 112 = omega arith in
    let a : get_or text 1 0 ≡ 97 = omega arith in
    let r : get_or text 2 0 ≡ 114 = omega arith in
    let t : get_or text 3 0 ≡ 116 = omega arith in
    let feed : get_or text 4 0 ≡ 10 = omega arith in
    let open_yet : is_some c.args.self.now.predicate ≡ false = (cc) in
    let e = err_from_is_err_and c.from_residual.result c.from_residual.ensures.1 in
    rw (e.1, e.2)
    (λ refused. part_may (reading_of c.args.self.now) text after open_yet (front_is (codes "part" ++ 10 ∷ []) text (omega arith) (p, (a, (r, (t, (feed, tt))))))
    (c.in_err-read_part.ensures.memory (let same : c.in_err-read_part.field-0.0 ≡ Memory = (cc) in ap Err same)))
