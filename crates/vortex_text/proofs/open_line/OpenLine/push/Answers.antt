use Rattle.std.proofs.Common.{Err, List, ℕ, ◌++◌, ap, subst, sym, ◌∙◌}
use Rattle.std.proofs.lemmas.Result.{err_from_is_err_and}
use Rattle.vortex_text.proofs.OpenTextLemmas.{stops_before, takes_more}
use Rattle.vortex_text.specs.OpenTexts.{TakesBytes}
use Rattle.vortex_text.proofs.open_line.OpenLine.push.Goals as goal

pub returns-in_err-read-clause-takes : goal.returns-in_err-read-clause-takes
returns-in_err-read-clause-takes c =
    let p = err_from_is_err_and c.from_residual-in_err-read.result c.from_residual-in_err-read.ensures.1 in
    let end = c.in-Some.end.now in
    let whole = c.split_lines.result.0.now in
    let begun = c.split_lines.result.1.now in
    let e = c.in_err-read.field-0.0 in
    let line = c.in_ok-end.field-0 in
    let all = c.in-Some.ensures.split ∙ ap (λ l. end ++ l) c.split_lines.ensures.split in
    let P : List ℕ → Type 0 = λ l. TakesBytes c.args.self l (Err e) in
    rw (p.1, p.2) (subst P (sym all) (takes_more c.args.self line end (whole ++ begun) (Err e) c.in_ok-end.ensures.takes (stops_before line whole begun e c.in_err-read.ensures.takes)))

pub returns-clause-takes : goal.returns-clause-takes
returns-clause-takes c =
    let end = c.in-Some.end.now in
    let whole = c.split_lines.result.0.now in
    let begun = c.split_lines.result.1.now in
    let r = c.keep-2.result in
    let line = c.in_ok-end.field-0 in
    let all = c.in-Some.ensures.split ∙ ap (λ l. end ++ l) c.split_lines.ensures.split in
    let P : List ℕ → Type 0 = λ l. TakesBytes c.args.self l r in
    subst P (sym all) (takes_more c.args.self line end (whole ++ begun) r c.in_ok-end.ensures.takes (takes_more line c.in_ok-read.field-0 whole begun r c.in_ok-read.ensures.takes c.keep-2.ensures.takes))
