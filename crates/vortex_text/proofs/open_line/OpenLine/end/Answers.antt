use Rattle.std.proofs.Common.{◌≡◌, Err, List, ℕ, ◌++◌, sym, ap, subst, ◌∙◌}
use Rattle.std.proofs.lemmas.Result.{err_from_is_err_and}
use Rattle.std.specs.Str.Lines.{lines}
use Rattle.vortex_text.proofs.OpenLineLemmas.{ends_behind}
use Rattle.vortex_text.proofs.OpenTextLemmas.{block_stops, block_takes}
use Rattle.vortex_text.specs.Drafts.{reading_of}
use Rattle.vortex_text.specs.Naming.{named_from}
use Rattle.vortex_text.specs.OpenTexts.{GoesOn}
use Rattle.vortex_text.proofs.open_line.OpenLine.end.Goals as goal

pub returns-in_err-self-clause-takes : goal.returns-in_err-self-clause-takes
returns-in_err-self-clause-takes c =
    let old = c.args.self in
    let s = reading_of c.read_block.new.draft in
    let e = c.in_err-self.field-0.0 in
    let same = c.deref.ensures.value ∙ c.in_ok-extend_from_slice.ensures.items in
    let ended = ends_behind old.line.items c.args.bytes.now c.requires.ended.0 c.requires.ended.1 in
    let P : List ℕ → Type 0 = λ l. GoesOn old.number (reading_of old.draft) (lines l) (Err e) s in
    let p = err_from_is_err_and c.from_residual-in_err-self.result c.from_residual-in_err-self.ensures.1 in
    rw (p.1, p.2) (block_stops old c.args.bytes.now s e ended (subst P same c.in_err-self.ensures.read))

pub returns-clause-takes : goal.returns-clause-takes
returns-clause-takes c = λ more.
    let old = c.args.self in
    let s = reading_of c.read_block.new.draft in
    let m = c.in_ok-self.field-0 in
    let same = c.deref.ensures.value ∙ c.in_ok-extend_from_slice.ensures.items in
    let ended = ends_behind old.line.items c.args.bytes.now c.requires.ended.0 c.requires.ended.1 in
    let P : List ℕ → Type 0 = λ l. (more : List (List ℕ)) → named_from old.number (reading_of old.draft) (lines l ++ more) ≡ named_from m s more in
    block_takes old.number m (reading_of old.draft) s old.line.items c.args.bytes.now ended (subst P same c.in_ok-self.ensures.read) more
    ∙ sym (ap (λ (l : List ℕ). named_from m s (lines (l ++ more))) c.clear.ensures.items)
