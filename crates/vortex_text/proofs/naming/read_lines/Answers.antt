use Rattle.std.proofs.Common.{◌≡◌, ◌<◌, ◌+◌, ◌++◌, [], ◌∷◌, Err, sym, ap, ◌∙◌, append_assoc, length, length-append, arith}
use Rattle.std.proofs.lemmas.Bool.Decides.{nat_tests}
use Rattle.std.specs.Str.Lines.{lines}
use Rattle.vortex_text.proofs.FirstReads.{begins_bad, first_fits, first_is}
use Rattle.vortex_text.proofs.ManyRows.{reached_further}
use Rattle.vortex_text.proofs.MemoryLemmas.{reads_push}
use Rattle.vortex_text.proofs.OpenLineLemmas.{reads_whole}
use Rattle.vortex_text.specs.Drafts.{reading_of}
use Rattle.vortex_text.proofs.naming.read_lines.Goals as goal

pub returns-in-Memory-clause-read : goal.returns-in-Memory-clause-read
returns-in-Memory-clause-read c =
    let rest = lines c.read_rows-rows.result.1.now in
    let r = reading_of c.read_rows-rows.new.self in
    let (front, split, reads, number) = reached_further (reading_of c.args.draft.now) (reading_of c.lines.draft) r c.args.first c.lines.number c.read_rows-rows.result.0 (lines c.args.text.now) (lines c.lines.rest.now) rest c.lines.invariant.reached c.read_rows-rows.ensures.read in
    (front, rest, r, split, reads, c.in_default.ensures.memory (ap Err c.in-Memory.is))

pub returns-in-Bad-clause-read : goal.returns-in-Bad-clause-read
returns-in-Bad-clause-read c =
    let rest = lines c.read_rows-rows.result.1.now in
    let r = reading_of c.read_rows-rows.new.self in
    let (front, split, reads, number) = reached_further (reading_of c.args.draft.now) (reading_of c.lines.draft) r c.args.first c.lines.number c.read_rows-rows.result.0 (lines c.args.text.now) (lines c.lines.rest.now) rest c.lines.invariant.reached c.read_rows-rows.ensures.read in
    let text = c.read_rows-rows.result.1.now in
    let some : 0 < length text = grind (arith, nat_tests) in
    let begins = begins_bad r text some (rw c.in-Bad.is at c.in_default.ensures.read) in
    (front, rest, r, split, reads, (begins, c.bad_line.ensures ∙ number))

pub lines-preserved : goal.lines-preserved
lines-preserved c =
    let rest = lines c.read_rows-rows.result.1.now in
    let r = reading_of c.read_rows-rows.new.self in
    let (front, split, reads, number) = reached_further (reading_of c.args.draft.now) (reading_of c.lines.draft) r c.args.first c.lines.number c.read_rows-rows.result.0 (lines c.args.text.now) (lines c.lines.rest.now) rest c.lines.invariant.reached c.read_rows-rows.ensures.read in
    let new = reading_of c.read_first.new.self in
    let later = lines c.in-Some.after.now in
    let first = first_is r new rest later c.in-Some.ensures.read in
    record {
      fits = first_fits r new rest later c.read_rows-rows.ensures.fits first;
      reached = (front ++ first.line ∷ [], split ∙ ap (λ ls. front ++ ls) first.split ∙ sym (append_assoc front (first.line ∷ []) later), reads_push _ r new front first.line reads first.read, omega (arith, number, length-append front (first.line ∷ [])));
      few = omega (arith, c.in-Some.ensures.shorter, c.read_rows-rows.ensures.bytes, c.lines.invariant.few);
    }

pub returns-then-is_empty-clause-read : goal.returns-then-is_empty-clause-read
returns-then-is_empty-clause-read c =
    let rest = lines c.read_rows-rows.result.1.now in
    let r = reading_of c.read_rows-rows.new.self in
    let (front, split, reads, number) = reached_further (reading_of c.args.draft.now) (reading_of c.lines.draft) r c.args.first c.lines.number c.read_rows-rows.result.0 (lines c.args.text.now) (lines c.lines.rest.now) rest c.lines.invariant.reached c.read_rows-rows.ensures.read in
    let none : length c.read_rows-rows.result.1.now ≡ 0 = grind (arith, nat_tests) in
    reads_whole (c.lines.number + c.read_rows-rows.result.0) c.args.first (reading_of c.args.draft.now) r c.args.text.now c.read_rows-rows.result.1.now front none split reads number
