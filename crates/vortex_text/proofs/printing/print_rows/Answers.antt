use Rattle.std.proofs.Common.{◌++◌, ◌∷◌, ℕ, [], ap, append-nil, append_assoc, sym, ◌∙◌}
use Rattle.std.specs.List.{flat_map}
use Rattle.vortex_text.proofs.PageLemmas.{cut_after, flat_map_left, flat_map_one_more, on_err, passes_more, row_parted}
use Rattle.vortex_text.specs.Printing.{row_text}
use Rattle.vortex_text.proofs.printing.print_rows.Goals as goal

pub returns-in_err-put_number-clause-cut : goal.returns-in_err-put_number-clause-cut
returns-in_err-put_number-clause-cut g c =
    let before = c.loop-part.yielded in
    let x : ℕ × ℕ = (c.in-Some.part, c.in-Some.row) in
    let row = row_parted x c.turn_to.new.begin c.turn_to.ensures.begin in
    let left = c.loop-part.invariant.left ∙ ap (λ s. before ++ s) c.in-Some.ensures.steps in
    let split = flat_map_left row_text c.args.rows.now before c.next.new.self x left ∙ ap (λ l. flat_map row_text before ++ (l ++ flat_map row_text c.next.new.self)) row in
    on_err _ (cut_after _ _ _ _ _ _ _ _ _ _ c.loop-part.invariant.printed c.in_err-put_number.ensures.cut split)

pub loop-part-preserved : goal.loop-part-preserved
loop-part-preserved g c =
    let before = c.loop-part.yielded in
    let x : ℕ × ℕ = (c.in-Some.part, c.in-Some.row) in
    let row = row_parted x c.turn_to.new.begin c.turn_to.ensures.begin in
    let next = flat_map_one_more row_text before x ∙ ap (λ l. flat_map row_text before ++ l) row in
    record {
      printed = passes_more _ _ _ _ _ _ _ _ _ c.loop-part.invariant.printed c.in_ok-put_number.ensures.put next;
      unfailed = c.in_ok-put_number.ensures.unfailed ∙ c.loop-part.invariant.unfailed;
      begun = rw c.turn_to.ensures.begun c.turn_to.ensures.begin;
      left = c.loop-part.invariant.left ∙ ap (λ s. before ++ s) c.in-Some.ensures.steps ∙ sym (append_assoc before (x ∷ []) c.next.new.self);
    }

pub returns-clause-printed : goal.returns-clause-printed
returns-clause-printed g c =
    let before = c.loop-part.yielded in
    let all = c.loop-part.invariant.left ∙ ap (λ s. before ++ s) c.in-None.ensures.steps.0 ∙ append-nil before in
    rw all c.loop-part.invariant.printed
