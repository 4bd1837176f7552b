use Rattle.std.proofs.Common.{◌+◌, ◌++◌, take, drop, get_or, ap, ◌∙◌}
use Rattle.std.specs.List.{flat_map}
use Rattle.vortex_text.proofs.PageLemmas.{cut_after, flat_map_next, flat_map_parted, on_err, part_parted, passes_more}
use Rattle.vortex_text.specs.Printing.{part_text}
use Rattle.vortex_text.proofs.printing.print_parts.Goals as goal

pub returns-in_err-put_number-clause-cut : goal.returns-in_err-put_number-clause-cut
returns-in_err-put_number-clause-cut g c =
    let parts = c.args.parts.now in
    let i = c.loop-part.part-index in
    let part = part_parted (get_or parts i 0) c.space-space.result c.space-space.ensures in
    let split = flat_map_parted part_text parts i 0 c.loop-part-test.true ∙ ap (λ l. flat_map part_text (take i parts) ++ (l ++ flat_map part_text (drop (i + 1) parts))) part in
    on_err _ (cut_after _ _ _ _ _ _ _ _ _ _ c.loop-part.invariant.printed c.in_err-put_number.ensures.cut split)

pub loop-part-preserved : goal.loop-part-preserved
loop-part-preserved g c =
    let parts = c.args.parts.now in
    let i = c.loop-part.part-index in
    let part = part_parted (get_or parts i 0) c.space-space.result c.space-space.ensures in
    let next = flat_map_next part_text parts i 0 c.loop-part-test.true ∙ ap (λ l. flat_map part_text (take i parts) ++ l) part in
    record {
      printed = passes_more _ _ _ _ _ _ _ _ _ c.loop-part.invariant.printed c.in_ok-put_number.ensures.put next;
      unfailed = c.in_ok-put_number.ensures.unfailed ∙ c.loop-part.invariant.unfailed;
    }
