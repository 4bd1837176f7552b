use Rattle.std.proofs.Common.{◌≡◌, ◌++◌, [], ap, arith, drop, length, subst, sym, take, ◌∙◌}
use Rattle.std.proofs.lemmas.List.{take_at}
use Rattle.vortex_expr.specs.Trees.Tree.{binary}
use Rattle.vortex_expr.specs.declared.scalar_fn.Operator.TheVariants.{And, Or}
use Rattle.vortex_prune.proofs.Scanning.GapLemmas.{gathered_all, gathered_and, gathered_or, gathered_put, left_of_true, left_of_untrue, none_alike, sifted_put}
use Rattle.vortex_prune.proofs.ZoneMaps.ZoneMarks.{length-left_marked, length-marked, marked-or, marked_unset}
use Rattle.vortex_prune.specs.Scanning.Gaps.{IsGathered, are_true_at, is_untrue_at}
use Rattle.vortex_prune.specs.Scanning.Marks.{either_marked, is_true_at, left_marked, marked}
use Rattle.vortex_prune.proofs.scan.marks.+keep.Goals as goal

pub gather-returns-then-put_gap-clause-gathered : goal.gather-returns-then-put_gap-clause-gathered
gather-returns-then-put_gap-clause-gathered t c =
    let k = c.in-Binary-Or-default-default in
    let is : c.args.e.now ≡ binary Or k.left.now k.right.now = cc (k.ensures, k.field-0-is) in
    gathered_put c.args.table.chunk.now.columns c.args.table.counts c.args.from c.args.e.now k.left.now k.right.now c.args.gaps.now.items c.put_gap.new.gaps.items c.args.marks.now is
    (c.put_gap.ensures.taken c.if-put_gap.true)

pub gather-returns-else-keep_within-clause-gathered : goal.gather-returns-else-keep_within-clause-gathered
gather-returns-else-keep_within-clause-gathered t c =
    let k = c.in-Binary-And-default-default in
    let last = c.gather-in-Binary-And-default-default in
    let is : c.args.e.now ≡ binary And k.left.now k.right.now = cc (k.ensures, k.field-0-is) in
    let cs = c.args.table.chunk.now.columns in
    let counts = c.args.table.counts in
    let gaps = c.args.gaps.now.items in
    let first : IsGathered cs counts (is_true_at k.left.now cs counts) c.args.from gaps c.gather.new.gaps.items c.args.marks.now c.gather.new.marks =
    subst (λ old. IsGathered cs counts (is_true_at k.left.now cs counts) c.args.from gaps c.gather.new.gaps.items old c.gather.new.marks) (c.keep_within.ensures.same c.if-keep_within.false) c.gather.ensures.gathered in
    gathered_and cs counts c.args.from c.args.e.now k.left.now k.right.now gaps c.gather.new.gaps.items last.new.gaps.items
    c.args.marks.now c.gather.new.marks last.new.marks is first last.ensures.gathered

pub sift-returns-then-put_beside-clause-gathered : goal.sift-returns-then-put_beside-clause-gathered
sift-returns-then-put_beside-clause-gathered t c =
    let k = c.in-Binary-And-default-default in
    let is : c.args.e.now ≡ binary And k.left.now k.right.now = cc (k.ensures, k.field-0-is) in
    sifted_put c.args.table.chunk.now.columns c.args.table.counts c.args.from c.args.e.now k.left.now k.right.now c.args.gaps.now.items c.put_beside.new.gaps.items c.args.marks.now is
    (c.put_beside.ensures.taken c.if-put_beside.true)

pub sift-returns-in-Binary-Or-default-default-clause-gathered : goal.sift-returns-in-Binary-Or-default-default-clause-gathered
sift-returns-in-Binary-Or-default-default-clause-gathered t c =
    let k = c.in-Binary-Or-default-default in
    let last = c.sift-in-Binary-Or-default-default in
    let is : c.args.e.now ≡ binary Or k.left.now k.right.now = cc (k.ensures, k.field-0-is) in
    gathered_or c.args.table.chunk.now.columns c.args.table.counts c.args.from c.args.e.now k.left.now k.right.now c.args.gaps.now.items c.sift.new.gaps.items last.new.gaps.items
    c.args.marks.now c.sift.new.marks last.new.marks is c.sift.ensures.gathered last.ensures.gathered

pub drop_true-returns-in-Ok : goal.drop_true-returns-in-Ok
drop_true-returns-in-Ok t c =
    let test = is_true_at c.args.e.now c.args.table.chunk.now.columns c.args.table.counts in
    let from = c.args.from in
    let bs = c.args.marks.now in
    let o = c.in-Ok in
    let last = c.keep_true.new.marks in
    let copied : c.deref_mut.result.now ≡ bs = c.deref_mut.ensures.value ∙ o.ensures.items in
    let told : last ≡ marked test from bs = c.keep_true.ensures ∙ ap (marked test from) copied in
    let lasts : length last ≡ o.others.len = ap length told ∙ length-marked test from bs ∙ sym o.ensures.len in
    let right : c.deref.result.now ≡ marked test from bs = c.deref.ensures.value ∙ take_at last (drop (length last) o.others.items) o.others.len lasts ∙ told in
    c.take_marks.ensures ∙ ap (left_marked bs) right ∙ left_of_true test from bs

pub drop_any-returns : goal.drop_any-returns
drop_any-returns t c =
    let cs = c.args.table.chunk.now.columns in
    let counts = c.args.table.counts in
    let e = c.args.e.now in
    let l = c.args.left.now in
    let r = c.args.right.now in
    let from = c.args.from in
    let bs = c.args.marks.now in
    let first = c.sift in
    let last = c.sift-2 in
    let gs = last.new.gaps.items in
    let begun = subst (λ old. IsGathered cs counts (is_untrue_at l cs counts) from old first.new.gaps.items bs first.new.marks) c.new-gaps.ensures.items first.ensures.gathered in
    c.keep_gaps.ensures
    ∙ ap (λ xs. marked (are_true_at xs cs counts) from last.new.marks) c.deref_mut.ensures.value
    ∙ gathered_all cs counts from (is_untrue_at e cs counts) gs bs last.new.marks
    (gathered_or cs counts from e l r [] first.new.gaps.items gs bs first.new.marks last.new.marks c.requires.either begun last.ensures.gathered)

pub keep_any-returns-in-Ok : goal.keep_any-returns-in-Ok
keep_any-returns-in-Ok t c =
    let cs = c.args.table.chunk.now.columns in
    let counts = c.args.table.counts in
    let e = c.args.e.now in
    let from = c.args.from in
    let bs = c.args.marks.now in
    let o = c.in-Ok in
    let test = is_untrue_at e cs counts in
    let last = c.drop_any.new.marks in
    let copied : c.deref_mut.result.now ≡ bs = c.deref_mut.ensures.value ∙ o.ensures.items in
    let told : last ≡ marked test from bs = c.drop_any.ensures ∙ ap (marked test from) copied in
    let lasts : length last ≡ o.others.len = ap length told ∙ length-marked test from bs ∙ sym o.ensures.len in
    let right : c.deref.result.now ≡ marked test from bs = c.deref.ensures.value ∙ take_at last (drop (length last) o.others.items) o.others.len lasts ∙ told in
    c.take_marks.ensures ∙ ap (left_marked bs) right ∙ left_of_untrue (is_true_at e cs counts) from bs

pub keep_either-returns-in-Ok : goal.keep_either-returns-in-Ok
keep_either-returns-in-Ok t c =
    let cs = c.args.table.chunk.now.columns in
    let counts = c.args.table.counts in
    let from = c.args.from in
    let bs = c.args.marks.now in
    let l = c.args.left.now in
    let r = c.args.right.now in
    let o = c.in-Ok in
    let first = c.keep_true.new.marks in
    let taken = c.take_marks.new.marks in
    let last = c.keep_true-in-Ok.new.marks in
    let found = marked (is_true_at l cs counts) from bs in
    let rest = left_marked bs found in
    let copied : c.deref_mut.result.now ≡ bs = c.deref_mut.ensures.value ∙ o.ensures.items in
    let long : length rest ≡ o.others.len = length-left_marked bs found (sym (length-marked (is_true_at l cs counts) from bs)) ∙ sym o.ensures.len in
    let is_rest : taken ≡ rest = c.take_marks.ensures ∙ ap (λ ms. left_marked ms first) copied ∙ ap (left_marked bs) c.keep_true.ensures in
    let given : c.deref_mut-in-Ok.result.now ≡ rest = c.deref_mut-in-Ok.ensures.value ∙ take_at taken (drop (length taken) o.others.items) o.others.len (ap length is_rest ∙ long) ∙ is_rest in
    let told : last ≡ marked (is_true_at r cs counts) from rest = c.keep_true-in-Ok.ensures ∙ ap (marked (is_true_at r cs counts) from) given in
    let lasts : length last ≡ o.others.len = ap length told ∙ length-marked (is_true_at r cs counts) from rest ∙ long in
    let right : c.deref.result.now ≡ marked (is_true_at r cs counts) from rest =
    c.deref.ensures.value ∙ take_at last (drop (length last) (take o.others.len (taken ++ drop (length taken) o.others.items))) o.others.len lasts ∙ told in
    c.add_marks.ensures
    ∙ ap (λ ms. either_marked ms c.deref.result.now) c.keep_true.ensures
    ∙ ap (either_marked found) right
    ∙ marked-or cs counts c.args.e.now l r from bs c.requires.either

pub keep_true-returns-then-not-is_any : goal.keep_true-returns-then-not-is_any
keep_true-returns-then-not-is_any t c =
    marked_unset (is_true_at c.args.e.now c.args.table.chunk.now.columns c.args.table.counts) c.args.from c.args.marks.now (sym c.is_any.ensures ∙ c.if-not-is_any.true)

pub keep_true-returns : goal.keep_true-returns
keep_true-returns t c =
    let cs = c.args.table.chunk.now.columns in
    let counts = c.args.table.counts in
    let e = c.args.e.now in
    let from = c.args.from in
    let gs = c.gather.new.gaps.items in
    c.keep_gaps.ensures
    ∙ ap (λ xs. marked (are_true_at xs cs counts) from c.gather.new.marks) c.deref_mut.ensures.value
    ∙ gathered_all cs counts from (is_true_at e cs counts) gs c.args.marks.now c.gather.new.marks
    (subst (λ old. IsGathered cs counts (is_true_at e cs counts) from old gs c.args.marks.now c.gather.new.marks) c.new-gaps.ensures.items c.gather.ensures.gathered)

pub drop_any-sift-requires : goal.drop_any-sift-requires
drop_any-sift-requires t c = (omega arith, (c.requires.within, none_alike c.args.table.chunk.now.columns c.new-gaps.result.items c.args.e.now c.new-gaps.ensures.items))

pub keep_true-gather-requires : goal.keep_true-gather-requires
keep_true-gather-requires t c = (omega arith, (c.requires, none_alike c.args.table.chunk.now.columns c.new-gaps.result.items c.args.e.now c.new-gaps.ensures.items))
