use Rattle.std.proofs.Common.{◌||◌, arith, subst, sym, true}
use Rattle.std.specs.Prelude.{slice_set}
use Rattle.vortex_expr.specs.Trees.Tree.{Place, column}
use Rattle.vortex_capi.specs.NamedStats.{AreMarks, asks}
use Rattle.vortex_capi.proofs.MarkLemmas.{code_below, mark_passed, one_more_mark}
use Rattle.vortex_capi.proofs.PlaceLemmas.{place_there}
use Rattle.vortex_capi.proofs.named.mark_input.Goals as goal

pub returns-then-place-columns : goal.returns-then-place-columns
returns-then-place-columns c = λ asked are.
    let f = c.args.aggregate in
    let marks = c.args.marks.now in
    let own : Place = record { index = c.in-Column.place; dtype = c.in-Column.field-1 } in
    let there = place_there c.in-Column.place c.args.columns _ (code_below f) c.if-place-columns.true in
    let marked = one_more_mark asked f own marks are (omega (arith, there, c.requires)) in
    subst (λ x. AreMarks (λ i g. asked i g || asks f x i g) (slice_set marks c.mark_place.result true)) (sym c.in-Column.ensures)
    (subst (λ k. AreMarks (λ i g. asked i g || asks f (column own) i g) (slice_set marks k true)) (sym c.mark_place.ensures) marked)

pub returns-else-place-columns : goal.returns-else-place-columns
returns-else-place-columns c = λ asked are.
    let f = c.args.aggregate in
    let marks = c.args.marks.now in
    let own : Place = record { index = c.in-Column.place; dtype = c.in-Column.field-1 } in
    subst (λ x. AreMarks (λ i g. asked i g || asks f x i g) marks) (sym c.in-Column.ensures)
    (mark_passed asked f own marks are c.args.columns c.requires c.if-place-columns.false)
