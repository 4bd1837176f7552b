use Rattle.std.proofs.Common.{◌≡◌, ◌<◌, ◌≤◌, ◌+◌, [], ◌∷◌, Ok, Some, ap, arith, length, map, subst, sym, take, ◌∙◌}
use Rattle.std.proofs.lemmas.List.{map-append, take_all, take_more_set}
use Rattle.vortex_base.specs.declared.scalar_value.ScalarValue.TheVariants as value
use Rattle.vortex_stats.specs.declared.precision.Precision.TheVariants.{Exact}
use Rattle.vortex_capi.specs.MapCells.{told_cells}
use Rattle.vortex_capi.proofs.NumberLemmas.{cells_of, read_exactly, told_on}
use Rattle.vortex_capi.proofs.numbers.put_truths_of.Goals as goal

pub loop-place-preserved : goal.loop-place-preserved
loop-place-preserved g c =
    let l = c.loop-place in
    let x = c.args.source.now in
    let number = c.value-number.result in
    let truth = c.in_ok-truths.field-0 in
    let there = c.standing.ensures ∙ ap (λ p. Ok (value.Primitive p)) (sym c.value-number.ensures) in
    let room : l.place < length l.truths = omega arith in
    let at : l.place < length c.args.truths.now = omega arith in
    let more = take_more_set l.truths l.place truth room in
    told_on value.Bool c.args.aggregate x c.args.rows.now c.args.from l.place (map (λ b. Some b) (take l.place l.truths)) _ (Some truth) (Exact number)
    (ap (map (λ b. Some b)) more ∙ map-append (λ b. Some b) (take l.place l.truths) (truth ∷ []))
    (read_exactly x (c.args.from + l.place) (value.Primitive number) (c.requires.exact l.place at) there) c.in_ok-truths.ensures l.invariant

pub returns : goal.returns
returns g c =
    let l = c.loop-place in
    let all : length l.truths ≤ l.place = omega arith in
    let end : l.place ≡ length c.args.truths.now = omega arith in
    subst (λ n. told_cells c.args.aggregate (Some c.args.source.now) c.args.rows.now c.args.from n ≡ Ok (cells_of value.Bool l.truths)) end (l.invariant ∙ ap (λ ts. Ok (cells_of value.Bool ts)) (take_all l.place l.truths all))
