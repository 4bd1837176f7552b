use Rattle.std.proofs.Common.{◌++◌, ap, map, subst, sym, take, ◌∙◌, arith}
use Rattle.std.proofs.lemmas.List.{length-take-le}
use Rattle.vortex_text.proofs.BatchLemmas.{found_behind, selected_rise, skipped_rise, whole_rise}
use Rattle.vortex_text.specs.Batches.{CanRise, raised}
use Rattle.vortex_text.proofs.batches.scan_more.Goals as goal

pub add_places-requires : goal.add_places-requires
add_places-requires c =
    let batch = take c.args.count c.args.left.now in
    subst (CanRise c.args.before) (sym c.deref.ensures.value) (skipped_rise c.args.predicate.now c.args.before batch c.in_ok-more.more (omega (arith, c.requires.few, length-take-le c.args.count c.args.left.now c.requires.within)) c.in_ok-more.ensures)

pub add_places-requires-2 : goal.add_places-requires-2
add_places-requires-2 c =
    let batch = take c.args.count c.args.left.now in
    subst (CanRise c.args.before) (sym c.deref-2.ensures.value) (whole_rise c.args.predicate.now c.args.before batch c.in_ok-more.more (omega (arith, c.requires.few, length-take-le c.args.count c.args.left.now c.requires.within)) c.in_ok-more.ensures)

pub add_rows-requires : goal.add_rows-requires
add_rows-requires c =
    let batch = take c.args.count c.args.left.now in
    selected_rise c.args.predicate.now c.args.before batch c.in_ok-more.more (omega (arith, c.requires.few, length-take-le c.args.count c.args.left.now c.requires.within)) c.in_ok-more.ensures

pub returns-clause-found : goal.returns-clause-found
returns-clause-found c =
    let p = c.args.predicate.now in
    let n = c.args.before in
    let old = c.args.found.now in
    let more = c.in_ok-more.more in
    λ parts long first.
    found_behind p n parts (take c.args.count c.args.left.now) old more _ long first c.in_ok-more.ensures
    (c.in_ok-add_places.ensures ∙ ap (λ l. old.skipped.items ++ map (raised n) l) c.deref.ensures.value)
    (c.in_ok-add_places-2.ensures ∙ ap (λ l. old.whole.items ++ map (raised n) l) c.deref-2.ensures.value)
    c.in_ok-add_rows.ensures
