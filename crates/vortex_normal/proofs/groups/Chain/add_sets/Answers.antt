use Rattle.std.proofs.Common.{ap, map, refl, sym, ◌∙◌}
use Rattle.vortex_expr.specs.Trees.Connectives.{is_and}
use Rattle.vortex_normal.specs.declared.groups.Item.TheVariants as kept
use Rattle.vortex_normal.specs.Groups.{item_of, widened}
use Rattle.vortex_normal.specs.Intervals.{place_at, set_of}
use Rattle.vortex_normal.proofs.Adding.{add_found, add_new}
use Rattle.vortex_normal.proofs.Chained.{index_changed, widened_of}
use Rattle.vortex_normal.proofs.groups.Chain.add_sets.Goals as goal

pub returns-in_ok-widen-in-Some-clause-items : goal.returns-in_ok-widen-in-Some-clause-items
returns-in_ok-widen-in-Some-clause-items c =
    let said = c.args.said in
    let sets = map set_of said.sets.items in
    add_found (is_and c.args.connective) (place_at said.place said.dtype) said.with_null sets c.args.self.now.items.items c.in-Some.found c.widen.new.item c.index_mut.result.now
    (sym c.find.ensures.value ∙ c.in-Some.is)
    (c.in_ok-widen-in-Some.ensures ∙ ap (λ k. widened (is_and c.args.connective) said.with_null sets (item_of k)) c.index_mut.ensures.value)

pub returns-in_ok-widen-in-Some-clause-index : goal.returns-in_ok-widen-in-Some-clause-index
returns-in_ok-widen-in-Some-clause-index c =
    let said = c.args.said in
    let chain = c.args.self.now in
    let items = chain.items.items in
    index_changed items c.in-Some.found c.widen.new.item
    (widened_of (is_and c.args.connective) said.with_null (map set_of said.sets.items) items c.in-Some.found c.widen.new.item c.index_mut.result.now c.in-Some.ensures.in_range c.index_mut.ensures.value c.in_ok-widen-in-Some.ensures)
    chain.places c.requires.index

pub returns-in_ok-push_said-in-None-clause-items : goal.returns-in_ok-push_said-in-None-clause-items
returns-in_ok-push_said-in-None-clause-items c =
    let said = c.args.said in
    ap (map item_of) c.in_ok-push_said-in-None.ensures.items
    ∙ add_new (is_and c.args.connective) (place_at said.place said.dtype) said.with_null (map set_of said.sets.items) c.args.self.now.items.items (kept.Inside said) (sym c.find.ensures.value ∙ c.in-None.is) refl
