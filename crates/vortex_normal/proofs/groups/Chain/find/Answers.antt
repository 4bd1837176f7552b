use Rattle.std.proofs.Common.{None, Some, ap, arith, sym, ◌∙◌}
use Rattle.vortex_normal.specs.Groups.{is_of, item_of}
use Rattle.vortex_normal.specs.Intervals.{place_at}
use Rattle.vortex_normal.proofs.Chained.{told}
use Rattle.vortex_normal.proofs.groups.Chain.find.Goals as goal

pub index-requires : goal.index-requires
index-requires c =
    let chain = c.args.self.now in
    let at = told (place_at c.args.place c.args.dtype) chain.items.items chain.places c.copied.result (Some c.in-Some.found) (c.copied.ensures ∙ c.get.ensures.value) c.in-Some.is c.requires in
    omega (arith, at.0, chain.items.ok.0)

pub returns-in-None-clause-value : goal.returns-in-None-clause-value
returns-in-None-clause-value c =
    let chain = c.args.self.now in
    sym (told (place_at c.args.place c.args.dtype) chain.items.items chain.places c.copied.result None (c.copied.ensures ∙ c.get.ensures.value) c.in-None.is c.requires)

pub returns-then-is_of-clause-value : goal.returns-then-is_of-clause-value
returns-then-is_of-clause-value c =
    let chain = c.args.self.now in
    let column = place_at c.args.place c.args.dtype in
    let at = told column chain.items.items chain.places c.copied.result (Some c.in-Some.found) (c.copied.ensures ∙ c.get.ensures.value) c.in-Some.is c.requires in
    sym (at.1 c.index.result.now (sym (ap (λ k. is_of column (item_of k)) c.index.ensures) ∙ sym c.is_of.ensures ∙ c.if-is_of.true))

pub returns-then-is_of-clause-in_range : goal.returns-then-is_of-clause-in_range
returns-then-is_of-clause-in_range c =
    let chain = c.args.self.now in
    (told (place_at c.args.place c.args.dtype) chain.items.items chain.places c.copied.result (Some c.in-Some.found) (c.copied.ensures ∙ c.get.ensures.value) c.in-Some.is c.requires).0
