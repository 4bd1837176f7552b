use Rattle.std.proofs.Common.{◌≡◌, Some, arith, length, nat_cmp, refl, subst, sym}
use Rattle.std.specs.BTreeMap.{Updates}
use Rattle.vortex_normal.specs.Chains.{IsIndexOf}
use Rattle.vortex_normal.specs.Intervals.{place_at}
use Rattle.vortex_normal.specs.declared.groups.Item.TheVariants as kept
use Rattle.vortex_normal.proofs.Chained.{index_more}
use Rattle.vortex_normal.proofs.groups.Chain.push_said.Goals as goal

pub returns-clause-index : goal.returns-clause-index
returns-clause-index c =
    let chain = c.args.self.now in
    let said = c.args.said in
    let places = c.insert.new.self in
    let behind : c.len-behind.result ≡ length chain.items.items = omega (arith, c.len-behind.ensures, chain.items.ok.0) in
    let update = subst (λ n. Updates nat_cmp chain.places places said.place (Some n)) behind c.in_ok-insert.ensures.updates in
    subst (λ items. IsIndexOf items places) (sym c.in_ok-push.ensures.items)
    (index_more chain.items.items (kept.Inside said) (place_at said.place said.dtype) (λ d. refl) c.requires.absent chain.places places update c.requires.index)
