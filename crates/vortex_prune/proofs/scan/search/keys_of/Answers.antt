use Rattle.std.proofs.Common.{◌≡◌, ◌++◌, ◌∷◌, [], if◌then◌else◌, ap, subst, sym, ◌∙◌}
use Rattle.vortex_prune.proofs.Scanning.KeyLemmas.{keys_more}
use Rattle.vortex_prune.specs.Scanning.Keys.{IsKey}
use Rattle.vortex_prune.proofs.scan.search.keys_of.Goals as goal

pub loop-gap-preserved : goal.loop-gap-preserved
loop-gap-preserved g c =
    let keys = c.loop-gap.keys.items in
    let key = c.in_ok-key.key in
    let pushed : c.push.new.self.items ≡ keys ++ key ∷ [] = c.push.ensures.items ∙ ap (λ b. if b then keys ++ key ∷ [] else keys) (sym c.in_ok-ok.ensures.variant) in
    let gap = c.gap-item.result in
    keys_more c.args.operator c.args.at_null g.T.Native.scalar keys c.push.new.self.items c.args.gaps.now key gap c.loop-gap.gap-index c.loop-gap.invariant c.loop-gap-test.true
    (subst (IsKey c.args.operator c.args.at_null (g.T.Native.scalar key)) c.gap-item.is c.in_ok-key.ensures) pushed
