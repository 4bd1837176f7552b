use Rattle.std.proofs.Common.{◌-◌, ◌<◌, ◌++◌, ◌∷◌, [], List, ap, arith, length, sym, ◌∙◌}
use Rattle.vortex_zone_map.proofs.BlockLemmas.{changed_counted, push_in, same_counted, same_in}
use Rattle.vortex_zone_map.proofs.StepLemmas.{on_err}
use Rattle.vortex_zone_map.specs.Blocks.{all_in}
use Rattle.vortex_zone_map.specs.declared.blocks.Block.{Block}
use Rattle.vortex_zone_map.specs.declared.entry_range.EntryRange.{EntryRange}
use Rattle.vortex_zone_map.proofs.blocks.Blocks.push.Goals as goal

pub returns-in_err-push-clause-refused : goal.returns-in_err-push-clause-refused
returns-in_err-push-clause-refused c =
    let bs = c.count_to.new.self.blocks.items in
    let k = c.len-near.result - 1 in
    let b = c.index_mut-last.result.now in
    let new : Block = record { stretches = c.push.new.self } in
    let same = ap (λ v. v.items) c.count_to.ensures.same in
    let is = ap (λ (x : Block). x.stretches.items) c.index_mut-last.ensures.value in
    let count = c.len-near.ensures ∙ c.args.self.now.blocks.ok.0 ∙ ap length (sym same) in
    let there : k < length bs = omega (arith, count) in
    on_err c.from_residual.result (same_in bs k b there new (c.in_err-push.ensures.items ∙ is) ∙ ap all_in same)

pub returns-in_err-push-clause-counted : goal.returns-in_err-push-clause-counted
returns-in_err-push-clause-counted c =
    let l = c.count_to.new.self in
    let bs = l.blocks.items in
    let k = c.len-near.result - 1 in
    let b = c.index_mut-last.result.now in
    let new : Block = record { stretches = c.push.new.self } in
    let same = ap (λ v. v.items) c.count_to.ensures.same in
    let is = ap (λ (x : Block). x.stretches.items) c.index_mut-last.ensures.value in
    let count = c.len-near.ensures ∙ c.args.self.now.blocks.ok.0 ∙ ap length (sym same) in
    let there : k < length bs = omega (arith, count) in
    same_counted bs k b there new l.count l.places.items l.near c.count_to.ensures.counted (ap length (c.in_err-push.ensures.items ∙ is))

pub returns-clause-pushed : goal.returns-clause-pushed
returns-clause-pushed c =
    let bs = c.count_to.new.self.blocks.items in
    let k = c.len-near.result - 1 in
    let b = c.index_mut-last.result.now in
    let s = c.args.stretch in
    let new : Block = record { stretches = c.push.new.self } in
    let same = ap (λ v. v.items) c.count_to.ensures.same in
    let is = ap (λ (x : Block). x.stretches.items) c.index_mut-last.ensures.value in
    let count = c.len-near.ensures ∙ c.args.self.now.blocks.ok.0 ∙ ap length (sym same) in
    let there : k < length bs = omega (arith, count) in
    push_in bs k b there s new (omega (arith, count)) (c.in_ok-push.ensures.items ∙ ap (λ (l : List EntryRange). l ++ s ∷ []) is)
    ∙ ap (λ (l : List Block). all_in l ++ s ∷ []) same

pub returns-clause-counted : goal.returns-clause-counted
returns-clause-counted c =
    let l = c.count_to.new.self in
    let bs = l.blocks.items in
    let k = c.len-near.result - 1 in
    let b = c.index_mut-last.result.now in
    let new : Block = record { stretches = c.push.new.self } in
    let same = ap (λ v. v.items) c.count_to.ensures.same in
    let is = ap (λ (x : Block). length x.stretches.items) c.index_mut-last.ensures.value in
    let count = c.len-near.ensures ∙ c.args.self.now.blocks.ok.0 ∙ ap length (sym same) in
    let there : k < length bs = omega (arith, count) in
    let counted = c.count_to.ensures.counted in
    let more = c.in-Some.ensures.1 in
    let whole = counted.whole in
    let before = c.requires.whole in
    let all = ap (λ (bs : List Block). length (all_in bs)) same in
    let grown = c.in_ok-push.ensures.len in
    let old = b.stretches.ok.0 ∙ is in
    let now = c.push.new.self.ok.0 in
    let near = c.count_to.ensures.near in
    changed_counted bs k b there new l.count c.in-Some.count l.places.items l.near counted (omega (arith, near)) (omega (arith, more, whole, before, all, grown, old, now))
