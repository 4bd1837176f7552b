use Rattle.std.proofs.Common.{◌-◌, ◌<◌, ap, arith, length, ◌∙◌}
use Rattle.std.proofs.lemmas.Bool.{ltb-true}
use Rattle.vortex_zone_map.proofs.BlockLemmas.{before_next}
use Rattle.vortex_zone_map.specs.declared.blocks.Block.{Block}
use Rattle.vortex_zone_map.proofs.blocks.Blocks.is_in.Goals as goal

pub returns-then-before-place : goal.returns-then-before-place
returns-then-before-place c = λ is.
    let bs = c.args.self.now.blocks.items in
    let k = c.args.block in
    let b = c.index.result.now in
    let less : c.args.place - c.before-before.result < c.len-then-before-place.result = ltb-true _ _ is in
    let count = c.len.ensures ∙ c.args.self.now.blocks.ok.0 in
    let there : k < length bs = omega (arith, count) in
    let long = c.len-then-before-place.ensures ∙ b.stretches.ok.0 ∙ ap (λ (x : Block). length x.stretches.items) c.index.ensures in
    let next = before_next bs k b there in
    let before = c.before-before.ensures in
    record { there = there; from = omega (arith, before); to = omega (arith, less, long, next, before) }
