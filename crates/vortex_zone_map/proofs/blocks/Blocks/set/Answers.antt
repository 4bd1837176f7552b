use Rattle.std.proofs.Common.{◌≡◌, ◌-◌, ◌+◌, List, ap, arith, get_or, length, refl, ◌∙◌}
use Rattle.std.proofs.Math.ListN.{set}
use Rattle.std.proofs.lemmas.List.{length-set}
use Rattle.std.specs.Vec.{with_item}
use Rattle.vortex_zone_map.proofs.BlockLemmas.{inside, same_counted, set_in}
use Rattle.vortex_zone_map.specs.Blocks.{all_in, before}
use Rattle.vortex_zone_map.specs.declared.blocks.Block.{Block}
use Rattle.vortex_zone_map.specs.declared.entry_range.EntryRange.{EntryRange}
use Rattle.vortex_zone_map.proofs.blocks.Blocks.set.Goals as goal

pub index_mut-requires : goal.index_mut-requires
index_mut-requires c =
    let b = c.index_mut-own.result.now in
    let less = inside c.args.self.now.blocks.items c.args.place c.block_of-block.result c.before-2.result b b c.block_of-block.ensures c.index_mut-own.ensures.value c.before-2.ensures in
    let long = b.stretches.ok.0 in
    omega (arith, less, long)

pub returns-clause-set : goal.returns-clause-set
returns-clause-set c =
    let bs = c.args.self.now.blocks.items in
    let k = c.block_of-block.result in
    let b = c.index_mut-own.result.now in
    let i = c.args.place - c.before-2.result in
    let s = c.args.stretch in
    let new : Block = record { stretches = with_item b.stretches i s } in
    let is = ap (λ (x : Block). x.stretches.items) c.index_mut-own.ensures.value in
    let at = c.block_of-block.ensures in
    let less = inside bs c.args.place k c.before-2.result b (get_or bs k b) at refl c.before-2.ensures in
    let from = at.from in
    let told = c.before-2.ensures in
    let place : before bs k + i ≡ c.args.place = omega (arith, from, told) in
    set_in bs k b at.there i s new less (ap (λ (l : List EntryRange). set l i s) is)
    ∙ ap (λ n. set (all_in bs) n s) place

pub returns-clause-counted : goal.returns-clause-counted
returns-clause-counted c =
    let l = c.args.self.now in
    let bs = l.blocks.items in
    let b = c.index_mut-own.result.now in
    let i = c.args.place - c.before-2.result in
    let s = c.args.stretch in
    let new : Block = record { stretches = with_item b.stretches i s } in
    same_counted bs c.block_of-block.result b c.block_of-block.ensures.there new l.count l.places.items l.near c.requires.counted
    (length-set b.stretches.items i s ∙ ap (λ (x : Block). length x.stretches.items) c.index_mut-own.ensures.value)
