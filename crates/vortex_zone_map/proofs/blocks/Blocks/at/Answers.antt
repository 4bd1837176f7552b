use Rattle.std.proofs.Common.{◌≡◌, ◌-◌, ◌+◌, List, Some, ap, arith, get_or, refl, sym, ◌∙◌}
use Rattle.std.specs.Prelude.{slice_get}
use Rattle.vortex_zone_map.proofs.BlockLemmas.{get_in, inside}
use Rattle.vortex_zone_map.specs.Blocks.{all_in, before}
use Rattle.vortex_zone_map.specs.declared.blocks.Block.{Block}
use Rattle.vortex_zone_map.specs.declared.entry_range.EntryRange.{EntryRange}
use Rattle.vortex_zone_map.proofs.blocks.Blocks.at.Goals as goal

pub index-requires-2 : goal.index-requires-2
index-requires-2 c =
    let b = c.index.result.now in
    let less = inside c.args.self.now.blocks.items c.args.place c.block_of-block.result c.before-2.result b b c.block_of-block.ensures c.index.ensures c.before-2.ensures in
    let long = b.stretches.ok.0 in
    omega (arith, less, long)

pub returns : goal.returns
returns c =
    let bs = c.args.self.now.blocks.items in
    let k = c.block_of-block.result in
    let b = c.index.result.now in
    let i = c.args.place - c.before-2.result in
    let s = c.index-2.result.now in
    let is = ap (λ (x : Block). x.stretches.items) c.index.ensures in
    let at = c.block_of-block.ensures in
    let less = inside bs c.args.place k c.before-2.result b (get_or bs k b) at refl c.before-2.ensures in
    let from = at.from in
    let told = c.before-2.ensures in
    let place : c.args.place ≡ before bs k + i = omega (arith, from, told) in
    ap (slice_get (all_in bs)) place
    ∙ get_in bs k b at.there i s less
    ∙ ap Some (ap (λ (l : List EntryRange). get_or l i s) (sym is) ∙ sym c.index-2.ensures)
