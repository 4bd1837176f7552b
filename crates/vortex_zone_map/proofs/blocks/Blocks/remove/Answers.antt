use Rattle.std.proofs.Common.{◌≡◌, ◌-◌, ◌+◌, ◌++◌, List, ap, ap₂, arith, drop, get_or, length, refl, subst, sym, take, ◌∙◌}
use Rattle.vortex_zone_map.proofs.BlockLemmas.{before_within, changed_counted, inside, remove_in}
use Rattle.vortex_zone_map.specs.Blocks.{IsBlockOf, all_in, before}
use Rattle.vortex_zone_map.specs.declared.blocks.Block.{Block}
use Rattle.vortex_zone_map.specs.declared.entry_range.EntryRange.{EntryRange}
use Rattle.vortex_zone_map.proofs.blocks.Blocks.remove.Goals as goal

pub remove-requires : goal.remove-requires
remove-requires c =
    let bs = c.count_to.new.self.blocks.items in
    let k = c.block_of-block.result in
    let b = c.index_mut-own.result.now in
    let same = ap (λ v. v.items) c.count_to.ensures.same in
    let at : IsBlockOf bs c.args.place k = subst (λ (l : List Block). IsBlockOf l c.args.place k) (sym same) c.block_of-block.ensures in
    let less = inside bs c.args.place k c.before-2.result b b at c.index_mut-own.ensures.value c.before-2.ensures in
    let long = b.stretches.ok.0 in
    omega (arith, less, long)

pub returns-clause-removed : goal.returns-clause-removed
returns-clause-removed c =
    let bs = c.count_to.new.self.blocks.items in
    let k = c.block_of-block.result in
    let b = c.index_mut-own.result.now in
    let i = c.args.place - c.before-2.result in
    let new : Block = record { stretches = c.remove.new.self } in
    let same = ap (λ v. v.items) c.count_to.ensures.same in
    let is = ap (λ (x : Block). x.stretches.items) c.index_mut-own.ensures.value in
    let at : IsBlockOf bs c.args.place k = subst (λ (l : List Block). IsBlockOf l c.args.place k) (sym same) c.block_of-block.ensures in
    let less = inside bs c.args.place k c.before-2.result b (get_or bs k b) at refl c.before-2.ensures in
    let from = at.from in
    let told = c.before-2.ensures in
    let place : before bs k + i ≡ c.args.place = omega (arith, from, told) in
    remove_in bs k b at.there i new less (c.remove.ensures.by_index.2 ∙ ap (λ (l : List EntryRange). take i l ++ drop (i + 1) l) is)
    ∙ ap₂ (λ (l : List Block) n. take n (all_in l) ++ drop (n + 1) (all_in l)) same place

pub returns-clause-counted : goal.returns-clause-counted
returns-clause-counted c =
    let l = c.count_to.new.self in
    let bs = l.blocks.items in
    let k = c.block_of-block.result in
    let b = c.index_mut-own.result.now in
    let new : Block = record { stretches = c.remove.new.self } in
    let same = ap (λ v. v.items) c.count_to.ensures.same in
    let at : IsBlockOf bs c.args.place k = subst (λ (l : List Block). IsBlockOf l c.args.place k) (sym same) c.block_of-block.ensures in
    let counted = c.count_to.ensures.counted in
    let to = at.to in
    let all = before_within bs (k + 1) in
    let whole = counted.whole in
    let less = c.remove.ensures.len in
    let old = b.stretches.ok.0 ∙ ap (λ (x : Block). length x.stretches.items) c.index_mut-own.ensures.value in
    let now = c.remove.new.self.ok.0 in
    changed_counted bs k b at.there new l.count (l.count - 1) l.places.items l.near counted c.count_to.ensures.near (omega (arith, to, all, whole, less, old, now))
