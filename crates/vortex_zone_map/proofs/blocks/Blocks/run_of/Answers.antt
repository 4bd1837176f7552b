use Rattle.std.proofs.Common.{◌≡◌, ◌+◌, List, Some, ap, arith, get_or, length, subst, ◌∙◌}
use Rattle.std.proofs.lemmas.Option.{get_or_from_slice_get, slice_get_within}
use Rattle.std.specs.Prelude.{slice_get}
use Rattle.vortex_zone_map.proofs.BlockLemmas.{get_in, inside}
use Rattle.vortex_zone_map.specs.Blocks.{all_in}
use Rattle.vortex_zone_map.specs.declared.blocks.Block.{Block}
use Rattle.vortex_zone_map.specs.declared.entry_range.EntryRange.{EntryRange}
use Rattle.vortex_zone_map.proofs.blocks.Blocks.run_of.Goals as goal

pub returns-clause-run : goal.returns-clause-run
returns-clause-run c = record {
  at = λ i s got.
      let bs = c.args.self.now.blocks.items in
      let k = c.block_of-block.result in
      let b = c.index.result.now in
      let is : c.deref.result.now ≡ (get_or bs k b).stretches.items = c.deref.ensures.value ∙ ap (λ (x : Block). x.stretches.items) c.index.ensures in
      let there = subst (λ (l : List EntryRange). slice_get l i ≡ Some s) is got in
      ap (λ n. slice_get (all_in bs) (n + i)) c.before-2.ensures
      ∙ get_in bs k b c.block_of-block.ensures.there i s (slice_get_within (get_or bs k b).stretches.items i s there)
      ∙ ap Some (get_or_from_slice_get (get_or bs k b).stretches.items i s s there);
}

pub returns-clause-to : goal.returns-clause-to
returns-clause-to c =
    let b = c.index.result.now in
    let less = inside c.args.self.now.blocks.items c.args.place c.block_of-block.result c.before-2.result b b c.block_of-block.ensures c.index.ensures c.before-2.ensures in
    let long = ap length c.deref.ensures.value in
    omega (arith, less, long)
