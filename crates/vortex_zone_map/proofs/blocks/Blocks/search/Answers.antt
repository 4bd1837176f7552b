use Rattle.std.proofs.Common.{◌≡◌, ap, arith, length, ◌∙◌}
use Rattle.vortex_zone_map.proofs.BlockLemmas.{before_all, some_block}
use Rattle.vortex_zone_map.specs.Blocks.{before}
use Rattle.vortex_zone_map.proofs.blocks.Blocks.search.Goals as goal

pub halves-init : goal.halves-init
halves-init c =
    let bs = c.args.self.now.blocks.items in
    let all : c.len-high.result ≡ length bs = c.len-high.ensures ∙ c.args.self.now.blocks.ok.0 in
    let there = c.requires.there in
    let some = some_block bs (omega (arith, there)) in
    let end = ap (before bs) all ∙ before_all bs in
    record {
      ascends = omega (arith, some, all);
      within = omega (arith, all);
      from = omega arith;
      to = omega (arith, there, end);
    }
