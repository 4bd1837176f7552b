use Rattle.std.proofs.Common.{true, ap, map, refl, ◌∙◌}
use Rattle.vortex_normal.specs.Groups.{collected, item_of, items_fit}
use Rattle.vortex_normal.specs.Separate.{are_of_separate}
use Rattle.vortex_normal.proofs.Fits.{collected_fit}
use Rattle.vortex_normal.proofs.SeparateItems.{collected_separate}
use Rattle.vortex_normal.proofs.groups.grouped.Goals as goal

pub items_test-requires : goal.items_test-requires
items_test-requires c =
    let all = c.in_ok-collect.ensures.items ∙ ap (λ v. collected true c.args.e.now (map item_of v)) c.new-chain.ensures.items in
    record {
      fit = ap items_fit all ∙ collected_fit true c.args.e.now _ c.requires refl;
      separate = ap are_of_separate all ∙ collected_separate true c.args.e.now _ refl;
    }
