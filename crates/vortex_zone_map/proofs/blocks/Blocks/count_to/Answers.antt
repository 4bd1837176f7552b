use Rattle.std.proofs.Common.{◌≡◌, ◌-◌, arith, get_or, ◌∙◌}
use Rattle.std.proofs.lemmas.List.{get_or_default}
use Rattle.vortex_zone_map.proofs.BlockLemmas.{before_within, down_counted}
use Rattle.vortex_zone_map.proofs.blocks.Blocks.count_to.Goals as goal

pub overflow_sub-self-in-down : goal.overflow_sub-self-in-down
overflow_sub-self-in-down c =
    let b = c.down.self in
    let is = c.down.invariant.counted in
    let long = is.long in
    let within = is.within in
    let told = is.first (b.near - 1) (omega arith) in
    let all = before_within b.blocks.items (b.near - 1) in
    let whole = is.whole in
    let at : c.index-in-down.result.now ≡ get_or b.places.items (b.near - 1) 0 = c.index-in-down.ensures ∙ get_or_default b.places.items (b.near - 1) c.index-in-down.result.now 0 (omega arith) in
    omega (arith, told, all, whole, at)

pub down-preserved : goal.down-preserved
down-preserved c =
    let b = c.down.self in
    let is = c.down.invariant.counted in
    let long = is.long in
    let within = is.within in
    let at : c.index-in-down.result.now ≡ get_or b.places.items (b.near - 1) 0 = c.index-in-down.ensures ∙ get_or_default b.places.items (b.near - 1) c.index-in-down.result.now 0 (omega arith) in
    record {
      same = c.down.invariant.same;
      counted = down_counted b.count b.blocks.items b.places.items b.near (b.near - 1) c.index-in-down.result.now is (omega arith) at;
      enough = omega arith;
    }
