use Rattle.std.proofs.Common.{rules}
use Rattle.std.proofs.lemmas.Fn.{always_returns_same}
use Rattle.vortex_normal.proofs.Sorting.{below_is_order, is_below, sort_is}
use Rattle.vortex_normal.proofs.interval.sort.Goals as goal

pub returns : goal.returns
returns c =
    let compares = always_returns_same _ _ _ (λ a r f k. search rules) in
    sort_is _ _ (c.in_ok-sort_by.ensures.sorted is_below below_is_order compares) (c.in_ok-sort_by.ensures.stable is_below below_is_order compares)
