use Rattle.std.proofs.Common.{◌∙◌, rules, sym}
use Rattle.vortex_base.proofs.Data.OrderLemmas.{value_cmp-ties}
use Rattle.vortex_base.specs.Data.ArrayData.{value_of}
use Rattle.vortex_prune.proofs.Scanning.GapOrder.{equal_of}
use Rattle.vortex_prune.proofs.scan.gaps.is_point.Goals as goal

pub returns : goal.returns
returns c held =
    let gap = c.args.gap.now in
    record {
      above = search rules;
      below = search rules;
      same = (value_cmp-ties (value_of gap.above.value) (value_of gap.below.value)).0 (sym c.order.ensures ∙ equal_of c.order.result (sym c.is_eq.ensures ∙ held));
    }
