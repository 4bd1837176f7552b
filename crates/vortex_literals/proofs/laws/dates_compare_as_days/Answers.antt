use Rattle.std.proofs.Common.{ap₂, ◌∙◌, arith, pos}
use Rattle.std.specs.Prelude.{◌*ℤ◌}
use Rattle.std.specs.Ordering.{int_cmp}
use Rattle.vortex_logical.proofs.Products.{product_once}
use Rattle.vortex_logical.proofs.Dividing.{scaled_cmp}
use Rattle.vortex_literals.proofs.laws.dates_compare_as_days.Goals as goal

pub returns : goal.returns
returns c = λ n day.
    ap₂ int_cmp (product_once (n *ℤ pos 86_400)) (product_once (day *ℤ pos 86_400)) ∙ scaled_cmp n day 86_400 (omega arith)
