use Rattle.std.proofs.Common.{◌≡◌, ◌*◌, ◌≤◌, arith, length}
use Rattle.std.proofs.lemmas.Bool.{OnTrue_from}
use Rattle.std.proofs.lemmas.Bool.Decides.{nat_tests}
use Rattle.vortex_capi.specs.Types.{number_width}
use Rattle.vortex_capi.proofs.MadeLemmas.{numbers_there}
use Rattle.vortex_capi.proofs.number.has_numbers.Goals as goal

pub returns-in-Some-clause-numbers : goal.returns-in-Some-clause-numbers
returns-in-Some-clause-numbers g c =
    OnTrue_from _ _ (λ within.
    let t = g.N.Number.PTYPE in
    let width : c.number_width.result ≡ number_width t = rw c.PTYPE.ensures at c.number_width.ensures in
    let len : c.in-Some.len ≡ c.args.count * number_width t = rw width at c.in-Some.ensures.1 in
    let enough : c.in-Some.len ≤ length c.args.values.now = grind (arith, nat_tests, within) in
    numbers_there t c.args.values.now c.args.count (λ i. (c.type_inv.values i).fits) (rw len at enough))
