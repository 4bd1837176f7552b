use Rattle.std.proofs.Common.{◌≡◌, ◌+◌, ◌-◌, ap, arith, drop, sym, take, ◌∙◌}
use Rattle.std.specs.List.{list_all}
use Rattle.std.proofs.lemmas.Bool.{OnTrue_from}
use Rattle.vortex_capi.specs.MapCells.{is_exact}
use Rattle.vortex_capi.proofs.NumberLemmas.{exact_codes}
use Rattle.vortex_capi.proofs.numbers.stand_exactly.Goals as goal

pub returns-then-stand-clause-exact : goal.returns-then-stand-clause-exact
returns-then-stand-clause-exact g c =
    let stand = c.if-stand.ensures.there in
    let known = c.args.source.now.statistic.known.now in
    let count : c.args.from + c.args.count - c.args.from ≡ c.args.count = omega arith in
    OnTrue_from _ _ (λ codes. exact_codes known c.args.from c.args.count stand.known (ap (λ n. list_all is_exact (take n (drop c.args.from known))) (sym count) ∙ sym c.are_exact.ensures ∙ codes))
