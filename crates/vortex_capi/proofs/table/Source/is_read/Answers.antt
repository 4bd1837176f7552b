use Rattle.std.proofs.Common.{◌≡◌, arith, true}
use Rattle.std.proofs.lemmas.Bool.{OnTrue_at, OnTrue_from}
use Rattle.std.proofs.lemmas.Bool.Decides.{nat_tests}
use Rattle.std.specs.Prelude.{nat_le}
use Rattle.vortex_zone_map.proofs.ZoneMaps.ZonePlaces.{read_start}
use Rattle.vortex_capi.proofs.NumberLemmas.{read_by_code}
use Rattle.vortex_capi.proofs.table.Source.is_read.Goals as goal

pub returns-then-code-le2 : goal.returns-then-code-le2
returns-then-code-le2 c =
    let known = read_start c.args.self.now.statistic.known.now c.args.zone c.in-Some.code.now _ c.in-Some.ensures.lookup.0 c.in-Some.ensures.lookup.1 in
    let code : nat_le c.in-Some.code.now 2 ≡ true = grind (arith, nat_tests, c.if-code-le2.true) in
    OnTrue_from _ _ (λ h. let p = OnTrue_at h c.has_value.ensures in read_by_code c.args.self.now c.args.zone c.in-Some.code.now p.value known p.read p.fits code)
