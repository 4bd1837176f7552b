use Rattle.std.proofs.lemmas.Result.{err_from_is_err_and}
use Rattle.vortex_capi.proofs.MergeLemmas.{zones_stop}
use Rattle.vortex_capi.proofs.merge_zones.zones_set.Goals as goal

pub with_zone-requires : goal.with_zone-requires
with_zone-requires c = c.loop-zone.invariant.1

pub returns-in_err-set-2 : goal.returns-in_err-set-2
returns-in_err-set-2 c =
    let p = err_from_is_err_and c.from_residual-in_err-set-2.result c.from_residual-in_err-set-2.ensures.1 in
    rw (p.1, p.2)
    (λ not_memory.
    zones_stop c.args.dtype c.args.table.now c.loop-zone.zone c.args.zones c.loop-zone.set _ c.loop-zone.auto.zone c.loop-zone-test.true c.loop-zone.invariant.0 (c.in_err-set-2.ensures.read not_memory))
