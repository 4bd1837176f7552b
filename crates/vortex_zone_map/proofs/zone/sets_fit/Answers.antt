use Rattle.std.proofs.Common.{sym, ◌∙◌, arith}
use Rattle.std.proofs.lemmas.Option.{get_or_from_slice_get, slice_get_within}
use Rattle.vortex_zone_map.proofs.ZoneLemmas.{sets_go_on, sets_stop}
use Rattle.vortex_zone_map.proofs.zone.sets_fit.Goals as goal

pub returns-then-not-fits : goal.returns-then-not-fits
returns-then-not-fits c =
    let sets = c.args.zone.now.stats in
    let set = c.set.result.now in
    sets_stop c.args.scope.now sets c.loop-i.i c.dtype.result set _ c.dtype.ensures (omega arith) (slice_get_within sets c.loop-i.i set c.set.ensures)
    (sym (get_or_from_slice_get sets c.loop-i.i set set c.set.ensures)) (sym c.fits.ensures ∙ c.if-not-fits.true) c.loop-i.invariant

pub loop-i-preserved : goal.loop-i-preserved
loop-i-preserved c =
    let sets = c.args.zone.now.stats in
    let set = c.set.result.now in
    sets_go_on c.args.scope.now sets c.loop-i.i c.dtype.result set _ c.dtype.ensures (omega arith) (slice_get_within sets c.loop-i.i set c.set.ensures)
    (sym (get_or_from_slice_get sets c.loop-i.i set set c.set.ensures)) (sym c.fits.ensures ∙ c.if-not-fits.false) c.loop-i.invariant
