use Rattle.std.proofs.Common.{◌≡◌, ◌<◌, [], arith, get_or, length, Some}
use Rattle.std.proofs.lemmas.Option.{slice_get-get_or}
use Rattle.std.specs.Prelude.{slice_get}
use Rattle.vortex_base.specs.declared.dtype.DType.TheVariants as dtype
use Rattle.vortex_base.specs.Data.Scopes.{Named}
use Rattle.vortex_zone_map.proofs.ZoneMaps.ZoneTables.{values_more}
use Rattle.vortex_zone_map.proofs.zone_map.row_of.Goals as goal

pub loop-place-preserved : goal.loop-place-preserved
loop-place-preserved c =
    let scope = c.args.scope.now in
    let i = c.loop-place.place in
    let d : Named = ([], dtype.Null) in
    let within : i < length scope = omega (arith, c.loop-place-test.true, c.len-place-end.ensures.value) in
    let there : slice_get scope i ≡ Some (get_or scope i d) = slice_get-get_or scope i d within in
    values_more c.args.zone.now scope i (get_or scope i d) _ _ _ there (c.in_ok-push_values.ensures.values (get_or scope i d) there) c.loop-place.invariant
