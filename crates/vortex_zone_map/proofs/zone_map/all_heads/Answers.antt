use Rattle.std.proofs.Common.{◌≡◌, ◌<◌, ◌++◌, [], ◌∷◌, arith, ap, get_or, length, Some, ◌∙◌}
use Rattle.std.proofs.lemmas.Option.{slice_get-get_or}
use Rattle.std.specs.Prelude.{slice_get}
use Rattle.vortex_base.specs.declared.dtype.DType.TheVariants as dtype
use Rattle.vortex_base.specs.Data.Scopes.{Named}
use Rattle.vortex_zone_map.proofs.ZoneMaps.ZoneTables.{heads_more, starts_more}
use Rattle.vortex_zone_map.proofs.zone_map.all_heads.Goals as goal

pub loop-place-preserved : goal.loop-place-preserved
loop-place-preserved c =
    let scope = c.args.scope.now in
    let i = c.loop-place.place in
    let d : Named = ([], dtype.Null) in
    let within : i < length scope = omega (arith, c.loop-place-test.true, c.len-place-end.ensures.value) in
    let there : slice_get scope i ≡ Some (get_or scope i d) = slice_get-get_or scope i d within in
    let pushed = c.in_ok-push_heads.ensures (get_or scope i d) there in
    let started : c.push.new.self.items ≡ c.loop-place.starts.items ++ length c.loop-place.heads.items ∷ [] = c.in_ok-push.ensures.items ∙ ap (λ n. c.loop-place.starts.items ++ n ∷ []) (c.len.ensures ∙ c.loop-place.heads.ok.0) in
    record {
      heads = heads_more scope i (get_or scope i d) _ _ _ there pushed c.loop-place.invariant.heads;
      starts = starts_more scope i (get_or scope i d) _ _ _ _ _ there pushed started c.loop-place.invariant.starts;
    }
