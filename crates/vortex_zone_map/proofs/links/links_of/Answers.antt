use Rattle.std.proofs.Common.{◌≡◌, ◌<◌, ◌+◌, ◌-◌, ◌*◌, Some, ap, arith, length, rules, subst, sym, ◌∙◌}
use Rattle.std.proofs.lemmas.Option.{slice_get-get_or}
use Rattle.vortex_zone_map.proofs.LinkLemmas.{none_linked}
use Rattle.vortex_zone_map.specs.Tables.{AreLinked}
use Rattle.vortex_zone_map.proofs.links.links_of.Goals as goal

pub loop-place-init : goal.loop-place-init
loop-place-init c = record {
  wide = search rules;
  linked = none_linked c.args.heads.now (c.args.columns * 9) _ (c.in_ok-vec.ensures.items_if_clones_equal (λ y h. search h)) (search rules);
}

pub loop-place-preserved : goal.loop-place-preserved
loop-place-preserved c =
    let heads = c.args.heads.now in
    let k = c.loop-place.place - 1 in
    let next : c.loop-place.place ≡ k + 1 = omega (arith, c.loop-place-test.true) in
    let within : k < length heads = omega (arith, c.loop-place-test.true, c.loop-place.auto.place) in
    record {
      wide = c.link.ensures.wide ∙ c.loop-place.invariant.wide;
      linked =
          c.link.ensures.linked heads (slice_get-get_or heads k c.index-heads-place.result within ∙ ap Some (sym c.index-heads-place.is))
          (subst (λ m. AreLinked heads m c.loop-place.links) next c.loop-place.invariant.linked);
    }

pub returns-clause-linked : goal.returns-clause-linked
returns-clause-linked c = subst (λ k. AreLinked c.args.heads.now k c.loop-place.links) (omega (arith, c.loop-place-test.false)) c.loop-place.invariant.linked
