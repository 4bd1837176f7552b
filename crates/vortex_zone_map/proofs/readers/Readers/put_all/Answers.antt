use Rattle.std.proofs.Common.{◌*◌, ◌++◌, ◌∷◌, ap, arith, refl, subst, take, ◌∙◌}
use Rattle.std.proofs.lemmas.List.{take_all}
use Rattle.vortex_zone_map.proofs.LogLemmas.{length-sets_with}
use Rattle.vortex_zone_map.proofs.TableLemmas.{next_sets, zone_with}
use Rattle.vortex_zone_map.specs.Kept.{said, sets_with}
use Rattle.vortex_zone_map.specs.Tables.{AreCells}
use Rattle.vortex_zone_map.proofs.readers.Readers.put_all.Goals as goal

pub loop-next-preserved : goal.loop-next-preserved
loop-next-preserved c = λ before after sets at long is.
    let r = c.args.self.now in
    let n = c.loop-next.next in
    let now = sets_with sets (said r.var_len_values.now (take n c.args.told.now)) in
    subst (λ z. AreCells r.heads.now (before ++ z ∷ after) c.put.new.cells) (next_sets r.var_len_values.now c.args.told.now n _ sets c.args.rows c.loop-next-test.true)
    (c.in_ok-put.ensures before after (zone_with c.args.rows now) at refl (ap (λ k. k * 9) (length-sets_with sets (said r.var_len_values.now (take n c.args.told.now))) ∙ long) (c.loop-next.invariant before after sets at long is))

pub returns : goal.returns
returns c = λ before after sets at long is.
    let r = c.args.self.now in
    subst (λ ts. AreCells r.heads.now (before ++ zone_with c.args.rows (sets_with sets (said r.var_len_values.now ts)) ∷ after) c.loop-next.cells) (take_all c.loop-next.next c.args.told.now (omega (arith, c.loop-next-test.false)))
    (c.loop-next.invariant before after sets at long is)
