use Rattle.std.proofs.Common.{map, ap, sym, subst, ◌∙◌}
use Rattle.std.proofs.lemmas.Result.{err_from_is_err_and}
use Rattle.vortex_parquet.specs.Reading.{Fails}
use Rattle.vortex_parquet.specs.Stats.{all_of, leaf_set as leaf_set_of}
use Rattle.vortex_parquet.proofs.Alls.{all_goes, all_fails, all_done}
use Rattle.vortex_parquet.proofs.stats.leaf_sets.Goals as goal

pub returns-in_err-leaf_set : goal.returns-in_err-leaf_set
returns-in_err-leaf_set c =
    let p = err_from_is_err_and c.from_residual-in_err-leaf_set.result c.from_residual-in_err-leaf_set.ensures.1 in
    let one = leaf_set_of c.args.orders.now (map (λ s. s.now) c.args.columns.now) in
    let fails = subst (λ l. Fails c.in_err-leaf_set.field-0.0 (one l)) c.leaf-item.is c.in_err-leaf_set.ensures in
    rw (p.1, p.2) (all_fails c.in_err-leaf_set.field-0.0 one c.args.leaves.now c.loop-leaf.sets.items c.loop-leaf.leaf-index c.leaf-item.result (all_of one c.args.leaves.now) c.loop-leaf-test.true fails c.loop-leaf.invariant)

pub loop-leaf-preserved : goal.loop-leaf-preserved
loop-leaf-preserved c =
    let one = leaf_set_of c.args.orders.now (map (λ s. s.now) c.args.columns.now) in
    rw c.in_ok-push.ensures.items (all_goes one c.args.leaves.now c.loop-leaf.sets.items c.loop-leaf.leaf-index c.leaf-item.result c.in_ok-leaf_set.field-0 (all_of one c.args.leaves.now) c.loop-leaf-test.true (ap one (sym c.leaf-item.is) ∙ c.in_ok-leaf_set.ensures) c.loop-leaf.invariant)

pub returns : goal.returns
returns c =
    let one = leaf_set_of c.args.orders.now (map (λ s. s.now) c.args.columns.now) in
    all_done one c.args.leaves.now c.loop-leaf.sets.items c.loop-leaf.leaf-index (all_of one c.args.leaves.now) c.loop-leaf-test.false c.loop-leaf.invariant
