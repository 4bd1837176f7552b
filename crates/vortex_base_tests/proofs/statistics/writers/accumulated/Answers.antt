use Rattle.std.proofs.Common.{IsTrue, List, subst, sym, take, ◌∙◌}
use Rattle.std.proofs.lemmas.List.{take_all}
use Rattle.vortex_base.specs.declared.dtype.DType.{DType}
use Rattle.vortex_base.specs.Data.Columns.{ColumnData}
use Rattle.vortex_stats.specs.Sets.Claims.{IsTrueOf}
use Rattle.vortex_stats.specs.Sets.Entries.{entries_fit}
use Rattle.vortex_stats.specs.Stat.{all_stats}
use Rattle.vortex_base_tests.specs.StatisticsRows.Writing.{IsMeasuredThroughout, written}
use Rattle.vortex_base_tests.proofs.StatisticsRows.AddedUp.{exact_first, exact_kept, throughout_first, throughout_last}
use Rattle.vortex_base_tests.proofs.StatisticsRows.ExactEntries.{exact_is_measured}
use Rattle.vortex_base_tests.proofs.StatisticsRows.WritingLemmas.{taken_next, type_so_far, written_next}
use Rattle.vortex_base_tests.proofs.statistics.writers.accumulated.Goals as goal

pub with_batch-requires : goal.with_batch-requires
with_batch-requires c =
    subst (λ (t : DType). IsTrue (entries_fit c.loop-batch.set t)) (type_so_far c.args.first.now c.args.more.now c.loop-batch.batch-index c.batch-item.result c.requires c.loop-batch-test.true c.batch-item.is) c.loop-batch.invariant.truth.fits

pub loop-batch-init : goal.loop-batch-init
unfolding all_stats
loop-batch-init c = record {
  truth = c.in_ok-set.ensures.true_of;
  exact = λ s k h. exact_first s c.in_ok-set.set c.args.first.now c.in_ok-set.ensures.measured (throughout_first s c.args.first.now (take 0 c.args.more.now) h);
}

pub loop-batch-preserved : goal.loop-batch-preserved
loop-batch-preserved c =
    let first = c.args.first.now in
    let more = c.args.more.now in
    let i = c.loop-batch.batch-index in
    let batch = c.batch-item.result in
    let so_far = written first (take i more) in
    let types = type_so_far first more i batch c.requires c.loop-batch-test.true c.batch-item.is in
    record {
      truth =
          subst (λ (d : ColumnData). IsTrueOf c.in_ok-set-2.set d) (written_next first more i batch c.requires c.loop-batch-test.true c.batch-item.is)
          (c.in_ok-set-2.ensures.truth so_far types c.loop-batch.invariant.truth);
      exact = λ s k h.
          let parts = throughout_last s first (take i more) batch (subst (λ (l : List ColumnData). IsMeasuredThroughout s first l) (taken_next first more i batch c.requires c.loop-batch-test.true c.batch-item.is) h) in
          exact_kept s c.in_ok-set-2.set c.loop-batch.set so_far batch k types c.in_ok-set-2.ensures.merged c.loop-batch.invariant.truth (c.loop-batch.invariant.exact s k parts.0) parts.1.0 parts.1.1;
    }

pub returns-clause-exact : goal.returns-clause-exact
returns-clause-exact c = λ s v is.
    exact_is_measured s v c.loop-batch.set (written c.args.first.now c.args.more.now)
    (subst (λ (l : List ColumnData). IsTrueOf c.loop-batch.set (written c.args.first.now l)) (take_all c.loop-batch.batch-index c.args.more.now c.loop-batch-test.false) c.loop-batch.invariant.truth) is

pub returns-clause-equal : goal.returns-clause-equal
returns-clause-equal c = λ s k h.
    let first = c.args.first.now in
    let all = take_all c.loop-batch.batch-index c.args.more.now c.loop-batch-test.false in
    let e = c.loop-batch.invariant.exact s k (subst (λ (l : List ColumnData). IsMeasuredThroughout s first l) (sym all) h) in
    e.is
    ∙ sym (exact_is_measured s e.value c.loop-batch.set (written first c.args.more.now) (subst (λ (l : List ColumnData). IsTrueOf c.loop-batch.set (written first l)) all c.loop-batch.invariant.truth) e.is)
