use Rattle.std.proofs.Common.{◌≡◌, List, Option, Some, None, Result, Ok, Err, refl, sym, subst}
use Rattle.std.specs.Prelude.{OnOk, IfErr, alloc_error}
use Rattle.vortex_base.specs.declared.scalar_value.ScalarValue.{ScalarValue}
use Rattle.vortex_base.specs.Data.Columns.{ColumnData}
use Rattle.vortex_stats.specs.declared.error.StatsError.{StatsError}
use Rattle.vortex_stats.specs.declared.error.StatsError.TheVariants as errors
use Rattle.vortex_stats.specs.declared.precision.Precision.{Precision}
use Rattle.vortex_stats.specs.declared.stat.Stat.{Stat}
use Rattle.vortex_stats.specs.Sets.Claims.{IsTrueOf}
use Rattle.vortex_stats.specs.Merging.Combined.{Outcome, combined, Combines}
use Rattle.vortex_base_tests.proofs.statistics.callers.combined_of_one_column.Goals as goal

true_where_combined : (r : Result (Unit {0}) StatsError) (o : Outcome) (old new : List (Stat × Precision ScalarValue)) (c : ColumnData) → Combines o old new r → IsTrueOf o.entries c → OnOk r (IsTrueOf new c)
true_where_combined (Ok u) o old new c h t = subst (λ es. IsTrueOf es c) (sym h.1) t
true_where_combined (Err e) o old new c h t = tt

no_conflict : (s : Stat) (o : Option Stat) → o ≡ None → o ≡ Some s → ⊥
no_conflict s o n h = cc

memory_alone : (r : Result (Unit {0}) StatsError) (o : Outcome) (old new : List (Stat × Precision ScalarValue)) → Combines o old new r → o.conflict ≡ None → IfErr r (λ e. e ≡ errors.Memory alloc_error)
memory_alone (Ok u) o old new h n = tt
memory_alone (Err (errors.Memory e)) o old new h n = refl
memory_alone (Err (errors.Conflict s)) o old new h n = absurd (no_conflict s o.conflict n h.0)
memory_alone (Err e) o old new h n = absurd h

pub returns-clause-truth : goal.returns-clause-truth
returns-clause-truth c = λ col a b.
    true_where_combined c.combine_sets.result (combined c.args.set.now c.args.other.now) c.args.set.now c.combine_sets.new.self col c.combine_sets.ensures.combined
    (c.combinations_stay_true.ensures c.args.set.now c.args.other.now col c.combine_sets.ensures.distinct a b)

pub returns-clause-agreement : goal.returns-clause-agreement
returns-clause-agreement c = λ col a b.
    memory_alone c.combine_sets.result (combined c.args.set.now c.args.other.now) c.args.set.now c.combine_sets.new.self c.combine_sets.ensures.combined
    (c.true_sets_agree.ensures c.args.set.now c.args.other.now col c.combine_sets.ensures.distinct a b)
