-- What facts say of one row, as authors of rules rest on it.
use Rattle.std.proofs.Common.{◌≡◌, Bool, true, false, not, ◌&&◌, ◌||◌, Option, Some, refl, subst}
use Rattle.vortex_base.specs.Data.Columns.{row_of, row_count as rows_of}
use Rattle.vortex_base.specs.Data.Values.{value_cmp}
use Rattle.vortex_expr.specs.Meanings.Fitting.{fits_scope}
use Rattle.vortex_expr.specs.Meanings.Meaning.{meaning}
use Rattle.vortex_expr.specs.Trees.Tree.{has_placeholder}
use Rattle.vortex_base.specs.declared.aggregate.AggregateFnRef.TheVariants.{Max, Min}
use Rattle.vortex_base.specs.declared.scalar_value.ScalarValue.{ScalarValue}
use Rattle.vortex_stats.specs.Bounds.Order.{AtMost}
use Rattle.vortex_rewrite.proofs.Soundness.RowFacts.{right_at}
use Rattle.vortex_rewrite.proofs.Soundness.RowRules.{Bounds, IsNotAbove, IsNotBelow}
use Rattle.vortex_rewrite.specs.RuleLaws.{FactsHoldAtRows, WholesAreOver}

not_true : (b : Bool) → not b ≡ true → b ≡ false
not_true true h = cc
not_true false h = refl

above : (o x : Option ScalarValue) (v w : ScalarValue) → Bounds IsNotAbove o x → o ≡ Some v → x ≡ Some w → AtMost value_cmp w v
above o x v w h is here = not_true _ (subst (λ y. IsNotAbove v y) here (subst (λ p. Bounds IsNotAbove p x) is h))

below : (o x : Option ScalarValue) (v w : ScalarValue) → Bounds IsNotBelow o x → o ≡ Some v → x ≡ Some w → AtMost value_cmp v w
below o x v w h is here = not_true _ (subst (λ y. IsNotBelow v y) here (subst (λ p. Bounds IsNotBelow p x) is h))

pub facts_hold : FactsHoldAtRows
facts_hold A cs i honest here =
    let right = right_at A cs honest i here in
    record {
      greatest = λ x v w. above (A Max x) (meaning x (row_of i cs) (rows_of cs)) v w (right.max x);
      least = λ x v w. below (A Min x) (meaning x (row_of i cs) (rows_of cs)) v w (right.min x);
      no_nulls = right.no_null;
      only_nulls = right.all_nulls;
      none_null = right.none_null;
      every_null = right.every_null;
    }

joined : (a b c d : Bool) → (not a && c) ≡ true → (not b && d) ≡ true → (not (a || b) && (c && d)) ≡ true
joined true b c d p q = cc
joined false true c d p q = cc
joined false false c d p q = rw (p, q) refl

pub wholes_over : WholesAreOver
wholes_over o x y k typed a b = record { typed = typed; over = joined (has_placeholder x) (has_placeholder y) (fits_scope x k.scope) (fits_scope y k.scope) a.over b.over }
