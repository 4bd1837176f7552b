-- Worked rows of leaves of a predicate, found by computation alone.
use Rattle.std.proofs.Common.{Bor, ap}
use Rattle.std.specs.Prelude.{◌≡◌, ℕ, Bool, true, false, List, [], ◌∷◌, Option, Some, None, map, pos, refl}
use Rattle.vortex_base.specs.Data.Columns.{ColumnData}
use Rattle.vortex_base.specs.declared.pvalue.PValue.TheVariants as number
use Rattle.vortex_base.specs.declared.scalar_value.ScalarValue.{ScalarValue}
use Rattle.vortex_base.specs.declared.scalar_value.ScalarValue.TheVariants as value
use Rattle.vortex_expr.specs.declared.scalar_fn.Operator.{Operator}
use Rattle.vortex_expr.specs.declared.scalar_fn.Operator.TheVariants.{Eq, NotEq, Gt, Gte, Lt, Lte, And, Or}
use Rattle.vortex_base.specs.declared.value_ref.ValueRef.TheVariants as lent
use Rattle.vortex_prune.specs.Scanning.Leaves.{compares, is_between_at, is_comparison, lies_at, passes, passes_at, swapped}
use Rattle.vortex_prune.specs.declared.scan.leaf.Ends.{Ends}
use Rattle.vortex_prune.specs.declared.scan.leaf.Test.{Test}
use Rattle.vortex_prune.specs.declared.scan.leaf.Test.TheVariants.{Is, Null, NotNull}

abbrev num : ℕ → Option ScalarValue
num n = Some (value.Primitive (number.I64 (pos n)))

-- ---- comparisons

greater_is : compares Gt (num 3) (num 2) ≡ true
greater_is = refl

greater_is_not : compares Gt (num 2) (num 3) ≡ false
greater_is_not = refl

null_on_the_left : compares Eq None (num 2) ≡ false
null_on_the_left = refl

null_on_the_right : compares NotEq (num 2) None ≡ false
null_on_the_right = refl

all_operators : is_comparison Eq ∷ is_comparison NotEq ∷ is_comparison Gt ∷ is_comparison Gte ∷ is_comparison Lt ∷ is_comparison Lte ∷ is_comparison And ∷ is_comparison Or ∷ []
    ≡ true ∷ true ∷ true ∷ true ∷ true ∷ true ∷ false ∷ false ∷ []
all_operators = refl

sides_changed : swapped Eq ∷ swapped NotEq ∷ swapped Gt ∷ swapped Gte ∷ swapped Lt ∷ swapped Lte ∷ swapped And ∷ swapped Or ∷ [] ≡ Eq ∷ NotEq ∷ Lt ∷ Lte ∷ Gt ∷ Gte ∷ And ∷ Or ∷ []
sides_changed = refl

-- ---- values of a column

abbrev values : List (Option ScalarValue)
values = num 1 ∷ None ∷ num 5 ∷ Some (value.Primitive (number.U64 5)) ∷ Some (value.Bool true) ∷ []

abbrev below_five : Test
below_five = Is Lt (lent.Primitive (number.I64 (pos 5)))

abbrev is_five : Test
is_five = Is Eq (lent.Primitive (number.I64 (pos 5)))

below : passes_at below_five values 0 ≡ true
below = refl

null_value : passes_at below_five values 1 ≡ false
null_value = refl

not_below : passes_at below_five values 2 ≡ false
not_below = refl

the_same : passes_at is_five values 2 ≡ true
the_same = refl

-- a number of another type is another value
of_another_type : passes_at is_five values 3 ≡ false
of_another_type = refl

past_the_end : passes_at (Is NotEq (lent.Primitive (number.I64 (pos 5)))) values 5 ≡ false
past_the_end = refl

a_truth : passes_at (Is Eq (lent.Bool true)) values 4 ≡ true
a_truth = refl

null_is_null : passes_at Null values 1 ≡ true
null_is_null = refl

value_is_not : passes_at Null values 2 ≡ false
value_is_not = refl

null_is : passes_at NotNull values 1 ≡ false
null_is = refl

value_is_there : passes_at NotNull values 2 ≡ true
value_is_there = refl

-- past the end stands null
null_past_the_end : passes_at Null values 5 ≡ true
null_past_the_end = refl

passes_alone : passes below_five (num 4) ≡ true
passes_alone = refl

-- ---- values between two ends, with either end left out or not

abbrev number_value : ℕ → ScalarValue
number_value n = value.Primitive (number.I64 (pos n))

abbrev between_ends : (lower upper : Operator) → List Bool
between_ends low high = map (is_between_at low high (number_value 3) (number_value 6) (num 2 ∷ num 3 ∷ num 4 ∷ num 6 ∷ num 7 ∷ None ∷ [])) (0 ∷ 1 ∷ 2 ∷ 3 ∷ 4 ∷ 5 ∷ 6 ∷ [])

both_ends_in : between_ends Gte Lte ≡ false ∷ true ∷ true ∷ true ∷ false ∷ false ∷ false ∷ []
both_ends_in = refl

lower_end_out : between_ends Gt Lte ≡ false ∷ false ∷ true ∷ true ∷ false ∷ false ∷ false ∷ []
lower_end_out = refl

upper_end_out : between_ends Gte Lt ≡ false ∷ true ∷ true ∷ false ∷ false ∷ false ∷ false ∷ []
upper_end_out = refl

both_ends_out : between_ends Gt Lt ≡ false ∷ false ∷ true ∷ false ∷ false ∷ false ∷ false ∷ []
both_ends_out = refl

-- no value lies below the lesser end and above the greater one
ends_changed : between_ends Lt Gt ≡ false ∷ false ∷ false ∷ false ∷ false ∷ false ∷ false ∷ []
ends_changed = refl

abbrev ends_over : Bor ColumnData → Ends
ends_over column = record { column = column; lower = Gt; low = lent.Primitive (number.I64 (pos 1)); upper = Lte; high = lent.Primitive (number.I64 (pos 5)) }

-- a column's values at three places: at the lower end, null and within
lies_within : (column : Bor ColumnData) → column.now.values ≡ values → map (lies_at (ends_over column)) (0 ∷ 1 ∷ 2 ∷ []) ≡ false ∷ false ∷ true ∷ []
lies_within column is = ap (λ vs. map (is_between_at Gt Lte (number_value 1) (number_value 5) vs) (0 ∷ 1 ∷ 2 ∷ [])) is
