-- Worked rows of satisfiers, found by computation alone.
use Rattle.std.specs.Prelude.{◌≡◌, ℕ, true, false, List, [], ◌∷◌, IsTrue, Option, Some, None, pos, codes, refl}
use Rattle.std.proofs.Common.{subst}
use Rattle.vortex_base.specs.declared.aggregate.AggregateFnRef.TheVariants.{Max, Min, NullCount, AllNull, AllNonNull}
use Rattle.vortex_expr.specs.declared.scalar_fn.BetweenOptions.{BetweenOptions}
use Rattle.vortex_expr.specs.declared.scalar_fn.StrictComparison.TheVariants.{Strict, NonStrict}
use Rattle.vortex_base.specs.declared.dtype.DType.{DType}
use Rattle.vortex_base.specs.declared.dtype.DType.TheVariants as dtype
use Rattle.vortex_base.specs.declared.types.Nullability.TheVariants.{Nullable, NonNullable}
use Rattle.vortex_expr.specs.declared.scalar_fn.Operator.TheVariants.{Eq, NotEq, Gt, Gte, Lt, Lte, And, Or}
use Rattle.vortex_base.specs.declared.types.PType.TheVariants as ptype
use Rattle.vortex_expr.specs.declared.scalar_fn.ScalarFnId.{ScalarFnId}
use Rattle.vortex_expr.specs.declared.scalar_fn.ScalarFnId.TheVariants as function
use Rattle.vortex_base.specs.declared.pvalue.PValue.TheVariants as number
use Rattle.vortex_base.specs.declared.scalar_value.ScalarValue.TheVariants as value
use Rattle.vortex_expr.specs.Patterns.Like.{plain}
use Rattle.vortex_expr.specs.Trees.Tree.{Tree, Place, column, literal, binary, between, is_null, is_not_null, not, like, stat, row_count}
use Rattle.vortex_rewrite.specs.Rewriting.Lawful.{IsLawful, OwnRule}
use Rattle.vortex_rewrite.specs.Rewriting.Proof.{Assignment, proves}
use Rattle.vortex_rewrite.specs.Rewriting.Falsifiers.{bool_literal, count_literal, node, reduce_balanced, satisfier}

abbrev i32_type : DType
i32_type = dtype.Primitive ptype.I32 Nullable

abbrev a : Tree Place
a = column (record { index = 0; dtype = i32_type })

abbrev b : Tree Place
b = column (record { index = 1; dtype = i32_type })

abbrev s : Tree Place
s = column (record { index = 2; dtype = dtype.Utf8 NonNullable })

abbrev truth : Tree Place
truth = column (record { index = 3; dtype = dtype.Bool Nullable })

-- a column of nulls alone has no least and no greatest value
abbrev nothing : Tree Place
nothing = column (record { index = 4; dtype = dtype.Null })

abbrev num : ℕ → Tree Place
num n = literal (record { dtype = dtype.Primitive ptype.I32 NonNullable; value = Some (value.Primitive (number.I32 (pos n))) })

abbrev null_num : Tree Place
null_num = literal (record { dtype = i32_type; value = None })

abbrev text : List ℕ → Tree Place
text bs = literal (record { dtype = dtype.Utf8 NonNullable; value = Some (value.Utf8 bs) })

abbrev closed_ends : BetweenOptions
closed_ends = record { lower_strict = NonStrict; upper_strict = NonStrict }

abbrev open_ends : BetweenOptions
open_ends = record { lower_strict = Strict; upper_strict = Strict }

abbrev open_below : BetweenOptions
open_below = record { lower_strict = Strict; upper_strict = NonStrict }

-- no row of the operand is null
abbrev values_alone : Tree Place → Tree Place
values_alone x = stat AllNonNull x

abbrev SatisfiedBy : (p e : Tree Place) → Type 0
SatisfiedBy p e = satisfier [] p ≡ Some e

abbrev NeverSatisfied : Tree Place → Type 0
NeverSatisfied p = satisfier [] p ≡ None

-- ---- a column compared with a literal

equal : SatisfiedBy (binary Eq a (num 10)) (binary And (binary And (binary Eq (stat Min a) (num 10)) (binary Eq (stat Max a) (num 10))) (values_alone a))
unfolding node reduce_balanced
equal = refl

differs : SatisfiedBy (binary NotEq a (num 10)) (binary And (binary Or (binary Gt (stat Min a) (num 10)) (binary Gt (num 10) (stat Max a))) (values_alone a))
unfolding node reduce_balanced
differs = refl

above : SatisfiedBy (binary Gt a (num 10)) (binary And (binary Gt (stat Min a) (num 10)) (values_alone a))
unfolding node reduce_balanced
above = refl

at_least : SatisfiedBy (binary Gte a (num 10)) (binary And (binary Gte (stat Min a) (num 10)) (values_alone a))
unfolding node reduce_balanced
at_least = refl

below : SatisfiedBy (binary Lt a (num 10)) (binary And (binary Lt (stat Max a) (num 10)) (values_alone a))
unfolding node reduce_balanced
below = refl

at_most : SatisfiedBy (binary Lte a (num 10)) (binary And (binary Lte (stat Max a) (num 10)) (values_alone a))
unfolding node reduce_balanced
at_most = refl

-- ---- the literal on the left

equal_turned : SatisfiedBy (binary Eq (num 10) a) (binary And (binary And (binary Eq (num 10) (stat Max a)) (binary Eq (num 10) (stat Min a))) (values_alone a))
unfolding node reduce_balanced
equal_turned = refl

differs_turned : SatisfiedBy (binary NotEq (num 10) a) (binary And (binary Or (binary Gt (num 10) (stat Max a)) (binary Gt (stat Min a) (num 10))) (values_alone a))
unfolding node reduce_balanced
differs_turned = refl

above_turned : SatisfiedBy (binary Gt (num 10) a) (binary And (binary Gt (num 10) (stat Max a)) (values_alone a))
unfolding node reduce_balanced
above_turned = refl

at_least_turned : SatisfiedBy (binary Gte (num 10) a) (binary And (binary Gte (num 10) (stat Max a)) (values_alone a))
unfolding node reduce_balanced
at_least_turned = refl

below_turned : SatisfiedBy (binary Lt (num 10) a) (binary And (binary Lt (num 10) (stat Min a)) (values_alone a))
unfolding node reduce_balanced
below_turned = refl

at_most_turned : SatisfiedBy (binary Lte (num 10) a) (binary And (binary Lte (num 10) (stat Min a)) (values_alone a))
unfolding node reduce_balanced
at_most_turned = refl

-- ---- two columns

equal_columns : SatisfiedBy (binary Eq a b) (binary And (binary And (binary And (binary Eq (stat Min a) (stat Max b)) (binary Eq (stat Max a) (stat Min b))) (values_alone a)) (values_alone b))
unfolding node reduce_balanced
equal_columns = refl

differing_columns : SatisfiedBy (binary NotEq a b) (binary And (binary And (binary Or (binary Gt (stat Min a) (stat Max b)) (binary Gt (stat Min b) (stat Max a))) (values_alone a)) (values_alone b))
unfolding node reduce_balanced
differing_columns = refl

above_column : SatisfiedBy (binary Gt a b) (binary And (binary And (binary Gt (stat Min a) (stat Max b)) (values_alone a)) (values_alone b))
unfolding node reduce_balanced
above_column = refl

at_least_column : SatisfiedBy (binary Gte a b) (binary And (binary And (binary Gte (stat Min a) (stat Max b)) (values_alone a)) (values_alone b))
unfolding node reduce_balanced
at_least_column = refl

below_column : SatisfiedBy (binary Lt a b) (binary And (binary And (binary Lt (stat Max a) (stat Min b)) (values_alone a)) (values_alone b))
unfolding node reduce_balanced
below_column = refl

at_most_column : SatisfiedBy (binary Lte a b) (binary And (binary And (binary Lte (stat Max a) (stat Min b)) (values_alone a)) (values_alone b))
unfolding node reduce_balanced
at_most_column = refl

one_column_twice : SatisfiedBy (binary Gte a a) (binary And (binary And (binary Gte (stat Min a) (stat Max a)) (values_alone a)) (values_alone a))
unfolding node reduce_balanced
one_column_twice = refl

-- ---- literals, nulls, and operands without a least and a greatest value

two_literals : SatisfiedBy (binary Gt (num 10) (num 5)) (binary Gt (num 10) (num 5))
unfolding node reduce_balanced
two_literals = refl

with_null : SatisfiedBy (binary Eq a null_num) (binary And (binary And (binary Eq (stat Min a) null_num) (binary Eq (stat Max a) null_num)) (values_alone a))
unfolding node reduce_balanced
with_null = refl

no_bounds : NeverSatisfied (binary Eq nothing nothing)
unfolding node reduce_balanced
no_bounds = refl

no_bounds_above : NeverSatisfied (binary Gte nothing nothing)
unfolding node reduce_balanced
no_bounds_above = refl

operand_that_is_no_column : SatisfiedBy (binary Eq (is_null a) (bool_literal true)) (
    binary And (binary And (binary Eq (stat Min (is_null a)) (bool_literal true)) (binary Eq (stat Max (is_null a)) (bool_literal true))) (values_alone (is_null a))
    )
unfolding node reduce_balanced
operand_that_is_no_column = refl

-- ---- AND and OR

abbrev is_above : Tree Place
is_above = binary And (binary Gt (stat Min a) (num 10)) (values_alone a)

abbrev is_below : Tree Place
is_below = binary And (binary Lt (stat Max a) (num 50)) (values_alone a)

abbrev ends_in_x : Tree Place
ends_in_x = like plain s (text (codes "%x"))

both_sides : SatisfiedBy (binary And (binary Gt a (num 10)) (binary Lt a (num 50))) (binary And is_above is_below)
unfolding node reduce_balanced
both_sides = refl

left_side_alone : NeverSatisfied (binary And (binary Gt a (num 10)) ends_in_x)
unfolding node reduce_balanced
left_side_alone = refl

right_side_alone : NeverSatisfied (binary And ends_in_x (binary Gt a (num 10)))
unfolding node reduce_balanced
right_side_alone = refl

either_side : SatisfiedBy (binary Or (binary Gt a (num 10)) (binary Lt a (num 50))) (binary Or is_above is_below)
unfolding node reduce_balanced
either_side = refl

left_side_enough : SatisfiedBy (binary Or (binary Gt a (num 10)) ends_in_x) is_above
unfolding node reduce_balanced
left_side_enough = refl

right_side_enough : SatisfiedBy (binary Or ends_in_x (binary Lt a (num 50))) is_below
unfolding node reduce_balanced
right_side_enough = refl

neither_side : NeverSatisfied (binary Or ends_in_x (not truth))
unfolding node reduce_balanced
neither_side = refl

nested : SatisfiedBy (binary Or (binary And (binary Gt a (num 10)) ends_in_x) (binary And (binary Gt a (num 10)) (bool_literal true))) (binary And is_above (bool_literal true))
unfolding node reduce_balanced
nested = refl

-- ---- BETWEEN

abbrev from_20_to_30 : Tree Place
from_20_to_30 = binary And (binary And (binary Lte (num 20) (stat Min a)) (values_alone a)) (binary And (binary Lte (stat Max a) (num 30)) (values_alone a))

closed_range : SatisfiedBy (between closed_ends a (num 20) (num 30)) from_20_to_30
unfolding node reduce_balanced
closed_range = refl

open_range : SatisfiedBy (between open_ends a (num 19) (num 31)) from_20_to_30
unfolding node reduce_balanced
open_range = refl

crossed_range : NeverSatisfied (between closed_ends a (num 50) (num 10))
unfolding node reduce_balanced
crossed_range = refl

nothing_between : NeverSatisfied (between open_ends a (num 3) (num 4))
unfolding node reduce_balanced
nothing_between = refl

empty_side_of_or : SatisfiedBy (binary Or (between closed_ends a (num 50) (num 10)) (binary Gt a (num 10))) is_above
unfolding node reduce_balanced
empty_side_of_or = refl

null_end : SatisfiedBy (between open_ends a null_num (num 4)) (binary And (binary And (binary Lt null_num (stat Min a)) (values_alone a)) (binary And (binary Lt (stat Max a) (num 4)) (values_alone a)))
unfolding node reduce_balanced
null_end = refl

column_ends : SatisfiedBy (between closed_ends (num 7) a b) (binary And (binary And (binary Lte (stat Max a) (num 7)) (values_alone a)) (binary And (binary Lte (num 7) (stat Min b)) (values_alone b)))
unfolding node reduce_balanced
column_ends = refl

texts : SatisfiedBy (between open_below s (text (codes "a")) (text (codes "c"))) (
    binary And (binary And (binary Lt (text (codes "a")) (stat Min s)) (values_alone s)) (binary And (binary Lte (stat Max s) (text (codes "c"))) (values_alone s))
    )
unfolding node reduce_balanced
texts = refl

equal_texts : NeverSatisfied (between open_below s (text (codes "b")) (text (codes "b")))
unfolding node reduce_balanced
equal_texts = refl

open_truths : SatisfiedBy (between open_ends truth (bool_literal false) (bool_literal true)) (
    binary And (binary And (binary Lt (bool_literal false) (stat Min truth)) (values_alone truth)) (binary And (binary Lt (stat Max truth) (bool_literal true)) (values_alone truth))
    )
unfolding node reduce_balanced
open_truths = refl

crossed_truths : NeverSatisfied (between closed_ends truth (bool_literal true) (bool_literal false))
unfolding node reduce_balanced
crossed_truths = refl

range_without_bounds : NeverSatisfied (between closed_ends nothing nothing nothing)
unfolding node reduce_balanced
range_without_bounds = refl

-- ---- literals, null tests, and what has no satisfier

true_literal : SatisfiedBy (bool_literal true) (bool_literal true)
unfolding node reduce_balanced
true_literal = refl

false_literal : SatisfiedBy (bool_literal false) (bool_literal false)
unfolding node reduce_balanced
false_literal = refl

null_literal : NeverSatisfied (literal (record { dtype = dtype.Bool Nullable; value = None }))
unfolding node reduce_balanced
null_literal = refl

null_test : SatisfiedBy (is_null a) (binary Or (binary Eq (stat NullCount a) row_count) (stat AllNull a))
unfolding node reduce_balanced
null_test = refl

value_test : SatisfiedBy (is_not_null a) (binary Or (binary Eq (stat NullCount a) (count_literal 0)) (values_alone a))
unfolding node reduce_balanced
value_test = refl

bare_column : NeverSatisfied truth
bare_column = refl

negation : NeverSatisfied (not (bool_literal false))
unfolding node reduce_balanced
negation = refl

pattern : NeverSatisfied (like plain s (text (codes "x")))
unfolding node reduce_balanced
pattern = refl

-- ---- with a rule of a user, which answers the literal false at each node of its function

-- a rule of a user whose proof is never true
abbrev false_proof : Tree Place → Option (Tree Place)
false_proof p = Some (bool_literal false)

never : (e : Tree Place) (A : Assignment) (n : ℕ) → Some (bool_literal false) ≡ Some e → IsTrue (proves e A n) → ⊥
never e A n h t =
    let same : e ≡ bool_literal false = cc in
    let told : false ≡ true = subst (λ (x : Tree Place). IsTrue (proves x A n)) same t in
    cc

false_proof_is_lawful : IsLawful false_proof false_proof
false_proof_is_lawful = record {
  falsifies = λ p e h k A chunk over honest t. absurd (never e A _ h t);
  satisfies = λ p e h k A chunk over honest t. absurd (never e A _ h t);
}

abbrev unsure : ScalarFnId → OwnRule
unsure id = record { id = id; falsifier = false_proof; satisfier = false_proof; can_fault = λ k. false; is_lawful = false_proof_is_lawful }

abbrev or_false : Tree Place → Tree Place
or_false e = binary Or e (bool_literal false)

asked_at_and : satisfier (unsure function.Binary ∷ []) (binary And (binary Gt a (num 10)) (binary Lt a (num 50))) ≡ Some (or_false (binary And (or_false is_above) (or_false is_below)))
unfolding node reduce_balanced
asked_at_and = refl

asked_at_or : satisfier (unsure function.Binary ∷ []) (binary Or ends_in_x (binary Lt a (num 50))) ≡ Some (or_false (or_false is_below))
unfolding node reduce_balanced
asked_at_or = refl

asked_within_between : satisfier (unsure function.Binary ∷ []) (between open_ends a (num 19) (num 31)) ≡ Some (or_false (
    binary And (or_false (binary And (binary Lte (num 20) (stat Min a)) (values_alone a))) (or_false (binary And (binary Lte (stat Max a) (num 30)) (values_alone a)))
    ))
unfolding node reduce_balanced
asked_within_between = refl

asked_at_between : satisfier (unsure function.Between ∷ []) (between closed_ends a (num 20) (num 30)) ≡ Some (or_false from_20_to_30)
unfolding node reduce_balanced
asked_at_between = refl

asked_at_an_empty_between : satisfier (unsure function.Between ∷ unsure function.Binary ∷ []) (between closed_ends a (num 50) (num 10)) ≡ Some (bool_literal false)
unfolding node reduce_balanced
asked_at_an_empty_between = refl

asked_in_its_place : satisfier (unsure function.IsNull ∷ unsure function.Not ∷ []) (binary Or (is_null a) (not truth)) ≡ Some (
    binary Or (binary Or (binary Or (binary Eq (stat NullCount a) row_count) (stat AllNull a)) (bool_literal false)) (bool_literal false)
    )
unfolding node reduce_balanced
asked_in_its_place = refl
