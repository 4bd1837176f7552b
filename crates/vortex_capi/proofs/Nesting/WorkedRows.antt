-- Worked rows: chains joined in halves, computed.
use Rattle.std.proofs.Common.{◌≡◌, ℕ, true, Some, refl}
use Rattle.vortex_base.specs.declared.aggregate.AggregateFnRef.TheVariants.{Max}
use Rattle.vortex_base.specs.declared.dtype.DType.TheVariants as dtype
use Rattle.vortex_base.specs.declared.scalar_value.ScalarValue.TheVariants as value
use Rattle.vortex_base.specs.declared.types.Nullability.TheVariants.{Nullable}
use Rattle.vortex_expr.specs.Patterns.Like.{plain}
use Rattle.vortex_expr.specs.Trees.Tree.{Tree, Place, column, literal, binary, between, is_null, is_not_null, not, like, stat, row_count}
use Rattle.vortex_expr.specs.declared.scalar_fn.BetweenOptions.{BetweenOptions}
use Rattle.vortex_expr.specs.declared.scalar_fn.Operator.TheVariants.{Eq, Lt, And, Or}
use Rattle.vortex_expr.specs.declared.scalar_fn.StrictComparison.TheVariants.{NonStrict}
use Rattle.vortex_normal.specs.Balanced.{depth}
use Rattle.vortex_capi.specs.Nesting.Halves.{halved}

abbrev at : ℕ → Tree Place
at i = column (record { index = i; dtype = dtype.Bool Nullable })

abbrev pub a : Tree Place
a = at 0

abbrev b : Tree Place
b = at 1

abbrev c : Tree Place
c = at 2

abbrev d : Tree Place
d = at 3

abbrev e : Tree Place
e = at 4

abbrev truth : Tree Place
truth = literal (record { dtype = dtype.Bool Nullable; value = Some (value.Bool true) })

abbrev closed : BetweenOptions
closed = record { lower_strict = NonStrict; upper_strict = NonStrict }

two_by_and : halved (binary And a b) ≡ binary And a b
two_by_and = refl

three_from_the_left_by_and : halved (binary And (binary And a b) c) ≡ binary And (binary And a b) c
three_from_the_left_by_and = refl

three_from_the_right_by_and : halved (binary And a (binary And b c)) ≡ binary And (binary And a b) c
three_from_the_right_by_and = refl

four_from_the_left_by_and : halved (binary And (binary And (binary And a b) c) d) ≡ binary And (binary And a b) (binary And c d)
four_from_the_left_by_and = refl

five_from_the_left_by_and : halved (binary And (binary And (binary And (binary And a b) c) d) e) ≡ binary And (binary And (binary And a b) (binary And c d)) e
five_from_the_left_by_and = refl

five_from_the_right_by_and : halved (binary And a (binary And b (binary And c (binary And d e)))) ≡ binary And (binary And (binary And a b) (binary And c d)) e
five_from_the_right_by_and = refl

five_in_both_by_and : halved (binary And (binary And a (binary And b c)) (binary And d e)) ≡ binary And (binary And (binary And a b) (binary And c d)) e
five_in_both_by_and = refl

depth_of_five_by_and : depth (halved (binary And a (binary And b (binary And c (binary And d e))))) ≡ 3
depth_of_five_by_and = refl

two_by_or : halved (binary Or a b) ≡ binary Or a b
two_by_or = refl

three_from_the_left_by_or : halved (binary Or (binary Or a b) c) ≡ binary Or (binary Or a b) c
three_from_the_left_by_or = refl

three_from_the_right_by_or : halved (binary Or a (binary Or b c)) ≡ binary Or (binary Or a b) c
three_from_the_right_by_or = refl

four_from_the_left_by_or : halved (binary Or (binary Or (binary Or a b) c) d) ≡ binary Or (binary Or a b) (binary Or c d)
four_from_the_left_by_or = refl

five_from_the_left_by_or : halved (binary Or (binary Or (binary Or (binary Or a b) c) d) e) ≡ binary Or (binary Or (binary Or a b) (binary Or c d)) e
five_from_the_left_by_or = refl

five_from_the_right_by_or : halved (binary Or a (binary Or b (binary Or c (binary Or d e)))) ≡ binary Or (binary Or (binary Or a b) (binary Or c d)) e
five_from_the_right_by_or = refl

five_in_both_by_or : halved (binary Or (binary Or a (binary Or b c)) (binary Or d e)) ≡ binary Or (binary Or (binary Or a b) (binary Or c d)) e
five_in_both_by_or = refl

depth_of_five_by_or : depth (halved (binary Or a (binary Or b (binary Or c (binary Or d e))))) ≡ 3
depth_of_five_by_or = refl

column_stays : halved a ≡ a
column_stays = refl

literal_stays : halved truth ≡ truth
literal_stays = refl

row_count_stays : halved row_count ≡ row_count
row_count_stays = refl

or_first_under_and : halved (binary And (binary Or a (binary Or b c)) (binary And d e)) ≡ binary And (binary And (binary Or (binary Or a b) c) d) e
or_first_under_and = refl

or_last_under_and : halved (binary And d (binary And e (binary Or a (binary Or b c)))) ≡ binary And (binary And d e) (binary Or (binary Or a b) c)
or_last_under_and = refl

and_first_under_or : halved (binary Or (binary And a (binary And b c)) (binary Or d e)) ≡ binary Or (binary Or (binary And (binary And a b) c) d) e
and_first_under_or = refl

and_last_under_or : halved (binary Or d (binary Or e (binary And a (binary And b c)))) ≡ binary Or (binary Or d e) (binary And (binary And a b) c)
and_last_under_or = refl

and_under_or_under_and : halved (binary And (binary Or (binary And a (binary And b c)) d) (binary And e a)) ≡ binary And (binary And (binary Or (binary And (binary And a b) c) d) e) a
and_under_or_under_and = refl

not_between : halved (binary And d (binary And (not (binary And a (binary And b c))) e)) ≡ binary And (binary And d (not (binary And (binary And a b) c))) e
not_between = refl

under_not : halved (not (binary And a (binary And b c))) ≡ not (binary And (binary And a b) c)
under_not = refl

under_is_null : halved (is_null (binary And a (binary And b c))) ≡ is_null (binary And (binary And a b) c)
under_is_null = refl

under_is_not_null : halved (is_not_null (binary Or a (binary Or b c))) ≡ is_not_null (binary Or (binary Or a b) c)
under_is_not_null = refl

under_placeholder : halved (stat Max (binary And a (binary And b c))) ≡ stat Max (binary And (binary And a b) c)
under_placeholder = refl

compared_first : halved (binary Eq (binary And a (binary And b c)) d) ≡ binary Eq (binary And (binary And a b) c) d
compared_first = refl

compared_last : halved (binary Lt d (binary And a (binary And b c))) ≡ binary Lt d (binary And (binary And a b) c)
compared_last = refl

between_ends : halved (between closed (binary And a (binary And b c)) d e) ≡ between closed (binary And (binary And a b) c) d e
between_ends = refl

lower_end : halved (between closed d (binary And a (binary And b c)) e) ≡ between closed d (binary And (binary And a b) c) e
lower_end = refl

upper_end : halved (between closed d e (binary Or a (binary Or b c))) ≡ between closed d e (binary Or (binary Or a b) c)
upper_end = refl

liked : halved (like plain (binary And a (binary And b c)) d) ≡ like plain (binary And (binary And a b) c) d
liked = refl

pattern : halved (like plain d (binary And a (binary And b c))) ≡ like plain d (binary And (binary And a b) c)
pattern = refl

comparisons_are_no_chain : halved (binary Eq a (binary Eq b c)) ≡ binary Eq a (binary Eq b c)
comparisons_are_no_chain = refl
