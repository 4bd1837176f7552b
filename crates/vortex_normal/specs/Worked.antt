-- Worked normal forms.
use Rattle.std.specs.Prelude.{◌≡◌, ℕ, ℤ, pos, negsuc, Bool, false, true, not as not_b, List, [], ◌∷◌, Some, None, codes, encode_utf8_all}
use Rattle.vortex_base.specs.declared.aggregate.AggregateFnRef.TheVariants as aggregate
use Rattle.vortex_base.specs.declared.dtype.DType.{DType}
use Rattle.vortex_base.specs.declared.dtype.DType.TheVariants as dtype
use Rattle.vortex_base.specs.declared.types.PType.TheVariants.{I8, U8}
use Rattle.vortex_base.specs.declared.types.Nullability.TheVariants.{Nullable, NonNullable}
use Rattle.vortex_base.specs.declared.pvalue.PValue.TheVariants as number
use Rattle.vortex_base.specs.declared.scalar_value.ScalarValue.TheVariants as value
use Rattle.vortex_expr.specs.declared.scalar_fn.Operator.{Operator}
use Rattle.vortex_expr.specs.declared.scalar_fn.Operator.TheVariants.{Eq, NotEq, Gt, Gte, Lt, Lte, And, Or}
use Rattle.vortex_expr.specs.declared.scalar_fn.BetweenOptions.{BetweenOptions}
use Rattle.vortex_expr.specs.declared.scalar_fn.StrictComparison.TheVariants.{Strict, NonStrict}
use Rattle.vortex_expr.specs.Trees.Tree.{Tree, Place, column, literal, binary, between, is_null, is_not_null, not, like, stat, row_count}
use Rattle.vortex_rewrite.specs.Rewriting.Falsifiers.{bool_literal}
use Rattle.vortex_normal.specs.Balanced.{balanced, depth, first_or, in_turns, paired}
use Rattle.vortex_normal.specs.Groups.{normal}

abbrev pub byte : DType
byte = dtype.Primitive U8 Nullable

abbrev pub a : Tree Place
a = column (record { index = 0; dtype = byte })

abbrev pub b : Tree Place
b = column (record { index = 1; dtype = byte })

-- a column of truths
abbrev pub c : Tree Place
c = column (record { index = 2; dtype = dtype.Bool Nullable })

-- a column of signed numbers
abbrev pub d : Tree Place
d = column (record { index = 4; dtype = dtype.Primitive I8 Nullable })

abbrev pub small_literal : ℤ → Tree Place
small_literal n = literal (record { dtype = dtype.Primitive I8 Nullable; value = Some (value.Primitive (number.I8 n)) })

abbrev pub truth_literal : Bool → Tree Place
truth_literal t = literal (record { dtype = dtype.Bool Nullable; value = Some (value.Bool t) })

abbrev pub byte_literal : ℕ → Tree Place
byte_literal n = literal (record { dtype = byte; value = Some (value.Primitive (number.U8 n)) })

abbrev pub null_number : Tree Place
null_number = literal (record { dtype = byte; value = None })

abbrev pub compare : Operator → Tree Place → ℕ → Tree Place
compare o x n = binary o x (byte_literal n)

abbrev pub closed : BetweenOptions
closed = record { lower_strict = NonStrict; upper_strict = NonStrict }

abbrev pub range : ℕ → ℕ → Tree Place
range l u = between closed a (byte_literal l) (byte_literal u)

abbrev pub open_range : ℕ → ℕ → Tree Place
open_range l u = between (record { lower_strict = Strict; upper_strict = Strict }) a (byte_literal l) (byte_literal u)

-- a column of texts
abbrev pub t : Tree Place
t = column (record { index = 3; dtype = dtype.Utf8 Nullable })

abbrev pub text : DType → List ℕ → Tree Place
text s cs = literal (record { dtype = s; value = Some (value.Utf8 (encode_utf8_all cs)) })

-- as it is kept beside the column
abbrev pub own_text : List ℕ → Tree Place
own_text cs = text (dtype.Utf8 Nullable) cs

-- a LIKE, negated where it isn't wanted
abbrev pub like_of : (wanted : Bool) → List ℕ → Tree Place
like_of w cs = like (record { negated = not_b w; case_insensitive = false }) t (text (dtype.Utf8 NonNullable) cs)

abbrev pub ignoring_case : List ℕ → Tree Place
ignoring_case cs = like (record { negated = false; case_insensitive = true }) t (text (dtype.Utf8 NonNullable) cs)

abbrev pub compare_text : Operator → List ℕ → Tree Place
compare_text o cs = binary o t (own_text cs)

abbrev pub from_below : List ℕ → List ℕ → Tree Place
from_below cs ds = between (record { lower_strict = NonStrict; upper_strict = Strict }) t (own_text cs) (own_text ds)

pub record FormExamples : Type 0 where
  pub negation : normal (not (compare Lte a 5)) ≡ compare Gt a 5
  pub of_range : normal (not (range 4 6)) ≡ binary Or (compare Lt a 4) (compare Gt a 6)
  pub contradiction : normal (binary And (compare Gt a 5) (compare Lt a 3)) ≡ bool_literal false
  pub with_range : normal (binary And (binary Or (compare Lt a 3) (compare Gt a 7)) (range 4 6)) ≡ bool_literal false
  pub regrouped : normal (binary And (binary And (compare Gt a 5) (compare Lt b 1)) (compare Lt a 3)) ≡ bool_literal false
  pub itself : normal (binary Lt a a) ≡ bool_literal false
  pub null : normal (binary Gt a null_number) ≡ bool_literal false
  pub settled_sides : normal (binary Or (binary Lt (byte_literal 2) (byte_literal 1)) (compare Gt a 5)) ≡ compare Gt a 5
  pub all_values : normal (binary Or (compare Lt a 5) (compare Gte a 3)) ≡ is_not_null a
  pub not_null_operand : normal (not (binary Gt a null_number)) ≡ bool_literal false
  pub itself_at_most : normal (binary Lte a a) ≡ is_not_null a
  pub equal : normal (compare Eq a 5) ≡ compare Eq a 5
  pub equal_by_ranges : normal (binary And (compare Gte a 5) (compare Lte a 5)) ≡ compare Eq a 5
  pub unequal : normal (compare NotEq a 5) ≡ compare NotEq a 5
  pub not_unequal : normal (not (compare NotEq a 5)) ≡ compare Eq a 5
  pub open_ends : normal (binary Or (compare Lt a 5) (compare Gt a 5)) ≡ compare NotEq a 5
  pub touching : normal (binary Or (compare Lt a 5) (compare Eq a 5)) ≡ compare Lte a 5
  pub between_two : normal (binary And (compare Gte a 4) (compare Lte a 6)) ≡ range 4 6
  pub in_order : normal (binary Or (binary Or (compare Eq a 7) (compare Eq a 3)) (compare Eq a 5)) ≡ binary Or (binary Or (compare Eq a 3) (compare Eq a 5)) (compare Eq a 7)
  pub holes : normal (binary And (binary And (compare NotEq a 7) (compare NotEq a 3)) (compare Gt a 1)) ≡ binary Or (binary Or (open_range 1 3) (open_range 3 7)) (compare Gt a 7)
  pub covered : normal (binary Or (binary Or (compare Eq a 4) (range 2 9)) (range 5 6)) ≡ range 2 9
  pub from_one_end : normal (binary Or (range 4 9) (range 4 6)) ≡ range 4 9
  pub some_touch : normal (binary Or (binary Or (compare Gt a 9) (range 4 6)) (range 7 9)) ≡ binary Or (range 4 6) (compare Gte a 7)
  pub bridged : normal (binary Or (binary Or (range 2 4) (range 6 8)) (range 3 7)) ≡ range 2 8
  pub null_among_values : normal (binary Or (binary Or (compare Eq a 7) (is_null a)) (compare Eq a 3)) ≡ binary Or (is_null a) (binary Or (compare Eq a 3) (compare Eq a 7))
  pub null_beside_values : normal (binary And (binary Or (is_null a) (compare Lt a 7)) (binary Or (compare Gt a 3) (is_null a))) ≡ binary Or (is_null a) (open_range 3 7)
  pub other_between : normal (binary Or (binary Or (compare Eq a 7) (compare Gt b 1)) (compare Eq a 3)) ≡ binary Or (binary Or (compare Eq a 3) (compare Eq a 7)) (compare Gt b 1)
  pub apart : normal (binary And (compare Gt a 5) (compare Lt b 3)) ≡ binary And (compare Gt a 5) (compare Lt b 3)
  pub literal_first : normal (binary Lt (byte_literal 5) a) ≡ compare Gt a 5
  pub null_and_value : normal (binary And (compare Gt a 3) (is_null a)) ≡ bool_literal false
  pub some_and_value : normal (binary And (is_not_null a) (compare Gt a 3)) ≡ compare Gt a 3
  pub null_or_not : normal (binary Or (is_null a) (is_not_null a)) ≡ bool_literal true
  pub null_or_value : normal (binary Or (compare Gt a 3) (is_null a)) ≡ binary Or (is_null a) (compare Gt a 3)
  pub inner_chain : normal (binary And (binary Or (compare Lt a 3) (compare Lt b 3)) (compare Gt a 5)) ≡ binary And (binary Or (compare Lt a 3) (compare Lt b 3)) (compare Gt a 5)
  pub folded_operand : normal (not (binary Eq c (binary Lt (byte_literal 1) (byte_literal 2)))) ≡ binary Eq c (truth_literal false)
  pub folded_first : normal (binary Lt (binary Gt (byte_literal 1) (byte_literal 2)) c) ≡ binary Eq c (truth_literal true)
  pub folded_null : normal (binary Eq c (binary Lt null_number (byte_literal 2))) ≡ bool_literal false
  pub folded_end : normal (between closed c (binary Lt (byte_literal 1) (byte_literal 2)) (is_null (byte_literal 3))) ≡ bool_literal false
  pub above_greatest : normal (compare Gt a 255) ≡ bool_literal false
  pub not_above_greatest : normal (not (compare Gt a 255)) ≡ is_not_null a
  pub up_to_greatest : normal (compare Lte a 255) ≡ is_not_null a
  pub from_greatest : normal (compare Gte a 255) ≡ compare Gte a 255
  pub below_greatest : normal (compare Lt a 255) ≡ compare Lt a 255
  pub other_than_greatest : normal (compare NotEq a 255) ≡ compare NotEq a 255
  pub above_but_greatest : normal (compare Gt a 254) ≡ compare Gt a 254
  pub below_least : normal (compare Lt a 0) ≡ bool_literal false
  pub from_least : normal (compare Gte a 0) ≡ is_not_null a
  pub not_from_least : normal (not (compare Gte a 0)) ≡ bool_literal false
  pub up_to_least : normal (compare Lte a 0) ≡ compare Lte a 0
  pub above_least : normal (compare Gt a 0) ≡ compare Gt a 0
  pub equal_to_least : normal (compare Eq a 0) ≡ compare Eq a 0
  pub below_but_least : normal (compare Lt a 1) ≡ compare Lt a 1
  pub greatest_below : normal (binary Lt (byte_literal 255) a) ≡ bool_literal false
  pub greatest_from : normal (binary Gte (byte_literal 255) a) ≡ is_not_null a
  pub greatest_above : normal (binary Gt (byte_literal 255) a) ≡ compare Lt a 255
  pub least_above : normal (binary Gt (byte_literal 0) a) ≡ bool_literal false
  pub least_up_to : normal (binary Lte (byte_literal 0) a) ≡ is_not_null a
  pub least_below : normal (binary Lt (byte_literal 0) a) ≡ compare Gt a 0
  pub range_from_least : normal (range 0 6) ≡ compare Lte a 6
  pub range_to_greatest : normal (range 6 255) ≡ compare Gte a 6
  pub least_signed : normal (binary Lt d (small_literal (negsuc 127))) ≡ bool_literal false
  pub least_but_one_signed : normal (binary Lt d (small_literal (negsuc 126))) ≡ binary Lt d (small_literal (negsuc 126))
  pub greatest_signed : normal (binary Lte d (small_literal (pos 127))) ≡ is_not_null d
  pub greatest_but_one_signed : normal (binary Lte d (small_literal (pos 126))) ≡ binary Lte d (small_literal (pos 126))
  pub below_empty_text : normal (compare_text Lt []) ≡ bool_literal false
  pub from_empty_text : normal (compare_text Gte []) ≡ is_not_null t
  pub below_a_text : normal (compare_text Lt (codes "a")) ≡ compare_text Lt (codes "a")
  pub truth_is_false : normal (binary Eq c (truth_literal false)) ≡ binary Eq c (truth_literal false)
  pub truth_is_true : normal (binary Eq c (truth_literal true)) ≡ binary Eq c (truth_literal true)
  pub truth_is_not_false : normal (binary NotEq c (truth_literal false)) ≡ binary Eq c (truth_literal true)
  pub truth_is_not_true : normal (binary NotEq c (truth_literal true)) ≡ binary Eq c (truth_literal false)
  pub truth_above_false : normal (binary Gt c (truth_literal false)) ≡ binary Eq c (truth_literal true)
  pub truth_above_true : normal (binary Gt c (truth_literal true)) ≡ bool_literal false
  pub truth_from_false : normal (binary Gte c (truth_literal false)) ≡ is_not_null c
  pub truth_from_true : normal (binary Gte c (truth_literal true)) ≡ binary Eq c (truth_literal true)
  pub truth_below_false : normal (binary Lt c (truth_literal false)) ≡ bool_literal false
  pub truth_below_true : normal (binary Lt c (truth_literal true)) ≡ binary Eq c (truth_literal false)
  pub truth_up_to_false : normal (binary Lte c (truth_literal false)) ≡ binary Eq c (truth_literal false)
  pub truth_up_to_true : normal (binary Lte c (truth_literal true)) ≡ is_not_null c
  pub false_below : normal (binary Lt (truth_literal false) c) ≡ binary Eq c (truth_literal true)
  pub true_up_to : normal (binary Lte (truth_literal true) c) ≡ binary Eq c (truth_literal true)
  pub true_below : normal (binary Lt (truth_literal true) c) ≡ bool_literal false
  pub true_from : normal (binary Gte (truth_literal true) c) ≡ is_not_null c
  pub neither_truth : normal (binary And (binary NotEq c (truth_literal false)) (binary Lt c (truth_literal true))) ≡ bool_literal false
  pub one_text : normal (like_of true (codes "abc")) ≡ compare_text Eq (codes "abc")
  pub other_text : normal (like_of false (codes "abc")) ≡ compare_text NotEq (codes "abc")
  pub not_other_text : normal (not (like_of false (codes "abc"))) ≡ compare_text Eq (codes "abc")
  pub escaped : normal (like_of true (97 ∷ 92 ∷ 37 ∷ [])) ≡ compare_text Eq (codes "a%")
  pub last_escape : normal (like_of true (97 ∷ 92 ∷ [])) ≡ compare_text Eq (97 ∷ 92 ∷ [])
  pub empty_pattern : normal (like_of true []) ≡ compare_text Eq []
  pub beginning : normal (like_of true (codes "abc%")) ≡ from_below (codes "abc") (codes "abd")
  pub no_beginning : normal (like_of false (codes "abc%")) ≡ binary Or (compare_text Lt (codes "abc")) (compare_text Gte (codes "abd"))
  pub escaped_beginning : normal (like_of true (97 ∷ 92 ∷ 37 ∷ 37 ∷ [])) ≡ from_below (codes "a%") (codes "a&")
  pub beginning_met : normal (binary And (like_of true (codes "abc%")) (compare_text Gt (codes "abcd"))) ≡ between (record { lower_strict = Strict; upper_strict = Strict }) t (own_text (codes "abcd")) (own_text (codes "abd"))
  pub beginnings_apart : normal (binary And (like_of true (codes "a%")) (like_of true (codes "b%"))) ≡ bool_literal false
  pub beginnings_touch : normal (binary Or (like_of true (codes "a%")) (like_of true (codes "b%"))) ≡ from_below (codes "a") (codes "c")
  pub text_met : normal (binary And (like_of true (codes "abc")) (like_of true (codes "ab%"))) ≡ compare_text Eq (codes "abc")
  pub one_character : normal (like_of true (codes "ab_")) ≡ like_of true (codes "ab_")
  pub inner_run : normal (like_of true (codes "a%c")) ≡ like_of true (codes "a%c")
  pub two_runs : normal (like_of true (codes "ab%%")) ≡ from_below (codes "ab") (codes "ac")
  pub not_two_runs : normal (like_of false (codes "ab%%%")) ≡ binary Or (compare_text Lt (codes "ab")) (compare_text Gte (codes "ac"))
  pub runs_behind_escaped : normal (like_of true (97 ∷ 92 ∷ 37 ∷ 37 ∷ 37 ∷ [])) ≡ from_below (codes "a%") (codes "a&")
  pub runs_behind_escape : normal (like_of true (97 ∷ 92 ∷ 92 ∷ 37 ∷ [])) ≡ from_below (97 ∷ 92 ∷ []) (97 ∷ 93 ∷ [])
  pub run_between : normal (like_of true (codes "a%b%")) ≡ like_of true (codes "a%b%")
  pub character_before_run : normal (like_of true (codes "a_%")) ≡ like_of true (codes "a_%")
  pub run_alone : normal (like_of true (codes "%")) ≡ is_not_null t
  pub runs_alone : normal (like_of true (codes "%%")) ≡ is_not_null t
  pub no_run : normal (like_of false (codes "%")) ≡ bool_literal false
  pub not_no_run : normal (not (like_of false (codes "%"))) ≡ is_not_null t
  pub escaped_run : normal (like_of true (92 ∷ 37 ∷ [])) ≡ compare_text Eq (codes "%")
  pub run_or_null : normal (binary Or (is_null t) (like_of true (codes "%"))) ≡ bool_literal true
  pub any_case : normal (ignoring_case (codes "abc")) ≡ ignoring_case (codes "abc")
  pub before_surrogates : normal (like_of true (55295 ∷ 37 ∷ [])) ≡ like_of true (55295 ∷ 37 ∷ [])
  pub last_of_all : normal (like_of true (97 ∷ 1114111 ∷ 37 ∷ [])) ≡ like_of true (97 ∷ 1114111 ∷ 37 ∷ [])

-- columns of truths, to join
abbrev pub link : ℕ → Tree Place
link n = column (record { index = n; dtype = dtype.Bool Nullable })

abbrev pub two_links : List (Tree Place)
two_links = link 0 ∷ link 1 ∷ []

abbrev pub three_links : List (Tree Place)
three_links = link 0 ∷ link 1 ∷ link 2 ∷ []

abbrev pub four_links : List (Tree Place)
four_links = link 0 ∷ link 1 ∷ link 2 ∷ link 3 ∷ []

abbrev pub five_links : List (Tree Place)
five_links = link 0 ∷ link 1 ∷ link 2 ∷ link 3 ∷ link 4 ∷ []

abbrev pub all : (l r : Tree Place) → Tree Place
all l r = binary And l r

abbrev pub any : (l r : Tree Place) → Tree Place
any l r = binary Or l r

pub record BalancedExamples : Type 0 where
  pub none_paired : (w : Bool) → paired w [] ≡ []
  pub one_paired : (w : Bool) → paired w (link 0 ∷ []) ≡ link 0 ∷ []
  pub two_paired_by_and : paired true two_links ≡ all (link 0) (link 1) ∷ []
  pub two_paired_by_or : paired false two_links ≡ any (link 0) (link 1) ∷ []
  pub three_paired_by_and : paired true three_links ≡ all (link 0) (link 1) ∷ link 2 ∷ []
  pub three_paired_by_or : paired false three_links ≡ any (link 0) (link 1) ∷ link 2 ∷ []
  pub four_paired_by_and : paired true four_links ≡ all (link 0) (link 1) ∷ all (link 2) (link 3) ∷ []
  pub four_paired_by_or : paired false four_links ≡ any (link 0) (link 1) ∷ any (link 2) (link 3) ∷ []
  pub five_paired_by_and : paired true five_links ≡ all (link 0) (link 1) ∷ all (link 2) (link 3) ∷ link 4 ∷ []
  pub five_paired_by_or : paired false five_links ≡ any (link 0) (link 1) ∷ any (link 2) (link 3) ∷ link 4 ∷ []
  pub none_joined : (w : Bool) → balanced w [] ≡ bool_literal w
  pub one_joined : (w : Bool) → balanced w (link 0 ∷ []) ≡ link 0
  pub two_joined_by_and : balanced true two_links ≡ all (link 0) (link 1)
  pub two_joined_by_or : balanced false two_links ≡ any (link 0) (link 1)
  pub three_joined_by_and : balanced true three_links ≡ all (all (link 0) (link 1)) (link 2)
  pub three_joined_by_or : balanced false three_links ≡ any (any (link 0) (link 1)) (link 2)
  pub four_joined_by_and : balanced true four_links ≡ all (all (link 0) (link 1)) (all (link 2) (link 3))
  pub four_joined_by_or : balanced false four_links ≡ any (any (link 0) (link 1)) (any (link 2) (link 3))
  pub five_joined_by_and : balanced true five_links ≡ all (all (all (link 0) (link 1)) (all (link 2) (link 3))) (link 4)
  pub five_joined_by_or : balanced false five_links ≡ any (any (any (link 0) (link 1)) (any (link 2) (link 3))) (link 4)
  pub truths_fall_away : balanced true (link 0 ∷ bool_literal true ∷ link 1 ∷ []) ≡ all (link 0) (link 1)
  pub untruth_decides : balanced true (link 0 ∷ link 1 ∷ bool_literal false ∷ []) ≡ bool_literal false
  pub untruths_fall_away : balanced false (bool_literal false ∷ link 0 ∷ link 1 ∷ []) ≡ any (link 0) (link 1)
  pub truth_decides : balanced false (link 0 ∷ link 1 ∷ bool_literal true ∷ []) ≡ bool_literal true
  pub one_turn : in_turns 1 true five_links ≡ all (link 0) (link 1) ∷ all (link 2) (link 3) ∷ link 4 ∷ []
  pub two_turns : in_turns 2 true five_links ≡ all (all (link 0) (link 1)) (all (link 2) (link 3)) ∷ link 4 ∷ []
  pub first_of_none : first_or (link 0) [] ≡ link 0
  pub first_of_two : first_or (link 2) two_links ≡ link 0
  pub depth_of_leaves : (depth (link 0) ≡ 0) × (depth (byte_literal 1) ≡ 0) × (depth row_count ≡ 0)
  pub depth_at_the_left : depth (all (not (link 0)) (link 1)) ≡ 2
  pub depth_at_the_right : depth (all (link 0) (is_null (link 1))) ≡ 2
  pub depth_of_operand : depth (between closed (not (link 0)) (link 1) (link 2)) ≡ 2
  pub depth_of_lower_end : depth (between closed (link 0) (is_not_null (link 1)) (link 2)) ≡ 2
  pub depth_of_upper_end : depth (between closed (link 0) (link 1) (not (link 2))) ≡ 2
  pub depth_of_text : depth (like (record { negated = false; case_insensitive = false }) (not (link 0)) (link 1)) ≡ 2
  pub depth_of_pattern : depth (like (record { negated = false; case_insensitive = false }) (link 0) (not (link 1))) ≡ 2
  pub depth_of_statistic : depth (stat aggregate.Max (not (link 0))) ≡ 2
  pub depth_of_five : (w : Bool) → depth (balanced w five_links) ≡ 3
  pub four_columns : normal (all (all (compare Gt a 1) (compare Gt b 2)) (all c (like_of true (codes "ab_")))) ≡ all (all (compare Gt a 1) (compare Gt b 2)) (all (binary Eq c (truth_literal true)) (like_of true (codes "ab_")))
  pub three_tests : normal (any (any (compare Gt a 1) (compare Gt b 2)) (like_of true (codes "ab_"))) ≡ any (any (compare Gt a 1) (compare Gt b 2)) (like_of true (codes "ab_"))
  pub four_values : normal (any (any (compare Eq a 7) (compare Eq a 1)) (any (compare Eq a 5) (compare Eq a 3))) ≡ any (any (compare Eq a 1) (compare Eq a 3)) (any (compare Eq a 5) (compare Eq a 7))
