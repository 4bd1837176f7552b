-- Worked rows: predicates over one column, what satisfies them, and joinings of them, found by computation alone.
use Rattle.std.specs.Prelude.{◌≡◌, ℕ, Bool, true, false, List, [], ◌∷◌, None, Some, codes, map, refl}
use Rattle.std.specs.Str.{chars}
use Rattle.std.proofs.Common.{inl, inr}
use Rattle.vortex_base.specs.declared.aggregate.AggregateFnRef.TheVariants.{Max}
use Rattle.vortex_base.specs.declared.dtype.DType.TheVariants as dtype
use Rattle.vortex_base.specs.declared.pvalue.PValue.TheVariants as number
use Rattle.vortex_base.specs.declared.scalar_value.ScalarValue.TheVariants as value
use Rattle.vortex_base.specs.declared.types.Nullability.TheVariants.{Nullable}
use Rattle.vortex_expr.specs.declared.scalar_fn.Operator.{Operator}
use Rattle.vortex_expr.specs.declared.scalar_fn.Operator.TheVariants.{Eq, Gt, Gte, Lt, Lte, And, Or}
use Rattle.vortex_base.specs.declared.types.PType.TheVariants.{U16}
use Rattle.vortex_expr.specs.declared.scalar_fn.StrictComparison.TheVariants.{NonStrict}
use Rattle.vortex_expr.specs.declared.like.LikeOptions.{LikeOptions}
use Rattle.vortex_expr.specs.Patterns.Like.{plain}
use Rattle.vortex_base.specs.Data.Scalars.{Constant}
use Rattle.vortex_expr.specs.Trees.Tree.{Tree, Place, column, literal, binary, between, is_null, is_not_null, not, like, stat, row_count}
use Rattle.vortex_rewrite.specs.Rewriting.Falsifiers.{bool_literal}
use Rattle.vortex_rewrite.specs.Rewriting.ReadOnce.{has_disjoint_ands}
use Rattle.vortex_normal.specs.Groups.{normal}
use Rattle.vortex_normal.specs.OneColumn.{IsJoining, IsSelective, are_ends_seen, is_over}
use Rattle.vortex_normal.specs.Pushed.{all_of, any_of, comparison, comparison_of, folded, liked, settled}
use Rattle.vortex_normal.specs.Worked.{a, b, byte, byte_literal, compare, null_number, range}

abbrev place_a : Place
place_a = record { index = 0; dtype = byte }

abbrev place_s : Place
place_s = record { index = 3; dtype = dtype.Utf8 Nullable }

abbrev over : Tree Place → Bool
over p = is_over place_a p

abbrev either_way : (l u : ℕ) → Tree Place
either_way l u = binary And (compare Gt a l) (compare Lt a u)

-- ---- leaves: the column, literals, and what is said of the column by literals

itself : over a ≡ true
itself = refl

another : over b ≡ false
another = refl

of_another_type : over (column (record { index = 0; dtype = dtype.Primitive U16 Nullable })) ≡ false
of_another_type = refl

a_literal : over (bool_literal true) ≡ true
a_literal = refl

column_first : over (compare Lte a 5) ≡ true
column_first = refl

literal_first : over (binary Lt (byte_literal 5) a) ≡ true
literal_first = refl

with_itself : over (binary Eq a a) ≡ true
with_itself = refl

null_operand : over (binary Gt a null_number) ≡ true
null_operand = refl

another_first : over (binary Lt b a) ≡ false
another_first = refl

another_second : over (binary Lt a b) ≡ false
another_second = refl

-- so is an operand that has no column, but not one that has
constant_operand : over (binary Eq a (binary Lt (byte_literal 1) (byte_literal 2))) ≡ true
constant_operand = refl

constant_first : over (binary Eq (is_null (byte_literal 1)) a) ≡ true
constant_first = refl

operand_of_the_column : over (binary Eq a (binary Lt a (byte_literal 2))) ≡ false
operand_of_the_column = refl

placeholder_operand : over (binary Eq a (stat Max (byte_literal 2))) ≡ false
placeholder_operand = refl

count_operand : over (binary Eq a row_count) ≡ false
count_operand = refl

a_range : over (range 4 6) ≡ true
a_range = refl

abbrev between_of : (x l u : Tree Place) → Tree Place
between_of x l u = between (record { lower_strict = NonStrict; upper_strict = NonStrict }) x l u

column_as_bound : over (between_of (byte_literal 5) a (byte_literal 9)) ≡ true
column_as_bound = refl

range_of_another : over (between_of b (byte_literal 4) (byte_literal 6)) ≡ false
range_of_another = refl

from_another : over (between_of a b (byte_literal 6)) ≡ false
from_another = refl

up_to_another : over (between_of a (byte_literal 4) b) ≡ false
up_to_another = refl

null_test : over (is_null a) ≡ true
null_test = refl

some_test : over (is_not_null a) ≡ true
some_test = refl

null_of_another : over (is_null b) ≡ false
null_of_another = refl

some_of_another : over (is_not_null b) ≡ false
some_of_another = refl

no_like : over (like (record { negated = false; case_insensitive = false }) a a) ≡ false
no_like = refl

no_placeholder : over (stat Max a) ≡ false
no_placeholder = refl

no_row_count : over row_count ≡ false
no_row_count = refl

-- ---- connectives

both_over : over (either_way 5 9) ≡ true
both_over = refl

left_of_another : over (binary And (compare Gt b 5) (compare Lt a 9)) ≡ false
left_of_another = refl

right_of_another : over (binary Or (compare Gt a 5) (compare Lt b 9)) ≡ false
right_of_another = refl

negated : over (not (compare Gt a 5)) ≡ true
negated = refl

negated_other : over (not (compare Gt b 5)) ≡ false
negated_other = refl

-- ---- what satisfies them

abbrev number_at : ℕ → Constant
number_at n = record { dtype = byte; value = Some (value.Primitive (number.U8 n)) }

selective : IsSelective place_a (either_way 5 9)
selective = record { row = number_at 3 ∷ []; value = value.Primitive (number.U8 3); cell = refl; of_type = refl; refused = refl; null_refused = refl }

-- so its normal form, one range, is one that bounds decide
decided : has_disjoint_ands (normal (either_way 5 9)) ≡ true
unfolding all_of comparison comparison_of folded settled
decided = refl

-- of one that null satisfies it isn't, nor of one that every value does
not_null : has_disjoint_ands (normal (binary Or (compare Gt a 5) (is_null a))) ≡ false
unfolding all_of any_of comparison comparison_of folded settled
not_null = refl

not_every_value : has_disjoint_ands (normal (binary Or (compare Gt a 5) (compare Lt a 9))) ≡ false
unfolding all_of any_of comparison comparison_of folded settled
not_every_value = refl

-- ---- joinings

abbrev place_b : Place
place_b = record { index = 1; dtype = byte }

of_b : IsSelective place_b (compare Lt b 1)
of_b = record { row = number_at 0 ∷ number_at 3 ∷ []; value = value.Primitive (number.U8 3); cell = refl; of_type = refl; refused = refl; null_refused = refl }

joined : IsJoining true (binary And (either_way 5 9) (compare Lt b 1))
joined = inr ((inl (place_a, refl, refl, selective), (place_b, refl, refl, of_b)), refl)

-- under NOT the values that are left out are those that satisfy it
of_b_negated : IsSelective place_b (not (compare Lt b 1))
of_b_negated = record { row = number_at 0 ∷ number_at 0 ∷ []; value = value.Primitive (number.U8 0); cell = refl; of_type = refl; refused = refl; null_refused = refl }

joined_by_not : IsJoining true (binary Or (either_way 5 9) (not (compare Lt b 1)))
joined_by_not = inr ((inl (place_a, refl, refl, selective), (place_b, refl, refl, of_b_negated)), refl)

-- ---- texts: a range that is open at both ends isn't seen, each other one is

abbrev texts : Tree Place
texts = column place_s

abbrev text : ℕ → Tree Place
text n = literal (record { dtype = dtype.Utf8 Nullable; value = Some (value.Utf8 (n ∷ [])) })

abbrev ends : Operator → Operator → Tree Place
ends o q = binary And (binary o texts (text 97)) (binary q texts (text 99))

open_ends : are_ends_seen place_s (ends Gt Lt) ≡ false
unfolding all_of comparison comparison_of folded settled
open_ends = refl

open_below : are_ends_seen place_s (ends Gt Lte) ≡ true
unfolding all_of comparison comparison_of folded settled
open_below = refl

open_above : are_ends_seen place_s (ends Gte Lt) ≡ true
unfolding all_of comparison comparison_of folded settled
open_above = refl

one_end : are_ends_seen place_s (binary Gt texts (text 97)) ≡ true
unfolding all_of comparison comparison_of folded settled
one_end = refl

all_but_one : are_ends_seen place_s (not (binary Eq texts (text 97))) ≡ true
unfolding all_of comparison comparison_of folded settled
all_but_one = refl

-- what is said between other ranges counts, under NOT too
open_in_an_or : are_ends_seen place_s (binary Or (ends Gt Lt) (binary Eq texts (text 97))) ≡ true
unfolding all_of any_of comparison comparison_of folded settled
open_in_an_or = refl

open_beside : are_ends_seen place_s (binary Or (ends Gt Lt) (binary Gt texts (text 120))) ≡ false
unfolding all_of any_of comparison comparison_of folded settled
open_beside = refl

open_by_not : are_ends_seen place_s (not (binary Or (binary Lte texts (text 97)) (binary Gte texts (text 99)))) ≡ false
unfolding all_of any_of comparison comparison_of folded settled
open_by_not = refl

-- of numbers each range is
open_numbers : are_ends_seen place_a (either_way 5 9) ≡ true
open_numbers = refl

-- ---- LIKE: of the column, under a pattern that comparisons say

abbrev pattern : List ℕ → Tree Place
pattern cs = literal (record { dtype = dtype.Utf8 Nullable; value = Some (value.Utf8 cs) })

abbrev null_text : Tree Place
null_text = literal (record { dtype = dtype.Utf8 Nullable; value = None })

abbrev over_texts : Tree Place → Bool
over_texts p = is_over place_s p

abbrev negated_like : LikeOptions
negated_like = record { negated = true; case_insensitive = false }

abbrev caseless : LikeOptions
caseless = record { negated = false; case_insensitive = true }

-- one text, a beginning and runs alone, but neither a run elsewhere nor any one character
like_patterns : map (λ cs. over_texts (like plain texts (pattern cs))) (codes "ab" ∷ [] ∷ codes "ab%" ∷ codes "ab%%" ∷ codes "%" ∷ codes "%b" ∷ codes "a%b" ∷ codes "a_" ∷ codes "_" ∷ [])
    ≡ true ∷ true ∷ true ∷ true ∷ true ∷ false ∷ false ∷ false ∷ false ∷ []
unfolding chars lib.Utf8.encode
like_patterns = refl

-- turned round too, but not where case is ignored
like_options : map (λ o. over_texts (like o texts (pattern (codes "ab%")))) (plain ∷ negated_like ∷ caseless ∷ []) ≡ true ∷ true ∷ false ∷ []
unfolding chars lib.Utf8.encode
like_options = refl

-- of another column, of a constant, of what has the column within it
like_texts : map (λ x. over_texts (like plain x (pattern (codes "ab")))) (texts ∷ b ∷ pattern (codes "ab") ∷ not texts ∷ stat Max texts ∷ []) ≡ true ∷ false ∷ true ∷ false ∷ false ∷ []
unfolding chars lib.Utf8.encode
like_texts = refl

-- a pattern that is no literal, and one that is null
like_no_literal : map (λ q. over_texts (like plain texts q)) (texts ∷ null_text ∷ not (pattern (codes "ab")) ∷ []) ≡ false ∷ false ∷ false ∷ []
like_no_literal = refl

-- a null pattern, and a null text, match nothing in either way
null_pattern : map (λ o. normal (like o texts null_text)) (plain ∷ negated_like ∷ caseless ∷ []) ≡ bool_literal false ∷ bool_literal false ∷ bool_literal false ∷ []
unfolding all_of liked
null_pattern = refl

text_is_null : map (λ o. normal (like o null_text (pattern (codes "ab")))) (plain ∷ negated_like ∷ caseless ∷ []) ≡ bool_literal false ∷ bool_literal false ∷ bool_literal false ∷ []
unfolding all_of liked
text_is_null = refl

not_null_pattern : normal (not (like plain texts null_text)) ≡ bool_literal false
unfolding all_of liked
not_null_pattern = refl

-- ---- a NOT over a joining: its sides are as they are under NOT, and twice turned as they were

outside_negated : IsSelective place_a (not (binary Or (compare Lte a 5) (compare Gte a 9)))
outside_negated = record { row = number_at 3 ∷ []; value = value.Primitive (number.U8 3); cell = refl; of_type = refl; refused = refl; null_refused = refl }

not_of_joining : IsJoining true (not (binary Or (binary Or (compare Lte a 5) (compare Gte a 9)) (compare Lt b 1)))
unfolding all_of comparison comparison_of folded settled
not_of_joining = inr ((inl (place_a, refl, refl, outside_negated), (place_b, refl, refl, of_b_negated)), refl)

not_of_not : IsJoining true (not (not (binary And (either_way 5 9) (compare Lt b 1))))
not_of_not = inr ((inl (place_a, refl, refl, selective), (place_b, refl, refl, of_b)), refl)

wanted_false : IsJoining false (not (binary And (either_way 5 9) (compare Lt b 1)))
wanted_false = inr ((inl (place_a, refl, refl, selective), (place_b, refl, refl, of_b)), refl)

-- a NOT asks the other truth of what stands under it
side_of_not : (x : Tree Place) → IsJoining true (not x) ≡ IsJoining false x
side_of_not x = refl

side_of_not_false : (x : Tree Place) → IsJoining false (not x) ≡ IsJoining true x
side_of_not_false x = refl

three_times_turned : (x : Tree Place) → IsJoining true (not (not (not x))) ≡ IsJoining false x
three_times_turned x = refl
