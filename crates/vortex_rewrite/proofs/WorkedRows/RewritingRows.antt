-- Worked rows of rewriting, found by computation alone.
use Rattle.std.specs.Prelude.{◌≡◌, ℕ, true, false, List, [], ◌∷◌, Some, None, ℤ, pos, negsuc, codes, refl}
use Rattle.std.specs.Str.{chars}
use Rattle.vortex_base.specs.declared.aggregate.AggregateFnRef.TheVariants.{Max, Min, NullCount, AllNull, AllNonNull}
use Rattle.vortex_expr.specs.declared.scalar_fn.BetweenOptions.{BetweenOptions}
use Rattle.vortex_expr.specs.declared.scalar_fn.StrictComparison.TheVariants.{Strict, NonStrict}
use Rattle.vortex_base.specs.declared.dtype.DType.{DType}
use Rattle.vortex_base.specs.declared.dtype.DType.TheVariants as dtype
use Rattle.vortex_base.specs.declared.types.Nullability.TheVariants.{Nullable, NonNullable}
use Rattle.vortex_expr.specs.declared.scalar_fn.Operator.TheVariants.{Eq, NotEq, Gt, Gte, Lt, Lte, And, Or}
use Rattle.vortex_base.specs.declared.types.PType.TheVariants as ptype
use Rattle.vortex_base.specs.declared.pvalue.PValue.TheVariants as number
use Rattle.vortex_base.specs.declared.scalar_value.ScalarValue.TheVariants as value
use Rattle.vortex_expr.specs.Patterns.Like.{plain}
use Rattle.vortex_expr.specs.Patterns.Prefix.{successor}
use Rattle.vortex_expr.specs.Trees.Tree.{Tree, Place, column, literal, binary, between, is_null, is_not_null, not, like, stat, row_count}
use Rattle.vortex_rewrite.specs.Rewriting.Falsifiers.{bool_literal, count_literal, reduce_balanced, node, falsifier, satisfier, visits}

abbrev i32_type : DType
i32_type = dtype.Primitive ptype.I32 Nullable

abbrev a : Tree Place
a = column (record { index = 0; dtype = i32_type })

abbrev s : Tree Place
s = column (record { index = 1; dtype = dtype.Utf8 NonNullable })

abbrev state : Tree Place
state = column (record { index = 2; dtype = dtype.Null })

abbrev num : ℕ → Tree Place
num n = literal (record { dtype = dtype.Primitive ptype.I32 NonNullable; value = Some (value.Primitive (number.I32 (pos n))) })

abbrev null_num : Tree Place
null_num = literal (record { dtype = i32_type; value = None })

abbrev text : List ℕ → Tree Place
text bs = literal (record { dtype = dtype.Utf8 NonNullable; value = Some (value.Utf8 bs) })

abbrev open_ends : BetweenOptions
open_ends = record { lower_strict = Strict; upper_strict = Strict }

abbrev lower_end : BetweenOptions
lower_end = record { lower_strict = Strict; upper_strict = NonStrict }

abbrev upper_end : BetweenOptions
upper_end = record { lower_strict = NonStrict; upper_strict = Strict }

abbrev small : Tree Place
small = column (record { index = 3; dtype = dtype.Primitive ptype.I8 Nullable })

abbrev byte : ℤ → Tree Place
byte z = literal (record { dtype = dtype.Primitive ptype.I8 NonNullable; value = Some (value.Primitive (number.I8 z)) })

abbrev counted : Tree Place
counted = column (record { index = 4; dtype = dtype.Primitive ptype.U8 NonNullable })

abbrev count : ℕ → Tree Place
count n = literal (record { dtype = dtype.Primitive ptype.U8 NonNullable; value = Some (value.Primitive (number.U8 n)) })

abbrev truth : Tree Place
truth = column (record { index = 5; dtype = dtype.Bool NonNullable })

abbrev closed_ends : BetweenOptions
closed_ends = record { lower_strict = NonStrict; upper_strict = NonStrict }

-- ---- AND, OR and BETWEEN

repeated_column : falsifier [] (binary And (binary Gt a (num 10)) (binary Lt a (num 5))) ≡ Some (binary Or (binary Lte (stat Max a) (num 10)) (binary Gte (stat Min a) (num 5)))
unfolding node reduce_balanced
repeated_column = refl

either_column : falsifier [] (binary Or (binary Gt a (num 10)) (binary Lt a (num 5))) ≡ Some (binary And (binary Lte (stat Max a) (num 10)) (binary Gte (stat Min a) (num 5)))
unfolding node reduce_balanced
either_column = refl

closed_range : falsifier [] (between closed_ends a (num 10) (num 50)) ≡ Some (binary Or (binary Gt (num 10) (stat Max a)) (binary Gt (stat Min a) (num 50)))
unfolding node reduce_balanced
closed_range = refl

crossed_range : falsifier [] (between closed_ends a (num 50) (num 10)) ≡ Some (bool_literal true)
unfolding node reduce_balanced
crossed_range = refl

open_range : falsifier [] (between open_ends a (num 3) (num 4)) ≡ Some (bool_literal true)
unfolding node reduce_balanced
open_range = refl

one_between : falsifier [] (between open_ends a (num 3) (num 5)) ≡ Some (binary Or (binary Gt (num 4) (stat Max a)) (binary Gt (stat Min a) (num 4)))
unfolding node reduce_balanced
one_between = refl

lower_open : falsifier [] (between lower_end a (num 3) (num 10)) ≡ Some (binary Or (binary Gt (num 4) (stat Max a)) (binary Gt (stat Min a) (num 10)))
unfolding node reduce_balanced
lower_open = refl

above_greatest : falsifier [] (between lower_end small (byte (pos 127)) (byte (pos 127))) ≡ Some (bool_literal true)
unfolding node reduce_balanced
above_greatest = refl

below_least : falsifier [] (between upper_end small (byte (negsuc 127)) (byte (negsuc 127))) ≡ Some (bool_literal true)
unfolding node reduce_balanced
below_least = refl

all_but_the_ends : falsifier [] (between open_ends small (byte (negsuc 127)) (byte (pos 127))) ≡ Some (binary Or (binary Gt (byte (negsuc 126)) (stat Max small)) (binary Gt (stat Min small) (byte (pos 126))))
unfolding node reduce_balanced
all_but_the_ends = refl

below_zero : falsifier [] (between upper_end counted (count 0) (count 0)) ≡ Some (bool_literal true)
unfolding node reduce_balanced
below_zero = refl

equal_texts : falsifier [] (between lower_end s (text (codes "b")) (text (codes "b"))) ≡ Some (bool_literal true)
unfolding node reduce_balanced
equal_texts = refl

equal_closed_texts : falsifier [] (between closed_ends s (text (codes "b")) (text (codes "b"))) ≡ Some (binary Or (binary Gt (text (codes "b")) (stat Max s)) (binary Gt (stat Min s) (text (codes "b"))))
unfolding node reduce_balanced
equal_closed_texts = refl

open_texts : falsifier [] (between lower_end s (text (codes "a")) (text (codes "c"))) ≡ Some (binary Or (binary Gte (text (codes "a")) (stat Max s)) (binary Gt (stat Min s) (text (codes "c"))))
unfolding node reduce_balanced
open_texts = refl

open_truths : falsifier [] (between open_ends truth (bool_literal false) (bool_literal true)) ≡ Some (binary Or (binary Gte (bool_literal false) (stat Max truth)) (binary Gte (stat Min truth) (bool_literal true)))
unfolding node reduce_balanced
open_truths = refl

null_end : falsifier [] (between open_ends a null_num (num 4)) ≡ Some (binary Or (binary Gte null_num (stat Max a)) (binary Gte (stat Min a) (num 4)))
unfolding node reduce_balanced
null_end = refl

one_side : falsifier [] (binary And (not (bool_literal true)) (binary Lt a (num 5))) ≡ Some (binary Gte (stat Min a) (num 5))
unfolding node reduce_balanced
one_side = refl

not_one_side : falsifier [] (binary Or (not (bool_literal true)) (binary Lt a (num 5))) ≡ None
unfolding node reduce_balanced
not_one_side = refl

-- ---- comparisons, null tests and literals

with_null : falsifier [] (binary Eq a null_num) ≡ Some (binary Or (binary Gt (stat Min a) null_num) (binary Gt null_num (stat Max a)))
unfolding node reduce_balanced
with_null = refl

differs : falsifier [] (binary NotEq a (num 5)) ≡ Some (binary And (binary Eq (stat Min a) (num 5)) (binary Eq (stat Max a) (num 5)))
unfolding node reduce_balanced
differs = refl

no_bounds : falsifier [] (binary Eq state state) ≡ None
unfolding node reduce_balanced
no_bounds = refl

null_test : falsifier [] (is_null a) ≡ Some (binary Or (binary Eq (stat NullCount a) (count_literal 0)) (stat AllNonNull a))
unfolding node reduce_balanced
null_test = refl

value_test : falsifier [] (is_not_null a) ≡ Some (binary Or (binary Eq (stat NullCount a) row_count) (stat AllNull a))
unfolding node reduce_balanced
value_test = refl

null_test_of_a_literal : falsifier [] (is_null (num 7)) ≡ Some (binary Or (binary Eq (count_literal 0) (count_literal 0)) (stat AllNonNull (num 7)))
unfolding node reduce_balanced
null_test_of_a_literal = refl

null_test_satisfied : satisfier [] (is_null a) ≡ Some (binary Or (binary Eq (stat NullCount a) row_count) (stat AllNull a))
unfolding node reduce_balanced
null_test_satisfied = refl

false_literal : falsifier [] (bool_literal false) ≡ Some (bool_literal true)
unfolding node reduce_balanced
false_literal = refl

false_satisfied : satisfier [] (bool_literal false) ≡ Some (bool_literal false)
unfolding node reduce_balanced
false_satisfied = refl

null_literal : falsifier [] (literal (record { dtype = dtype.Bool Nullable; value = None })) ≡ None
unfolding node reduce_balanced
null_literal = refl

negation : falsifier [] (not (bool_literal true)) ≡ None
unfolding node reduce_balanced
negation = refl

-- ---- LIKE

begins : falsifier [] (like plain s (text (codes "prefix%"))) ≡ Some (binary Or (binary Gte (stat Min s) (text (codes "prefiy"))) (binary Lt (stat Max s) (text (codes "prefix"))))
unfolding node reduce_balanced chars lib.Utf8.encode
begins = refl

exactly : falsifier [] (like plain s (text (codes "exact"))) ≡ Some (binary Or (binary Gt (stat Min s) (text (codes "exact"))) (binary Lt (stat Max s) (text (codes "exact"))))
unfolding node reduce_balanced chars lib.Utf8.encode
exactly = refl

escaped : falsifier [] (like plain s (text (92 ∷ 37 ∷ 37 ∷ []))) ≡ Some (binary Or (binary Gte (stat Min s) (text (codes "&"))) (binary Lt (stat Max s) (text (codes "%"))))
unfolding node reduce_balanced chars lib.Utf8.encode
escaped = refl

ends : falsifier [] (like plain s (text (codes "%suffix"))) ≡ None
unfolding node reduce_balanced chars lib.Utf8.encode
ends = refl

empty_pattern : falsifier [] (like plain s (text [])) ≡ Some (binary Or (binary Gt (stat Min s) (text [])) (binary Lt (stat Max s) (text [])))
unfolding node reduce_balanced chars lib.Utf8.encode
empty_pattern = refl

last_character : falsifier [] (like plain s (text (244 ∷ 143 ∷ 191 ∷ 191 ∷ 37 ∷ []))) ≡ None
unfolding node reduce_balanced chars lib.Utf8.encode
last_character = refl

negated : falsifier [] (like (record { negated = true; case_insensitive = false }) s (text (codes "a%"))) ≡ None
unfolding node reduce_balanced chars lib.Utf8.encode
negated = refl

successor_of_z : successor (97 ∷ 122 ∷ []) ≡ Some (97 ∷ 123 ∷ [])
successor_of_z = refl

successor_before_surrogates : successor (55295 ∷ []) ≡ None
successor_before_surrogates = refl

successor_drops : successor (98 ∷ 55295 ∷ []) ≡ Some (99 ∷ [])
successor_drops = refl

successor_after_last : successor (97 ∷ 1114111 ∷ []) ≡ Some (98 ∷ [])
successor_after_last = refl

-- ---- visits

abbrev chain : (n : ℕ) → Tree Place
chain ℕ.zero = binary Eq a (num 0)
chain (ℕ.suc n) = binary Or (chain n) (binary Eq a (num n))

chain_of_sixteen : visits (chain 15) ≡ 31
chain_of_sixteen = refl

one_range : visits (between open_ends a (num 3) (num 5)) ≡ 4
one_range = refl

empty_range : visits (between open_ends a (num 3) (num 4)) ≡ 1
empty_range = refl
