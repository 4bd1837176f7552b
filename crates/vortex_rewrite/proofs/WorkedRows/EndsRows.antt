-- Worked rows of BETWEEN at the ends of each type, found by computation alone.
use Rattle.std.specs.Prelude.{◌≡◌, ℕ, true, false, List, [], ◌∷◌, Some, pos, negsuc, codes, refl}
use Rattle.vortex_base.specs.declared.aggregate.AggregateFnRef.TheVariants.{Max, Min}
use Rattle.vortex_expr.specs.declared.scalar_fn.BetweenOptions.{BetweenOptions}
use Rattle.vortex_expr.specs.declared.scalar_fn.StrictComparison.TheVariants.{Strict, NonStrict}
use Rattle.vortex_base.specs.declared.dtype.DType.{DType}
use Rattle.vortex_base.specs.declared.dtype.DType.TheVariants as dtype
use Rattle.vortex_base.specs.declared.types.Nullability.TheVariants.{Nullable, NonNullable}
use Rattle.vortex_expr.specs.declared.scalar_fn.Operator.TheVariants.{Gt, Gte, Or}
use Rattle.vortex_base.specs.declared.types.PType.{PType}
use Rattle.vortex_base.specs.declared.types.PType.TheVariants as ptype
use Rattle.vortex_base.specs.declared.pvalue.PValue.{PValue}
use Rattle.vortex_base.specs.declared.pvalue.PValue.TheVariants as number
use Rattle.vortex_base.specs.declared.scalar_value.ScalarValue.{ScalarValue}
use Rattle.vortex_base.specs.declared.scalar_value.ScalarValue.TheVariants as value
use Rattle.vortex_expr.specs.Trees.Tree.{Tree, Place, column, literal, binary, between, not, stat}
use Rattle.vortex_rewrite.specs.Rewriting.Falsifiers.{bool_literal, reduce_balanced, node, falsifier, visits}

abbrev open_ends : BetweenOptions
open_ends = record { lower_strict = Strict; upper_strict = Strict }

abbrev open_below : BetweenOptions
open_below = record { lower_strict = Strict; upper_strict = NonStrict }

abbrev open_above : BetweenOptions
open_above = record { lower_strict = NonStrict; upper_strict = Strict }

abbrev closed_ends : BetweenOptions
closed_ends = record { lower_strict = NonStrict; upper_strict = NonStrict }

abbrev column_of : DType → Tree Place
column_of t = column (record { index = 0; dtype = t })

abbrev literal_of : DType → ScalarValue → Tree Place
literal_of t v = literal (record { dtype = t; value = Some v })

abbrev numbers : PType → Tree Place
numbers p = column_of (dtype.Primitive p Nullable)

abbrev lit : PType → PValue → Tree Place
lit p v = literal_of (dtype.Primitive p NonNullable) (value.Primitive v)

-- ---- whole numbers: nothing lies above the greatest or below the least, and strict ends move inwards

abbrev NothingAbove : PType → PValue → Type 0
NothingAbove p v = falsifier [] (between open_below (numbers p) (lit p v) (lit p v)) ≡ Some (bool_literal true)

abbrev NothingBelow : PType → PValue → Type 0
NothingBelow p v = falsifier [] (between open_above (numbers p) (lit p v) (lit p v)) ≡ Some (bool_literal true)

abbrev LiesWithin : PType → (least low high greatest : PValue) → Type 0
LiesWithin p least low high greatest = falsifier [] (between open_ends (numbers p) (lit p least) (lit p greatest)) ≡ Some (binary Or (binary Gt (lit p low) (stat Max (numbers p))) (binary Gt (stat Min (numbers p)) (lit p high)))

u8_above : NothingAbove ptype.U8 (number.U8 255)
unfolding node reduce_balanced
u8_above = refl

u8_below : NothingBelow ptype.U8 (number.U8 0)
unfolding node reduce_balanced
u8_below = refl

u8_within : LiesWithin ptype.U8 (number.U8 0) (number.U8 1) (number.U8 254) (number.U8 255)
unfolding node reduce_balanced
u8_within = refl

u16_above : NothingAbove ptype.U16 (number.U16 65535)
unfolding node reduce_balanced
u16_above = refl

u16_below : NothingBelow ptype.U16 (number.U16 0)
unfolding node reduce_balanced
u16_below = refl

u16_within : LiesWithin ptype.U16 (number.U16 0) (number.U16 1) (number.U16 65534) (number.U16 65535)
unfolding node reduce_balanced
u16_within = refl

u32_above : NothingAbove ptype.U32 (number.U32 4294967295)
unfolding node reduce_balanced
u32_above = refl

u32_below : NothingBelow ptype.U32 (number.U32 0)
unfolding node reduce_balanced
u32_below = refl

u32_within : LiesWithin ptype.U32 (number.U32 0) (number.U32 1) (number.U32 4294967294) (number.U32 4294967295)
unfolding node reduce_balanced
u32_within = refl

u64_above : NothingAbove ptype.U64 (number.U64 18446744073709551615)
unfolding node reduce_balanced
u64_above = refl

u64_below : NothingBelow ptype.U64 (number.U64 0)
unfolding node reduce_balanced
u64_below = refl

u64_within : LiesWithin ptype.U64 (number.U64 0) (number.U64 1) (number.U64 18446744073709551614) (number.U64 18446744073709551615)
unfolding node reduce_balanced
u64_within = refl

i8_above : NothingAbove ptype.I8 (number.I8 (pos 127))
unfolding node reduce_balanced
i8_above = refl

i8_below : NothingBelow ptype.I8 (number.I8 (negsuc 127))
unfolding node reduce_balanced
i8_below = refl

i8_within : LiesWithin ptype.I8 (number.I8 (negsuc 127)) (number.I8 (negsuc 126)) (number.I8 (pos 126)) (number.I8 (pos 127))
unfolding node reduce_balanced
i8_within = refl

i16_above : NothingAbove ptype.I16 (number.I16 (pos 32767))
unfolding node reduce_balanced
i16_above = refl

i16_below : NothingBelow ptype.I16 (number.I16 (negsuc 32767))
unfolding node reduce_balanced
i16_below = refl

i16_within : LiesWithin ptype.I16 (number.I16 (negsuc 32767)) (number.I16 (negsuc 32766)) (number.I16 (pos 32766)) (number.I16 (pos 32767))
unfolding node reduce_balanced
i16_within = refl

i32_above : NothingAbove ptype.I32 (number.I32 (pos 2147483647))
unfolding node reduce_balanced
i32_above = refl

i32_below : NothingBelow ptype.I32 (number.I32 (negsuc 2147483647))
unfolding node reduce_balanced
i32_below = refl

i32_within : LiesWithin ptype.I32 (number.I32 (negsuc 2147483647)) (number.I32 (negsuc 2147483646)) (number.I32 (pos 2147483646)) (number.I32 (pos 2147483647))
unfolding node reduce_balanced
i32_within = refl

i64_above : NothingAbove ptype.I64 (number.I64 (pos 9223372036854775807))
unfolding node reduce_balanced
i64_above = refl

i64_below : NothingBelow ptype.I64 (number.I64 (negsuc 9223372036854775807))
unfolding node reduce_balanced
i64_below = refl

i64_within : LiesWithin ptype.I64 (number.I64 (negsuc 9223372036854775807)) (number.I64 (negsuc 9223372036854775806)) (number.I64 (pos 9223372036854775806)) (number.I64 (pos 9223372036854775807))
unfolding node reduce_balanced
i64_within = refl

-- across zero a strict end moves to its neighbour on the other side
i8_across_zero : LiesWithin ptype.I8 (number.I8 (negsuc 0)) (number.I8 (pos 0)) (number.I8 (pos 0)) (number.I8 (pos 1))
unfolding node reduce_balanced
i8_across_zero = refl

-- a moved literal keeps its type, each end its own
abbrev nullable_lit : PValue → Tree Place
nullable_lit v = literal_of (dtype.Primitive ptype.U8 Nullable) (value.Primitive v)

moved_types : falsifier [] (between open_ends (numbers ptype.U8) (nullable_lit (number.U8 3)) (lit ptype.U8 (number.U8 9))) ≡ Some (binary Or (binary Gt (nullable_lit (number.U8 4)) (stat Max (numbers ptype.U8))) (binary Gt (stat Min (numbers ptype.U8)) (lit ptype.U8 (number.U8 8))))
unfolding node reduce_balanced
moved_types = refl

-- ---- texts, bytes and truths: their ends stay, and nothing lies between crossed ends or in an open point

abbrev texts : Tree Place
texts = column_of (dtype.Utf8 NonNullable)

abbrev text : List ℕ → Tree Place
text bs = literal_of (dtype.Utf8 NonNullable) (value.Utf8 bs)

crossed_texts : falsifier [] (between closed_ends texts (text (codes "c")) (text (codes "a"))) ≡ Some (bool_literal true)
unfolding node reduce_balanced
crossed_texts = refl

point_open_above : falsifier [] (between open_above texts (text (codes "b")) (text (codes "b"))) ≡ Some (bool_literal true)
unfolding node reduce_balanced
point_open_above = refl

point_open : falsifier [] (between open_ends texts (text (codes "b")) (text (codes "b"))) ≡ Some (bool_literal true)
unfolding node reduce_balanced
point_open = refl

open_above_texts : falsifier [] (between open_above texts (text (codes "a")) (text (codes "c"))) ≡ Some (binary Or (binary Gt (text (codes "a")) (stat Max texts)) (binary Gte (stat Min texts) (text (codes "c"))))
unfolding node reduce_balanced
open_above_texts = refl

abbrev bytes : Tree Place
bytes = column_of (dtype.Binary NonNullable)

abbrev byte : List ℕ → Tree Place
byte bs = literal_of (dtype.Binary NonNullable) (value.Binary bs)

crossed_bytes : falsifier [] (between closed_ends bytes (byte (255 ∷ [])) (byte (0 ∷ []))) ≡ Some (bool_literal true)
unfolding node reduce_balanced
crossed_bytes = refl

no_bytes_between : falsifier [] (between open_ends bytes (byte []) (byte (0 ∷ []))) ≡ Some (binary Or (binary Gte (byte []) (stat Max bytes)) (binary Gte (stat Min bytes) (byte (0 ∷ []))))
unfolding node reduce_balanced
no_bytes_between = refl

abbrev truths : Tree Place
truths = column_of (dtype.Bool NonNullable)

crossed_truths : falsifier [] (between closed_ends truths (bool_literal true) (bool_literal false)) ≡ Some (bool_literal true)
unfolding node reduce_balanced
crossed_truths = refl

one_truth : falsifier [] (between open_below truths (bool_literal true) (bool_literal true)) ≡ Some (bool_literal true)
unfolding node reduce_balanced
one_truth = refl

-- ---- whatever stands between

crossed_round_any_expression : falsifier [] (between closed_ends (not truths) (bool_literal true) (bool_literal false)) ≡ Some (bool_literal true)
unfolding node reduce_balanced
crossed_round_any_expression = refl

-- a range is rewritten at its moved ends only where both are literals
ends_that_are_columns : falsifier [] (between open_ends (lit ptype.U8 (number.U8 3)) (numbers ptype.U8) (lit ptype.U8 (number.U8 9))) ≡ Some (binary Or (binary Gte (stat Min (numbers ptype.U8)) (lit ptype.U8 (number.U8 3))) (binary Gte (lit ptype.U8 (number.U8 3)) (lit ptype.U8 (number.U8 9))))
unfolding node reduce_balanced
ends_that_are_columns = refl

visits_of_crossed_texts : visits (between closed_ends texts (text (codes "c")) (text (codes "a"))) ≡ 1
visits_of_crossed_texts = refl

visits_of_texts : visits (between closed_ends texts (text (codes "a")) (text (codes "c"))) ≡ 4
visits_of_texts = refl
