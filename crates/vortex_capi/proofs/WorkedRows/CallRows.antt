-- Worked rows: what crosses from a caller, each case by computation.
use Rattle.std.proofs.Common.{◌≡◌, ℕ, pos, negsuc, List, [], ◌∷◌, None, Some, Ok, Err, true, false, map, refl}
use Rattle.vortex_base.specs.declared.dtype.DType.TheVariants as dtype
use Rattle.vortex_base.specs.declared.types.Nullability.TheVariants.{Nullable, NonNullable}
use Rattle.vortex_base.specs.declared.types.PType.TheVariants as ptype
use Rattle.vortex_base.specs.declared.pvalue.PValue.TheVariants as number
use Rattle.vortex_base.specs.declared.scalar_value.ScalarValue.TheVariants as value
use Rattle.vortex_base.specs.declared.utf8_array.TextRef.{TextRef}
use Rattle.vortex_base.specs.declared.value_ref.ValueRef.TheVariants as lent
use Rattle.vortex_stats.specs.declared.precision.Precision.TheVariants.{Exact, Inexact, Absent}
use Rattle.vortex_stats.specs.declared.stat.Stat.TheVariants as stat
use Rattle.vortex_capi.specs.declared.status.Status.TheVariants.{BadEnds, BadKind, BadLength, BadNull, BadStat, BadValue}
use Rattle.vortex_capi.specs.Encoding.{bytes_of, number_of, value_of}
use Rattle.vortex_capi.specs.Extents.{IsExtentOf, follows, is_lent}
use Rattle.vortex_capi.specs.Given.{bytes_at}
use Rattle.vortex_capi.specs.Measures.{slots_in, stat_of, wanted_of}
use Rattle.vortex_capi.specs.Slots.{ends_from, heap, slot_of}
use Rattle.vortex_capi.specs.Statuses.{at_entry, at_row}
use Rattle.vortex_capi.specs.Types.{dtype_of}
use Rattle.vortex_capi.specs.Values.{cell, cells}

-- ---- types: the least kind, the greatest, one past it, and each nullability

kind_null : dtype_of 0 0 ≡ Ok dtype.Null
kind_null = refl

kind_i64 : dtype_of 9 1 ≡ Ok (dtype.Primitive ptype.I64 Nullable)
kind_i64 = refl

kind_binary : dtype_of 11 0 ≡ Ok (dtype.Binary NonNullable)
kind_binary = refl

no_kind : dtype_of 17 0 ≡ Err BadKind
no_kind = refl

no_nullability : dtype_of 9 2 ≡ Err BadKind
no_nullability = refl

-- ---- values: the lowest byte stands first, the highest bit is a sign where the type has one

two_bytes : number_of ptype.U16 (1 ∷ 2 ∷ 3 ∷ []) ≡ Some (number.U16 513)
two_bytes = refl

below_zero : number_of ptype.I16 (254 ∷ 255 ∷ []) ≡ Some (number.I16 (negsuc 1))
below_zero = refl

above_zero : number_of ptype.I8 (127 ∷ []) ≡ Some (number.I8 (pos 127))
above_zero = refl

too_few : number_of ptype.U32 (1 ∷ 2 ∷ 3 ∷ []) ≡ None
too_few = refl

a_truth : value_of (dtype.Bool NonNullable) (1 ∷ []) ≡ Ok (value.Bool true)
a_truth = refl

no_truth : value_of (dtype.Bool NonNullable) (2 ∷ []) ≡ Err BadValue
no_truth = refl

back_below_zero : bytes_of (value.Primitive (number.I16 (negsuc 1))) ≡ 254 ∷ 255 ∷ []
back_below_zero = refl

back_two_bytes : bytes_of (value.Primitive (number.U16 513)) ≡ 1 ∷ 2 ∷ []
back_two_bytes = refl

-- ---- places: values of one width, and texts between their ends

five : List ℕ
five = 10 ∷ 11 ∷ 12 ∷ 13 ∷ 14 ∷ []

second_number : bytes_at (dtype.Primitive ptype.U16 Nullable) five 0 [] 1 ≡ Ok (12 ∷ 13 ∷ [])
unfolding five
second_number = refl

no_third_number : bytes_at (dtype.Primitive ptype.U16 Nullable) five 0 [] 2 ≡ Err BadLength
unfolding five
no_third_number = refl

first_text : bytes_at (dtype.Utf8 Nullable) five 1 (3 ∷ 5 ∷ []) 0 ≡ Ok (11 ∷ 12 ∷ [])
unfolding five
first_text = refl

second_text : bytes_at (dtype.Utf8 Nullable) five 1 (3 ∷ 5 ∷ []) 1 ≡ Ok (13 ∷ 14 ∷ [])
unfolding five
second_text = refl

no_third_text : bytes_at (dtype.Utf8 Nullable) five 1 (3 ∷ 5 ∷ []) 2 ≡ Err BadLength
unfolding five
no_third_text = refl

ends_past_heap : bytes_at (dtype.Binary Nullable) five 0 (6 ∷ []) 0 ≡ Err BadEnds
unfolding five
ends_past_heap = refl

ends_before_start : bytes_at (dtype.Binary Nullable) five 3 (2 ∷ []) 0 ≡ Err BadEnds
unfolding five
ends_before_start = refl

-- ---- cells: a null byte, none, too few, and a null where the type has none

a_null : cell (dtype.Primitive ptype.U8 Nullable) five 0 [] (0 ∷ 7 ∷ []) 1 ≡ Ok None
unfolding five
a_null = refl

no_null : cell (dtype.Primitive ptype.U8 Nullable) five 0 [] (0 ∷ 7 ∷ []) 0 ≡ Ok (Some (value.Primitive (number.U8 10)))
unfolding five
no_null = refl

no_null_bytes : cell (dtype.Primitive ptype.U8 NonNullable) five 0 [] [] 4 ≡ Ok (Some (value.Primitive (number.U8 14)))
unfolding five
no_null_bytes = refl

few_null_bytes : cell (dtype.Primitive ptype.U8 Nullable) five 0 [] (0 ∷ []) 1 ≡ Err BadLength
unfolding five
few_null_bytes = refl

null_refused : cell (dtype.Primitive ptype.U8 NonNullable) five 0 [] (1 ∷ []) 0 ≡ Err BadNull
unfolding five
null_refused = refl

nulls_alone : cell dtype.Null [] 0 [] [] 8 ≡ Ok None
nulls_alone = refl

-- the first row that is refused is told
first_refused : cells (dtype.Bool NonNullable) (1 ∷ 9 ∷ 8 ∷ []) 0 [] [] 3 ≡ Err (at_row BadValue 1)
first_refused = refl

all_given : cells (dtype.Bool NonNullable) (1 ∷ 0 ∷ []) 0 [] [] 2 ≡ Ok (Some (value.Bool true) ∷ Some (value.Bool false) ∷ [])
all_given = refl

-- ---- statistics: those that a type has, and their bytes

no_sum_of_texts : wanted_of (dtype.Utf8 Nullable) (3 ∷ 5 ∷ 9 ∷ []) ≡ Err (at_entry BadStat 1)
no_sum_of_texts = refl

no_ninth : stat_of (dtype.Bool Nullable) 9 ≡ Err BadStat
no_ninth = refl

wanted : wanted_of (dtype.Bool Nullable) (4 ∷ 0 ∷ []) ≡ Ok (stat.Min ∷ stat.IsConstant ∷ [])
wanted = refl

blank_number : slot_of (dtype.Primitive ptype.I32 Nullable) stat.Max Absent ≡ (0, 0 ∷ 0 ∷ 0 ∷ 0 ∷ [])
blank_number = refl

blank_text : slot_of (dtype.Utf8 Nullable) stat.Max Absent ≡ (0, [])
blank_text = refl

blank_sum : slot_of (dtype.Bool Nullable) stat.Sum Absent ≡ (0, 0 ∷ 0 ∷ 0 ∷ 0 ∷ 0 ∷ 0 ∷ 0 ∷ 0 ∷ [])
blank_sum = refl

inexact : slot_of (dtype.Utf8 Nullable) stat.Max (Inexact (value.Utf8 (97 ∷ 98 ∷ []))) ≡ (2, 97 ∷ 98 ∷ [])
inexact = refl

exact_and_absent : slots_in (dtype.Bool Nullable) ((stat.Min, Exact (value.Bool true)) ∷ []) (stat.Max ∷ stat.Min ∷ []) ≡ (0, 0 ∷ []) ∷ (1, 1 ∷ []) ∷ []
exact_and_absent = refl

the_ends : ends_from 0 ((1, 7 ∷ 8 ∷ []) ∷ (0, []) ∷ (2, 9 ∷ []) ∷ []) ≡ 2 ∷ 2 ∷ 3 ∷ []
the_ends = refl

the_heap : heap ((1, 7 ∷ 8 ∷ []) ∷ (0, []) ∷ (2, 9 ∷ []) ∷ []) ≡ 7 ∷ 8 ∷ 9 ∷ []
the_heap = refl

-- ---- extents: the null doesn't count as a value, and the least is below zero

an_extent : IsExtentOf (record { nulls = 1; least = Some (lent.Primitive (number.I16 (negsuc 1))); greatest = Some (lent.Primitive (number.I16 (pos 5))) })
    (record { dtype = dtype.Primitive ptype.I16 Nullable; values = Some (value.Primitive (number.I16 (pos 5))) ∷ None ∷ Some (value.Primitive (number.I16 (negsuc 1))) ∷ []; size = 6 })
an_extent = record { nulls = refl; least = refl; greatest = refl }

of_nulls_alone : IsExtentOf (record { nulls = 2; least = None; greatest = None }) (record { dtype = dtype.Primitive ptype.U8 Nullable; values = None ∷ None ∷ []; size = 0 })
of_nulls_alone = record { nulls = refl; least = refl; greatest = refl }

an_extent_of_texts : (least greatest : TextRef) → least.text.now ≡ 97 ∷ 98 ∷ [] → greatest.text.now ≡ 98 ∷ [] → IsExtentOf (record { nulls = 1; least = Some (lent.Utf8 least); greatest = Some (lent.Utf8 greatest) })
    (record { dtype = dtype.Utf8 Nullable; values = Some (value.Utf8 (98 ∷ [])) ∷ None ∷ Some (value.Utf8 (97 ∷ 98 ∷ [])) ∷ []; size = 3 })
an_extent_of_texts least greatest l g = record { nulls = refl; least = rw l refl; greatest = rw g refl }

these_are_lent : map is_lent (dtype.Null ∷ dtype.Bool Nullable ∷ dtype.Primitive ptype.U8 Nullable ∷ dtype.Utf8 NonNullable ∷ dtype.Binary Nullable ∷ []) ≡ false ∷ false ∷ false ∷ true ∷ true ∷ []
these_are_lent = refl

these_follow : map follows (stat.Max ∷ stat.Min ∷ stat.NullCount ∷ stat.UncompressedSizeInBytes ∷ []) ≡ true ∷ true ∷ true ∷ true ∷ []
these_follow = refl

others_dont : map follows (stat.IsConstant ∷ stat.IsSorted ∷ stat.IsStrictSorted ∷ stat.Sum ∷ stat.NaNCount ∷ []) ≡ false ∷ false ∷ false ∷ false ∷ false ∷ []
others_dont = refl
