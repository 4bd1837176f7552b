-- Worked rows of footers: the grammar, the records, the table of types, the choice of bounds and the columns.
use Rattle.std.specs.Prelude.{◌≡◌, ℕ, ◌^◌, ◌-◌, pos, negsuc, true, false, List, [], ◌∷◌, Some, None, Ok, Err, codes}
use Rattle.vortex_base.specs.declared.pvalue.PValue.TheVariants as number
use Rattle.vortex_base.specs.declared.scalar_value.ScalarValue.TheVariants as value
use Rattle.vortex_base.specs.declared.dtype.DType.TheVariants as dtype
use Rattle.vortex_base.specs.declared.types.Nullability.TheVariants.{Nullable, NonNullable}
use Rattle.vortex_logical.specs.declared.float_type.FloatType.TheVariants as float
use Rattle.vortex_base.specs.declared.types.PType.TheVariants as ptype
use Rattle.vortex_logical.specs.declared.time_unit.TimeUnit.TheVariants as unit
use Rattle.vortex_stats.specs.declared.precision.Precision.TheVariants.{Exact, Inexact, Absent}
use Rattle.vortex_stats.specs.declared.stat.Stat.TheVariants.{Max, Min, NullCount}
use Rattle.vortex_parquet.specs.declared.columns.Content.TheVariants as content
use Rattle.vortex_parquet.specs.declared.columns.Form.TheVariants as form
use Rattle.vortex_parquet.specs.declared.columns.LeftOut.TheVariants as left_out
use Rattle.vortex_parquet.specs.declared.compact.Kind.TheVariants as kind
use Rattle.vortex_parquet.specs.declared.fault.Fault.TheVariants as fault
use Rattle.vortex_parquet.specs.declared.meaning.LeafMeaning.TheVariants as meaning
use Rattle.vortex_parquet.specs.declared.records.Annotation.TheVariants as annotation
use Rattle.vortex_parquet.specs.Compact.{binary_at, head_at, items_at, map_at, natural_at, varint_at}
use Rattle.vortex_parquet.specs.Columns.{annotation_of, columns_of, converted, form_dtype, form_of, is_signed, lookup, nullability}
use Rattle.vortex_parquet.specs.Fields.{found, struct_of}
use Rattle.vortex_parquet.specs.Footer.{footer_of, length_of}
use Rattle.vortex_parquet.specs.Records.{annotation_at, chunk_size, element_of, order_of, statistics_of}
use Rattle.vortex_parquet.specs.Skip.{skip_at}
use Rattle.vortex_parquet.specs.Stats.{bound_by, chosen, chunk_set, count_of, greatest_value, group_of, set_of, size_of, sum_of, value_of}

-- numbers, strings, heads, values and fields of the compact protocol, and where a footer stands
pub record GrammarExamples : Type 0 where
  pub one_byte : varint_at (5 ∷ 9 ∷ []) ≡ Ok (5, 9 ∷ [])
  pub two_bytes : varint_at (172 ∷ 2 ∷ 7 ∷ []) ≡ Ok (300, 7 ∷ [])
  pub padded : varint_at (128 ∷ 0 ∷ []) ≡ Ok (0, [])
  pub greatest : varint_at (255 ∷ 255 ∷ 255 ∷ 255 ∷ 255 ∷ 255 ∷ 255 ∷ 255 ∷ 255 ∷ 1 ∷ []) ≡ Ok (2 ^ 64 - 1, [])
  pub past_64_bits : varint_at (255 ∷ 255 ∷ 255 ∷ 255 ∷ 255 ∷ 255 ∷ 255 ∷ 255 ∷ 255 ∷ 2 ∷ []) ≡ Err fault.Varint
  pub eleven_bytes : varint_at (128 ∷ 128 ∷ 128 ∷ 128 ∷ 128 ∷ 128 ∷ 128 ∷ 128 ∷ 128 ∷ 128 ∷ 0 ∷ []) ≡ Err fault.Varint
  pub number_cut : varint_at (128 ∷ []) ≡ Err fault.Short
  pub natural : natural_at (5 ∷ []) ≡ Err fault.Negative
  pub natural_even : natural_at (6 ∷ 1 ∷ []) ≡ Ok (3, 1 ∷ [])
  pub bytes : binary_at (2 ∷ 65 ∷ 66 ∷ 67 ∷ []) ≡ Ok (65 ∷ 66 ∷ [], 67 ∷ [])
  pub no_bytes : binary_at (0 ∷ 67 ∷ []) ≡ Ok ([], 67 ∷ [])
  pub bytes_cut : binary_at (2 ∷ 65 ∷ []) ≡ Err fault.Short
  pub field_after : head_at 3 (40 ∷ 1 ∷ []) ≡ Ok (Some (record { id = 5; kind = kind.Binary }), 1 ∷ [])
  pub field_far : head_at 3 (6 ∷ 40 ∷ 1 ∷ []) ≡ Ok (Some (record { id = 20; kind = kind.I64 }), 1 ∷ [])
  pub field_end : head_at 3 (0 ∷ 1 ∷ []) ≡ Ok (None, 1 ∷ [])
  pub field_of_no_kind : head_at 0 (30 ∷ []) ≡ Err fault.Kind
  pub field_past_15_bits : head_at 32767 (21 ∷ []) ≡ Err fault.FieldId
  pub field_at_15_bits : head_at 32766 (21 ∷ []) ≡ Ok (Some (record { id = 32767; kind = kind.I32 }), [])
  pub field_below_0 : head_at 0 (5 ∷ 1 ∷ []) ≡ Err fault.Negative
  pub field_cut : head_at 0 [] ≡ Err fault.Short
  pub items_short : items_at (37 ∷ 1 ∷ 2 ∷ []) ≡ Ok (Some (record { count = 2; kind = kind.I32 }), 1 ∷ 2 ∷ [])
  pub items_long : items_at (245 ∷ 15 ∷ 7 ∷ 7 ∷ 7 ∷ 7 ∷ 7 ∷ 7 ∷ 7 ∷ 7 ∷ 7 ∷ 7 ∷ 7 ∷ 7 ∷ 7 ∷ 7 ∷ 7 ∷ []) ≡ Ok (Some (record { count = 15; kind = kind.I32 }), 7 ∷ 7 ∷ 7 ∷ 7 ∷ 7 ∷ 7 ∷ 7 ∷ 7 ∷ 7 ∷ 7 ∷ 7 ∷ 7 ∷ 7 ∷ 7 ∷ 7 ∷ [])
  pub items_none_of_no_kind : items_at (0 ∷ 7 ∷ []) ≡ Ok (None, 7 ∷ [])
  pub items_none_of_a_kind : items_at (12 ∷ 7 ∷ []) ≡ Ok (None, 7 ∷ [])
  pub items_of_no_kind : items_at (16 ∷ 7 ∷ []) ≡ Err fault.Kind
  pub items_past_the_end : items_at (53 ∷ 1 ∷ 2 ∷ []) ≡ Err fault.Length
  pub items_cut : items_at [] ≡ Err fault.Short
  pub entries : map_at (1 ∷ 88 ∷ 4 ∷ 1 ∷ 65 ∷ []) ≡ Ok (Some (record { count = 1; key = kind.I32; value = kind.Binary }), 4 ∷ 1 ∷ 65 ∷ [])
  pub entries_none : map_at (0 ∷ 88 ∷ []) ≡ Ok (None, 88 ∷ [])
  pub entries_past_the_end : map_at (3 ∷ 88 ∷ []) ≡ Err fault.Length
  pub a_truth : skip_at 1 kind.True (9 ∷ []) ≡ Ok (9 ∷ [])
  pub a_falsehood : skip_at 1 kind.False (9 ∷ []) ≡ Ok (9 ∷ [])
  pub a_byte : skip_at 1 kind.Byte (1 ∷ 9 ∷ []) ≡ Ok (9 ∷ [])
  pub a_number_i16 : skip_at 1 kind.I16 (129 ∷ 1 ∷ 9 ∷ []) ≡ Ok (9 ∷ [])
  pub a_number_i32 : skip_at 1 kind.I32 (129 ∷ 1 ∷ 9 ∷ []) ≡ Ok (9 ∷ [])
  pub a_number_i64 : skip_at 1 kind.I64 (129 ∷ 1 ∷ 9 ∷ []) ≡ Ok (9 ∷ [])
  pub a_double : skip_at 1 kind.Double (1 ∷ 1 ∷ 1 ∷ 1 ∷ 1 ∷ 1 ∷ 1 ∷ 1 ∷ 9 ∷ []) ≡ Ok (9 ∷ [])
  pub a_double_cut : skip_at 1 kind.Double (1 ∷ 1 ∷ 1 ∷ 1 ∷ 1 ∷ 1 ∷ 1 ∷ []) ≡ Err fault.Short
  pub a_string : skip_at 1 kind.Binary (1 ∷ 65 ∷ 9 ∷ []) ≡ Ok (9 ∷ [])
  pub a_uuid : skip_at 1 kind.Uuid (1 ∷ 1 ∷ 1 ∷ 1 ∷ 1 ∷ 1 ∷ 1 ∷ 1 ∷ 1 ∷ 1 ∷ 1 ∷ 1 ∷ 1 ∷ 1 ∷ 1 ∷ 1 ∷ 9 ∷ []) ≡ Ok (9 ∷ [])
  pub a_list_of_truths : skip_at 2 kind.List (33 ∷ 1 ∷ 2 ∷ 9 ∷ []) ≡ Ok (9 ∷ [])
  pub a_set : skip_at 2 kind.Set (37 ∷ 1 ∷ 128 ∷ 1 ∷ 9 ∷ []) ≡ Ok (9 ∷ [])
  pub a_map : skip_at 2 kind.Map (1 ∷ 88 ∷ 4 ∷ 1 ∷ 65 ∷ 9 ∷ []) ≡ Ok (9 ∷ [])
  pub a_struct : skip_at 2 kind.Struct (21 ∷ 4 ∷ 0 ∷ 9 ∷ []) ≡ Ok (9 ∷ [])
  pub a_struct_without_end : skip_at 2 kind.Struct (21 ∷ 4 ∷ []) ≡ Err fault.Short
  pub nested_too_deep : skip_at 2 kind.Struct (28 ∷ 28 ∷ 0 ∷ 0 ∷ 0 ∷ []) ≡ Err fault.Depth
  pub nested : skip_at 3 kind.Struct (28 ∷ 28 ∷ 0 ∷ 0 ∷ 0 ∷ 9 ∷ []) ≡ Ok (9 ∷ [])
  pub fields : struct_of (21 ∷ 4 ∷ 38 ∷ 6 ∷ 0 ∷ 9 ∷ []) ≡ Ok (record { id = 1; kind = kind.I32; from = 4 ∷ 38 ∷ 6 ∷ 0 ∷ 9 ∷ [] } ∷ record { id = 3; kind = kind.I64; from = 6 ∷ 0 ∷ 9 ∷ [] } ∷ [], 9 ∷ [])
  pub last_of_a_kind_counts : found (record { id = 1; kind = kind.I32; from = 1 ∷ [] } ∷ record { id = 2; kind = kind.I32; from = 2 ∷ [] } ∷ record { id = 1; kind = kind.I64; from = 3 ∷ [] } ∷ record { id = 1; kind = kind.I32; from = 4 ∷ [] } ∷ []) 1 kind.I32 ≡ Some (4 ∷ [])
  pub other_kinds_are_passed_over : found (record { id = 1; kind = kind.I32; from = 1 ∷ [] } ∷ record { id = 2; kind = kind.I32; from = 2 ∷ [] } ∷ record { id = 1; kind = kind.I64; from = 3 ∷ [] } ∷ record { id = 1; kind = kind.I32; from = 4 ∷ [] } ∷ []) 1 kind.I64 ≡ Some (3 ∷ [])
  pub other_fields_are_passed_over : found (record { id = 1; kind = kind.I32; from = 1 ∷ [] } ∷ record { id = 2; kind = kind.I32; from = 2 ∷ [] } ∷ record { id = 1; kind = kind.I64; from = 3 ∷ [] } ∷ record { id = 1; kind = kind.I32; from = 4 ∷ [] } ∷ []) 2 kind.I32 ≡ Some (2 ∷ [])
  pub not_there : found (record { id = 1; kind = kind.I32; from = 1 ∷ [] } ∷ record { id = 2; kind = kind.I32; from = 2 ∷ [] } ∷ record { id = 1; kind = kind.I64; from = 3 ∷ [] } ∷ record { id = 1; kind = kind.I32; from = 4 ∷ [] } ∷ []) 3 kind.I32 ≡ None
  pub length : length_of (1 ∷ 2 ∷ 0 ∷ 0 ∷ 80 ∷ 65 ∷ 82 ∷ 49 ∷ []) ≡ Ok 513
  pub length_encrypted : length_of (1 ∷ 2 ∷ 0 ∷ 0 ∷ 80 ∷ 65 ∷ 82 ∷ 69 ∷ []) ≡ Err fault.Encrypted
  pub length_of_another_file : length_of (1 ∷ 2 ∷ 0 ∷ 0 ∷ 80 ∷ 65 ∷ 82 ∷ 50 ∷ []) ≡ Err fault.NotParquet
  pub length_of_few_bytes : length_of (2 ∷ 0 ∷ 0 ∷ 80 ∷ 65 ∷ 82 ∷ 49 ∷ []) ≡ Err fault.NotParquet
  pub footer : footer_of (7 ∷ 8 ∷ 9 ∷ 2 ∷ 0 ∷ 0 ∷ 0 ∷ 80 ∷ 65 ∷ 82 ∷ 49 ∷ []) ≡ Ok (8 ∷ 9 ∷ [])
  pub footer_too_long : footer_of (7 ∷ 8 ∷ 9 ∷ 4 ∷ 0 ∷ 0 ∷ 0 ∷ 80 ∷ 65 ∷ 82 ∷ 49 ∷ []) ≡ Err fault.FooterLength
  pub footer_of_few_bytes : footer_of (0 ∷ 0 ∷ 0 ∷ 80 ∷ 65 ∷ 82 ∷ 49 ∷ []) ≡ Err fault.NotParquet

-- which types are read, by the older and the newer annotation, and the record of statistics
pub record TableExamples : Type 0 where
  pub truths : form_of 0 annotation.None ≡ Some form.Bool
  pub truths_annotated : form_of 0 annotation.Text ≡ None
  pub numbers : form_of 1 annotation.None ≡ Some (form.Four ptype.I32)
  pub decimals : form_of 1 (annotation.Decimal None None) ≡ Some (form.Four ptype.I32)
  pub dates : form_of 1 annotation.Date ≡ Some (form.Four ptype.I32)
  pub times : form_of 1 (annotation.Time None) ≡ Some (form.Four ptype.I32)
  pub timestamps : form_of 1 (annotation.Timestamp None None) ≡ Some (form.Four ptype.I32)
  pub numbers_i8 : form_of 1 (annotation.Integer 8 true) ≡ Some (form.Four ptype.I8)
  pub numbers_u8 : form_of 1 (annotation.Integer 8 false) ≡ Some (form.Four ptype.U8)
  pub numbers_i16 : form_of 1 (annotation.Integer 16 true) ≡ Some (form.Four ptype.I16)
  pub numbers_u16 : form_of 1 (annotation.Integer 16 false) ≡ Some (form.Four ptype.U16)
  pub numbers_i32 : form_of 1 (annotation.Integer 32 true) ≡ Some (form.Four ptype.I32)
  pub numbers_u32 : form_of 1 (annotation.Integer 32 false) ≡ Some (form.Four ptype.U32)
  pub numbers_of_64_bits_in_four : form_of 1 (annotation.Integer 64 true) ≡ None
  pub numbers_as_text : form_of 1 annotation.Text ≡ None
  pub numbers_otherwise : form_of 1 annotation.Other ≡ None
  pub long_numbers : form_of 2 annotation.None ≡ Some (form.Eight ptype.I64)
  pub long_decimals : form_of 2 (annotation.Decimal None None) ≡ Some (form.Eight ptype.I64)
  pub long_dates : form_of 2 annotation.Date ≡ Some (form.Eight ptype.I64)
  pub long_times : form_of 2 (annotation.Time None) ≡ Some (form.Eight ptype.I64)
  pub long_timestamps : form_of 2 (annotation.Timestamp None None) ≡ Some (form.Eight ptype.I64)
  pub long_signed : form_of 2 (annotation.Integer 64 true) ≡ Some (form.Eight ptype.I64)
  pub long_unsigned : form_of 2 (annotation.Integer 64 false) ≡ Some (form.Eight ptype.U64)
  pub numbers_of_32_bits_in_eight : form_of 2 (annotation.Integer 32 false) ≡ None
  pub int96 : form_of 3 annotation.None ≡ None
  pub floats : form_of 4 annotation.None ≡ Some (form.Float float.F32)
  pub floats_annotated : form_of 4 annotation.Other ≡ None
  pub doubles : form_of 5 annotation.None ≡ Some (form.Float float.F64)
  pub doubles_annotated : form_of 5 annotation.Date ≡ None
  pub halves_in_numbers : form_dtype (form.Float float.F16) Nullable ≡ dtype.Primitive ptype.I16 Nullable
  pub floats_in_numbers : form_dtype (form.Float float.F32) NonNullable ≡ dtype.Primitive ptype.I32 NonNullable
  pub doubles_in_numbers : form_dtype (form.Float float.F64) Nullable ≡ dtype.Primitive ptype.I64 Nullable
  pub older_bounds_of_floats : is_signed (form.Float float.F64) ≡ false
  pub bytes : form_of 6 annotation.None ≡ Some form.Binary
  pub texts : form_of 6 annotation.Text ≡ Some form.Utf8
  pub bson : form_of 6 annotation.Bytes ≡ Some form.Binary
  pub decimals_in_bytes : form_of 6 (annotation.Decimal (Some 20) (Some 18)) ≡ Some form.Decimal
  pub decimals_in_bytes_without_scale : form_of 6 (annotation.Decimal None (Some 18)) ≡ Some form.Decimal
  pub whole_decimals_in_bytes : form_of 6 (annotation.Decimal (Some 0) (Some 1)) ≡ Some form.Decimal
  pub long_decimals_in_bytes : form_of 6 (annotation.Decimal (Some 0) (Some 19)) ≡ None
  pub untold_decimals_in_bytes : form_of 6 (annotation.Decimal (Some 0) None) ≡ None
  pub dates_in_bytes : form_of 6 annotation.Date ≡ None
  pub times_in_bytes : form_of 6 (annotation.Time None) ≡ None
  pub timestamps_in_bytes : form_of 6 (annotation.Timestamp None None) ≡ None
  pub fixed : form_of 7 annotation.None ≡ Some form.Binary
  pub uuids : form_of 7 annotation.Bytes ≡ Some form.Binary
  pub fixed_texts : form_of 7 annotation.Text ≡ None
  pub fixed_decimals : form_of 7 (annotation.Decimal (Some 20) (Some 18)) ≡ Some form.Decimal
  pub long_fixed_decimals : form_of 7 (annotation.Decimal (Some 0) (Some 19)) ≡ None
  pub untold_fixed_decimals : form_of 7 (annotation.Decimal (Some 0) None) ≡ None
  pub no_type : form_of 8 annotation.None ≡ None
  pub newer_wins : annotation_of (Some annotation.Text) (Some 5) None None ≡ annotation.Text
  pub newer_unknown_wins : annotation_of (Some annotation.Other) (Some 0) None None ≡ annotation.Other
  pub newer_empty : annotation_of (Some annotation.None) (Some 0) None None ≡ annotation.Text
  pub older_alone : annotation_of None (Some 5) (Some 4) None ≡ annotation.Decimal (Some 2) None
  pub older_decimals : annotation_of None (Some 5) (Some 4) (Some 9) ≡ annotation.Decimal (Some 2) (Some 9)
  pub newer_unit_wins : annotation_of (Some (annotation.Timestamp (Some false) (Some unit.Nanoseconds))) (Some 9) None None ≡ annotation.Timestamp (Some false) (Some unit.Nanoseconds)
  pub neither : annotation_of None None None None ≡ annotation.None
  pub older_0 : converted 0 None None ≡ annotation.Text
  pub older_1 : converted 1 None None ≡ annotation.Other
  pub older_2 : converted 2 None None ≡ annotation.Other
  pub older_3 : converted 3 None None ≡ annotation.Other
  pub older_4 : converted 4 None None ≡ annotation.Text
  pub older_5 : converted 5 None None ≡ annotation.Decimal (Some 0) None
  pub older_6 : converted 6 None None ≡ annotation.Date
  pub older_7 : converted 7 None None ≡ annotation.Time (Some unit.Milliseconds)
  pub older_8 : converted 8 None None ≡ annotation.Time (Some unit.Microseconds)
  pub older_9 : converted 9 None None ≡ annotation.Timestamp (Some true) (Some unit.Milliseconds)
  pub older_10 : converted 10 None None ≡ annotation.Timestamp (Some true) (Some unit.Microseconds)
  pub older_11 : converted 11 None None ≡ annotation.Integer 8 false
  pub older_12 : converted 12 None None ≡ annotation.Integer 16 false
  pub older_13 : converted 13 None None ≡ annotation.Integer 32 false
  pub older_14 : converted 14 None None ≡ annotation.Integer 64 false
  pub older_15 : converted 15 None None ≡ annotation.Integer 8 true
  pub older_16 : converted 16 None None ≡ annotation.Integer 16 true
  pub older_17 : converted 17 None None ≡ annotation.Integer 32 true
  pub older_18 : converted 18 None None ≡ annotation.Integer 64 true
  pub older_19 : converted 19 None None ≡ annotation.Text
  pub older_20 : converted 20 None None ≡ annotation.Bytes
  pub older_21 : converted 21 None None ≡ annotation.Other
  pub older_22 : converted 22 None None ≡ annotation.Other
  pub repetition_0 : nullability 0 ≡ Some NonNullable
  pub repetition_1 : nullability 1 ≡ Some Nullable
  pub repetition_2 : nullability 2 ≡ None
  pub newer_1 : annotation_at (28 ∷ 0 ∷ 0 ∷ []) ≡ Ok annotation.Text
  pub newer_2 : annotation_at (44 ∷ 0 ∷ 0 ∷ []) ≡ Ok annotation.Other
  pub newer_3 : annotation_at (60 ∷ 0 ∷ 0 ∷ []) ≡ Ok annotation.Other
  pub newer_4 : annotation_at (76 ∷ 0 ∷ 0 ∷ []) ≡ Ok annotation.Text
  pub newer_5_whole : annotation_at (92 ∷ 21 ∷ 0 ∷ 0 ∷ 0 ∷ []) ≡ Ok (annotation.Decimal (Some 0) None)
  pub newer_5_fraction : annotation_at (92 ∷ 21 ∷ 4 ∷ 0 ∷ 0 ∷ []) ≡ Ok (annotation.Decimal (Some 2) None)
  pub newer_5_below_0 : annotation_at (92 ∷ 21 ∷ 3 ∷ 0 ∷ 0 ∷ []) ≡ Ok (annotation.Decimal None None)
  pub newer_5_without_scale : annotation_at (92 ∷ 37 ∷ 18 ∷ 0 ∷ 0 ∷ []) ≡ Ok (annotation.Decimal None (Some 9))
  pub newer_5_of_18_digits : annotation_at (92 ∷ 21 ∷ 4 ∷ 21 ∷ 36 ∷ 0 ∷ 0 ∷ []) ≡ Ok (annotation.Decimal (Some 2) (Some 18))
  pub newer_5_of_19_digits : annotation_at (92 ∷ 21 ∷ 0 ∷ 21 ∷ 38 ∷ 0 ∷ 0 ∷ []) ≡ Ok (annotation.Decimal (Some 0) (Some 19))
  pub older_5_fraction : converted 5 (Some 4) None ≡ annotation.Decimal (Some 2) None
  pub older_5_below_0 : converted 5 (Some 3) None ≡ annotation.Decimal None None
  pub older_5_scale_0 : converted 5 (Some 0) None ≡ annotation.Decimal (Some 0) None
  pub older_5_of_18_digits : converted 5 (Some 4) (Some 18) ≡ annotation.Decimal (Some 2) (Some 18)
  pub older_5_of_19_digits : converted 5 None (Some 19) ≡ annotation.Decimal (Some 0) (Some 19)
  pub newer_6 : annotation_at (108 ∷ 0 ∷ 0 ∷ []) ≡ Ok annotation.Date
  pub newer_6_of_another_kind : annotation_at (101 ∷ 0 ∷ 0 ∷ []) ≡ Ok annotation.Other
  pub newer_7 : annotation_at (124 ∷ 0 ∷ 0 ∷ []) ≡ Ok (annotation.Time None)
  pub newer_7_milliseconds : annotation_at (124 ∷ 17 ∷ 28 ∷ 28 ∷ 0 ∷ 0 ∷ 0 ∷ 0 ∷ []) ≡ Ok (annotation.Time (Some unit.Milliseconds))
  pub newer_7_microseconds : annotation_at (124 ∷ 18 ∷ 28 ∷ 44 ∷ 0 ∷ 0 ∷ 0 ∷ 0 ∷ []) ≡ Ok (annotation.Time (Some unit.Microseconds))
  pub newer_7_nanoseconds : annotation_at (124 ∷ 17 ∷ 28 ∷ 60 ∷ 0 ∷ 0 ∷ 0 ∷ 0 ∷ []) ≡ Ok (annotation.Time (Some unit.Nanoseconds))
  pub newer_7_of_no_unit : annotation_at (124 ∷ 17 ∷ 28 ∷ 76 ∷ 0 ∷ 0 ∷ 0 ∷ 0 ∷ []) ≡ Ok (annotation.Time None)
  pub newer_7_of_another_kind : annotation_at (117 ∷ 0 ∷ 0 ∷ []) ≡ Ok annotation.Other
  pub newer_8 : annotation_at (140 ∷ 0 ∷ 0 ∷ []) ≡ Ok (annotation.Timestamp None None)
  pub newer_8_milliseconds : annotation_at (140 ∷ 17 ∷ 28 ∷ 28 ∷ 0 ∷ 0 ∷ 0 ∷ 0 ∷ []) ≡ Ok (annotation.Timestamp (Some true) (Some unit.Milliseconds))
  pub newer_8_microseconds : annotation_at (140 ∷ 17 ∷ 28 ∷ 44 ∷ 0 ∷ 0 ∷ 0 ∷ 0 ∷ []) ≡ Ok (annotation.Timestamp (Some true) (Some unit.Microseconds))
  pub newer_8_nanoseconds : annotation_at (140 ∷ 17 ∷ 28 ∷ 60 ∷ 0 ∷ 0 ∷ 0 ∷ 0 ∷ []) ≡ Ok (annotation.Timestamp (Some true) (Some unit.Nanoseconds))
  pub newer_8_not_adjusted : annotation_at (140 ∷ 18 ∷ 28 ∷ 28 ∷ 0 ∷ 0 ∷ 0 ∷ 0 ∷ []) ≡ Ok (annotation.Timestamp (Some false) (Some unit.Milliseconds))
  pub newer_8_untold : annotation_at (140 ∷ 44 ∷ 28 ∷ 0 ∷ 0 ∷ 0 ∷ 0 ∷ []) ≡ Ok (annotation.Timestamp None (Some unit.Milliseconds))
  pub newer_8_told_both : annotation_at (140 ∷ 17 ∷ 2 ∷ 2 ∷ 28 ∷ 28 ∷ 0 ∷ 0 ∷ 0 ∷ 0 ∷ []) ≡ Ok (annotation.Timestamp None (Some unit.Milliseconds))
  pub newer_8_without_unit : annotation_at (140 ∷ 17 ∷ 0 ∷ 0 ∷ []) ≡ Ok (annotation.Timestamp (Some true) None)
  pub newer_8_unit_of_another_kind : annotation_at (140 ∷ 17 ∷ 21 ∷ 2 ∷ 0 ∷ 0 ∷ []) ≡ Ok (annotation.Timestamp (Some true) None)
  pub newer_8_first_unit : annotation_at (140 ∷ 17 ∷ 28 ∷ 44 ∷ 0 ∷ 28 ∷ 0 ∷ 0 ∷ 0 ∷ 0 ∷ []) ≡ Ok (annotation.Timestamp (Some true) (Some unit.Microseconds))
  pub newer_8_no_field_of_unit : annotation_at (140 ∷ 17 ∷ 28 ∷ 0 ∷ 0 ∷ 0 ∷ []) ≡ Ok (annotation.Timestamp (Some true) None)
  pub newer_8_of_another_kind : annotation_at (133 ∷ 0 ∷ 0 ∷ []) ≡ Ok annotation.Other
  pub newer_11 : annotation_at (188 ∷ 0 ∷ 0 ∷ []) ≡ Ok annotation.Other
  pub newer_12 : annotation_at (204 ∷ 0 ∷ 0 ∷ []) ≡ Ok annotation.Text
  pub newer_13 : annotation_at (220 ∷ 0 ∷ 0 ∷ []) ≡ Ok annotation.Bytes
  pub newer_14 : annotation_at (236 ∷ 0 ∷ 0 ∷ []) ≡ Ok annotation.Bytes
  pub newer_15 : annotation_at (252 ∷ 0 ∷ 0 ∷ []) ≡ Ok annotation.Other
  pub newer_10_8 : annotation_at (172 ∷ 19 ∷ 8 ∷ 17 ∷ 0 ∷ 0 ∷ []) ≡ Ok (annotation.Integer 8 true)
  pub newer_10_16 : annotation_at (172 ∷ 19 ∷ 16 ∷ 18 ∷ 0 ∷ 0 ∷ []) ≡ Ok (annotation.Integer 16 false)
  pub newer_10_64 : annotation_at (172 ∷ 19 ∷ 64 ∷ 17 ∷ 0 ∷ 0 ∷ []) ≡ Ok (annotation.Integer 64 true)
  pub newer_none : annotation_at (0 ∷ []) ≡ Ok annotation.None
  pub decimal_element : element_of (21 ∷ 14 ∷ 37 ∷ 2 ∷ 24 ∷ 1 ∷ 97 ∷ 37 ∷ 10 ∷ 21 ∷ 4 ∷ 21 ∷ 18 ∷ 0 ∷ 9 ∷ []) ≡ Ok (record { physical = Some 7; repetition = Some 1; name = codes "a"; children = None; converted = Some 5; scale = Some 4; precision = Some 9; annotation = None }, 9 ∷ [])
  pub statistics : statistics_of (24 ∷ 1 ∷ 65 ∷ 24 ∷ 1 ∷ 66 ∷ 22 ∷ 6 ∷ 22 ∷ 18 ∷ 24 ∷ 1 ∷ 67 ∷ 24 ∷ 1 ∷ 68 ∷ 17 ∷ 18 ∷ 0 ∷ []) ≡ Ok (record { old_max = Some (65 ∷ []); old_min = Some (66 ∷ []); null_count = Some 3; max = Some (67 ∷ []); min = Some (68 ∷ []); is_max_exact = true; is_min_exact = false })
  pub order_of_the_type : order_of (28 ∷ 0 ∷ 0 ∷ 9 ∷ []) ≡ Ok (true, 9 ∷ [])
  pub order_undefined : order_of (0 ∷ 9 ∷ []) ≡ Ok (false, 9 ∷ [])
  pub order_of_another_name : order_of (44 ∷ 0 ∷ 0 ∷ 9 ∷ []) ≡ Ok (false, 9 ∷ [])
  pub order_of_another_kind : order_of (21 ∷ 2 ∷ 0 ∷ 9 ∷ []) ≡ Ok (false, 9 ∷ [])
  pub statistics_few : statistics_of (54 ∷ 1 ∷ 81 ∷ 0 ∷ []) ≡ Ok (record { old_max = None; old_min = None; null_count = None; max = None; min = None; is_max_exact = false; is_min_exact = true })

-- which bound is used as what
pub record BoundExamples : Type 0 where
  pub newer_exact : chosen form.Utf8 true (Some (1 ∷ [])) (Some (2 ∷ [])) true ≡ Some (1 ∷ [], true)
  pub newer_inexact : chosen (form.Four ptype.I32) true (Some (1 ∷ [])) (Some (2 ∷ [])) false ≡ Some (1 ∷ [], false)
  pub newer_without_order : chosen form.Utf8 false (Some (1 ∷ [])) None true ≡ None
  pub older_of_signed : chosen (form.Four ptype.I32) false (Some (1 ∷ [])) (Some (2 ∷ [])) true ≡ Some (2 ∷ [], false)
  pub older_of_signed_where_newer_is_missing : chosen (form.Four ptype.I32) true None (Some (2 ∷ [])) true ≡ Some (2 ∷ [], false)
  pub older_of_unsigned : chosen (form.Four ptype.U32) true None (Some (2 ∷ [])) true ≡ None
  pub older_of_long_unsigned : chosen (form.Eight ptype.U64) false None (Some (2 ∷ [])) true ≡ None
  pub older_of_long_signed : chosen (form.Eight ptype.I64) false None (Some (2 ∷ [])) true ≡ Some (2 ∷ [], false)
  pub older_of_texts : chosen form.Utf8 false None (Some (2 ∷ [])) true ≡ None
  pub older_of_bytes : chosen form.Binary false None (Some (2 ∷ [])) true ≡ None
  pub older_of_decimals : chosen form.Decimal false None (Some (2 ∷ [])) true ≡ None
  pub older_of_decimals_in_order : chosen form.Decimal true None (Some (2 ∷ [])) true ≡ None
  pub newer_of_decimals : chosen form.Decimal true (Some (1 ∷ [])) (Some (2 ∷ [])) true ≡ Some (1 ∷ [], true)
  pub newer_of_decimals_without_order : chosen form.Decimal false (Some (1 ∷ [])) (Some (2 ∷ [])) true ≡ None
  pub older_of_truths : chosen form.Bool false None (Some (2 ∷ [])) true ≡ Some (2 ∷ [], false)
  pub neither : chosen (form.Four ptype.I32) true None None true ≡ None
  pub truth_0 : value_of form.Bool (0 ∷ []) ≡ Some (value.Bool false)
  pub truth_1 : value_of form.Bool (1 ∷ []) ≡ Some (value.Bool true)
  pub truth_2 : value_of form.Bool (2 ∷ []) ≡ None
  pub truth_long : value_of form.Bool (1 ∷ 0 ∷ []) ≡ None
  pub truth_short : value_of form.Bool ([]) ≡ None
  pub i32 : value_of (form.Four ptype.I32) (1 ∷ 2 ∷ 0 ∷ 0 ∷ []) ≡ Some (value.Primitive (number.I32 (pos 513)))
  pub i32_below : value_of (form.Four ptype.I32) (254 ∷ 255 ∷ 255 ∷ 255 ∷ []) ≡ Some (value.Primitive (number.I32 (negsuc 1)))
  pub i32_long : value_of (form.Four ptype.I32) (1 ∷ 0 ∷ 0 ∷ 0 ∷ 0 ∷ []) ≡ None
  pub i32_short : value_of (form.Four ptype.I32) (1 ∷ 0 ∷ 0 ∷ []) ≡ None
  pub u32 : value_of (form.Four ptype.U32) (254 ∷ 255 ∷ 255 ∷ 255 ∷ []) ≡ Some (value.Primitive (number.U32 4294967294))
  pub i8 : value_of (form.Four ptype.I8) (127 ∷ 0 ∷ 0 ∷ 0 ∷ []) ≡ Some (value.Primitive (number.I8 (pos 127)))
  pub i8_least : value_of (form.Four ptype.I8) (128 ∷ 255 ∷ 255 ∷ 255 ∷ []) ≡ Some (value.Primitive (number.I8 (negsuc 127)))
  pub i8_above : value_of (form.Four ptype.I8) (128 ∷ 0 ∷ 0 ∷ 0 ∷ []) ≡ None
  pub i8_below : value_of (form.Four ptype.I8) (127 ∷ 255 ∷ 255 ∷ 255 ∷ []) ≡ None
  pub i16 : value_of (form.Four ptype.I16) (255 ∷ 127 ∷ 0 ∷ 0 ∷ []) ≡ Some (value.Primitive (number.I16 (pos 32767)))
  pub i16_least : value_of (form.Four ptype.I16) (0 ∷ 128 ∷ 255 ∷ 255 ∷ []) ≡ Some (value.Primitive (number.I16 (negsuc 32767)))
  pub i16_above : value_of (form.Four ptype.I16) (0 ∷ 128 ∷ 0 ∷ 0 ∷ []) ≡ None
  pub i16_below : value_of (form.Four ptype.I16) (255 ∷ 127 ∷ 255 ∷ 255 ∷ []) ≡ None
  pub u8 : value_of (form.Four ptype.U8) (255 ∷ 0 ∷ 0 ∷ 0 ∷ []) ≡ Some (value.Primitive (number.U8 255))
  pub u8_above : value_of (form.Four ptype.U8) (0 ∷ 1 ∷ 0 ∷ 0 ∷ []) ≡ None
  pub u16 : value_of (form.Four ptype.U16) (255 ∷ 255 ∷ 0 ∷ 0 ∷ []) ≡ Some (value.Primitive (number.U16 65535))
  pub u16_above : value_of (form.Four ptype.U16) (0 ∷ 0 ∷ 1 ∷ 0 ∷ []) ≡ None
  pub i64 : value_of (form.Eight ptype.I64) (1 ∷ 0 ∷ 0 ∷ 0 ∷ 0 ∷ 0 ∷ 0 ∷ 128 ∷ []) ≡ Some (value.Primitive (number.I64 (negsuc 9223372036854775806)))
  pub u64 : value_of (form.Eight ptype.U64) (1 ∷ 0 ∷ 0 ∷ 0 ∷ 0 ∷ 0 ∷ 0 ∷ 128 ∷ []) ≡ Some (value.Primitive (number.U64 9223372036854775809))
  pub i64_short : value_of (form.Eight ptype.I64) (1 ∷ 0 ∷ 0 ∷ 0 ∷ []) ≡ None
  pub text : value_of form.Utf8 (195 ∷ 164 ∷ []) ≡ Some (value.Utf8 (195 ∷ 164 ∷ []))
  pub no_text : value_of form.Utf8 (195 ∷ []) ≡ None
  pub decimal : value_of form.Decimal (127 ∷ []) ≡ Some (value.Primitive (number.I64 (pos 127)))
  pub decimal_below_0 : value_of form.Decimal (128 ∷ []) ≡ Some (value.Primitive (number.I64 (negsuc 127)))
  pub decimal_minus_1 : value_of form.Decimal (255 ∷ []) ≡ Some (value.Primitive (number.I64 (negsuc 0)))
  pub decimal_of_two_bytes : value_of form.Decimal (1 ∷ 2 ∷ []) ≡ Some (value.Primitive (number.I64 (pos 258)))
  pub decimal_of_two_bytes_below_0 : value_of form.Decimal (254 ∷ 255 ∷ []) ≡ Some (value.Primitive (number.I64 (negsuc 256)))
  pub decimal_padded : value_of form.Decimal (0 ∷ 200 ∷ []) ≡ Some (value.Primitive (number.I64 (pos 200)))
  pub decimal_of_eight_bytes : value_of form.Decimal (127 ∷ 255 ∷ 255 ∷ 255 ∷ 255 ∷ 255 ∷ 255 ∷ 255 ∷ []) ≡ Some (value.Primitive (number.I64 (pos 9223372036854775807)))
  pub least_decimal_of_eight_bytes : value_of form.Decimal (128 ∷ 0 ∷ 0 ∷ 0 ∷ 0 ∷ 0 ∷ 0 ∷ 0 ∷ []) ≡ Some (value.Primitive (number.I64 (negsuc 9223372036854775807)))
  pub decimal_of_nine_bytes : value_of form.Decimal (0 ∷ 127 ∷ 255 ∷ 255 ∷ 255 ∷ 255 ∷ 255 ∷ 255 ∷ 255 ∷ []) ≡ Some (value.Primitive (number.I64 (pos 9223372036854775807)))
  pub decimal_past_64_bits : value_of form.Decimal (0 ∷ 128 ∷ 0 ∷ 0 ∷ 0 ∷ 0 ∷ 0 ∷ 0 ∷ 0 ∷ []) ≡ None
  pub least_decimal_of_nine_bytes : value_of form.Decimal (255 ∷ 128 ∷ 0 ∷ 0 ∷ 0 ∷ 0 ∷ 0 ∷ 0 ∷ 0 ∷ []) ≡ Some (value.Primitive (number.I64 (negsuc 9223372036854775807)))
  pub decimal_below_64_bits : value_of form.Decimal (255 ∷ 127 ∷ 255 ∷ 255 ∷ 255 ∷ 255 ∷ 255 ∷ 255 ∷ 255 ∷ []) ≡ None
  pub decimal_of_16_bytes : value_of form.Decimal (0 ∷ 0 ∷ 0 ∷ 0 ∷ 0 ∷ 0 ∷ 0 ∷ 0 ∷ 0 ∷ 0 ∷ 0 ∷ 0 ∷ 0 ∷ 0 ∷ 1 ∷ 44 ∷ []) ≡ Some (value.Primitive (number.I64 (pos 300)))
  pub decimal_of_16_bytes_below_0 : value_of form.Decimal (255 ∷ 255 ∷ 255 ∷ 255 ∷ 255 ∷ 255 ∷ 255 ∷ 255 ∷ 255 ∷ 255 ∷ 255 ∷ 255 ∷ 255 ∷ 255 ∷ 255 ∷ 156 ∷ []) ≡ Some (value.Primitive (number.I64 (negsuc 99)))
  pub greatest_of_16_bytes : value_of form.Decimal (127 ∷ 255 ∷ 255 ∷ 255 ∷ 255 ∷ 255 ∷ 255 ∷ 255 ∷ 255 ∷ 255 ∷ 255 ∷ 255 ∷ 255 ∷ 255 ∷ 255 ∷ 255 ∷ []) ≡ None
  pub least_of_16_bytes : value_of form.Decimal (128 ∷ 0 ∷ 0 ∷ 0 ∷ 0 ∷ 0 ∷ 0 ∷ 0 ∷ 0 ∷ 0 ∷ 0 ∷ 0 ∷ 0 ∷ 0 ∷ 0 ∷ 0 ∷ []) ≡ None
  pub high_byte_of_16 : value_of form.Decimal (1 ∷ 0 ∷ 0 ∷ 0 ∷ 0 ∷ 0 ∷ 0 ∷ 0 ∷ 0 ∷ 0 ∷ 0 ∷ 0 ∷ 0 ∷ 0 ∷ 0 ∷ 0 ∷ []) ≡ None
  pub decimal_of_17_bytes : value_of form.Decimal (0 ∷ 0 ∷ 0 ∷ 0 ∷ 0 ∷ 0 ∷ 0 ∷ 0 ∷ 0 ∷ 0 ∷ 0 ∷ 0 ∷ 0 ∷ 0 ∷ 0 ∷ 0 ∷ 5 ∷ []) ≡ Some (value.Primitive (number.I64 (pos 5)))
  pub long_decimal_of_17_bytes : value_of form.Decimal (0 ∷ 0 ∷ 0 ∷ 0 ∷ 0 ∷ 0 ∷ 1 ∷ 0 ∷ 0 ∷ 0 ∷ 0 ∷ 0 ∷ 0 ∷ 0 ∷ 0 ∷ 0 ∷ 0 ∷ []) ≡ None
  pub no_decimal : value_of form.Decimal ([]) ≡ None
  pub bytes : value_of form.Binary (195 ∷ []) ≡ Some (value.Binary (195 ∷ []))
  pub exact_if_told : bound_by (value_of form.Binary) (Some (7 ∷ [], true)) ≡ Exact (value.Binary (7 ∷ []))
  pub inexact_else : bound_by (value_of form.Binary) (Some (7 ∷ [], false)) ≡ Inexact (value.Binary (7 ∷ []))
  pub no_value : bound_by (value_of form.Bool) (Some (7 ∷ [], true)) ≡ Absent
  pub no_bound : bound_by (value_of form.Bool) None ≡ Absent
  pub single : value_of (form.Float float.F32) (0 ∷ 0 ∷ 192 ∷ 63 ∷ []) ≡ Some (value.Primitive (number.I32 (pos 1_069_547_520)))
  pub single_below_zero : value_of (form.Float float.F32) (0 ∷ 0 ∷ 0 ∷ 192 ∷ []) ≡ Some (value.Primitive (number.I32 (negsuc 1_073_741_824)))
  pub single_minus_zero : value_of (form.Float float.F32) (0 ∷ 0 ∷ 0 ∷ 128 ∷ []) ≡ Some (value.Primitive (number.I32 (pos 0)))
  pub single_nan : value_of (form.Float float.F32) (0 ∷ 0 ∷ 192 ∷ 127 ∷ []) ≡ None
  pub single_of_8_bytes : value_of (form.Float float.F32) (0 ∷ 0 ∷ 0 ∷ 0 ∷ 0 ∷ 0 ∷ 248 ∷ 63 ∷ []) ≡ None
  pub double : value_of (form.Float float.F64) (0 ∷ 0 ∷ 0 ∷ 0 ∷ 0 ∷ 0 ∷ 248 ∷ 63 ∷ []) ≡ Some (value.Primitive (number.I64 (pos 4_609_434_218_613_702_656)))
  pub double_below_zero : value_of (form.Float float.F64) (0 ∷ 0 ∷ 0 ∷ 0 ∷ 0 ∷ 0 ∷ 0 ∷ 192 ∷ []) ≡ Some (value.Primitive (number.I64 (negsuc 4_611_686_018_427_387_904)))
  pub double_nan : value_of (form.Float float.F64) (1 ∷ 0 ∷ 0 ∷ 0 ∷ 0 ∷ 0 ∷ 240 ∷ 127 ∷ []) ≡ None
  pub double_infinity : value_of (form.Float float.F64) (0 ∷ 0 ∷ 0 ∷ 0 ∷ 0 ∷ 0 ∷ 240 ∷ 127 ∷ []) ≡ Some (value.Primitive (number.I64 (pos 9_218_868_437_227_405_312)))
  pub double_of_4_bytes : value_of (form.Float float.F64) (0 ∷ 0 ∷ 192 ∷ 63 ∷ []) ≡ None
  pub half : value_of (form.Float float.F16) (0 ∷ 62 ∷ []) ≡ None
  pub greatest_float : greatest_value (form.Float float.F32) (0 ∷ 0 ∷ 192 ∷ 63 ∷ []) ≡ None
  pub greatest_truth : greatest_value form.Bool (1 ∷ []) ≡ Some (value.Bool true)
  pub greatest_number : greatest_value (form.Four ptype.I32) (7 ∷ 0 ∷ 0 ∷ 0 ∷ []) ≡ Some (value.Primitive (number.I32 (pos 7)))
  pub greatest_long : greatest_value (form.Eight ptype.I64) (7 ∷ 0 ∷ 0 ∷ 0 ∷ 0 ∷ 0 ∷ 0 ∷ 0 ∷ []) ≡ Some (value.Primitive (number.I64 (pos 7)))
  pub greatest_bytes : greatest_value form.Binary (7 ∷ []) ≡ Some (value.Binary (7 ∷ []))
  pub greatest_decimal : greatest_value form.Decimal (7 ∷ []) ≡ Some (value.Primitive (number.I64 (pos 7)))
  pub set_of_floats : set_of (form.Float float.F32) true (record { old_max = Some (0 ∷ 0 ∷ 192 ∷ 63 ∷ []); old_min = Some (0 ∷ 0 ∷ 192 ∷ 63 ∷ []); null_count = None; max = Some (0 ∷ 0 ∷ 192 ∷ 63 ∷ []); min = Some (0 ∷ 0 ∷ 192 ∷ 63 ∷ []); is_max_exact = true; is_min_exact = false }) ≡ (Max, Absent) ∷ (Min, Inexact (value.Primitive (number.I32 (pos 1_069_547_520)))) ∷ (NullCount, Absent) ∷ []
  pub set_of_floats_without_order : set_of (form.Float float.F32) false (record { old_max = Some (0 ∷ 0 ∷ 192 ∷ 63 ∷ []); old_min = Some (0 ∷ 0 ∷ 192 ∷ 63 ∷ []); null_count = None; max = Some (0 ∷ 0 ∷ 192 ∷ 63 ∷ []); min = Some (0 ∷ 0 ∷ 192 ∷ 63 ∷ []); is_max_exact = true; is_min_exact = false }) ≡ (Max, Absent) ∷ (Min, Absent) ∷ (NullCount, Absent) ∷ []
  pub nulls : count_of (Some 4) ≡ Exact (value.Primitive (number.U64 4))
  pub nulls_unknown : count_of None ≡ Absent
  pub set : set_of form.Bool true (record { old_max = Some (1 ∷ []); old_min = Some (0 ∷ []); null_count = Some 2; max = Some (0 ∷ []); min = Some (1 ∷ []); is_max_exact = true; is_min_exact = false }) ≡ (Max, Exact (value.Bool false)) ∷ (Min, Inexact (value.Bool true)) ∷ (NullCount, Exact (value.Primitive (number.U64 2))) ∷ []
  pub set_without_order : set_of form.Bool false (record { old_max = Some (1 ∷ []); old_min = Some (0 ∷ []); null_count = Some 2; max = Some (0 ∷ []); min = Some (1 ∷ []); is_max_exact = true; is_min_exact = false }) ≡ (Max, Inexact (value.Bool true)) ∷ (Min, Inexact (value.Bool false)) ∷ (NullCount, Exact (value.Primitive (number.U64 2))) ∷ []
  pub set_of_decimals : set_of form.Decimal true (record { old_max = None; old_min = None; null_count = None; max = Some (0 ∷ 128 ∷ 0 ∷ 0 ∷ 0 ∷ 0 ∷ 0 ∷ 0 ∷ 0 ∷ []); min = Some (255 ∷ 56 ∷ []); is_max_exact = true; is_min_exact = true }) ≡ (Max, Absent) ∷ (Min, Exact (value.Primitive (number.I64 (negsuc 199)))) ∷ (NullCount, Absent) ∷ []
  pub set_of_another_type : chunk_set (record { place = 0; physical = 0; form = form.Bool; meaning = meaning.Plain; nullability = NonNullable }) true (record { physical = Some 1; statistics = Some (record { old_max = Some (1 ∷ []); old_min = Some (0 ∷ []); null_count = Some 2; max = Some (0 ∷ []); min = Some (1 ∷ []); is_max_exact = true; is_min_exact = false }) }) ≡ []
  pub set_of_no_type : chunk_set (record { place = 0; physical = 0; form = form.Bool; meaning = meaning.Plain; nullability = NonNullable }) true (record { physical = None; statistics = Some (record { old_max = Some (1 ∷ []); old_min = Some (0 ∷ []); null_count = Some 2; max = Some (0 ∷ []); min = Some (1 ∷ []); is_max_exact = true; is_min_exact = false }) }) ≡ []
  pub set_without_statistics : chunk_set (record { place = 0; physical = 0; form = form.Bool; meaning = meaning.Plain; nullability = Nullable }) true (record { physical = Some 0; statistics = None }) ≡ []
  pub required_without_statistics : chunk_set (record { place = 0; physical = 0; form = form.Bool; meaning = meaning.Plain; nullability = NonNullable }) true (record { physical = Some 0; statistics = None }) ≡ (Max, Absent) ∷ (Min, Absent) ∷ (NullCount, Exact (value.Primitive (number.U64 0))) ∷ []
  pub required_without_null_count : chunk_set (record { place = 0; physical = 0; form = form.Bool; meaning = meaning.Plain; nullability = NonNullable }) true (record { physical = Some 0; statistics = Some (record { old_max = None; old_min = None; null_count = None; max = Some (1 ∷ []); min = None; is_max_exact = true; is_min_exact = false }) }) ≡ (Max, Exact (value.Bool true)) ∷ (Min, Absent) ∷ (NullCount, Exact (value.Primitive (number.U64 0))) ∷ []
  pub required_with_null_count : chunk_set (record { place = 0; physical = 0; form = form.Bool; meaning = meaning.Plain; nullability = NonNullable }) true (record { physical = Some 0; statistics = Some (record { old_max = None; old_min = None; null_count = Some 2; max = Some (1 ∷ []); min = None; is_max_exact = true; is_min_exact = false }) }) ≡ (Max, Exact (value.Bool true)) ∷ (Min, Absent) ∷ (NullCount, Exact (value.Primitive (number.U64 2))) ∷ []
  pub optional_without_null_count : chunk_set (record { place = 0; physical = 0; form = form.Bool; meaning = meaning.Plain; nullability = Nullable }) true (record { physical = Some 0; statistics = Some (record { old_max = None; old_min = None; null_count = None; max = Some (1 ∷ []); min = None; is_max_exact = true; is_min_exact = false }) }) ≡ (Max, Exact (value.Bool true)) ∷ (Min, Absent) ∷ (NullCount, Absent) ∷ []
  pub optional_with_null_count : chunk_set (record { place = 0; physical = 0; form = form.Bool; meaning = meaning.Plain; nullability = Nullable }) true (record { physical = Some 0; statistics = Some (record { old_max = None; old_min = None; null_count = Some 2; max = Some (1 ∷ []); min = None; is_max_exact = true; is_min_exact = false }) }) ≡ (Max, Exact (value.Bool true)) ∷ (Min, Absent) ∷ (NullCount, Exact (value.Primitive (number.U64 2))) ∷ []

-- how many bytes a row group takes: the chunks below take 40 and 10, and the last two don't tell it
abbrev pub chunk_of_40 : List ℕ
chunk_of_40 = 60 ∷ 118 ∷ 80 ∷ 0 ∷ 0 ∷ []

abbrev pub chunk_of_10 : List ℕ
chunk_of_10 = 60 ∷ 102 ∷ 80 ∷ 22 ∷ 20 ∷ 0 ∷ 0 ∷ []

abbrev pub chunk_uncompressed : List ℕ
chunk_uncompressed = 60 ∷ 102 ∷ 80 ∷ 0 ∷ 0 ∷ []

abbrev pub chunk_elsewhere : List ℕ
chunk_elsewhere = 38 ∷ 8 ∷ 0 ∷ []

pub record SizeExamples : Type 0 where
  pub chunk : chunk_size chunk_of_40 ≡ Ok (Some 40)
  pub chunk_compressed : chunk_size chunk_of_10 ≡ Ok (Some 10)
  pub chunk_uncompressed_alone : chunk_size chunk_uncompressed ≡ Ok None
  pub chunk_without_metadata : chunk_size chunk_elsewhere ≡ Ok None
  pub chunk_below_0 : chunk_size (60 ∷ 118 ∷ 81 ∷ 0 ∷ 0 ∷ []) ≡ Ok None
  pub sum : sum_of (Some 40 ∷ Some 10 ∷ []) ≡ Some 50
  pub sum_of_none : sum_of [] ≡ Some 0
  pub first_not_told : sum_of (None ∷ Some 10 ∷ []) ≡ None
  pub last_not_told : sum_of (Some 40 ∷ None ∷ []) ≡ None
  pub greatest : sum_of (Some (2 ^ 64 - 2) ∷ Some 1 ∷ []) ≡ Some (2 ^ 64 - 1)
  pub past_64_bits : sum_of (Some (2 ^ 64 - 1) ∷ Some 1 ∷ []) ≡ None
  pub told : size_of (Some 7) (chunk_of_40 ∷ chunk_of_10 ∷ []) ≡ Ok (Some 7)
  pub together : size_of None (chunk_of_40 ∷ chunk_of_10 ∷ []) ≡ Ok (Some 50)
  pub one_not_told : size_of None (chunk_of_40 ∷ chunk_uncompressed ∷ []) ≡ Ok None
  pub one_elsewhere : size_of None (chunk_elsewhere ∷ chunk_of_10 ∷ []) ≡ Ok None
  pub group : group_of [] 2 [] (record { rows = 3; size = None; columns = chunk_of_40 ∷ chunk_of_10 ∷ [] }) ≡ Ok (record { rows = 3; size = Some 50; stats = [] })
  pub group_told : group_of [] 2 [] (record { rows = 3; size = Some 7; columns = chunk_of_40 ∷ chunk_of_10 ∷ [] }) ≡ Ok (record { rows = 3; size = Some 7; stats = [] })

-- the columns of a schema, and the one of a name
pub record ColumnExamples : Type 0 where
  pub columns : columns_of (record { physical = None; repetition = None; name = codes "schema"; children = Some 6; converted = None; scale = None; precision = None; annotation = None } ∷ record { physical = Some 1; repetition = Some 1; name = codes "a"; children = None; converted = None; scale = None; precision = None; annotation = None } ∷ record { physical = None; repetition = Some 1; name = codes "g"; children = Some 2; converted = None; scale = None; precision = None; annotation = None } ∷ record { physical = Some 1; repetition = Some 0; name = codes "x"; children = None; converted = None; scale = None; precision = None; annotation = None } ∷ record { physical = Some 2; repetition = Some 0; name = codes "y"; children = None; converted = None; scale = None; precision = None; annotation = None } ∷ record { physical = Some 1; repetition = Some 2; name = codes "r"; children = None; converted = None; scale = None; precision = None; annotation = None } ∷ record { physical = Some 6; repetition = Some 0; name = codes "s"; children = None; converted = Some 0; scale = None; precision = None; annotation = None } ∷ record { physical = Some 5; repetition = Some 1; name = codes "d"; children = None; converted = None; scale = None; precision = None; annotation = None } ∷ record { physical = Some 3; repetition = Some 1; name = codes "n"; children = None; converted = None; scale = None; precision = None; annotation = None } ∷ []) ≡ Ok (record { name = codes "a"; content = content.Leaf (record { place = 0; physical = 1; form = form.Four ptype.I32; meaning = meaning.Plain; nullability = Nullable }) } ∷ record { name = codes "g"; content = content.LeftOut left_out.Nested } ∷ record { name = codes "r"; content = content.LeftOut left_out.Repeated } ∷ record { name = codes "s"; content = content.Leaf (record { place = 4; physical = 6; form = form.Utf8; meaning = meaning.Plain; nullability = NonNullable }) } ∷ record { name = codes "d"; content = content.Leaf (record { place = 5; physical = 5; form = form.Float float.F64; meaning = meaning.Float float.F64; nullability = Nullable }) } ∷ record { name = codes "n"; content = content.LeftOut left_out.Type } ∷ [], 7)
  pub no_root : columns_of [] ≡ Err fault.Schema
  pub group_past_the_end : columns_of (record { physical = None; repetition = None; name = codes "schema"; children = Some 1; converted = None; scale = None; precision = None; annotation = None } ∷ record { physical = None; repetition = Some 1; name = codes "g"; children = Some 2; converted = None; scale = None; precision = None; annotation = None } ∷ record { physical = Some 1; repetition = Some 0; name = codes "x"; children = None; converted = None; scale = None; precision = None; annotation = None } ∷ []) ≡ Err fault.Schema
  pub nested_group : columns_of (record { physical = None; repetition = None; name = codes "schema"; children = Some 2; converted = None; scale = None; precision = None; annotation = None } ∷ record { physical = None; repetition = Some 1; name = codes "g"; children = Some 1; converted = None; scale = None; precision = None; annotation = None } ∷ record { physical = None; repetition = Some 1; name = codes "h"; children = Some 1; converted = None; scale = None; precision = None; annotation = None } ∷ record { physical = Some 1; repetition = Some 0; name = codes "x"; children = None; converted = None; scale = None; precision = None; annotation = None } ∷ record { physical = Some 1; repetition = Some 0; name = codes "b"; children = None; converted = None; scale = None; precision = None; annotation = None } ∷ []) ≡ Ok (record { name = codes "g"; content = content.LeftOut left_out.Nested } ∷ record { name = codes "b"; content = content.Leaf (record { place = 1; physical = 1; form = form.Four ptype.I32; meaning = meaning.Plain; nullability = NonNullable }) } ∷ [], 2)
  pub one_of_a_name : lookup (codes "b") (record { name = codes "a"; content = content.Leaf (record { place = 0; physical = 1; form = form.Four ptype.I32; meaning = meaning.Plain; nullability = Nullable }) } ∷ record { name = codes "b"; content = content.Leaf (record { place = 1; physical = 6; form = form.Utf8; meaning = meaning.Plain; nullability = NonNullable }) } ∷ record { name = codes "a"; content = content.Leaf (record { place = 1; physical = 6; form = form.Utf8; meaning = meaning.Plain; nullability = NonNullable }) } ∷ record { name = codes "g"; content = content.LeftOut left_out.Nested } ∷ []) ≡ Some (content.Leaf (record { place = 1; physical = 6; form = form.Utf8; meaning = meaning.Plain; nullability = NonNullable }))
  pub two_of_a_name : lookup (codes "a") (record { name = codes "a"; content = content.Leaf (record { place = 0; physical = 1; form = form.Four ptype.I32; meaning = meaning.Plain; nullability = Nullable }) } ∷ record { name = codes "b"; content = content.Leaf (record { place = 1; physical = 6; form = form.Utf8; meaning = meaning.Plain; nullability = NonNullable }) } ∷ record { name = codes "a"; content = content.Leaf (record { place = 1; physical = 6; form = form.Utf8; meaning = meaning.Plain; nullability = NonNullable }) } ∷ record { name = codes "g"; content = content.LeftOut left_out.Nested } ∷ []) ≡ Some (content.LeftOut left_out.Duplicate)
  pub one_left_out : lookup (codes "g") (record { name = codes "a"; content = content.Leaf (record { place = 0; physical = 1; form = form.Four ptype.I32; meaning = meaning.Plain; nullability = Nullable }) } ∷ record { name = codes "b"; content = content.Leaf (record { place = 1; physical = 6; form = form.Utf8; meaning = meaning.Plain; nullability = NonNullable }) } ∷ record { name = codes "a"; content = content.Leaf (record { place = 1; physical = 6; form = form.Utf8; meaning = meaning.Plain; nullability = NonNullable }) } ∷ record { name = codes "g"; content = content.LeftOut left_out.Nested } ∷ []) ≡ Some (content.LeftOut left_out.Nested)
  pub none_of_a_name : lookup (codes "ab") (record { name = codes "a"; content = content.Leaf (record { place = 0; physical = 1; form = form.Four ptype.I32; meaning = meaning.Plain; nullability = Nullable }) } ∷ record { name = codes "b"; content = content.Leaf (record { place = 1; physical = 6; form = form.Utf8; meaning = meaning.Plain; nullability = NonNullable }) } ∷ record { name = codes "a"; content = content.Leaf (record { place = 1; physical = 6; form = form.Utf8; meaning = meaning.Plain; nullability = NonNullable }) } ∷ record { name = codes "g"; content = content.LeftOut left_out.Nested } ∷ []) ≡ None
