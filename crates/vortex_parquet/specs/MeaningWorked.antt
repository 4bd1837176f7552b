-- Worked rows of what the cells of leaf columns stand for.
use Rattle.std.specs.Prelude.{◌≡◌, true, false, Some, None, codes}
use Rattle.vortex_base.specs.declared.types.Nullability.TheVariants.{Nullable, NonNullable}
use Rattle.vortex_base.specs.declared.types.PType.TheVariants as ptype
use Rattle.vortex_logical.specs.declared.decimal.DecimalDType.{DecimalDType}
use Rattle.vortex_logical.specs.declared.float_type.FloatType.TheVariants as float
use Rattle.vortex_logical.specs.declared.logical_type.LogicalType.TheVariants as logical
use Rattle.vortex_logical.specs.declared.time_unit.TimeUnit.TheVariants as unit
use Rattle.vortex_parquet.specs.declared.columns.Form.TheVariants as form
use Rattle.vortex_parquet.specs.declared.meaning.LeafMeaning.TheVariants as meaning
use Rattle.vortex_parquet.specs.declared.records.Annotation.TheVariants as annotation
use Rattle.vortex_parquet.specs.Columns.{leaf_of}
use Rattle.vortex_parquet.specs.Meanings.{meaning_of}

-- INT32 is 1, INT64 is 2, BYTE_ARRAY is 6, and FIXED_LEN_BYTE_ARRAY is 7
pub record MeaningExamples : Type 0 where
  pub numbers : meaning_of 1 annotation.None ≡ meaning.Plain
  pub long_numbers : meaning_of 2 annotation.None ≡ meaning.Plain
  pub truths : meaning_of 0 annotation.None ≡ meaning.Plain
  pub texts : meaning_of 6 annotation.Text ≡ meaning.Plain
  pub bytes : meaning_of 7 annotation.Bytes ≡ meaning.Plain
  pub signed : meaning_of 1 (annotation.Integer 16 true) ≡ meaning.Plain
  pub unsigned : meaning_of 2 (annotation.Integer 64 false) ≡ meaning.Plain
  pub others : meaning_of 6 annotation.Other ≡ meaning.Opaque
  pub floats : meaning_of 4 annotation.None ≡ meaning.Float float.F32
  pub doubles : meaning_of 5 annotation.None ≡ meaning.Float float.F64
  pub bytes_untold : meaning_of 6 annotation.None ≡ meaning.Plain
  pub dates : meaning_of 1 annotation.Date ≡ meaning.Logical logical.Date
  pub long_dates : meaning_of 2 annotation.Date ≡ meaning.Opaque
  pub dates_in_bytes : meaning_of 6 annotation.Date ≡ meaning.Opaque
  pub times_of_milliseconds : meaning_of 1 (annotation.Time (Some unit.Milliseconds)) ≡ meaning.Logical (logical.Time unit.Milliseconds)
  pub times_of_microseconds : meaning_of 2 (annotation.Time (Some unit.Microseconds)) ≡ meaning.Logical (logical.Time unit.Microseconds)
  pub times_of_nanoseconds : meaning_of 2 (annotation.Time (Some unit.Nanoseconds)) ≡ meaning.Logical (logical.Time unit.Nanoseconds)
  pub long_times_of_milliseconds : meaning_of 2 (annotation.Time (Some unit.Milliseconds)) ≡ meaning.Opaque
  pub short_times_of_microseconds : meaning_of 1 (annotation.Time (Some unit.Microseconds)) ≡ meaning.Opaque
  pub short_times_of_nanoseconds : meaning_of 1 (annotation.Time (Some unit.Nanoseconds)) ≡ meaning.Opaque
  pub short_times_of_seconds : meaning_of 1 (annotation.Time (Some unit.Seconds)) ≡ meaning.Opaque
  pub times_of_seconds : meaning_of 2 (annotation.Time (Some unit.Seconds)) ≡ meaning.Opaque
  pub times_of_no_unit : meaning_of 2 (annotation.Time None) ≡ meaning.Opaque
  pub short_times_of_no_unit : meaning_of 1 (annotation.Time None) ≡ meaning.Opaque
  pub instants_of_milliseconds : meaning_of 2 (annotation.Timestamp (Some true) (Some unit.Milliseconds)) ≡ meaning.Logical (logical.TimestampTz unit.Milliseconds)
  pub instants_of_microseconds : meaning_of 2 (annotation.Timestamp (Some true) (Some unit.Microseconds)) ≡ meaning.Logical (logical.TimestampTz unit.Microseconds)
  pub instants_of_nanoseconds : meaning_of 2 (annotation.Timestamp (Some true) (Some unit.Nanoseconds)) ≡ meaning.Logical (logical.TimestampTz unit.Nanoseconds)
  pub clocks_of_milliseconds : meaning_of 2 (annotation.Timestamp (Some false) (Some unit.Milliseconds)) ≡ meaning.Logical (logical.Timestamp unit.Milliseconds)
  pub clocks_of_microseconds : meaning_of 2 (annotation.Timestamp (Some false) (Some unit.Microseconds)) ≡ meaning.Logical (logical.Timestamp unit.Microseconds)
  pub clocks_of_nanoseconds : meaning_of 2 (annotation.Timestamp (Some false) (Some unit.Nanoseconds)) ≡ meaning.Logical (logical.Timestamp unit.Nanoseconds)
  pub timestamps_untold : meaning_of 2 (annotation.Timestamp None (Some unit.Milliseconds)) ≡ meaning.Opaque
  pub timestamps_of_no_unit : meaning_of 2 (annotation.Timestamp (Some true) None) ≡ meaning.Opaque
  pub short_timestamps : meaning_of 1 (annotation.Timestamp (Some true) (Some unit.Milliseconds)) ≡ meaning.Opaque
  pub short_clocks : meaning_of 1 (annotation.Timestamp (Some false) (Some unit.Milliseconds)) ≡ meaning.Opaque
  pub decimals : (d : DecimalDType) → d.precision ≡ 9 → d.scale ≡ 2 → meaning_of 1 (annotation.Decimal (Some 2) (Some 9)) ≡ meaning.Logical (logical.Decimal d)
  pub decimals_behind : (d : DecimalDType) → d.precision ≡ 2 → d.scale ≡ 9 → meaning_of 1 (annotation.Decimal (Some 9) (Some 2)) ≡ meaning.Logical (logical.Decimal d)
  pub whole_decimals : (d : DecimalDType) → d.precision ≡ 5 → d.scale ≡ 0 → meaning_of 1 (annotation.Decimal (Some 0) (Some 5)) ≡ meaning.Logical (logical.Decimal d)
  pub least_decimals : (d : DecimalDType) → d.precision ≡ 1 → d.scale ≡ 38 → meaning_of 1 (annotation.Decimal (Some 38) (Some 1)) ≡ meaning.Logical (logical.Decimal d)
  pub decimals_past_9_digits : meaning_of 1 (annotation.Decimal (Some 2) (Some 10)) ≡ meaning.Opaque
  pub whole_decimals_past_9_digits : meaning_of 1 (annotation.Decimal (Some 0) (Some 10)) ≡ meaning.Plain
  pub decimals_past_38_behind : meaning_of 1 (annotation.Decimal (Some 39) (Some 9)) ≡ meaning.Opaque
  pub decimals_of_no_digit : meaning_of 1 (annotation.Decimal (Some 2) (Some 0)) ≡ meaning.Opaque
  pub whole_decimals_of_no_digit : meaning_of 1 (annotation.Decimal (Some 0) (Some 0)) ≡ meaning.Plain
  pub decimals_without_scale : meaning_of 1 (annotation.Decimal None (Some 9)) ≡ meaning.Opaque
  pub decimals_without_digits : meaning_of 1 (annotation.Decimal (Some 2) None) ≡ meaning.Opaque
  pub whole_decimals_without_digits : meaning_of 1 (annotation.Decimal (Some 0) None) ≡ meaning.Plain
  pub decimals_without_either : meaning_of 1 (annotation.Decimal None None) ≡ meaning.Opaque
  pub long_decimals : (d : DecimalDType) → d.precision ≡ 18 → d.scale ≡ 4 → meaning_of 2 (annotation.Decimal (Some 4) (Some 18)) ≡ meaning.Logical (logical.Decimal d)
  pub long_decimals_past_18_digits : meaning_of 2 (annotation.Decimal (Some 4) (Some 19)) ≡ meaning.Opaque
  pub long_whole_decimals_past_18_digits : meaning_of 2 (annotation.Decimal (Some 0) (Some 19)) ≡ meaning.Plain
  pub decimals_in_bytes : (d : DecimalDType) → d.precision ≡ 18 → d.scale ≡ 4 → meaning_of 6 (annotation.Decimal (Some 4) (Some 18)) ≡ meaning.Logical (logical.Decimal d)
  pub decimals_in_fixed_bytes : (d : DecimalDType) → d.precision ≡ 18 → d.scale ≡ 4 → meaning_of 7 (annotation.Decimal (Some 4) (Some 18)) ≡ meaning.Logical (logical.Decimal d)
  pub long_decimals_in_bytes : meaning_of 6 (annotation.Decimal (Some 4) (Some 19)) ≡ meaning.Opaque
  pub date_leaf : leaf_of 2 (record { physical = Some 1; repetition = Some 0; name = codes "a"; children = None; converted = Some 6; scale = None; precision = None; annotation = None }) ≡ Some (record { place = 2; physical = 1; form = form.Four ptype.I32; meaning = meaning.Logical logical.Date; nullability = NonNullable })
  pub time_leaf : leaf_of 0 (record { physical = Some 1; repetition = Some 1; name = codes "a"; children = None; converted = Some 7; scale = None; precision = None; annotation = None }) ≡ Some (record { place = 0; physical = 1; form = form.Four ptype.I32; meaning = meaning.Logical (logical.Time unit.Milliseconds); nullability = Nullable })
  pub instant_leaf : leaf_of 0 (record { physical = Some 2; repetition = Some 1; name = codes "a"; children = None; converted = Some 9; scale = None; precision = None; annotation = None }) ≡ Some (record { place = 0; physical = 2; form = form.Eight ptype.I64; meaning = meaning.Logical (logical.TimestampTz unit.Milliseconds); nullability = Nullable })
  pub clock_leaf : leaf_of 0 (record { physical = Some 2; repetition = Some 1; name = codes "a"; children = None; converted = Some 9; scale = None; precision = None; annotation = Some (annotation.Timestamp (Some false) (Some unit.Microseconds)) }) ≡ Some (record { place = 0; physical = 2; form = form.Eight ptype.I64; meaning = meaning.Logical (logical.Timestamp unit.Microseconds); nullability = Nullable })
  pub opaque_leaf : leaf_of 0 (record { physical = Some 2; repetition = Some 1; name = codes "a"; children = None; converted = Some 6; scale = None; precision = None; annotation = None }) ≡ Some (record { place = 0; physical = 2; form = form.Eight ptype.I64; meaning = meaning.Opaque; nullability = Nullable })
  pub decimal_leaf : (d : DecimalDType) → d.precision ≡ 9 → d.scale ≡ 2 → leaf_of 3 (record { physical = Some 7; repetition = Some 1; name = codes "a"; children = None; converted = Some 5; scale = Some 4; precision = Some 9; annotation = None }) ≡ Some (record { place = 3; physical = 7; form = form.Decimal; meaning = meaning.Logical (logical.Decimal d); nullability = Nullable })
