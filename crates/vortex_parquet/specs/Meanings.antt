-- What the cells of leaf columns stand for.
use Rattle.std.specs.Prelude.{◌≡◌, ◌≤◌, ℕ, Bool, true, false, ◌==◌, nat_le, Option, Some, None, refl, if◌then◌else◌}
use Rattle.std.proofs.lemmas.Bool.{leb-true}
use Rattle.vortex_logical.specs.declared.decimal.DecimalDType.{DecimalDType}
use Rattle.vortex_logical.specs.declared.logical_type.LogicalType.TheVariants as logical
use Rattle.vortex_logical.specs.declared.float_type.FloatType.TheVariants.{F32, F64}
use Rattle.vortex_logical.specs.declared.time_unit.TimeUnit.{TimeUnit}
use Rattle.vortex_logical.specs.declared.time_unit.TimeUnit.TheVariants as unit
use Rattle.vortex_parquet.specs.declared.meaning.LeafMeaning.{LeafMeaning}
use Rattle.vortex_parquet.specs.declared.meaning.LeafMeaning.TheVariants as meaning
use Rattle.vortex_parquet.specs.declared.records.Annotation.{Annotation}
use Rattle.vortex_parquet.specs.declared.records.Annotation.TheVariants as annotation
use Rattle.vortex_parquet.specs.Records.{is_number}

-- the proof that a number is at most another, where a test says so
abbrev pub tested_le : (m n : ℕ) (b : Bool) → nat_le m n ≡ b → Option (m ≤ n)
tested_le m n true h = Some (leb-true m n h)
tested_le m n false h = None

abbrev pub proof_le : (m n : ℕ) → Option (m ≤ n)
proof_le m n = tested_le m n (nat_le m n) refl

abbrev pub decimal_if : (precision scale : ℕ) → Option (1 ≤ precision) → Option (precision ≤ 38) → Option (scale ≤ 38) → Option DecimalDType
decimal_if precision scale (Some some) (Some digits) (Some behind) = Some (record { precision = precision; scale = scale; some = some; digits = digits; behind = behind })
decimal_if precision scale some digits behind = None

-- the type of decimals with so many digits, so many of them behind the point, if there are 1 to 38 digits, and at most 38 behind the point
unfoldable pub decimal_type : (precision scale : ℕ) → Option DecimalDType
decimal_type precision scale = decimal_if precision scale (proof_le 1 precision) (proof_le precision 38) (proof_le scale 38)

-- decimals of at most so many digits, if it is told how many they have
abbrev pub told_decimals : ℕ → (scale precision : Option ℕ) → Option DecimalDType
told_decimals most (Some scale) (Some precision) = if nat_le precision most then decimal_type precision scale else None
told_decimals most scale precision = None

-- decimals without digits behind the point are the whole numbers themselves
abbrev pub whole_meaning : Bool → LeafMeaning
whole_meaning true = meaning.Plain
whole_meaning false = meaning.Opaque

abbrev pub decimals_or : LeafMeaning → Option DecimalDType → LeafMeaning
decimals_or m None = m
decimals_or m (Some d) = meaning.Logical (logical.Decimal d)

abbrev pub decimal_meaning : ℕ → (scale precision : Option ℕ) → LeafMeaning
decimal_meaning most scale precision = decimals_or (whole_meaning (is_number 0 scale)) (told_decimals most scale precision)

-- times of day: milliseconds stand in INT32, and microseconds and nanoseconds in INT64
abbrev pub time_meaning : ℕ → Option TimeUnit → LeafMeaning
time_meaning physical (Some unit.Milliseconds) = if physical == 1 then meaning.Logical (logical.Time unit.Milliseconds) else meaning.Opaque
time_meaning physical (Some unit.Microseconds) = if physical == 2 then meaning.Logical (logical.Time unit.Microseconds) else meaning.Opaque
time_meaning physical (Some unit.Nanoseconds) = if physical == 2 then meaning.Logical (logical.Time unit.Nanoseconds) else meaning.Opaque
time_meaning physical (Some unit.Seconds) = meaning.Opaque
time_meaning physical None = meaning.Opaque

-- timestamps: those that are adjusted to UTC are instants, and others are what a clock shows
abbrev pub timestamp_meaning : Option Bool → Option TimeUnit → LeafMeaning
timestamp_meaning (Some true) (Some u) = meaning.Logical (logical.TimestampTz u)
timestamp_meaning (Some false) (Some u) = meaning.Logical (logical.Timestamp u)
timestamp_meaning adjusted u = meaning.Opaque

-- the digits that fit each number of a physical type: 9 in INT32, and else 18
abbrev pub most_digits : ℕ → ℕ
most_digits physical = if physical == 1 then 9 else 18

-- without an annotation FLOAT, 4, and DOUBLE, 5, are floats, and others the values themselves
abbrev pub bare_meaning : ℕ → LeafMeaning
bare_meaning physical = if physical == 4 then meaning.Float F32 else (if physical == 5 then meaning.Float F64 else meaning.Plain)

-- what the cells of a physical type with an annotation stand for: enum Type has INT32 as 1 and INT64 as 2
unfoldable pub meaning_of : ℕ → Annotation → LeafMeaning
meaning_of physical annotation.Date = if physical == 1 then meaning.Logical logical.Date else meaning.Opaque
meaning_of physical (annotation.Time u) = time_meaning physical u
meaning_of physical (annotation.Timestamp adjusted u) = if physical == 2 then timestamp_meaning adjusted u else meaning.Opaque
meaning_of physical (annotation.Decimal scale precision) = decimal_meaning (most_digits physical) scale precision
meaning_of physical annotation.None = bare_meaning physical
meaning_of physical annotation.Text = meaning.Plain
meaning_of physical (annotation.Integer bits signed) = meaning.Plain
meaning_of physical annotation.Bytes = meaning.Plain
meaning_of physical annotation.Other = meaning.Opaque
