-- Operands as the columns beside them type them.
use Rattle.std.specs.Prelude.{ℕ, Bool, true, false, ◌&&◌, ◌==◌, nat_le, List, Option, Some, None, if◌then◌else◌}
use Rattle.vortex_floats.specs.Nearest.{nearest_over}
use Rattle.vortex_literals.specs.Clocks.{instant_of, time_of, timestamp_of}
use Rattle.vortex_literals.specs.Dates.{date_of}
use Rattle.vortex_logical.specs.Meaning.{Fraction}
use Rattle.vortex_logical.specs.declared.exact.Step.{Step}
use Rattle.vortex_logical.specs.declared.logical_type.ExactKind.{ExactKind}
use Rattle.vortex_logical.specs.declared.logical_type.ExactKind.TheVariants.{Number, Clock, Instant, TimeOfDay}
use Rattle.vortex_logical.specs.declared.logical_type.LogicalType.{LogicalType}
use Rattle.vortex_logical.specs.declared.logical_type.LogicalType.TheVariants.{Date, Time, Timestamp, TimestampTz, Decimal}
use Rattle.vortex_logical.specs.LogicalTypes.{kind, step}
use Rattle.vortex_logical.specs.declared.float_type.FloatType.{FloatType}
use Rattle.vortex_sql.specs.declared.cells.Cells.{Cells}
use Rattle.vortex_sql.specs.declared.cells.Cells.TheVariants.{Values, Exact, Floats}
use Rattle.vortex_sql.specs.declared.syntax.tree.ExactNumber.{ExactNumber}
use Rattle.vortex_sql.specs.declared.syntax.tree.Operand.{Operand}
use Rattle.vortex_sql.specs.declared.syntax.tree.Operand.TheVariants as operand
use Rattle.vortex_sql.specs.declared.typing.KindFit.{KindFit}
use Rattle.vortex_sql.specs.declared.typing.KindFit.TheVariants.{Same, ByZone, Other}
use Rattle.vortex_sql.specs.Schemas.{Field, SchemaData, find_field}

-- ---- what cells stand for

-- the type of the dates, times or decimals of a column, if its cells stand for such
abbrev pub logical_of : Cells → Option LogicalType
logical_of Values = None
logical_of (Exact t) = Some t
logical_of (Floats t m) = None

-- what the cells of a column count
abbrev pub kind_of : Option LogicalType → ExactKind
kind_of None = Number
kind_of (Some t) = kind t

-- what one counts in a column
abbrev pub step_of : Option LogicalType → Step
step_of None = record { each = 1; scale = 0 }
step_of (Some t) = step t

-- A clock and an instant compare in the zone of a server, which nobody else knows.
abbrev pub kind_fit : ExactKind → ExactKind → KindFit
kind_fit Number Number = Same
kind_fit Clock Clock = Same
kind_fit Instant Instant = Same
kind_fit TimeOfDay TimeOfDay = Same
kind_fit Clock Instant = ByZone
kind_fit Instant Clock = ByZone
kind_fit k l = Other

abbrev pub is_same : KindFit → Bool
is_same Same = true
is_same ByZone = false
is_same Other = false

-- one counts the same in two columns
abbrev pub are_same_steps : Option LogicalType → Option LogicalType → Bool
are_same_steps s t = is_same (kind_fit (kind_of s) (kind_of t)) && ((step_of s).each == (step_of t).each) && ((step_of s).scale == (step_of t).scale)

-- the cells of two columns stand for the same values; those of floats aren't compared
abbrev pub are_same_cells : Cells → Cells → Bool
are_same_cells (Floats t m) k = false
are_same_cells Values (Floats t m) = false
are_same_cells (Exact s) (Floats t m) = false
are_same_cells k l = are_same_steps (logical_of k) (logical_of l)

-- ---- texts

-- a number that was read, with so many digits behind the point
abbrev pub scaled : ExactKind → ℕ → Option Fraction → Option ExactNumber
scaled k s None = None
scaled k s (Some x) = Some (record { kind = k; top = x.top; scale = s })

-- the value of a type that a text writes
abbrev pub text_value : LogicalType → List ℕ → Option ExactNumber
text_value Date bs = scaled Clock 0 (date_of bs)
text_value (Timestamp u) bs = scaled Clock 9 (timestamp_of bs)
text_value (TimestampTz u) bs = scaled Instant 9 (instant_of bs)
text_value (Time u) bs = scaled TimeOfDay 9 (time_of bs)
text_value (Decimal d) bs = None

-- a text in another form isn't read
abbrev pub typed_text : Option ExactNumber → Operand
typed_text None = operand.Other
typed_text (Some x) = operand.Exact x

-- a number is the float that is nearest to it, if there is one that engines agree on; one of more than 33 digits behind the point isn't read
abbrev pub float_beside : FloatType → ExactNumber → Option ℕ
float_beside t x = if nat_le x.scale 33 then nearest_over t x.top x.scale else None

abbrev pub typed_bits : Option ℕ → Operand
typed_bits None = operand.Other
typed_bits (Some b) = operand.Float b

-- what a number is beside a column of floats; what counts days or seconds stays that
abbrev pub typed_number : FloatType → ExactNumber → Operand
typed_number t x = if is_same (kind_fit x.kind Number) then typed_bits (float_beside t x) else operand.Exact x

abbrev pub typed_as : Cells → Operand → Operand
typed_as (Exact t) (operand.Text bs) = typed_text (text_value t bs)
typed_as (Floats t m) (operand.Exact x) = typed_number t x
typed_as (Floats t m) (operand.Text bs) = operand.Other
typed_as k y = y

abbrev pub typed_by : Option Field → Operand → Operand
typed_by None y = y
typed_by (Some f) y = typed_as f.cells y

-- the second operand as the first one types it, if that is a column
abbrev pub beside : SchemaData → Operand → Operand → Operand
beside s (operand.Column name) y = typed_by (find_field s name) y
beside s x y = y
