-- The statuses by their numbers, and where a call is refused.
use Rattle.std.specs.Prelude.{ℕ}
use Rattle.vortex_capi.specs.declared.nested.error.NestedError.{NestedError}
use Rattle.vortex_capi.specs.declared.nested.error.NestedError.TheVariants as nested
use Rattle.vortex_capi.specs.declared.fault.Refusal.{Refusal}
use Rattle.vortex_capi.specs.declared.status.Status.{Status}
use Rattle.vortex_capi.specs.declared.status.Status.TheVariants.{BadLine, TooShort, NoMemory, BadKind, BadStat, BadKnown, BadLength, BadEnds, BadValue, BadNull, Untrue, BadColumn, BadName, NotAPredicate, BadFlag, TooDeep, BadSql, Misfit, BadFooter, NotRead}

abbrev pub status_number : Status → ℕ
status_number BadLine = 2
status_number TooShort = 3
status_number NoMemory = 4
status_number BadKind = 5
status_number BadStat = 6
status_number BadKnown = 7
status_number BadLength = 8
status_number BadEnds = 9
status_number BadValue = 10
status_number BadNull = 11
status_number Untrue = 12
status_number BadColumn = 13
status_number BadName = 14
status_number NotAPredicate = 15
status_number BadFlag = 16
status_number TooDeep = 17
status_number BadSql = 18
status_number Misfit = 19
status_number BadFooter = 20
status_number NotRead = 21

-- a predicate that isn't read
abbrev pub status_of_nested : NestedError → Status
status_of_nested nested.Memory = NoMemory
status_of_nested nested.Bad = BadLine
status_of_nested nested.TooDeep = TooDeep

-- refused in a row of a column, or a zone
abbrev pub at_row : Status → ℕ → Refusal
at_row s n = record { status = s; fault = record { row = n; column = 0; entry = 0 } }

-- refused in a zone at a statistic
abbrev pub in_zone : ℕ → Status → ℕ → Refusal
in_zone zone s n = record { status = s; fault = record { row = zone; column = 0; entry = n } }

-- refused at a statistic
abbrev pub at_entry : Status → ℕ → Refusal
at_entry s n = record { status = s; fault = record { row = 0; column = 0; entry = n } }

-- refused at a column of a scope
abbrev pub at_column : Status → ℕ → Refusal
at_column s n = record { status = s; fault = record { row = 0; column = n; entry = 0 } }

-- refused in a zone at a statistic of a column
abbrev pub in_column : (zone column : ℕ) → Status → ℕ → Refusal
in_column zone column s n = record { status = s; fault = record { row = zone; column = column; entry = n } }

-- refused, whatever the place
abbrev pub nowhere : Status → Refusal
nowhere s = at_entry s 0
