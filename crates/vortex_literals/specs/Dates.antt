-- The texts of SQL's dates, by jiff's reader, and the numbers that they write.
use Rattle.std.specs.Prelude.{◌≡◌, ◌^◌, ℕ, Bool, ◌&&◌, ◌==◌, List, length, slice_index, ℤ, pos, ◌*ℤ◌, Option, Some, None, Result, Ok, Err, if◌then◌else◌}
use Rattle.jiff.specs.Words.{parse_date, Error}
use Rattle.jiff_core.specs.Calendar.{days_from_civil}
use Rattle.jiff_fmt.specs.Temporal.{DateParts}
use Rattle.vortex_logical.specs.declared.exact.Exact.{Exact}
use Rattle.vortex_logical.specs.declared.logical_type.LogicalType.TheVariants.{Date as Days}
use Rattle.vortex_logical.specs.LogicalTypes.{value}
use Rattle.vortex_logical.specs.Meaning.{Fraction, fraction_cmp, fraction_of}
use Rattle.std.specs.Ordering.{int_cmp}

-- n divided by ten to the s
abbrev pub over : ℤ → ℕ → Fraction
over n s = record { top = n; under = 10 ^ s }

-- the seconds from 1970-01-01 to the midnight of a day, which has that number
abbrev pub midnight : ℤ → Fraction
midnight day = over (day *ℤ pos 86_400) 0

-- ten bytes with dashes after the year and the month: jiff reads other forms too
abbrev pub has_date_form : List ℕ → Bool
has_date_form text = (length text == 10) && (slice_index text 4 == 45) && (slice_index text 7 == 45)

abbrev pub midnight_read : Result DateParts Error → Option Fraction
midnight_read (Ok d) = Some (midnight (days_from_civil d.year d.month d.day))
midnight_read (Err e) = None

-- the midnight of the day that a text writes
abbrev pub date_of : List ℕ → Option Fraction
date_of text = if has_date_form text then midnight_read (parse_date text) else None

-- x is the midnight of the day of that number
abbrev pub IsMidnight : ℤ → Exact → Type 0
IsMidnight day x = fraction_of x ≡ midnight day

-- the text writes a date, whose midnight is x
abbrev pub IsDate : List ℕ → Exact → Type 0
IsDate text x = date_of text ≡ Some (fraction_of x)

abbrev pub IsNoDate : List ℕ → Type 0
IsNoDate text = date_of text ≡ None

-- a column of dates compares with a midnight as the day numbers
abbrev pub DatesCompareAsDays : Type 0
DatesCompareAsDays = (n day : ℤ) → fraction_cmp (value Days n) (midnight day) ≡ int_cmp n day
