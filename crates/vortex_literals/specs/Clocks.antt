-- The texts of SQL's timestamps, instants and times of day, by jiff's readers, and the numbers that they write.
use Rattle.std.specs.Prelude.{◌≡◌, ℕ, ◌+◌, ◌*◌, Bool, ◌&&◌, ◌||◌, not, ◌==◌, nat_lt, nat_le, List, drop, length, slice_index, ℤ, pos, Option, Some, None, Result, Ok, Err, if◌then◌else◌}
use Rattle.std.specs.Char.{is_ascii_digit}
use Rattle.std.specs.List.{list_all}
use Rattle.jiff.specs.Words.{parse_datetime, parse_time, parse_timestamp, Error}
use Rattle.jiff_fmt.specs.Temporal.{DateParts, TimeParts, parts_nanos}
use Rattle.vortex_logical.specs.declared.exact.Exact.{Exact}
use Rattle.vortex_logical.specs.Meaning.{Fraction, fraction_of}
use Rattle.vortex_literals.specs.Dates.{over, has_date_form}

-- nanoseconds in seconds
abbrev pub nanos : ℤ → Fraction
nanos n = over n 9

abbrev pub IsNanos : ℤ → Exact → Type 0
IsNanos n x = fraction_of x ≡ nanos n

-- nothing but digits and points follows the place at which the seconds end: jiff passes over an offset there, which the writer may have meant
abbrev pub has_only_digits : ℕ → List ℕ → Bool
has_only_digits end text = list_all (λ b. (b == 46) || is_ascii_digit b) (drop end text)

-- a date, a blank or T, an hour and a minute
abbrev pub begins_as_clock : List ℕ → Bool
begins_as_clock text =
    nat_le 16 (length text) && (slice_index text 4 == 45) && (slice_index text 7 == 45)
    && ((slice_index text 10 == 32) || (slice_index text 10 == 84)) && (slice_index text 13 == 58)

-- A second of 60 is refused, since jiff reads it as 59.
abbrev pub has_seconds : List ℕ → Bool
has_seconds text = nat_le 19 (length text) && (slice_index text 16 == 58) && nat_lt (slice_index text 17) 54

-- a date, or a date with hour and minute, or with seconds and perhaps a fraction, and no zone
abbrev pub has_timestamp_form : List ℕ → Bool
has_timestamp_form text =
    has_date_form text
    || (begins_as_clock text && ((length text == 16) || (has_seconds text && has_only_digits 19 text)))

-- neither a zone's name nor a comma
abbrev pub is_plain : List ℕ → Bool
is_plain text = list_all (λ b. not (b == 91) && not (b == 44)) text

-- no point behind the one that follows seconds: jiff rounds the fraction of an offset
abbrev pub has_whole_offset : List ℕ → Bool
has_whole_offset text = list_all (λ b. not (b == 46)) (drop 20 text)

-- A date with hour and minute or with seconds, and perhaps more, of which jiff wants an offset.
abbrev pub has_instant_form : List ℕ → Bool
has_instant_form text =
    begins_as_clock text && is_plain text && has_whole_offset text
    && (has_seconds text || (nat_le 17 (length text) && not (slice_index text 16 == 58)))

-- hour and minute, or also seconds and perhaps a fraction
abbrev pub has_time_form : List ℕ → Bool
has_time_form text =
    nat_le 5 (length text) && (slice_index text 2 == 58)
    && ((length text == 5) || (nat_le 8 (length text) && (slice_index text 5 == 58) && nat_lt (slice_index text 6) 54 && has_only_digits 8 text))

abbrev pub clock_read : Result (DateParts × TimeParts) Error → Option Fraction
clock_read (Ok p) = Some (nanos (parts_nanos p.0 p.1))
clock_read (Err e) = None

abbrev pub instant_read : Result ℤ Error → Option Fraction
instant_read (Ok n) = Some (nanos n)
instant_read (Err e) = None

abbrev pub time_read : Result TimeParts Error → Option Fraction
time_read (Ok t) = Some (nanos (pos ((t.hour * 3_600 + t.minute * 60 + t.second) * 1_000_000_000 + t.subsec)))
time_read (Err e) = None

-- the seconds that a clock with no zone shows since 1970-01-01 00:00
abbrev pub timestamp_of : List ℕ → Option Fraction
timestamp_of text = if has_timestamp_form text then clock_read (parse_datetime text) else None

-- the seconds from 1970-01-01 00:00 UTC to an instant
abbrev pub instant_of : List ℕ → Option Fraction
instant_of text = if has_instant_form text then instant_read (parse_timestamp text) else None

-- the seconds since midnight
abbrev pub time_of : List ℕ → Option Fraction
time_of text = if has_time_form text then time_read (parse_time text) else None

-- the text writes a timestamp, an instant or a time of day, which is x
abbrev pub IsTimestamp : List ℕ → Exact → Type 0
IsTimestamp text x = timestamp_of text ≡ Some (fraction_of x)

abbrev pub IsNoTimestamp : List ℕ → Type 0
IsNoTimestamp text = timestamp_of text ≡ None

abbrev pub IsInstant : List ℕ → Exact → Type 0
IsInstant text x = instant_of text ≡ Some (fraction_of x)

abbrev pub IsNoInstant : List ℕ → Type 0
IsNoInstant text = instant_of text ≡ None

abbrev pub IsTime : List ℕ → Exact → Type 0
IsTime text x = time_of text ≡ Some (fraction_of x)

abbrev pub IsNoTime : List ℕ → Type 0
IsNoTime text = time_of text ≡ None
