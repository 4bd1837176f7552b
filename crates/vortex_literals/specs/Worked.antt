-- Worked rows of the texts of literals and of moved dates. Numbers are those of Python's datetime and decimal.
use Rattle.std.specs.Prelude.{◌≡◌, pos, negsuc, codes, Some, None}
use Rattle.jiff.specs.Types.{Date}
use Rattle.vortex_logical.specs.declared.exact.Exact.{Exact}
use Rattle.vortex_literals.specs.Clocks.{instant_of, time_of, timestamp_of, IsInstant, IsTime, IsTimestamp}
use Rattle.vortex_literals.specs.Dates.{date_of, midnight, over, IsDate}
use Rattle.vortex_literals.specs.Intervals.{moved, CanMove, CantMove, Day, IsLater, IsMovable, Month, Year}
use Rattle.vortex_literals.specs.Numbers.{number_of, IsNumber}

-- dates, and what isn't one
pub record DateExamples : Type 0 where
  pub first : date_of (codes "1970-01-01") ≡ Some (over (pos 0) 0)
  pub before_first : date_of (codes "1969-12-31") ≡ Some (over (negsuc 86399) 0)
  pub after_first : date_of (codes "2026-01-02") ≡ Some (over (pos 1767312000) 0)
  pub leap_day : date_of (codes "2024-02-29") ≡ Some (over (pos 1709164800) 0)
  pub year_end : date_of (codes "1999-12-31") ≡ Some (over (pos 946598400) 0)
  pub relation : (x : Exact) → x.top ≡ pos 1767312000 → x.scale ≡ 0 → IsDate (codes "2026-01-02") x
  pub no_leap_day : date_of (codes "2026-02-29") ≡ None
  pub no_month : date_of (codes "2026-13-01") ≡ None
  pub no_day_nought : date_of (codes "2026-01-00") ≡ None
  pub no_basic_form : date_of (codes "20260102") ≡ None
  pub no_week : date_of (codes "2026-W01-1") ≡ None
  pub no_sign : date_of (codes "+2026-01-02") ≡ None
  pub no_six_digits : date_of (codes "-002026-01") ≡ None
  pub no_clock : date_of (codes "2026-01-02 12:00") ≡ None
  pub no_short_month : date_of (codes "2026-1-02") ≡ None
  pub no_blank : date_of (codes "2026-01-02 ") ≡ None
  pub no_other_dash : date_of (codes "2026-01/02") ≡ None
  pub no_first_dash : date_of (codes "2026/01-02") ≡ None
  pub no_letters : date_of (codes "2026-o1-02") ≡ None
  pub no_text : date_of (codes "") ≡ None
  pub midnight_of_day : midnight (negsuc 1) ≡ over (negsuc 172799) 0
  pub over_tens : over (pos 5) 2 ≡ record { top = pos 5; under = 100 }

-- timestamps without a zone, and what isn't one
pub record TimestampExamples : Type 0 where
  pub blank : timestamp_of (codes "2026-01-02 12:00:00") ≡ Some (over (pos 1767355200000000000) 9)
  pub letter : timestamp_of (codes "2026-01-02T12:34:56") ≡ Some (over (pos 1767357296000000000) 9)
  pub fraction : timestamp_of (codes "2026-01-02 12:00:00.5") ≡ Some (over (pos 1767355200500000000) 9)
  pub micros : timestamp_of (codes "1969-12-31 23:59:59.000001") ≡ Some (over (negsuc 999998999) 9)
  pub no_seconds : timestamp_of (codes "2026-01-02 12:34") ≡ Some (over (pos 1767357240000000000) 9)
  pub date_alone : timestamp_of (codes "2026-01-02") ≡ Some (over (pos 1767312000000000000) 9)
  pub nine_digits : timestamp_of (codes "2026-01-02 12:00:00.123456789") ≡ Some (over (pos 1767355200123456789) 9)
  pub relation : (x : Exact) → x.top ≡ pos 1767355200000000000 → x.scale ≡ 9 → IsTimestamp (codes "2026-01-02 12:00:00") x
  pub no_ten_digits : timestamp_of (codes "2026-01-02 12:00:00.1234567890") ≡ None
  pub no_leap_second : timestamp_of (codes "2026-01-02 12:00:60") ≡ None
  pub no_minute : timestamp_of (codes "2026-01-02 12:60:00") ≡ None
  pub no_hour : timestamp_of (codes "2026-01-02 24:00:00") ≡ None
  pub no_offset : timestamp_of (codes "2026-01-02 12:00:00+02") ≡ None
  pub no_minus : timestamp_of (codes "2026-01-02 12:00:00-08:00") ≡ None
  pub no_zulu : timestamp_of (codes "2026-01-02 12:00:00Z") ≡ None
  pub no_short_offset : timestamp_of (codes "2026-01-02 12:00+02") ≡ None
  pub no_name : timestamp_of (codes "2026-01-02 12:00:00[Europe/Oslo]") ≡ None
  pub no_comma : timestamp_of (codes "2026-01-02 12:00:00,5") ≡ None
  pub no_basic_form : timestamp_of (codes "20260102 120000") ≡ None
  pub no_basic_clock : timestamp_of (codes "2026-01-02 120000") ≡ None
  pub no_week : timestamp_of (codes "2026-W01-5 12:00:00") ≡ None
  pub no_sign : timestamp_of (codes "+002026-01-02 12:00:00") ≡ None
  pub no_small_letter : timestamp_of (codes "2026-01-02t12:00:00") ≡ None
  pub no_hour_alone : timestamp_of (codes "2026-01-02 12") ≡ None
  pub no_day : timestamp_of (codes "2026-02-30 12:00:00") ≡ None
  pub no_fraction : timestamp_of (codes "2026-01-02 12:00:00.") ≡ None
  pub no_seconds_cut : timestamp_of (codes "2026-01-02 12:00:0") ≡ None
  pub no_other_colon : timestamp_of (codes "2026-01-02 12:00-00") ≡ None

-- timestamps with an offset, and what isn't one
pub record InstantExamples : Type 0 where
  pub east : instant_of (codes "2026-01-02 12:00:00+02") ≡ Some (over (pos 1767348000000000000) 9)
  pub west : instant_of (codes "2026-01-02T12:00:00-08:00") ≡ Some (over (pos 1767384000000000000) 9)
  pub half_hour : instant_of (codes "2026-01-02 12:00:00+0530") ≡ Some (over (pos 1767335400000000000) 9)
  pub zulu : instant_of (codes "2026-01-02 12:00:00Z") ≡ Some (over (pos 1767355200000000000) 9)
  pub fraction : instant_of (codes "2026-01-02 12:00:00.25+01:00") ≡ Some (over (pos 1767351600250000000) 9)
  pub no_seconds : instant_of (codes "2026-01-02 12:34+02") ≡ Some (over (pos 1767350040000000000) 9)
  pub relation : (x : Exact) → x.top ≡ pos 1767348000000000000 → x.scale ≡ 9 → IsInstant (codes "2026-01-02 12:00:00+02") x
  pub no_zone : instant_of (codes "2026-01-02 12:00:00") ≡ None
  pub no_date_alone : instant_of (codes "2026-01-02") ≡ None
  pub no_leap_second : instant_of (codes "2026-01-02 12:00:60Z") ≡ None
  pub no_name : instant_of (codes "2026-01-02 12:00:00+01[Europe/Oslo]") ≡ None
  pub no_comma : instant_of (codes "2026-01-02 12:00:00,5Z") ≡ None
  pub no_blank : instant_of (codes "2026-01-02 12:00:00 +02") ≡ None
  pub no_fraction_of_offset : instant_of (codes "2026-01-02 12:00:00+02:00:00.5") ≡ None
  pub no_fraction_without_seconds : instant_of (codes "2026-01-02 12:00+02:00:00.5") ≡ None
  pub no_far_offset : instant_of (codes "2026-01-02 12:00:00+26") ≡ None
  pub no_week : instant_of (codes "2026-W01-5 12:00:00Z") ≡ None
  pub no_basic_form : instant_of (codes "20260102T120000Z") ≡ None
  pub no_zone_alone : instant_of (codes "2026-01-02Z") ≡ None

-- times of day, and what isn't one
pub record TimeExamples : Type 0 where
  pub noon : time_of (codes "12:00:00") ≡ Some (over (pos 43200000000000) 9)
  pub midnight : time_of (codes "00:00:00") ≡ Some (over (pos 0) 9)
  pub last : time_of (codes "23:59:59.999999999") ≡ Some (over (pos 86399999999999) 9)
  pub no_seconds : time_of (codes "12:34") ≡ Some (over (pos 45240000000000) 9)
  pub relation : (x : Exact) → x.top ≡ pos 43200000000000 → x.scale ≡ 9 → IsTime (codes "12:00:00") x
  pub no_leap_second : time_of (codes "12:00:60") ≡ None
  pub no_hour : time_of (codes "24:00:00") ≡ None
  pub no_minute : time_of (codes "12:60") ≡ None
  pub no_offset : time_of (codes "12:00:00+02") ≡ None
  pub no_zulu : time_of (codes "12:00:00Z") ≡ None
  pub no_short_offset : time_of (codes "12:00Z") ≡ None
  pub no_name : time_of (codes "12:00:00[Europe/Oslo]") ≡ None
  pub no_letter : time_of (codes "T12:00:00") ≡ None
  pub no_basic_form : time_of (codes "120000") ≡ None
  pub no_hour_alone : time_of (codes "12") ≡ None
  pub no_comma : time_of (codes "12:00:00,5") ≡ None
  pub no_ten_digits : time_of (codes "12:00:00.1234567890") ≡ None
  pub no_timestamp : time_of (codes "2026-01-02 12:00:00") ≡ None

-- numbers without a sign, and what isn't one
pub record NumberExamples : Type 0 where
  pub whole : number_of (codes "42") ≡ Some (over (pos 42) 0)
  pub decimal : number_of (codes "12.50") ≡ Some (over (pos 1250) 2)
  pub no_whole : number_of (codes ".5") ≡ Some (over (pos 5) 1)
  pub no_fraction : number_of (codes "5.") ≡ Some (over (pos 5) 0)
  pub exponent : number_of (codes "1.5e3") ≡ Some (over (pos 15000) 1)
  pub capital : number_of (codes "2E2") ≡ Some (over (pos 200) 0)
  pub plus : number_of (codes "2e+2") ≡ Some (over (pos 200) 0)
  pub minus : number_of (codes "25e-4") ≡ Some (over (pos 25) 4)
  pub minus_behind : number_of (codes "1.5e-3") ≡ Some (over (pos 15) 4)
  pub noughts_first : number_of (codes "007") ≡ Some (over (pos 7) 0)
  pub nought : number_of (codes "0") ≡ Some (over (pos 0) 0)
  pub nought_far : number_of (codes "0e999") ≡ Some (over (pos 0) 0)
  pub greatest : number_of (codes "170141183460469231731687303715884105727") ≡ Some (over (pos 170141183460469231731687303715884105727) 0)
  pub greatest_power : number_of (codes "1e38") ≡ Some (over (pos 100000000000000000000000000000000000000) 0)
  pub finest : number_of (codes "1e-33") ≡ Some (over (pos 1) 33)
  pub relation : (x : Exact) → x.top ≡ pos 1005 → x.scale ≡ 3 → IsNumber (codes "1.005") x
  pub too_great : number_of (codes "170141183460469231731687303715884105728") ≡ None
  pub too_great_power : number_of (codes "1e39") ≡ None
  pub too_fine : number_of (codes "1e-34") ≡ None
  pub too_fine_behind : number_of (codes "0.0000000000000000000000000000000000") ≡ None
  pub no_text : number_of (codes "") ≡ None
  pub no_digits : number_of (codes ".") ≡ None
  pub no_digits_before : number_of (codes "e5") ≡ None
  pub no_exponent_digits : number_of (codes "1e") ≡ None
  pub no_sign : number_of (codes "-1") ≡ None
  pub no_plus : number_of (codes "+1") ≡ None
  pub no_letters : number_of (codes "1.5x") ≡ None
  pub no_second_point : number_of (codes "1.2.3") ≡ None
  pub no_blank : number_of (codes "1 ") ≡ None
  pub no_grouping : number_of (codes "1_000") ≡ None
  pub no_nan : number_of (codes "nan") ≡ None

-- moved dates, and how far dates can be moved
pub record IntervalExamples : Type 0 where
  pub days_back : (d : Date) → d.year ≡ pos 1998 → d.month ≡ 12 → d.day ≡ 1 → moved Day d (negsuc 89) ≡ pos 10471
  pub day_ahead : (d : Date) → d.year ≡ pos 2026 → d.month ≡ 12 → d.day ≡ 31 → moved Day d (pos 1) ≡ pos 20819
  pub month_ahead : (d : Date) → d.year ≡ pos 2026 → d.month ≡ 1 → d.day ≡ 15 → moved Month d (pos 1) ≡ pos 20499
  pub month_end : (d : Date) → d.year ≡ pos 2026 → d.month ≡ 1 → d.day ≡ 31 → moved Month d (pos 1) ≡ pos 20512
  pub month_end_of_leap : (d : Date) → d.year ≡ pos 2024 → d.month ≡ 1 → d.day ≡ 31 → moved Month d (pos 1) ≡ pos 19782
  pub months_back : (d : Date) → d.year ≡ pos 2026 → d.month ≡ 1 → d.day ≡ 31 → moved Month d (negsuc 1) ≡ pos 20422
  pub year_ahead : (d : Date) → d.year ≡ pos 1994 → d.month ≡ 1 → d.day ≡ 1 → moved Year d (pos 1) ≡ pos 9131
  pub leap_day : (d : Date) → d.year ≡ pos 2024 → d.month ≡ 2 → d.day ≡ 29 → moved Year d (pos 1) ≡ pos 20147
  pub leap_day_four : (d : Date) → d.year ≡ pos 2024 → d.month ≡ 2 → d.day ≡ 29 → moved Year d (pos 4) ≡ pos 21243
  pub years_back : (d : Date) → d.year ≡ pos 1994 → d.month ≡ 1 → d.day ≡ 1 → moved Year d (negsuc 0) ≡ pos 8401
  pub no_day_after : (d : Date) → d.year ≡ pos 9999 → d.month ≡ 12 → d.day ≡ 31 → CantMove Day (pos 1) d
  pub no_month_after : (d : Date) → d.year ≡ pos 9999 → d.month ≡ 12 → d.day ≡ 1 → CantMove Month (pos 1) d
  pub no_year_before : (d : Date) → d.year ≡ negsuc 9998 → d.month ≡ 1 → d.day ≡ 1 → CantMove Year (negsuc 0) d
  pub day_within : (d : Date) → d.year ≡ pos 9999 → d.month ≡ 12 → d.day ≡ 30 → CanMove Day d (pos 1)
  pub month_within : (d : Date) → d.year ≡ pos 9999 → d.month ≡ 11 → d.day ≡ 30 → CanMove Month d (pos 1)
  pub year_within : (d : Date) → d.year ≡ negsuc 9997 → d.month ≡ 1 → d.day ≡ 1 → CanMove Year d (negsuc 0)
  pub later : (d : Date) → d.year ≡ pos 2026 → d.month ≡ 1 → d.day ≡ 31 → (x : Exact) → x.top ≡ pos 1769817600 → x.scale ≡ 0 → (y : Exact) → y.top ≡ pos 1772236800 → y.scale ≡ 0 → IsLater Month (pos 1) x y
  pub movable : (d : Date) → d.year ≡ pos 2026 → d.month ≡ 1 → d.day ≡ 31 → (x : Exact) → x.top ≡ pos 1769817600 → x.scale ≡ 0 → IsMovable Month (pos 1) x
