-- The worked rows, by computing.
use Rattle.std.proofs.Common.{◌≡◌, ◌-◌, ◌+◌, min, ap, ap₂, refl, sym, ◌∙◌, arith, ℕ, ℤ, pos, Some}
use Rattle.std.specs.Prelude.{negsuc, ◌+ℤ◌, ◌*ℤ◌, unsigned_abs}
use Rattle.std.specs.Int.{int_div_euclid, int_rem_euclid}
use Rattle.fast_float.proofs.OnLiterals.{fast_float_on_literals}
use Rattle.jiff.proofs.OnLiterals.{jiff_on_literals}
use Rattle.jiff.specs.Types.{Date}
use Rattle.jiff.specs.Words.{epoch_day}
use Rattle.jiff_core.specs.Calendar.{days_from_civil, days_in_month}
use Rattle.jiff_core.proofs.SignedLemmas.{signed_arith}
use Rattle.vortex_logical.specs.declared.exact.Exact.{Exact}
use Rattle.vortex_logical.specs.Meaning.{fraction_of}
use Rattle.vortex_literals.specs.Dates.{midnight, over}
use Rattle.vortex_literals.specs.Intervals.{moved, Month}
use Rattle.vortex_literals.specs.Worked.{DateExamples, InstantExamples, IntervalExamples, NumberExamples, TimeExamples, TimestampExamples}

fraction_from : (x : Exact) (t : ℤ) (s : ℕ) → x.top ≡ t → x.scale ≡ s → fraction_of x ≡ over t s
fraction_from x t s p q = ap₂ over p q

pub dates : DateExamples
unfolding jiff_on_literals
dates = record {
  first = refl;
  before_first = refl;
  after_first = refl;
  leap_day = refl;
  year_end = refl;
  relation = λ x p q. ap Some (sym (fraction_from x (pos 1767312000) 0 p q));
  no_leap_day = refl;
  no_month = refl;
  no_day_nought = refl;
  no_basic_form = refl;
  no_week = refl;
  no_sign = refl;
  no_six_digits = refl;
  no_clock = refl;
  no_short_month = refl;
  no_blank = refl;
  no_other_dash = refl;
  no_first_dash = refl;
  no_letters = refl;
  no_text = refl;
  midnight_of_day = refl;
  over_tens = refl;
}

pub timestamps : TimestampExamples
unfolding jiff_on_literals
timestamps = record {
  blank = refl;
  letter = refl;
  fraction = refl;
  micros = refl;
  no_seconds = refl;
  date_alone = refl;
  nine_digits = refl;
  relation = λ x p q. ap Some (sym (fraction_from x (pos 1767355200000000000) 9 p q));
  no_ten_digits = refl;
  no_leap_second = refl;
  no_minute = refl;
  no_hour = refl;
  no_offset = refl;
  no_minus = refl;
  no_zulu = refl;
  no_short_offset = refl;
  no_name = refl;
  no_comma = refl;
  no_basic_form = refl;
  no_basic_clock = refl;
  no_week = refl;
  no_sign = refl;
  no_small_letter = refl;
  no_hour_alone = refl;
  no_day = refl;
  no_fraction = refl;
  no_seconds_cut = refl;
  no_other_colon = refl;
}

pub instants : InstantExamples
unfolding jiff_on_literals
instants = record {
  east = refl;
  west = refl;
  half_hour = refl;
  zulu = refl;
  fraction = refl;
  no_seconds = refl;
  relation = λ x p q. ap Some (sym (fraction_from x (pos 1767348000000000000) 9 p q));
  no_zone = refl;
  no_date_alone = refl;
  no_leap_second = refl;
  no_name = refl;
  no_comma = refl;
  no_blank = refl;
  no_fraction_of_offset = refl;
  no_fraction_without_seconds = refl;
  no_far_offset = refl;
  no_week = refl;
  no_basic_form = refl;
  no_zone_alone = refl;
}

pub times : TimeExamples
unfolding jiff_on_literals
times = record {
  noon = refl;
  midnight = refl;
  last = refl;
  no_seconds = refl;
  relation = λ x p q. ap Some (sym (fraction_from x (pos 43200000000000) 9 p q));
  no_leap_second = refl;
  no_hour = refl;
  no_minute = refl;
  no_offset = refl;
  no_zulu = refl;
  no_short_offset = refl;
  no_name = refl;
  no_letter = refl;
  no_basic_form = refl;
  no_hour_alone = refl;
  no_comma = refl;
  no_ten_digits = refl;
  no_timestamp = refl;
}

pub numbers : NumberExamples
unfolding fast_float_on_literals
numbers = record {
  whole = refl;
  decimal = refl;
  no_whole = refl;
  no_fraction = refl;
  exponent = refl;
  capital = refl;
  plus = refl;
  minus = refl;
  minus_behind = refl;
  noughts_first = refl;
  nought = refl;
  nought_far = refl;
  greatest = refl;
  greatest_power = refl;
  finest = refl;
  relation = λ x p q. ap Some (sym (fraction_from x (pos 1005) 3 p q));
  too_great = refl;
  too_great_power = refl;
  too_fine = refl;
  too_fine_behind = refl;
  no_text = refl;
  no_digits = refl;
  no_digits_before = refl;
  no_exponent_digits = refl;
  no_sign = refl;
  no_plus = refl;
  no_letters = refl;
  no_second_point = refl;
  no_blank = refl;
  no_grouping = refl;
  no_nan = refl;
}

by_parts : (F : ℤ → ℕ → ℕ → ℤ) (d : Date) (y : ℤ) (m k : ℕ) → d.year ≡ y → d.month ≡ m → d.day ≡ k → F d.year d.month d.day ≡ F y m k
by_parts F d y m k p q r = ap (λ (z : ℤ). F z d.month d.day) p ∙ ap (λ (z : ℕ). F y z d.day) q ∙ ap (F y m) r

abbrev days_on : ℤ → ℤ → ℕ → ℕ → ℤ
days_on n y m k = days_from_civil y m k +ℤ n

abbrev months_on : ℤ → ℤ → ℕ → ℕ → ℤ
months_on n y m k =
    let number = y *ℤ pos 12 +ℤ pos (m - 1) +ℤ n in
    let year = int_div_euclid number (pos 12) in
    let month = unsigned_abs (int_rem_euclid number (pos 12)) + 1 in
    days_from_civil year month (min k (days_in_month year month))

abbrev year_on : ℤ → ℤ → ℕ → ℕ → ℤ
year_on n y m k = int_div_euclid (y *ℤ pos 12 +ℤ pos (m - 1) +ℤ n) (pos 12)

pub intervals : IntervalExamples
unfolding jiff_on_literals
intervals = record {
  days_back = λ d p q r. by_parts (days_on (negsuc 89)) d (pos 1998) 12 1 p q r;
  day_ahead = λ d p q r. by_parts (days_on (pos 1)) d (pos 2026) 12 31 p q r;
  month_ahead = λ d p q r. by_parts (months_on (pos 1)) d (pos 2026) 1 15 p q r;
  month_end = λ d p q r. by_parts (months_on (pos 1)) d (pos 2026) 1 31 p q r;
  month_end_of_leap = λ d p q r. by_parts (months_on (pos 1)) d (pos 2024) 1 31 p q r;
  months_back = λ d p q r. by_parts (months_on (negsuc 1)) d (pos 2026) 1 31 p q r;
  year_ahead = λ d p q r. by_parts (months_on (pos 12)) d (pos 1994) 1 1 p q r;
  leap_day = λ d p q r. by_parts (months_on (pos 12)) d (pos 2024) 2 29 p q r;
  leap_day_four = λ d p q r. by_parts (months_on (pos 48)) d (pos 2024) 2 29 p q r;
  years_back = λ d p q r. by_parts (months_on (negsuc 11)) d (pos 1994) 1 1 p q r;
  no_day_after = λ d p q r h. let e = by_parts (days_on (pos 1)) d (pos 9999) 12 31 p q r in omega (arith, signed_arith, e, h);
  no_month_after = λ d p q r h. let e = by_parts (year_on (pos 1)) d (pos 9999) 12 1 p q r in omega (arith, signed_arith, e, h);
  no_year_before = λ d p q r h. let e = by_parts (year_on (negsuc 11)) d (negsuc 9998) 1 1 p q r in omega (arith, signed_arith, e, h);
  day_within = λ d p q r. let e = by_parts (days_on (pos 1)) d (pos 9999) 12 30 p q r in (omega (arith, signed_arith, e), omega (arith, signed_arith, e));
  month_within = λ d p q r. let e = by_parts (year_on (pos 1)) d (pos 9999) 11 30 p q r in (omega arith, (omega (arith, signed_arith, e), omega (arith, signed_arith, e)));
  year_within = λ d p q r. let e = by_parts (year_on (negsuc 11)) d (negsuc 9997) 1 1 p q r in (omega (arith, signed_arith, e), omega (arith, signed_arith, e));
  later = λ d p q r x t s y t₂ s₂. let e : epoch_day d ≡ pos 20484 = by_parts days_from_civil d (pos 2026) 1 31 p q r in let m : moved Month d (pos 1) ≡ pos 20512 = by_parts (months_on (pos 1)) d (pos 2026) 1 31 p q r in (d, (fraction_from x (pos 1769817600) 0 t s ∙ ap midnight (sym e), fraction_from y (pos 1772236800) 0 t₂ s₂ ∙ ap midnight (sym m)));
  movable = λ d p q r x t s. let e : epoch_day d ≡ pos 20484 = by_parts days_from_civil d (pos 2026) 1 31 p q r in let g = by_parts (year_on (pos 1)) d (pos 2026) 1 31 p q r in (d, (fraction_from x (pos 1769817600) 0 t s ∙ ap midnight (sym e), (omega arith, (omega (arith, signed_arith, g), omega (arith, signed_arith, g)))));
}
