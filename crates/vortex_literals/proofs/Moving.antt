-- What spans of days, months and years do to a date, and how many there can be.
use Rattle.std.proofs.Common.{◌≡◌, ◌↔◌, ◌-◌, ◌^◌, ◌≤◌, ◌+ℤ◌, ◌*ℤ◌, ℕ, zero, suc, ℤ, pos, negsuc, unsigned_abs, ap, ap₂, refl, subst, ◌∙◌, arith}
use Rattle.jiff.specs.Types.{Date, Span, Hour, Minute, Second, Millisecond, Microsecond, Nanosecond}
use Rattle.jiff.specs.Types as jiff
use Rattle.jiff.specs.Words.{date_add, add_months, epoch_day, IsEpochDay, IsShiftable, IsOnly, CanAddToDate, span_days}
use Rattle.jiff_core.specs.Calendar.{IsCivilDate, IsYear, days_from_civil}
use Rattle.std.specs.Int.{int_div_euclid}
use Rattle.jiff_core.specs.Span.{clock_days}
use Rattle.jiff_core.proofs.CalendarLemmas.{days_from_civil-day_count, day_count_bounds}
use Rattle.jiff_core.proofs.DateLemmas.{epoch_day_injective, epoch_day_range}
use Rattle.jiff_core.proofs.SignedLemmas.{signed_arith}
use Rattle.jiff_span.proofs.DifferenceLemmas.{signed_zero}
use Rattle.jiff_span.proofs.MonthLemmas.{shifted_civil}
use Rattle.jiff_span.specs.Months.{month_number, shifted_year, shifted_month, shifted_day}
use Rattle.jiff.proofs.SpanFacts.{date_add-years}
use Rattle.vortex_logical.proofs.Placing.{power-le}
use Rattle.vortex_logical.proofs.Products.{product_once}
use Rattle.vortex_logical.specs.declared.exact.Exact.{Exact}
use Rattle.vortex_logical.specs.Meaning.{Fraction}
use Rattle.vortex_literals.specs.Dates.{IsMidnight}
use Rattle.vortex_literals.specs.declared.intervals.IntervalUnit.{IntervalUnit}
use Rattle.vortex_literals.specs.Intervals.{CanMove, Day, Month, Year}

pub date_add-months : (a : Date) (n : ℤ) (s : Span) → IsOnly jiff.Month n s → date_add a s ≡ add_months a n
date_add-months a n s h =
    let d : span_days s ≡ pos 0 = omega (arith, signed_arith, h.days) in
    let o = h.others in
    let k : clock_days s ≡ pos 0 = signed_zero s.negative _ (omega (arith, o Hour (omega arith), o Minute (omega arith), o Second (omega arith), o Millisecond (omega arith), o Microsecond (omega arith), o Nanosecond (omega arith))) in
    rw (h.months, d, k) (omega (arith, signed_arith) ∙ ap (add_months a) (product_once n))

-- a date in a year that jiff has is one that jiff has
civil_range : (y : ℤ) (m d : ℕ) → IsCivilDate y m d → IsEpochDay (days_from_civil y m d)
civil_range y m d h = omega (arith, signed_arith, days_from_civil-day_count, day_count_bounds y m d h)

pub shifted_range : (a : Date) (n : ℤ) → IsShiftable a n → IsEpochDay (add_months a n)
shifted_range a n h = civil_range (shifted_year a n) (shifted_month a n) (shifted_day a n) (shifted_civil a n h)

pub can_add-months : (a : Date) (n : ℤ) (s : Span) → IsOnly jiff.Month n s → CanAddToDate a s ↔ IsShiftable a n
can_add-months a n s h =
    let e = date_add-months a n s h in
    let k = h.months ∙ product_once n in
    (λ can. rw (← k) can.0, λ shift. (rw k shift, rw e (shifted_range a n shift)))

pub can_add-years : (a : Date) (n : ℤ) (s : Span) → IsOnly jiff.Year n s → CanAddToDate a s ↔ IsShiftable a (n *ℤ pos 12)
can_add-years a n s h =
    let e = date_add-years a n s h in
    let k = h.months in
    (λ can. rw (← k) can.0, λ shift. (rw k shift, rw e (shifted_range a (n *ℤ pos 12) shift)))

-- no date can be moved by more days or years than there are
pub few_days : (a : Date) (n : ℤ) → IsEpochDay (epoch_day a +ℤ n) → unsigned_abs n ≤ 7_304_484
few_days a (pos n) h = omega (arith, signed_arith, epoch_day_range a, h)
few_days a (negsuc n) h = omega (arith, signed_arith, epoch_day_range a, h)

pub few_years : (a : Date) (n : ℤ) → IsShiftable a (n *ℤ pos 12) → unsigned_abs n ≤ 19_998
few_years a (pos n) h = omega (arith, signed_arith, a.year_in, a.month_in, h)
few_years a (negsuc n) h = omega (arith, signed_arith, a.year_in, a.month_in, h)

-- a midnight is that of one day
ten_up : (k : ℕ) → 10 ^ k ≡ 1 → k ≡ 0
ten_up zero e = refl
ten_up (suc k) e = let h = power-le 1 (suc k) (omega arith) in omega arith

pub midnight_parts : (x : Exact) (n : ℤ) → IsMidnight n x → (x.scale ≡ 0) × (x.top ≡ n *ℤ pos 86_400)
midnight_parts x n h =
    let u : 10 ^ x.scale ≡ 1 = ap (λ (f : Fraction). f.under) h in
    (ten_up x.scale u, ap (λ (f : Fraction). f.top) h)

pub one_day : (x : Exact) (a b : ℤ) → IsMidnight a x → IsMidnight b x → a ≡ b
one_day x a b h k =
    let p = (midnight_parts x a h).1 in
    let q = (midnight_parts x b k).1 in
    omega (arith, signed_arith, p, q)

-- two dates of one day number can be moved alike
pub can_move_same : (unit : IntervalUnit) (a b : Date) (n : ℤ) → epoch_day a ≡ epoch_day b → CanMove unit a n → CanMove unit b n
can_move_same unit a b n e can = by_unit unit can
  where
    parts : (a.year ≡ b.year) × (a.month ≡ b.month) × (a.day ≡ b.day)
    parts = epoch_day_injective a b e

    months : month_number a ≡ month_number b
    months = let F : ℤ → ℕ → ℤ = λ y m. y *ℤ pos 12 +ℤ pos (m - 1) in ap₂ F parts.0 parts.1

    shiftable : (k : ℤ) → IsShiftable a k → IsShiftable b k
    shiftable k h = let P : ℤ → Type 0 = λ z. IsYear (int_div_euclid (z +ℤ k) (pos 12)) in subst P months h

    by_unit : (u : IntervalUnit) → CanMove u a n → CanMove u b n
    by_unit Day h = let P : ℤ → Type 0 = λ z. IsEpochDay (z +ℤ n) in subst P e h
    by_unit Month h = (h.0, shiftable n h.1)
    by_unit Year h = shiftable (n *ℤ pos 12) h
