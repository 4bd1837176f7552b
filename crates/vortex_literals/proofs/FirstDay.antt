-- The day from which numbers are counted, and the clocks of a day.
use Rattle.std.proofs.Common.{◌≡◌, arith, ap, ◌∙◌, ℤ, pos, ℕ}
use Rattle.std.specs.Prelude.{◌*ℤ◌, ◌+ℤ◌, ◌-ℤ◌, int_div}
use Rattle.std.proofs.lemmas.Int.{ints}
use Rattle.jiff.specs.Types.{DateTime}
use Rattle.jiff.specs.Words.{epoch_day, time_nanos, date_parts, time_parts}
use Rattle.jiff_core.specs.Calendar.{days_from_civil}
use Rattle.jiff_core.specs.DateTime.{civil_nanos}
use Rattle.jiff_core.proofs.SignedLemmas.{signed_arith}
use Rattle.jiff_fmt.specs.Temporal.{parts_nanos}

pub first_day : (y : ℤ) (m d : ℕ) → y ≡ pos 1970 → pos m ≡ pos 1 → pos d ≡ pos 1 → days_from_civil y m d ≡ pos 0
unfolding days_from_civil
first_day y m d p q r =
    let m1 : m ≡ 1 = omega (arith, ints) in
    let d1 : d ≡ 1 = omega (arith, ints) in
    ap (λ (z : ℤ). days_from_civil z m d) p ∙ ap (λ (z : ℕ). days_from_civil (pos 1970) z d) m1 ∙ ap (days_from_civil (pos 1970) 1) d1 ∙ omega (arith, ints)

pub less_nothing : (a b : ℤ) → b ≡ pos 0 → a -ℤ b ≡ a
less_nothing a b h = omega (arith, ints)

pub first_clock : (t : DateTime) → epoch_day t.date ≡ pos 0 → time_nanos t.time ≡ 0 → civil_nanos t ≡ pos 0
unfolding civil_nanos
first_clock t h k = ap (λ (z : ℤ). (z *ℤ pos 86_400_000_000_000) +ℤ pos (time_nanos t.time)) h ∙ ap (λ (z : ℕ). pos 0 +ℤ pos z) k

-- the nanoseconds of a day in seconds
pub seconds_of_days : (n a b : ℤ) → n ≡ (a -ℤ b) *ℤ pos 86_400_000_000_000 → b ≡ pos 0 → int_div n (pos 1_000_000_000) ≡ a *ℤ pos 86_400
seconds_of_days n a b h k = omega (arith, signed_arith)

-- a clock counts as its parts do
pub civil_nanos-read : (t : DateTime) → civil_nanos t ≡ parts_nanos (date_parts t.date) (time_parts t.time)
unfolding civil_nanos
civil_nanos-read t = search arith
