-- Dates moved by days, months or years, in jiff's words.
use Rattle.std.specs.Prelude.{◌≡◌, ◌≤◌, ◌+ℤ◌, ◌*ℤ◌, ℤ, pos, unsigned_abs}
use Rattle.jiff.specs.Types.{Date}
use Rattle.jiff.specs.Words.{add_months, epoch_day, IsEpochDay, IsShiftable}
use Rattle.vortex_logical.specs.declared.exact.Exact.{Exact}
use Rattle.vortex_literals.specs.Dates.{IsMidnight}
use Rattle.vortex_literals.specs.declared.intervals.IntervalUnit.{IntervalUnit}
pub use Rattle.vortex_literals.specs.declared.intervals.IntervalUnit.TheVariants.{Day, Month, Year}

-- the day number after an interval: a month later is the same day of the next month, or its last day where it is shorter
abbrev pub moved : IntervalUnit → Date → ℤ → ℤ
moved Day d n = epoch_day d +ℤ n
moved Month d n = add_months d n
moved Year d n = add_months d (n *ℤ pos 12)

-- that day lies in the years -9999 to 9999, and there are at most 239,976 months
abbrev pub CanMove : IntervalUnit → Date → ℤ → Type 0
CanMove Day d n = IsEpochDay (epoch_day d +ℤ n)
CanMove Month d n = (unsigned_abs n ≤ 239_976) × IsShiftable d n
CanMove Year d n = IsShiftable d (n *ℤ pos 12)

-- x is the midnight of a date that can be moved so
abbrev pub IsMovable : IntervalUnit → ℤ → Exact → Type 0
IsMovable unit n x = (d : Date) × (IsMidnight (epoch_day d) x × CanMove unit d n)

-- y is the midnight that many days, months or years after x
abbrev pub IsLater : IntervalUnit → ℤ → Exact → Exact → Type 0
IsLater unit n x y = (d : Date) × (IsMidnight (epoch_day d) x × IsMidnight (moved unit d n) y)

-- x is the midnight of a day of that number, or of none
abbrev pub IsDayNumber : Exact → ℤ → Type 0
IsDayNumber x n = IsEpochDay n × IsMidnight n x

abbrev pub HasNoDay : Exact → Type 0
HasNoDay x = (n : ℤ) → IsDayNumber x n → ⊥

-- x is the midnight of d, or of no date
abbrev pub IsMidnightOf : Exact → Date → Type 0
IsMidnightOf x d = IsMidnight (epoch_day d) x

abbrev pub IsNoMidnight : Exact → Type 0
IsNoMidnight x = (d : Date) → IsMidnightOf x d → ⊥

-- e is d moved so
abbrev pub IsMoved : IntervalUnit → ℤ → Date → Date → Type 0
IsMoved unit n d e = CanMove unit d n × (epoch_day e ≡ moved unit d n)

abbrev pub CantMove : IntervalUnit → ℤ → Date → Type 0
CantMove unit n d = CanMove unit d n → ⊥
