-- Worked rows of sets: in order, what they leave out, and combined, found by computation alone.
use Rattle.std.specs.Prelude.{◌≡◌, ℕ, true, false, [], ◌∷◌, refl}
use Rattle.vortex_base.specs.declared.pvalue.PValue.TheVariants as number
use Rattle.vortex_base.specs.declared.scalar_value.ScalarValue.{ScalarValue}
use Rattle.vortex_base.specs.declared.scalar_value.ScalarValue.TheVariants as value
use Rattle.vortex_normal.specs.Intervals.{Lowest, Before, After, Highest, Interval, combined, complement, interval, share, sorted}

abbrev pub at : ℕ → ScalarValue
at n = value.Primitive (number.U8 n)

abbrev pub closed : ℕ → ℕ → Interval
closed l u = interval (Before (at l)) (After (at u))

abbrev pub from : ℕ → Interval
from l = interval (Before (at l)) Highest

abbrev pub above : ℕ → Interval
above l = interval (After (at l)) Highest

abbrev pub below : ℕ → Interval
below u = interval Lowest (Before (at u))

abbrev pub between : ℕ → ℕ → Interval
between l u = interval (After (at l)) (Before (at u))

abbrev pub all : Interval
all = interval Lowest Highest

-- ---- in the order of their low cuts, those that tie as they stood

none_sorted : sorted [] ≡ []
none_sorted = refl

three_sorted : sorted (closed 7 8 ∷ below 2 ∷ closed 4 5 ∷ []) ≡ below 2 ∷ closed 4 5 ∷ closed 7 8 ∷ []
three_sorted = refl

-- before a value and behind it are two cuts
sides_sorted : sorted (above 4 ∷ from 4 ∷ []) ≡ from 4 ∷ above 4 ∷ []
sides_sorted = refl

ties_sorted : sorted (closed 4 9 ∷ closed 1 2 ∷ closed 4 6 ∷ []) ≡ closed 1 2 ∷ closed 4 9 ∷ closed 4 6 ∷ []
ties_sorted = refl

-- ---- what sets leave out

of_none : complement [] ≡ all ∷ []
of_none = refl

of_all : complement (all ∷ []) ≡ []
of_all = refl

of_one : complement (closed 4 6 ∷ []) ≡ below 4 ∷ above 6 ∷ []
of_one = refl

of_two : complement (closed 7 8 ∷ closed 4 5 ∷ []) ≡ below 4 ∷ between 5 7 ∷ above 8 ∷ []
of_two = refl

-- a later interval may end before an earlier one does
of_covered : complement (closed 2 9 ∷ closed 4 6 ∷ []) ≡ below 2 ∷ above 9 ∷ []
of_covered = refl

of_overlapping : complement (closed 4 7 ∷ closed 2 5 ∷ []) ≡ below 2 ∷ above 7 ∷ []
of_overlapping = refl

-- between two that touch nothing is left
of_touching : complement (below 4 ∷ from 4 ∷ []) ≡ []
of_touching = refl

-- what one without values leaves out is every value
of_empty : complement (interval (After (at 5)) (Before (at 5)) ∷ []) ≡ interval Lowest (After (at 5)) ∷ from 5 ∷ []
of_empty = refl

-- ---- combined

share_of_and : share true (from 4 ∷ []) ≡ below 4 ∷ []
share_of_and = refl

share_of_or : share false (from 4 ∷ []) ≡ from 4 ∷ []
share_of_or = refl

-- one set stays as it is
one_of_and : combined true ((closed 7 8 ∷ closed 4 5 ∷ []) ∷ []) ≡ closed 7 8 ∷ closed 4 5 ∷ []
one_of_and = refl

one_of_or : combined false ((closed 7 8 ∷ closed 4 5 ∷ []) ∷ []) ≡ closed 7 8 ∷ closed 4 5 ∷ []
one_of_or = refl

none_of_and : combined true [] ≡ all ∷ []
none_of_and = refl

none_of_or : combined false [] ≡ []
none_of_or = refl

both : combined true ((from 4 ∷ []) ∷ (below 9 ∷ []) ∷ []) ≡ interval (Before (at 4)) (Before (at 9)) ∷ []
both = refl

either : combined false ((closed 7 8 ∷ []) ∷ (closed 4 5 ∷ []) ∷ []) ≡ closed 4 5 ∷ closed 7 8 ∷ []
either = refl

apart : combined true ((below 4 ∷ []) ∷ (from 9 ∷ []) ∷ []) ≡ []
apart = refl

pieces : combined true ((closed 1 3 ∷ closed 5 9 ∷ []) ∷ (closed 2 6 ∷ []) ∷ (closed 0 8 ∷ []) ∷ []) ≡ closed 2 3 ∷ closed 5 6 ∷ []
pieces = refl
