-- Intervals that are separate: in order, none of them empty, and with others between each two.
use Rattle.std.specs.Prelude.{Bool, true, false, not as not_b, ◌&&◌, List, [], ◌∷◌, Option, Some, None, if◌then◌else◌}
use Rattle.vortex_normal.specs.Groups.{Item, inside, other}
use Rattle.vortex_normal.specs.Intervals.{Cut, Interval, cut_le, higher, interval, is_empty, unless_empty}

-- a cut lies above another, if there is that one
abbrev pub is_beyond : Option Cut → Cut → Bool
is_beyond None d = true
is_beyond (Some c) d = not_b (cut_le d c)

-- the intervals are separate, and lie beyond a cut
abbrev pub are_beyond : Option Cut → List Interval → Bool
are_beyond c [] = true
are_beyond c (i ∷ is) = is_beyond c i.low && (not_b (is_empty i) && are_beyond (Some i.high) is)

abbrev pub is_separate : List Interval → Bool
is_separate is = are_beyond None is

-- ---- the sets of a chain's items

abbrev pub are_separate : List (List Interval) → Bool
are_separate [] = true
are_separate (is ∷ iss) = is_separate is && are_separate iss

abbrev pub is_of_separate : Item → Bool
is_of_separate (inside c n iss) = are_separate iss
is_of_separate (other e) = true

abbrev pub are_of_separate : List Item → Bool
are_of_separate [] = true
are_of_separate (i ∷ is) = is_of_separate i && are_of_separate is

-- ---- an interval and those that it touches

abbrev pub lower : Cut → Cut → Cut
lower c d = if cut_le c d then c else d

-- from the lower beginning of two intervals to the higher end
abbrev pub hull : Interval → Interval → Interval
hull i j = record { low = lower i.low j.low; high = higher i.high j.high }

abbrev pub hull_of_all : Interval → List Interval → Interval
hull_of_all i [] = i
hull_of_all i (j ∷ js) = hull_of_all (hull i j) js

-- what becomes of the interval and those that it touches: their hull, or what it leaves of the hull on its two sides
abbrev pub left_of : (is_and : Bool) → (hull : Interval) → Interval → List Interval
left_of true h i = unless_empty (interval h.low i.low) (unless_empty (interval i.high h.high) [])
left_of false h i = h ∷ []
