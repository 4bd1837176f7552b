-- Worked rows of separate intervals: which are, what touches, and one more or less at each place, found by computation alone.
use Rattle.std.specs.Prelude.{◌≡◌, true, false, List, [], ◌∷◌, Some, None, refl}
use Rattle.vortex_normal.specs.Intervals.{Lowest, Before, After, Interval, combined, interval, share}
use Rattle.vortex_normal.specs.Separate.{are_beyond, are_separate, hull, hull_of_all, is_beyond, is_separate, left_of, lower}
use Rattle.vortex_normal.proofs.SetRows.{above, all, at, below, between, closed, from}

-- ---- which intervals are separate

none : is_separate [] ≡ true
none = refl

one : is_separate (closed 4 6 ∷ []) ≡ true
one = refl

two : is_separate (closed 1 3 ∷ closed 5 7 ∷ []) ≡ true
two = refl

out_of_order : is_separate (closed 5 7 ∷ closed 1 3 ∷ []) ≡ false
out_of_order = refl

overlapping : is_separate (closed 1 5 ∷ closed 4 7 ∷ []) ≡ false
overlapping = refl

-- two that touch are not, and two that leave one value out are
touching : is_separate (below 4 ∷ from 4 ∷ []) ≡ false
touching = refl

one_left_out : is_separate (below 4 ∷ above 4 ∷ []) ≡ true
one_left_out = refl

empty : is_separate (between 5 5 ∷ []) ≡ false
empty = refl

second_empty : is_separate (closed 1 3 ∷ between 5 5 ∷ []) ≡ false
second_empty = refl

sets : are_separate ((closed 1 3 ∷ []) ∷ (closed 2 4 ∷ []) ∷ []) ≡ true
sets = refl

second_set : are_separate ((closed 1 3 ∷ []) ∷ (closed 5 7 ∷ closed 1 3 ∷ []) ∷ []) ≡ false
second_set = refl

without_a_cut : is_beyond None Lowest ≡ true
without_a_cut = refl

itself : is_beyond (Some (Before (at 4))) (Before (at 4)) ≡ false
itself = refl

behind : are_beyond (Some (Before (at 4))) (above 4 ∷ []) ≡ true
behind = refl

not_behind : are_beyond (Some (After (at 4))) (from 4 ∷ []) ≡ false
not_behind = refl

-- ---- hulls, and what is left of them

lower_first : lower (Before (at 4)) (After (at 4)) ≡ Before (at 4)
lower_first = refl

lower_second : lower (After (at 4)) (Before (at 4)) ≡ Before (at 4)
lower_second = refl

hull_of_two : hull (closed 4 7) (closed 2 5) ≡ closed 2 7
hull_of_two = refl

hull_of_inner : hull (closed 4 5) (closed 2 9) ≡ closed 2 9
hull_of_inner = refl

hull_of_three : hull_of_all (closed 4 6) (closed 1 4 ∷ between 5 9 ∷ []) ≡ interval (Before (at 1)) (Before (at 9))
hull_of_three = refl

hull_of_it : hull_of_all (closed 4 6) [] ≡ closed 4 6
hull_of_it = refl

both_sides : left_of true (closed 1 9) (closed 4 6) ≡ interval (Before (at 1)) (Before (at 4)) ∷ interval (After (at 6)) (After (at 9)) ∷ []
both_sides = refl

right_side : left_of true (closed 4 9) (closed 4 6) ≡ interval (After (at 6)) (After (at 9)) ∷ []
right_side = refl

left_side : left_of true (closed 1 6) (closed 4 6) ≡ interval (Before (at 1)) (Before (at 4)) ∷ []
left_side = refl

no_side : left_of true (closed 4 6) (closed 4 6) ≡ []
no_side = refl

joined : left_of false (closed 1 9) (closed 4 6) ≡ closed 1 9 ∷ []
joined = refl

-- ---- one more

abbrev three : List Interval
three = closed 1 3 ∷ closed 5 7 ∷ closed 9 11 ∷ []

abbrev more : Interval → List Interval
more i = combined false (three ∷ (i ∷ []) ∷ [])

more_at_the_front : more (below 1) ≡ interval Lowest (After (at 3)) ∷ closed 5 7 ∷ closed 9 11 ∷ []
more_at_the_front = refl

more_in_the_middle : more (closed 4 4) ≡ closed 1 3 ∷ closed 4 4 ∷ closed 5 7 ∷ closed 9 11 ∷ []
more_in_the_middle = refl

more_at_the_end : more (above 13) ≡ closed 1 3 ∷ closed 5 7 ∷ closed 9 11 ∷ above 13 ∷ []
more_at_the_end = refl

more_over_all : more (closed 0 20) ≡ closed 0 20 ∷ []
more_over_all = refl

more_that_touches : more (between 3 5) ≡ closed 1 7 ∷ closed 9 11 ∷ []
more_that_touches = refl

-- ---- one less

abbrev less : Interval → List Interval
less i = combined true (three ∷ share true (i ∷ []) ∷ [])

less_at_the_front : less (below 2) ≡ closed 2 3 ∷ closed 5 7 ∷ closed 9 11 ∷ []
less_at_the_front = refl

less_in_the_middle : less (closed 2 10) ≡ interval (Before (at 1)) (Before (at 2)) ∷ interval (After (at 10)) (After (at 11)) ∷ []
less_in_the_middle = refl

less_at_the_end : less (from 9) ≡ closed 1 3 ∷ closed 5 7 ∷ []
less_at_the_end = refl

less_of_all : less all ≡ []
less_of_all = refl

less_that_touches : less (between 3 5) ≡ three
less_that_touches = refl

less_inside : less (between 5 7) ≡ closed 1 3 ∷ closed 5 5 ∷ closed 7 7 ∷ closed 9 11 ∷ []
less_inside = refl
