-- Worked rows of columns that are chosen, found by computation alone.
use Rattle.std.specs.Prelude.{◌≡◌, ℕ, true, false, List, [], ◌∷◌, refl}
use Rattle.vortex_base.specs.declared.scalar_value.ScalarValue.TheVariants as value
use Rattle.vortex_zone_map.specs.Choosing.{are_places, chosen, chosen_zone}
use Rattle.vortex_stats.specs.declared.precision.Precision.TheVariants.{Exact}
use Rattle.vortex_stats.specs.declared.stat.Stat.TheVariants.{IsConstant}

-- ---- which stand at the places

abbrev numbers : List ℕ
numbers = 7 ∷ 8 ∷ 9 ∷ []

first_chosen : chosen (0 ∷ []) numbers ≡ 7 ∷ []
first_chosen = refl

middle_chosen : chosen (1 ∷ []) numbers ≡ 8 ∷ []
middle_chosen = refl

last_chosen : chosen (2 ∷ []) numbers ≡ 9 ∷ []
last_chosen = refl

two_swapped : chosen (2 ∷ 0 ∷ []) numbers ≡ 9 ∷ 7 ∷ []
two_swapped = refl

none_chosen : chosen [] numbers ≡ []
none_chosen = refl

one_twice : chosen (1 ∷ 1 ∷ []) numbers ≡ 8 ∷ 8 ∷ []
one_twice = refl

-- a place past the end has nothing, and is no place
past_the_end : chosen (3 ∷ 1 ∷ []) numbers ≡ 8 ∷ []
past_the_end = refl

last_is_place : are_places 3 (2 ∷ 0 ∷ []) ≡ true
last_is_place = refl

past_is_no_place : are_places 3 (0 ∷ 3 ∷ []) ≡ false
past_is_no_place = refl

none_are_places : are_places 3 [] ≡ true
none_are_places = refl

-- ---- the zone of chosen columns

zone_of_second : chosen_zone (1 ∷ []) (record { rows = 4; stats = ((IsConstant, Exact (value.Bool true)) ∷ []) ∷ [] ∷ [] }) ≡ record { rows = 4; stats = [] ∷ [] }
zone_of_second = refl

zone_of_first : chosen_zone (0 ∷ []) (record { rows = 4; stats = ((IsConstant, Exact (value.Bool true)) ∷ []) ∷ [] ∷ [] }) ≡ record { rows = 4; stats = ((IsConstant, Exact (value.Bool true)) ∷ []) ∷ [] }
zone_of_first = refl
