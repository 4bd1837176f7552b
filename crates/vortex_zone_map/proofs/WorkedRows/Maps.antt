-- Witnesses of the clauses of maps of zones as they are made and grow.
use Rattle.std.specs.Prelude.{◌≡◌, ◌++◌, ℕ, zero, suc, false, true, List, [], ◌∷◌, Option, None, Some, map, refl, slice_get}
use Rattle.std.proofs.Common.{ap, subst}
use Rattle.std.proofs.lemmas.Option.{same_Some}
use Rattle.vortex_base.specs.declared.aggregate.AggregateFnRef.TheVariants.{Sum}
use Rattle.vortex_base.specs.declared.scalar_value.ScalarValue.{ScalarValue}
use Rattle.vortex_base.specs.Data.Columns.{ColumnData}
use Rattle.vortex_zone_map.proofs.WorkedRows.Witnesses.{IsWitness, high, is_map, low, mixed, num, scope, their_map, zones}
use Rattle.vortex_zone_map.specs.GivenTables.{IsTableOf}
use Rattle.vortex_zone_map.specs.StatValues.{count_of}
use Rattle.vortex_zone_map.specs.Told.{IsToldOf}
use Rattle.vortex_zone_map.specs.Zone.{AreZonesOf, IsZone, ZoneData}
use Rattle.vortex_zone_map.specs.ZoneMaps.{IsMapOf, MapData, emptied_map, zone_columns, zone_map}
use Rattle.vortex_zone_map.specs.declared.told.Told.{Told}
use Rattle.vortex_zone_map.specs.declared.told.Told.TheVariants.{Nothing}

-- the row counts of a map are the zones'
counts_of_map : (m : MapData) (known : List ZoneData) → IsMapOf known m → m.rows ≡ map (λ zone. zone.rows) known
counts_of_map m known h = ap (λ (k : MapData). k.rows) h.same

two_are_not_three : {X : Type 0} (x y u v w : X) → x ∷ y ∷ [] ≡ u ∷ v ∷ w ∷ [] → ⊥
two_are_not_three x y u v w h = cc

none_are_not_three : {X : Type 0} (u v w : X) → [] ≡ u ∷ v ∷ w ∷ [] → ⊥
none_are_not_three u v w h = cc

-- ---- the first zone, and the two behind it

abbrev first : List ZoneData
first = low ∷ []

abbrev others : List ZoneData
others = mixed ∷ high ∷ []

abbrev first_two : List ZoneData
first_two = low ∷ mixed ∷ []

first_are_zones : (i : ℕ) (zone : ZoneData) → slice_get first i ≡ Some zone → IsZone scope zone
first_are_zones zero zone there = subst (λ z. IsZone scope z) (same_Some low zone there) refl
first_are_zones (suc i) zone there = absurd cc

other_are_zones : (i : ℕ) (zone : ZoneData) → slice_get others i ≡ Some zone → IsZone scope zone
other_are_zones zero zone there = subst (λ z. IsZone scope z) (same_Some mixed zone there) refl
other_are_zones (suc zero) zone there = subst (λ z. IsZone scope z) (same_Some high zone there) refl
other_are_zones (suc (suc i)) zone there = absurd cc

first_two_are_zones : (i : ℕ) (zone : ZoneData) → slice_get first_two i ≡ Some zone → IsZone scope zone
first_two_are_zones zero zone there = subst (λ z. IsZone scope z) (same_Some low zone there) refl
first_two_are_zones (suc zero) zone there = subst (λ z. IsZone scope z) (same_Some mixed zone there) refl
first_two_are_zones (suc (suc i)) zone there = absurd cc

first_is_map : IsMapOf first (zone_map scope first)
first_is_map = record { are_zones = first_are_zones; same = refl }

other_is_map : IsMapOf others (zone_map scope others)
other_is_map = record { are_zones = other_are_zones; same = refl }

first_two_is_map : IsMapOf first_two (zone_map scope first_two)
first_two_is_map = record { are_zones = first_two_are_zones; same = refl }

-- ---- made of zones: the map is of a scope without columns, which its zones don't fit

abbrev no_columns : MapData
no_columns = zone_map [] []

do_not_fit : AreZonesOf no_columns.scope zones → ⊥
do_not_fit h = let fits : false ≡ true = h 0 low refl in cc

pub builder_are_zones : IsWitness (slice_get zones 0 ≡ Some low) (λ (made : MapData). AreZonesOf made.scope zones) no_columns
builder_are_zones = record { met = refl; refuted = do_not_fit }

pub try_new_are_zones : IsWitness (slice_get zones 0 ≡ Some low) (λ (made : MapData). AreZonesOf made.scope zones) no_columns
try_new_are_zones = builder_are_zones

-- ---- made of a table

abbrev columns : List ColumnData
columns = zone_columns scope zones

is_table_of : IsTableOf scope zones (2 ∷ 2 ∷ 2 ∷ []) columns
is_table_of = record { are_zones = is_map.are_zones; counted = refl; told = refl }

-- the zones are lost
pub of_table_is_map : IsWitness (IsTableOf scope zones (2 ∷ 2 ∷ 2 ∷ []) columns) (λ (made : MapData). IsMapOf zones made) (emptied_map their_map)
of_table_is_map = record { met = is_table_of; refuted = λ h. none_are_not_three 2 2 2 (counts_of_map (emptied_map their_map) zones h) }

pub of_table_are_zones : IsWitness (IsTableOf scope zones (2 ∷ 2 ∷ 2 ∷ []) columns) (λ (made : MapData). AreZonesOf made.scope zones) no_columns
of_table_are_zones = record { met = is_table_of; refuted = do_not_fit }

-- ---- and grown: the last zone is lost

abbrev without_last : MapData
without_last = zone_map scope first_two

last_is_lost : IsMapOf zones without_last → ⊥
last_is_lost h = two_are_not_three 2 2 2 2 2 (counts_of_map without_last zones h)

pub append_is_map : IsWitness ((scope ≡ scope) × IsMapOf first (zone_map scope first) × IsMapOf others (zone_map scope others)) (λ (grown : MapData). IsMapOf (first ++ others) grown) without_last
append_is_map = record { met = (refl, first_is_map, other_is_map); refuted = last_is_lost }

pub extend_is_map : IsWitness (IsMapOf first (zone_map scope first)) (λ (grown : MapData). IsMapOf (first ++ others) grown) without_last
extend_is_map = record { met = first_is_map; refuted = last_is_lost }

pub push_is_map : IsWitness (IsMapOf first_two without_last) (λ (grown : MapData). IsMapOf (first_two ++ high ∷ []) grown) without_last
push_is_map = record { met = first_two_is_map; refuted = last_is_lost }

pub append_are_zones : IsWitness ((scope ≡ scope) × IsMapOf first (zone_map scope first) × IsMapOf others (zone_map scope others)) (λ (grown : MapData). AreZonesOf grown.scope (first ++ others)) no_columns
append_are_zones = record { met = (refl, first_is_map, other_is_map); refuted = do_not_fit }

pub extend_are_zones : IsWitness (IsMapOf first (zone_map scope first)) (λ (grown : MapData). AreZonesOf grown.scope (first ++ others)) no_columns
extend_are_zones = record { met = first_is_map; refuted = do_not_fit }

pub push_are_zones : IsWitness (IsMapOf first_two without_last) (λ (grown : MapData). AreZonesOf grown.scope (first_two ++ high ∷ [])) no_columns
push_are_zones = record { met = first_two_is_map; refuted = do_not_fit }

-- ---- what is told of a value: one of a sum is its own

nothing_is_not_five : ◌≡◌ {A = Option ScalarValue} None (Some (num 5)) → ⊥
nothing_is_not_five h = cc

pub told_of : IsWitness (count_of (num 5) ≡ count_of (num 5)) (λ (t : Told). IsToldOf Sum true (count_of (num 5)) 2 t) Nothing
told_of = record { met = refl; refuted = λ h. nothing_is_not_five (h (num 5) refl) }
