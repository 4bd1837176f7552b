-- Witnesses of completeness where one bound alone of a column is known, and another value stands for the other one.
use Rattle.std.specs.Prelude.{◌≡◌, ℕ, zero, suc, Bool, Contains, false, true, not as not_b, IsTrue, List, [], ◌∷◌, Option, Some, None, refl, slice_get}
use Rattle.std.proofs.Common.{ap, arith, subst}
use Rattle.std.proofs.lemmas.Option.{same_Some}
use Rattle.vortex_base.specs.declared.dtype.DType.{DType}
use Rattle.vortex_base.specs.declared.scalar_value.ScalarValue.{ScalarValue}
use Rattle.vortex_base.specs.Data.Columns.{cell_value}
use Rattle.vortex_base.specs.Data.Scalars.{Constant}
use Rattle.vortex_base.specs.Data.Values.{value_cmp}
use Rattle.vortex_expr.specs.Meanings.Meaning.{both, compared, either, holds, is_true, meaning, satisfies, truth, truth_value}
use Rattle.vortex_expr.specs.Trees.Tree.{Tree, Place, binary}
use Rattle.vortex_expr.specs.declared.scalar_fn.Operator.TheVariants.{Eq, NotEq}
use Rattle.vortex_normal.specs.Groups.{normal}
use Rattle.vortex_normal.specs.Pushed.{all_of, any_of, comparison, comparison_of, folded, settled}
use Rattle.vortex_normal.specs.Strict.{narrow_test, strict_test}
use Rattle.vortex_normal.specs.Tested.{IsTestOf, passes}
use Rattle.vortex_predicates.proofs.PredicateWitnesses.{IsCall, first_place, if_above as if_so, if_not_above as if_not_so, named_twice, named_twice_behind, none_there, place_a}
use Rattle.vortex_predicates.proofs.RightProofs.{skip_right, whole_right}
use Rattle.vortex_predicates.specs.NullBoxes.{FindsCertain, HasTestForms, IsNullBoxOf, IsPossibleCell, NullBox, SkipsImpossible, is_null_decided}
use Rattle.vortex_predicates.specs.Pruning.{HasRowsOf, IsMadeBy, IsTestForm, Pruning, skip_proof, skipped_places, whole_places, whole_proof}
use Rattle.vortex_prune.proofs.WorkedRows.ShutRows.{neither}
use Rattle.vortex_prune.proofs.WorkedRows.Witnesses.Parts.{a, lit}
use Rattle.vortex_zone_map.proofs.WorkedRows.Witnesses.{IsWitness, num, scope}
use Rattle.vortex_zone_map.specs.Zone.{Entries, IsZone, ZoneData}
use Rattle.vortex_zone_map.specs.ZoneMaps.{IsMapOf, MapData, zone_map}
use Rattle.vortex_prune.specs.declared.scan.verdict.Verdict.{Verdict}
use Rattle.vortex_prune.specs.declared.scan.verdict.Verdict.TheVariants.{Skipped, Tested}
use Rattle.vortex_rewrite.proofs.Soundness.TruthLogic.{refuted as not_so}
use Rattle.vortex_rewrite.proofs.Soundness.ValueTests.{eq_le, le_trans, value_le}
use Rattle.vortex_stats.specs.Sets.Claims.{count_value}
use Rattle.vortex_stats.specs.declared.precision.Precision.TheVariants.{Exact}
use Rattle.vortex_stats.specs.declared.stat.Stat.TheVariants.{Max, Min, NullCount}

-- ---- a zone of two rows without a least value, of which one is null, and one without a greatest value

abbrev zone_with : Entries → ZoneData
zone_with es = record { rows = 2; stats = es ∷ [] }

abbrev up_to_three : ZoneData
up_to_three = zone_with ((Max, Exact (num 3)) ∷ (NullCount, Exact (count_value 1)) ∷ [])

abbrev from_twenty : ZoneData
from_twenty = zone_with ((Min, Exact (num 20)) ∷ (NullCount, Exact (count_value 0)) ∷ [])

abbrev zones : List ZoneData
zones = up_to_three ∷ from_twenty ∷ []

abbrev their_map : MapData
their_map = zone_map scope zones

are_zones : (i : ℕ) (zone : ZoneData) → slice_get zones i ≡ Some zone → IsZone scope zone
are_zones zero zone there = subst (λ (z : ZoneData). IsZone scope z) (same_Some _ zone there) refl
are_zones (suc zero) zone there = subst (λ (z : ZoneData). IsZone scope z) (same_Some _ zone there) refl
are_zones (suc (suc i)) zone there = absurd cc

is_map : IsMapOf zones their_map
is_map = record { are_zones = are_zones; same = refl }

-- ---- of values up to 3 none is ten

abbrev equals_ten : Tree Place
equals_ten = binary Eq a (lit 10)

abbrev equals_ten_made : Pruning
equals_ten_made = record { predicate = equals_ten; falsifier = skip_proof [] None equals_ten; satisfier = whole_proof [] None equals_ten }

equals_ten_is_made : IsMadeBy [] None equals_ten_made
equals_ten_is_made = record { falsifier = refl; satisfier = refl }

equals_ten_form : HasRowsOf equals_ten (normal equals_ten)
unfolding all_of any_of comparison comparison_of folded settled
equals_ten_form = record { predicate = refl; same = λ row n r f small. refl; columns = λ test h. h; plain = λ h. refl }

equals_ten_true_of : (t : DType) (v : Option ScalarValue) (row : List Constant) (n : ℕ)
    → satisfies (strict_test true false equals_ten) (record { dtype = t; value = v } ∷ row) n ≡ passes true false (truth (meaning equals_ten (record { dtype = t; value = v } ∷ row) n))
unfolding all_of any_of comparison comparison_of folded settled
equals_ten_true_of t None row n = refl
equals_ten_true_of t (Some x) row n = if_so (holds Eq (value_cmp x (num 10)))

equals_ten_untrue_of : (t : DType) (v : Option ScalarValue) (row : List Constant) (n : ℕ)
    → satisfies (strict_test false true equals_ten) (record { dtype = t; value = v } ∷ row) n ≡ passes false true (truth (meaning equals_ten (record { dtype = t; value = v } ∷ row) n))
unfolding all_of any_of comparison comparison_of folded settled
equals_ten_untrue_of t None row n = refl
equals_ten_untrue_of t (Some x) row n = if_not_so (holds Eq (value_cmp x (num 10)))

equals_ten_true_test : IsTestOf true false equals_ten (strict_test true false equals_ten)
unfolding all_of any_of comparison comparison_of folded settled
equals_ten_true_test [] n r f small = refl
equals_ten_true_test (c ∷ row) n r f small = equals_ten_true_of c.dtype c.value row n

equals_ten_untrue_test : IsTestOf false true equals_ten (strict_test false true equals_ten)
unfolding all_of any_of comparison comparison_of folded settled
equals_ten_untrue_test [] n r f small = refl
equals_ten_untrue_test (c ∷ row) n r f small = equals_ten_untrue_of c.dtype c.value row n

equals_ten_true_form : IsTestForm true false equals_ten (strict_test true false equals_ten)
unfolding all_of any_of comparison comparison_of folded settled
equals_ten_true_form = record { predicate = refl; test = equals_ten_true_test; columns = λ test h. named_twice (test place_a) h; plain = λ h. refl }

equals_ten_untrue_form : IsTestForm false true equals_ten (strict_test false true equals_ten)
unfolding all_of any_of comparison comparison_of folded settled
equals_ten_untrue_form = record { predicate = refl; test = equals_ten_untrue_test; columns = λ test h. named_twice_behind (test place_a) h; plain = λ h. refl }

equals_ten_tests : HasTestForms None equals_ten
equals_ten_tests = record { true_form = λ _. equals_ten_true_form; untrue_form = λ _. equals_ten_untrue_form }

equals_ten_called : IsCall equals_ten_made their_map
equals_ten_called = (
  record {
    predicate = refl;
    plain = refl;
    form = equals_ten_form;
    falsifies = skip_right [] None equals_ten refl equals_ten_form (λ _. equals_ten_true_form);
    satisfies = whole_right [] None equals_ten refl equals_ten_form (λ _. equals_ten_untrue_form);
  },
  refl,
)

-- the low side is asked to be at most ten, and 2 is
abbrev low_side : NullBox
low_side = record { bounds = record { low = λ i. num 2; high = λ i. num 3 }; nulls = λ i. 1 }

low_side_known : IsNullBoxOf up_to_three equals_ten (narrow_test true false equals_ten) low_side
unfolding all_of any_of comparison comparison_of folded settled
low_side_known = record { rows = omega arith; known = (record { nulls = refl; low = λ _. refl; high = λ _. refl; order = λ _. refl }, tt); far = refl }

not_ten : (o : Option ScalarValue) → IsPossibleCell low_side 2 place_a o → is_true (truth_value (compared Eq o (Some (num 10)))) ≡ true → ⊥
not_ten None h equal = cc
not_ten (Some v) h equal =
    let no : value_le (num 10) (num 3) ≡ true = le_trans (num 10) v (num 3) (eq_le v (num 10) equal).1 (ap not_b h.below_high) in
    cc

prune_complete_with_nulls_by_one_bound : IsWitness
    (IsCall equals_ten_made their_map × IsMapOf zones their_map × IsMadeBy [] None equals_ten_made × HasTestForms None equals_ten × IsTrue (is_null_decided None true false equals_ten) × IsNullBoxOf up_to_three equals_ten (narrow_test true false equals_ten) low_side)
    (λ (vs : List Verdict). SkipsImpossible equals_ten zones (skipped_places vs)) (Tested ∷ Tested ∷ [])
unfolding all_of any_of comparison comparison_of folded settled
prune_complete_with_nulls_by_one_bound = record {
  met = (equals_ten_called, is_map, equals_ten_is_made, equals_ten_tests, refl, low_side_known);
  refuted = λ h. none_there 0 (h 0 up_to_three low_side refl low_side_known (λ x. not_ten (cell_value (slice_get x.0 0)) x.1.0 x.2));
}

-- ---- of values from 20 on each differs from ten

if_differs : (b : Bool) → is_true (truth_value (either (Some false) (truth (truth_value (both (Some b) (Some true)))))) ≡ passes false true (Some (not_b b))
if_differs true = refl
if_differs false = refl

abbrev differs_from_ten : Tree Place
differs_from_ten = binary NotEq a (lit 10)

abbrev differs_from_ten_made : Pruning
differs_from_ten_made = record { predicate = differs_from_ten; falsifier = skip_proof [] None differs_from_ten; satisfier = whole_proof [] None differs_from_ten }

differs_from_ten_is_made : IsMadeBy [] None differs_from_ten_made
differs_from_ten_is_made = record { falsifier = refl; satisfier = refl }

differs_from_ten_form : HasRowsOf differs_from_ten (normal differs_from_ten)
unfolding all_of any_of comparison comparison_of folded settled
differs_from_ten_form = record { predicate = refl; same = λ row n r f small. refl; columns = λ test h. h; plain = λ h. refl }

differs_from_ten_true_of : (t : DType) (v : Option ScalarValue) (row : List Constant) (n : ℕ)
    → satisfies (strict_test true false differs_from_ten) (record { dtype = t; value = v } ∷ row) n ≡ passes true false (truth (meaning differs_from_ten (record { dtype = t; value = v } ∷ row) n))
unfolding all_of any_of comparison comparison_of folded settled
differs_from_ten_true_of t None row n = refl
differs_from_ten_true_of t (Some x) row n = if_so (holds NotEq (value_cmp x (num 10)))

differs_from_ten_untrue_of : (t : DType) (v : Option ScalarValue) (row : List Constant) (n : ℕ)
    → satisfies (strict_test false true differs_from_ten) (record { dtype = t; value = v } ∷ row) n ≡ passes false true (truth (meaning differs_from_ten (record { dtype = t; value = v } ∷ row) n))
unfolding all_of any_of comparison comparison_of folded settled
differs_from_ten_untrue_of t None row n = refl
differs_from_ten_untrue_of t (Some x) row n = if_differs (holds Eq (value_cmp x (num 10)))

differs_from_ten_true_test : IsTestOf true false differs_from_ten (strict_test true false differs_from_ten)
unfolding all_of any_of comparison comparison_of folded settled
differs_from_ten_true_test [] n r f small = refl
differs_from_ten_true_test (c ∷ row) n r f small = differs_from_ten_true_of c.dtype c.value row n

differs_from_ten_untrue_test : IsTestOf false true differs_from_ten (strict_test false true differs_from_ten)
unfolding all_of any_of comparison comparison_of folded settled
differs_from_ten_untrue_test [] n r f small = refl
differs_from_ten_untrue_test (c ∷ row) n r f small = differs_from_ten_untrue_of c.dtype c.value row n

differs_from_ten_true_form : IsTestForm true false differs_from_ten (strict_test true false differs_from_ten)
unfolding all_of any_of comparison comparison_of folded settled
differs_from_ten_true_form = record { predicate = refl; test = differs_from_ten_true_test; columns = λ test h. named_twice (test place_a) h; plain = λ h. refl }

differs_from_ten_untrue_form : IsTestForm false true differs_from_ten (strict_test false true differs_from_ten)
unfolding all_of any_of comparison comparison_of folded settled
differs_from_ten_untrue_form = record { predicate = refl; test = differs_from_ten_untrue_test; columns = λ test h. named_twice_behind (test place_a) h; plain = λ h. refl }

differs_from_ten_tests : HasTestForms None differs_from_ten
differs_from_ten_tests = record { true_form = λ _. differs_from_ten_true_form; untrue_form = λ _. differs_from_ten_untrue_form }

differs_from_ten_called : IsCall differs_from_ten_made their_map
differs_from_ten_called = (
  record {
    predicate = refl;
    plain = refl;
    form = differs_from_ten_form;
    falsifies = skip_right [] None differs_from_ten refl differs_from_ten_form (λ _. differs_from_ten_true_form);
    satisfies = whole_right [] None differs_from_ten refl differs_from_ten_form (λ _. differs_from_ten_untrue_form);
  },
  refl,
)

-- the high side is asked to be at least ten, and 25 is
abbrev high_side : NullBox
high_side = record { bounds = record { low = λ i. num 20; high = λ i. num 25 }; nulls = λ i. 0 }

high_side_known : IsNullBoxOf from_twenty differs_from_ten (narrow_test false true differs_from_ten) high_side
unfolding all_of any_of comparison comparison_of folded settled
high_side_known = record { rows = omega arith; known = (record { nulls = refl; low = λ _. refl; high = λ _. refl; order = λ _. refl }, tt); far = refl }

never_ten : (v : ScalarValue) → value_le (num 20) v ≡ true → holds Eq (value_cmp v (num 10)) ≡ true → ⊥
never_ten v low equal = let no : value_le (num 20) (num 10) ≡ true = le_trans (num 20) v (num 10) low (eq_le v (num 10) equal).0 in cc

all_differ : (o : Option ScalarValue) → IsPossibleCell high_side 2 place_a o → is_true (truth_value (compared NotEq o (Some (num 10)))) ≡ true
all_differ None h = absurd (h refl)
all_differ (Some v) h = ap not_b (not_so (holds Eq (value_cmp v (num 10))) (never_ten v (ap not_b h.above_low)))

not_the_second : Contains first_place 1 → ⊥
not_the_second (zero, less, is) = cc
not_the_second (suc k, less, is) = absurd (omega (arith, less))

prune_complete_whole_by_one_bound : IsWitness
    (IsCall differs_from_ten_made their_map × IsMapOf zones their_map × IsMadeBy [] None differs_from_ten_made × HasTestForms None differs_from_ten × IsTrue (is_null_decided None false true differs_from_ten) × IsNullBoxOf from_twenty differs_from_ten (narrow_test false true differs_from_ten) high_side)
    (λ (vs : List Verdict). FindsCertain differs_from_ten zones (skipped_places vs) (whole_places vs)) (Skipped ∷ Tested ∷ [])
unfolding all_of any_of comparison comparison_of folded settled
prune_complete_whole_by_one_bound = record {
  met = (differs_from_ten_called, is_map, differs_from_ten_is_made, differs_from_ten_tests, refl, high_side_known);
  refuted = λ h. neither not_the_second (none_there 1) (h 1 from_twenty high_side refl high_side_known (λ row cells. all_differ (cell_value (slice_get row 0)) cells.0));
}
