-- Witnesses of the clauses of a predicate that was made with its proofs.
use Rattle.std.specs.Prelude.{◌≡◌, ◌&&◌, ℕ, zero, suc, Bool, Contains, false, true, not as not_b, IsTrue, List, [], ◌∷◌, Option, Some, None, Result, Ok, Err, refl, slice_get}
use Rattle.std.specs.Ordering.{is_gt}
use Rattle.std.proofs.Common.{◌∙◌, ap, arith, subst, sym}
use Rattle.vortex_base.specs.declared.dtype.DType.{DType}
use Rattle.vortex_base.specs.declared.dtype.DType.TheVariants as dtype
use Rattle.vortex_base.specs.declared.scalar_value.ScalarValue.{ScalarValue}
use Rattle.vortex_base.specs.Data.Columns.{ChunkData, IsChunk, cell_value}
use Rattle.vortex_base.specs.Data.Scalars.{Constant}
use Rattle.vortex_base.specs.Data.Values.{value_cmp}
use Rattle.vortex_base.specs.declared.types.Nullability.TheVariants.{Nullable}
use Rattle.vortex_expr.specs.Meanings.Fitting.{fits_scope}
use Rattle.vortex_expr.specs.Meanings.Meaning.{both, compared, either, is_true, meaning, satisfies, truth, truth_value}
use Rattle.vortex_expr.specs.Trees.Tree.{Tree, Place, is_plain, not}
use Rattle.vortex_expr.specs.declared.scalar_fn.Operator.TheVariants.{Gt}
use Rattle.vortex_normal.specs.Groups.{normal}
use Rattle.vortex_normal.specs.OneColumn.{IsJoining, IsSelective, are_ends_seen, is_over}
use Rattle.vortex_normal.specs.Pushed.{all_of, any_of, comparison, comparison_of, folded, settled}
use Rattle.vortex_normal.specs.Strict.{narrow_test, strict_test}
use Rattle.vortex_normal.specs.Tested.{IsTestOf, passes}
use Rattle.vortex_predicates.proofs.RightProofs.{skip_right, whole_right}
use Rattle.vortex_predicates.specs.Complete.{is_decided}
use Rattle.vortex_predicates.specs.NullBoxes.{FindsCertain, HasTestForms, IsCertain, IsNullBoxOf, IsPossible, IsPossibleCell, NullBox, SkipsImpossible, is_null_decided}
use Rattle.vortex_predicates.specs.Pruning.{Falsifies, FindsNoFewerWhole, HasRowsOf, IsMadeBy, IsRight, IsTestForm, Pruning, Satisfies, SkipsNoFewer, SkipsUnsatisfiable, is_test_within, is_within, making_causes, skip_proof, skipped_places, whole_places, whole_proof}
use Rattle.vortex_prune.proofs.Scanning.Boxes.{skipping_is_complete}
use Rattle.vortex_prune.proofs.WorkedRows.ShutRows.{neither}
use Rattle.vortex_prune.proofs.WorkedRows.Witnesses.Parts.{a, above_ten, high, high_is_in_its_zone, high_is_part, high_is_true, is_map, low, low_is_in_its_zone, low_is_part, low_is_true, their_map, zones}
use Rattle.vortex_zone_map.proofs.WorkedRows.Witnesses.{IsWitness, i64_type, num, scope}
use Rattle.vortex_prune.proofs.WorkedRows.Witnesses.Pruning.{answered_is_not_refused, built_in, open_is_not_memory, own_rules, shut}
use Rattle.vortex_prune.proofs.Honesty.HonestParts.{part_is_honest}
use Rattle.vortex_prune.specs.Binding.PartAnswers.{part_values}
use Rattle.vortex_prune.specs.Part.{zone_of}
use Rattle.vortex_prune.specs.Scanning.Selection.{proves_of}
use Rattle.vortex_prune.specs.Scanning.Complete.{IsBoxIn}
use Rattle.vortex_prune.specs.Scanning.ZoneScans.{AreRowVerdicts, IsSoundPruning, kept_zones, open_causes, zone_verdicts}
use Rattle.vortex_zone_map.specs.ZoneMaps.{IsMapOf, MapData}
use Rattle.vortex_prune.specs.declared.scan.verdict.Verdict.{Verdict}
use Rattle.vortex_prune.specs.declared.scan.verdict.Verdict.TheVariants.{Skipped, Whole, Tested}
use Rattle.vortex_rewrite.proofs.Soundness.TruthLogic.{refuted as not_so}
use Rattle.vortex_rewrite.proofs.Soundness.ValueTests.{holds_by_le, le_antisym, le_trans, value_le}
use Rattle.vortex_rewrite.specs.Answers.{IsMemory}
use Rattle.vortex_rewrite.specs.Causes.{IsRefusal, either_causes}
use Rattle.vortex_rewrite.specs.Facts.{IsHonest}
use Rattle.vortex_rewrite.specs.Rewriting.Falsifiers.{bool_literal, node, reduce_balanced}
use Rattle.vortex_rewrite.specs.Rewriting.Lawful.{IsOver, OwnRule, is_of_scope}
use Rattle.vortex_rewrite.specs.Rewriting.Predicates.{is_predicate}
use Rattle.vortex_rewrite.specs.Rewriting.ReadOnce.{Box, IsInOrder, IsSatisfiable, has_disjoint_ands}
use Rattle.vortex_rewrite.specs.Rewriting.RuleRefusals.{SomeAsked}
use Rattle.vortex_rewrite.specs.Rewriting.Visited.{visited}
use Rattle.vortex_stats.specs.declared.error.RuleFault.TheVariants.{Own}
use Rattle.vortex_stats.specs.declared.error.StatsError.{StatsError}
use Rattle.vortex_stats.specs.declared.error.StatsError.TheVariants.{NotPredicate, OpenProof, Rule}
use mathlib.Core.Bool.{true≢false}

abbrev pub place_a : Place
place_a = record { index = 0; dtype = i64_type }

-- ---- a predicate with its proofs by the built-in rules

abbrev pub made : Pruning
made = record { predicate = above_ten; falsifier = skip_proof [] None above_ten; satisfier = whole_proof [] None above_ten }

is_made : IsMadeBy [] None made
is_made = record { falsifier = refl; satisfier = refl }

-- ---- its proofs are right: its other forms are satisfied by the same rows

pub same_form : HasRowsOf above_ten (normal above_ten)
unfolding all_of any_of comparison comparison_of folded settled
same_form = record { predicate = refl; same = λ row n r f small. refl; columns = λ test h. h; plain = λ h. refl }

-- the only column is named twice
pub named_twice : (b : Bool) → IsTrue (b && true) → IsTrue ((b && true) && b)
named_twice true h = refl
named_twice false h = cc

pub named_twice_behind : (b : Bool) → IsTrue (b && true) → IsTrue (b && ((b && true) && b))
named_twice_behind true h = refl
named_twice_behind false h = cc

pub if_above : (b : Bool) → is_true (truth_value (both (Some b) (Some true))) ≡ passes true false (Some b)
if_above true = refl
if_above false = refl

pub if_not_above : (b : Bool) → is_true (truth_value (either (Some false) (truth (truth_value (both (Some (not_b b)) (Some true)))))) ≡ passes false true (Some b)
if_not_above true = refl
if_not_above false = refl

true_of : (t : DType) (v : Option ScalarValue) (row : List Constant) (n : ℕ)
    → satisfies (strict_test true false above_ten) (record { dtype = t; value = v } ∷ row) n ≡ passes true false (truth (meaning above_ten (record { dtype = t; value = v } ∷ row) n))
unfolding all_of any_of comparison comparison_of folded settled
true_of t None row n = refl
true_of t (Some x) row n = if_above (is_gt (value_cmp x (num 10)))

untrue_of : (t : DType) (v : Option ScalarValue) (row : List Constant) (n : ℕ)
    → satisfies (strict_test false true above_ten) (record { dtype = t; value = v } ∷ row) n ≡ passes false true (truth (meaning above_ten (record { dtype = t; value = v } ∷ row) n))
unfolding all_of any_of comparison comparison_of folded settled
untrue_of t None row n = refl
untrue_of t (Some x) row n = if_not_above (is_gt (value_cmp x (num 10)))

true_test : IsTestOf true false above_ten (strict_test true false above_ten)
unfolding all_of any_of comparison comparison_of folded settled
true_test [] n r f small = refl
true_test (c ∷ row) n r f small = true_of c.dtype c.value row n

untrue_test : IsTestOf false true above_ten (strict_test false true above_ten)
unfolding all_of any_of comparison comparison_of folded settled
untrue_test [] n r f small = refl
untrue_test (c ∷ row) n r f small = untrue_of c.dtype c.value row n

true_form : IsTestForm true false above_ten (strict_test true false above_ten)
unfolding all_of any_of comparison comparison_of folded settled
true_form = record { predicate = refl; test = true_test; columns = λ test h. named_twice (test place_a) h; plain = λ h. refl }

untrue_form : IsTestForm false true above_ten (strict_test false true above_ten)
unfolding all_of any_of comparison comparison_of folded settled
untrue_form = record { predicate = refl; test = untrue_test; columns = λ test h. named_twice_behind (test place_a) h; plain = λ h. refl }

pub is_right : IsRight made
is_right = record {
  predicate = refl;
  plain = refl;
  form = same_form;
  falsifies = skip_right [] None above_ten refl same_form (λ _. true_form);
  satisfies = whole_right [] None above_ten refl same_form (λ _. untrue_form);
}

selective : IsSelective place_a above_ten
selective = record { row = record { dtype = i64_type; value = Some (num 3) } ∷ []; value = num 3; cell = refl; of_type = refl; refused = refl; null_refused = refl }

joining : IsJoining true above_ten
joining = (place_a, refl, refl, selective)

-- ---- the first zone has to be skipped: its only value is 3

abbrev pub low_box : Box
low_box = record { low = λ i. num 3; high = λ i. num 3 }

pub low_box_known : IsBoxIn (zone_of low).stats above_ten low_box
low_box_known = ((refl, refl), tt)

pub low_box_ordered : IsInOrder above_ten low_box
low_box_ordered = (refl, tt)

abbrev bool_type : DType
bool_type = dtype.Bool Nullable

pub none_above : ¬ IsSatisfiable above_ten low_box 2
unfolding node reduce_balanced
none_above = (skipping_is_complete above_ten bool_type scope (zone_of low) low_box refl refl refl refl refl low_box_known low_box_ordered).0 refl

-- the same by the normal form
normal_box_known : IsBoxIn (zone_of low).stats (normal above_ten) low_box
unfolding all_of comparison comparison_of folded settled
normal_box_known = ((refl, refl), tt)

normal_box_ordered : IsInOrder (normal above_ten) low_box
unfolding all_of comparison comparison_of folded settled
normal_box_ordered = (refl, tt)

none_above_by_normal : ¬ IsSatisfiable (normal above_ten) low_box 2
unfolding node reduce_balanced all_of comparison comparison_of folded settled
none_above_by_normal = (skipping_is_complete (normal above_ten) bool_type scope (zone_of low) low_box refl refl refl refl refl normal_box_known normal_box_ordered).0 refl

-- verdicts that leave it out
abbrev left_out : List Verdict
left_out = Tested ∷ Tested ∷ Whole ∷ []

pub none_there : (i : ℕ) → Contains [] i → ⊥
none_there i (k, less, is) = absurd (omega (arith, less))

pub low_is_left_out : SkipsUnsatisfiable above_ten zones (skipped_places left_out) → ⊥
low_is_left_out h = none_there 0 (h 0 (zone_of low) low_box refl low_box_known low_box_ordered none_above)

low_is_left_out_by_normal : SkipsUnsatisfiable (normal above_ten) zones (skipped_places left_out) → ⊥
low_is_left_out_by_normal h = none_there 0 (h 0 (zone_of low) low_box refl normal_box_known normal_box_ordered none_above_by_normal)

-- ---- pruning by the proofs

-- the proofs are right, and the predicate fits the map's scope
abbrev pub IsCall : Pruning → MapData → Type 0
IsCall x m = IsRight x × IsTrue (fits_scope x.predicate m.scope)

called : IsCall made their_map
called = (is_right, refl)

tested_is_not_skipped : Tested ∷ Tested ∷ Whole ∷ [] ≡ Skipped ∷ Tested ∷ Whole ∷ [] → ⊥
tested_is_not_skipped h = cc

prune_verdicts : IsWitness (IsCall made their_map × IsMapOf zones their_map) (λ (vs : List Verdict). vs ≡ zone_verdicts made.falsifier made.satisfier their_map.scope zones) left_out
unfolding node reduce_balanced all_of any_of comparison comparison_of folded settled
prune_verdicts = record { met = (called, is_map); refuted = tested_is_not_skipped }

-- a zone with rows that satisfy is skipped
prune_sound : IsWitness (IsCall made their_map × IsMapOf zones their_map)
    (λ (vs : List Verdict). IsSoundPruning made.predicate their_map.scope zones (skipped_places vs) (whole_places vs)) (Tested ∷ Tested ∷ Skipped ∷ [])
prune_sound = record {
  met = (called, is_map);
  refuted = λ h. true≢false ((h 2 (zone_of high) high refl high_is_in_its_zone high_is_true).0 (0, omega arith, refl) 0 (omega arith));
}

-- a zone without rows that satisfy is whole
prune_sound_of_whole : IsWitness (IsCall made their_map × IsMapOf zones their_map)
    (λ (vs : List Verdict). IsSoundPruning made.predicate their_map.scope zones (skipped_places vs) (whole_places vs)) (Whole ∷ Tested ∷ Tested ∷ [])
prune_sound_of_whole = record {
  met = (called, is_map);
  refuted = λ h. shut ((h 0 (zone_of low) low refl low_is_in_its_zone low_is_true).1 (0, omega arith, refl) 0 (omega arith));
}

tested_is_skipped : Tested ≡ Skipped → ⊥
tested_is_skipped h = cc

-- the first row of the map's table skips its zone
prune_rows : IsWitness (IsCall made their_map × (slice_get their_map.rows 0 ≡ Some 2)) (λ (vs : List Verdict). AreRowVerdicts made.falsifier made.satisfier their_map vs) left_out
unfolding node reduce_balanced all_of any_of comparison comparison_of folded settled
prune_rows = record { met = (called, refl); refuted = λ h. tested_is_skipped (h 0 2 Tested refl refl) }

pub low_is_not_there : SkipsNoFewer [] above_ten scope zones (skipped_places left_out) → ⊥
unfolding node reduce_balanced
low_is_not_there h = none_there 0 (h 0 (zone_of low) refl (0, omega arith, refl))

prune_no_fewer_skipped : IsWitness (IsCall made their_map × IsMapOf zones their_map × IsMadeBy [] None made)
    (λ (vs : List Verdict). SkipsNoFewer [] made.predicate their_map.scope zones (skipped_places vs)) left_out
prune_no_fewer_skipped = record { met = (called, is_map, is_made); refuted = low_is_not_there }

-- the third zone is neither skipped nor whole
abbrev pub first_place : List ℕ
first_place = 0 ∷ []

pub not_the_third : Contains first_place 2 → ⊥
not_the_third (zero, less, is) = cc
not_the_third (suc k, less, is) = absurd (omega (arith, less))

pub high_is_not_there : FindsNoFewerWhole [] above_ten scope zones first_place [] → ⊥
unfolding node reduce_balanced
high_is_not_there h = neither not_the_third (none_there 2) (h 2 (zone_of high) refl (0, omega arith, refl))

prune_no_fewer_whole : IsWitness (IsCall made their_map × IsMapOf zones their_map × IsMadeBy [] None made)
    (λ (vs : List Verdict). FindsNoFewerWhole [] made.predicate their_map.scope zones (skipped_places vs) (whole_places vs)) (Skipped ∷ Tested ∷ Tested ∷ [])
prune_no_fewer_whole = record { met = (called, is_map, is_made); refuted = high_is_not_there }

prune_complete : IsWitness (IsCall made their_map × IsMapOf zones their_map × IsMadeBy [] None made × IsTrue (is_within None (normal made.predicate)) × IsTrue (has_disjoint_ands (normal made.predicate)))
    (λ (vs : List Verdict). SkipsUnsatisfiable (normal made.predicate) zones (skipped_places vs)) left_out
unfolding all_of comparison comparison_of folded settled
prune_complete = record { met = (called, is_map, is_made, refl, refl); refuted = low_is_left_out_by_normal }

prune_as_given : IsWitness (IsCall made their_map × IsMapOf zones their_map × IsMadeBy [] None made × IsTrue (is_within None (normal made.predicate)) × IsTrue (has_disjoint_ands (normal made.predicate)))
    (λ (vs : List Verdict). SkipsUnsatisfiable made.predicate zones (skipped_places vs)) left_out
unfolding all_of comparison comparison_of folded settled
prune_as_given = record { met = (called, is_map, is_made, refl, refl); refuted = low_is_left_out }

prune_one_column : IsWitness
    (IsCall made their_map × IsMapOf zones their_map × IsMadeBy [] None made × IsTrue (is_within None (normal made.predicate)) × IsTrue (is_over place_a made.predicate) × IsTrue (are_ends_seen place_a made.predicate) × IsSelective place_a made.predicate)
    (λ (vs : List Verdict). SkipsUnsatisfiable made.predicate zones (skipped_places vs)) left_out
prune_one_column = record { met = (called, is_map, is_made, refl, refl, refl, selective); refuted = low_is_left_out }

prune_joining : IsWitness (IsCall made their_map × IsMapOf zones their_map × IsMadeBy [] None made × IsTrue (is_within None (normal made.predicate)) × IsJoining true made.predicate)
    (λ (vs : List Verdict). SkipsUnsatisfiable made.predicate zones (skipped_places vs)) left_out
prune_joining = record { met = (called, is_map, is_made, refl, joining); refuted = low_is_left_out }

prune_complete_for : IsWitness (IsCall made their_map × IsMapOf zones their_map × IsMadeBy [] None made × IsTrue (is_decided None made.predicate)) (λ (vs : List Verdict). SkipsUnsatisfiable made.predicate zones (skipped_places vs)) left_out
prune_complete_for = record { met = (called, is_map, is_made, refl); refuted = low_is_left_out }

-- ---- by null counts: of 3 and null none is above ten, and of 20 and 30 each is

tests : HasTestForms None above_ten
tests = record { true_form = λ _. true_form; untrue_form = λ _. untrue_form }

abbrev low_nulls : NullBox
low_nulls = record { bounds = low_box; nulls = λ i. 1 }

low_nulls_known : IsNullBoxOf (zone_of low) above_ten (narrow_test true false above_ten) low_nulls
unfolding all_of any_of comparison comparison_of folded settled
low_nulls_known = record { rows = omega arith; known = (record { nulls = refl; low = λ _. refl; high = λ _. refl; order = λ _. refl }, tt); far = refl }

not_three : (o : Option ScalarValue) → IsPossibleCell low_nulls 2 place_a o → is_true (truth_value (compared Gt o (Some (num 10)))) ≡ true → ⊥
not_three None h above = cc
not_three (Some v) h above =
    let same : v ≡ num 3 = le_antisym v (num 3) (ap not_b h.below_high) (ap not_b h.above_low) in
    let no : is_gt (value_cmp (num 3) (num 10)) ≡ true = subst (λ (w : ScalarValue). is_gt (value_cmp w (num 10)) ≡ true) same above in
    cc

none_possible : ¬ IsPossible above_ten low_nulls 2
none_possible x = not_three (cell_value (slice_get x.0 0)) x.1.0 x.2

pub low_is_left_out_by_nulls : SkipsImpossible above_ten zones (skipped_places left_out) → ⊥
low_is_left_out_by_nulls h = none_there 0 (h 0 (zone_of low) low_nulls refl low_nulls_known none_possible)

prune_complete_with_nulls : IsWitness (IsCall made their_map × IsMapOf zones their_map × IsMadeBy [] None made × HasTestForms None made.predicate × IsTrue (is_null_decided None true false made.predicate))
    (λ (vs : List Verdict). SkipsImpossible made.predicate zones (skipped_places vs)) left_out
unfolding all_of any_of comparison comparison_of folded settled
prune_complete_with_nulls = record { met = (called, is_map, is_made, tests, refl); refuted = low_is_left_out_by_nulls }

abbrev high_nulls : NullBox
high_nulls = record { bounds = record { low = λ i. num 20; high = λ i. num 30 }; nulls = λ i. 0 }

high_nulls_known : IsNullBoxOf (zone_of high) above_ten (narrow_test false true above_ten) high_nulls
unfolding all_of any_of comparison comparison_of folded settled
high_nulls_known = record { rows = omega arith; known = (record { nulls = refl; low = λ _. refl; high = λ _. refl; order = λ _. refl }, tt); far = refl }

from_twenty : (o : Option ScalarValue) → IsPossibleCell high_nulls 2 place_a o → is_true (truth_value (compared Gt o (Some (num 10)))) ≡ true
from_twenty None h = absurd (h refl)
from_twenty (Some v) h =
    holds_by_le Gt v (num 10)
    ∙ ap not_b (not_so (value_le v (num 10)) (λ below. let no : value_le (num 20) (num 10) ≡ true = le_trans (num 20) v (num 10) (ap not_b h.above_low) below in cc))

all_certain : IsCertain above_ten high_nulls 2
all_certain row cells = from_twenty (cell_value (slice_get row 0)) cells.0

pub high_is_not_found : FindsCertain above_ten zones first_place [] → ⊥
high_is_not_found h = neither not_the_third (none_there 2) (h 2 (zone_of high) high_nulls refl high_nulls_known all_certain)

prune_complete_whole : IsWitness (IsCall made their_map × IsMapOf zones their_map × IsMadeBy [] None made × HasTestForms None made.predicate × IsTrue (is_null_decided None false true made.predicate))
    (λ (vs : List Verdict). FindsCertain made.predicate zones (skipped_places vs) (whole_places vs)) (Skipped ∷ Tested ∷ Tested ∷ [])
unfolding all_of any_of comparison comparison_of folded settled
prune_complete_whole = record { met = (called, is_map, is_made, tests, refl); refuted = high_is_not_found }

prune_memory : IsWitness (IsCall made their_map × IsMapOf zones their_map × IsMadeBy [] None made) (λ (e : StatsError). IsMemory e) OpenProof
prune_memory = record { met = (called, is_map, is_made); refuted = open_is_not_memory }

prune_refusal : IsWitness (IsCall made their_map × IsMapOf zones their_map)
    (λ (e : StatsError). IsRefusal (either_causes (open_causes made.falsifier their_map.rows) (open_causes made.satisfier (kept_zones made.falsifier their_map.scope zones))) e) OpenProof
unfolding node reduce_balanced all_of any_of comparison comparison_of folded settled
prune_refusal = record { met = (called, is_map); refuted = λ h. neither shut shut h }

-- ---- making it

try_new_not_predicate : IsWitness (IsTrue (is_plain a) × (is_predicate a ≡ false)) (λ (answer : Result Pruning StatsError). answer ≡ Err NotPredicate) (Ok made)
try_new_not_predicate = record { met = (refl, refl); refuted = λ h. answered_is_not_refused made NotPredicate h }

try_new_memory : IsWitness (IsTrue (is_plain above_ten) × IsTrue (is_predicate above_ten) × (built_in ≡ [])) (λ (e : StatsError). IsMemory e) OpenProof
try_new_memory = record { met = (refl, refl, refl); refuted = open_is_not_memory }

-- a column of numbers is no form of a test
number_is_no_form : (wanted with_null : Bool) → IsTestForm wanted with_null above_ten a → ⊥
number_is_no_form wanted with_null h = shut h.predicate

try_new_true_form : IsWitness (IsTrue (is_plain above_ten) × IsTrue (is_test_within None true false above_ten)) (λ (form : Tree Place). IsTestForm true false above_ten form) a
try_new_true_form = record { met = (refl, refl); refuted = number_is_no_form true false }

try_new_untrue_form : IsWitness (IsTrue (is_plain above_ten) × IsTrue (is_test_within None false true above_ten)) (λ (form : Tree Place). IsTestForm false true above_ten form) a
try_new_untrue_form = record { met = (refl, refl); refuted = number_is_no_form false true }

-- one that is always true is a proof of a part of which the right one isn't
abbrev always : Option (Tree Place)
always = Some (bool_literal true)

of_scope : (k : ChunkData) → IsTrue (is_of_scope above_ten k.scope) → IsOver above_ten k
of_scope k h = record { typed = refl; over = h }

try_new_falsifies : IsWitness (IsChunk low.chunk × IsOver above_ten low.chunk × IsHonest (part_values low) low.chunk.columns × IsTrue (proves_of made.falsifier 2 (part_values low)))
    (λ (proof : Option (Tree Place)). Falsifies proof above_ten) always
unfolding node reduce_balanced all_of any_of comparison comparison_of folded settled
try_new_falsifies = record {
  met = (refl, of_scope low.chunk refl, part_is_honest low low_is_part low_is_true, refl);
  refuted = λ h. true≢false (h high.chunk (part_values high) refl (of_scope high.chunk refl) (part_is_honest high high_is_part high_is_true) refl 0 (omega arith));
}

try_new_satisfies : IsWitness (IsChunk high.chunk × IsOver above_ten high.chunk × IsHonest (part_values high) high.chunk.columns × IsTrue (proves_of made.satisfier 2 (part_values high)))
    (λ (proof : Option (Tree Place)). Satisfies proof above_ten) always
unfolding node reduce_balanced all_of any_of comparison comparison_of folded settled
try_new_satisfies = record {
  met = (refl, of_scope high.chunk refl, part_is_honest high high_is_part high_is_true, refl);
  refuted = λ h. shut (h low.chunk (part_values low) refl (of_scope low.chunk refl) (part_is_honest low low_is_part low_is_true) refl 0 (omega arith));
}

-- the rule of the user is asked at a NOT, and doesn't name the fault 3
abbrev not_above : Tree Place
not_above = not above_ten

abbrev Names : Tree Place → OwnRule → Type 0
Names p rule = IsTrue (rule.can_fault 3)

none_names : (nodes : List (Tree Place)) → SomeAsked Names own_rules nodes → ⊥
none_names nodes (p, rule, at, (zero, less, is), fits, named) = shut (subst (λ (r : OwnRule). IsTrue (r.can_fault 3)) (sym is) named)
none_names nodes (p, rule, at, (suc k, less, is), fits, named) = absurd (omega (arith, less))

try_new_refusal : IsWitness (IsTrue (is_plain not_above) × IsTrue (is_predicate not_above)) (λ (e : StatsError). IsRefusal (making_causes own_rules not_above) e) (Rule (Own 3))
try_new_refusal = record {
  met = (refl, refl);
  refuted = λ h. neither
      (λ f. neither (none_names (visited not_above)) (λ g. neither (none_names (visited (normal not_above))) (none_names (visited (strict_test true false not_above))) g) f)
      (λ s. neither (none_names (visited not_above)) (λ t. neither (none_names (visited (normal not_above))) (none_names (visited (strict_test false true not_above))) t) s) h;
}

-- ---- making it of forms that have no more than so many levels: its premises are the same

try_new_within_not_predicate : IsWitness (IsTrue (is_plain a) × (is_predicate a ≡ false)) (λ (answer : Result Pruning StatsError). answer ≡ Err NotPredicate) (Ok made)
try_new_within_not_predicate = try_new_not_predicate

try_new_within_memory : IsWitness (IsTrue (is_plain above_ten) × IsTrue (is_predicate above_ten) × (built_in ≡ [])) (λ (e : StatsError). IsMemory e) OpenProof
try_new_within_memory = try_new_memory

try_new_within_refusal : IsWitness (IsTrue (is_plain not_above) × IsTrue (is_predicate not_above)) (λ (e : StatsError). IsRefusal (making_causes own_rules not_above) e) (Rule (Own 3))
try_new_within_refusal = try_new_refusal

try_new_within_true_form : IsWitness (IsTrue (is_plain above_ten) × IsTrue (is_test_within (Some 2) true false above_ten)) (λ (form : Tree Place). IsTestForm true false above_ten form) a
unfolding all_of any_of comparison comparison_of folded settled
try_new_within_true_form = record { met = (refl, refl); refuted = number_is_no_form true false }

try_new_within_untrue_form : IsWitness (IsTrue (is_plain above_ten) × IsTrue (is_test_within (Some 4) false true above_ten)) (λ (form : Tree Place). IsTestForm false true above_ten form) a
unfolding all_of any_of comparison comparison_of folded settled
try_new_within_untrue_form = record { met = (refl, refl); refuted = number_is_no_form false true }

try_new_within_falsifies : IsWitness (IsChunk low.chunk × IsOver above_ten low.chunk × IsHonest (part_values low) low.chunk.columns × IsTrue (proves_of made.falsifier 2 (part_values low)))
    (λ (proof : Option (Tree Place)). Falsifies proof above_ten) always
try_new_within_falsifies = try_new_falsifies

try_new_within_satisfies : IsWitness (IsChunk high.chunk × IsOver above_ten high.chunk × IsHonest (part_values high) high.chunk.columns × IsTrue (proves_of made.satisfier 2 (part_values high)))
    (λ (proof : Option (Tree Place)). Satisfies proof above_ten) always
try_new_within_satisfies = try_new_satisfies

-- ---- whether pruning by it is complete

is_complete_for_not_predicate : IsWitness (is_predicate a ≡ false) (λ (answer : Result Bool StatsError). answer ≡ Err NotPredicate) (Ok true)
is_complete_for_not_predicate = record { met = refl; refuted = λ h. answered_is_not_refused true NotPredicate h }

is_complete_for_memory : IsWitness (IsTrue (is_predicate above_ten)) (λ (e : StatsError). IsMemory e) OpenProof
is_complete_for_memory = record { met = refl; refuted = open_is_not_memory }

is_complete_with_nulls_not_predicate : IsWitness (is_predicate a ≡ false) (λ (answer : Result Bool StatsError). answer ≡ Err NotPredicate) (Ok true)
is_complete_with_nulls_not_predicate = is_complete_for_not_predicate

is_complete_with_nulls_memory : IsWitness (IsTrue (is_predicate above_ten)) (λ (e : StatsError). IsMemory e) OpenProof
is_complete_with_nulls_memory = is_complete_for_memory

is_whole_complete_for_not_predicate : IsWitness (is_predicate a ≡ false) (λ (answer : Result Bool StatsError). answer ≡ Err NotPredicate) (Ok true)
is_whole_complete_for_not_predicate = is_complete_for_not_predicate

is_whole_complete_for_memory : IsWitness (IsTrue (is_predicate above_ten)) (λ (e : StatsError). IsMemory e) OpenProof
is_whole_complete_for_memory = is_complete_for_memory
