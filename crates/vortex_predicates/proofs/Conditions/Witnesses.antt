-- Witnesses of the clauses of pruning by a condition.
use Rattle.std.specs.Prelude.{◌≡◌, ◌++◌, Bool, false, true, codes, pos, IsTrue, List, [], ◌∷◌, Option, Some, None, refl, slice_get}
use Rattle.std.proofs.Common.{arith}
use Rattle.vortex_base.specs.Data.Scopes.{IsScope}
use Rattle.vortex_expr.specs.Meanings.Fitting.{fits_scope}
use Rattle.vortex_expr.specs.Trees.Tree.{Place, Tree}
use Rattle.vortex_normal.specs.Pushed.{all_of, any_of, comparison, comparison_of, folded, settled}
use Rattle.vortex_predicates.proofs.Conditions.Parts.{tell}
use Rattle.vortex_predicates.proofs.PredicateWitnesses.{is_right, made}
use Rattle.vortex_predicates.specs.Pruning.{IsRight, Pruning, skipped_places, whole_places}
use Rattle.vortex_prune.proofs.WorkedRows.Witnesses.Parts.{a, high, high_is_in_its_zone, high_is_true, is_map, low, low_is_in_its_zone, low_is_true, their_map, zones}
use Rattle.vortex_zone_map.proofs.WorkedRows.Witnesses.{IsWitness, scope}
use Rattle.vortex_prune.proofs.WorkedRows.Witnesses.Pruning.{built_in, open_is_not_memory}
use Rattle.vortex_prune.specs.Binding.PartAnswers.{told_values}
use Rattle.vortex_prune.specs.Part.{IsPartOf, IsTruePart, zone_of}
use Rattle.vortex_prune.specs.Scanning.Selection.{proves_of}
use Rattle.vortex_prune.specs.Scanning.ZoneScans.{AreRowVerdicts, zone_verdicts}
use Rattle.vortex_zone_map.specs.ZoneMaps.{IsMapOf, MapData}
use Rattle.vortex_prune.specs.declared.scan.verdict.Verdict.{Verdict}
use Rattle.vortex_prune.specs.declared.scan.verdict.Verdict.TheVariants.{Skipped, Tested, Whole}
use Rattle.vortex_rewrite.specs.Answers.{IsMemory}
use Rattle.vortex_rewrite.specs.Rewriting.Falsifiers.{bool_literal, node, reduce_balanced}
use Rattle.vortex_rewrite.specs.Rewriting.Proof.{is_open}
use Rattle.vortex_sql.proofs.Refuting.{confirms as condition_confirmed, refutes as condition_refuted}
use Rattle.vortex_sql.proofs.Saying.{lowered_says}
use Rattle.vortex_sql.specs.Lowering.{Says, opaques}
use Rattle.vortex_sql.specs.Schemas.{SchemaData, plain_schema}
use Rattle.vortex_predicates.specs.Conditions.Conditions.{AreColumnsOf, AreProofsOf, Confirms, IsSoundFor, ProvedCondition, Refutes}
use Rattle.vortex_predicates.specs.Conditions.Refusals.{IsOfTextOrMemory}
use Rattle.vortex_predicates.specs.declared.sql.error.ConditionError.{ConditionError}
use Rattle.vortex_predicates.specs.declared.sql.error.ConditionError.TheVariants.{Stats}
use Rattle.vortex_logical.specs.declared.comparison.Comparison.TheVariants.{Gt}
use Rattle.vortex_sql.specs.declared.syntax.tree.Condition.{Condition}
use Rattle.vortex_sql.specs.declared.syntax.tree.Condition.TheVariants.{Leaf as Leaf'}
use Rattle.vortex_logical.specs.declared.logical_type.ExactKind.TheVariants.{Number}
use Rattle.vortex_sql.specs.declared.syntax.tree.Operand.TheVariants.{Column, Exact}
use Rattle.vortex_sql.specs.declared.syntax.tree.Test.TheVariants as test
use Rattle.vortex_stats.specs.declared.error.StatsError.{StatsError}
use Rattle.vortex_stats.specs.declared.error.StatsError.TheVariants.{OpenProof}
use mathlib.Core.Bool.{true≢false}

abbrev schema : SchemaData
schema = plain_schema scope

-- a > 10
abbrev above_ten : Condition
above_ten = Leaf' (record { test = test.Compare Gt (Column (codes "a")) (Exact (record { kind = Number; top = pos 10; scale = 0 })); start = 0; end = 6 })

-- with its proofs by the built-in rules
abbrev proved : ProvedCondition
proved = record { scope = scope; cells = []; condition = above_ten; predicate = made.predicate; falsifier = made.falsifier; satisfier = made.satisfier }

says : Says schema above_ten made.predicate
says row f n of = lowered_says schema above_ten 1 refl row f n of

proofs_tell : Refutes schema above_ten made.falsifier × Confirms schema above_ten made.satisfier
proofs_tell = tell condition_refuted condition_confirmed schema [] above_ten made refl says refl refl is_right

are_proofs : AreProofsOf proved
are_proofs = record { says = says; refutes = proofs_tell.0; confirms = proofs_tell.1 }

-- the map is of the condition's scope
abbrev IsCall : ProvedCondition → MapData → Type 0
IsCall x m = AreProofsOf x × (m.scope ≡ x.scope)

called : IsCall proved their_map
called = (are_proofs, refl)

other_verdicts : Tested ∷ Tested ∷ Whole ∷ [] ≡ Skipped ∷ Tested ∷ Whole ∷ [] → ⊥
other_verdicts h = cc

prune_verdicts : IsWitness (IsCall proved their_map × IsMapOf zones their_map) (λ (vs : List Verdict). vs ≡ zone_verdicts proved.falsifier proved.satisfier their_map.scope zones)
    (Tested ∷ Tested ∷ Whole ∷ [])
unfolding node reduce_balanced all_of any_of comparison comparison_of folded settled
prune_verdicts = record { met = (called, is_map); refuted = other_verdicts }

tested_is_skipped : Tested ≡ Skipped → ⊥
tested_is_skipped h = cc

-- the first row of the map's table skips its zone
prune_rows : IsWitness (IsCall proved their_map × (slice_get their_map.rows 0 ≡ Some 2)) (λ (vs : List Verdict). AreRowVerdicts proved.falsifier proved.satisfier their_map vs)
    (Tested ∷ Tested ∷ Whole ∷ [])
unfolding node reduce_balanced all_of any_of comparison comparison_of folded settled
prune_rows = record { met = (called, refl); refuted = λ h. tested_is_skipped (h 0 2 Tested refl refl) }

-- a zone with rows that satisfy is skipped
prune_sound : IsWitness (IsCall proved their_map × IsMapOf zones their_map)
    (λ (vs : List Verdict). IsSoundFor schema proved.condition zones (skipped_places vs) (whole_places vs)) (Tested ∷ Tested ∷ Skipped ∷ [])
prune_sound = record {
  met = (called, is_map);
  refuted = λ h. (h 2 (zone_of high) high refl high_is_in_its_zone high_is_true).0 (0, omega arith, refl) 0 (omega arith) (λ l. None) refl;
}

false_is_not_true : ◌≡◌ {A = Option Bool} (Some false) (Some true) → ⊥
false_is_not_true h = cc

-- a zone without rows that satisfy is whole
prune_sound_of_whole : IsWitness (IsCall proved their_map × IsMapOf zones their_map)
    (λ (vs : List Verdict). IsSoundFor schema proved.condition zones (skipped_places vs) (whole_places vs)) (Whole ∷ Tested ∷ Tested ∷ [])
prune_sound_of_whole = record {
  met = (called, is_map);
  refuted = λ h. false_is_not_true ((h 0 (zone_of low) low refl low_is_in_its_zone low_is_true).1 (0, omega arith, refl) 0 (omega arith) (λ l. None));
}

prune_memory : IsWitness (IsCall proved their_map × (is_open proved.falsifier ≡ false) × (is_open proved.satisfier ≡ false)) (λ (e : StatsError). IsMemory e) OpenProof
unfolding node reduce_balanced all_of any_of comparison comparison_of folded settled
prune_memory = record { met = (called, refl, refl); refuted = open_is_not_memory }

-- ---- making it

open_is_not_closed : is_open (Some a) ≡ false → ⊥
open_is_not_closed h = true≢false h

-- a column stands outside placeholders
try_new_closed : IsWitness (built_in ≡ []) (λ (x : ProvedCondition). (is_open x.falsifier ≡ false) × (is_open x.satisfier ≡ false))
    (record proved { falsifier = Some a })
try_new_closed = record { met = refl; refuted = λ h. open_is_not_closed h.0 }

try_new_memory : IsWitness (built_in ≡ []) (λ (e : ConditionError). IsOfTextOrMemory e) (Stats OpenProof)
try_new_memory = record { met = refl; refuted = open_is_not_memory }

-- so of a condition that was read before
of_condition_closed : IsWitness (built_in ≡ []) (λ (x : ProvedCondition). (is_open x.falsifier ≡ false) × (is_open x.satisfier ≡ false))
    (record proved { falsifier = Some a })
of_condition_closed = try_new_closed

of_condition_memory : IsWitness (built_in ≡ []) (λ (e : ConditionError). IsOfTextOrMemory e) (Stats OpenProof)
of_condition_memory = try_new_memory

-- ---- what proofs tell: one that is always true tells what isn't so of a zone of which the right one isn't

abbrev always : Option (Tree Place)
always = Some (bool_literal true)

always_refutes_too_much : Refutes schema above_ten always → ⊥
always_refutes_too_much h = h (zone_of high) high high_is_in_its_zone high_is_true refl 0 (omega arith) (λ l. None) refl

always_confirms_too_much : Confirms schema above_ten always → ⊥
always_confirms_too_much h = false_is_not_true (h (zone_of low) low low_is_in_its_zone low_is_true refl 0 (omega arith) (λ l. None))

try_new_refutes : IsWitness (IsPartOf scope (zone_of low) low × IsTruePart low × (proves_of proved.falsifier (zone_of low).rows (told_values scope (zone_of low)) ≡ true))
    (λ (proof : Option (Tree Place)). Refutes schema proved.condition proof) always
unfolding node reduce_balanced all_of any_of comparison comparison_of folded settled
try_new_refutes = record { met = (low_is_in_its_zone, low_is_true, refl); refuted = always_refutes_too_much }

try_new_confirms : IsWitness (IsPartOf scope (zone_of high) high × IsTruePart high × (proves_of proved.satisfier (zone_of high).rows (told_values scope (zone_of high)) ≡ true))
    (λ (proof : Option (Tree Place)). Confirms schema proved.condition proof) always
unfolding node reduce_balanced all_of any_of comparison comparison_of folded settled
try_new_confirms = record { met = (high_is_in_its_zone, high_is_true, refl); refuted = always_confirms_too_much }

of_condition_refutes : IsWitness (IsPartOf scope (zone_of low) low × IsTruePart low × (proves_of proved.falsifier (zone_of low).rows (told_values scope (zone_of low)) ≡ true))
    (λ (proof : Option (Tree Place)). Refutes schema proved.condition proof) always
of_condition_refutes = try_new_refutes

of_condition_confirms : IsWitness (IsPartOf scope (zone_of high) high × IsTruePart high × (proves_of proved.satisfier (zone_of high).rows (told_values scope (zone_of high)) ≡ true))
    (λ (proof : Option (Tree Place)). Confirms schema proved.condition proof) always
of_condition_confirms = try_new_confirms

-- the premises of the law
abbrev AreRight : Pruning → Type 0
AreRight x = IsScope (scope ++ []) × Says schema above_ten x.predicate × AreColumnsOf [] (opaques schema above_ten) × IsTrue (fits_scope x.predicate (scope ++ [])) × IsRight x

are_right : AreRight made
are_right = (refl, says, refl, refl, is_right)

proofs_tell_of_conditions : IsWitness (AreRight made) (λ (x : Pruning). Refutes schema above_ten x.falsifier × Confirms schema above_ten x.satisfier) (record made { falsifier = always })
proofs_tell_of_conditions = record { met = are_right; refuted = λ h. always_refutes_too_much h.0 }

proofs_tell_of_whole : IsWitness (AreRight made) (λ (x : Pruning). Refutes schema above_ten x.falsifier × Confirms schema above_ten x.satisfier) (record made { satisfier = always })
proofs_tell_of_whole = record { met = are_right; refuted = λ h. always_confirms_too_much h.1 }
