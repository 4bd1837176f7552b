-- Witnesses of the laws whose premises stand in their definitions.
use Rattle.std.specs.Prelude.{◌≡◌, ◌↔◌, ◌++◌, ℕ, Bool, false, true, codes, IsTrue, List, [], ◌∷◌, Result, Ok, None, Some, length, refl, slice_get}
use Rattle.std.proofs.Common.{ap, arith}
use Rattle.vortex_base.specs.declared.aggregate.AggregateFnRef.TheVariants as aggregate
use Rattle.vortex_base.specs.declared.dtype.DType.{DType}
use Rattle.vortex_base.specs.declared.dtype.DType.TheVariants as dtype
use Rattle.vortex_base.specs.declared.error.BaseError.{BaseError}
use Rattle.vortex_base.specs.declared.types.Nullability.TheVariants.{NonNullable}
use Rattle.vortex_base.specs.declared.types.PType.TheVariants as ptype
use Rattle.vortex_base.specs.Data.Columns.{ChunkData, ColumnData, IsChunk}
use Rattle.vortex_base.specs.Data.Scalars.{null_of}
use Rattle.vortex_base.specs.Data.Types.{as_nullable}
use Rattle.vortex_expr.specs.Meanings.Fitting.{fits_scope}
use Rattle.vortex_expr.specs.Meanings.Typing.{is_bool, truth_type, type_of}
use Rattle.vortex_expr.specs.Meanings.Meaning.{meaning}
use Rattle.vortex_expr.specs.Trees.Tree.{Place, Tree, literal}
use Rattle.vortex_prune.proofs.WorkedRows.PremiseRows.{last_untrue}
use Rattle.vortex_prune.proofs.WorkedRows.Witnesses.Binders.{five_is_above}
use Rattle.vortex_prune.proofs.WorkedRows.Witnesses.Parts.{a, above_ten, high, high_is_true, is_map, low, low_is_in_its_zone, low_is_part, low_is_true, mixed, their_map, values_of, zones}
use Rattle.vortex_zone_map.proofs.WorkedRows.Witnesses.{IsWitness, i64_type, num, scope}
use Rattle.vortex_prune.proofs.WorkedRows.Witnesses.Pruning.{mixed_box, mixed_box_known, mixed_box_ordered, thirty_satisfies}
use Rattle.vortex_prune.proofs.WorkedRows.Witnesses.Ranges.{eight_rows, six_rows}
use Rattle.vortex_prune.specs.Binding.Binders.{IsAnswerOf}
use Rattle.vortex_prune.specs.Binding.PartAnswers.{part_values}
use Rattle.vortex_zone_map.specs.Choosing.{chosen}
use Rattle.vortex_prune.specs.Part.{AreTrueSets, IsPart, IsPartOf, IsTruePart, PartData, zone_of}
use Rattle.vortex_zone_map.specs.Zone.{Entries, IsZone}
use Rattle.vortex_prune.specs.Scanning.Complete.{IsBoxIn}
use Rattle.vortex_prune.specs.Scanning.RangeScans.{AreRanges, AreRangesBehind, has_ranges, has_ranges_from}
use Rattle.vortex_prune.specs.Scanning.TrueRows.{IsTrueRow}
use Rattle.vortex_prune.specs.Zones.{zones_of}
use Rattle.vortex_zone_map.specs.ZoneMaps.{IsMapOf, head}
use Rattle.vortex_rewrite.specs.Facts.{IsHonest}
use Rattle.vortex_rewrite.specs.Rewriting.Falsifiers.{bool_literal}
use Rattle.vortex_rewrite.specs.Rewriting.Proof.{Assignment}
use Rattle.vortex_rewrite.specs.Rewriting.ReadOnce.{IsInOrder, IsSatisfiable, has_disjoint_ands}
use mathlib.Core.Bool.{true≢false}

-- by the sets of another part 5 would be the least value, and 3 is there
pub statistics_are_honest : IsWitness (IsPart low × IsTruePart low) (λ (A : Assignment). IsHonest A low.chunk.columns) (part_values mixed)
statistics_are_honest = record { met = (low_is_part, low_is_true); refuted = λ h. five_is_above (h.facts aggregate.Min a) }

abbrev typed : DType → Result DType BaseError
typed t = Ok t

-- a falsifier that is true of the second zone, though 30 lies within its bounds
pub falsifiers_are_complete : IsWitness
    ((type_of above_ten ≡ typed (truth_type true)) × IsTrue (is_bool (truth_type true)) × IsZone scope (zone_of mixed) × IsTrue (fits_scope above_ten scope) × IsTrue (has_disjoint_ands above_ten)
    × IsBoxIn (zone_of mixed).stats above_ten mixed_box × IsInOrder above_ten mixed_box)
    (λ (is_true : Bool). IsTrue is_true ↔ ¬ IsSatisfiable above_ten mixed_box 2) true
falsifiers_are_complete = record { met = (refl, refl, refl, refl, refl, mixed_box_known, mixed_box_ordered); refuted = λ h. absurd (h.0 refl thirty_satisfies) }

-- the set of another column stands beside the one that is chosen
abbrev both_columns : List ColumnData
both_columns = low.chunk.columns ++ high.chunk.columns

abbrev both_sets : List Entries
both_sets = low.stats ++ high.stats

pub chosen_sets_stay_true : IsWitness (AreTrueSets both_columns both_sets) (λ (sets : List Entries). AreTrueSets (chosen (0 ∷ 1 ∷ []) both_columns) sets) (chosen (0 ∷ 0 ∷ []) both_sets)
chosen_sets_stay_true = record { met = (low_is_true.0, (high_is_true.0, tt)); refuted = last_untrue }

-- the last zone stands in no part
abbrev without_last : List PartData
without_last = low ∷ mixed ∷ []

not_all_zones : zones_of without_last ≡ zones → ⊥
not_all_zones h = let fewer : ◌≡◌ {A = ℕ} 2 3 = ap length h in absurd (omega arith)

pub ranges_are_there : IsWitness (IsChunk six_rows × IsMapOf zones their_map × IsTrue (has_ranges six_rows their_map)) (λ (there : List PartData). AreRanges six_rows their_map there × (zones_of there ≡ zones)) without_last
ranges_are_there = record { met = (refl, is_map, refl); refuted = λ h. not_all_zones h.1 }

pub ranges_behind_are_there : IsWitness (IsChunk eight_rows × IsMapOf zones their_map × IsTrue (has_ranges_from eight_rows 1 their_map))
    (λ (there : List PartData). AreRangesBehind eight_rows 1 their_map there × (zones_of there ≡ zones)) without_last
ranges_behind_are_there = record { met = (refl, is_map, refl); refuted = λ h. not_all_zones h.1 }

truth_is_no_number : as_nullable (truth_type false) ≡ as_nullable i64_type → ⊥
truth_is_no_number h = absurd cc

-- a truth is no answer where a number is asked for
pub literals_are_answers : IsWitness (as_nullable (dtype.Primitive ptype.I64 NonNullable) ≡ as_nullable i64_type) (λ (answer : Tree Place). IsAnswerOf i64_type [] answer) (bool_literal true)
literals_are_answers = record { met = refl; refuted = λ h. truth_is_no_number (h.typed (truth_type false) refl) }

null_is_no_number : as_nullable (truth_type true) ≡ as_nullable i64_type → ⊥
null_is_no_number h = absurd cc

-- nor a null of its type
pub nulls_are_answers : IsWitness (type_of (literal (null_of (as_nullable i64_type))) ≡ typed (as_nullable i64_type)) (λ (answer : Tree Place). IsAnswerOf i64_type [] answer × (meaning answer [] 2 ≡ None))
    (literal (null_of (truth_type true)))
nulls_are_answers = record { met = refl; refuted = λ h. null_is_no_number (h.0.typed (truth_type true) refl) }

-- the greatest value of the first zone is 3, and 30 is among the rows of the third
pub zones_have_true_rows : IsWitness (IsMapOf zones their_map × (slice_get zones 0 ≡ Some (zone_of low)) × IsPartOf scope (zone_of low) low × IsTruePart low)
    (λ (rows : ChunkData). IsTrueRow their_map 0 rows) high.chunk
zones_have_true_rows = record {
  met = (is_map, refl, low_is_in_its_zone, low_is_true);
  refuted = λ h. true≢false (h.facts 0 (head 0 (codes "a", i64_type) aggregate.Max) (values_of (Some (num 20) ∷ Some (num 30) ∷ [])) refl refl (num 30) (1, omega arith, refl));
}
