-- Witnesses of the clauses of binders, of binding and of parts.
use Rattle.std.specs.Prelude.{◌≡◌, ℕ, false, true, IsOk, IsTrue, List, [], ◌∷◌, Option, Some, None, Result, Err, Ok, refl, slice_get}
use Rattle.std.specs.List.{AllByRecursion}
use Rattle.std.proofs.Common.{arith, inl, subst}
use Rattle.vortex_base.specs.declared.aggregate.AggregateFnRef.TheVariants as aggregate
use Rattle.vortex_base.specs.declared.dtype.DType.{DType}
use Rattle.vortex_base.specs.declared.error.BaseError.{BaseError}
use Rattle.vortex_base.specs.declared.scalar_value.ScalarValue.{ScalarValue}
use Rattle.vortex_base.specs.Data.Columns.{row_of}
use Rattle.vortex_base.specs.Data.Scalars.{Constant}
use Rattle.vortex_expr.specs.Meanings.Fitting.{fits_row}
use Rattle.vortex_expr.specs.Meanings.Meaning.{meaning}
use Rattle.vortex_expr.specs.Meanings.Typing.{type_of}
use Rattle.vortex_expr.specs.Trees.Tree.{Tree, Place, has_bare_column, has_placeholder, stat}
use Rattle.vortex_prune.proofs.WorkedRows.ShutRows.{IsMissing, answers, by_literal, three}
use Rattle.vortex_prune.proofs.WorkedRows.Witnesses.Parts.{a, all_true, are_parts, high, high_is_true, is_map, lit, low, low_is_in_its_zone, low_is_true, mixed, part, parts, their_map, zones}
use Rattle.vortex_zone_map.proofs.WorkedRows.Witnesses.{IsWitness, i64_type, known, num, scope}
use Rattle.vortex_prune.proofs.WorkedRows.Witnesses.Pruning.{shut}
use Rattle.vortex_prune.proofs.WorkedRows.Witnesses.Scans.{is_faithful_over, value}
use Rattle.vortex_prune.specs.Binding.Binders.{IsHonestOver}
use Rattle.vortex_prune.specs.Binding.BoundTo.{HasNoColumnOn, IsBinding, Replaces, WhereFaithful}
use Rattle.vortex_prune.specs.Binding.PartAnswers.{part_values, told_values}
use Rattle.vortex_prune.specs.Part.{AreParts, IsPartOf, IsTruePart, PartData, sets_fit, zone_of}
use Rattle.vortex_zone_map.specs.Zone.{ScopedZone}
use Rattle.vortex_prune.specs.Scanning.Selection.{AreHonest}
use Rattle.vortex_prune.specs.Zones.{is_zone_row, zone_values}
use Rattle.vortex_zone_map.specs.ZoneMaps.{IsMapOf, MapData, zone_map}
use Rattle.vortex_rewrite.specs.Facts.{IsFact, meanings, size_of}
use Rattle.vortex_rewrite.specs.Rewriting.Proof.{Assignment, value_under}
use Rattle.vortex_stats.specs.declared.error.StatsError.{StatsError}
use Rattle.vortex_stats.specs.declared.error.BinderFault.TheVariants.{WrongType}
use Rattle.vortex_stats.specs.declared.error.StatsError.TheVariants.{Binder, Mismatch}
use Rattle.vortex_stats.specs.declared.stat.Stat.TheVariants.{Max}
use mathlib.Core.Bool.{true≢false}

-- ---- binding the greatest value of the column, by what the first part answers, over the empty row

abbrev greatest : Tree Place
greatest = stat aggregate.Max a

-- the column itself isn't on the row
pub bind_stats_fits : IsWitness (IsTrue (is_faithful_over low [] 2) × (has_bare_column greatest ≡ false)) (λ (r : Tree Place). IsTrue (fits_row r [])) a
bind_stats_fits = record { met = (refl, refl); refuted = shut }

four_is_not_three : Some (num 4) ≡ Some (num 3) → ⊥
four_is_not_three h = cc

pub bind_stats_value : IsWitness (IsTrue (is_faithful_over low [] 2) × HasNoColumnOn greatest []) (λ (r : Tree Place). meaning r [] 2 ≡ value_under (value low [] 2) 2 greatest) (lit 4)
bind_stats_value = record { met = (refl, inl refl); refuted = four_is_not_three }

abbrev typed : DType → Result DType BaseError
typed t = Ok t

a_is_not_three : a ≡ three → ⊥
a_is_not_three h = absurd cc

-- the answer to the placeholder is 3, and its column stands in its place
pub bind_stats_bound : IsWitness (type_of greatest ≡ typed i64_type) (λ (r : Tree Place). IsBinding (Replaces (answers by_literal) (IsMissing by_literal)) greatest r) a
bind_stats_bound = record { met = refl; refuted = λ h. a_is_not_three (h.0 i64_type refl) }

-- a placeholder is left
pub bind_stats_free : IsWitness (IsTrue (is_faithful_over low [] 2)) (λ (r : Tree Place). WhereFaithful (is_faithful_over low) (λ row n. has_placeholder r ≡ false)) greatest
bind_stats_free = record { met = refl; refuted = λ h. true≢false (h [] 2 refl) }

-- a binder that is faithful gave an answer of another type
pub bind_stats_right_types : IsWitness (IsTrue (is_faithful_over low [] 2)) (λ (f : StatsError). WhereFaithful (is_faithful_over low) (λ row n. ¬ (f ≡ Binder WrongType))) (Binder WrongType)
bind_stats_right_types = record { met = refl; refuted = λ h. h [] 2 refl refl }

-- ---- binders: by the sets of another part 5 would be the least value, and 3 is there

abbrev pub Fact : Option ScalarValue → Type 0
Fact v = IsFact aggregate.Min v (meanings a low.chunk.columns) (size_of a low.chunk.columns)

pub five_is_above : Fact (Some (num 5)) → ⊥
five_is_above h = true≢false (h (num 3) (0, omega arith, refl))

pub least_is_untrue : (A : Assignment) → A aggregate.Min a ≡ Some (num 5) → IsHonestOver (λ row n. true) (λ row n. A) [] low.chunk → ⊥
least_is_untrue A is h = five_is_above (subst Fact is (h.1.facts aggregate.Min a))

pub stats_binder_new_honest : IsWitness (IsTruePart low) (λ (binder : PartData). (row : List Constant) → IsHonestOver (is_faithful_over binder) (value binder) row low.chunk) mixed
stats_binder_new_honest = record { met = low_is_true; refuted = λ h. least_is_untrue (part_values mixed) refl (h []) }

pub zone_stats_binder_honest : IsWitness (IsPartOf scope (zone_of low) low × IsTruePart low)
    (λ (binder : ScopedZone). (row : List Constant) → IsHonestOver (λ r n. true) (λ r n. told_values binder.scope binder.zone) row low.chunk) (record { scope = scope; zone = zone_of mixed })
zone_stats_binder_honest = record { met = (low_is_in_its_zone, low_is_true); refuted = λ h. least_is_untrue (told_values scope (zone_of mixed)) refl (h []) }

-- the row of the first zone is none of a table without columns
abbrev first_row : List Constant
first_row = row_of 0 their_map.table.columns

pub zone_binder_honest : IsWitness (IsMapOf zones their_map × (slice_get zones 0 ≡ Some (zone_of low)) × IsPartOf scope (zone_of low) low × IsTruePart low)
    (λ (binder : MapData). IsHonestOver (λ r n. is_zone_row binder.scope r) (λ r n. zone_values binder.scope r) first_row low.chunk) (zone_map [] [])
zone_binder_honest = record { met = (is_map, refl, low_is_in_its_zone, low_is_true); refuted = λ h. shut h.0 }

-- the values of another part are no facts of the first
abbrev of_mixed : PartData → List Constant → ℕ → Assignment
of_mixed p row n = part_values mixed

pub binders_honest : IsWitness (AreParts parts × AllByRecursion IsTruePart parts) (λ (values : PartData → List Constant → ℕ → Assignment). AreHonest values parts parts) of_mixed
binders_honest = record { met = (are_parts, all_true); refuted = λ h. five_is_above (h.0.facts aggregate.Min a) }

-- ---- parts

pub part_fits : IsWitness (IsTrue (sets_fit low.chunk.columns low.stats)) (λ (made : Result PartData StatsError). IsOk made) (Err Mismatch)
part_fits = record { met = refl; refuted = shut }

-- the rows of both with the sets of the first: 30 is above its greatest value
abbrev first_sets_alone : PartData
first_sets_alone = part (Some (num 3) ∷ None ∷ Some (num 20) ∷ Some (num 30) ∷ []) (known 3 3 3 1)

thirty_is_above : IsTruePart first_sets_alone → ⊥
thirty_is_above h = true≢false ((h.0.claims Max).1 (num 30) (3, omega arith, refl))

pub join_truth : IsWitness ((low.chunk.scope ≡ high.chunk.scope) × IsTruePart low × IsTruePart high) (λ (joined : PartData). IsTruePart joined) first_sets_alone
join_truth = record { met = (refl, low_is_true, high_is_true); refuted = thirty_is_above }
