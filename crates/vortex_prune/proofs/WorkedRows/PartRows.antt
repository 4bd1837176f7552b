-- Worked rows of parts that stand in zones, and of what pruning may say of them.
use Rattle.std.specs.Prelude.{◌≡◌, ℕ, Bool, true, false, List, [], ◌∷◌, Some, None, codes, map, refl, sum, sum_by}
use Rattle.std.proofs.Common.{ap, arith, sym}
use Rattle.vortex_base.specs.declared.aggregate.AggregateFnRef.TheVariants.{Max, Min}
use Rattle.vortex_base.specs.declared.dtype.DType.TheVariants as dtype
use Rattle.vortex_base.specs.declared.pvalue.PValue.TheVariants as number
use Rattle.vortex_base.specs.declared.scalar_value.ScalarValue.TheVariants as value
use Rattle.vortex_base.specs.declared.types.Nullability.TheVariants.{NonNullable}
use Rattle.vortex_base.specs.declared.types.PType.TheVariants as ptype
use Rattle.vortex_base.specs.Data.Columns.{row_of}
use Rattle.vortex_base.specs.Data.Scopes.{Named}
use Rattle.vortex_expr.specs.declared.scalar_fn.Operator.TheVariants.{Eq}
use Rattle.vortex_expr.specs.Meanings.Meaning.{satisfies}
use Rattle.vortex_expr.specs.Trees.Tree.{Tree, Place, binary, literal, row_count}
use Rattle.vortex_prune.proofs.WorkedRows.Witnesses.Parts.{a, above_ten, below_two, chunk_of, high, high_is_in_its_zone, high_is_true, low, low_is_in_its_zone, low_is_true, mixed, mixed_is_in_its_zone, mixed_is_true, part, zones}
use Rattle.vortex_zone_map.proofs.WorkedRows.Witnesses.{i64_type, known, num, scope}
use Rattle.vortex_prune.proofs.ZoneMaps.ZonePruned.{pruning_is_sound}
use Rattle.vortex_prune.specs.Binding.PartAnswers.{told_values}
use Rattle.vortex_prune.specs.Part.{IsPartOf, PartData, zone_of}
use Rattle.vortex_zone_map.specs.Zone.{ZoneData}
use Rattle.vortex_prune.specs.Scanning.ZoneScans.{EachSatisfies, IsSoundPruning}
use Rattle.vortex_rewrite.specs.Rewriting.Falsifiers.{node, reduce_balanced}
use mathlib.Core.Bool.{true≢false}

-- ---- parts in zones

the_first : IsPartOf scope (zone_of low) low
the_first = low_is_in_its_zone

-- a part has a set for each column
abbrev without_set : PartData
without_set = record { chunk = low.chunk; stats = [] }

not_without_its_set : IsPartOf scope (zone_of without_set) without_set → ⊥
not_without_its_set h = true≢false (sym h.is_part.1)

-- values that don't fit their column make no chunk
abbrev with_a_truth : PartData
with_a_truth = part (Some (value.Bool true) ∷ None ∷ []) (known 3 3 3 1)

not_without_its_types : IsPartOf scope (zone_of with_a_truth) with_a_truth → ⊥
not_without_its_types h = true≢false (sym h.is_part.0)

-- what differs where two scopes or two zones do
names_differ : ◌≡◌ {A = ℕ} 97 98 → ⊥
names_differ h = omega (arith, h)

no_name : {X : Type 0} (x : X) → x ∷ [] ≡ [] → ⊥
no_name x h = cc

counts_differ : ◌≡◌ {A = ℕ} 2 3 → ⊥
counts_differ h = omega (arith, h)

greatest_differ : Some (num 3) ≡ Some (num 4) → ⊥
greatest_differ h = cc

least_differ : Some (num 3) ≡ Some (num 5) → ⊥
least_differ h = cc

abbrev names : List Named → List (List ℕ)
names cs = map (λ c. c.0) cs

-- the codes of the names, added up
abbrev all_codes : List Named → ℕ
all_codes cs = sum_by (λ c. sum c.0) cs

not_of_another_scope : IsPartOf ((codes "b", i64_type) ∷ []) (zone_of low) low → ⊥
not_of_another_scope h = names_differ (ap all_codes h.scoped)

not_of_the_empty_scope : IsPartOf [] (zone_of low) low → ⊥
not_of_the_empty_scope h = no_name (codes "a") (ap names h.scoped)

not_of_another_count : IsPartOf scope (record { rows = 3; stats = low.stats }) low → ⊥
not_of_another_count h = counts_differ (ap (λ (z : ZoneData). z.rows) h.known)

not_of_other_sets : IsPartOf scope (record { rows = 2; stats = known 3 4 3 1 ∷ [] }) low → ⊥
not_of_other_sets h = greatest_differ (ap (λ (z : ZoneData). told_values scope z Max a) h.known)

not_of_another_zone : IsPartOf scope (zone_of mixed) low → ⊥
not_of_another_zone h = least_differ (ap (λ (z : ZoneData). told_values scope z Min a) h.known)

-- ---- rows of a part

each_above : EachSatisfies true above_ten high.chunk
each_above = below_two (λ r. satisfies above_ten (row_of r high.chunk.columns) 2 ≡ true) refl refl

-- null doesn't satisfy it
none_above : EachSatisfies false above_ten low.chunk
none_above = below_two (λ r. satisfies above_ten (row_of r low.chunk.columns) 2 ≡ false) refl refl

first_is_not : EachSatisfies true above_ten (chunk_of (Some (num 3) ∷ Some (num 30) ∷ [])) → ⊥
first_is_not h = true≢false (sym (h 0 (omega arith)))

last_is_not : EachSatisfies true above_ten (chunk_of (Some (num 20) ∷ Some (num 30) ∷ Some (num 3) ∷ [])) → ⊥
last_is_not h = true≢false (sym (h 2 (omega arith)))

first_is : EachSatisfies false above_ten (chunk_of (Some (num 30) ∷ Some (num 3) ∷ [])) → ⊥
first_is h = true≢false (h 0 (omega arith))

last_is : EachSatisfies false above_ten (chunk_of (Some (num 3) ∷ None ∷ Some (num 30) ∷ [])) → ⊥
last_is h = true≢false (h 2 (omega arith))

-- one that satisfies and one that doesn't make neither
mixed_is_not_above : EachSatisfies true above_ten mixed.chunk → ⊥
mixed_is_not_above h = true≢false (sym (h 0 (omega arith)))

mixed_is_not_below : EachSatisfies false above_ten mixed.chunk → ⊥
mixed_is_not_below h = true≢false (h 1 (omega arith))

-- of no rows both are so
no_rows : (b : Bool) → EachSatisfies b above_ten (chunk_of [])
no_rows b r less = absurd (omega (arith, less))

-- the row count is the part's
abbrev two_rows : Tree Place
two_rows = binary Eq row_count (literal (record { dtype = dtype.Primitive ptype.U64 NonNullable; value = Some (value.Primitive (number.U64 2)) }))

of_two_rows : EachSatisfies true two_rows high.chunk
of_two_rows = below_two (λ r. satisfies two_rows (row_of r high.chunk.columns) 2 ≡ true) refl refl

of_three_rows : EachSatisfies true two_rows (chunk_of (Some (num 20) ∷ Some (num 30) ∷ None ∷ [])) → ⊥
of_three_rows h = true≢false (sym (h 0 (omega arith)))

-- ---- what pruning may say: the first zone is skipped and the last is whole

pub sound : IsSoundPruning above_ten scope zones (0 ∷ []) (2 ∷ [])
unfolding node reduce_balanced
sound = pruning_is_sound [] above_ten scope zones (0 ∷ []) (2 ∷ []) refl refl refl refl refl

-- nothing may be said of any
nothing_said : IsSoundPruning above_ten scope zones [] []
nothing_said i zone part there of is = ((λ h. absurd (omega (arith, h.1))), (λ h. absurd (omega (arith, h.1))))

-- a zone with a row that satisfies isn't skipped, the first or the last one
last_skipped : IsSoundPruning above_ten scope zones (0 ∷ 2 ∷ []) [] → ⊥
last_skipped h = true≢false ((h 2 (zone_of high) high refl high_is_in_its_zone high_is_true).0 (1, omega arith, refl) 1 (omega arith))

mixed_skipped : IsSoundPruning above_ten scope zones (1 ∷ []) [] → ⊥
mixed_skipped h = true≢false ((h 1 (zone_of mixed) mixed refl mixed_is_in_its_zone mixed_is_true).0 (0, omega arith, refl) 1 (omega arith))

-- nor is one whole with a row that doesn't
first_whole : IsSoundPruning above_ten scope zones [] (2 ∷ 0 ∷ []) → ⊥
first_whole h = true≢false (sym ((h 0 (zone_of low) low refl low_is_in_its_zone low_is_true).1 (1, omega arith, refl) 0 (omega arith)))

mixed_whole : IsSoundPruning above_ten scope zones [] (1 ∷ []) → ⊥
mixed_whole h = true≢false (sym ((h 1 (zone_of mixed) mixed refl mixed_is_in_its_zone mixed_is_true).1 (0, omega arith, refl) 0 (omega arith)))

-- the lists aren't changed for one another
pub turned_round : IsSoundPruning above_ten scope zones (2 ∷ []) (0 ∷ []) → ⊥
turned_round h = true≢false ((h 2 (zone_of high) high refl high_is_in_its_zone high_is_true).0 (0, omega arith, refl) 0 (omega arith))

-- of a place without a zone anything may be said
past_the_end : IsSoundPruning above_ten scope [] (0 ∷ []) (0 ∷ [])
past_the_end i zone part there of is = absurd cc
