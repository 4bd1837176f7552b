-- Worked rows: the parts and binders that are asked for a satisfier, and what that may cause.
use Rattle.std.specs.Prelude.{◌≡◌, ◌==◌, ℕ, zero, suc, Bool, true, false, List, [], ◌∷◌, Option, Some, None, pos, codes, refl}
use Rattle.std.proofs.Common.{arith, inl, inr, subst, sym, ◌∙◌}
use Rattle.vortex_base.specs.declared.aggregate.AggregateFnRef.TheVariants.{Max}
use Rattle.vortex_base.specs.declared.dtype.DType.{DType}
use Rattle.vortex_base.specs.declared.dtype.DType.TheVariants as dtype
use Rattle.vortex_base.specs.declared.types.Nullability.TheVariants.{Nullable}
use Rattle.vortex_expr.specs.declared.scalar_fn.Operator.TheVariants.{And, Eq, Lte}
use Rattle.vortex_base.specs.declared.types.PType.TheVariants as ptype
use Rattle.vortex_expr.specs.declared.scalar_fn.ScalarFnId.TheVariants as functions
use Rattle.vortex_base.specs.declared.pvalue.PValue.TheVariants as number
use Rattle.vortex_base.specs.declared.scalar_value.ScalarValue.{ScalarValue}
use Rattle.vortex_base.specs.declared.scalar_value.ScalarValue.TheVariants as value
use Rattle.vortex_base.specs.Data.Scalars.{Constant}
use Rattle.vortex_expr.specs.Trees.Tree.{Tree, Place, column, literal, binary, not, row_count, stat}
use Rattle.vortex_rewrite.specs.Causes.{Causes}
use Rattle.vortex_rewrite.specs.Rewriting.Falsifiers.{bool_literal, node, reduce_balanced}
use Rattle.vortex_rewrite.specs.Rewriting.Lawful.{IsLawful, OwnRule}
use Rattle.vortex_rewrite.specs.Rewriting.Proof.{Assignment, proves}
use Rattle.vortex_stats.specs.declared.precision.Precision.TheVariants.{Exact}
use Rattle.vortex_stats.specs.declared.stat.Stat.TheVariants as stats
use Rattle.vortex_prune.specs.Binding.PartBinder.{IsNullOf}
use Rattle.vortex_prune.specs.Part.{PartData}
use Rattle.vortex_prune.specs.Scanning.ScanRefusals.{faithful_causes, kept_binders, verdict_causes}
use Rattle.vortex_prune.specs.Scanning.ZoneScans.{AreRowVerdicts, is_left_open, kept_parts, row_verdict, table_refuses, zone_causes}
use Rattle.vortex_prune.specs.declared.scan.verdict.Verdict.TheVariants.{Skipped, Tested, Whole}
use Rattle.vortex_prune.specs.Zones.{zones_of}
use Rattle.vortex_zone_map.specs.ZoneMaps.{MapData, zone_map}
use Rattle.vortex_stats.specs.declared.error.StatsError.TheVariants.{OpenProof}
use mathlib.Core.Bool.{true≢false}

abbrev i32_type : DType
i32_type = dtype.Primitive ptype.I32 Nullable

abbrev num : ℕ → ScalarValue
num n = value.Primitive (number.I32 (pos n))

abbrev a : Tree Place
a = column (record { index = 0; dtype = i32_type })

-- a part of one number, whose greatest value is told to be this
abbrev up_to : ℕ → PartData
up_to n = record {
  chunk = record { scope = (codes "a", i32_type) ∷ []; columns = record { dtype = i32_type; values = Some (num n) ∷ []; size = 0 } ∷ [] };
  stats = ((stats.Max, Exact (num n)) ∷ []) ∷ [];
}

-- no value is above 10
abbrev at_most_ten : Tree Place
at_most_ten = binary Lte (stat Max a) (literal (record { dtype = i32_type; value = Some (num 10) }))

-- ---- the parts of which the falsifier isn't true

abbrev parts : List PartData
parts = up_to 20 ∷ up_to 10 ∷ up_to 11 ∷ up_to 5 ∷ []

two_kept : kept_parts (Some at_most_ten) parts ≡ up_to 20 ∷ up_to 11 ∷ []
two_kept = refl

all_kept : kept_parts None parts ≡ parts
all_kept = refl

none_kept : kept_parts (Some (bool_literal true)) parts ≡ []
none_kept = refl

-- null proves nothing
kept_on_null : kept_parts (Some (stat Max a)) parts ≡ parts
kept_on_null = refl

-- so an open satisfier is left open only where a part is kept
left_open : is_left_open (Some a) (kept_parts (Some at_most_ten) parts) ≡ true
left_open = refl

all_skipped : is_left_open (Some a) (kept_parts (Some at_most_ten) (up_to 10 ∷ up_to 5 ∷ [])) ≡ false
all_skipped = refl

-- ---- binders, by what they name: the greatest value is the binder itself

abbrev told : ℕ → List Constant → ℕ → Assignment
told binder row n Max x = Some (num binder)
told binder row n f x = None

two_asked : kept_binders told (Some at_most_ten) parts (3 ∷ 11 ∷ 10 ∷ 12 ∷ []) ≡ 11 ∷ 12 ∷ []
two_asked = refl

all_asked : kept_binders told None parts (3 ∷ 11 ∷ 10 ∷ 12 ∷ []) ≡ 3 ∷ 11 ∷ 10 ∷ 12 ∷ []
all_asked = refl

-- ---- what one of them may cause: it names the fault 3

abbrev causes : (falsifier satisfier : Option (Tree Place)) → Causes
causes falsifier satisfier = verdict_causes (λ f x t. None) IsNullOf (λ k. k == 3) falsifier satisfier (up_to 10) (told 10 [] 1)

falsifier_faults : (causes (Some at_most_ten) None).binder 3
falsifier_faults = inl (inl refl)

no_other_fault : (causes (Some at_most_ten) (Some (stat Max a))).binder 4 → ⊥
no_other_fault (inl (inl h)) = true≢false (sym h)
no_other_fault (inl (inr h)) = h
no_other_fault (inr h) = true≢false (sym h.1)

kept_satisfier_faults : (causes (Some (bool_literal false)) (Some (stat Max a))).binder 3
kept_satisfier_faults = inr (refl, refl)

-- a skipped part's binder isn't asked for the satisfier
skipped_satisfier_is_quiet : (causes (Some (bool_literal true)) (Some (stat Max a))).binder 3 → ⊥
skipped_satisfier_is_quiet (inl h) = h
skipped_satisfier_is_quiet (inr h) = true≢false h.0

skipped_satisfier_is_not_open : (causes (Some (bool_literal true)) (Some a)).open_proof → ⊥
skipped_satisfier_is_not_open (inl h) = true≢false (sym h.0)
skipped_satisfier_is_not_open (inr h) = true≢false h.0

-- a proof without a column outside its placeholders isn't left open by a faithful binder
shut_proof_is_closed : (causes (Some at_most_ten) (Some (stat Max a))).open_proof → ⊥
shut_proof_is_closed (inl h) = true≢false (sym h.0)
shut_proof_is_closed (inr h) = true≢false (sym h.1.0)

-- ---- scans: by a rule for NOT whose satisfier is a column of truths, so that it is left open

abbrev bare : Tree Place
bare = column (record { index = 0; dtype = dtype.Bool Nullable })

abbrev no_proof : Tree Place → Option (Tree Place)
no_proof p = None

abbrev bare_proof : Tree Place → Option (Tree Place)
bare_proof p = Some bare

never_bare : (e : Tree Place) (A : Assignment) (n : ℕ) → bare ≡ e → proves e A n ≡ false
never_bare e A n is = subst (λ (x : Tree Place). proves x A n ≡ false) is refl

bare_is_lawful : IsLawful no_proof bare_proof
bare_is_lawful = record {
  falsifies = λ p e h. absurd cc;
  satisfies = λ p e h k A chunk over honest t. absurd (let is : bare ≡ e = cc in true≢false (sym t ∙ never_bare e A _ is));
}

abbrev rules : List OwnRule
rules = record { id = functions.Not; falsifier = no_proof; satisfier = bare_proof; can_fault = λ k. false; is_lawful = bare_is_lawful } ∷ []

-- a truth and NOT of another: where the first is false every part is skipped
abbrev both : Bool → Tree Place
both b = binary And (bool_literal b) (not (bool_literal true))

open_if_kept : (zone_causes rules (both true) (up_to 5 ∷ [])).open_proof
unfolding node reduce_balanced
open_if_kept = inr (inr refl)

quiet_if_skipped : (zone_causes rules (both false) (up_to 5 ∷ [])).open_proof → ⊥
unfolding node reduce_balanced
quiet_if_skipped (inl (inl h)) = h
quiet_if_skipped (inl (inr h)) = h
quiet_if_skipped (inr (inl h)) = true≢false (sym h)
quiet_if_skipped (inr (inr h)) = true≢false (sym h)

quiet_without_parts : (zone_causes rules (both true) []).open_proof → ⊥
unfolding node reduce_balanced
quiet_without_parts (inl (inl h)) = h
quiet_without_parts (inl (inr h)) = h
quiet_without_parts (inr (inl h)) = true≢false (sym h)
quiet_without_parts (inr (inr h)) = true≢false (sym h)

-- the same with faithful binders
abbrev by_binders : Tree Place → Causes
by_binders p = faithful_causes (λ (s : ℕ) f x t. None) (λ s. IsNullOf) (λ s k. false) told rules p (up_to 5 ∷ []) (5 ∷ [])

left_open_if_kept : (by_binders (both true)).open_proof
unfolding node reduce_balanced
left_open_if_kept = inr (inr (refl, (0, 5, omega arith, refl, (binary And (bool_literal true) bare, (bool_literal true, bare, refl, refl, refl), refl))))

closed_if_skipped : (by_binders (both false)).open_proof → ⊥
unfolding node reduce_balanced
closed_if_skipped (inl (inl h)) = h
closed_if_skipped (inl (inr h)) = h
closed_if_skipped (inr (inl h)) = true≢false (sym h.0)
closed_if_skipped (inr (inr h)) = absurd (omega (arith, h.1.2))

-- ---- the verdicts on the rows of a table, by what they hold

abbrev table : MapData
table = zone_map ((codes "a", i32_type) ∷ []) (zones_of parts)

below_a_falsifier : row_verdict (Some at_most_ten) None table 1 1 ≡ Skipped
below_a_falsifier = refl

on_another_row : row_verdict (Some at_most_ten) None table 0 1 ≡ Tested
on_another_row = refl

below_a_satisfier : row_verdict None (Some at_most_ten) table 1 1 ≡ Whole
below_a_satisfier = refl

below_both : row_verdict (Some at_most_ten) (Some at_most_ten) table 1 1 ≡ Skipped
below_both = refl

-- the rows of the zone are counted
abbrev seven_rows : Tree Place
seven_rows = binary Eq row_count (literal (record { dtype = dtype.Primitive ptype.U64 Nullable; value = Some (value.Primitive (number.U64 7)) }))

of_seven_rows : row_verdict (Some seven_rows) None table 0 7 ≡ Skipped
of_seven_rows = refl

of_eight_rows : row_verdict (Some seven_rows) None table 0 8 ≡ Tested
of_eight_rows = refl

each_verdict : AreRowVerdicts (Some at_most_ten) None table (Tested ∷ Skipped ∷ Tested ∷ Skipped ∷ [])
each_verdict zero n v at is = cc
each_verdict (suc zero) n v at is = cc
each_verdict (suc (suc zero)) n v at is = cc
each_verdict (suc (suc (suc zero))) n v at is = cc
each_verdict (suc (suc (suc (suc r)))) n v at is = absurd cc

turned_round : AreRowVerdicts (Some at_most_ten) None table (Skipped ∷ []) → ⊥
turned_round h = let no : Skipped ≡ Tested = h 0 1 Skipped refl refl in absurd cc

-- ---- one zone of a table

refused_at_a_kept_zone : table_refuses (Some (bool_literal false)) (Some a) table 0 OpenProof
refused_at_a_kept_zone = ((λ n at. refl), refl)

not_at_a_skipped_one : table_refuses (Some (bool_literal true)) (Some a) table 0 OpenProof → ⊥
not_at_a_skipped_one h = true≢false (h.0 1 refl)

not_by_a_shut_satisfier : table_refuses (Some (bool_literal false)) (Some (stat Max a)) table 0 OpenProof → ⊥
not_by_a_shut_satisfier h = true≢false (sym h.1)

-- the greatest values that the table tells are read on the zone's own row
at_its_own_row : table_refuses (Some (binary Lte (column (record { index = 0; dtype = i32_type })) (literal (record { dtype = i32_type; value = Some (num 10) })))) (Some a) table 0 OpenProof
at_its_own_row = ((λ n at. refl), refl)

at_another_row : table_refuses (Some (binary Lte (column (record { index = 0; dtype = i32_type })) (literal (record { dtype = i32_type; value = Some (num 10) })))) (Some a) table 1 OpenProof → ⊥
at_another_row h = true≢false (h.0 1 refl)
