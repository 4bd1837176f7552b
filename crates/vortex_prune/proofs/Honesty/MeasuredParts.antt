-- Measured statistics make a part whose statistics are true, and a check of each set decides the truth of all.
use Rattle.std.proofs.Common.{◌≡◌, ◌↔◌, ◌+◌, ℕ, Bool, true, false, true≢false, List, [], ◌∷◌, ◌++◌, append_assoc, Some, IsTrue, drop, refl, sym, ap, subst, ◌∙◌}
use Rattle.std.specs.Prelude.{slice_get}
use Rattle.std.specs.List.{list_all}
use Rattle.vortex_base.specs.Data.Columns.{ChunkData, ColumnData, IsChunk, has_shape, has_types, is_column}
use Rattle.vortex_base.specs.Data.Scopes.{is_scope}
use Rattle.vortex_base.specs.Data.Exact.{both_hold, both_true}
use Rattle.vortex_zone_map.proofs.ZoneLemmas.{rest_of}
use Rattle.vortex_prune.specs.Part.{AreTrueSets, IsPart, IsTruePart, measured_sets, sets_fit}
use Rattle.vortex_zone_map.specs.Zone.{Entries}
use Rattle.vortex_stats.proofs.Kit.{measured_is_true}
use Rattle.vortex_stats.specs.Measuring.Measured.{measured}
use Rattle.vortex_stats.specs.Sets.Claims.{IsTrueOf}
use Rattle.vortex_stats.specs.Stat.{all_stats}

all_true : (cs : List ColumnData) → list_all is_column cs ≡ true → AreTrueSets cs (measured_sets cs)
all_true [] h = tt
all_true (c ∷ cs) h = let both = both_true _ _ h in (measured_is_true all_stats c both.0, all_true cs both.1)

all_fit : (cs : List ColumnData) → list_all is_column cs ≡ true → sets_fit cs (measured_sets cs) ≡ true
all_fit [] h = refl
all_fit (c ∷ cs) h = let both = both_true _ _ h in both_hold _ _ (measured_is_true all_stats c both.0).fits (all_fit cs both.1)

columns_of : (k : ChunkData) → IsChunk k → list_all is_column k.columns ≡ true
columns_of k h = (both_true (has_types k.scope k.columns) _ (both_true (has_shape k.scope k.columns) _ (both_true (is_scope k.scope) _ h).1).1).1

-- a chunk with what is measured of it is a part
pub measured_is_part : (k : ChunkData) (sets : List Entries) → IsChunk k → sets ≡ measured_sets k.columns → IsPart (record { chunk = k; stats = sets })
measured_is_part k sets h is = rw is (h, all_fit k.columns (columns_of k h))

-- and its statistics are true
pub measured_is_true_part : (k : ChunkData) (sets : List Entries) → IsChunk k → sets ≡ measured_sets k.columns → IsTruePart (record { chunk = k; stats = sets })
measured_is_true_part k sets h is = rw is (all_true k.columns (columns_of k h))

-- one more column is measured
pub set_measured : (cs : List ColumnData) (i : ℕ) (c : ColumnData) (set : Entries) (old new all : List Entries) → slice_get cs i ≡ Some c → set ≡ measured all_stats c
    → new ≡ old ++ set ∷ [] → old ++ measured_sets (drop i cs) ≡ all → new ++ measured_sets (drop (i + 1) cs) ≡ all
set_measured cs i c set old new all there is pushed before =
    let rest = measured_sets (drop (i + 1) cs) in
    let split : measured_sets (drop i cs) ≡ set ∷ rest = rw (rest_of cs i c there, is) refl in
    ap (λ l. l ++ rest) pushed ∙ append_assoc old (set ∷ []) rest ∙ ap (λ l. old ++ l) (sym split) ∙ before

-- the truth of the sets from a place on is that of the first and of the rest
truth_step : (cs : List ColumnData) (ss : List Entries) (i : ℕ) (c : ColumnData) (es : Entries) → slice_get cs i ≡ Some c → slice_get ss i ≡ Some es
    → AreTrueSets (drop i cs) (drop i ss) ≡ (IsTrueOf es c × AreTrueSets (drop (i + 1) cs) (drop (i + 1) ss))
truth_step cs ss i c es there set = rw (rest_of cs i c there, rest_of ss i es set) refl

-- a set that isn't true decides
pub truth_stops : (cs : List ColumnData) (ss : List Entries) (i : ℕ) (c : ColumnData) (es : Entries) (b : Bool) (P : Type 0) → slice_get cs i ≡ Some c → slice_get ss i ≡ Some es
    → (IsTrue b ↔ IsTrueOf es c) → b ≡ false → (AreTrueSets (drop i cs) (drop i ss) ↔ P) → IsTrue false ↔ P
truth_stops cs ss i c es b P there set says fails all = (
  λ f. absurd (true≢false (sym f)),
  λ p. let both = subst (λ (X : Type 0). X) (truth_step cs ss i c es there set) (all.1 p) in subst (λ x. IsTrue x) fails (says.1 both.0),
)

-- where it is true, the rest decides
pub truth_goes_on : (cs : List ColumnData) (ss : List Entries) (i : ℕ) (c : ColumnData) (es : Entries) (b : Bool) (P : Type 0) → slice_get cs i ≡ Some c → slice_get ss i ≡ Some es
    → (IsTrue b ↔ IsTrueOf es c) → b ≡ true → (AreTrueSets (drop i cs) (drop i ss) ↔ P) → AreTrueSets (drop (i + 1) cs) (drop (i + 1) ss) ↔ P
truth_goes_on cs ss i c es b P there set says holds all =
    let step = truth_step cs ss i c es there set in (
      λ rest. all.0 (subst (λ (X : Type 0). X) (sym step) (says.0 holds, rest)),
      λ p. (subst (λ (X : Type 0). X) step (all.1 p)).1,
    )
