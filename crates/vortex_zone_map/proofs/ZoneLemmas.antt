-- On the sets of a zone.
use Rattle.std.proofs.Common.{◌≡◌, ◌<◌, ◌&&◌, ◌+◌, ℕ, zero, suc, Bool, true, false, List, [], ◌∷◌, ◌++◌, append_assoc, Option, Some, None, length, map, get_or, drop, refl, sym, ap, ◌∙◌, arith}
use Rattle.std.specs.Prelude.{option_map, slice_get}
use Rattle.std.proofs.lemmas.List.{drop_more, length-map}
use Rattle.std.proofs.lemmas.Option.{get_or_from_slice_get, same_Some, slice_get-get_or, slice_get_within}
use lib.Pointwise.{pointwise_long}
use Rattle.vortex_base.proofs.Data.ChunkLemmas.{equal_numbers}
use Rattle.vortex_base.specs.Data.Columns.{ChunkData, IsChunk}
use Rattle.vortex_base.specs.Data.Exact.{both_true}
use Rattle.vortex_base.specs.Data.Scopes.{Named}
use Rattle.vortex_base.specs.declared.dtype.DType.{DType}
use Rattle.vortex_zone_map.specs.Zone.{Entries, IsZone, ZoneData, fits_zone, merged_sets}
use Rattle.vortex_stats.specs.Sets.Entries.{entries_fit}
use Rattle.vortex_stats.specs.Merging.Merges.{merged_ordered}
use Rattle.std.proofs.Common.{◌≡◌, ℕ, zero, suc, true, List, [], ◌∷◌, Some, map, refl, sym, ap, ◌∙◌}
use Rattle.std.specs.Prelude.{slice_get}
use Rattle.std.proofs.lemmas.Option.{same_Some}
use Rattle.vortex_base.specs.Data.Columns.{ChunkData, IsChunk}
use Rattle.vortex_base.specs.Data.Exact.{both_true}
use Rattle.vortex_base.specs.Data.Scopes.{Named}
use Rattle.vortex_base.specs.declared.dtype.DType.{DType}
use Rattle.vortex_stats.specs.Sets.Entries.{entries_fit}
use Rattle.std.proofs.Common.{◌≡◌, ◌<◌, ℕ, List, Option, Some, arith, length, map, sym, ap, ◌∙◌}
use Rattle.std.specs.Prelude.{Bool, IsTrue, option_map, slice_get}
use Rattle.std.proofs.lemmas.List.{length-map}
use lib.Pointwise.{pointwise_long}
use Rattle.vortex_base.specs.declared.dtype.DType.{DType}
use Rattle.vortex_base.specs.Data.Scopes.{Named}
use Rattle.vortex_stats.specs.Sets.Entries.{entries_fit}

-- a chunk has as many columns as names
pub scope_long : (k : ChunkData) → IsChunk k → length k.scope ≡ length k.columns
scope_long k h = equal_numbers (length k.scope) (length k.columns) (both_true _ _ (both_true _ _ (both_true _ _ h).1).0).0

-- a column of this type is there
pub named_at : (o : Option Named) (t : DType) → option_map (λ (c : Named). c.1) o ≡ Some t → (c : Named) × (o ≡ Some c) × (c.1 ≡ t)
named_at None t h = absurd cc
named_at (Some c) t h = (c, refl, same_Some c.1 t h)

-- of two lists from a place on, the sets fit the columns if the first does and the rest do
pub sets_step : (cs : List Named) (ss : List Entries) (i : ℕ) (t : DType) (es : Entries) → option_map (λ (c : Named). c.1) (slice_get cs i) ≡ Some t → i < length cs → i < length ss → es ≡ get_or ss i es
    → fits_zone (drop i cs) (drop i ss) ≡ (entries_fit es t && fits_zone (drop (i + 1) cs) (drop (i + 1) ss))
sets_step cs ss i t es typed within long is =
    let c = named_at (slice_get cs i) t typed in
    let first : drop i cs ≡ c.0 ∷ drop (i + 1) cs = drop_more cs i c.0 within ∙ ap (λ x. x ∷ drop (i + 1) cs) (get_or_from_slice_get cs i c.0 c.0 c.1) in
    let second : drop i ss ≡ es ∷ drop (i + 1) ss = drop_more ss i es long ∙ ap (λ x. x ∷ drop (i + 1) ss) (sym is) in
    rw (first, second) (ap (λ u. entries_fit es u && fits_zone (drop (i + 1) cs) (drop (i + 1) ss)) c.2)

-- the same, where the first set doesn't fit
pub sets_stop : (cs : List Named) (ss : List Entries) (i : ℕ) (t : DType) (es : Entries) (b : Bool) → option_map (λ (c : Named). c.1) (slice_get cs i) ≡ Some t → i < length cs → i < length ss → es ≡ get_or ss i es
    → entries_fit es t ≡ false → fits_zone (drop i cs) (drop i ss) ≡ b → false ≡ b
sets_stop cs ss i t es b typed within long is fails all = sym (sets_step cs ss i t es typed within long is ∙ rw fails refl) ∙ all

-- where it does, the rest decide
pub sets_go_on : (cs : List Named) (ss : List Entries) (i : ℕ) (t : DType) (es : Entries) (b : Bool) → option_map (λ (c : Named). c.1) (slice_get cs i) ≡ Some t → i < length cs → i < length ss → es ≡ get_or ss i es
    → entries_fit es t ≡ true → fits_zone (drop i cs) (drop i ss) ≡ b → fits_zone (drop (i + 1) cs) (drop (i + 1) ss) ≡ b
sets_go_on cs ss i t es b typed within long is fits all = sym (sets_step cs ss i t es typed within long is ∙ rw fits refl) ∙ all

-- the rest of a list from a place on
pub rest_of : {A : Type 0} (xs : List A) (i : ℕ) (x : A) → slice_get xs i ≡ Some x → drop i xs ≡ x ∷ drop (i + 1) xs
rest_of xs i x there = drop_more xs i x (slice_get_within xs i x there) ∙ ap (λ y. y ∷ drop (i + 1) xs) (get_or_from_slice_get xs i x x there)

-- the set of a column is there, and fits its type
pub set_of_zone : (cs : List Named) (ss : List Entries) (i : ℕ) (c : Named) → fits_zone cs ss ≡ true → slice_get cs i ≡ Some c → (es : Entries) × (slice_get ss i ≡ Some es) × (entries_fit es c.1 ≡ true)
set_of_zone [] ss i c h there = absurd cc
set_of_zone (n ∷ ns) [] i c h there = absurd cc
set_of_zone (n ∷ ns) (s ∷ ss) zero c h there = (s, refl, ap (λ (x : Named). entries_fit s x.1) (sym (same_Some n c there)) ∙ (both_true _ _ h).0)
set_of_zone (n ∷ ns) (s ∷ ss) (suc i) c h there = set_of_zone ns ss i c (both_true _ _ h).1 there

pub zone_set_fits : (cs : List Named) (ss : List Entries) (i : ℕ) (c : Named) (es : Entries) → fits_zone cs ss ≡ true → slice_get cs i ≡ Some c → slice_get ss i ≡ Some es → entries_fit es c.1 ≡ true
zone_set_fits cs ss i c es h there set =
    let own = set_of_zone cs ss i c h there in
    ap (λ e. entries_fit e c.1) (same_Some es own.0 (sym set ∙ own.1)) ∙ own.2

-- a zone has a set for each column
pub set_within : (scope : List Named) (zone : ZoneData) (i : ℕ) → IsZone scope zone → i < length scope → i < length zone.stats
set_within scope zone i h within =
    let types = pointwise_long (λ t es. entries_fit es t) (map (λ (c : Named). c.1) scope) zone.stats h in
    let columns = length-map scope (λ (c : Named). c.1) in
    omega arith

-- and that fits the column's type
pub set_fits_type : (scope : List Named) (zone : ZoneData) (i : ℕ) (es : Entries) (t : DType) → IsZone scope zone → option_map (λ (c : Named). c.1) (slice_get scope i) ≡ Some t → slice_get zone.stats i ≡ Some es → IsTrue (entries_fit es t)
set_fits_type scope zone i es t h there set =
    let c = named_at (slice_get scope i) t there in
    ap (entries_fit es) (sym c.2) ∙ zone_set_fits scope zone.stats i c.0 es h c.1 set

-- one more set is merged
pub sets_pushed : (xs ys : List Entries) (i : ℕ) (set : Entries) (old new all : List Entries) → i < length xs → i < length ys
    → ((a b : Entries) → slice_get xs i ≡ Some a → slice_get ys i ≡ Some b → set ≡ merged_ordered a b)
    → new ≡ old ++ set ∷ [] → old ++ merged_sets (drop i xs) (drop i ys) ≡ all
    → new ++ merged_sets (drop (i + 1) xs) (drop (i + 1) ys) ≡ all
sets_pushed xs ys i set old new all within within' merged pushed before =
    let rest = merged_sets (drop (i + 1) xs) (drop (i + 1) ys) in
    let is = merged (get_or xs i []) (get_or ys i []) (slice_get-get_or xs i [] within) (slice_get-get_or ys i [] within') in
    let split : merged_sets (drop i xs) (drop i ys) ≡ set ∷ rest = rw (drop_more xs i [] within, drop_more ys i [] within', is) refl in
    ap (λ l. l ++ rest) pushed ∙ append_assoc old (set ∷ []) rest ∙ ap (λ l. old ++ l) (sym split) ∙ before
