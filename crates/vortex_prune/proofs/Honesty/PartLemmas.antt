-- A part has as many sets as columns.
use Rattle.std.proofs.Common.{◌≡◌, ◌<◌, ℕ, zero, suc, true, List, [], ◌∷◌, Some, length, map, get_or, refl, sym, ap, subst, ◌∙◌, arith}
use Rattle.std.specs.Prelude.{slice_get}
use Rattle.std.proofs.lemmas.List.{length-map}
use Rattle.std.proofs.lemmas.Option.{slice_get_read}
use lib.Pointwise.{pointwise_long}
use Rattle.vortex_base.specs.Data.Columns.{ChunkData, ColumnData, IsChunk, has_types}
use Rattle.vortex_base.specs.Data.Exact.{both_true}
use Rattle.vortex_base.specs.Data.Scopes.{Named}
use Rattle.vortex_base.specs.Data.Types.{dtype_eq, dtype_eq_is_exact}
use Rattle.vortex_base.specs.declared.dtype.DType.{DType}
use Rattle.vortex_prune.specs.Part.{IsPart, PartData, sets_fit}
use Rattle.vortex_zone_map.specs.Zone.{Entries}
use Rattle.vortex_stats.specs.Sets.Entries.{entries_fit}
use Rattle.vortex_zone_map.proofs.ZoneLemmas.{scope_long}

-- a part has a set for each column
pub stats_within : (p : PartData) (i : ℕ) → IsPart p → i < length p.chunk.scope → i < length p.stats
stats_within p i h within =
    let scope = scope_long p.chunk h.0 in
    let types = pointwise_long (λ t es. entries_fit es t) (map (λ (c : ColumnData). c.dtype) p.chunk.columns) p.stats h.1 in
    let columns = length-map p.chunk.columns (λ (c : ColumnData). c.dtype) in
    omega arith

-- the same of a part as it is seen
pub seen_within : (p seen : PartData) (i : ℕ) → p ≡ seen → IsPart p → i < length seen.chunk.scope → i < length p.stats
seen_within p seen i is h within = stats_within p i h (subst (λ (x : PartData). i < length x.chunk.scope) (sym is) within)

-- the set of a column is there
pub stats_there : (p seen : PartData) (i : ℕ) (es : Entries) → p ≡ seen → IsPart p → i < length seen.chunk.scope → es ≡ get_or p.stats i es → slice_get seen.stats i ≡ Some es
stats_there p seen i es is h within there =
    let q = seen_within p seen i is h within in
    ap (λ (x : PartData). slice_get x.stats i) (sym is) ∙ slice_get_read p.stats (length p.stats) i es refl q there

fits_at : (cs : List ColumnData) (ss : List Entries) (i : ℕ) (c : ColumnData) (es : Entries) → sets_fit cs ss ≡ true → slice_get cs i ≡ Some c → slice_get ss i ≡ Some es
    → entries_fit es c.dtype ≡ true
fits_at [] ss i c es h there set = cc
fits_at (x ∷ xs) [] i c es h there set = cc
fits_at (x ∷ xs) (s ∷ ss) zero c es h there set = (let same : x ≡ c = cc in let own : s ≡ es = cc in rw (← same, ← own) ((both_true _ _ h).0))
fits_at (x ∷ xs) (s ∷ ss) (suc i) c es h there set = fits_at xs ss i c es (both_true _ _ h).1 there set

-- the set of a column fits its type
pub part_set_fits : (p : PartData) (i : ℕ) (c : ColumnData) (es : Entries) → IsPart p → slice_get p.chunk.columns i ≡ Some c → slice_get p.stats i ≡ Some es → entries_fit es c.dtype ≡ true
part_set_fits p i c es h there set = fits_at p.chunk.columns p.stats i c es h.1 there set

same_types : (r s t : DType) → dtype_eq r s ≡ true → dtype_eq r t ≡ true → s ≡ t
same_types r s t p q = sym ((dtype_eq_is_exact r s).0 p) ∙ (dtype_eq_is_exact r t).0 q

other_fits_at : (ns : List Named) (cs ds : List ColumnData) (ss : List Entries) (i : ℕ) (c : ColumnData) (es : Entries) → has_types ns cs ≡ true → has_types ns ds ≡ true → sets_fit ds ss ≡ true
    → slice_get cs i ≡ Some c → slice_get ss i ≡ Some es → entries_fit es c.dtype ≡ true
other_fits_at ns [] ds ss i c es p q h there set = cc
other_fits_at [] (x ∷ xs) ds ss i c es p q h there set = cc
other_fits_at (n ∷ ns) (x ∷ xs) [] ss i c es p q h there set = cc
other_fits_at (n ∷ ns) (x ∷ xs) (d ∷ ds) [] i c es p q h there set = cc
other_fits_at (n ∷ ns) (x ∷ xs) (d ∷ ds) (s ∷ ss) zero c es p q h there set =
    let same : x ≡ c = cc in
    let own : s ≡ es = cc in
    let types : d.dtype ≡ x.dtype = same_types n.1 d.dtype x.dtype (both_true _ _ q).0 (both_true _ _ p).0 in
    let fits : entries_fit s d.dtype ≡ true = (both_true _ _ h).0 in
    rw (← same, ← own, ← types) fits
other_fits_at (n ∷ ns) (x ∷ xs) (d ∷ ds) (s ∷ ss) (suc i) c es p q h there set =
    other_fits_at ns xs ds ss i c es (both_true _ _ p).1 (both_true _ _ q).1 (both_true _ _ h).1 there set

pub types_of : (k : ChunkData) → IsChunk k → has_types k.scope k.columns ≡ true
types_of k h = (both_true _ _ (both_true _ _ (both_true _ _ h).1).1).0

-- the set of a column of another part of the same scope fits it too
pub other_set_fits : (p q : PartData) (i : ℕ) (c : ColumnData) (es : Entries) → IsPart p → IsPart q → p.chunk.scope ≡ q.chunk.scope
    → slice_get p.chunk.columns i ≡ Some c → slice_get q.stats i ≡ Some es → entries_fit es c.dtype ≡ true
other_set_fits p q i c es h g same there set =
    other_fits_at p.chunk.scope p.chunk.columns q.chunk.columns q.stats i c es (types_of p.chunk h.0)
    (subst (λ (ns : List Named). has_types ns q.chunk.columns ≡ true) (sym same) (types_of q.chunk g.0)) g.1 there set
