-- Pruning row groups is sound.
use Rattle.std.proofs.Common.{◌≡◌, ◌⊎◌, inl, inr, ℕ, zero, suc, Bool, true, false, cond, eqb, List, [], ◌∷◌, length, Option, Some, Result, Ok, Err, refl, sym, ap, subst, ◌∙◌, map}
use Rattle.std.specs.Prelude.{IfErr, IsTrue, slice_get}
use Rattle.vortex_base.specs.Data.Columns.{ChunkData, ColumnData, IsChunk, row_count}
use Rattle.vortex_base.specs.Data.Exact.{both_true}
use Rattle.vortex_base.specs.Data.Scopes.{Named}
use Rattle.vortex_expr.specs.Trees.Tree.{Place, Tree}
use Rattle.vortex_parquet.specs.declared.columns.Leaf.{Leaf}
use Rattle.vortex_parquet.specs.declared.fault.Fault.{Fault}
use Rattle.vortex_parquet.specs.declared.fault.Fault.TheVariants as fault
use Rattle.vortex_parquet.specs.declared.stats.GroupStats.{GroupStats}
use Rattle.vortex_parquet.specs.Reading.{◌>>=◌}
use Rattle.vortex_parquet.specs.Records.{FileData, RowGroupData}
use Rattle.vortex_parquet.specs.Stats.{Entries, GroupData, all_of, group_of, group_view, groups_of, leaf_set, size_of}
use Rattle.vortex_parquet.specs.Truth.{Fit, KnownGroups, TrueGroups}
use Rattle.vortex_parquet.specs.Truth as truth
use Rattle.vortex_parquet.proofs.Sound.{bind_ok, one_ok}
use Rattle.vortex_prune.specs.Part.{AreTrueSets, IsPartOf, sets_fit}
use Rattle.vortex_zone_map.specs.Zone.{AreZonesOf, ZoneData, fits_zone, zones_fit}
use Rattle.vortex_zone_map.specs.ZoneMaps.{IsMapOf, MapData, zone_map}
use Rattle.vortex_prune.proofs.Honesty.ZoneLemmas.{chunk_alike}
use Rattle.vortex_prune.specs.Scanning.ZoneScans.{IsSoundPruning}
use Rattle.vortex_predicates.specs.RowGroups.Pruning.{GroupsAreParts, IsPruningRefusal, PrunesSoundly, zone_data}
use Rattle.std.proofs.lemmas.Result.{IfErr-weaker}
use Rattle.vortex_prune.specs.Scanning.ZoneScans.{most_causes}
use Rattle.vortex_rewrite.specs.Answers.{IsMemory}
use Rattle.vortex_rewrite.specs.Causes.{IsRefusal}
use Rattle.vortex_rewrite.specs.Rewriting.Lawful.{OwnRule}
use Rattle.vortex_rewrite.specs.Rewriting.Predicates.{is_predicate}
use Rattle.vortex_stats.specs.declared.error.StatsError.{StatsError}
use Rattle.vortex_stats.specs.declared.error.StatsError.TheVariants.{Mismatch, NotPredicate}

guard_not : {A : Type 0} (b : Bool) (d : Fault) (r : Result A Fault) (y : A) → cond b r (Err d) ≡ Ok y → (b ≡ true) × (r ≡ Ok y)
guard_not true d r y e = (refl, e)
guard_not false d r y e = absurd cc

-- what a row group is known as
group_is : (ls : List Leaf) (count : ℕ) (orders : List Bool) (g : RowGroupData) (y : GroupData) → group_of ls count orders g ≡ Ok y
    → (sets : List Entries) × (size : Option ℕ) × (all_of (leaf_set orders g.columns) ls ≡ Ok sets) × (y ≡ record { rows = g.rows; size = size; stats = sets })
unfolding group_of
group_is ls count orders g y e =
    let known : List Entries → Result GroupData Fault = λ sets. size_of g.size g.columns >>= λ size. Ok (record { rows = g.rows; size = size; stats = sets }) in
    let t = guard_not (eqb (length g.columns) count) fault.Columns (all_of (leaf_set orders g.columns) ls >>= known) y e in
    let b = bind_ok (all_of (leaf_set orders g.columns) ls) known y t.1 in
    let d = bind_ok (size_of g.size g.columns) (λ size. Ok (record { rows = g.rows; size = size; stats = b.0 })) y b.2 in
    (b.0, d.0, b.1, sym (one_ok (record { rows = g.rows; size = d.0; stats = b.0 }) y d.2))

zone_at : (gs : List GroupStats) (i : ℕ) (y : GroupData) → slice_get (map group_view gs) i ≡ Some y → slice_get (map zone_data gs) i ≡ Some (record { rows = y.rows; stats = y.stats })
zone_at [] i y h = absurd cc
zone_at (g ∷ gs) zero y h = let same : group_view g ≡ y = cc in ap (λ (x : GroupData). Some (record { rows = x.rows; stats = x.stats })) same
zone_at (g ∷ gs) (suc i) y h = zone_at gs i y h

fit_of : (cs : List ColumnData) (ss : List Entries) → sets_fit cs ss ≡ true → Fit cs ss
fit_of [] [] h = tt
fit_of [] (s ∷ ss) h = absurd cc
fit_of (c ∷ cs) [] h = absurd cc
fit_of (c ∷ cs) (s ∷ ss) h = let b = both_true _ _ h in (b.0, fit_of cs ss b.1)

same_sets : (cs : List ColumnData) (ss : List Entries) → truth.AreTrueSets cs ss → AreTrueSets cs ss
same_sets [] [] h = tt
same_sets [] (s ∷ ss) h = absurd h
same_sets (c ∷ cs) [] h = absurd h
same_sets (c ∷ cs) (s ∷ ss) h = (h.0, same_sets cs ss h.1)

-- the rows of a chunk with the sets of a row group are a part of its zone
part_of : (scope : List Named) (stats : List Entries) (rows : ℕ) (k : ChunkData) → IsChunk k → k.scope ≡ scope → row_count k.columns ≡ rows → IsTrue (fits_zone scope stats)
    → IsPartOf scope (record { rows = rows; stats = stats }) (record { chunk = k; stats = stats })
part_of scope stats rows k chunk scoped many fits =
    let fit : sets_fit k.columns stats ≡ true = sym (chunk_alike k stats chunk) ∙ subst (λ (ns : List Named). fits_zone ns stats ≡ true) (sym scoped) fits in
    record {
      is_part = (chunk, fit);
      scoped = scoped;
      known = ap (λ (n : ℕ). record { rows = n; stats = stats }) many;
    }

pub parts_of : TrueGroups → KnownGroups → GroupsAreParts
parts_of sets known scope ls gs zones file count e i g k at may =
    let y = known ls count file (map group_view gs) at.groups e at.are_groups i g at.here in
    let b = group_is ls count file.orders g y.0 y.2 in
    let zone : ZoneData = record { rows = g.rows; stats = b.0 } in
    let here : slice_get (map zone_data gs) i ≡ Some zone = zone_at gs i y.0 y.1 ∙ ap (λ (x : GroupData). Some (record { rows = x.rows; stats = x.stats })) b.3 in
    let part = part_of scope b.0 g.rows k may.is_chunk may.scoped may.counted (zones i zone here) in
    (zone, here, part, same_sets k.columns b.0 (sets file.orders g.columns ls k.columns b.0 b.2 (fit_of k.columns b.0 part.is_part.1) may.are_true))

pub prunes_soundly : GroupsAreParts → (p : Tree Place) (scope : List Named) (ls : List Leaf) (gs : List GroupStats) (m : MapData) (skipped whole : List ℕ) → m ≡ zone_map scope (map zone_data gs) → IsMapOf (map zone_data gs) m
    → ((zones : List ZoneData) → IsMapOf zones m → IsSoundPruning p m.scope zones skipped whole)
    → (file : FileData) (count : ℕ) → groups_of ls count file ≡ Ok (map group_view gs) → PrunesSoundly p scope ls file skipped whole
prunes_soundly parts p scope ls gs m skipped whole made is_map sound file count e i g k at may =
    let same : m.scope ≡ scope = ap (λ (x : MapData). x.scope) made in
    let zones : AreZonesOf scope (map zone_data gs) = subst (λ (ns : List Named). AreZonesOf ns (map zone_data gs)) same is_map.are_zones in
    let x = parts scope ls gs zones file count e i g k at may in
    let here : IsSoundPruning p scope (map zone_data gs) skipped whole = subst (λ (ns : List Named). IsSoundPruning p ns (map zone_data gs) skipped whole) same (sound (map zone_data gs) is_map) in
    here i x.0 (record { chunk = k; stats = x.0.stats }) x.1 x.2 x.3

-- ---- refusals

pub no_map : (own : List OwnRule) (p : Tree Place) (scope : List Named) (zones : List ZoneData) (e : StatsError) → IsMemory e ⊎ ((zones_fit scope zones ≡ false) × (e ≡ Mismatch)) → IsPruningRefusal own p scope zones e
no_map own p scope zones e h = elim h [
  | inl memory ↦ inr (inr (subst (IsRefusal (most_causes own p (map (λ zone. zone.rows) zones))) (sym memory) tt))
  | inr misfit ↦ inr (inl misfit)
]

refused_by : {X : Type 0} (own : List OwnRule) (p : Tree Place) (scope : List Named) (zones : List ZoneData) (r : Result X StatsError) (b : Bool) → is_predicate p ≡ b → (is_predicate p ≡ false → r ≡ Err NotPredicate)
    → (IsTrue (is_predicate p) → IfErr r (IsRefusal (most_causes own p (map (λ zone. zone.rows) zones)))) → IfErr r (IsPruningRefusal own p scope zones)
refused_by own p scope zones r true e not_one h = IfErr-weaker r _ _ (λ f refused. inr (inr refused)) (h e)
refused_by {X} own p scope zones r false e not_one h = subst (λ (x : Result X StatsError). IfErr x (IsPruningRefusal own p scope zones)) (sym (not_one e)) (inl (e, refl))

pub pruning_refused : {X : Type 0} (own : List OwnRule) (p : Tree Place) (scope : List Named) (zones : List ZoneData) (m : MapData) (r : Result X StatsError) → m ≡ zone_map scope zones → (is_predicate p ≡ false → r ≡ Err NotPredicate)
    → (IsTrue (is_predicate p) → IfErr r (IsRefusal (most_causes own p m.rows))) → IfErr r (IsPruningRefusal own p scope zones)
pruning_refused own p scope zones m r made not_one h =
    refused_by own p scope zones r (is_predicate p) refl not_one (λ is. subst (λ (k : MapData). IfErr r (IsRefusal (most_causes own p k.rows))) made (h is))
