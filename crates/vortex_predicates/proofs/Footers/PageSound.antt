-- Pruning pages by a condition is sound.
use Rattle.std.proofs.Common.{◌≡◌, ◌<◌, ◌≤◌, ◌≢◌, ◌+◌, ◌-◌, ◌⊎◌, ℕ, zero, suc, Bool, true, false, cond, eqb, List, [], ◌∷◌, ◌++◌, Option, Some, None, Ok, length, map, inl, inr, refl, sym, ap, subst, ◌∙◌, arith, length-append}
use Rattle.std.specs.Prelude.{IsTrue, slice_get}
use Rattle.std.proofs.lemmas.Option.{same_Some}
use Rattle.std.proofs.lemmas.List.Elements.{Contains-push_cases}
use Rattle.vortex_base.proofs.Data.ChunkLemmas.{all_long_of}
use Rattle.vortex_base.specs.declared.scalar_value.ScalarValue.{ScalarValue}
use Rattle.vortex_base.specs.Data.Columns.{ChunkData, ColumnData, IsChunk, row_count, row_of}
use Rattle.vortex_base.specs.Data.Exact.{both_true}
use Rattle.vortex_base.specs.Data.Scalars.{Constant}
use Rattle.vortex_base.specs.Data.Scopes.{Named}
use Rattle.vortex_predicates.specs.Pruning.{skipped_places, whole_places}
use Rattle.vortex_parquet.specs.declared.columns.Form.{Form}
use Rattle.vortex_parquet.specs.declared.columns.Leaf.{Leaf}
use Rattle.vortex_parquet.specs.declared.stats.GroupStats.{GroupStats}
use Rattle.vortex_parquet.specs.GroupPages.{TailData}
use Rattle.vortex_parquet.specs.Pages.{ArePagesTrue, PageData, bounded, one_page, values_of}
use Rattle.vortex_parquet.specs.Records.{FileData, RowGroupData}
use Rattle.vortex_parquet.specs.Stats.{Entries, GroupData, all_of, group_view, or_false}
use Rattle.vortex_parquet.specs.Stretches.{AreSetsIn, AreStretches, AreTruePages, PagedData, TrueStretches, column_of_rows}
use Rattle.vortex_parquet.specs.Truth.{AreTrue, Fit}
use Rattle.vortex_parquet.specs.Truth as truth
use Rattle.vortex_parquet.proofs.Sound.{one_ok}
use Rattle.vortex_predicates.specs.RowGroups.Pruning.{IsGroupAt, zone_data}
use Rattle.vortex_prune.specs.Part.{AreTrueSets, IsPartOf, PartData, sets_fit}
use Rattle.vortex_zone_map.specs.Zone.{AreZonesOf, ZoneData, fits_zone}
use Rattle.vortex_zone_map.specs.ZoneMaps.{IsMapOf, MapData, zone_map}
use Rattle.vortex_prune.specs.declared.scan.verdict.Verdict.{Verdict}
use Rattle.vortex_prune.specs.declared.scan.verdict.Verdict.TheVariants.{Skipped, Whole, Tested}
use Rattle.vortex_prune.specs.Scanning.Selection.{is_skipped, is_whole}
use Rattle.vortex_prune.proofs.Scanning.SkippedParts.{place_listed}
use Rattle.vortex_prune.proofs.Honesty.ZoneLemmas.{chunk_alike}
use Rattle.vortex_sql.specs.Lowering.{truth_on}
use Rattle.vortex_sql.specs.Schemas.{SchemaData}
use Rattle.vortex_sql.specs.Pruning.{Confirmed, Refuted}
use Rattle.vortex_predicates.specs.Conditions.Conditions.{IsSoundFor}
use Rattle.vortex_sql.specs.declared.syntax.tree.Condition.{Condition}
use Rattle.vortex_predicates.specs.Footers.PagePruning.{AreTrueLeaves, AreTruePagesOf, DecidesNoFewer, PrunesPages, by_group, by_groups}
use Rattle.vortex_predicates.specs.Footers.Pruning.{PrunesCondition}
use Rattle.vortex_predicates.specs.Footers.PagedGroups.{AreStretchesFrom, AreStretchesIn, PagedGroup, chunk_pages, leaf_column, ranges_from}
use Rattle.vortex_predicates.specs.declared.parquet.page_ranges.PageRange.{PageRange}
use Rattle.vortex_predicates.proofs.Footers.PageGroups.{all_none, all_split, column_is, group_is, groups_paged}
use Rattle.vortex_predicates.proofs.Footers.Slices.{chunk_of_rows, chunk_there, row_same, rows_there}

-- ---- the stretch at a place

no_element : {A : Type 0} (i : ℕ) (x : A) → (let xs : List A = [] in slice_get xs i) ≡ Some x → ⊥
no_element zero x e = absurd cc
no_element (suc i) x e = absurd cc

-- an element of two lists one behind the other
in_either : {A : Type 0} (xs ys : List A) (j : ℕ) (x : A) → slice_get (xs ++ ys) j ≡ Some x → (slice_get xs j ≡ Some x) ⊎ ((k : ℕ) × (j ≡ length xs + k) × (slice_get ys k ≡ Some x))
in_either [] ys j x h = inr (j, omega arith, h)
in_either (y ∷ xs) ys zero x h = inl h
in_either (y ∷ xs) ys (suc j) x h = elim (in_either xs ys j x h) [
  | inl here ↦ inl here
  | inr (k, at, there) ↦ inr (k, omega (arith, at), there)
]

in_front : {A : Type 0} (xs ys : List A) (j : ℕ) (x : A) → slice_get xs j ≡ Some x → slice_get (xs ++ ys) j ≡ Some x
in_front [] ys j x h = absurd (no_element j x h)
in_front (y ∷ xs) ys zero x h = h
in_front (y ∷ xs) ys (suc j) x h = in_front xs ys j x h

behind_all : {A : Type 0} (xs ys : List A) (k : ℕ) → slice_get (xs ++ ys) (length xs + k) ≡ slice_get ys k
behind_all [] ys k = let e : 0 + k ≡ k = omega arith in ap (slice_get ys) e
behind_all (x ∷ xs) ys k = let e : suc (length xs) + k ≡ suc (length xs + k) = omega arith in ap (slice_get (x ∷ xs ++ ys)) e ∙ behind_all xs ys k

-- what is known of a stretch of a row group
record IsStretchIn (g : PagedGroup) (r : PageRange) (s : GroupData) : Type 0 where
  ends : r.end ≡ r.first + s.rows
  within : r.end ≤ g.rows
  sets : AreSetsIn g.columns r.first s.rows s.stats

reaches : (cs : List PagedData) (rows from to : ℕ) (ss : List GroupData) → AreStretches cs rows from to ss → from ≤ to
reaches cs rows from to [] h = omega (arith, h)
reaches cs rows from to (s ∷ ss) h = omega (arith, reaches cs rows (from + s.rows) to ss h.3)

stretch_at : (g : PagedGroup) (i from to : ℕ) (ss : List GroupData) → AreStretches g.columns g.rows from to ss → to ≤ g.rows → (j : ℕ) (r : PageRange) → slice_get (ranges_from i from ss) j ≡ Some r
    → (s : GroupData) × (slice_get ss j ≡ Some s) × (r.group ≡ i) × IsStretchIn g r s
stretch_at g i from to [] h all j r at = absurd (no_element j r at)
stretch_at g i from to (s ∷ ss) h all zero r at =
    let is : record { group = i; first = from; end = from + s.rows } ≡ r = same_Some (record { group = i; first = from; end = from + s.rows }) r at in (
      s,
      refl,
      ap (λ (x : PageRange). x.group) (sym is),
      subst (λ (x : PageRange). IsStretchIn g x s) is (record { ends = refl; within = omega (arith, reaches g.columns g.rows (from + s.rows) to ss h.3, all); sets = h.1 }),
    )
stretch_at g i from to (s ∷ ss) h all (suc j) r at = stretch_at g i (from + s.rows) to ss h.3 all j r at

long : (i from : ℕ) (ss : List GroupData) → length (ranges_from i from ss) ≡ length ss
long i from [] = refl
long i from (s ∷ ss) = ap suc (long i (from + s.rows) ss)

-- the row group of a range, and the stretch
range_at : (gs : List PagedGroup) (i : ℕ) (ranges : List PageRange) (known : List GroupData) → AreStretchesFrom i gs ranges known → (j : ℕ) (r : PageRange) → slice_get ranges j ≡ Some r
    → (m : ℕ) × (g : PagedGroup) × (s : GroupData) × (r.group ≡ i + m) × (slice_get gs m ≡ Some g) × (slice_get known j ≡ Some s) × IsStretchIn g r s
range_at [] i ranges known h j r at = absurd (no_element j r (ap (λ (rs : List PageRange). slice_get rs j) (sym h.0) ∙ at))
range_at (g ∷ gs) i ranges known (ss, more, others, cut, ranges_are, known_are, rest) j r at =
    elim (in_either (ranges_from i 0 ss) more j r (ap (λ (rs : List PageRange). slice_get rs j) (sym ranges_are) ∙ at)) [
      | inl here ↦
          let (s, there, group, is) = stretch_at g i 0 g.rows ss cut (omega arith) j r here in
          (0, g, s, omega (arith, group), refl, ap (λ (ks : List GroupData). slice_get ks j) known_are ∙ in_front ss others j s there, is)
      | inr (k, place, there) ↦
          let (m, h, s, group, inside, known_at, is) = range_at gs (i + 1) more others rest k r there in
          let same : j ≡ length ss + k = place ∙ ap (λ (n : ℕ). n + k) (long i 0 ss) in
          (suc m, h, s, omega (arith, group), inside, ap (λ (ks : List GroupData). slice_get ks j) known_are ∙ ap (slice_get (ss ++ others)) same ∙ behind_all ss others k ∙ known_at, is)
    ]

-- there is a range for each stretch
pub ranges_long : (gs : List PagedGroup) (i : ℕ) (ranges : List PageRange) (known : List GroupData) → AreStretchesFrom i gs ranges known → length ranges ≡ length known
ranges_long [] i ranges known h = ap length h.0 ∙ sym (ap length h.1)
ranges_long (g ∷ gs) i ranges known (ss, more, others, cut, ranges_are, known_are, rest) =
    omega (arith, ap length ranges_are, ap length known_are, length-append (ranges_from i 0 ss) more, length-append ss others, long i 0 ss, ranges_long gs (i + 1) more others rest)

-- ---- the pages are true

nothing_true : (f : Form) (o : Bool) (xs : List (Option ScalarValue)) → AreTrue f o (bounded None None None) xs
nothing_true f o xs = record {
  max = λ t b v e k. absurd cc;
  min = λ t b v e k. absurd cc;
  old_max = λ t b v e k. absurd cc;
  old_min = λ t b v e k. absurd cc;
  null_count = λ n e. absurd cc;
}

whole_true : (f : Form) (o : Bool) (rows : ℕ) (xs : List (Option ScalarValue)) (b : Bool) → ArePagesTrue f o (cond b [] (record { first = 0; end = rows; statistics = bounded None None None } ∷ [])) xs
whole_true f o rows xs true p h = absurd (omega (arith, h.1))
whole_true f o rows xs false p h = elim (Contains-push_cases [] (record { first = 0; end = rows; statistics = bounded None None None }) p h) [
  | inl none ↦ absurd (omega (arith, none.1))
  | inr is ↦ subst (λ (q : PageData). AreTrue f o q.statistics (values_of q.first (q.end - q.first) xs)) is (nothing_true f o (values_of 0 (rows - 0) xs))
]

one_true : (f : Form) (o : Bool) (rows : ℕ) (xs : List (Option ScalarValue)) → ArePagesTrue f o (one_page rows None) xs
one_true f o rows xs = whole_true f o rows xs (eqb rows 0)

chunk_true : (t : TailData) (rows : ℕ) (l : Leaf) (ordered : Bool) (o : Option (List ℕ)) (ps : List PageData) (xs : List (Option ScalarValue)) → chunk_pages t rows l o ≡ Ok ps → AreTruePagesOf t rows l ordered o xs → ArePagesTrue l.form ordered ps xs
unfolding chunk_pages
chunk_true t rows l ordered None ps xs e h = subst (λ (qs : List PageData). ArePagesTrue l.form ordered qs xs) (one_ok (one_page rows None) ps e) (one_true l.form ordered rows xs)
chunk_true t rows l ordered (Some bytes) ps xs e h = h ps e

columns_true : (t : TailData) (orders : List Bool) (g : RowGroupData) (ls : List Leaf) (ks : List ColumnData) (cs : List PagedData) → all_of (leaf_column t orders g) ls ≡ Ok cs → AreTrueLeaves t orders g ls ks → AreTruePages cs ks
columns_true t orders g [] [] cs e h = subst (λ (xs : List PagedData). AreTruePages xs []) (sym (all_none (leaf_column t orders g) cs e)) tt
columns_true t orders g [] (k ∷ ks) cs e h = absurd h
columns_true t orders g (l ∷ ls) [] cs e h = absurd h
columns_true t orders g (l ∷ ls) (k ∷ ks) cs e h =
    let (c, others, first, rest, is) = all_split (leaf_column t orders g) l ls cs e in
    let (ps, pages, made) = column_is t orders g l c first in
    let here : ArePagesTrue l.form (or_false (slice_get orders l.place)) ps k.values = chunk_true t g.rows l (or_false (slice_get orders l.place)) (slice_get g.columns l.place) ps k.values pages h.0 in
    subst (λ (xs : List PagedData). AreTruePages xs (k ∷ ks)) (sym is) (
      subst (λ (x : PagedData). ArePagesTrue x.form x.ordered x.pages k.values) (sym made) here,
      columns_true t orders g ls ks others rest h.1,
    )

-- ---- a stretch is a part of its zone

zone_at : (gs : List GroupStats) (i : ℕ) (y : GroupData) → slice_get (map group_view gs) i ≡ Some y → slice_get (map zone_data gs) i ≡ Some (record { rows = y.rows; stats = y.stats })
zone_at [] i y h = absurd (no_element i y h)
zone_at (g ∷ gs) zero y h = let same : group_view g ≡ y = same_Some (group_view g) y h in ap (λ (x : GroupData). Some (record { rows = x.rows; stats = x.stats })) same
zone_at (g ∷ gs) (suc i) y h = zone_at gs i y h

fit_of : (cs : List ColumnData) (ss : List Entries) → sets_fit cs ss ≡ true → Fit cs ss
fit_of [] [] h = tt
fit_of [] (s ∷ ss) h = absurd cc
fit_of (c ∷ cs) [] h = absurd cc
fit_of (c ∷ cs) (s ∷ ss) h = let b = both_true _ _ h in (b.0, fit_of cs ss b.1)

same_sets : (cs : List ColumnData) (ss : List Entries) → truth.AreTrueSets cs ss → AreTrueSets cs ss
same_sets [] [] h = tt
same_sets [] (s ∷ ss) h = absurd h
same_sets (c ∷ cs) [] h = absurd h
same_sets (c ∷ cs) (s ∷ ss) h = (h.0, same_sets cs ss h.1)

-- the rows of a stretch with the sets of their pages
abbrev part_of_rows : (from : ℕ) → GroupData → ChunkData → PartData
part_of_rows from s k = record { chunk = chunk_of_rows from s.rows k; stats = s.stats }

part_there : (scope : List Named) (from : ℕ) (s : GroupData) (k : ChunkData) → IsChunk k → k.scope ≡ scope → from + s.rows ≤ row_count k.columns → IsTrue (fits_zone scope s.stats)
    → IsPartOf scope (record { rows = s.rows; stats = s.stats }) (part_of_rows from s k)
part_there scope from s k chunk scoped inside fits =
    let there = chunk_there from s.rows k chunk inside in
    let fit : sets_fit (map (column_of_rows from s.rows) k.columns) s.stats ≡ true = sym (chunk_alike (chunk_of_rows from s.rows k) s.stats there) ∙ subst (λ (ns : List Named). fits_zone ns s.stats ≡ true) (sym scoped) fits in
    record {
      is_part = (there, fit);
      scoped = scoped;
      known = ap (λ (n : ℕ). record { rows = n; stats = s.stats }) (rows_there from s.rows k.columns inside);
    }

-- ---- what is said of a row of it is said of one of the row group

module _ (s : SchemaData) (c : Condition) (from n row : ℕ) (k : List ColumnData) (after : from ≤ row) (before : row < from + n) where
  row_is : row_of (row - from) (map (column_of_rows from n) k) ≡ row_of row k
  row_is = row_same from n (row - from) (omega (arith, after, before)) k ∙ (let e : from + (row - from) ≡ row = omega (arith, after) in ap (λ (r : ℕ). row_of r k) e)

  refuted : Refuted s c (map (column_of_rows from n) k) (row - from) → Refuted s c k row
  refuted h f = subst (λ (r : List Constant). truth_on s r f c ≢ Some true) row_is (h f)

  confirmed : Confirmed s c (map (column_of_rows from n) k) (row - from) → Confirmed s c k row
  confirmed h f = subst (λ (r : List Constant). truth_on s r f c ≡ Some true) row_is (h f)

-- ---- pruning

pub prunes_pages : TrueStretches → (columns : SchemaData) (c : Condition) (t : TailData) (ls : List Leaf) (count : ℕ) (file : FileData) (ranges : List PageRange) (gs : List GroupStats) (m : MapData) (vs : List Verdict)
    → m ≡ zone_map columns.scope (map zone_data gs) → IsMapOf (map zone_data gs) m
    → ((zones : List ZoneData) → IsMapOf zones m → IsSoundFor columns c zones (skipped_places vs) (whole_places vs))
    → AreStretchesIn t ls count file ranges (map group_view gs) → PrunesPages columns c t ls file ranges (skipped_places vs) (whole_places vs)
prunes_pages true_stretches columns c t ls count file ranges gs m vs made is_map sound known i r g k at here may =
    let same : m.scope ≡ columns.scope = ap (λ (x : MapData). x.scope) made in
    let zones : AreZonesOf columns.scope (map zone_data gs) = subst (λ (ns : List Named). AreZonesOf ns (map zone_data gs)) same is_map.are_zones in
    let judged = sound (map zone_data gs) is_map in
    let (place, p, s, group, inside, known_at, is) = range_at known.groups 0 ranges (map group_view gs) known.are_stretches i r at in
    let (q, paged, read) = groups_paged t ls count file known.groups here.groups known.are_groups here.are_groups r.group g here.here in
    let (cs, all, whole) = group_is t ls count file.orders g q read in
    let where_is : r.group ≡ place = omega (arith, group) in
    let alike : p ≡ q = same_Some p q (sym inside ∙ ap (slice_get known.groups) (sym where_is) ∙ paged) in
    let stretch : IsStretchIn (record { rows = g.rows; columns = cs }) r s = subst (λ (x : PagedGroup). IsStretchIn x r s) (alike ∙ whole) is in
    let rows : ℕ = row_count k.columns in
    let fits_in : r.first + s.rows ≤ rows = omega (arith, stretch.ends, stretch.within, may.counted) in
    let zone : ZoneData = record { rows = s.rows; stats = s.stats } in
    let zone_is : slice_get (map zone_data gs) i ≡ Some zone = zone_at gs i s known_at in
    let part = part_there columns.scope r.first s k may.is_chunk may.scoped fits_in (zones i zone zone_is) in
    let sliced : List ColumnData = map (column_of_rows r.first s.rows) k.columns in
    let true_sets = true_stretches cs k.columns rows r.first s.rows s.stats stretch.sets fits_in (all_long_of k may.is_chunk) (columns_true t file.orders g ls k.columns cs all may.are_true) (fit_of sliced s.stats part.is_part.1) in
    let told = judged i zone (part_of_rows r.first s k) zone_is part (same_sets sliced s.stats true_sets) in
    let many : row_count sliced ≡ s.rows = rows_there r.first s.rows k.columns fits_in in (
      λ skip row after before. let b : row < r.first + s.rows = omega (arith, stretch.ends, before) in refuted columns c r.first s.rows row k.columns after b (told.0 skip (row - r.first) (omega (arith, many, after, b))),
      λ each row after before. let b : row < r.first + s.rows = omega (arith, stretch.ends, before) in confirmed columns c r.first s.rows row k.columns after b (told.1 each (row - r.first) (omega (arith, many, after, b))),
    )

-- ---- with the verdicts on row groups

range_inside : (t : TailData) (ls : List Leaf) (count : ℕ) (file : FileData) (ranges : List PageRange) (known : List GroupData) → AreStretchesIn t ls count file ranges known
    → (i : ℕ) (r : PageRange) (g : RowGroupData) → slice_get ranges i ≡ Some r → IsGroupAt file r.group g → r.end ≤ g.rows
range_inside t ls count file ranges known found i r g at here =
    let (place, p, s, group, inside, known_at, is) = range_at found.groups 0 ranges known found.are_stretches i r at in
    let (q, paged, read) = groups_paged t ls count file found.groups here.groups found.are_groups here.are_groups r.group g here.here in
    let (cs, all, whole) = group_is t ls count file.orders g q read in
    let where_is : r.group ≡ place = omega (arith, group) in
    let alike : p ≡ q = same_Some p q (sym inside ∙ ap (slice_get found.groups) (sym where_is) ∙ paged) in
    let rows : p.rows ≡ g.rows = ap (λ (x : PagedGroup). x.rows) (alike ∙ whole) in
    omega (arith, is.within, rows)

-- an element beside one of another list
beside : {A B : Type 0} (xs : List A) (ys : List B) (i : ℕ) (x : A) → length ys ≡ length xs → slice_get xs i ≡ Some x → (y : B) × (slice_get ys i ≡ Some y)
beside [] ys i x e h = absurd (no_element i x h)
beside (z ∷ xs) [] i x e h = absurd (omega (arith, e))
beside (z ∷ xs) (y ∷ ys) zero x e h = (y, refl)
beside (z ∷ xs) (y ∷ ys) (suc i) x e h = beside xs ys i x (omega (arith, e)) h

by_at : (groups : List Verdict) (rs : List PageRange) (vs : List Verdict) (i : ℕ) (r : PageRange) (v : Verdict) → slice_get rs i ≡ Some r → slice_get vs i ≡ Some v
    → slice_get (by_groups groups rs vs) i ≡ Some (by_group (slice_get groups r.group) v)
by_at groups [] vs i r v at there = absurd (no_element i r at)
by_at groups (q ∷ rs) [] i r v at there = absurd (no_element i v there)
by_at groups (q ∷ rs) (w ∷ vs) zero r v at there =
    ap (λ (x : PageRange). Some (by_group (slice_get groups x.group) w)) (same_Some q r at) ∙ ap (λ (y : Verdict). Some (by_group (slice_get groups r.group) y)) (same_Some w v there)
by_at groups (q ∷ rs) (w ∷ vs) (suc i) r v at there = by_at groups rs vs i r v at there

skipped_by : (o : Option Verdict) (v : Verdict) → is_skipped (by_group o v) ≡ true → (o ≡ Some Skipped) ⊎ (is_skipped v ≡ true)
skipped_by None v h = inr h
skipped_by (Some Skipped) v h = inl refl
skipped_by (Some Whole) v h = absurd cc
skipped_by (Some Tested) v h = inr h

whole_by : (o : Option Verdict) (v : Verdict) → is_whole (by_group o v) ≡ true → (o ≡ Some Whole) ⊎ (is_whole v ≡ true)
whole_by None v h = inr h
whole_by (Some Skipped) v h = absurd cc
whole_by (Some Whole) v h = inl refl
whole_by (Some Tested) v h = inr h

-- there is a verdict for each stretch
pub by_groups_long : (groups : List Verdict) (rs : List PageRange) (vs : List Verdict) → length vs ≡ length rs → length (by_groups groups rs vs) ≡ length rs
by_groups_long groups [] vs e = refl
by_groups_long groups (r ∷ rs) [] e = absurd (omega (arith, e))
by_groups_long groups (r ∷ rs) (v ∷ vs) e = ap suc (by_groups_long groups rs vs (omega (arith, e)))

pub no_fewer : (groups : List Verdict) (ranges : List PageRange) (own : List Verdict) → length own ≡ length ranges → DecidesNoFewer groups ranges (by_groups groups ranges own)
no_fewer groups ranges own long i r at =
    let (v, there) = beside ranges own i r long at in
    let joined = by_at groups ranges own i r v at there in (
      λ is. joined ∙ ap (λ (o : Option Verdict). Some (by_group o v)) is,
      λ is. joined ∙ ap (λ (o : Option Verdict). Some (by_group o v)) is,
    )

pub prunes_by_groups : (columns : SchemaData) (c : Condition) (t : TailData) (ls : List Leaf) (count : ℕ) (file : FileData) (ranges : List PageRange) (known : List GroupData) (own groups : List Verdict)
    → AreStretchesIn t ls count file ranges known → length own ≡ length ranges
    → PrunesPages columns c t ls file ranges (skipped_places own) (whole_places own) → PrunesCondition columns c ls file (skipped_places groups) (whole_places groups)
    → PrunesPages columns c t ls file ranges (skipped_places (by_groups groups ranges own)) (whole_places (by_groups groups ranges own))
prunes_by_groups columns c t ls count file ranges known own groups found long by_pages by_footer i r g k at here may =
    let (v, there) = beside ranges own i r long at in
    let joined = by_at groups ranges own i r v at there in
    let inside : r.end ≤ row_count k.columns = omega (arith, range_inside t ls count file ranges known found i r g at here, may.counted) in
    let pages = by_pages i r g k at here may in
    let group = by_footer r.group g k here (record { is_chunk = may.is_chunk; scoped = may.scoped; counted = may.counted; are_true = may.by_footer }) in (
      λ skip row after before. elim (skipped_by (slice_get groups r.group) v ((place_listed is_skipped (by_groups groups ranges own) i (by_group (slice_get groups r.group) v) joined).0 skip)) [
        | inl is ↦ group.0 ((place_listed is_skipped groups r.group Skipped is).1 refl) row (omega (arith, inside, before))
        | inr is ↦ pages.0 ((place_listed is_skipped own i v there).1 is) row after before
      ],
      λ each row after before. elim (whole_by (slice_get groups r.group) v ((place_listed is_whole (by_groups groups ranges own) i (by_group (slice_get groups r.group) v) joined).0 each)) [
        | inl is ↦ group.1 ((place_listed is_whole groups r.group Whole is).1 refl) row (omega (arith, inside, before))
        | inr is ↦ pages.1 ((place_listed is_whole own i v there).1 is) row after before
      ],
    )
