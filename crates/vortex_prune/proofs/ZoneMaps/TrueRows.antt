-- A row of the table that is true of some rows answers placeholders by facts of them, so what it proves of them is so.
use Rattle.std.proofs.Common.{◌≡◌, ◌<◌, ◌+◌, ℕ, zero, suc, true, false, List, [], ◌∷◌, Option, Some, None, arith, length, refl, subst, sym, ap, ap₂, ◌∙◌}
use Rattle.std.specs.Prelude.{Contains, Err, IfOk, IsTrue, MatchBool, Ok, Result, option_map, slice_get}
use Rattle.std.specs.List.{enumerate_from}
use Rattle.std.proofs.lemmas.List.{length-map}
use Rattle.std.proofs.lemmas.List.FromFn.{length-enumerate_from}
use Rattle.std.proofs.lemmas.Option.{slice_get-map, slice_get_within}
use Rattle.vortex_base.proofs.Data.RowLemmas.{row_of-IsRow}
use Rattle.vortex_base.specs.Data.Columns.{ColumnData, ChunkData, cell_value, is_row, row_count as rows_of, row_of}
use Rattle.vortex_base.specs.Data.Exact.{both_true}
use Rattle.vortex_base.specs.Data.Scalars.{Constant, is_optional_value}
use Rattle.vortex_base.specs.Data.Scopes.{Named}
use Rattle.vortex_base.specs.Data.Types.{as_nullable, dtype_eq, dtype_eq_is_exact, eq_ignore_nullability}
use Rattle.vortex_base.specs.declared.aggregate.AggregateFnRef.{AggregateFnRef}
use Rattle.vortex_base.specs.declared.dtype.DType.{DType}
use Rattle.vortex_expr.specs.Meanings.Fitting.{fits_scope}
use Rattle.vortex_expr.specs.Meanings.Typing.{stat_type, type_of}
use Rattle.vortex_expr.specs.Trees.Tree.{Place, Tree, column, is_plain, stat}
use Rattle.vortex_prune.proofs.Honesty.HonestParts.{columns_long}
use Rattle.vortex_prune.proofs.Honesty.HonestStats.{column_long, no_fact, stat_fact, true_set, values_meant}
use Rattle.vortex_prune.proofs.Honesty.PartLemmas.{types_of}
use Rattle.vortex_prune.proofs.Scanning.BinderScan.{element_there}
use Rattle.vortex_prune.proofs.Scanning.PartScanLemmas.{skipped_by}
use Rattle.vortex_prune.proofs.Scanning.SkippedParts.{place_listed}
use Rattle.vortex_prune.proofs.Scanning.WholeScan.{predicate_typed}
use Rattle.vortex_prune.proofs.ZoneMaps.ZonePruned.{each_by, none_by, whole_proved}
use Rattle.vortex_prune.proofs.ZoneMaps.ZoneRows.{cell_is, row_is_zone_row}
use Rattle.vortex_prune.proofs.ZoneMaps.ZoneScan.{row_count_at, same_lists}
use Rattle.vortex_zone_map.proofs.ZoneMaps.HeadPlaces.{place_of, pointwise_at}
use Rattle.vortex_prune.specs.Part.{IsPartOf, IsTruePart, PartData}
use Rattle.vortex_zone_map.specs.Zone.{Entries, ZoneData}
use Rattle.vortex_prune.specs.Scanning.Selection.{is_skipped, is_whole, places_where, proves_of}
use Rattle.vortex_prune.specs.Scanning.TrueRows.{EachRowOf, IsTrueRow, ZonesHaveTrueRows, value_in}
use Rattle.vortex_prune.specs.Scanning.ZoneScans.{AreRowVerdicts, EachSatisfies, row_values, row_verdict, row_verdicts}
use Rattle.vortex_prune.specs.Zones.{cell_at}
use Rattle.vortex_zone_map.specs.ZoneMaps.{HasTable, StatColumn, IsMapOf, MapData, head, heads, set_value, type_or_null, zone_place, zone_type}
use Rattle.vortex_prune.specs.declared.scan.verdict.Verdict.{Verdict}
use Rattle.vortex_rewrite.proofs.NullErasure.{typed_null}
use Rattle.vortex_rewrite.specs.Facts.{IsFact, IsHonest, is_column_of, is_over, meanings, size_of}
use Rattle.vortex_rewrite.specs.Rewriting.Falsifiers.{falsifier, satisfier}
use Rattle.vortex_rewrite.specs.Rewriting.Lawful.{OwnRule}
use Rattle.vortex_rewrite.specs.Rewriting.Predicates.{is_predicate}
use Rattle.vortex_rewrite.specs.StateTypes.{same_stat_type}

-- ---- what the row answers are facts

-- each value of a row may stand under its type
value_typed : (cs : List Constant) (j : ℕ) (c : Constant) → is_row cs ≡ true → slice_get cs j ≡ Some c → is_optional_value c.value c.dtype ≡ true
value_typed [] j c h at = absurd cc
value_typed (x ∷ cs) zero c h at = let same : x ≡ c = cc in subst (λ (y : Constant). is_optional_value y.value y.dtype ≡ true) same (both_true _ _ h).0
value_typed (x ∷ cs) (suc j) c h at = value_typed cs j c (both_true _ _ h).1 at

module _ (m : MapData) (table : HasTable m) (r : ℕ) (k : ChunkData) (row : IsTrueRow m r k) where
  -- the row is one of the table's
  within : r < rows_of m.table.columns
  within = omega (arith, slice_get_within m.rows r (rows_of k.columns) row.counted, table.counted)

  -- the column that a head tells of is there
  column_there : (i : ℕ) (d : Named) → slice_get m.scope i ≡ Some d → (c : ColumnData) × (slice_get k.columns i ≡ Some c) × (dtype_eq d.1 c.dtype ≡ true)
  column_there i d there =
      pointwise_at (λ (s : Named) (c : ColumnData). dtype_eq s.1 c.dtype) k.scope k.columns i d (types_of k row.is_chunk) (ap (λ (s : List Named). slice_get s i) row.scoped ∙ there)

  fact_there : (f : AggregateFnRef) (c : Place) (j : ℕ) → zone_place m.scope c.index f c.dtype ≡ Some j
      → MatchBool (is_column_of c.dtype (slice_get k.columns c.index)) (IsFact f (value_in m r j) (meanings (column c) k.columns) (option_map (λ (d : ColumnData). d.size) (slice_get k.columns c.index))) (value_in m r j ≡ None)
  fact_there f c j placed =
      let q = place_of m.scope c.index f c.dtype j placed in
      let own = column_there c.index q.0 q.1 in
      let v = value_in m r j in
      let typed : is_column_of c.dtype (Some own.0) ≡ true = ap (λ t. eq_ignore_nullability t c.dtype) (sym ((dtype_eq_is_exact q.0.1 own.0.dtype).0 own.2)) ∙ q.2 in
      let fact : IsFact f v (meanings (column c) k.columns) (Some own.0.size) =
      subst (λ xs. IsFact f v xs (Some own.0.size)) (values_meant c k.columns own.0 (columns_long k row.is_chunk) own.1) (row.facts j (head c.index q.0 f) own.0 q.3 own.1) in
      subst (λ (o : Option ColumnData). MatchBool (is_column_of c.dtype o) (IsFact f v (meanings (column c) k.columns) (option_map (λ (d : ColumnData). d.size) o)) (v ≡ None)) (sym own.1)
      (subst (λ b. MatchBool b (IsFact f v (meanings (column c) k.columns) (Some own.0.size)) (v ≡ None)) (sym typed) fact)

  place_fact : (f : AggregateFnRef) (c : Place) (o : Option ℕ) → zone_place m.scope c.index f c.dtype ≡ o
      → MatchBool (is_column_of c.dtype (slice_get k.columns c.index)) (IsFact f (cell_at (row_of r m.table.columns) o) (meanings (column c) k.columns) (option_map (λ (d : ColumnData). d.size) (slice_get k.columns c.index))) (cell_at (row_of r m.table.columns) o ≡ None)
  place_fact f c None e = no_fact (is_column_of c.dtype (slice_get k.columns c.index)) f (meanings (column c) k.columns) (option_map (λ (d : ColumnData). d.size) (slice_get k.columns c.index))
  place_fact f c (Some j) e = fact_there f c j e

  row_fact : (f : AggregateFnRef) (x : Tree Place) → MatchBool (is_over x k.columns) (IsFact f (row_values m r f x) (meanings x k.columns) (size_of x k.columns)) (row_values m r f x ≡ None)
  row_fact f (column c) = place_fact f c (zone_place m.scope c.index f c.dtype) refl
  row_fact f x = no_fact (is_over x k.columns) f (meanings x k.columns) (size_of x k.columns)

  place_type : (f : AggregateFnRef) (c : Place) (t : DType) → stat_type f c.dtype ≡ Ok t → (o : Option ℕ) → zone_place m.scope c.index f c.dtype ≡ o → is_optional_value (cell_at (row_of r m.table.columns) o) t ≡ true
  place_type f c t h None e = typed_null f (Ok c.dtype) t h
  place_type f c t h (Some j) e =
      let q = place_of m.scope c.index f c.dtype j e in
      let cell = pointwise_at (λ (x : StatColumn) (y : Constant). dtype_eq x.dtype y.dtype) (heads m.scope) (row_of r m.table.columns) j (head c.index q.0 f) (row_is_zone_row m.scope m.table r table.is_chunk table.named) q.3 in
      let type : zone_type f q.0.1 ≡ t = ap type_or_null (same_stat_type f q.0.1 c.dtype ((dtype_eq_is_exact (as_nullable q.0.1) (as_nullable c.dtype)).0 q.2) ∙ h) in
      let own : cell.0.dtype ≡ t = sym ((dtype_eq_is_exact (zone_type f q.0.1) cell.0.dtype).0 cell.2) ∙ type in
      ap (λ v. is_optional_value (cell_value v) t) cell.1 ∙ ap (is_optional_value cell.0.value) (sym own) ∙ value_typed (row_of r m.table.columns) j cell.0 (row_of-IsRow m.table r table.is_chunk within) cell.1

  row_type : (f : AggregateFnRef) (x : Tree Place) (t : DType) → type_of (stat f x) ≡ Ok t → is_optional_value (row_values m r f x) t ≡ true
  row_type f (column c) t h = place_type f c t h (zone_place m.scope c.index f c.dtype) refl
  row_type f x t h = typed_null f (type_of x) t h

  pub true_row_is_honest : IsHonest (row_values m r) k.columns
  true_row_is_honest = record { facts = row_fact; types = row_type }

-- ---- the verdicts on all rows

slice_get-enumerate_from : {X : Type 0} (a : ℕ) (xs : List X) (i : ℕ) → slice_get (enumerate_from a xs) i ≡ option_map (λ x. (a + i, x)) (slice_get xs i)
slice_get-enumerate_from a [] i = refl
slice_get-enumerate_from a (x ∷ xs) zero = let here : a ≡ a + 0 = omega arith in ap (λ n. Some (n, x)) here
slice_get-enumerate_from a (x ∷ xs) (suc i) =
    let here : (a + 1) + i ≡ a + suc i = omega arith in slice_get-enumerate_from (a + 1) xs i ∙ ap (λ n. option_map (λ y. (n, y)) (slice_get xs i)) here

module _ (f s : Option (Tree Place)) (m : MapData) where
  pub row_verdict_at : (r n : ℕ) → slice_get m.rows r ≡ Some n → slice_get (row_verdicts f s m) r ≡ Some (row_verdict f s m r n)
  row_verdict_at r n at =
      let here : 0 + r ≡ r = omega arith in
      slice_get-map (λ (e : ℕ × ℕ). row_verdict f s m e.0 e.1) (enumerate_from 0 m.rows) r
      ∙ ap (option_map (λ (e : ℕ × ℕ). row_verdict f s m e.0 e.1)) (slice_get-enumerate_from 0 m.rows r ∙ ap (option_map (λ (x : ℕ). (0 + r, x))) at)
      ∙ ap (λ i. Some (row_verdict f s m i n)) here

  -- verdicts that are told of each row are these
  pub are_row_verdicts : (vs : List Verdict) → AreRowVerdicts f s m vs → length vs ≡ length m.rows → vs ≡ row_verdicts f s m
  are_row_verdicts vs told long =
      same_lists vs (row_verdicts f s m) (long ∙ sym (length-map (enumerate_from 0 m.rows) (λ (e : ℕ × ℕ). row_verdict f s m e.0 e.1) ∙ length-enumerate_from 0 m.rows))
      (λ i v e. let n = element_there m.rows i (omega (arith, slice_get_within vs i v e, long)) in row_verdict_at i n.0 n.1 ∙ ap Some (sym (told i n.0 v n.1 e)))

-- what was found by verdicts that are told of each row, and by the row counts, was found by these
pub found_by_rows : {V E X : Type 0} (of : List Verdict → List ℕ → X) (f s : Option (Tree Place)) (m : MapData) (vs lent : List Verdict) (ns : List ℕ) (r : Result V E) (view : V → X) → lent ≡ vs → AreRowVerdicts f s m vs → length vs ≡ length m.rows → ns ≡ m.rows
    → IfOk r (λ x. view x ≡ of lent ns) → IfOk r (λ x. view x ≡ of (row_verdicts f s m) m.rows)
found_by_rows of f s m vs lent ns (Ok x) view same told long counted is = is ∙ ap₂ of (same ∙ are_row_verdicts f s m vs told long) counted
found_by_rows of f s m vs lent ns (Err e) view same told long counted is = tt

-- ---- what they prove is so

module _ (rules : List OwnRule) (p : Tree Place) (m : MapData) (table : HasTable m) (predicate : IsTrue (is_predicate p)) (plain : IsTrue (is_plain p)) (fits : IsTrue (fits_scope p m.scope)) where
  fits_rows : (r : ℕ) (k : ChunkData) → IsTrueRow m r k → IsTrue (fits_scope p k.scope)
  fits_rows r k row = ap (fits_scope p) row.scoped ∙ fits

  pub row_skipped : (r : ℕ) (k : ChunkData) → IsTrueRow m r k → proves_of (falsifier rules p) (rows_of k.columns) (row_values m r) ≡ true → EachSatisfies false p k
  row_skipped r k row proved =
      none_by rules p (predicate_typed (type_of p) predicate) plain k (row_values m r) row.is_chunk (fits_rows r k row) (true_row_is_honest m table r k row) (falsifier rules p) refl proved

  pub row_whole : (r : ℕ) (k : ChunkData) → IsTrueRow m r k → proves_of (satisfier rules p) (rows_of k.columns) (row_values m r) ≡ true → EachSatisfies true p k
  row_whole r k row proved =
      each_by rules p (predicate_typed (type_of p) predicate) plain k (row_values m r) row.is_chunk (fits_rows r k row) (true_row_is_honest m table r k row) (satisfier rules p) refl proved

  -- so what is listed is sound: what is skipped by the falsifier alone, what is whole by the satisfier alone
  pub skipped_rows_sound : (f s : Option (Tree Place)) (skipped : List ℕ) → skipped ≡ places_where is_skipped (row_verdicts f s m) → f ≡ falsifier rules p → EachRowOf false p m skipped
  skipped_rows_sound f s skipped is same r k row listed =
      let n = rows_of k.columns in
      let told = (place_listed is_skipped (row_verdicts f s m) r (row_verdict f s m r n) (row_verdict_at f s m r n row.counted)).0 (subst (λ l. Contains l r) is listed) in
      row_skipped r k row (ap (λ (o : Option (Tree Place)). proves_of o n (row_values m r)) (sym same) ∙ sym (skipped_by (proves_of f n (row_values m r)) (proves_of s n (row_values m r))) ∙ told)

  pub whole_rows_sound : (f s : Option (Tree Place)) (whole : List ℕ) → whole ≡ places_where is_whole (row_verdicts f s m) → s ≡ satisfier rules p → EachRowOf true p m whole
  whole_rows_sound f s whole is same r k row listed =
      let n = rows_of k.columns in
      let told = (place_listed is_whole (row_verdicts f s m) r (row_verdict f s m r n) (row_verdict_at f s m r n row.counted)).0 (subst (λ l. Contains l r) is listed) in
      row_whole r k row (ap (λ (o : Option (Tree Place)). proves_of o n (row_values m r)) (sym same) ∙ whole_proved (proves_of f n (row_values m r)) (proves_of s n (row_values m r)) told)

-- ---- the row of a zone whose statistics are true

module _ (m : MapData) (zones : List ZoneData) (r : ℕ) (zone : ZoneData) (part : PartData) (of : IsMapOf zones m) (there : slice_get zones r ≡ Some zone) (is : IsPartOf m.scope zone part) (is_true : IsTruePart part) where
  -- what stands in its row is what its set tells
  value_told : (j : ℕ) (h : StatColumn) → slice_get (heads m.scope) j ≡ Some h → value_in m r j ≡ set_value h.aggregate (slice_get part.stats h.source) zone.rows
  value_told j h at =
      ap (λ (x : MapData). cell_value (slice_get (row_of r x.table.columns) j)) of.same ∙ cell_is (heads m.scope) zones r j h zone at there
      ∙ ap (λ (z : ZoneData). set_value h.aggregate (slice_get z.stats h.source) zone.rows) (sym is.known)

  set_fact : (f : AggregateFnRef) (j : ℕ) (c : ColumnData) (o : Option Entries) → slice_get part.chunk.columns j ≡ Some c → slice_get part.stats j ≡ o → IsFact f (set_value f o zone.rows) c.values (Some c.size)
  set_fact f j c None at set = tt
  set_fact f j c (Some es) at set =
      stat_fact f es c zone.rows (true_set part.chunk.columns part.stats j c es is_true at set)
      (ap (λ (z : ZoneData). z.rows) (sym is.known) ∙ sym (column_long (rows_of part.chunk.columns) part.chunk.columns j c (columns_long part.chunk is.is_part.0) at))

  pub zone_has_true_row : IsTrueRow m r part.chunk
  zone_has_true_row = record {
    is_chunk = is.is_part.0;
    scoped = is.scoped;
    counted = row_count_at m zones r zone of there ∙ ap (λ (z : ZoneData). Some z.rows) (sym is.known);
    facts = λ j h c at column. subst (λ v. IsFact h.aggregate v c.values (Some c.size)) (sym (value_told j h at)) (set_fact h.aggregate h.source c (slice_get part.stats h.source) column refl);
  }

pub zones_have_true_rows : ZonesHaveTrueRows
zones_have_true_rows m zones i zone part of there is is_true = zone_has_true_row m zones i zone part of there is is_true
