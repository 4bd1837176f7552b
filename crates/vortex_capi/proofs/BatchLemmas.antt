-- The table of a batch of zones that is filled from a caller's arrays is that of their sets.
use Rattle.std.proofs.Common.{◌≡◌, ◌<◌, ◌+◌, ◌++◌, ℕ, zero, suc, Bool, true, All, List, [], ◌∷◌, Option, Some, Result, Ok, IsTrue, ap, append-nil, append_assoc, arith, get_or, length, map, refl, subst, sym, ◌∙◌}
use Rattle.std.proofs.lemmas.List.{length-map, map-append}
use Rattle.std.proofs.lemmas.Option.{same_Some, slice_get-get_or}
use Rattle.std.specs.Prelude.{IfOk, IfSome, None, replicate, slice_get, slice_index}
use Rattle.vortex_expr.proofs.Meanings.MeaningFits.{null_fits}
use Rattle.vortex_base.specs.Data.Columns.{ColumnData, all_fit}
use Rattle.vortex_base.specs.Data.Exact.{both_hold}
use Rattle.vortex_base.specs.Data.Scopes.{Named}
use Rattle.vortex_base.specs.Data.Types.{as_nullable, is_nullable}
use Rattle.vortex_base.specs.Data.States.{state_dtype}
use Rattle.vortex_expr.specs.Meanings.Typing.{placeholder_type}
use Rattle.vortex_expr.specs.Trees.Tree.{Place, Tree}
use Rattle.vortex_base.specs.declared.aggregate.AggregateFnRef.{AggregateFnRef}
use Rattle.vortex_base.specs.declared.aggregate.AggregateFnRef.TheVariants as aggregate
use Rattle.vortex_base.specs.declared.dtype.DType.{DType}
use Rattle.vortex_base.specs.declared.scalar_value.ScalarValue.{ScalarValue}
use Rattle.vortex_zone_map.proofs.ZoneMaps.ZoneKept.{zones_are}
use Rattle.vortex_zone_map.proofs.ZoneMaps.ZoneNames.{column_is_made, zones_tell}
use Rattle.vortex_prune.proofs.ZoneMaps.ZoneScan.{all_pushed}
use Rattle.vortex_zone_map.specs.GivenTables.{is_table, map_with}
use Rattle.vortex_zone_map.specs.Zone.{ZoneData, zones_fit}
use Rattle.vortex_zone_map.specs.ZoneMaps.{StatColumn, MapData, TellsOf, heads, zone_column, zone_value}
use Rattle.vortex_capi.specs.declared.fault.Refusal.{Refusal}
use Rattle.vortex_capi.specs.declared.batches.Batch.{Batch}
use Rattle.vortex_capi.specs.declared.table.Source.{Source}
use Rattle.vortex_capi.specs.NamedStats.{AreNamed, HasNamed}
use Rattle.vortex_capi.specs.MapCells.{AllRead, AreCells, AreZonesFrom, IsBatch, batch_zones, told_cells, zones_from}
use Rattle.vortex_capi.specs.Prunes.{answer_by, zone_answers}
use Rattle.vortex_capi.specs.Refusals.{all_found}
use Rattle.vortex_capi.specs.Tables.{IsTypedBy, zone_at, zones_given}
use Rattle.vortex_capi.proofs.CellLemmas.{cells_are, next_zone, nulls_are, zones_there}
use Rattle.vortex_capi.proofs.PruneLemmas.{IsWhole}
use Rattle.vortex_capi.proofs.TableLemmas.{both_fit}
use Rattle.vortex_capi.proofs.ReadLemmas.{followed_read, found_goes_on, found_long}

-- ---- the table

abbrev pub made_of : DType → List (Option ScalarValue) → ColumnData
made_of t vs = record { dtype = t; values = vs; size = 0 }

module _ (b : Batch) (is : IsBatch b) where
  -- the zones of the batch are those that there are
  pub only : (zones : List ZoneData) → batch_zones b ≡ Ok zones → is.there.zones ≡ zones
  only zones found = let there = is.there.found in cc

  pub zones_of_batch : (zones : List ZoneData) → batch_zones b ≡ Ok zones → IsTrue (zones_fit b.scope.now zones)
  zones_of_batch zones found = subst (λ l. IsTrue (zones_fit b.scope.now l)) (only zones found) is.there.fit

  module _ (h : StatColumn) (tells : TellsOf b.scope.now h) (cells : List (Option ScalarValue)) (told : AreCells b h cells) where
    pub cells_of_head : (zones : List ZoneData) → batch_zones b ≡ Ok zones → cells ≡ map (zone_value h.aggregate h.source) zones
    cells_of_head zones found = cells_are b.scope.now b.sources.now b.rows.now b.from h.aggregate told.stat told.reads h.source tells.0 tells.1 b.count zones cells found told.told

    pub cells_fit : IsTrue (all_fit h.dtype cells)
    cells_fit =
        let zones = is.there.zones in
        column_is_made zones h h.dtype cells (zones_tell b.scope.now zones h (zones_are b.scope.now zones is.there.fit) tells) refl (cells_of_head zones is.there.found)

    pub column_of_head : (column : ColumnData) (t : DType) → column ≡ record { dtype = t; values = cells; size = 0 } → t ≡ h.dtype → (zones : List ZoneData) → batch_zones b ≡ Ok zones → column ≡ zone_column zones h
    column_of_head column t made typed zones found = made ∙ ap (λ (u : DType). made_of u cells) typed ∙ ap (made_of h.dtype) (cells_of_head zones found)

-- nulls fit below each head
nullable_type : (o : Option DType) (t : DType) → placeholder_type o ≡ Ok t → is_nullable t ≡ true
nullable_type None t h = absurd cc
nullable_type (Some u) t h = let same : as_nullable u ≡ t = cc in ap is_nullable (sym same) ∙ null_fits u

all_nulls_fit : (t : DType) (n : ℕ) → is_nullable t ≡ true → all_fit t (replicate n None) ≡ true
all_nulls_fit t zero h = refl
all_nulls_fit t (suc n) h = both_hold _ _ h (all_nulls_fit t n h)

pub nulls_there : (n : ℕ) (vs : List (Option ScalarValue)) → ((f : AggregateFnRef) (rows : List ℕ) (from : ℕ) → told_cells f None rows from n ≡ Ok vs) → vs ≡ replicate n None
nulls_there n vs told =
    let same : Ok vs ≡ Ok (replicate n None) = sym (told aggregate.NullCount [] 0) ∙ nulls_are aggregate.NullCount [] 0 n in
    cc

pub nulls_fit : (scope : List Named) (h : StatColumn) → TellsOf scope h → (n : ℕ) → IsTrue (all_fit h.dtype (replicate n None))
nulls_fit scope h tells n = all_nulls_fit h.dtype n (nullable_type (state_dtype h.aggregate tells.0.1) h.dtype tells.2)

-- one more column
pub named_pushed : (named : List Bool) (hs : List StatColumn) (zones : List ZoneData) (cs new : List ColumnData) (n : ℕ) (h : StatColumn) (b : Bool) (c : ColumnData) → new ≡ cs ++ c ∷ [] → length cs ≡ n → slice_get hs n ≡ Some h → slice_get named n ≡ Some b
    → (b ≡ true → c ≡ zone_column zones h) → AreNamed named hs zones cs → AreNamed named hs zones new
named_pushed named hs zones cs new n h b c pushed long at mark own before k g x there asked is =
    all_pushed (λ j y. (e : StatColumn) → slice_get hs j ≡ Some e → slice_get named j ≡ Some true → y ≡ zone_column zones e) cs c n long
    (λ e here set. own (same_Some b true (sym mark ∙ set)) ∙ ap (zone_column zones) (same_Some h e (sym at ∙ here)))
    (λ i y h e here set. before i e y here set h) k x (ap (λ l. slice_get l k) (sym pushed) ∙ is) g there asked

-- the map with the columns that are named
pub has_named : (scope own : List Named) (rows : List ℕ) (cs : List ColumnData) (hs : List StatColumn) (named : List Bool) (zones : List ZoneData) (m : MapData) → m ≡ map_with scope rows cs → scope ≡ own → hs ≡ heads own → rows ≡ map (λ zone. zone.rows) zones
    → IsTrue (is_table (length rows) scope cs) → AreNamed named hs zones cs → HasNamed named zones m
has_named scope own rows cs hs named zones m made same all counted table told =
    subst (HasNamed named zones) (sym made)
    (record { counted = counted; table = table; told = subst (λ l. AreNamed named l zones cs) (all ∙ ap heads (sym same)) told })

pub head_there : (heads : List StatColumn) (place : ℕ) (h : StatColumn) → place < length heads → h ≡ get_or heads place h → slice_get heads place ≡ Some h
head_there heads place h within is = slice_get-get_or heads place h within ∙ ap Some (sym is)

-- ---- batches one after another

module _ (scope : List Named) (sources : List Source) (rows : List ℕ) where
  -- a batch behind the zones before it
  pub batches_joined : (from n : ℕ) (before batch : List ZoneData) → all_found (zone_at scope sources rows) from ≡ Ok before → zones_from scope sources rows from n ≡ Ok batch
      → all_found (zone_at scope sources rows) (from + n) ≡ Ok (before ++ batch)
  batches_joined from zero before batch done found =
      let none : [] ≡ batch = cc in
      let end : from + 0 ≡ from = omega arith in
      rw end (done ∙ ap Ok (sym (append-nil before) ∙ ap (λ l. before ++ l) none))
  batches_joined from (suc n) before batch done found =
      let z = next_zone scope sources rows from n batch found in
      let end : from + suc n ≡ from + n + 1 = omega arith in
      let zone : ZoneData = record { rows = slice_index rows (from + n); stats = z.sets } in
      rw end (found_goes_on (zone_at scope sources rows) (from + n) (before ++ z.first) zone (batches_joined from n before z.first done z.found) (rw z.read refl) ∙ ap Ok (append_assoc before z.first (zone ∷ []) ∙ ap (λ l. before ++ l) (sym z.all)))

-- ---- the answers of all batches

module _ (f s : Option (Tree Place)) (scope : List Named) (sources : List Source) (rows : List ℕ) where
  -- the zones before a place are answered
  pub record IsAnswered (n : ℕ) (answers : List ℕ) : Type 0 where
    pub zones : List ZoneData
    pub found : all_found (zone_at scope sources rows) n ≡ Ok zones
    pub fit : IsTrue (zones_fit scope zones)
    pub told : answers ≡ zone_answers f s scope zones

  -- with those of a batch behind them
  pub batch_answered : (from n : ℕ) (before more new : List ℕ) (batch : AreZonesFrom scope sources rows from n) → new ≡ before ++ more → more ≡ zone_answers f s scope batch.zones → IsAnswered from before → IsAnswered (from + n) new
  batch_answered from n before more new batch pushed told done = record {
    zones = done.zones ++ batch.zones;
    found = batches_joined scope sources rows from n done.zones batch.zones done.found batch.found;
    fit = both_fit scope done.zones batch.zones done.fit batch.fit;
    told = pushed ∙ ap (λ l. l ++ more) done.told ∙ ap (λ l. zone_answers f s scope done.zones ++ l) told ∙ sym (map-append (answer_by f s scope) done.zones batch.zones);
  }

  pub batch_long : (from n : ℕ) (more : List ℕ) (batch : AreZonesFrom scope sources rows from n) → more ≡ zone_answers f s scope batch.zones → length more ≡ n
  batch_long from n more batch told = ap length told ∙ length-map batch.zones (answer_by f s scope) ∙ found_long (λ k. zone_at scope sources rows (from + k)) n batch.zones batch.found

-- ---- the answers for a table that is read

module _ (scope : List Named) (sources : List Source) (rows : List ℕ) (typed : All (IsTypedBy scope) sources) (all : AllRead sources (length rows)) where
  -- the zones of a table that is read
  pub record IsGiven : Type 0 where
    pub zones : List ZoneData
    pub found : zones_from scope sources rows 0 (length rows) ≡ Ok zones
    pub given : zones_given scope sources rows ≡ Ok zones
    pub fit : IsTrue (zones_fit scope zones)

  all_given : IsGiven
  all_given =
      let z = zones_there scope sources rows typed all 0 (length rows) (omega arith) in
      let end : 0 + length rows ≡ length rows = omega arith in record {
        zones = z.zones;
        found = z.found;
        given = subst (λ k. all_found (zone_at scope sources rows) k ≡ Ok z.zones) end (batches_joined scope sources rows 0 (length rows) [] z.zones refl z.found);
        fit = z.fit;
      }

  pub given_whole : (f s : Option (Tree Place)) (answers : List ℕ) → ((zones : List ZoneData) → zones_given scope sources rows ≡ Ok zones → answers ≡ zone_answers f s scope zones) → IsWhole f s scope sources rows answers
  given_whole f s answers told =
      let z = all_given in
      let same = told z.zones z.given in
      record {
        read = followed_read (zones_given scope sources rows) (λ zs. Ok (zone_answers f s scope zs)) z.zones z.given ∙ ap Ok (sym same);
        long = ap length same ∙ length-map z.zones (answer_by f s scope) ∙ found_long (zone_at scope sources rows) (length rows) z.zones z.given;
        fit = subst (λ (x : Result (List ZoneData) Refusal). IfOk x (λ zs. IsTrue (zones_fit scope zs))) (sym z.given) z.fit;
      }

pub if_some : {X : Type 0} (o : Option X) (P Q : X → Type 0) → ((x : X) → P x → Q x) → IfSome o P → IfSome o Q
if_some None P Q then_q h = h
if_some (Some x) P Q then_q h = then_q x h
