-- The cells that a caller's arrays tell are those of the zones' sets.
use Rattle.std.proofs.Common.{◌≡◌, ◌≢◌, ◌==◌, ◌<◌, ◌≤◌, ◌+◌, ◌-◌, ◌++◌, ◌&&◌, ℕ, zero, suc, add-one, Bool, true, false, cond, All, List, [], ◌∷◌, Option, Some, None, Result, Ok, Err, IsTrue, ap, arith, drop, eq-eqb, eqb-true, inl, inr, length, map, refl, subst, sym, take, ◌∙◌}
use Rattle.std.specs.Prelude.{option_map, replicate, slice_get, slice_index, slice_set}
use Rattle.std.proofs.Math.Seq.{take-suc}
use Rattle.std.proofs.lemmas.List.{get_or-drop, length-drop, map_push, replicate_more}
use Rattle.std.proofs.Math.Nat.{eq-or-lt_of_le}
use Rattle.std.proofs.lemmas.Option.{same_Some, slice_get-map}
use Rattle.vortex_base.specs.declared.aggregate.AggregateFnRef.{AggregateFnRef}
use Rattle.vortex_base.specs.declared.scalar_value.ScalarValue.{ScalarValue}
use Rattle.vortex_base.specs.Data.Scopes.{Named}
use Rattle.vortex_zone_map.proofs.ReadStats.{stat_value-reads, told_value-absent}
use Rattle.vortex_prune.proofs.Scanning.BinderScan.{element_there}
use Rattle.vortex_zone_map.specs.StatValues.{read_stat, told_value}
use Rattle.vortex_zone_map.specs.Zone.{Entries, ZoneData, fits_zone}
use Rattle.vortex_zone_map.specs.ZoneMaps.{set_value, zone_value}
use Rattle.vortex_stats.proofs.Sets.Lookups.{entry_value-with_other, entry_value-with_own}
use Rattle.vortex_stats.specs.Sets.Entries.{entry_value, with_entry}
use Rattle.vortex_stats.specs.Stat.{same_from_stat_eq, stat_eq}
use Rattle.vortex_stats.specs.declared.precision.Precision.{Precision}
use Rattle.vortex_stats.specs.declared.stat.Stat.{Stat}
use Rattle.vortex_capi.specs.declared.fault.Refusal.{Refusal}
use Rattle.vortex_capi.specs.declared.status.Status.{Status}
use Rattle.vortex_capi.specs.declared.table.Source.{Source}
use Rattle.vortex_capi.specs.MapCells.{AllRead, AreRead, AreZonesFrom, IsRead, last_of, next_last, told_cell, told_cells, told_of, value_by, zones_from}
use Rattle.vortex_capi.specs.Refusals.{followed, found_more, one_more, placed, stepped}
use Rattle.vortex_capi.specs.Statuses.{at_entry, in_column}
use Rattle.vortex_base.specs.declared.dtype.DType.TheVariants as dtype
use Rattle.vortex_capi.specs.Values.{cells}
use Rattle.vortex_capi.specs.Tables.{IsTypedBy, next_source, no_entries, set_at, value_of_source, with_source, zone_at, zone_sets}
use Rattle.vortex_capi.proofs.ReadLemmas.{followed_from}
use Rattle.vortex_capi.proofs.TableLemmas.{both_fit, empty_fits, next_set_fits}
use Rattle.vortex_base.specs.Data.Exact.{both_hold}

-- ---- an element that is set

set_there : {X : Type 0} (xs : List X) (i : ℕ) (x y : X) → slice_get xs i ≡ Some x → slice_get (slice_set xs i y) i ≡ Some y
set_there [] i x y h = absurd cc
set_there (z ∷ xs) zero x y h = refl
set_there (z ∷ xs) (suc i) x y h = set_there xs i x y h

set_elsewhere : {X : Type 0} (xs : List X) (k i : ℕ) (y : X) → k ≢ i → slice_get (slice_set xs k y) i ≡ slice_get xs i
set_elsewhere [] k i y n = refl
set_elsewhere (z ∷ xs) zero zero y n = absurd (n refl)
set_elsewhere (z ∷ xs) zero (suc i) y n = refl
set_elsewhere (z ∷ xs) (suc k) zero y n = refl
set_elsewhere (z ∷ xs) (suc k) (suc i) y n = set_elsewhere xs k i y (λ e. n (ap suc e))

not_same : (k i : ℕ) → (k == i) ≡ false → k ≢ i
not_same k i h = λ e. let t : (k == i) ≡ true = eq-eqb k i e in absurd cc

-- ---- the statistic that counts has the entry's value

-- the set at a place has this value of a statistic
pub record HasEntry (s : Stat) (i : ℕ) (sets : List Entries) (told : Result (Precision ScalarValue) Status) : Type 0 where
  pub set : Entries
  pub there : slice_get sets i ≡ Some set
  pub same : told ≡ Ok (entry_value s set)

module _ (s : Stat) (i zone : ℕ) where
  module _ (x : Source) (p : Precision ScalarValue) (o : Option Source) (sets : List Entries) (read : value_of_source x zone ≡ Ok p) (before : HasEntry s i sets (value_by o zone)) where
    abbrev column : ℕ
    column = x.statistic.column

    abbrev after : List Entries
    after = set_at column x.stat p sets (slice_get sets column)

    left_alone : column ≢ i → (e : Option Entries) → slice_get (set_at column x.stat p sets e) i ≡ slice_get sets i
    left_alone n None = refl
    left_alone n (Some e) = set_elsewhere sets column i (with_entry x.stat p e) n

    set_here : column ≡ i → slice_get after i ≡ Some (with_entry x.stat p before.set)
    set_here same =
        ap (λ k. slice_get (set_at k x.stat p sets (slice_get sets k)) i) same
        ∙ ap (λ e. slice_get (set_at i x.stat p sets e) i) before.there
        ∙ set_there sets i before.set (with_entry x.stat p before.set) before.there

    by_tests : (b c : Bool) → (column == i) ≡ b → stat_eq x.stat s ≡ c → HasEntry s i after (value_by (cond (b && c) (Some x) o) zone)
    by_tests true true b c =
        let own : x.stat ≡ s = same_from_stat_eq x.stat s c in record {
          set = with_entry x.stat p before.set;
          there = set_here (eqb-true column i b);
          same = read ∙ ap Ok (sym (ap (λ u. entry_value s (with_entry u p before.set)) own ∙ entry_value-with_own s p before.set));
        }
    by_tests true false b c = record {
      set = with_entry x.stat p before.set;
      there = set_here (eqb-true column i b);
      same = before.same ∙ ap Ok (sym (entry_value-with_other x.stat s p before.set c));
    }
    by_tests false c b h = record {
      set = before.set;
      there = left_alone (not_same column i b) (slice_get sets column) ∙ before.there;
      same = before.same;
    }

    one_entry : HasEntry s i after (value_by (next_last i s (Some x) o) zone)
    one_entry = by_tests (column == i) (stat_eq x.stat s) refl refl

  module _ (k : ℕ) (o : Option Source) (sets new : List Entries) (before : HasEntry s i sets (value_by o zone)) where
    by_value : (x : Source) (r : Result (Precision ScalarValue) Status) → value_of_source x zone ≡ r
        → followed (placed (λ t. in_column zone x.statistic.column t k) r) (λ p. Ok (set_at x.statistic.column x.stat p sets (slice_get sets x.statistic.column))) ≡ Ok new
        → HasEntry s i new (value_by (next_last i s (Some x) o) zone)
    by_value x (Err t) read h = absurd cc
    by_value x (Ok p) read h =
        let same : set_at x.statistic.column x.stat p sets (slice_get sets x.statistic.column) ≡ new = cc in
        subst (λ l. HasEntry s i l (value_by (next_last i s (Some x) o) zone)) same (one_entry x p o sets read before)

    by_source : (y : Option Source) → with_source zone k y sets ≡ Ok new → HasEntry s i new (value_by (next_last i s y o) zone)
    by_source None h = let same : sets ≡ new = cc in subst (λ l. HasEntry s i l (value_by o zone)) same before
    by_source (Some x) h = by_value x (value_of_source x zone) refl h

  pub entries_there : (scope : List Named) (sources : List Source) (c : Named) → slice_get scope i ≡ Some c → (k : ℕ) (sets : List Entries) → stepped (next_source zone sources) (map no_entries scope) k ≡ Ok sets
      → HasEntry s i sets (value_by (last_of i s sources k) zone)
  entries_there scope sources c at zero sets h =
      let same : map no_entries scope ≡ sets = cc in record {
        set = [];
        there = ap (λ l. slice_get l i) (sym same) ∙ slice_get-map no_entries scope i ∙ ap (option_map no_entries) at;
        same = refl;
      }
  entries_there scope sources c at (suc k) sets h =
      let r = followed_from (stepped (next_source zone sources) (map no_entries scope) k) (next_source zone sources k) sets h in
      by_source k (last_of i s sources k) r.at sets (entries_there scope sources c at k r.at r.made) (slice_get sources k) r.then

-- ---- cells

record OneMore {X : Type 0} (before : Result (List X) Refusal) (next : Result X Status) (xs : List X) : Type 0 where
  first : List X
  read : before ≡ Ok first
  last : X
  is : next ≡ Ok last
  all : xs ≡ first ++ last ∷ []

one_more_from : {X : Type 0} (n : ℕ) (before : Result (List X) Refusal) (next : Result X Status) (xs : List X) → one_more at_entry n before next ≡ Ok xs → OneMore before next xs
one_more_from n (Err r) next xs h = absurd cc
one_more_from n (Ok ys) (Err t) xs h = absurd cc
one_more_from n (Ok ys) (Ok y) xs h = record { first = ys; read = refl; last = y; is = refl; all = let same : ys ++ y ∷ [] ≡ xs = cc in sym same }

-- one more zone
pub record NextZone (scope : List Named) (sources : List Source) (rows : List ℕ) (from n : ℕ) (zones : List ZoneData) : Type 0 where
  pub first : List ZoneData
  pub found : zones_from scope sources rows from n ≡ Ok first
  pub sets : List Entries
  pub read : zone_sets scope sources (from + n) ≡ Ok sets
  pub all : zones ≡ first ++ record { rows = slice_index rows (from + n); stats = sets } ∷ []

abbrev pub zone_with : List ℕ → ℕ → List Entries → ZoneData
zone_with rows zone sets = record { rows = slice_index rows zone; stats = sets }

pub next_zone : (scope : List Named) (sources : List Source) (rows : List ℕ) (from n : ℕ) (zones : List ZoneData) → zones_from scope sources rows from (suc n) ≡ Ok zones → NextZone scope sources rows from n zones
next_zone scope sources rows from n zones h =
    let a = followed_from (zones_from scope sources rows from n) (found_more (λ k. zone_at scope sources rows (from + k)) n) zones h in
    let b = followed_from (zone_at scope sources rows (from + n)) (λ z. Ok (a.at ++ z ∷ [])) zones a.then in
    let c = followed_from (zone_sets scope sources (from + n)) (λ sets. Ok (zone_with rows (from + n) sets)) b.at b.made in
    let same : zone_with rows (from + n) c.at ≡ b.at = let t = c.then in cc in
    let whole : a.at ++ b.at ∷ [] ≡ zones = let t = b.then in cc in
    record {
      first = a.at;
      found = a.made;
      sets = c.at;
      read = c.made;
      all = sym whole ∙ ap (λ z. a.at ++ z ∷ []) (sym same);
    }

module _ (scope : List Named) (sources : List Source) (rows : List ℕ) (from : ℕ) where
  module _ (f : AggregateFnRef) (s : Stat) (reads : read_stat f ≡ Some s) (i : ℕ) (c : Named) (at : slice_get scope i ≡ Some c) where
    abbrev counts : Option Source
    counts = last_of i s sources (length sources)

    one_cell : (zone : ℕ) (sets : List Entries) (v : Option ScalarValue) → zone_sets scope sources zone ≡ Ok sets → told_cell f counts rows zone ≡ Ok v → v ≡ zone_value f i (zone_with rows zone sets)
    one_cell zone sets v read told =
        let e = entries_there s i zone scope sources c at (length sources) sets read in
        let cell : told_of f (slice_index rows zone) (Ok (entry_value s e.set)) ≡ Ok v = sym (ap (told_of f (slice_index rows zone)) e.same) ∙ told in
        let same : told_value f (entry_value s e.set) (slice_index rows zone) ≡ v = cc in
        sym same ∙ sym (stat_value-reads e.set (slice_index rows zone) f s reads) ∙ sym (ap (λ o. set_value f o (slice_index rows zone)) e.there)

    pub cells_are : (n : ℕ) (zones : List ZoneData) (vs : List (Option ScalarValue)) → zones_from scope sources rows from n ≡ Ok zones → told_cells f counts rows from n ≡ Ok vs → vs ≡ map (zone_value f i) zones
    cells_are zero zones vs found told =
        let none : [] ≡ zones = cc in
        let empty : [] ≡ vs = cc in
        sym empty ∙ ap (map (zone_value f i)) none
    cells_are (suc n) zones vs found told =
        let z = next_zone scope sources rows from n zones found in
        let v = one_more_from n (told_cells f counts rows from n) (told_cell f counts rows (from + n)) vs told in
        let zone = zone_with rows (from + n) z.sets in
        v.all
        ∙ ap (λ l. l ++ v.last ∷ []) (cells_are n z.first v.first z.found v.read)
        ∙ ap (λ x. map (zone_value f i) z.first ++ x ∷ []) (one_cell (from + n) z.sets v.last z.read v.is)
        ∙ sym (map_push (zone_value f i) z.first zone)
        ∙ ap (map (zone_value f i)) (sym z.all)

  -- the row counts
  pub rows_are : (n : ℕ) (zones : List ZoneData) → zones_from scope sources rows from n ≡ Ok zones → from + n ≤ length rows → map (λ (z : ZoneData). z.rows) zones ≡ take n (drop from rows)
  rows_are zero zones found h = let none : [] ≡ zones = cc in ap (map (λ (z : ZoneData). z.rows)) (sym none)
  rows_are (suc n) zones found h =
      let z = next_zone scope sources rows from n zones found in
      let long : length (drop from rows) ≡ length rows - from = length-drop from rows in
      ap (map (λ (x : ZoneData). x.rows)) z.all
      ∙ map_push (λ (x : ZoneData). x.rows) z.first (zone_with rows (from + n) z.sets)
      ∙ ap (λ l. l ++ slice_index rows (from + n) ∷ []) (rows_are n z.first z.found (omega (arith, h)))
      ∙ ap (λ k. take n (drop from rows) ++ k ∷ []) (sym (get_or-drop from rows n 0))
      ∙ sym (take-suc (drop from rows) n 0 (omega (arith, long, h)))

-- nulls, where no statistic counts
pub nulls_are : (f : AggregateFnRef) (rows : List ℕ) (from n : ℕ) → told_cells f None rows from n ≡ Ok (replicate n None)
nulls_are f rows from zero = refl
nulls_are f rows from (suc n) = rw (nulls_are f rows from n, told_value-absent f (slice_index rows (from + n))) (ap Ok (replicate_more n None ∙ ap (λ k. replicate k None) (add-one n)))

-- the rows of a column of nulls
pub all_null : (values : List ℕ) (start : ℕ) (ends nulls : List ℕ) (rows : ℕ) → cells dtype.Null values start ends nulls rows ≡ Ok (replicate rows None)
all_null values start ends nulls zero = refl
all_null values start ends nulls (suc n) = rw (all_null values start ends nulls n) (ap Ok (replicate_more n None ∙ ap (λ k. replicate k None) (add-one n)))

-- one more zone, and one more statistic, is read
pub one_more_read : (x : Source) (n : ℕ) → AreRead x n → IsRead x n → AreRead x (n + 1)
one_more_read x n before here zone h = elim (eq-or-lt_of_le {n = zone} {m = n} (omega (arith, h))) [
  | inl same ↦ subst (IsRead x) (sym same) here
  | inr less ↦ before zone less
]

pub one_more_source : (xs : List Source) (n k : ℕ) (x : Source) → slice_get xs k ≡ Some x → ((i : ℕ) (y : Source) → i < k → slice_get xs i ≡ Some y → AreRead y n) → AreRead x n → (i : ℕ) (y : Source) → i < k + 1 → slice_get xs i ≡ Some y → AreRead y n
one_more_source xs n k x there before here i y h at = elim (eq-or-lt_of_le {n = i} {m = k} (omega (arith, h))) [
  | inl same ↦ subst (λ z. AreRead z n) (same_Some x y (sym there ∙ ap (slice_get xs) (sym same) ∙ at)) here
  | inr less ↦ before i y less at
]

-- ---- zones that are read

module _ (scope : List Named) (sources : List Source) (rows : List ℕ) (typed : All (IsTypedBy scope) sources) (all : AllRead sources (length rows)) where
  record AreSets (zone k : ℕ) : Type 0 where
    sets : List Entries
    read : stepped (next_source zone sources) (map no_entries scope) k ≡ Ok sets
    fits : IsTrue (fits_zone scope sets)

  sets_there : (zone : ℕ) → zone < length rows → (k : ℕ) → k ≤ length sources → AreSets zone k
  sets_there zone h zero l = record { sets = map no_entries scope; read = refl; fits = empty_fits scope }
  sets_there zone h (suc k) l =
      let before = sets_there zone h k (omega (arith, l)) in
      let e = element_there sources k (omega (arith, l)) in
      let x = e.0 in
      let v = all k x e.1 zone h in record {
        sets = set_at x.statistic.column x.stat v.value before.sets (slice_get before.sets x.statistic.column);
        read = rw (before.read, e.1, v.read) refl;
        fits = next_set_fits scope sources k x before.sets _ v.value typed (omega (arith, l)) e.1 before.fits v.fits refl;
      }

  pub zones_there : (from n : ℕ) → from + n ≤ length rows → AreZonesFrom scope sources rows from n
  zones_there from zero h = record { zones = []; found = refl; fit = refl }
  zones_there from (suc n) h =
      let before = zones_there from n (omega (arith, h)) in
      let z = sets_there (from + n) (omega (arith, h)) (length sources) (omega arith) in
      let zone = zone_with rows (from + n) z.sets in record {
        zones = before.zones ++ zone ∷ [];
        found = rw (before.found, z.read) refl;
        fit = both_fit scope before.zones (zone ∷ []) before.fit (both_hold _ _ z.fits refl);
      }
