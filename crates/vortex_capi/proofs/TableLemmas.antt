-- The sets of a zone fit their columns.
use Rattle.std.proofs.Common.{◌≡◌, ◌<◌, ◌+◌, ◌∙◌, All, Ok, Err, add-one, ℕ, zero, suc, true, List, [], ◌∷◌, ◌++◌, Option, None, Some, IsTrue, length, map, slice_get, refl, ap, sym, subst}
use Rattle.std.proofs.lemmas.Bool.{and_from, and_parts}
use Rattle.std.proofs.lemmas.List.Elements.{All-push, All-same}
use Rattle.std.proofs.lemmas.List.Folds.{list_all-append}
use Rattle.std.proofs.lemmas.Option.{get_or_from_slice_get, same_Some}
use Rattle.vortex_base.specs.Data.Scopes.{Named}
use Rattle.vortex_base.specs.declared.dtype.DType.TheVariants as dtype
use Rattle.vortex_base.specs.declared.scalar_value.ScalarValue.{ScalarValue}
use Rattle.vortex_zone_map.specs.Zone.{Entries, ZoneData, fits_zone, zones_fit}
use Rattle.vortex_stats.proofs.Sets.Fitting.{entries_fit_with_entry}
use Rattle.vortex_stats.specs.Sets.Entries.{entries_fit, value_fits}
use Rattle.vortex_stats.specs.declared.precision.Precision.{Precision}
use Rattle.vortex_stats.specs.declared.stat.Stat.{Stat}
use Rattle.vortex_capi.specs.declared.statistic.Statistic.{Statistic}
use Rattle.vortex_capi.specs.declared.status.Status.{Status}
use Rattle.vortex_capi.specs.declared.table.Source.{Source}
use Rattle.vortex_capi.specs.Refusals.{all_read, stepped}
use Rattle.vortex_capi.specs.Statuses.{at_entry, in_column}
use Rattle.vortex_capi.specs.Tables.{IsTypedBy, next_source, no_entries, set_at, source_or, value_of_source, zone_sets}
use Rattle.vortex_capi.proofs.ReadLemmas.{steps_stop}

-- of nothing known
pub empty_fits : (scope : List Named) → fits_zone scope (map no_entries scope) ≡ true
empty_fits [] = refl
empty_fits (c ∷ scope) = empty_fits scope

later_set : (i : ℕ) (s : Stat) (p : Precision ScalarValue) (set : Entries) (sets : List Entries) (o : Option Entries) → set_at (suc i) s p (set ∷ sets) o ≡ set ∷ set_at i s p sets o
later_set i s p set sets None = refl
later_set i s p set sets (Some e) = refl

-- with a value that fits the column at a place
pub set_fits : (scope : List Named) (sets : List Entries) (i : ℕ) (c : Named) (s : Stat) (p : Precision ScalarValue) → fits_zone scope sets ≡ true → slice_get scope i ≡ Some c → value_fits s c.1 p ≡ true
    → fits_zone scope (set_at i s p sets (slice_get sets i)) ≡ true
set_fits [] sets i c s p h there fits = absurd cc
set_fits (d ∷ scope) [] i c s p h there fits = absurd cc
set_fits (d ∷ scope) (e ∷ sets) zero c s p h there fits =
    let both = and_parts (entries_fit e d.1) (fits_zone scope sets) h in
    let same : d ≡ c = same_Some d c there in
    and_from _ _ (entries_fit_with_entry s p d.1 e (ap (λ (n : Named). value_fits s n.1 p) same ∙ fits) both.0) both.1
set_fits (d ∷ scope) (e ∷ sets) (suc i) c s p h there fits =
    let both = and_parts (entries_fit e d.1) (fits_zone scope sets) h in
    ap (fits_zone (d ∷ scope)) (later_set i s p e sets (slice_get sets i)) ∙ and_from _ _ both.0 (set_fits scope sets i c s p both.1 there fits)

-- the same, where the type beside a statistic is its column's
pub source_fits : (scope : List Named) (sets : List Entries) (x : Source) (p : Precision ScalarValue) → IsTypedBy scope x → fits_zone scope sets ≡ true → value_fits x.stat x.dtype p ≡ true
    → fits_zone scope (set_at x.statistic.column x.stat p sets (slice_get sets x.statistic.column)) ≡ true
source_fits scope sets x p typed h fits = set_fits scope sets x.statistic.column typed.column x.stat p h typed.there (ap (λ t. value_fits x.stat t p) typed.typed ∙ fits)

-- zones behind others
pub both_fit : (scope : List Named) (xs ys : List ZoneData) → zones_fit scope xs ≡ true → zones_fit scope ys ≡ true → zones_fit scope (xs ++ ys) ≡ true
both_fit scope xs ys h k = list_all-append (λ (z : ZoneData). fits_zone scope z.stats) xs ys ∙ and_from _ _ h k

-- ---- the statistics of a table

pub sources_next : (scope : List Named) (zones : ℕ) (table : List Statistic) (i : ℕ) (x : Source) (sources new : List Source) → Ok x ≡ source_or scope zones (slice_get table i) → IsTypedBy scope x → new ≡ sources ++ x ∷ []
    → (all_read at_entry (λ k. source_or scope zones (slice_get table k)) i ≡ Ok sources) × All (IsTypedBy scope) sources → (all_read at_entry (λ k. source_or scope zones (slice_get table k)) (i + 1) ≡ Ok new) × All (IsTypedBy scope) new
sources_next scope zones table i x sources new read typed pushed before = (
  (let here : source_or scope zones (slice_get table i) ≡ Ok x = sym read in rw (add-one, before.0, here) (ap Ok (sym pushed))),
  All-same (IsTypedBy scope) new (sources ++ x ∷ []) pushed (All-push (IsTypedBy scope) sources x before.1 typed),
)

pub typed_there : (scope : List Named) (sources : List Source) (i : ℕ) (x : Source) → All (IsTypedBy scope) sources → i < length sources → slice_get sources i ≡ Some x → IsTypedBy scope x
typed_there scope sources i x all h there = subst (IsTypedBy scope) (get_or_from_slice_get sources i x x there) (all i x h)

module _ (scope : List Named) (zone : ℕ) (sources : List Source) (i : ℕ) (x : Source) (sets : List Entries) (there : slice_get sources i ≡ Some x) (before : stepped (next_source zone sources) (map no_entries scope) i ≡ Ok sets) where
  pub source_stops : (s : Status) → value_of_source x zone ≡ Err s → i < length sources → zone_sets scope sources zone ≡ Err (in_column zone x.statistic.column s i)
  source_stops s stopped h = steps_stop (next_source zone sources) (map no_entries scope) i (length sources) sets (in_column zone x.statistic.column s i) before (rw (there, stopped) refl) h

  pub source_next : (p : Precision ScalarValue) (new : List Entries) → value_of_source x zone ≡ Ok p → new ≡ set_at x.statistic.column x.stat p sets (slice_get sets x.statistic.column) → stepped (next_source zone sources) (map no_entries scope) (i + 1) ≡ Ok new
  source_next p new read is = rw (add-one, before, there, read) (ap Ok (sym is))

pub next_set_fits : (scope : List Named) (sources : List Source) (i : ℕ) (x : Source) (sets new : List Entries) (p : Precision ScalarValue) → All (IsTypedBy scope) sources → i < length sources → slice_get sources i ≡ Some x → IsTrue (fits_zone scope sets)
    → IsTrue (value_fits x.stat x.dtype p) → new ≡ set_at x.statistic.column x.stat p sets (slice_get sets x.statistic.column) → IsTrue (fits_zone scope new)
next_set_fits scope sources i x sets new p all h there fits one is = ap (fits_zone scope) is ∙ source_fits scope sets x p (typed_there scope sources i x all h there) fits one
