-- What has been read of a table before its first value that can't be.
use Rattle.std.proofs.Common.{◌≡◌, ◌<◌, ◌+◌, ◌++◌, ◌∷◌, ℕ, List, [], Some, Ok, ap, arith, inl, inr, map, slice_get, subst, sym, ◌∙◌}
use Rattle.std.proofs.Math.Nat.{eq-or-lt_of_le}
use Rattle.std.proofs.lemmas.Option.{same_Some}
use Rattle.std.specs.Prelude.{slice_index}
use Rattle.vortex_base.specs.Data.Scopes.{Named}
use Rattle.vortex_zone_map.specs.Zone.{Entries, ZoneData}
use Rattle.vortex_capi.specs.declared.table.Source.{Source}
use Rattle.vortex_capi.specs.MapCells.{AllRead, IsRead}
use Rattle.vortex_capi.specs.Refusals.{all_found, stepped}
use Rattle.vortex_capi.specs.Tables.{next_source, no_entries, zone_at, zone_sets}
use Rattle.vortex_capi.proofs.ReadLemmas.{followed_read, found_goes_on}

-- the first statistics of a zone make sets of a scope
abbrev pub StepsTo : List Named → ℕ → List Source → ℕ → Type 0
StepsTo scope zone sources n = (sets : List Entries) × (stepped (next_source zone sources) (map no_entries scope) n ≡ Ok sets)

-- the first zones of a scope are found
abbrev pub FindsZones : List Named → List Source → List ℕ → ℕ → Type 0
FindsZones scope sources rows n = (zones : List ZoneData) × (all_found (zone_at scope sources rows) n ≡ Ok zones)

-- the first statistics have a value in a zone
abbrev pub FirstRead : List Source → ℕ → ℕ → Type 0
FirstRead sources zone n = (i : ℕ) (x : Source) → i < n → slice_get sources i ≡ Some x → IsRead x zone

pub one_more_value : (sources : List Source) (zone n : ℕ) (x : Source) → slice_get sources n ≡ Some x → IsRead x zone → FirstRead sources zone n → FirstRead sources zone (n + 1)
one_more_value sources zone n x there is before i y less at = elim (eq-or-lt_of_le {n = i} {m = n} (omega (arith, less))) [
  | inl same ↦ subst (λ (z : Source). IsRead z zone) (same_Some x y (sym there ∙ ap (slice_get sources) (sym same) ∙ at)) is
  | inr below ↦ before i y below at
]

pub one_more_zone_found : (scope : List Named) (sources : List Source) (rows : List ℕ) (n : ℕ) → (sets : List Entries) × (zone_sets scope sources n ≡ Ok sets) → FindsZones scope sources rows n → FindsZones scope sources rows (n + 1)
one_more_zone_found scope sources rows n zone before =
    let made : ZoneData = record { rows = slice_index rows n; stats = zone.0 } in
    (before.0 ++ made ∷ [], found_goes_on (zone_at scope sources rows) n before.0 made before.1 (followed_read (zone_sets scope sources n) (λ sets. Ok (record { rows = slice_index rows n; stats = sets })) zone.0 zone.1))

pub one_more_zone_read : (sources : List Source) (n : ℕ) → ((i : ℕ) (x : Source) → slice_get sources i ≡ Some x → IsRead x n) → AllRead sources n → AllRead sources (n + 1)
one_more_zone_read sources n is before i x at zone less = elim (eq-or-lt_of_le {n = zone} {m = n} (omega (arith, less))) [
  | inl same ↦ subst (IsRead x) (sym same) (is i x at)
  | inr below ↦ before i x at zone below
]
