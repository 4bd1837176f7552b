-- Cells that are filled, and columns of cells.
use Rattle.std.proofs.Common.{◌≡◌, ◌<◌, ◌+◌, ◌++◌, ◌∙◌, ℕ, zero, suc, false, List, [], ◌∷◌, Option, None, Some, ap, ap₂, arith, get_or, length, map, refl, sym, take}
use Rattle.std.proofs.lemmas.List.{map_push, take_more}
use Rattle.std.proofs.lemmas.Option.{get_or_from_slice_get, slice_get-get_or}
use Rattle.std.specs.Option.{is_some}
use Rattle.std.specs.Prelude.{IsTrue, replicate, slice_get, slice_set}
use Rattle.vortex_base.specs.Data.ArrayData.{cell_values}
use Rattle.vortex_base.specs.Data.Columns.{ColumnData, all_fit}
use Rattle.vortex_base.specs.declared.array_data.ArrayData.{ArrayData}
use Rattle.vortex_base.specs.declared.dtype.DType.{DType}
use Rattle.vortex_zone_map.proofs.ZoneMaps.ZoneNames.{column_is_made}
use Rattle.vortex_zone_map.specs.Zone.{ZoneData}
use Rattle.vortex_zone_map.specs.ZoneMaps.{StatColumn, zone_column}
use Rattle.vortex_zone_map.specs.Tables.{AreCells, IsTable, under}

-- ---- a null that is put among nulls

nulls_stay : {X : Type 0} (n i : ℕ) → replicate n (let x : Option X = None in x) ≡ slice_set (replicate n None) i None
nulls_stay zero i = refl
nulls_stay (suc n) zero = refl
nulls_stay (suc n) (suc i) = ap (λ l. None ∷ l) (nulls_stay n i)

pub null_among : {X : Type 0} (cells : List (Option X)) (n i : ℕ) (v : Option X) → cells ≡ replicate n None → is_some v ≡ false → cells ≡ slice_set cells i v
null_among cells n i None are none = are ∙ nulls_stay n i ∙ ap (λ l. slice_set l i None) (sym are)
null_among cells n i (Some x) are none = absurd cc

-- ---- columns

module _ (heads : List StatColumn) (table : List ArrayData) (n : ℕ) (place : ℕ) (h : StatColumn) (c : ArrayData) (at : place ≡ n) (within : n < length table) (cells : c ≡ get_or table n c) (head : h ≡ get_or heads place h) where
  module _ (zones : List ZoneData) (are : AreCells heads zones table) where
    head_there : slice_get heads n ≡ Some h
    head_there =
        let long = are.long in
        slice_get-get_or heads n h (omega (arith, long, within)) ∙ ap Some (ap (λ k. get_or heads k h) (sym at) ∙ sym head)

    cells_told : cell_values c ≡ under h zones
    cells_told = are.told n h c head_there (slice_get-get_or table n c within ∙ ap Some (sym cells))

    pub next_column : (column : ColumnData) (t : DType) (columns new : List ColumnData) → column ≡ record { dtype = t; values = cell_values c; size = 0 } → t ≡ h.dtype → new ≡ columns ++ column ∷ [] → columns ≡ map (zone_column zones) (take n heads)
        → new ≡ map (zone_column zones) (take (n + 1) heads)
    next_column column t columns new made typed pushed before =
        let long = are.long in
        let is : column ≡ zone_column zones h = made ∙ ap₂ (λ (d : DType) vs. let k : ColumnData = record { dtype = d; values = vs; size = 0 } in k) typed cells_told in
        pushed ∙ ap₂ (λ (l : List ColumnData) (x : ColumnData). l ++ x ∷ []) before is
        ∙ sym (map_push (zone_column zones) (take n heads) h)
        ∙ ap (map (zone_column zones)) (ap (λ x. take n heads ++ x ∷ []) (sym (get_or_from_slice_get heads n h h head_there)) ∙ sym (take_more heads n h (omega (arith, long, within))))

  pub column_fits : (is : IsTable heads table) (t : DType) → t ≡ h.dtype → IsTrue (all_fit t (cell_values c))
  column_fits is t typed = column_is_made is.zones h t (cell_values c) (is.tells n h (head_there is.zones is.cells)) typed (cells_told is.zones is.cells)
