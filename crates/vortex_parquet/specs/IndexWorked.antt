-- Worked rows of where the page indexes of a file stand, and of where the first of them begins.
use Rattle.std.specs.Prelude.{◌≡◌, ℕ, List, [], ◌∷◌, Some, None, Ok, Err}
use Rattle.vortex_parquet.specs.declared.fault.Fault.TheVariants as fault
use Rattle.vortex_parquet.specs.declared.offset_index.IndexPlaces.{IndexPlaces}
use Rattle.vortex_parquet.specs.PageIndexes.{IsLeast, file_offsets, index_places}
use Rattle.vortex_parquet.specs.Records.{FileData}

-- two row groups: one of a column chunk with both indexes and of one without, and one of a column chunk with an offset index alone
abbrev pub both_indexes : IndexPlaces
both_indexes = record { offset_index = Some 50; offset_index_length = Some 7; column_index = Some 15; column_index_length = Some 9 }

abbrev pub no_indexes : IndexPlaces
no_indexes = record { offset_index = None; offset_index_length = None; column_index = None; column_index_length = None }

abbrev pub an_offset_index : IndexPlaces
an_offset_index = record { offset_index = Some 7; offset_index_length = None; column_index = None; column_index_length = None }

abbrev pub two_groups : List ℕ
two_groups = 25 ∷ 44 ∷ 38 ∷ 8 ∷ 38 ∷ 100 ∷ 21 ∷ 14 ∷ 22 ∷ 30 ∷ 21 ∷ 18 ∷ 0 ∷ 38 ∷ 8 ∷ 0 ∷ 38 ∷ 20 ∷ 0 ∷ 25 ∷ 28 ∷ 70 ∷ 14 ∷ 0 ∷ 38 ∷ 20 ∷ 0 ∷ []

abbrev pub file_of_groups : ℕ → List ℕ → FileData
file_of_groups n bytes = record { schema = []; orders = []; groups = record { count = n; from = bytes } }

pub record IndexExamples : Type 0 where
  pub groups : index_places (file_of_groups 2 two_groups) ≡ Ok ((both_indexes ∷ no_indexes ∷ []) ∷ (an_offset_index ∷ []) ∷ [])
  pub no_groups : index_places (file_of_groups 0 []) ≡ Ok []
  pub group_without_rows : index_places (file_of_groups 1 (25 ∷ 28 ∷ 70 ∷ 14 ∷ 0 ∷ 0 ∷ [])) ≡ Err fault.Missing
  pub groups_cut : index_places (file_of_groups 3 two_groups) ≡ Err fault.Short
  pub offsets : file_offsets ((both_indexes ∷ no_indexes ∷ []) ∷ (an_offset_index ∷ []) ∷ []) ≡ 15 ∷ 50 ∷ 7 ∷ []
  pub no_offsets : file_offsets ((no_indexes ∷ []) ∷ [] ∷ []) ≡ []
  pub none_of_no_offsets : IsLeast [] None
  pub the_last : IsLeast (15 ∷ 50 ∷ 7 ∷ []) (Some 7)
  pub the_first : IsLeast (7 ∷ 50 ∷ []) (Some 7)
  pub not_a_greater_one : ¬ (IsLeast (15 ∷ 50 ∷ 7 ∷ []) (Some 15))
  pub not_one_that_is_not_named : ¬ (IsLeast (15 ∷ 50 ∷ 7 ∷ []) (Some 6))
  pub not_none_of_an_offset : ¬ (IsLeast (7 ∷ []) None)
