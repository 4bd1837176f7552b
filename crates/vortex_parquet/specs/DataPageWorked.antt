-- Worked rows of the data pages of a file: the row group, the column, the rows and the bytes of each.
use Rattle.std.specs.Prelude.{◌≡◌, ℕ, List, [], ◌∷◌, Some, None, Ok, Err}
use Rattle.vortex_parquet.specs.declared.data_pages.DataPage.{DataPage}
use Rattle.vortex_parquet.specs.declared.fault.Fault.TheVariants as fault
use Rattle.vortex_parquet.specs.declared.offset_index.PageLocation.{PageLocation}
use Rattle.vortex_parquet.specs.DataPages.{chunk_pages, data_page, data_pages, indexed_pages, located_pages}
use Rattle.vortex_parquet.specs.GroupPages.{TailData}
use Rattle.vortex_parquet.specs.IndexWorked.{file_of_groups}

-- three pages of 10, 5 and 6 bytes, which begin with the rows 0, 3 and 5
abbrev pub three_locations : List PageLocation
three_locations = record { offset = 4; size = 10; first_row = 0 } ∷ record { offset = 14; size = 5; first_row = 3 } ∷ record { offset = 30; size = 6; first_row = 5 } ∷ []

-- an offset index of the first two of them
abbrev pub two_offsets : List ℕ
two_offsets = 25 ∷ 44 ∷ 22 ∷ 8 ∷ 21 ∷ 20 ∷ 22 ∷ 0 ∷ 0 ∷ 22 ∷ 28 ∷ 21 ∷ 10 ∷ 22 ∷ 6 ∷ 0 ∷ 0 ∷ []

-- the last bytes of a file, in which it stands at 50
abbrev pub tail_at_48 : TailData
tail_at_48 = record { begin = 48; bytes = 9 ∷ 9 ∷ two_offsets }

-- those of a file from its second byte on
abbrev pub tail_at_51 : TailData
tail_at_51 = record { begin = 51; bytes = 9 ∷ 9 ∷ two_offsets }

-- column chunks with that offset index and without one
abbrev pub indexed_chunk : List ℕ
indexed_chunk = 38 ∷ 8 ∷ 38 ∷ 100 ∷ 21 ∷ 34 ∷ 0 ∷ []

abbrev pub bare_chunk : List ℕ
bare_chunk = 38 ∷ 8 ∷ 0 ∷ []

-- a row group of 8 rows, whose first column chunk has the offset index, and one of 6 rows, whose second one has it
abbrev pub two_groups : List ℕ
two_groups = 25 ∷ 44 ∷ 38 ∷ 8 ∷ 38 ∷ 100 ∷ 21 ∷ 34 ∷ 0 ∷ 38 ∷ 8 ∷ 0 ∷ 38 ∷ 16 ∷ 0 ∷ 25 ∷ 44 ∷ 38 ∷ 8 ∷ 0 ∷ 38 ∷ 8 ∷ 38 ∷ 100 ∷ 21 ∷ 34 ∷ 0 ∷ 38 ∷ 12 ∷ 0 ∷ []

-- the two pages of the offset index, in a column of a row group of so many rows
abbrev pub first_page : (group column : ℕ) → DataPage
first_page i j = record { group = i; column = j; first = 0; end = 3; offset = 4; size = 10 }

abbrev pub second_page : (group column rows : ℕ) → DataPage
second_page i j rows = record { group = i; column = j; first = 3; end = rows; offset = 14; size = 5 }

pub record DataPageExamples : Type 0 where
  pub page : data_page 2 3 8 (Some (record { offset = 14; size = 5; first_row = 3 })) ≡ Ok (record { group = 2; column = 3; first = 3; end = 8; offset = 14; size = 5 })
  pub page_without_rows : data_page 2 3 3 (Some (record { offset = 14; size = 5; first_row = 3 })) ≡ Err fault.Pages
  pub page_that_ends_before : data_page 2 3 2 (Some (record { offset = 14; size = 5; first_row = 3 })) ≡ Err fault.Pages
  pub no_location : data_page 2 3 8 None ≡ Err fault.Pages
  pub located : located_pages 1 4 8 three_locations ≡ Ok (record { group = 1; column = 4; first = 0; end = 3; offset = 4; size = 10 } ∷ record { group = 1; column = 4; first = 3; end = 5; offset = 14; size = 5 } ∷ record { group = 1; column = 4; first = 5; end = 8; offset = 30; size = 6 } ∷ [])
  pub none_located : located_pages 1 4 8 [] ≡ Ok []
  pub last_passes_the_rows : located_pages 1 4 5 three_locations ≡ Err fault.Pages
  pub indexed : indexed_pages 1 4 8 (Some two_offsets) ≡ Ok (first_page 1 4 ∷ second_page 1 4 8 ∷ [])
  pub not_indexed : indexed_pages 1 4 8 None ≡ Ok []
  pub begins_late : indexed_pages 1 4 8 (Some (25 ∷ 28 ∷ 22 ∷ 8 ∷ 21 ∷ 20 ∷ 22 ∷ 2 ∷ 0 ∷ 0 ∷ [])) ≡ Err fault.Pages
  pub no_pages_of_rows : indexed_pages 1 4 8 (Some (0 ∷ [])) ≡ Err fault.Pages
  pub no_pages_of_no_rows : indexed_pages 1 4 0 (Some (0 ∷ [])) ≡ Ok []
  pub index_cut : indexed_pages 1 4 8 (Some (25 ∷ 44 ∷ 22 ∷ 8 ∷ 21 ∷ 20 ∷ 22 ∷ 0 ∷ 0 ∷ 22 ∷ 28 ∷ 21 ∷ [])) ≡ Err fault.Short
  pub chunk : chunk_pages tail_at_48 1 8 4 indexed_chunk ≡ Ok (first_page 1 4 ∷ second_page 1 4 8 ∷ [])
  pub chunk_without_index : chunk_pages tail_at_48 1 8 4 bare_chunk ≡ Ok []
  pub index_before_the_tail : chunk_pages tail_at_51 1 8 4 indexed_chunk ≡ Ok []
  pub file : data_pages tail_at_48 2 (file_of_groups 2 two_groups) ≡ Ok (first_page 0 0 ∷ second_page 0 0 8 ∷ first_page 1 1 ∷ second_page 1 1 6 ∷ [])
  pub file_without_indexes : data_pages tail_at_51 2 (file_of_groups 2 two_groups) ≡ Ok []
  pub no_groups : data_pages tail_at_48 2 (file_of_groups 0 []) ≡ Ok []
  pub other_columns : data_pages tail_at_48 1 (file_of_groups 2 two_groups) ≡ Err fault.Columns
  pub groups_cut : data_pages tail_at_48 2 (file_of_groups 3 two_groups) ≡ Err fault.Short
