-- Worked rows of page indexes: their records, the pages of a column chunk, and the stretches of a row group.
use Rattle.std.specs.Prelude.{◌≡◌, true, false, List, [], ◌∷◌, Some, None, Ok, Err, codes}
use Rattle.vortex_base.specs.declared.pvalue.PValue.TheVariants as number
use Rattle.vortex_base.specs.declared.scalar_value.ScalarValue.TheVariants as value
use Rattle.vortex_base.specs.declared.types.Nullability.TheVariants.{Nullable, NonNullable}
use Rattle.vortex_stats.specs.declared.precision.Precision.TheVariants.{Exact, Inexact, Absent}
use Rattle.vortex_stats.specs.declared.stat.Stat.TheVariants.{Max, Min, NullCount}
use Rattle.vortex_parquet.specs.declared.columns.Form.TheVariants as form
use Rattle.vortex_parquet.specs.declared.fault.Fault.TheVariants as fault
use Rattle.vortex_parquet.specs.GroupPages.{indexed}
use Rattle.vortex_parquet.specs.PageIndex.{IndexData, column_index_of, count_at, location_of, offset_index_of, places_of, truth_at}
use Rattle.vortex_parquet.specs.Pages.{PageData, all_null, bounded, has_length, pages_of, statistics_at}
use Rattle.vortex_parquet.specs.Stats.{statistics_by}
use Rattle.vortex_parquet.specs.Stretches.{behind, follow, next_end, nulls_within, set_within, within}

-- three pages of texts, of which the second is null: it has bytes in the places of its bounds
abbrev pub texts : IndexData
texts = record { null_pages = false ∷ true ∷ false ∷ []; mins = codes "a" ∷ codes "z" ∷ codes "d" ∷ []; maxes = codes "c" ∷ codes "y" ∷ codes "f" ∷ []; null_counts = Some 0 ∷ Some 2 ∷ None ∷ [] }

-- they begin with the rows 0, 3 and 5 of 8
abbrev pub text_pages : List PageData
text_pages =
    record { first = 0; end = 3; statistics = bounded (Some (codes "a")) (Some (codes "c")) (Some 0) } ∷
    record { first = 3; end = 5; statistics = all_null 2 } ∷
    record { first = 5; end = 8; statistics = bounded (Some (codes "d")) (Some (codes "f")) None } ∷ []

-- those of a column without nulls
abbrev pub required_pages : List PageData
required_pages =
    record { first = 0; end = 3; statistics = bounded (Some (codes "a")) (Some (codes "c")) (Some 0) } ∷
    record { first = 3; end = 5; statistics = all_null 2 } ∷
    record { first = 5; end = 8; statistics = bounded (Some (codes "d")) (Some (codes "f")) (Some 0) } ∷ []

pub record PageExamples : Type 0 where
  pub places : places_of (38 ∷ 8 ∷ 38 ∷ 100 ∷ 21 ∷ 14 ∷ 22 ∷ 30 ∷ 21 ∷ 18 ∷ 0 ∷ []) ≡ Ok (record { offset_index = Some 50; offset_index_length = Some 7; column_index = Some 15; column_index_length = Some 9 })
  pub places_missing : places_of (38 ∷ 8 ∷ 0 ∷ []) ≡ Ok (record { offset_index = None; offset_index_length = None; column_index = None; column_index_length = None })
  pub location : location_of (22 ∷ 28 ∷ 21 ∷ 10 ∷ 22 ∷ 6 ∷ 0 ∷ 9 ∷ []) ≡ Ok (record { offset = 14; size = 5; first_row = 3 }, 9 ∷ [])
  pub location_without_row : location_of (22 ∷ 28 ∷ 21 ∷ 10 ∷ 0 ∷ []) ≡ Err fault.Missing
  pub location_without_size : location_of (22 ∷ 28 ∷ 38 ∷ 6 ∷ 0 ∷ []) ≡ Err fault.Missing
  pub location_without_offset : location_of (37 ∷ 10 ∷ 22 ∷ 6 ∷ 0 ∷ []) ≡ Err fault.Missing
  pub row_below_0 : location_of (22 ∷ 28 ∷ 21 ∷ 10 ∷ 22 ∷ 5 ∷ 0 ∷ []) ≡ Err fault.Missing
  pub offsets : offset_index_of (25 ∷ 44 ∷ 22 ∷ 8 ∷ 21 ∷ 20 ∷ 22 ∷ 0 ∷ 0 ∷ 22 ∷ 28 ∷ 21 ∷ 10 ∷ 22 ∷ 6 ∷ 0 ∷ 0 ∷ []) ≡ Ok (record { offset = 4; size = 10; first_row = 0 } ∷ record { offset = 14; size = 5; first_row = 3 } ∷ [])
  pub offsets_missing : offset_index_of (0 ∷ []) ≡ Ok []
  pub offsets_cut : offset_index_of (25 ∷ 44 ∷ 22 ∷ 8 ∷ []) ≡ Err fault.Short
  pub truth : truth_at (1 ∷ 9 ∷ []) ≡ Ok (true, 9 ∷ [])
  pub falsehood : truth_at (2 ∷ 9 ∷ []) ≡ Ok (false, 9 ∷ [])
  pub falsehood_as_0 : truth_at (0 ∷ 9 ∷ []) ≡ Ok (false, 9 ∷ [])
  pub neither : truth_at (3 ∷ 9 ∷ []) ≡ Err fault.Kind
  pub truth_cut : truth_at [] ≡ Err fault.Short
  pub count : count_at (4 ∷ 9 ∷ []) ≡ Ok (Some 2, 9 ∷ [])
  pub count_below_0 : count_at (1 ∷ 9 ∷ []) ≡ Ok (None, 9 ∷ [])
  pub index : column_index_of (25 ∷ 49 ∷ 2 ∷ 1 ∷ 2 ∷ 25 ∷ 56 ∷ 1 ∷ 97 ∷ 1 ∷ 122 ∷ 1 ∷ 100 ∷ 25 ∷ 56 ∷ 1 ∷ 99 ∷ 1 ∷ 121 ∷ 1 ∷ 102 ∷ 21 ∷ 2 ∷ 25 ∷ 54 ∷ 0 ∷ 4 ∷ 1 ∷ 0 ∷ []) ≡ Ok texts
  pub index_of_the_other_kind : column_index_of (25 ∷ 50 ∷ 2 ∷ 1 ∷ 2 ∷ 25 ∷ 56 ∷ 1 ∷ 97 ∷ 1 ∷ 122 ∷ 1 ∷ 100 ∷ 25 ∷ 56 ∷ 1 ∷ 99 ∷ 1 ∷ 121 ∷ 1 ∷ 102 ∷ 21 ∷ 2 ∷ 25 ∷ 54 ∷ 0 ∷ 4 ∷ 1 ∷ 0 ∷ []) ≡ Ok texts
  pub index_without_counts : column_index_of (25 ∷ 17 ∷ 2 ∷ 25 ∷ 24 ∷ 1 ∷ 97 ∷ 25 ∷ 24 ∷ 1 ∷ 99 ∷ 0 ∷ []) ≡ Ok (record { null_pages = false ∷ []; mins = codes "a" ∷ []; maxes = codes "c" ∷ []; null_counts = [] })
  pub first_bounds : statistics_at Nullable texts 0 3 ≡ bounded (Some (codes "a")) (Some (codes "c")) (Some 0)
  pub null_page : statistics_at Nullable texts 1 2 ≡ all_null 2
  pub last_bounds : statistics_at Nullable texts 2 3 ≡ bounded (Some (codes "d")) (Some (codes "f")) None
  pub more_nulls_than_rows : statistics_at Nullable (record texts { null_counts = Some 4 ∷ Some 2 ∷ Some 3 ∷ [] }) 0 3 ≡ bounded (Some (codes "a")) (Some (codes "c")) None
  pub as_many_nulls_as_rows : statistics_at Nullable (record texts { null_counts = Some 4 ∷ Some 2 ∷ Some 3 ∷ [] }) 2 3 ≡ bounded (Some (codes "d")) (Some (codes "f")) (Some 3)
  pub no_nulls_told : statistics_at Nullable (record texts { null_counts = [] }) 0 3 ≡ bounded (Some (codes "a")) (Some (codes "c")) None
  pub required_unknown : statistics_at NonNullable texts 2 3 ≡ bounded (Some (codes "d")) (Some (codes "f")) (Some 0)
  pub required_not_told : statistics_at NonNullable (record texts { null_counts = [] }) 0 3 ≡ bounded (Some (codes "a")) (Some (codes "c")) (Some 0)
  pub required_told : statistics_at NonNullable (record texts { null_counts = Some 1 ∷ Some 2 ∷ Some 3 ∷ [] }) 0 3 ≡ bounded (Some (codes "a")) (Some (codes "c")) (Some 1)
  pub required_null_page : statistics_at NonNullable texts 1 2 ≡ all_null 2
  pub pages : pages_of 8 Nullable texts (record { offset = 4; size = 10; first_row = 0 } ∷ record { offset = 14; size = 5; first_row = 3 } ∷ record { offset = 19; size = 6; first_row = 5 } ∷ []) ≡ Ok text_pages
  pub required_pages : pages_of 8 NonNullable texts (record { offset = 4; size = 10; first_row = 0 } ∷ record { offset = 14; size = 5; first_row = 3 } ∷ record { offset = 19; size = 6; first_row = 5 } ∷ []) ≡ Ok required_pages
  pub by_the_schema : indexed 5 NonNullable (statistics_by NonNullable None) None None ≡ Ok (record { first = 0; end = 5; statistics = bounded None None (Some 0) } ∷ [])
  pub not_by_the_schema : indexed 5 Nullable (statistics_by Nullable None) None None ≡ Ok (record { first = 0; end = 5; statistics = bounded None None None } ∷ [])
  pub no_pages : pages_of 0 Nullable (record { null_pages = []; mins = []; maxes = []; null_counts = [] }) [] ≡ Ok []
  pub no_pages_of_rows : pages_of 1 Nullable (record { null_pages = []; mins = []; maxes = []; null_counts = [] }) [] ≡ Err fault.Pages
  pub unequal_lengths : pages_of 8 Nullable texts (record { offset = 4; size = 10; first_row = 0 } ∷ record { offset = 14; size = 5; first_row = 3 } ∷ []) ≡ Err fault.Pages
  pub unequal_nulls : has_length (record texts { null_pages = true ∷ true ∷ [] }) 3 ≡ false
  pub unequal_mins : has_length (record texts { mins = [] }) 3 ≡ false
  pub unequal_maxes : has_length (record texts { maxes = [] }) 3 ≡ false
  pub unequal_counts : has_length (record texts { null_counts = None ∷ [] }) 3 ≡ false
  pub no_counts : has_length (record texts { null_counts = [] }) 3 ≡ true
  pub begins_late : pages_of 8 Nullable texts (record { offset = 4; size = 10; first_row = 1 } ∷ record { offset = 14; size = 5; first_row = 3 } ∷ record { offset = 19; size = 6; first_row = 5 } ∷ []) ≡ Err fault.Pages
  pub stands_still : pages_of 8 Nullable texts (record { offset = 4; size = 10; first_row = 0 } ∷ record { offset = 14; size = 5; first_row = 3 } ∷ record { offset = 19; size = 6; first_row = 3 } ∷ []) ≡ Err fault.Pages
  pub passes_the_rows : pages_of 5 Nullable texts (record { offset = 4; size = 10; first_row = 0 } ∷ record { offset = 14; size = 5; first_row = 3 } ∷ record { offset = 19; size = 6; first_row = 5 } ∷ []) ≡ Err fault.Pages

-- pages one behind the other, and what those say of some of their rows
pub record StretchExamples : Type 0 where
  pub they_follow : follow 0 8 text_pages ≡ true
  pub they_begin_late : follow 1 8 text_pages ≡ false
  pub they_end_early : follow 0 9 text_pages ≡ false
  pub none_follow : follow 3 3 [] ≡ true
  pub a_page_without_rows : follow 0 0 (record { first = 0; end = 0; statistics = all_null 0 } ∷ []) ≡ false
  pub no_nulls : nulls_within 3 2 (Some 0) ≡ Some 0
  pub all_nulls : nulls_within 3 2 (Some 3) ≡ Some 2
  pub some_nulls : nulls_within 3 2 (Some 1) ≡ None
  pub some_nulls_of_the_whole_page : nulls_within 3 3 (Some 1) ≡ Some 1
  pub nulls_unknown : nulls_within 3 3 None ≡ None
  pub never_exact : within 3 2 (record { old_max = Some (codes "o"); old_min = Some (codes "n"); null_count = Some 1; max = Some (codes "c"); min = Some (codes "a"); is_max_exact = true; is_min_exact = true }) ≡ record { old_max = Some (codes "o"); old_min = Some (codes "n"); null_count = None; max = Some (codes "c"); min = Some (codes "a"); is_max_exact = false; is_min_exact = false }
  pub set : set_within (record { form = form.Binary; ordered = true; pages = text_pages }) 2 (record { first = 0; end = 3; statistics = bounded (Some (codes "a")) (Some (codes "c")) (Some 0) }) ≡ (Max, Inexact (value.Binary (codes "c"))) ∷ (Min, Inexact (value.Binary (codes "a"))) ∷ (NullCount, Exact (value.Primitive (number.U64 0))) ∷ []
  pub set_of_nulls : set_within (record { form = form.Binary; ordered = true; pages = text_pages }) 1 (record { first = 3; end = 5; statistics = all_null 2 }) ≡ (Max, Absent) ∷ (Min, Absent) ∷ (NullCount, Exact (value.Primitive (number.U64 1))) ∷ []
  pub set_without_order : set_within (record { form = form.Binary; ordered = false; pages = text_pages }) 3 (record { first = 0; end = 3; statistics = bounded (Some (codes "a")) (Some (codes "c")) (Some 1) }) ≡ (Max, Absent) ∷ (Min, Absent) ∷ (NullCount, Exact (value.Primitive (number.U64 1))) ∷ []
  pub ends_first : next_end 8 (record { form = form.Binary; ordered = true; pages = text_pages } ∷ record { form = form.Bool; ordered = true; pages = record { first = 0; end = 2; statistics = all_null 2 } ∷ record { first = 2; end = 8; statistics = all_null 6 } ∷ [] } ∷ []) ≡ 2
