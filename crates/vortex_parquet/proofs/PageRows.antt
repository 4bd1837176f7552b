-- The worked rows of page indexes, by computing.
use Rattle.std.proofs.Common.{refl}
use Rattle.vortex_parquet.specs.Compact.{binary_at, count_at as items_count_at, head_at, id_at, items_at, jump, kind_at, kinds_at, map_at, natural_at, varint_at, varint_from, varint_in}
use Rattle.vortex_parquet.specs.Skip.{fields_in, skip_at, skip_entry, skip_value, struct_at, times}
use Rattle.vortex_parquet.specs.Fields.{items_in, items_of, last_found, many, natural_in, number_in, struct_of}
use Rattle.vortex_parquet.specs.GroupPages.{indexed}
use Rattle.vortex_parquet.specs.PageIndex.{column_index_of, count_at, location_of, offset_index_of, places_of, truth_at, truths_in}
use Rattle.vortex_parquet.specs.Pages.{page_at, pages_of}
use Rattle.vortex_parquet.specs.PageWorked.{PageExamples, StretchExamples}
use Rattle.vortex_parquet.specs.Stats.{all_of, set_of}

pub pages : PageExamples
unfolding kind_at jump varint_from varint_in varint_at natural_at binary_at id_at head_at items_count_at items_at kinds_at map_at times skip_entry fields_in struct_at skip_value skip_at struct_of last_found number_in natural_in items_of items_in many places_of location_of offset_index_of truth_at count_at truths_in column_index_of page_at all_of pages_of indexed
pages = record {
  places = refl;
  places_missing = refl;
  location = refl;
  location_without_row = refl;
  location_without_size = refl;
  location_without_offset = refl;
  row_below_0 = refl;
  offsets = refl;
  offsets_missing = refl;
  offsets_cut = refl;
  truth = refl;
  falsehood = refl;
  falsehood_as_0 = refl;
  neither = refl;
  truth_cut = refl;
  count = refl;
  count_below_0 = refl;
  index = refl;
  index_of_the_other_kind = refl;
  index_without_counts = refl;
  first_bounds = refl;
  null_page = refl;
  last_bounds = refl;
  more_nulls_than_rows = refl;
  as_many_nulls_as_rows = refl;
  no_nulls_told = refl;
  required_unknown = refl;
  required_not_told = refl;
  required_told = refl;
  required_null_page = refl;
  pages = refl;
  required_pages = refl;
  by_the_schema = refl;
  not_by_the_schema = refl;
  no_pages = refl;
  no_pages_of_rows = refl;
  unequal_lengths = refl;
  unequal_nulls = refl;
  unequal_mins = refl;
  unequal_maxes = refl;
  unequal_counts = refl;
  no_counts = refl;
  begins_late = refl;
  stands_still = refl;
  passes_the_rows = refl;
}

pub stretches : StretchExamples
unfolding set_of
stretches = record {
  they_follow = refl;
  they_begin_late = refl;
  they_end_early = refl;
  none_follow = refl;
  a_page_without_rows = refl;
  no_nulls = refl;
  all_nulls = refl;
  some_nulls = refl;
  some_nulls_of_the_whole_page = refl;
  nulls_unknown = refl;
  never_exact = refl;
  set = refl;
  set_of_nulls = refl;
  set_without_order = refl;
  ends_first = refl;
}
