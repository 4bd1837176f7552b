-- The worked rows of data pages, by computing.
use Rattle.std.proofs.Common.{refl}
use Rattle.vortex_parquet.specs.Compact.{binary_at, count_at, head_at, id_at, items_at, jump, kind_at, kinds_at, map_at, natural_at, varint_at, varint_from, varint_in}
use Rattle.vortex_parquet.specs.DataPageWorked.{DataPageExamples}
use Rattle.vortex_parquet.specs.DataPages.{chunk_pages, chunks_pages, data_page_at, data_pages, group_pages_at, groups_pages, indexed_pages}
use Rattle.vortex_parquet.specs.Skip.{fields_in, skip_at, skip_entry, skip_value, struct_at, times}
use Rattle.vortex_parquet.specs.Fields.{items_in, items_of, last_found, many, natural_in, number_in, spans_in, struct_of}
use Rattle.vortex_parquet.specs.PageIndex.{location_of, offset_index_of, places_of}
use Rattle.vortex_parquet.specs.Records.{row_group_of, spans_of}
use Rattle.vortex_parquet.specs.Stats.{all_of}

pub data_pages_hold : DataPageExamples
unfolding kind_at jump varint_from varint_in varint_at natural_at binary_at id_at head_at count_at items_at kinds_at map_at times skip_entry fields_in struct_at skip_value skip_at struct_of last_found number_in natural_in items_of items_in spans_in spans_of many location_of offset_index_of places_of row_group_of all_of data_page_at indexed_pages chunk_pages chunks_pages group_pages_at groups_pages data_pages
data_pages_hold = record {
  page = refl;
  page_without_rows = refl;
  page_that_ends_before = refl;
  no_location = refl;
  located = refl;
  none_located = refl;
  last_passes_the_rows = refl;
  indexed = refl;
  not_indexed = refl;
  begins_late = refl;
  no_pages_of_rows = refl;
  no_pages_of_no_rows = refl;
  index_cut = refl;
  chunk = refl;
  chunk_without_index = refl;
  index_before_the_tail = refl;
  file = refl;
  file_without_indexes = refl;
  no_groups = refl;
  other_columns = refl;
  groups_cut = refl;
}
