-- A file whose pages are true, and worked rows, by computing.
use Rattle.std.proofs.Common.{◌≡◌, true, List, [], ◌∷◌, Some, None, Ok, refl, sym, subst, ◌∙◌, drop}
use Rattle.vortex_parquet.specs.declared.columns.Form.TheVariants as form
use Rattle.vortex_parquet.specs.Compact.{binary_at, count_at as items_count_at, head_at, id_at, items_at, jump, kind_at, kinds_at, map_at, natural_at, varint_at, varint_from, varint_in}
use Rattle.vortex_parquet.specs.Skip.{fields_in, skip_at, skip_entry, skip_value, struct_at, times}
use Rattle.vortex_parquet.specs.Fields.{binary_in, is_told, items_in, items_of, last_found, many, natural_in, number_in, spans_in, struct_of}
use Rattle.vortex_parquet.specs.GroupPages.{indexed, leaf_pages}
use Rattle.vortex_parquet.specs.PageIndex.{column_index_of, count_at, location_of, offset_index_of, places_of, truth_at, truths_in}
use Rattle.vortex_parquet.specs.PageWitness.{first, rows, second, stretches}
use Rattle.vortex_parquet.specs.Pages.{ArePagesTrue, PageData, page_at, pages_of}
use Rattle.vortex_parquet.specs.Records.{ColumnChunkData, chunk_of, meta_of, row_group_of, row_groups_of, spans_of, statistics_in, statistics_of}
use Rattle.vortex_parquet.specs.Stats.{all_of, statistics_by}
use Rattle.vortex_parquet.specs.Truth.{AreTrueOf}
use Rattle.vortex_parquet.proofs.PageWitness.{pages_are_true}
use Rattle.vortex_parquet.proofs.Sound.{one_ok}
use Rattle.vortex_predicates.specs.Footers.PagePruning.{AreTruePagesOf}
use Rattle.vortex_predicates.specs.Footers.PagedGroups.{chunk_pages, leaf_column, paged_at, paged_groups, paged_of}
use Rattle.vortex_predicates.specs.Footers.PageWitness.{RangeExamples, TruePagedFile, group, group_bytes, leaf, paged, tail}

pages_are : leaf_pages tail 5 leaf (drop 2 group_bytes) ≡ Ok (first ∷ second ∷ [])
unfolding kind_at jump varint_from varint_in varint_at natural_at binary_at id_at head_at items_count_at items_at kinds_at map_at times skip_entry fields_in struct_at skip_value skip_at struct_of last_found binary_in number_in natural_in is_told spans_in items_of items_in many location_of offset_index_of truth_at count_at truths_in column_index_of places_of page_at all_of pages_of indexed leaf_pages statistics_of statistics_in meta_of chunk_of
pages_are = refl

truth : AreTruePagesOf tail 5 leaf true (Some (drop 2 group_bytes)) rows.values
truth ps e = subst (λ (qs : List PageData). ArePagesTrue form.Binary true qs rows.values) (one_ok (first ∷ second ∷ []) ps (sym pages_are ∙ e)) pages_are_true.truth.0

chunk_is : chunk_of (drop 2 group_bytes) ≡ Ok (record { physical = Some 6; statistics = None })
unfolding kind_at jump varint_from varint_in varint_at natural_at binary_at id_at head_at items_count_at items_at kinds_at map_at times skip_entry fields_in struct_at skip_value skip_at struct_of last_found binary_in number_in natural_in is_told statistics_of statistics_in meta_of chunk_of
chunk_is = refl

-- the footer has no statistics
footer_truth : AreTrueOf leaf true (Some (drop 2 group_bytes)) rows.values
footer_truth c s e t k =
    let same = one_ok (record { physical = Some 6; statistics = None }) c (sym chunk_is ∙ e) in
    let never : None ≡ Some s = subst (λ (x : ColumnChunkData). statistics_by leaf.nullability x.statistics ≡ Some s) (sym same) k in
    absurd cc

pub a_paged_file_is_true : TruePagedFile
unfolding kind_at jump varint_from varint_in varint_at natural_at binary_at id_at head_at items_count_at items_at kinds_at map_at times skip_entry fields_in struct_at skip_value skip_at struct_of last_found binary_in number_in natural_in is_told spans_in items_of items_in many location_of offset_index_of truth_at count_at truths_in column_index_of places_of page_at all_of pages_of indexed leaf_pages statistics_of statistics_in meta_of chunk_of spans_of row_group_of row_groups_of chunk_pages leaf_column paged_of paged_at paged_groups
a_paged_file_is_true = record {
  pages = refl;
  cut = record { groups = paged ∷ []; are_groups = refl; are_stretches = (stretches, [], [], pages_are_true.cut, refl, refl, (refl, refl)) };
  here = record { groups = group ∷ []; are_groups = refl; here = refl };
  truth = record { is_chunk = refl; scoped = refl; counted = refl; by_footer = (footer_truth, tt); are_true = (truth, tt) };
}

pub examples : RangeExamples
unfolding kind_at jump varint_from varint_in varint_at natural_at binary_at id_at head_at items_count_at items_at kinds_at map_at times skip_entry fields_in struct_at skip_value skip_at struct_of last_found binary_in number_in natural_in is_told spans_in items_of items_in many location_of offset_index_of truth_at count_at truths_in column_index_of places_of page_at all_of pages_of indexed leaf_pages statistics_of statistics_in meta_of chunk_of spans_of row_group_of chunk_pages leaf_column paged_of
examples = record {
  no_stretches = refl;
  stretches = refl;
  no_rows = refl;
  rows = refl;
  no_chunk = refl;
  no_chunk_of_no_rows = refl;
  column_there = refl;
  column_without_order = refl;
  column_missing = refl;
  columns_in_order = refl;
  other_number_of_columns = refl;
}
