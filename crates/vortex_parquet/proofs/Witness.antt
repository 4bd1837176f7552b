-- A file whose statistics are true, by computing.
use Rattle.std.proofs.Common.{◌≡◌, ℕ, true, Bool, List, [], ◌∷◌, Option, Some, None, Ok, refl, sym, subst, ◌∙◌, arith}
use Rattle.std.specs.Prelude.{Contains, pos, negsuc}
use Rattle.std.specs.List.{list_all}
use Rattle.std.specs.Ordering.{is_gt}
use Rattle.std.proofs.lemmas.Bool.{not-true}
use Rattle.std.proofs.lemmas.List.Elements.{All-contains}
use Rattle.std.proofs.lemmas.List.Sums.{AllPass-from_list_all}
use Rattle.vortex_base.specs.declared.pvalue.PValue.TheVariants as number
use Rattle.vortex_base.specs.declared.scalar_value.ScalarValue.{ScalarValue}
use Rattle.vortex_base.specs.declared.scalar_value.ScalarValue.TheVariants as value
use Rattle.vortex_base.specs.Data.Values.{value_cmp}
use Rattle.vortex_stats.specs.Merging.Merges.{is_at_most}
use Rattle.vortex_stats.specs.Sets.Claims.{NoneAbove, NoneBelow}
use Rattle.vortex_parquet.specs.Compact.{binary_at, count_at, head_at, id_at, items_at, jump, kind_at, kinds_at, map_at, natural_at, varint_at, varint_from, varint_in}
use Rattle.vortex_parquet.specs.Skip.{fields_in, skip_at, skip_entry, skip_value, struct_at, times}
use Rattle.vortex_parquet.specs.Fields.{binary_in, is_told, last_found, many, natural_in, number_in, spans_in, struct_of, items_in, items_of}
use Rattle.vortex_parquet.specs.Meanings.{meaning_of}
use Rattle.vortex_parquet.specs.Records.{ColumnChunkData, StatisticsData, annotation_in, chunk_of, element_of, file_of, meta_of, order_of, row_group_of, row_groups_of, spans_of, statistics_in, statistics_of}
use Rattle.vortex_parquet.specs.Columns.{checked, columns_in, columns_of, content_of, form_of, four, leaf_of, nullability}
use Rattle.vortex_parquet.specs.Stats.{all_of, chunk_set, four_of, four_value, group_at, group_of, groups_of, leaf_set, set_of, size_of, span_set, statistics_by, value_of}
use Rattle.vortex_parquet.specs.Truth.{AreTrue, AreTrueOf}
use Rattle.vortex_parquet.specs.Witness.{TrueFile, chunk, file, group, leaf, rows, set, span, statistics}
use Rattle.vortex_parquet.proofs.Sound.{one_ok}
use Rattle.vortex_parquet.proofs.True.{group_true}

-- a test of all values in place of one value after another
abbrev pub is_upper : ScalarValue → Option ScalarValue → Bool
is_upper v None = true
is_upper v (Some w) = is_at_most w v

abbrev pub is_lower : ScalarValue → Option ScalarValue → Bool
is_lower v None = true
is_lower v (Some w) = is_at_most v w

pub none_above : (v : ScalarValue) (xs : List (Option ScalarValue)) → list_all (is_upper v) xs ≡ true → NoneAbove v xs
none_above v xs h = λ w i. not-true (is_gt (value_cmp w v)) (All-contains (λ x. is_upper v x ≡ true) xs (Some w) (AllPass-from_list_all (is_upper v) xs h) i)

pub none_below : (v : ScalarValue) (xs : List (Option ScalarValue)) → list_all (is_lower v) xs ≡ true → NoneBelow v xs
none_below v xs h = λ w i. not-true (is_gt (value_cmp v w)) (All-contains (λ x. is_lower v x ≡ true) xs (Some w) (AllPass-from_list_all (is_lower v) xs h) i)

pub inner : {A : Type 0} (a b : A) → Some a ≡ Some b → a ≡ b
inner a b e = cc

abbrev seven : ScalarValue
seven = value.Primitive (number.I32 (pos 7))

abbrev below_zero : ScalarValue
below_zero = value.Primitive (number.I32 (negsuc 0))

greatest : (b : List ℕ) (v : ScalarValue) → statistics.max ≡ Some b → value_of leaf.form b ≡ Some v → NoneAbove v rows.values × (true ≡ true → Contains rows.values (Some v))
unfolding four_value four_of
greatest b v e f =
    let bytes : (7 ∷ 0 ∷ 0 ∷ 0 ∷ []) ≡ b = inner _ b e in
    let whole : (d : List ℕ) → (7 ∷ 0 ∷ 0 ∷ 0 ∷ []) ≡ d → value_of leaf.form d ≡ Some v → seven ≡ v = λ d s. subst (λ (x : List ℕ). value_of leaf.form x ≡ Some v → seven ≡ v) s (λ k. inner seven v k) in
    subst (λ (w : ScalarValue). NoneAbove w rows.values × (true ≡ true → Contains rows.values (Some w))) (whole b bytes f) (none_above seven rows.values refl, λ t. (2, omega arith, refl))

least : (b : List ℕ) (v : ScalarValue) → statistics.min ≡ Some b → value_of leaf.form b ≡ Some v → NoneBelow v rows.values
unfolding four_value four_of
least b v e f =
    let bytes : (255 ∷ 255 ∷ 255 ∷ 255 ∷ []) ≡ b = inner _ b e in
    let whole : (d : List ℕ) → (255 ∷ 255 ∷ 255 ∷ 255 ∷ []) ≡ d → value_of leaf.form d ≡ Some v → below_zero ≡ v = λ d s. subst (λ (x : List ℕ). value_of leaf.form x ≡ Some v → below_zero ≡ v) s (λ k. inner below_zero v k) in
    subst (λ (w : ScalarValue). NoneBelow w rows.values) (whole b bytes f) (none_below below_zero rows.values refl)

statistics_true : AreTrue leaf.form true statistics rows.values
statistics_true = record {
  max = λ t b v e f. greatest b v e f;
  min = λ t b v e f. (least b v e f, λ never. absurd cc);
  old_max = λ t b v e f. absurd cc;
  old_min = λ t b v e f. absurd cc;
  null_count = λ n e. inner 1 n e;
}

chunk_is : chunk_of span ≡ Ok chunk
unfolding kind_at jump varint_from varint_in varint_at natural_at binary_at id_at head_at count_at items_at kinds_at map_at times skip_entry fields_in struct_at skip_value skip_at struct_of last_found binary_in number_in natural_in is_told spans_in items_of items_in many statistics_of statistics_in meta_of chunk_of spans_of row_group_of annotation_in element_of order_of file_of row_groups_of
chunk_is = refl

span_true : AreTrueOf leaf true (Some span) rows.values
span_true c s e t k =
    let same : chunk ≡ c = one_ok chunk c (sym chunk_is ∙ e) in
    let some : Some statistics ≡ Some s = subst (λ (x : ColumnChunkData). statistics_by leaf.nullability x.statistics ≡ Some s) (sym same) k in
    subst (λ (x : StatisticsData). AreTrue leaf.form true x rows.values) (inner statistics s some) statistics_true

sets_are : all_of (leaf_set file.orders group.columns) (leaf ∷ []) ≡ Ok (set ∷ [])
unfolding kind_at jump varint_from varint_in varint_at natural_at binary_at id_at head_at count_at items_at kinds_at map_at times skip_entry fields_in struct_at skip_value skip_at struct_of last_found binary_in number_in natural_in is_told spans_in items_of items_in many statistics_of statistics_in meta_of chunk_of spans_of row_group_of annotation_in element_of order_of file_of row_groups_of all_of leaf_set span_set chunk_set set_of four_value four_of
sets_are = refl

pub a_file_is_true : TrueFile
unfolding kind_at jump varint_from varint_in varint_at natural_at binary_at id_at head_at count_at items_at kinds_at map_at times skip_entry fields_in struct_at skip_value skip_at struct_of last_found binary_in number_in natural_in is_told spans_in items_of items_in many statistics_of statistics_in meta_of chunk_of spans_of row_group_of annotation_in element_of order_of file_of row_groups_of columns_of columns_in checked content_of leaf_of meaning_of nullability form_of four groups_of group_at group_of all_of leaf_set span_set chunk_set set_of size_of four_value four_of
a_file_is_true = record {
  read = refl;
  groups = refl;
  columns = refl;
  chunk_read = refl;
  truth = (span_true, tt);
  known = refl;
  fit = (refl, tt);
  sets = group_true file.orders group.columns (leaf ∷ []) (rows ∷ []) (set ∷ []) sets_are (refl, tt) (span_true, tt);
}
