-- The worked rows of where page indexes begin, by computing.
use Rattle.std.proofs.Common.{◌≤◌, ◌∷◌, [], ℕ, refl, arith}
use Rattle.std.specs.Prelude.{All}
use Rattle.std.proofs.lemmas.List.Elements.{All-cons, All-contains, All-nil, Contains-get_or}
use Rattle.vortex_parquet.specs.Compact.{binary_at, count_at, head_at, id_at, items_at, jump, kind_at, kinds_at, map_at, natural_at, varint_at, varint_from, varint_in}
use Rattle.vortex_parquet.specs.Skip.{fields_in, skip_at, skip_entry, skip_value, struct_at, times}
use Rattle.vortex_parquet.specs.Fields.{items_in, items_of, last_found, many, natural_in, number_in, spans_in, struct_of}
use Rattle.vortex_parquet.specs.PageIndex.{places_of}
use Rattle.vortex_parquet.specs.IndexWorked.{IndexExamples}
use Rattle.vortex_parquet.specs.PageIndexes.{group_places, index_places}
use Rattle.vortex_parquet.specs.Records.{row_group_of, spans_of}
use Rattle.vortex_parquet.specs.Stats.{all_of}

at_least_7 : All (λ (m : ℕ). 7 ≤ m) (15 ∷ 50 ∷ 7 ∷ [])
at_least_7 =
    let P : ℕ → Type 0 = λ m. 7 ≤ m in
    All-cons P 15 (50 ∷ 7 ∷ []) (omega arith) (All-cons P 50 (7 ∷ []) (omega arith) (All-cons P 7 [] (omega arith) (All-nil P)))

pub indexes : IndexExamples
unfolding kind_at jump varint_from varint_in varint_at natural_at binary_at id_at head_at count_at items_at kinds_at map_at times skip_entry fields_in struct_at skip_value skip_at struct_of last_found number_in natural_in items_of items_in spans_in spans_of many places_of row_group_of all_of group_places index_places
indexes = record {
  groups = refl;
  no_groups = refl;
  group_without_rows = refl;
  groups_cut = refl;
  offsets = refl;
  no_offsets = refl;
  none_of_no_offsets = refl;
  the_last = (Contains-get_or (15 ∷ 50 ∷ 7 ∷ []) 2 0 (omega arith), at_least_7);
  the_first = (Contains-get_or (7 ∷ 50 ∷ []) 0 0 (omega arith), All-cons (λ (m : ℕ). 7 ≤ m) 7 (50 ∷ []) (omega arith) (All-cons (λ (m : ℕ). 7 ≤ m) 50 [] (omega arith) (All-nil (λ (m : ℕ). 7 ≤ m))));
  not_a_greater_one = λ h. let le : 15 ≤ 7 = h.1 2 0 (omega arith) in omega arith;
  not_one_that_is_not_named = λ h. let le : 7 ≤ 6 = All-contains (λ (m : ℕ). 7 ≤ m) (15 ∷ 50 ∷ 7 ∷ []) 6 at_least_7 h.0 in omega arith;
  not_none_of_an_offset = λ h. cc;
}
