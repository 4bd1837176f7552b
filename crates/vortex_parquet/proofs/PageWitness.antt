-- Pages whose statistics are true, by computing.
use Rattle.std.proofs.Common.{◌≡◌, ℕ, ◌-◌, true, List, [], ◌∷◌, Some, inl, inr, refl, sym, subst, arith, Contains}
use Rattle.std.specs.Prelude.{codes}
use Rattle.std.proofs.lemmas.List.Elements.{Contains-append_cases, Contains-append_left, Contains-append_right, Contains-push, Contains-push_cases}
use Rattle.vortex_base.specs.declared.scalar_value.ScalarValue.{ScalarValue}
use Rattle.vortex_base.specs.declared.scalar_value.ScalarValue.TheVariants as value
use Rattle.vortex_stats.specs.Sets.Claims.{NoneAbove, NoneBelow}
use Rattle.vortex_parquet.specs.declared.columns.Form.TheVariants as form
use Rattle.vortex_parquet.specs.Compact.{binary_at, count_at as items_count_at, head_at, id_at, items_at, jump, kind_at, kinds_at, map_at, natural_at, varint_at, varint_from, varint_in}
use Rattle.vortex_parquet.specs.Skip.{fields_in, skip_at, skip_entry, skip_value, struct_at, times}
use Rattle.vortex_parquet.specs.Fields.{items_in, items_of, last_found, many, natural_in, number_in, struct_of}
use Rattle.vortex_parquet.specs.PageIndex.{column_index_of, count_at, location_of, offset_index_of, truth_at, truths_in}
use Rattle.vortex_parquet.specs.PageWitness.{TruePages, column, first, first_set, rows, second, second_set}
use Rattle.vortex_parquet.specs.Pages.{ArePagesTrue, PageData, page_at, pages_of, values_of}
use Rattle.vortex_parquet.specs.Stats.{all_of, set_of, value_of}
use Rattle.vortex_parquet.specs.Stretches.{AreSetsIn}
use Rattle.vortex_parquet.specs.Truth.{AreTrue}
use Rattle.vortex_parquet.proofs.PageTruth.{stretches_true}
use Rattle.vortex_parquet.proofs.Witness.{inner, none_above, none_below}

none_in : {X : Type 0} (x : X) → Contains (let xs : List X = [] in xs) x → ⊥
none_in x h = omega (arith, h.1)

is_one : (p q : PageData) → Contains (p ∷ []) q → p ≡ q
is_one p q h = elim (Contains-push_cases [] p q h) [ inl k ↦ absurd (none_in q k) | inr e ↦ e ]

first_true : AreTrue form.Binary true first.statistics (values_of 0 3 rows.values)
first_true = record {
  max = λ t b v e f. (subst (λ (w : ScalarValue). NoneAbove w (values_of 0 3 rows.values)) (inner (value.Binary (codes "c")) v (subst (λ (x : List ℕ). value_of form.Binary x ≡ Some v) (sym (inner (codes "c") b e)) f)) (none_above (value.Binary (codes "c")) (values_of 0 3 rows.values) refl), λ never. absurd cc);
  min = λ t b v e f. (subst (λ (w : ScalarValue). NoneBelow w (values_of 0 3 rows.values)) (inner (value.Binary (codes "a")) v (subst (λ (x : List ℕ). value_of form.Binary x ≡ Some v) (sym (inner (codes "a") b e)) f)) (none_below (value.Binary (codes "a")) (values_of 0 3 rows.values) refl), λ never. absurd cc);
  old_max = λ t b v e f. absurd cc;
  old_min = λ t b v e f. absurd cc;
  null_count = λ n e. inner 1 n e;
}

second_true : AreTrue form.Binary true second.statistics (values_of 3 2 rows.values)
second_true = record {
  max = λ t b v e f. absurd cc;
  min = λ t b v e f. absurd cc;
  old_max = λ t b v e f. absurd cc;
  old_min = λ t b v e f. absurd cc;
  null_count = λ n e. inner 2 n e;
}

pages_true : ArePagesTrue form.Binary true column.pages rows.values
pages_true p h = elim (Contains-append_cases (first ∷ []) (second ∷ []) p h) [
  | inl k ↦ subst (λ (q : PageData). AreTrue form.Binary true q.statistics (values_of q.first (q.end - q.first) rows.values)) (is_one first p k) first_true
  | inr k ↦ subst (λ (q : PageData). AreTrue form.Binary true q.statistics (values_of q.first (q.end - q.first) rows.values)) (is_one second p k) second_true
]

first_here : Contains column.pages first
first_here = Contains-append_left (first ∷ []) (second ∷ []) first (Contains-push [] first)

second_here : Contains column.pages second
second_here = Contains-append_right (first ∷ []) (second ∷ []) second (Contains-push [] second)

first_in : AreSetsIn (column ∷ []) 0 3 (first_set ∷ [])
unfolding set_of
first_in = (record { page = first; here = first_here; begins = omega arith; ends = omega arith; made = refl }, tt)

second_in : AreSetsIn (column ∷ []) 3 2 (second_set ∷ [])
unfolding set_of
second_in = (record { page = second; here = second_here; begins = omega arith; ends = omega arith; made = refl }, tt)

pub pages_are_true : TruePages
unfolding kind_at jump varint_from varint_in varint_at natural_at binary_at id_at head_at items_count_at items_at kinds_at map_at times skip_entry fields_in struct_at skip_value skip_at struct_of last_found number_in natural_in items_of items_in many location_of offset_index_of truth_at count_at truths_in column_index_of page_at all_of pages_of
pages_are_true = record {
  index_read = refl;
  offsets_read = refl;
  pages = refl;
  truth = (pages_true, tt);
  cut = (
    omega arith,
    first_in,
    inl (record { column = column; there = Contains-push [] column; page = first; here = first_here; ends = refl }),
    (omega arith, second_in, inr refl, refl),
  );
  first_sets = stretches_true (column ∷ []) (rows ∷ []) 5 0 3 (first_set ∷ []) first_in (omega arith) refl (pages_true, tt) (refl, tt);
  second_sets = stretches_true (column ∷ []) (rows ∷ []) 5 3 2 (second_set ∷ []) second_in (omega arith) refl (pages_true, tt) (refl, tt);
}
