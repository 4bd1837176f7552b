-- The binder over the rows of a table of zones is faithful.
use Rattle.std.specs.Prelude.{◌≡◌, ℕ, true, List, Option, Some, None, Ok, IsTrue, option_map, slice_get, refl}
use Rattle.std.proofs.Common.{ap, sym, ◌∙◌}
use Rattle.std.proofs.lemmas.Option.{same_Some}
use Rattle.vortex_expr.specs.Meanings.Fitting.{fits_row, is_cell_of}
use Rattle.vortex_expr.specs.Meanings.Meaning.{meaning}
use Rattle.vortex_base.specs.Data.Scalars.{Constant, null_of}
use Rattle.vortex_base.specs.Data.Scopes.{Named}
use Rattle.vortex_expr.specs.Trees.Tree.{Place, Tree, column, has_placeholder, stat}
use Rattle.vortex_base.specs.Data.Types.{as_nullable, dtype_eq, dtype_eq_is_exact}
use Rattle.vortex_expr.specs.Meanings.Typing.{stat_type, type_of}
use Rattle.vortex_base.specs.declared.aggregate.AggregateFnRef.{AggregateFnRef}
use Rattle.vortex_base.specs.declared.dtype.DType.{DType}
use Rattle.vortex_prune.specs.Binding.Binders.{IsAnswerOf, IsFaithful}
use Rattle.vortex_prune.specs.Binding.PartBinder.{IsNullOf}
use Rattle.vortex_prune.specs.Binding.PartFaithful.{literal_is_answer}
use Rattle.vortex_rewrite.specs.StateTypes.{as_nullable-again, same_stat_type}
use Rattle.vortex_prune.specs.Zones.{is_zone_row, cell_at, zone_answer, zone_values}
use Rattle.vortex_zone_map.specs.ZoneMaps.{StatColumn, head, heads, type_or_null, zone_place, zone_type}
use Rattle.vortex_zone_map.proofs.ZoneMaps.HeadPlaces.{place_of, pointwise_at}

-- ---- the answers

abbrev reference : ℕ → DType → Tree Place
reference k t = column (record { index = k; dtype = t })

typed_zone : (f : AggregateFnRef) (s t : DType) → stat_type f s ≡ Ok t → zone_type f s ≡ t
typed_zone f s t h = ap type_or_null h

typed_reference : (k : ℕ) (t s : DType) → type_of (reference k t) ≡ Ok s → s ≡ t
typed_reference k t s h = cc

-- where there is an answer it is a reference to a cell of the type asked for
record IsCell (row : List Constant) (o : Option ℕ) (t : DType) (r : Tree Place) : Type 0 where
  place : ℕ
  placed : o ≡ Some place
  is : r ≡ reference place t
  typed : is_cell_of t (slice_get row place) ≡ true

cell_typed : (row : List Constant) (k : ℕ) (c : Constant) (s t : DType) → slice_get row k ≡ Some c → dtype_eq s c.dtype ≡ true → s ≡ t → is_cell_of t (slice_get row k) ≡ true
cell_typed row k c s t there same is =
    ap (is_cell_of t) there ∙ (dtype_eq_is_exact (as_nullable c.dtype) (as_nullable t)).1 (ap as_nullable (sym ((dtype_eq_is_exact s c.dtype).0 same) ∙ is))

module _ (scope : List Named) (row : List Constant) (zone : is_zone_row scope row ≡ true) where
  answered : (f : AggregateFnRef) (c : Place) (t : DType) (r : Tree Place) (o : Option ℕ) → zone_place scope c.index f c.dtype ≡ o → stat_type f c.dtype ≡ Ok t
      → option_map (λ k. reference k (zone_type f c.dtype)) o ≡ Some r → IsCell row (zone_place scope c.index f c.dtype) t r
  answered f c t r None e h g = absurd cc
  answered f c t r (Some k) e h g =
      let p = place_of scope c.index f c.dtype k e in
      let cell = pointwise_at (λ (x : StatColumn) (y : Constant). dtype_eq x.dtype y.dtype) (heads scope) row k (head c.index p.0 f) zone p.3 in
      let type : zone_type f p.0.1 ≡ t = typed_zone f p.0.1 t (same_stat_type f p.0.1 c.dtype ((dtype_eq_is_exact (as_nullable p.0.1) (as_nullable c.dtype)).0 p.2) ∙ h) in
      record {
        place = k;
        placed = e;
        is = sym (same_Some (reference k (zone_type f c.dtype)) r g) ∙ ap (reference k) (typed_zone f c.dtype t h);
        typed = cell_typed row k cell.0 (zone_type f p.0.1) t cell.1 cell.2 type;
      }

  is_cell : (f : AggregateFnRef) (x : Tree Place) (t : DType) (r : Tree Place) → type_of (stat f x) ≡ Ok t → zone_answer scope f x t ≡ Some r
      → (o : Option ℕ) × IsCell row o t r × ((n : ℕ) → cell_at row o ≡ zone_values scope row f x)
  is_cell f (column c) t r h e = (zone_place scope c.index f c.dtype, answered f c t r (zone_place scope c.index f c.dtype) refl h e, λ n. refl)
  is_cell f _ t r h e = absurd cc

  cell_is_answer : (o : Option ℕ) (t : DType) (r : Tree Place) → IsCell row o t r → IsAnswerOf t row r
  cell_is_answer o t r p = record {
    typed = λ s k. ap as_nullable (typed_reference p.place t s (ap type_of (sym p.is) ∙ k));
    free = ap has_placeholder p.is;
    fits = ap (λ x. fits_row x row) p.is ∙ p.typed;
  }

  cell_value_named : (o : Option ℕ) (t : DType) (r : Tree Place) (n : ℕ) → IsCell row o t r → meaning r row n ≡ cell_at row o
  cell_value_named o t r n p = ap (λ x. meaning x row n) p.is ∙ ap (cell_at row) (sym p.placed)

  no_place : (o : Option ℕ) (t : DType) → option_map (λ k. reference k t) o ≡ None → cell_at row o ≡ None
  no_place None t h = refl
  no_place (Some k) t h = absurd cc

  unknown : (f : AggregateFnRef) (x : Tree Place) (t : DType) → zone_answer scope f x t ≡ None → zone_values scope row f x ≡ None
  unknown f (column c) t h = no_place (zone_place scope c.index f c.dtype) (zone_type f c.dtype) h
  unknown f _ t h = refl

-- over a row of the table's types it is faithful, with each row count
pub zone_is_faithful : (scope : List Named) (row : List Constant) (n : ℕ) → IsTrue (is_zone_row scope row) → IsFaithful (zone_answer scope) IsNullOf (zone_values scope row) row n
zone_is_faithful scope row n zone = record {
  answers = λ f x t r h e. let p = is_cell scope row zone f x t r h e in cell_is_answer scope row zone p.0 t r p.1;
  named = λ f x t r h e. let p = is_cell scope row zone f x t r h e in cell_value_named scope row zone p.0 t r n p.1 ∙ p.2 n;
  unknown = λ f x t h e. unknown scope row zone f x t e;
  missing = λ t r h. literal_is_answer (null_of (as_nullable t)) t row r h (as_nullable-again t);
  null = λ t r h. ap (λ y. meaning y row n) h;
}
