-- A predicate that is refuted whatever is told of the leaves that aren't read refutes its condition, and one that is satisfied so confirms it.
use Rattle.std.proofs.Common.{◌≡◌, ◌≢◌, ◌<◌, ℕ, zero, suc, Bool, true, false, List, [], ◌∷◌, length, refl, sym, subst, ◌∙◌, ap, arith}
use Rattle.std.proofs.lemmas.Bool.Decides.{nat_tests}
use Rattle.std.specs.Prelude.{Option, None, Some, map, replicate, slice_get, ◌&&◌, ◌==◌}
use Rattle.std.specs.List.{list_all}
use lib.Pointwise.{pointwise}
use Rattle.vortex_base.specs.declared.dtype.DType.{DType}
use Rattle.vortex_base.specs.declared.scalar_value.ScalarValue.{ScalarValue}
use Rattle.vortex_base.specs.Data.Exact.{both_true}
use Rattle.vortex_base.specs.Data.Types.{dtype_eq, dtype_eq_is_exact}
use Rattle.vortex_base.specs.Data.Scalars.{Constant, is_optional_value}
use Rattle.vortex_base.specs.Data.Scopes.{Named}
use Rattle.vortex_base.specs.Data.Columns.{ChunkData, ColumnData, IsChunk, row_of, row_count, value_at, all_fit, all_long, has_types, is_column}
use Rattle.vortex_expr.specs.Meanings.Meaning.{truth_value, meaning, is_true}
use Rattle.vortex_sql.specs.declared.syntax.tree.Leaf.{Leaf}
use Rattle.vortex_expr.specs.Trees.Tree.{Tree, Place}
use Rattle.vortex_sql.specs.declared.syntax.tree.Condition.{Condition}
use Rattle.vortex_sql.specs.Schemas.{SchemaData}
use Rattle.vortex_sql.specs.Lowering.{IsRowOf, Says, opaques, truth_on, told_cell, with_told}
use Rattle.vortex_sql.specs.Pruning.{told_column, with_columns, ConfirmsCondition, RefutesCondition}

abbrev cell : ℕ → ColumnData → Constant
cell r c = record { dtype = c.dtype; value = value_at (slice_get c.values r) }

-- ---- a row of the columns of a chunk is one of its scope

value_fits : (vs : List (Option ScalarValue)) (r : ℕ) (t : DType) → all_fit t vs ≡ true → r < length vs → is_optional_value (value_at (slice_get vs r)) t ≡ true
value_fits [] r t h k = absurd (omega arith)
value_fits (v ∷ vs) zero t h k = (both_true _ _ h).0
value_fits (v ∷ vs) (suc r) t h k = value_fits vs r t (both_true _ _ h).1 (omega arith)

is_below : (m n r : ℕ) → (m == n) ≡ true → r < n → r < m
is_below m n r h k = grind (arith, nat_tests)

pub is_row_of : (n r : ℕ) (ss : List Named) (cs : List ColumnData) → has_types ss cs ≡ true → list_all is_column cs ≡ true → all_long n cs ≡ true → r < n → IsRowOf ss (row_of r cs)
is_row_of n r [] [] h k l b = refl
is_row_of n r [] (c ∷ cs) h k l b = cc
is_row_of n r (s ∷ ss) [] h k l b = cc
is_row_of n r (s ∷ ss) (c ∷ cs) h k l b =
    let types = both_true (dtype_eq s.1 c.dtype) _ h in
    let fits = both_true (is_column c) _ k in
    let long = both_true (length c.values == n) _ l in
    let same : s.1 ≡ c.dtype = (dtype_eq_is_exact s.1 c.dtype).0 types.0 in
    let here : is_optional_value (value_at (slice_get c.values r)) s.1 ≡ true =
    ap (is_optional_value (value_at (slice_get c.values r))) same ∙ value_fits c.values r c.dtype fits.0 (is_below (length c.values) n r long.0 b) in
    ap (λ t. t && pointwise (λ s c. is_optional_value c.value s.1) ss (row_of r cs)) here ∙ is_row_of n r ss cs types.1 fits.1 long.1 b

-- ---- a row of the columns with those that tell of leaves is the row with what they tell

get-replicate : (n r : ℕ) (v : Option ScalarValue) → r < n → value_at (slice_get (replicate n v) r) ≡ v
get-replicate zero r v h = absurd (omega arith)
get-replicate (suc n) zero v h = refl
get-replicate (suc n) (suc r) v h = get-replicate n r v (omega arith)

abbrev constant_of : DType → Option ScalarValue → Constant
constant_of t v = record { dtype = t; value = v }

told_rows : (n r : ℕ) (f : Leaf → Option Bool) (ls : List Leaf) → r < n → row_of r (map (λ l. told_column n (f l)) ls) ≡ map (λ l. told_cell (f l)) ls
told_rows n r f [] h = refl
told_rows n r f (l ∷ ls) h =
    ap (λ v. constant_of (told_cell (f l)).dtype v ∷ row_of r (map (λ l. told_column n (f l)) ls)) (get-replicate n r (truth_value (f l)) h)
    ∙ ap (λ rest. told_cell (f l) ∷ rest) (told_rows n r f ls h)

rows_with : (n r : ℕ) (f : Leaf → Option Bool) (ls : List Leaf) (cs : List ColumnData) → r < n → row_of r (with_columns n f ls cs) ≡ with_told (row_of r cs) f ls
rows_with n r f ls [] h = told_rows n r f ls h
rows_with n r f ls (c ∷ cs) h = ap (λ rest. cell r c ∷ rest) (rows_with n r f ls cs h)

-- ---- the laws

not_true : (a : Option Bool) (v : Option ScalarValue) → v ≡ truth_value a → is_true v ≡ false → a ≢ Some true
not_true a v e h k = let q : v ≡ truth_value (Some true) = e ∙ ap truth_value k in let p : is_true v ≡ true = ap is_true q in cc

true_alone : (a : Option Bool) (v : Option ScalarValue) → v ≡ truth_value a → is_true v ≡ true → a ≡ Some true
true_alone None v e h = let p : is_true v ≡ false = ap is_true e in cc
true_alone (Some false) v e h = let p : is_true v ≡ false = ap is_true e in cc
true_alone (Some true) v e h = refl

module _ (k : ChunkData) (s : SchemaData) (c : Condition) (e : Tree Place) (scoped : s.scope ≡ k.scope) (is_chunk : IsChunk k) (says : Says s c e) (r : ℕ) (below : r < row_count k.columns) (f : Leaf → Option Bool) where
  abbrev own_row : List Constant
  own_row = row_of r k.columns

  abbrev wide_row : List Constant
  wide_row = row_of r (with_columns (row_count k.columns) f (opaques s c) k.columns)

  told : meaning e wide_row (row_count k.columns) ≡ truth_value (truth_on s own_row f c)
  told =
      let shape = (both_true _ _ (both_true _ _ is_chunk).1) in
      let types = both_true _ _ shape.1 in
      let long = (both_true _ _ shape.0).1 in
      let n = row_count k.columns in
      let P : List Named → Type 0 = λ ns. IsRowOf ns own_row in
      let is_row : IsRowOf s.scope own_row = subst P (sym scoped) (is_row_of n r k.scope k.columns types.0 types.1 long below) in
      let same = rows_with n r f (opaques s c) k.columns below in
      ap (λ w. meaning e w n) same ∙ says own_row f n is_row

pub refutes : RefutesCondition
refutes k s c e scoped is_chunk says r below none f =
    not_true (truth_on s (row_of r k.columns) f c) (meaning e (wide_row k s c e scoped is_chunk says r below f) (row_count k.columns)) (told k s c e scoped is_chunk says r below f) (none f)

pub confirms : ConfirmsCondition
confirms k s c e scoped is_chunk says r below each f =
    true_alone (truth_on s (row_of r k.columns) f c) (meaning e (wide_row k s c e scoped is_chunk says r below f) (row_count k.columns)) (told k s c e scoped is_chunk says r below f) (each f)
