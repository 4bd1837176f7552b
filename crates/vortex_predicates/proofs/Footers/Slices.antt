-- The rows of a stretch, out of those of a row group.
use Rattle.std.proofs.Common.{◌≡◌, ◌<◌, ◌≤◌, ◌+◌, ℕ, zero, suc, true, List, [], ◌∷◌, Option, refl, sym, ap, ap₂, ◌∙◌, arith, eqb, drop, length, map, take}
use Rattle.std.specs.Prelude.{slice_get}
use Rattle.std.specs.List.{list_all}
use Rattle.std.proofs.lemmas.Bool.{eq-eqb, eqb-true}
use Rattle.std.proofs.lemmas.List.{length-drop, length-map, length-take-le}
use Rattle.vortex_base.proofs.Data.ChunkLemmas.{all_long_of}
use Rattle.vortex_base.specs.Data.Columns.{ChunkData, ColumnData, IsChunk, all_fit, all_long, has_shape, has_types, is_column, row_count, row_of, value_at}
use Rattle.vortex_base.specs.Data.Exact.{both_hold, both_true}
use Rattle.vortex_base.specs.Data.Scalars.{Constant, is_optional_value}
use Rattle.vortex_base.specs.Data.Scopes.{Named, is_scope}
use Rattle.vortex_base.specs.declared.dtype.DType.{DType}
use Rattle.vortex_base.specs.declared.scalar_value.ScalarValue.{ScalarValue}
use Rattle.vortex_parquet.specs.Stretches.{column_of_rows}

-- ---- values

taken_at : {X : Type 0} (xs : List X) (n i : ℕ) → i < n → slice_get (take n xs) i ≡ slice_get xs i
taken_at [] zero i less = absurd (omega (arith, less))
taken_at [] (suc n) i less = refl
taken_at (x ∷ xs) zero i less = absurd (omega (arith, less))
taken_at (x ∷ xs) (suc n) zero less = refl
taken_at (x ∷ xs) (suc n) (suc i) less = taken_at xs n i (omega (arith, less))

dropped_at : {X : Type 0} (xs : List X) (from i : ℕ) → slice_get (drop from xs) i ≡ slice_get xs (from + i)
dropped_at xs zero i = let none : i ≡ 0 + i = omega arith in ap (slice_get xs) none
dropped_at [] (suc from) i = refl
dropped_at (x ∷ xs) (suc from) i = let next : suc (from + i) ≡ suc from + i = omega arith in dropped_at xs from i ∙ ap (slice_get (x ∷ xs)) next

many_there : {X : Type 0} (xs : List X) (from n : ℕ) → from + n ≤ length xs → length (take n (drop from xs)) ≡ n
many_there xs from n h = length-take-le n (drop from xs) (omega (arith, length-drop from xs, h))

taken_fit : (t : DType) (vs : List (Option ScalarValue)) (n : ℕ) → all_fit t vs ≡ true → all_fit t (take n vs) ≡ true
taken_fit t vs zero h = refl
taken_fit t [] (suc n) h = refl
taken_fit t (v ∷ vs) (suc n) h = let k = both_true (is_optional_value v t) (all_fit t vs) h in both_hold _ _ k.0 (taken_fit t vs n k.1)

dropped_fit : (t : DType) (vs : List (Option ScalarValue)) (n : ℕ) → all_fit t vs ≡ true → all_fit t (drop n vs) ≡ true
dropped_fit t vs zero h = h
dropped_fit t [] (suc n) h = refl
dropped_fit t (v ∷ vs) (suc n) h = dropped_fit t vs n (both_true (is_optional_value v t) (all_fit t vs) h).1

-- ---- columns

-- n rows of a chunk from one on
abbrev pub chunk_of_rows : (from n : ℕ) → ChunkData → ChunkData
chunk_of_rows from n k = record { scope = k.scope; columns = map (column_of_rows from n) k.columns }

module _ (from n : ℕ) where
  pub row_same : (i : ℕ) → i < n → (cs : List ColumnData) → row_of i (map (column_of_rows from n) cs) ≡ row_of (from + i) cs
  row_same i less [] = refl
  row_same i less (c ∷ cs) =
      ap₂ (λ (x : Option (Option ScalarValue)) (l : List Constant). record { dtype = c.dtype; value = value_at x } ∷ l) (taken_at (drop from c.values) n i less ∙ dropped_at c.values from i) (row_same i less cs)

  all_as_long : (m : ℕ) (cs : List ColumnData) → from + n ≤ m → all_long m cs ≡ true → all_long n (map (column_of_rows from n) cs) ≡ true
  all_as_long m [] less h = refl
  all_as_long m (c ∷ cs) less h =
      let k = both_true (eqb (length c.values) m) (all_long m cs) h in
      let long : length (take n (drop from c.values)) ≡ n = many_there c.values from n (omega (arith, less, eqb-true (length c.values) m k.0)) in
      both_hold _ _ (eq-eqb (length (take n (drop from c.values))) n long) (all_as_long m cs less k.1)

  pub rows_there : (cs : List ColumnData) → from + n ≤ row_count cs → row_count (map (column_of_rows from n) cs) ≡ n
  rows_there [] less = omega (arith, less)
  rows_there (c ∷ cs) less = many_there c.values from n less

  types_there : (ss : List Named) (cs : List ColumnData) → has_types ss cs ≡ true → has_types ss (map (column_of_rows from n) cs) ≡ true
  types_there [] [] h = refl
  types_there [] (c ∷ cs) h = absurd cc
  types_there (s ∷ ss) [] h = absurd cc
  types_there (s ∷ ss) (c ∷ cs) h = both_hold _ _ (both_true _ _ h).0 (types_there ss cs (both_true _ _ h).1)

  columns_there : (cs : List ColumnData) → list_all is_column cs ≡ true → list_all is_column (map (column_of_rows from n) cs) ≡ true
  columns_there [] h = refl
  columns_there (c ∷ cs) h =
      let k = both_true (is_column c) (list_all is_column cs) h in
      both_hold _ _ (taken_fit c.dtype (drop from c.values) n (dropped_fit c.dtype c.values from k.0)) (columns_there cs k.1)

  -- rows of a chunk are one
  pub chunk_there : (k : ChunkData) → IsChunk k → from + n ≤ row_count k.columns → IsChunk (chunk_of_rows from n k)
  chunk_there k h less =
      let cs = map (column_of_rows from n) k.columns in
      let a = both_true (is_scope k.scope) _ h in
      let b = both_true (has_shape k.scope k.columns) _ a.1 in
      let d = both_true (has_types k.scope k.columns) _ b.1 in
      let many = eqb-true (length k.scope) (length k.columns) (both_true (eqb (length k.scope) (length k.columns)) _ b.0).0 in
      let long : all_long (row_count cs) cs ≡ true = ap (λ m. all_long m cs) (rows_there k.columns less) ∙ all_as_long (row_count k.columns) k.columns less (all_long_of k h) in
      let shape : has_shape k.scope cs ≡ true = both_hold _ _ (eq-eqb (length k.scope) (length cs) (many ∙ sym (length-map k.columns (column_of_rows from n)))) long in
      both_hold _ _ a.0 (both_hold _ _ shape (both_hold _ _ (types_there k.scope k.columns d.0) (columns_there k.columns d.1)))
