-- What fits the scope of a chunk fits its rows.
use Rattle.std.proofs.Common.{◌≡◌, ℕ, zero, suc, Bool, true, List, [], ◌∷◌, refl, sym, ◌∙◌, ap}
use Rattle.std.specs.Prelude.{◌&&◌, slice_get}
use Rattle.vortex_base.specs.Data.Exact.{both_hold, both_true}
use Rattle.vortex_base.specs.declared.dtype.DType.{DType}
use Rattle.vortex_base.specs.Data.Types.{as_nullable, dtype_eq, dtype_eq_is_exact, eq_ignore_nullability}
use Rattle.vortex_base.specs.Data.Scopes.{Named}
use Rattle.vortex_base.specs.Data.Columns.{ColumnData, ChunkData, has_types, row_of}
use Rattle.vortex_expr.specs.Trees.Tree.{Tree, Place, all_columns, column, literal, binary, between, is_null, is_not_null, not, like, stat, row_count}
use Rattle.vortex_expr.specs.Meanings.Fitting.{is_of_type, is_cell_of, is_cell_of_type, RowsFit, RowsMatch}

-- a test that passes wherever another does passes at all columns where that one does
pub weaker : {C : Type 0} (p q : C → Bool) → ((c : C) → p c ≡ true → q c ≡ true) → (e : Tree C) → all_columns p e ≡ true → all_columns q e ≡ true
weaker p q w (column c) h = w c h
weaker p q w (literal c) h = refl
weaker p q w (binary o l r) h =
    let b = both_true (all_columns p l) (all_columns p r) h in
    both_hold _ _ (weaker p q w l b.0) (weaker p q w r b.1)
weaker p q w (between o x l u) h =
    let b = both_true (all_columns p x) (all_columns p l && all_columns p u) h in
    let d = both_true (all_columns p l) (all_columns p u) b.1 in
    both_hold _ _ (weaker p q w x b.0) (both_hold _ _ (weaker p q w l d.0) (weaker p q w u d.1))
weaker p q w (is_null x) h = weaker p q w x h
weaker p q w (is_not_null x) h = weaker p q w x h
weaker p q w (not x) h = weaker p q w x h
weaker p q w (like o x y) h =
    let b = both_true (all_columns p x) (all_columns p y) h in
    both_hold _ _ (weaker p q w x b.0) (weaker p q w y b.1)
weaker p q w (stat f x) h = weaker p q w x h
weaker p q w row_count h = refl

same_but_null : (s t u : DType) → dtype_eq s t ≡ true → dtype_eq s u ≡ true → eq_ignore_nullability t u ≡ true
same_but_null s t u h k =
    let p : s ≡ t = (dtype_eq_is_exact s t).0 h in
    let q : s ≡ u = (dtype_eq_is_exact s u).0 k in
    (dtype_eq_is_exact (as_nullable t) (as_nullable u)).1 (ap as_nullable (sym p ∙ q))

column_fits : (ss : List Named) (cs : List ColumnData) (i j : ℕ) (t : DType) → has_types ss cs ≡ true → is_of_type t (slice_get ss j) ≡ true → is_cell_of t (slice_get (row_of i cs) j) ≡ true
column_fits [] cs i j t h k = cc
column_fits (s ∷ ss) [] i j t h k = cc
column_fits (s ∷ ss) (c ∷ cs) i zero t h k = same_but_null s.1 c.dtype t (both_true _ _ h).0 k
column_fits (s ∷ ss) (c ∷ cs) i (suc j) t h k = column_fits ss cs i j t (both_true _ _ h).1 k

pub rows-fit : (e : Tree Place) (k : ChunkData) (i : ℕ) → RowsFit e k i
rows-fit e k i chunk h =
    let typed = (both_true _ _ (both_true _ _ (both_true _ _ chunk).1).1).0 in
    weaker (λ c. is_of_type c.dtype (slice_get k.scope c.index)) (λ c. is_cell_of c.dtype (slice_get (row_of i k.columns) c.index))
    (λ c. column_fits k.scope k.columns i c.index c.dtype typed)
    e
    h

column_matches : (ss : List Named) (cs : List ColumnData) (i j : ℕ) (t : DType) → has_types ss cs ≡ true → is_of_type t (slice_get ss j) ≡ true → is_cell_of_type t (slice_get (row_of i cs) j) ≡ true
column_matches [] cs i j t h k = cc
column_matches (s ∷ ss) [] i j t h k = cc
column_matches (s ∷ ss) (c ∷ cs) i zero t h k =
    let p : s.1 ≡ c.dtype = (dtype_eq_is_exact s.1 c.dtype).0 (both_true _ _ h).0 in
    let q : s.1 ≡ t = (dtype_eq_is_exact s.1 t).0 k in
    (dtype_eq_is_exact c.dtype t).1 (sym p ∙ q)
column_matches (s ∷ ss) (c ∷ cs) i (suc j) t h k = column_matches ss cs i j t (both_true _ _ h).1 k

pub rows-match : (e : Tree Place) (k : ChunkData) (i : ℕ) → RowsMatch e k i
rows-match e k i chunk h =
    let typed = (both_true _ _ (both_true _ _ (both_true _ _ chunk).1).1).0 in
    weaker (λ c. is_of_type c.dtype (slice_get k.scope c.index)) (λ c. is_cell_of_type c.dtype (slice_get (row_of i k.columns) c.index))
    (λ c. column_matches k.scope k.columns i c.index c.dtype typed)
    e
    h
