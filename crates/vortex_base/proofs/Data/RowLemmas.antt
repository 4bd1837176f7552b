-- The rows of a chunk hold values of their columns' types.
use Rattle.std.specs.Prelude.{◌≡◌, ℕ, zero, suc, ◌<◌, true, List, [], ◌∷◌, Option, length, slice_get, refl}
use Rattle.std.specs.List.{list_all}
use Rattle.std.proofs.Common.{arith}
use Rattle.vortex_base.proofs.Data.ChunkLemmas.{equal_numbers}
use Rattle.vortex_base.specs.Data.Exact.{both_hold, both_true}
use Rattle.vortex_base.specs.declared.dtype.DType.{DType}
use Rattle.vortex_base.specs.declared.scalar_value.ScalarValue.{ScalarValue}
use Rattle.vortex_base.specs.Data.Scalars.{is_optional_value}
use Rattle.vortex_base.specs.Data.Columns.{ColumnData, ChunkData, IsChunk, IsRow, is_column, is_row, all_fit, all_long, row_count, row_of, value_at}

-- the optional value at a place may stand under the type
fits_at : (t : DType) (vs : List (Option ScalarValue)) (i : ℕ) → all_fit t vs ≡ true → i < length vs → is_optional_value (value_at (slice_get vs i)) t ≡ true
fits_at t [] i h l = absurd (omega arith)
fits_at t (v ∷ vs) zero h l = (both_true _ _ h).0
fits_at t (v ∷ vs) (suc i) h l = fits_at t vs i (both_true _ _ h).1 (omega arith)

columns_row : (n i : ℕ) (cs : List ColumnData) → i < n → all_long n cs ≡ true → list_all is_column cs ≡ true → is_row (row_of i cs) ≡ true
columns_row n i [] l h k = refl
columns_row n i (c ∷ cs) l h k =
    let long = both_true _ _ h in
    let columns = both_true _ _ k in
    let same : length c.values ≡ n = equal_numbers (length c.values) n long.0 in
    both_hold _ _ (fits_at c.dtype c.values i columns.0 (omega arith)) (columns_row n i cs l long.1 columns.1)

pub row_of-IsRow : (k : ChunkData) (i : ℕ) → IsChunk k → i < row_count k.columns → IsRow (row_of i k.columns)
row_of-IsRow k i h l =
    let shaped = both_true _ _ (both_true _ _ h).1 in
    columns_row (row_count k.columns) i k.columns l (both_true _ _ shaped.0).1 (both_true _ _ shaped.1).1
