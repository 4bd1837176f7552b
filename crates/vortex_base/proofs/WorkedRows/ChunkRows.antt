-- Worked rows of chunks that take one another's rows.
use Rattle.std.proofs.Common.{refl}
use Rattle.std.specs.Prelude.{◌≡◌, ℕ, ◌^◌, ◌-◌, true, false, List, [], ◌∷◌, Option, Some, None, Ok, Err, map}
use Rattle.vortex_base.specs.declared.error.BaseError.TheVariants.{Mismatch}
use Rattle.vortex_base.specs.declared.scalar_value.ScalarValue.{ScalarValue}
use Rattle.vortex_base.specs.declared.scalar_value.ScalarValue.TheVariants as value
use Rattle.vortex_base.specs.Data.Columns.{ChunkData, ColumnData, all_appended, appended_chunk, can_append, cut_to, emptied_chunk, pushed_chunk, row_count, row_fits, row_of, sizes_fit, with_row}
use Rattle.vortex_base.specs.Worked.Examples.{column_a, i32_or_null, i32_type, i32_value, of_bools, of_numbers}

abbrev one : Option ScalarValue
one = Some (i32_value 1)

abbrev two : Option ScalarValue
two = Some (i32_value 2)

abbrev sized : List (Option ScalarValue) → ℕ → ColumnData
sized vs n = record { dtype = i32_type; values = vs; size = n }

abbrev chunk : List (Option ScalarValue) → ℕ → ChunkData
chunk vs n = record { scope = column_a ∷ []; columns = sized vs n ∷ [] }

-- the second's rows stand behind the first's, and the sizes are added
appended_row : appended_chunk (chunk (one ∷ []) 4) (chunk (two ∷ one ∷ []) 8) ≡ chunk (one ∷ two ∷ one ∷ []) 12
appended_row = refl

-- and the second is left without rows and without size
emptied_row : emptied_chunk (chunk (two ∷ one ∷ []) 8) ≡ chunk [] 0
emptied_row = refl

-- column by column
each_column : all_appended (sized (one ∷ []) 1 ∷ sized (two ∷ []) 2 ∷ []) (sized (two ∷ []) 3 ∷ sized [] 4 ∷ []) ≡ sized (one ∷ two ∷ []) 4 ∷ sized (two ∷ []) 6 ∷ []
each_column = refl

-- sizes add up within 64 bits, at each column
sizes_row : map (λ n. sizes_fit (sized [] 0 ∷ sized [] n ∷ []) (sized [] 0 ∷ sized [] 1 ∷ [])) ((2 ^ 64 - 2) ∷ (2 ^ 64 - 1) ∷ []) ≡ true ∷ false ∷ []
sizes_row = refl

-- columns of one type, nullability regarded, and as many on either side
types_row : map (λ cs. can_append (of_numbers [] ∷ []) cs) ((of_numbers [] ∷ []) ∷ (of_bools [] ∷ []) ∷ (record { dtype = i32_or_null; values = []; size = 0 } ∷ []) ∷ [] ∷ (of_numbers [] ∷ of_numbers [] ∷ []) ∷ [])
    ≡ true ∷ false ∷ false ∷ false ∷ false ∷ []
types_row = refl

count_row : map row_count ([] ∷ (of_numbers (one ∷ two ∷ []) ∷ []) ∷ []) ≡ 0 ∷ 2 ∷ []
count_row = refl

-- past the end there is null
past_the_end : row_of 1 (of_numbers (one ∷ []) ∷ []) ≡ record { dtype = i32_type; value = None } ∷ []
past_the_end = refl

-- a row's values stand behind those that there were, column by column, and sizes stay
pushed_row : with_row (sized (one ∷ []) 4 ∷ of_numbers [] ∷ []) (two ∷ one ∷ []) ≡ sized (one ∷ two ∷ []) 4 ∷ of_numbers (one ∷ []) ∷ []
pushed_row = refl

-- a row fits that has one value a column, each of its type, and null where the type has it
fitting_rows : map (row_fits (of_numbers [] ∷ record { dtype = i32_or_null; values = []; size = 0 } ∷ [])) ((one ∷ None ∷ []) ∷ (None ∷ one ∷ []) ∷ (one ∷ []) ∷ (one ∷ two ∷ one ∷ []) ∷ (one ∷ Some (value.Bool true) ∷ []) ∷ [])
    ≡ true ∷ false ∷ false ∷ false ∷ false ∷ []
fitting_rows = refl

-- a chunk takes a row that fits
taken_row : pushed_chunk (chunk (one ∷ []) 4) (two ∷ []) ≡ Ok (chunk (one ∷ two ∷ []) 4)
taken_row = refl

refused_row : pushed_chunk (chunk (one ∷ []) 4) (None ∷ []) ≡ Err Mismatch
refused_row = refl

-- what is behind the first values is dropped
cut_rows : map (λ n. cut_to n (sized (one ∷ two ∷ []) 4)) (0 ∷ 1 ∷ 2 ∷ 3 ∷ []) ≡ sized [] 4 ∷ sized (one ∷ []) 4 ∷ sized (one ∷ two ∷ []) 4 ∷ sized (one ∷ two ∷ []) 4 ∷ []
cut_rows = refl
