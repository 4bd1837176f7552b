-- Worked cases of the forms in which a column keeps its values.
use Rattle.std.specs.Prelude.{◌≡◌, ℕ, true, false, [], ◌∷◌, Some, None, pos, negsuc}
use Rattle.vortex_base.specs.Data.VarBinArray.{blob_at, blobs, rise, start_at}
use Rattle.vortex_base.specs.Data.ArrayData.{cell_values, short_value}
use Rattle.vortex_base.specs.Data.PrimitiveArray.{native_at, optionals}
use Rattle.vortex_base.specs.Data.Utf8Array.{are_texts}
use Rattle.vortex_base.specs.Worked.Examples.{text_a, text_e_acute}
use Rattle.vortex_base.specs.declared.array_data.ArrayData.TheVariants as cells
use Rattle.vortex_base.specs.declared.array_data.PrimitiveScalar.TheVariants as short
use Rattle.vortex_base.specs.declared.pvalue.PValue.TheVariants as number
use Rattle.vortex_base.specs.declared.scalar_value.ScalarValue.TheVariants as value

-- values of a type beside which of them are there
pub record NativeExamples : Type 0 where
  pub there_or_null : optionals {X = ℕ} (5 ∷ 6 ∷ 7 ∷ []) (true ∷ false ∷ true ∷ []) ≡ Some 5 ∷ None ∷ Some 7 ∷ []
  pub none : optionals {X = ℕ} [] [] ≡ []
  pub flags_end_first : optionals {X = ℕ} (5 ∷ 6 ∷ []) (true ∷ []) ≡ Some 5 ∷ []
  pub values_end_first : optionals {X = ℕ} (5 ∷ []) (true ∷ true ∷ []) ≡ Some 5 ∷ []
  pub one_at_a_place : native_at {X = ℕ} (Some (Some 5)) ≡ Some 5
  pub null_at_a_place : native_at {X = ℕ} (Some None) ≡ None
  pub past_the_end : native_at {X = ℕ} None ≡ None

-- byte strings and texts, one behind another
pub record BlobExamples : Type 0 where
  pub three : blobs (1 ∷ 1 ∷ 3 ∷ []) (97 ∷ 195 ∷ 169 ∷ []) (true ∷ false ∷ true ∷ []) ≡ Some text_a ∷ None ∷ Some text_e_acute ∷ []
  pub empty_ones : blobs (0 ∷ 1 ∷ 1 ∷ []) text_a (true ∷ true ∷ true ∷ []) ≡ Some [] ∷ Some text_a ∷ Some [] ∷ []
  pub flags_end_first : blobs (1 ∷ 3 ∷ []) (97 ∷ 195 ∷ 169 ∷ []) (true ∷ []) ≡ Some text_a ∷ []
  pub in_order : rise 0 (1 ∷ 1 ∷ 3 ∷ []) 3 ≡ true
  pub no_ends : rise 0 [] 0 ≡ true
  pub bytes_without_an_end : rise 0 [] 1 ≡ false
  pub fall : rise 0 (2 ∷ 1 ∷ []) 1 ≡ false
  pub last_is_short : rise 0 (1 ∷ 2 ∷ []) 3 ≡ false
  pub last_is_long : rise 0 (1 ∷ 4 ∷ []) 3 ≡ false
  pub first_begins : start_at 0 (1 ∷ 3 ∷ []) 0 ≡ 0
  pub second_begins : start_at 0 (1 ∷ 3 ∷ []) 1 ≡ 1
  pub next_begins : start_at 0 (1 ∷ 3 ∷ []) 2 ≡ 3
  pub one_at_a_place : blob_at (Some (Some text_a)) ≡ Some text_a
  pub null_at_a_place : blob_at (Some None) ≡ None
  pub past_the_end : blob_at None ≡ None
  pub texts : are_texts (Some text_a ∷ None ∷ Some text_e_acute ∷ []) ≡ true
  pub half_a_character : are_texts (Some text_a ∷ Some (195 ∷ []) ∷ []) ≡ false

-- the values of each form, and what a short cell is
pub record CellExamples : Type 0 where
  pub nulls : cell_values (cells.Nulls 2) ≡ None ∷ None ∷ []
  pub truths : cell_values (cells.Bool (Some true ∷ None ∷ Some false ∷ [])) ≡ Some (value.Bool true) ∷ None ∷ Some (value.Bool false) ∷ []
  pub of_u8 : cell_values (cells.U8 (Some 5 ∷ None ∷ [])) ≡ Some (value.Primitive (number.U8 5)) ∷ None ∷ []
  pub of_u16 : cell_values (cells.U16 (Some 5 ∷ None ∷ [])) ≡ Some (value.Primitive (number.U16 5)) ∷ None ∷ []
  pub of_u32 : cell_values (cells.U32 (Some 5 ∷ None ∷ [])) ≡ Some (value.Primitive (number.U32 5)) ∷ None ∷ []
  pub of_u64 : cell_values (cells.U64 (Some 5 ∷ None ∷ [])) ≡ Some (value.Primitive (number.U64 5)) ∷ None ∷ []
  pub of_i8 : cell_values (cells.I8 (Some (negsuc 4) ∷ None ∷ [])) ≡ Some (value.Primitive (number.I8 (negsuc 4))) ∷ None ∷ []
  pub of_i16 : cell_values (cells.I16 (Some (negsuc 4) ∷ None ∷ [])) ≡ Some (value.Primitive (number.I16 (negsuc 4))) ∷ None ∷ []
  pub of_i32 : cell_values (cells.I32 (Some (pos 5) ∷ None ∷ [])) ≡ Some (value.Primitive (number.I32 (pos 5))) ∷ None ∷ []
  pub of_i64 : cell_values (cells.I64 (Some (pos 5) ∷ None ∷ [])) ≡ Some (value.Primitive (number.I64 (pos 5))) ∷ None ∷ []
  pub texts : cell_values (cells.Utf8 (Some text_a ∷ None ∷ [])) ≡ Some (value.Utf8 text_a) ∷ None ∷ []
  pub byte_strings : cell_values (cells.Binary (Some text_a ∷ None ∷ [])) ≡ Some (value.Binary text_a) ∷ None ∷ []
  pub short_null : short_value short.Null ≡ None
  pub short_truth : short_value (short.Bool true) ≡ Some (value.Bool true)
  pub short_u8 : short_value (short.U8 5) ≡ Some (value.Primitive (number.U8 5))
  pub short_u16 : short_value (short.U16 5) ≡ Some (value.Primitive (number.U16 5))
  pub short_u32 : short_value (short.U32 5) ≡ Some (value.Primitive (number.U32 5))
  pub short_u64 : short_value (short.U64 5) ≡ Some (value.Primitive (number.U64 5))
  pub short_i8 : short_value (short.I8 (negsuc 4)) ≡ Some (value.Primitive (number.I8 (negsuc 4)))
  pub short_i16 : short_value (short.I16 (negsuc 4)) ≡ Some (value.Primitive (number.I16 (negsuc 4)))
  pub short_i32 : short_value (short.I32 (pos 5)) ≡ Some (value.Primitive (number.I32 (pos 5)))
  pub short_i64 : short_value (short.I64 (pos 5)) ≡ Some (value.Primitive (number.I64 (pos 5)))
