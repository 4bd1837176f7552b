-- Worked cases of the definitions of values, scopes, columns, chunks and rows.
use Rattle.std.specs.Prelude.{◌≡◌, ℕ, true, false, List, [], ◌∷◌, Option, Some, None, Ok, Err, pos, negsuc}
use Rattle.std.specs.declared.cmp.Ordering.TheVariants.{Less, Equal, Greater}
use Rattle.vortex_base.specs.declared.types.Nullability.TheVariants.{Nullable, NonNullable}
use Rattle.vortex_base.specs.declared.types.PType.TheVariants as ptype
use Rattle.vortex_base.specs.declared.types.Element.TheVariants as element
use Rattle.vortex_base.specs.declared.dtype.DType.{DType}
use Rattle.vortex_base.specs.declared.dtype.DType.TheVariants as dtype
use Rattle.vortex_base.specs.declared.pvalue.PValue.TheVariants as number
use Rattle.vortex_base.specs.declared.scalar_value.ScalarValue.{ScalarValue}
use Rattle.vortex_base.specs.declared.scalar_value.ScalarValue.TheVariants as value
use Rattle.vortex_base.specs.declared.error.BaseError.TheVariants.{EmptyScope, DuplicateColumn, TypeFault, Mismatch, RowShape}
use Rattle.vortex_base.specs.Data.Types.{is_nullable, as_nullable, eq_ignore_nullability}
use Rattle.vortex_base.specs.Data.Values.{is_value, value_cmp}
use Rattle.vortex_base.specs.Data.Scalars.{is_optional_value}
use Rattle.vortex_base.specs.Data.Scopes.{Named, scope_of, place_of}
use Rattle.vortex_base.specs.Data.Columns.{ColumnData, column_of, chunk_of, row_of}

abbrev pub i32_type : DType
i32_type = dtype.Primitive ptype.I32 NonNullable

abbrev pub i32_or_null : DType
i32_or_null = dtype.Primitive ptype.I32 Nullable

abbrev pub i32_value : ℕ → ScalarValue
i32_value n = value.Primitive (number.I32 (pos n))

abbrev pub state_type : DType
state_type = dtype.MinMaxState (element.Primitive ptype.I32) Nullable

-- the texts `a` and `é`
abbrev pub text_a : List ℕ
text_a = 97 ∷ []

abbrev pub text_e_acute : List ℕ
text_e_acute = 195 ∷ 169 ∷ []

abbrev pub column_a : Named
column_a = (text_a, i32_type)

abbrev pub column_b : Named
column_b = (98 ∷ [], dtype.Bool Nullable)

abbrev pub column_s : Named
column_s = (115 ∷ [], state_type)

abbrev pub of_numbers : List (Option ScalarValue) → ColumnData
of_numbers vs = record { dtype = i32_type; values = vs; size = 4 }

abbrev pub of_bools : List (Option ScalarValue) → ColumnData
of_bools vs = record { dtype = dtype.Bool Nullable; values = vs; size = 1 }

-- which types have null, and which are equal but for it
pub record TypeExamples : Type 0 where
  pub null_has_null : is_nullable dtype.Null ≡ true
  pub plain_has_none : is_nullable i32_type ≡ false
  pub state_has_null : is_nullable state_type ≡ true
  pub null_is_its_own : as_nullable dtype.Null ≡ dtype.Null
  pub with_null : as_nullable i32_type ≡ i32_or_null
  pub equal_but_null : eq_ignore_nullability i32_type i32_or_null ≡ true
  pub other_width : eq_ignore_nullability i32_type (dtype.Primitive ptype.I64 NonNullable) ≡ false

-- which values are of which types
pub record ValueExamples : Type 0 where
  pub of_the_width : is_value (i32_value 5) i32_type ≡ true
  pub of_another_width : is_value (value.Primitive (number.I64 (pos 5))) i32_type ≡ false
  pub too_great : is_value (value.Primitive (number.U8 256)) (dtype.Primitive ptype.U8 NonNullable) ≡ false
  pub greatest_u8 : is_value (value.Primitive (number.U8 255)) (dtype.Primitive ptype.U8 NonNullable) ≡ true
  pub least_i8 : is_value (value.Primitive (number.I8 (negsuc 127))) (dtype.Primitive ptype.I8 NonNullable) ≡ true
  pub too_small : is_value (value.Primitive (number.I8 (negsuc 128))) (dtype.Primitive ptype.I8 NonNullable) ≡ false
  pub a_text : is_value (value.Utf8 text_e_acute) (dtype.Utf8 NonNullable) ≡ true
  pub no_text : is_value (value.Utf8 (193 ∷ 161 ∷ [])) (dtype.Utf8 NonNullable) ≡ false
  pub any_bytes : is_value (value.Binary (193 ∷ 161 ∷ [])) (dtype.Binary NonNullable) ≡ true
  pub text_is_not_bytes : is_value (value.Utf8 text_a) (dtype.Binary NonNullable) ≡ false
  pub null_alone : is_value (value.Bool true) dtype.Null ≡ false
  pub no_state : is_value (i32_value 5) state_type ≡ false
  pub null_state : is_optional_value None state_type ≡ true
  pub no_null : is_optional_value None i32_type ≡ false

-- the order of values
pub record OrderExamples : Type 0 where
  pub false_first : value_cmp (value.Bool false) (value.Bool true) ≡ Less
  pub below_zero : value_cmp (value.Primitive (number.I8 (negsuc 0))) (value.Primitive (number.I8 (pos 0))) ≡ Less
  pub by_type_first : value_cmp (value.Primitive (number.U8 255)) (value.Primitive (number.I8 (negsuc 127))) ≡ Less
  pub u64_before_i8 : value_cmp (value.Primitive (number.I8 (pos 0))) (value.Primitive (number.U64 1)) ≡ Greater
  pub shorter_first : value_cmp (value.Utf8 text_a) (value.Utf8 (97 ∷ 98 ∷ [])) ≡ Less
  pub bytes_before_length : value_cmp (value.Utf8 (98 ∷ [])) (value.Utf8 (97 ∷ 98 ∷ [])) ≡ Greater
  pub by_bytes : value_cmp (value.Utf8 text_e_acute) (value.Utf8 (122 ∷ [])) ≡ Greater
  pub kinds_in_order : value_cmp (value.Utf8 (122 ∷ [])) (value.Binary text_a) ≡ Less
  pub same : value_cmp (value.Binary text_a) (value.Binary text_a) ≡ Equal

-- the faults of a scope, in their order, and the place of a name
pub record ScopeExamples : Type 0 where
  pub none : scope_of [] ≡ Err EmptyScope
  pub twice : scope_of (column_a ∷ column_b ∷ column_a ∷ []) ≡ Err DuplicateColumn
  pub state : scope_of (column_a ∷ column_s ∷ []) ≡ Err TypeFault
  pub twice_before_state : scope_of (column_s ∷ column_s ∷ []) ≡ Err DuplicateColumn
  pub two : scope_of (column_a ∷ column_b ∷ []) ≡ Ok (column_a ∷ column_b ∷ [])
  pub second : place_of (98 ∷ []) (column_a ∷ column_b ∷ []) ≡ Some 1
  pub absent : place_of (99 ∷ []) (column_a ∷ column_b ∷ []) ≡ None

-- the faults of columns and chunks, and the rows of a chunk
pub record ChunkExamples : Type 0 where
  pub null_in_plain : column_of i32_type (Some (i32_value 1) ∷ None ∷ []) 8 ≡ Err Mismatch
  pub null_where_allowed : column_of i32_or_null (None ∷ []) 8 ≡ Ok (record { dtype = i32_or_null; values = None ∷ []; size = 8 })
  pub no_rows : column_of i32_type [] 0 ≡ Ok (record { dtype = i32_type; values = []; size = 0 })
  pub too_few : chunk_of (column_a ∷ column_b ∷ []) (of_numbers [] ∷ []) ≡ Err RowShape
  pub unequal : chunk_of (column_a ∷ column_b ∷ []) (of_numbers [] ∷ of_bools (None ∷ []) ∷ []) ≡ Err RowShape
  pub shape_first : chunk_of (column_a ∷ []) (of_bools [] ∷ of_bools [] ∷ []) ≡ Err RowShape
  pub other_type : chunk_of (column_a ∷ []) (of_bools [] ∷ []) ≡ Err Mismatch
  pub null_apart : chunk_of (column_a ∷ []) (record { dtype = i32_or_null; values = []; size = 0 } ∷ []) ≡ Err Mismatch
  pub the_row : row_of 1 (of_numbers (Some (i32_value 1) ∷ Some (i32_value 2) ∷ []) ∷ of_bools (Some (value.Bool true) ∷ None ∷ []) ∷ [])
      ≡ record { dtype = i32_type; value = Some (i32_value 2) } ∷ record { dtype = dtype.Bool Nullable; value = None } ∷ []
