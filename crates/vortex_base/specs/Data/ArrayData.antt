-- The values of a column as they are kept, and a value as it is lent.
use Rattle.std.specs.Prelude.{◌≢◌, ℕ, List, Option, Some, None, map, option_map, replicate}
use Rattle.vortex_base.specs.declared.array_data.ArrayData.{ArrayData}
use Rattle.vortex_base.specs.declared.array_data.ArrayData.TheVariants.{Any, Nulls, Bool, U8, U16, U32, U64, I8, I16, I32, I64, Utf8, Binary}
use Rattle.vortex_base.specs.declared.array_data.PrimitiveScalar.{PrimitiveScalar}
use Rattle.vortex_base.specs.declared.array_data.PrimitiveScalar.TheVariants as short
use Rattle.vortex_base.specs.declared.pvalue.PValue.TheVariants as number
use Rattle.vortex_base.specs.declared.scalar_value.ScalarValue.{ScalarValue}
use Rattle.vortex_base.specs.declared.scalar_value.ScalarValue.TheVariants as value
use Rattle.vortex_base.specs.declared.value_ref.ValueRef.{ValueRef}
use Rattle.vortex_base.specs.declared.value_ref.ValueRef.TheVariants as lent

-- the value that is lent
abbrev pub value_of : ValueRef → ScalarValue
value_of (lent.Bool b) = value.Bool b
value_of (lent.Primitive p) = value.Primitive p
value_of (lent.Utf8 t) = value.Utf8 t.text.now
value_of (lent.Binary b) = value.Binary b.bytes.now

-- the optional value of a short cell
abbrev pub short_value : PrimitiveScalar → Option ScalarValue
short_value short.Null = None
short_value (short.Bool b) = Some (value.Bool b)
short_value (short.U8 n) = Some (value.Primitive (number.U8 n))
short_value (short.U16 n) = Some (value.Primitive (number.U16 n))
short_value (short.U32 n) = Some (value.Primitive (number.U32 n))
short_value (short.U64 n) = Some (value.Primitive (number.U64 n))
short_value (short.I8 n) = Some (value.Primitive (number.I8 n))
short_value (short.I16 n) = Some (value.Primitive (number.I16 n))
short_value (short.I32 n) = Some (value.Primitive (number.I32 n))
short_value (short.I64 n) = Some (value.Primitive (number.I64 n))

-- the value of an optional text
abbrev pub text_value : Option (List ℕ) → Option ScalarValue
text_value t = option_map value.Utf8 t

-- the value of an optional byte string
abbrev pub bytes_value : Option (List ℕ) → Option ScalarValue
bytes_value b = option_map value.Binary b

-- the optional values of cells, in order
abbrev pub cell_values : ArrayData → List (Option ScalarValue)
cell_values (Any v) = v.items
cell_values (Nulls n) = replicate n None
cell_values (Bool v) = map (option_map value.Bool) v
cell_values (U8 v) = map (option_map (λ n. value.Primitive (number.U8 n))) v
cell_values (U16 v) = map (option_map (λ n. value.Primitive (number.U16 n))) v
cell_values (U32 v) = map (option_map (λ n. value.Primitive (number.U32 n))) v
cell_values (U64 v) = map (option_map (λ n. value.Primitive (number.U64 n))) v
cell_values (I8 v) = map (option_map (λ n. value.Primitive (number.I8 n))) v
cell_values (I16 v) = map (option_map (λ n. value.Primitive (number.I16 n))) v
cell_values (I32 v) = map (option_map (λ n. value.Primitive (number.I32 n))) v
cell_values (I64 v) = map (option_map (λ n. value.Primitive (number.I64 n))) v
cell_values (Utf8 v) = map text_value v
cell_values (Binary v) = map bytes_value v

-- an optional value is none of those that values of a form stand for, null included
abbrev pub IsNoneOf : {X : Type 0} → (X → ScalarValue) → Option ScalarValue → Type 0
IsNoneOf {X = X} f v = (x : Option X) → option_map f x ≢ v

-- a value takes memory among the cells: it is of another kind than they are kept as, or they are nulls, texts or byte strings
abbrev pub IsOfOtherForm : ArrayData → Option ScalarValue → Type 0
IsOfOtherForm (Any c) v = ⊥
IsOfOtherForm (Nulls c) v = Unit {0}
IsOfOtherForm (Bool c) v = IsNoneOf value.Bool v
IsOfOtherForm (U8 c) v = IsNoneOf (λ n. value.Primitive (number.U8 n)) v
IsOfOtherForm (U16 c) v = IsNoneOf (λ n. value.Primitive (number.U16 n)) v
IsOfOtherForm (U32 c) v = IsNoneOf (λ n. value.Primitive (number.U32 n)) v
IsOfOtherForm (U64 c) v = IsNoneOf (λ n. value.Primitive (number.U64 n)) v
IsOfOtherForm (I8 c) v = IsNoneOf (λ n. value.Primitive (number.I8 n)) v
IsOfOtherForm (I16 c) v = IsNoneOf (λ n. value.Primitive (number.I16 n)) v
IsOfOtherForm (I32 c) v = IsNoneOf (λ n. value.Primitive (number.I32 n)) v
IsOfOtherForm (I64 c) v = IsNoneOf (λ n. value.Primitive (number.I64 n)) v
IsOfOtherForm (Utf8 c) v = Unit {0}
IsOfOtherForm (Binary c) v = Unit {0}
