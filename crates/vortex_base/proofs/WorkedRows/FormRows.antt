-- Worked rows of the forms in which cells are kept: which values are put among them in no memory.
use Rattle.std.proofs.Common.{refl}
use Rattle.std.specs.Prelude.{true, [], Option, Some, None, Vec, negsuc}
use Rattle.std.specs.declared.alloc.Global.{Global}
use Rattle.vortex_base.specs.Data.ArrayData.{IsOfOtherForm}
use Rattle.vortex_base.specs.declared.array_data.ArrayData.TheVariants as cells
use Rattle.vortex_base.specs.declared.pvalue.PValue.TheVariants as number
use Rattle.vortex_base.specs.declared.scalar_value.ScalarValue.{ScalarValue}
use Rattle.vortex_base.specs.declared.scalar_value.ScalarValue.TheVariants as value

-- cells of each type take a value of it, and null
truth_is_taken : IsOfOtherForm (cells.Bool []) (Some (value.Bool true)) → ⊥
truth_is_taken h = h (Some true) refl

truth_null_is_taken : IsOfOtherForm (cells.Bool []) None → ⊥
truth_null_is_taken h = h None refl

u8_is_taken : IsOfOtherForm (cells.U8 []) (Some (value.Primitive (number.U8 5))) → ⊥
u8_is_taken h = h (Some 5) refl

u8_null_is_taken : IsOfOtherForm (cells.U8 []) None → ⊥
u8_null_is_taken h = h None refl

u16_is_taken : IsOfOtherForm (cells.U16 []) (Some (value.Primitive (number.U16 5))) → ⊥
u16_is_taken h = h (Some 5) refl

u16_null_is_taken : IsOfOtherForm (cells.U16 []) None → ⊥
u16_null_is_taken h = h None refl

u32_is_taken : IsOfOtherForm (cells.U32 []) (Some (value.Primitive (number.U32 5))) → ⊥
u32_is_taken h = h (Some 5) refl

u32_null_is_taken : IsOfOtherForm (cells.U32 []) None → ⊥
u32_null_is_taken h = h None refl

u64_is_taken : IsOfOtherForm (cells.U64 []) (Some (value.Primitive (number.U64 5))) → ⊥
u64_is_taken h = h (Some 5) refl

u64_null_is_taken : IsOfOtherForm (cells.U64 []) None → ⊥
u64_null_is_taken h = h None refl

i8_is_taken : IsOfOtherForm (cells.I8 []) (Some (value.Primitive (number.I8 (negsuc 4)))) → ⊥
i8_is_taken h = h (Some (negsuc 4)) refl

i8_null_is_taken : IsOfOtherForm (cells.I8 []) None → ⊥
i8_null_is_taken h = h None refl

i16_is_taken : IsOfOtherForm (cells.I16 []) (Some (value.Primitive (number.I16 (negsuc 4)))) → ⊥
i16_is_taken h = h (Some (negsuc 4)) refl

i16_null_is_taken : IsOfOtherForm (cells.I16 []) None → ⊥
i16_null_is_taken h = h None refl

i32_is_taken : IsOfOtherForm (cells.I32 []) (Some (value.Primitive (number.I32 (negsuc 4)))) → ⊥
i32_is_taken h = h (Some (negsuc 4)) refl

i32_null_is_taken : IsOfOtherForm (cells.I32 []) None → ⊥
i32_null_is_taken h = h None refl

i64_is_taken : IsOfOtherForm (cells.I64 []) (Some (value.Primitive (number.I64 (negsuc 4)))) → ⊥
i64_is_taken h = h (Some (negsuc 4)) refl

i64_null_is_taken : IsOfOtherForm (cells.I64 []) None → ⊥
i64_null_is_taken h = h None refl

-- a value of the next type is of another form
truth_is_no_other : IsOfOtherForm (cells.Bool []) (Some (value.Primitive (number.U8 5)))
truth_is_no_other None = λ e. cc
truth_is_no_other (Some n) = λ e. cc

u8_is_no_other : IsOfOtherForm (cells.U8 []) (Some (value.Primitive (number.U16 5)))
u8_is_no_other None = λ e. cc
u8_is_no_other (Some n) = λ e. cc

u16_is_no_other : IsOfOtherForm (cells.U16 []) (Some (value.Primitive (number.U32 5)))
u16_is_no_other None = λ e. cc
u16_is_no_other (Some n) = λ e. cc

u32_is_no_other : IsOfOtherForm (cells.U32 []) (Some (value.Primitive (number.U64 5)))
u32_is_no_other None = λ e. cc
u32_is_no_other (Some n) = λ e. cc

u64_is_no_other : IsOfOtherForm (cells.U64 []) (Some (value.Primitive (number.I8 (negsuc 4))))
u64_is_no_other None = λ e. cc
u64_is_no_other (Some n) = λ e. cc

i8_is_no_other : IsOfOtherForm (cells.I8 []) (Some (value.Primitive (number.I16 (negsuc 4))))
i8_is_no_other None = λ e. cc
i8_is_no_other (Some n) = λ e. cc

i16_is_no_other : IsOfOtherForm (cells.I16 []) (Some (value.Primitive (number.I32 (negsuc 4))))
i16_is_no_other None = λ e. cc
i16_is_no_other (Some n) = λ e. cc

i32_is_no_other : IsOfOtherForm (cells.I32 []) (Some (value.Primitive (number.I64 (negsuc 4))))
i32_is_no_other None = λ e. cc
i32_is_no_other (Some n) = λ e. cc

i64_is_no_other : IsOfOtherForm (cells.I64 []) (Some (value.Bool true))
i64_is_no_other None = λ e. cc
i64_is_no_other (Some n) = λ e. cc

-- values of any kind take each value
any_is_taken : (c : Vec (Option ScalarValue) Global) (x : Option ScalarValue) → IsOfOtherForm (cells.Any c) x → ⊥
any_is_taken c x h = h
