-- Worked rows: the numbers of kinds, statuses and faults, as the header has them.
use Rattle.std.proofs.Common.{◌≡◌, None, Some, Ok, Err, refl}
use Rattle.vortex_base.specs.declared.dtype.DType.TheVariants as dtype
use Rattle.vortex_base.specs.declared.types.Nullability.TheVariants.{Nullable, NonNullable}
use Rattle.vortex_base.specs.declared.types.PType.TheVariants as ptype
use Rattle.vortex_capi.specs.ParquetCalls.Refusals.{number_of, reason_of}
use Rattle.vortex_capi.specs.Statuses.{status_number, status_of_nested}
use Rattle.vortex_capi.specs.Types.{dtype_of, width}
use Rattle.vortex_capi.specs.declared.nested.error.NestedError.TheVariants as nested
use Rattle.vortex_capi.specs.declared.status.Status.TheVariants.{BadLine, TooShort, NoMemory, BadKind, BadStat, BadKnown, BadLength, BadEnds, BadValue, BadNull, Untrue, BadColumn, BadName, NotAPredicate, BadFlag, TooDeep, BadSql, Misfit, BadFooter, NotRead}
use Rattle.vortex_parquet.specs.declared.columns.LeftOut.TheVariants as left_out
use Rattle.vortex_parquet.specs.declared.fault.Fault.TheVariants as footer

-- ---- kinds

kind_0 : dtype_of 0 1 ≡ Ok dtype.Null
kind_0 = refl

kind_0_without_null : dtype_of 0 0 ≡ Ok dtype.Null
kind_0_without_null = refl

kind_1 : dtype_of 1 1 ≡ Ok (dtype.Bool Nullable)
kind_1 = refl

kind_1_without_null : dtype_of 1 0 ≡ Ok (dtype.Bool NonNullable)
kind_1_without_null = refl

kind_2 : dtype_of 2 1 ≡ Ok (dtype.Primitive ptype.U8 Nullable)
kind_2 = refl

kind_2_without_null : dtype_of 2 0 ≡ Ok (dtype.Primitive ptype.U8 NonNullable)
kind_2_without_null = refl

kind_3 : dtype_of 3 1 ≡ Ok (dtype.Primitive ptype.U16 Nullable)
kind_3 = refl

kind_3_without_null : dtype_of 3 0 ≡ Ok (dtype.Primitive ptype.U16 NonNullable)
kind_3_without_null = refl

kind_4 : dtype_of 4 1 ≡ Ok (dtype.Primitive ptype.U32 Nullable)
kind_4 = refl

kind_4_without_null : dtype_of 4 0 ≡ Ok (dtype.Primitive ptype.U32 NonNullable)
kind_4_without_null = refl

kind_5 : dtype_of 5 1 ≡ Ok (dtype.Primitive ptype.U64 Nullable)
kind_5 = refl

kind_5_without_null : dtype_of 5 0 ≡ Ok (dtype.Primitive ptype.U64 NonNullable)
kind_5_without_null = refl

kind_6 : dtype_of 6 1 ≡ Ok (dtype.Primitive ptype.I8 Nullable)
kind_6 = refl

kind_6_without_null : dtype_of 6 0 ≡ Ok (dtype.Primitive ptype.I8 NonNullable)
kind_6_without_null = refl

kind_7 : dtype_of 7 1 ≡ Ok (dtype.Primitive ptype.I16 Nullable)
kind_7 = refl

kind_7_without_null : dtype_of 7 0 ≡ Ok (dtype.Primitive ptype.I16 NonNullable)
kind_7_without_null = refl

kind_8 : dtype_of 8 1 ≡ Ok (dtype.Primitive ptype.I32 Nullable)
kind_8 = refl

kind_8_without_null : dtype_of 8 0 ≡ Ok (dtype.Primitive ptype.I32 NonNullable)
kind_8_without_null = refl

kind_9 : dtype_of 9 1 ≡ Ok (dtype.Primitive ptype.I64 Nullable)
kind_9 = refl

kind_9_without_null : dtype_of 9 0 ≡ Ok (dtype.Primitive ptype.I64 NonNullable)
kind_9_without_null = refl

kind_10 : dtype_of 10 1 ≡ Ok (dtype.Utf8 Nullable)
kind_10 = refl

kind_10_without_null : dtype_of 10 0 ≡ Ok (dtype.Utf8 NonNullable)
kind_10_without_null = refl

kind_11 : dtype_of 11 1 ≡ Ok (dtype.Binary Nullable)
kind_11 = refl

kind_11_without_null : dtype_of 11 0 ≡ Ok (dtype.Binary NonNullable)
kind_11_without_null = refl

kind_12 : dtype_of 12 1 ≡ Ok (dtype.Primitive ptype.I32 Nullable)
kind_12 = refl

kind_12_without_null : dtype_of 12 0 ≡ Ok (dtype.Primitive ptype.I32 NonNullable)
kind_12_without_null = refl

kind_13 : dtype_of 13 1 ≡ Ok (dtype.Primitive ptype.I64 Nullable)
kind_13 = refl

kind_13_without_null : dtype_of 13 0 ≡ Ok (dtype.Primitive ptype.I64 NonNullable)
kind_13_without_null = refl

kind_14 : dtype_of 14 1 ≡ Ok (dtype.Primitive ptype.I64 Nullable)
kind_14 = refl

kind_14_without_null : dtype_of 14 0 ≡ Ok (dtype.Primitive ptype.I64 NonNullable)
kind_14_without_null = refl

kind_15 : dtype_of 15 1 ≡ Ok (dtype.Primitive ptype.I64 Nullable)
kind_15 = refl

kind_15_without_null : dtype_of 15 0 ≡ Ok (dtype.Primitive ptype.I64 NonNullable)
kind_15_without_null = refl

kind_16 : dtype_of 16 1 ≡ Ok (dtype.Primitive ptype.I64 Nullable)
kind_16 = refl

kind_16_without_null : dtype_of 16 0 ≡ Ok (dtype.Primitive ptype.I64 NonNullable)
kind_16_without_null = refl

kind_17 : dtype_of 17 1 ≡ Err BadKind
kind_17 = refl

kind_255 : dtype_of 255 0 ≡ Err BadKind
kind_255 = refl

neither_null_nor_not : dtype_of 1 2 ≡ Err BadKind
neither_null_nor_not = refl

-- ---- how many bytes a value takes

width_of_null : width dtype.Null ≡ Some 0
width_of_null = refl

width_of_bool : width (dtype.Bool Nullable) ≡ Some 1
width_of_bool = refl

width_of_u8 : width (dtype.Primitive ptype.U8 Nullable) ≡ Some 1
width_of_u8 = refl

width_of_u16 : width (dtype.Primitive ptype.U16 Nullable) ≡ Some 2
width_of_u16 = refl

width_of_u32 : width (dtype.Primitive ptype.U32 Nullable) ≡ Some 4
width_of_u32 = refl

width_of_u64 : width (dtype.Primitive ptype.U64 Nullable) ≡ Some 8
width_of_u64 = refl

width_of_i8 : width (dtype.Primitive ptype.I8 Nullable) ≡ Some 1
width_of_i8 = refl

width_of_i16 : width (dtype.Primitive ptype.I16 Nullable) ≡ Some 2
width_of_i16 = refl

width_of_i32 : width (dtype.Primitive ptype.I32 Nullable) ≡ Some 4
width_of_i32 = refl

width_of_i64 : width (dtype.Primitive ptype.I64 Nullable) ≡ Some 8
width_of_i64 = refl

width_of_utf8 : width (dtype.Utf8 Nullable) ≡ None
width_of_utf8 = refl

width_of_binary : width (dtype.Binary Nullable) ≡ None
width_of_binary = refl

-- ---- statuses

status_2 : status_number BadLine ≡ 2
status_2 = refl

status_3 : status_number TooShort ≡ 3
status_3 = refl

status_4 : status_number NoMemory ≡ 4
status_4 = refl

status_5 : status_number BadKind ≡ 5
status_5 = refl

status_6 : status_number BadStat ≡ 6
status_6 = refl

status_7 : status_number BadKnown ≡ 7
status_7 = refl

status_8 : status_number BadLength ≡ 8
status_8 = refl

status_9 : status_number BadEnds ≡ 9
status_9 = refl

status_10 : status_number BadValue ≡ 10
status_10 = refl

status_11 : status_number BadNull ≡ 11
status_11 = refl

status_12 : status_number Untrue ≡ 12
status_12 = refl

status_13 : status_number BadColumn ≡ 13
status_13 = refl

status_14 : status_number BadName ≡ 14
status_14 = refl

status_15 : status_number NotAPredicate ≡ 15
status_15 = refl

status_16 : status_number BadFlag ≡ 16
status_16 = refl

status_17 : status_number TooDeep ≡ 17
status_17 = refl

status_18 : status_number BadSql ≡ 18
status_18 = refl

status_19 : status_number Misfit ≡ 19
status_19 = refl

status_20 : status_number BadFooter ≡ 20
status_20 = refl

status_21 : status_number NotRead ≡ 21
status_21 = refl

nested_memory : status_of_nested nested.Memory ≡ NoMemory
nested_memory = refl

nested_bad : status_of_nested nested.Bad ≡ BadLine
nested_bad = refl

nested_toodeep : status_of_nested nested.TooDeep ≡ TooDeep
nested_toodeep = refl

-- ---- faults of footers, and why a name refuses a condition

fault_0 : number_of footer.NotParquet ≡ 0
fault_0 = refl

fault_1 : number_of footer.Encrypted ≡ 1
fault_1 = refl

fault_2 : number_of footer.FooterLength ≡ 2
fault_2 = refl

fault_3 : number_of footer.Short ≡ 3
fault_3 = refl

fault_4 : number_of footer.Varint ≡ 4
fault_4 = refl

fault_5 : number_of footer.Negative ≡ 5
fault_5 = refl

fault_6 : number_of footer.FieldId ≡ 6
fault_6 = refl

fault_7 : number_of footer.Kind ≡ 7
fault_7 = refl

fault_8 : number_of footer.Length ≡ 8
fault_8 = refl

fault_9 : number_of footer.Depth ≡ 9
fault_9 = refl

fault_10 : number_of footer.Missing ≡ 10
fault_10 = refl

fault_11 : number_of footer.Schema ≡ 11
fault_11 = refl

fault_12 : number_of footer.Columns ≡ 12
fault_12 = refl

fault_14 : number_of footer.Pages ≡ 14
fault_14 = refl

reason_0 : reason_of left_out.Nested ≡ 0
reason_0 = refl

reason_1 : reason_of left_out.Repeated ≡ 1
reason_1 = refl

reason_2 : reason_of left_out.Duplicate ≡ 2
reason_2 = refl

reason_3 : reason_of left_out.Type ≡ 3
reason_3 = refl
