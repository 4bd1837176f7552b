-- Numbers of a column's type.
use Rattle.std.specs.Prelude.{ℕ, ℤ, pos, negsuc, int_le, ◌&&◌, Option, Some, None, unwrap_or, if◌then◌else◌}
use Rattle.vortex_base.specs.declared.types.PType.{PType}
use Rattle.vortex_base.specs.declared.types.PType.TheVariants as ptype
use Rattle.vortex_base.specs.declared.pvalue.PValue.{PValue}
use Rattle.vortex_base.specs.declared.pvalue.PValue.TheVariants as number
use Rattle.vortex_base.specs.Data.Values.{least, greatest}
use Rattle.vortex_logical.specs.declared.cell_range.CellRange.{CellRange}

abbrev pub to_nat : ℤ → ℕ
to_nat (pos n) = n
to_nat (negsuc n) = 0

-- z as a number of a type that has it
abbrev pub sized : PType → ℤ → PValue
sized ptype.U8 z = number.U8 (to_nat z)
sized ptype.U16 z = number.U16 (to_nat z)
sized ptype.U32 z = number.U32 (to_nat z)
sized ptype.U64 z = number.U64 (to_nat z)
sized ptype.I8 z = number.I8 z
sized ptype.I16 z = number.I16 z
sized ptype.I32 z = number.I32 z
sized ptype.I64 z = number.I64 z

abbrev pub in_type : PType → ℤ → Option PValue
in_type p z = if int_le (least p) z && int_le z (greatest p) then Some (sized p z) else None

abbrev pub least_of : PType → PValue
least_of p = sized p (least p)

-- z as a number of a type that has it, and else the least
abbrev pub sized_in : PType → ℤ → PValue
sized_in p z = unwrap_or (in_type p z) (least_of p)

-- the numbers of a type
abbrev pub range_of : PType → CellRange
range_of p = record { least = least p; greatest = greatest p }
