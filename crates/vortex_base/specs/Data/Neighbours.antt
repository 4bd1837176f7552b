-- The numbers next to a number in its type.
use Rattle.std.specs.Prelude.{Option, Some, None, ℤ, pos, ◌+ℤ◌, ◌-ℤ◌, int_lt, unsigned_abs, if◌then◌else◌}
use Rattle.vortex_base.specs.Data.Values.{ptype_of, number_of, least, greatest}
use Rattle.vortex_base.specs.declared.pvalue.PValue.{PValue}
use Rattle.vortex_base.specs.declared.pvalue.PValue.TheVariants as number

-- the number of p's type that is z, which is not below the type's least
abbrev pub resized : (p : PValue) → (z : ℤ) → PValue
resized (number.U8 n) z = number.U8 (unsigned_abs z)
resized (number.U16 n) z = number.U16 (unsigned_abs z)
resized (number.U32 n) z = number.U32 (unsigned_abs z)
resized (number.U64 n) z = number.U64 (unsigned_abs z)
resized (number.I8 n) z = number.I8 z
resized (number.I16 n) z = number.I16 z
resized (number.I32 n) z = number.I32 z
resized (number.I64 n) z = number.I64 z

-- the number one above, if p is not its type's greatest
abbrev pub next_number : PValue → Option PValue
next_number p = if int_lt (number_of p) (greatest (ptype_of p)) then Some (resized p (number_of p +ℤ pos 1)) else None

-- the number one below, if p is not its type's least
abbrev pub prev_number : PValue → Option PValue
prev_number p = if int_lt (least (ptype_of p)) (number_of p) then Some (resized p (number_of p -ℤ pos 1)) else None
