-- What the cells of a column hold is no longer than 128 bits.
use Rattle.std.proofs.Common.{Bool, true, false, sym, subst, arith}
use Rattle.std.specs.Prelude.{ℤ, pos, negsuc, ◌*ℤ◌, nat_lt, if◌then◌else◌}
use Rattle.std.proofs.lemmas.Int.{ints}
use Rattle.vortex_logical.specs.declared.logical_type.LogicalType.{LogicalType}
use Rattle.vortex_logical.specs.declared.logical_type.LogicalType.TheVariants.{Date, Time, Timestamp, TimestampTz, Decimal}
use Rattle.vortex_logical.specs.Points.{IsShort}
use Rattle.vortex_logical.specs.LogicalTypes.{step, range, bits_64, digits_38}
use Rattle.vortex_logical.specs.Lowering.{IsIn}
use Rattle.vortex_logical.proofs.Products.{product_le, product_once}

short_days : (n : ℤ) → IsIn (range Date) n → IsShort (n *ℤ pos 86_400)
short_days n h =
    let l = product_le (negsuc 2_147_483_647) n 86_400 h.0 in
    let g = product_le n (pos 2_147_483_647) 86_400 h.1 in
    (omega (arith, ints), omega (arith, ints))

once : (n : ℤ) → IsShort n → IsShort (n *ℤ pos 1)
once n h = let P : ℤ → Type 0 = IsShort in subst P (sym (product_once n)) h

short_bits : (n : ℤ) → IsIn bits_64 n → IsShort n
short_bits n h = (omega (arith, ints, h.0), omega (arith, ints, h.1))

short_decimal : (b : Bool) (n : ℤ) → IsIn (if b then digits_38 else bits_64) n → IsShort n
short_decimal true n h = (omega (arith, ints, h.0), omega (arith, ints, h.1))
short_decimal false n h = short_bits n h

pub short_cell : (t : LogicalType) (n : ℤ) → IsIn (range t) n → IsShort (n *ℤ pos (step t).each)
short_cell Date n h = short_days n h
short_cell (Time u) n h = once n (short_bits n h)
short_cell (Timestamp u) n h = once n (short_bits n h)
short_cell (TimestampTz u) n h = once n (short_bits n h)
short_cell (Decimal d) n h = once n (short_decimal (nat_lt 18 d.precision) n h)
