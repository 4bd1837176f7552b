-- Worked rows: numbers and bytes, computed.
use Rattle.std.proofs.Common.{◌≡◌, pos, negsuc, None, Some, [], ◌∷◌, codes, refl}
use Rattle.vortex_base.specs.declared.types.PType.TheVariants as ptype
use Rattle.vortex_base.specs.declared.pvalue.PValue.TheVariants as number
use Rattle.vortex_syntax.specs.Numbers.{bytes_of, number_of}

zeros_in_front : number_of ptype.U8 (codes "000000000000000000000000000000000000000000000000000000000007") ≡ Some (number.U8 7)
zeros_in_front = refl

greatest_small : number_of ptype.U8 (codes "255") ≡ Some (number.U8 255)
greatest_small = refl

past_small : number_of ptype.U8 (codes "256") ≡ None
past_small = refl

least_signed : number_of ptype.I8 (codes "-128") ≡ Some (number.I8 (negsuc 127))
least_signed = refl

below_signed : number_of ptype.I8 (codes "-129") ≡ None
below_signed = refl

greatest_long : number_of ptype.U64 (codes "18446744073709551615") ≡ Some (number.U64 18446744073709551615)
greatest_long = refl

past_long : number_of ptype.U64 (codes "18446744073709551616") ≡ None
past_long = refl

least_long : number_of ptype.I64 (codes "-9223372036854775808") ≡ Some (number.I64 (negsuc 9223372036854775807))
least_long = refl

past_signed_long : number_of ptype.I64 (codes "9223372036854775808") ≡ None
past_signed_long = refl

minus_zero : number_of ptype.I32 (codes "-0") ≡ Some (number.I32 (pos 0))
minus_zero = refl

minus_of_unsigned : number_of ptype.U8 (codes "-0") ≡ None
minus_of_unsigned = refl

plus : number_of ptype.I64 (codes "+1") ≡ None
plus = refl

minus_alone : number_of ptype.I64 (codes "-") ≡ None
minus_alone = refl

two_minuses : number_of ptype.I64 (codes "--1") ≡ None
two_minuses = refl

no_digits : number_of ptype.U16 [] ≡ None
no_digits = refl

other_digit : number_of ptype.U32 (codes "1e3") ≡ None
other_digit = refl

bytes_of_both_cases : bytes_of (codes "00fFA9") ≡ Some (0 ∷ 255 ∷ 169 ∷ [])
bytes_of_both_cases = refl

no_bytes : bytes_of [] ≡ Some []
no_bytes = refl

odd_digits : bytes_of (codes "abc") ≡ None
odd_digits = refl

no_hexadecimal_digit : bytes_of (codes "0g") ≡ None
no_hexadecimal_digit = refl
