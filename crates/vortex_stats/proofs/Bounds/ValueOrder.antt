-- The order of values is total, and values that compare equal are the same.
use Rattle.std.proofs.Common.{◌≡◌, refl, ap, arith}
use Rattle.std.specs.Prelude.{Bool, true, false}
use Rattle.std.specs.declared.cmp.Ordering.{Ordering}
use Rattle.std.specs.declared.cmp.Ordering.TheVariants.{Less, Equal, Greater}
use Rattle.std.specs.Ordering.{nat_cmp, int_cmp, ordering_then}
use Rattle.std.specs.Cmp.{IsTotalOrder}
use Rattle.std.proofs.lemmas.Cmp.{nat_cmp_total, int_cmp_total, nat_list_cmp_total, on_total, then_total}
use Rattle.std.proofs.lemmas.Map.Lookups.{exact_unsigned, exact_signed, exact_bytes}
use Rattle.vortex_base.specs.declared.pvalue.PValue.{PValue}
use Rattle.vortex_base.specs.declared.pvalue.PValue.TheVariants as number
use Rattle.vortex_base.specs.declared.scalar_value.ScalarValue.{ScalarValue}
use Rattle.vortex_base.specs.declared.scalar_value.ScalarValue.TheVariants as value
use Rattle.vortex_base.specs.Data.Types.{ptype_index}
use Rattle.vortex_base.specs.Data.Values.{ptype_of, number_of, kind_index, ptype_place, whole, bytes_of, value_cmp}

pub value_total : IsTotalOrder value_cmp
value_total = then_total (on_total kind_index nat_cmp_total) (then_total (on_total ptype_place nat_cmp_total) (then_total (on_total whole int_cmp_total) (on_total bytes_of nat_list_cmp_total)))

both_equal : (o p : Ordering) → ordering_then o p ≡ Equal → (o ≡ Equal) × (p ≡ Equal)
both_equal Less p h = absurd (cc)
both_equal Equal p h = (refl, h)
both_equal Greater p h = absurd (cc)

-- what is compared of two values is the same
record AreComparedAlike (v w : ScalarValue) : Type 0 where
  kind : kind_index v ≡ kind_index w
  ptype : ptype_place v ≡ ptype_place w
  size : whole v ≡ whole w
  bytes : bytes_of v ≡ bytes_of w

alike_from_equal : (v w : ScalarValue) → value_cmp v w ≡ Equal → AreComparedAlike v w
alike_from_equal v w h =
    let first = both_equal (nat_cmp (kind_index v) (kind_index w)) _ h in
    let second = both_equal (nat_cmp (ptype_place v) (ptype_place w)) _ first.1 in
    let third = both_equal (int_cmp (whole v) (whole w)) _ second.1 in
    record {
      kind = exact_unsigned (kind_index v) (kind_index w) first.0;
      ptype = exact_unsigned (ptype_place v) (ptype_place w) second.0;
      size = exact_signed (whole v) (whole w) third.0;
      bytes = exact_bytes (bytes_of v) (bytes_of w) third.1;
    }

same_numbers : (p q : PValue) → ptype_index (ptype_of p) ≡ ptype_index (ptype_of q) → number_of p ≡ number_of q → p ≡ q
same_numbers (number.U8 m) (number.U8 n) k e = cc
same_numbers (number.U16 m) (number.U16 n) k e = cc
same_numbers (number.U32 m) (number.U32 n) k e = cc
same_numbers (number.U64 m) (number.U64 n) k e = cc
same_numbers (number.I8 m) (number.I8 n) k e = cc
same_numbers (number.I16 m) (number.I16 n) k e = cc
same_numbers (number.I32 m) (number.I32 n) k e = cc
same_numbers (number.I64 m) (number.I64 n) k e = cc
same_numbers p q k e = absurd (omega arith)

same_truths : (b c : Bool) → whole (value.Bool b) ≡ whole (value.Bool c) → value.Bool b ≡ value.Bool c
same_truths true true e = refl
same_truths true false e = absurd (cc)
same_truths false true e = absurd (cc)
same_truths false false e = refl

pub same_from_parts : (v w : ScalarValue) → kind_index v ≡ kind_index w → ptype_place v ≡ ptype_place w → whole v ≡ whole w → bytes_of v ≡ bytes_of w → v ≡ w
same_from_parts (value.Bool b) (value.Bool c) k p s t = same_truths b c s
same_from_parts (value.Primitive x) (value.Primitive y) k p s t = ap value.Primitive (same_numbers x y p s)
same_from_parts (value.Utf8 x) (value.Utf8 y) k p s t = ap value.Utf8 t
same_from_parts (value.Binary x) (value.Binary y) k p s t = ap value.Binary t
same_from_parts v w k p s t = absurd (omega arith)

pub same_from_equal : (v w : ScalarValue) → value_cmp v w ≡ Equal → v ≡ w
same_from_equal v w h = let a = alike_from_equal v w h in same_from_parts v w a.kind a.ptype a.size a.bytes
