-- The order of values is total, and values that tie are equal.
use Rattle.std.proofs.Common.{◌≡◌, ap, arith, refl}
use Rattle.std.specs.Prelude.{true, false}
use Rattle.std.specs.Cmp.{IsTotalOrder}
use Rattle.std.proofs.lemmas.Cmp.{then_total, on_total, nat_cmp_total, int_cmp_total, nat_list_cmp_total, tied_itself}
use Rattle.std.proofs.lemmas.Map.Lookups.{exact_unsigned, exact_signed, exact_bytes}
use Rattle.std.specs.declared.cmp.Ordering.{Ordering}
use Rattle.std.specs.declared.cmp.Ordering.TheVariants.{Less, Equal, Greater}
use Rattle.std.specs.Ordering.{ordering_then}
use Rattle.vortex_base.specs.Data.Types.{ptype_index}
use Rattle.vortex_base.specs.Data.Values.{value_cmp, kind_index, ptype_place, whole, bytes_of, ptype_of, number_of}
use Rattle.vortex_base.specs.Data.Orders.{pvalue_cmp, TiesAreEqual}
use Rattle.vortex_base.specs.declared.pvalue.PValue.{PValue}
use Rattle.vortex_base.specs.declared.pvalue.PValue.TheVariants as number
use Rattle.vortex_base.specs.declared.scalar_value.ScalarValue.{ScalarValue}
use Rattle.vortex_base.specs.declared.scalar_value.ScalarValue.TheVariants as value

both_tie : (a b : Ordering) → ordering_then a b ≡ Equal → (a ≡ Equal) × (b ≡ Equal)
both_tie Less b h = cc
both_tie Equal b h = (refl, h)
both_tie Greater b h = cc

-- a number is known by its type and its size
same_number : (p q : PValue) → ptype_index (ptype_of p) ≡ ptype_index (ptype_of q) → number_of p ≡ number_of q → p ≡ q
same_number (number.U8 m) (number.U8 n) place size = cc
same_number (number.U16 m) (number.U16 n) place size = cc
same_number (number.U32 m) (number.U32 n) place size = cc
same_number (number.U64 m) (number.U64 n) place size = cc
same_number (number.I8 m) (number.I8 n) place size = cc
same_number (number.I16 m) (number.I16 n) place size = cc
same_number (number.I32 m) (number.I32 n) place size = cc
same_number (number.I64 m) (number.I64 n) place size = cc
same_number p q place size = absurd (omega arith)

-- a value is known by its kind, its number's type, its number and its bytes
same_value : (a b : ScalarValue) → kind_index a ≡ kind_index b → ptype_place a ≡ ptype_place b → whole a ≡ whole b → bytes_of a ≡ bytes_of b → a ≡ b
same_value (value.Bool true) (value.Bool true) kind place number bytes = refl
same_value (value.Bool false) (value.Bool false) kind place number bytes = refl
same_value (value.Bool true) (value.Bool false) kind place number bytes = cc
same_value (value.Bool false) (value.Bool true) kind place number bytes = cc
same_value (value.Primitive p) (value.Primitive q) kind place number bytes = ap value.Primitive (same_number p q place number)
same_value (value.Utf8 a) (value.Utf8 b) kind place number bytes = ap value.Utf8 bytes
same_value (value.Binary a) (value.Binary b) kind place number bytes = ap value.Binary bytes
same_value a b kind place number bytes = absurd (omega arith)

pub value_cmp-total : IsTotalOrder value_cmp
value_cmp-total = then_total (on_total kind_index nat_cmp_total) (then_total (on_total ptype_place nat_cmp_total) (then_total (on_total whole int_cmp_total) (on_total bytes_of nat_list_cmp_total)))

value_ties : (a b : ScalarValue) → value_cmp a b ≡ Equal → a ≡ b
value_ties a b h =
    let kinds = both_tie _ _ h in
    let types = both_tie _ _ kinds.1 in
    let numbers = both_tie _ _ types.1 in
    same_value a b (exact_unsigned _ _ kinds.0) (exact_unsigned _ _ types.0) (exact_signed _ _ numbers.0) (exact_bytes _ _ numbers.1)

pub value_cmp-ties : TiesAreEqual value_cmp
value_cmp-ties a b = (value_ties a b, λ same. rw same (tied_itself value_cmp-total b))

pub pvalue_cmp-total : IsTotalOrder pvalue_cmp
pvalue_cmp-total = then_total (on_total (λ p. ptype_index (ptype_of p)) nat_cmp_total) (on_total number_of int_cmp_total)

number_ties : (p q : PValue) → pvalue_cmp p q ≡ Equal → p ≡ q
number_ties p q h =
    let both = both_tie _ _ h in
    same_number p q (exact_unsigned _ _ both.0) (exact_signed _ _ both.1)

pub pvalue_cmp-ties : TiesAreEqual pvalue_cmp
pvalue_cmp-ties p q = (number_ties p q, λ same. rw same (tied_itself pvalue_cmp-total q))
