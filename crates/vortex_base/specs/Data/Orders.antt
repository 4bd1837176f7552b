-- The laws of the order of values and of numbers.
use Rattle.std.specs.Prelude.{◌≡◌, ◌↔◌}
use Rattle.std.specs.Cmp.{IsTotalOrder}
use Rattle.std.specs.Ordering.{nat_cmp, int_cmp, on, then_cmp}
use Rattle.std.specs.declared.cmp.Ordering.{Ordering}
use Rattle.std.specs.declared.cmp.Ordering.TheVariants.{Equal}
use Rattle.vortex_base.specs.Data.Types.{ptype_index}
use Rattle.vortex_base.specs.Data.Values.{ptype_of, number_of, value_cmp}
use Rattle.vortex_base.specs.declared.pvalue.PValue.{PValue}

-- numbers by type, in the types' order, and then by size
abbrev pub pvalue_cmp : PValue → PValue → Ordering
pvalue_cmp = then_cmp (on (λ p. ptype_index (ptype_of p)) nat_cmp) (on number_of int_cmp)

-- two things tie exactly if they are one
abbrev pub TiesAreEqual : {K : Type 0} → (K → K → Ordering) → Type 0
TiesAreEqual {K} cmp = (a b : K) → (cmp a b ≡ Equal) ↔ (a ≡ b)

abbrev pub ValuesAreOrdered : Type 0
ValuesAreOrdered = IsTotalOrder value_cmp × TiesAreEqual value_cmp

abbrev pub NumbersAreOrdered : Type 0
NumbersAreOrdered = IsTotalOrder pvalue_cmp × TiesAreEqual pvalue_cmp
