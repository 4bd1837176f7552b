-- The ends as the code finds them, by neighbours in a type.
use Rattle.std.proofs.Common.{◌≡◌, ℤ, pos, ◌+ℤ◌, ◌-ℤ◌, int_lt, int_le, Bool, true, false, not, Option, Some, None, refl, sym, ap, ap₂, ◌∙◌, subst, arith, if◌then◌else◌}
use Rattle.std.proofs.lemmas.Bool.{not-true, not-false}
use Rattle.std.proofs.lemmas.Cmp.{nat_cmp_total}
use Rattle.std.proofs.lemmas.Int.{ints}
use Rattle.std.specs.Cmp.{int_ranks, tied_itself}
use Rattle.std.specs.Ordering.{int_cmp, is_gt, nat_cmp, ordering_then}
use Rattle.vortex_base.specs.Data.Orders.{pvalue_cmp}
use Rattle.vortex_base.specs.Data.Scalars.{Constant}
use Rattle.vortex_base.specs.Data.Types.{ptype_index}
use Rattle.vortex_base.specs.Data.Values.{greatest, in_range, is_value, least, number_of, ptype_of}
use Rattle.vortex_expr.specs.declared.scalar_fn.BetweenOptions.{BetweenOptions}
use Rattle.vortex_expr.specs.declared.scalar_fn.StrictComparison.{StrictComparison}
use Rattle.vortex_expr.specs.declared.scalar_fn.StrictComparison.TheVariants.{Strict, NonStrict}
use Rattle.vortex_base.specs.declared.pvalue.PValue.{PValue}
use Rattle.vortex_base.specs.declared.scalar_value.ScalarValue.TheVariants as value
use Rattle.vortex_rewrite.proofs.Soundness.MovedEnds.{AreNumbers, of_type}
use Rattle.vortex_rewrite.proofs.Soundness.NumberEnds.{SameType, at_greatest, at_least, at_most, high_end, high_in_range, high_least, low_end, low_greatest, low_in_range, low_number, resized_number, resized_self, resized_type}
use Rattle.vortex_rewrite.specs.Rewriting.BuiltIn.{lowered_end, ordered_ends, raised_end}
use Rattle.vortex_rewrite.specs.Rewriting.Falsifiers.{Ends, closed, high_size, low_size, number_ends, number_literal}

lt_next : (m n : ℤ) → int_lt m n ≡ int_le (m +ℤ pos 1) n
lt_next m n = elim (int_lt m n) as (λ v. int_lt m n ≡ v → v ≡ int_le (m +ℤ pos 1) n) [ true ↦ λ e. grind (arith, ints) | false ↦ λ e. grind (arith, ints) ] refl

lt_before : (m n : ℤ) → int_lt m n ≡ int_le m (n -ℤ pos 1)
lt_before m n = elim (int_lt m n) as (λ v. int_lt m n ≡ v → v ≡ int_le m (n -ℤ pos 1)) [ true ↦ λ e. grind (arith, ints) | false ↦ λ e. grind (arith, ints) ] refl

abbrev some_if : Bool → PValue → Option PValue
some_if b p = if b then Some p else None

raised_is : (s : StrictComparison) (p : PValue) → in_range p ≡ true → raised_end s p ≡ some_if (int_le (low_size s p) (greatest (ptype_of p))) (low_end s p)
raised_is Strict p h = ap (λ b. some_if b (low_end Strict p)) (lt_next (number_of p) (greatest (ptype_of p)))
raised_is NonStrict p h = ap Some (sym (resized_self p)) ∙ ap (λ b. some_if b (low_end NonStrict p)) (sym (at_greatest p h))

lowered_is : (s : StrictComparison) (p : PValue) → in_range p ≡ true → lowered_end s p ≡ some_if (int_le (least (ptype_of p)) (high_size s p)) (high_end s p)
lowered_is Strict p h = ap (λ b. some_if b (high_end Strict p)) (lt_before (least (ptype_of p)) (number_of p))
lowered_is NonStrict p h = ap Some (sym (resized_self p)) ∙ ap (λ b. some_if b (high_end NonStrict p)) (sym (at_least p h))

-- numbers of one type are compared by their sizes
sizes_compare : (p q : PValue) → SameType p q → not (is_gt (pvalue_cmp p q)) ≡ int_le (number_of p) (number_of q)
sizes_compare p q same =
    ap (λ o. not (is_gt (ordering_then o (int_cmp (number_of p) (number_of q))))) (ap (λ i. nat_cmp i (ptype_index (ptype_of q))) same ∙ tied_itself nat_cmp_total (ptype_index (ptype_of q)))
    ∙ at_most (number_of p) (number_of q) (int_cmp (number_of p) (number_of q)) (int_ranks (number_of p) (number_of q))

module _ (o : BetweenOptions) (c d : Constant) (p q : PValue) (k : AreNumbers c d p q) where
  abbrev low : PValue
  low = low_end o.lower_strict p

  abbrev high : PValue
  high = high_end o.upper_strict q

  types_kept : SameType low high
  types_kept = ap ptype_index (resized_type p (low_size o.lower_strict p)) ∙ k.same ∙ sym (ap ptype_index (resized_type q (high_size o.upper_strict q)))

  low_is : number_of low ≡ low_size o.lower_strict p
  low_is = low_number o.lower_strict o.upper_strict p q k.same k.p_in k.q_in

  compared : int_le (least (ptype_of q)) (high_size o.upper_strict q) ≡ true → not (is_gt (pvalue_cmp low high)) ≡ int_le (low_size o.lower_strict p) (high_size o.upper_strict q)
  compared h = sizes_compare low high types_kept ∙ ap₂ int_le low_is (resized_number q (high_size o.upper_strict q) h)

  -- what the code finds of two numbers, and what it is
  abbrev pub Coded : Option (PValue × PValue) → Type 0
  Coded None = None ≡ number_ends o c d p q
  Coded (Some e) = (is_value (value.Primitive e.0) c.dtype ≡ true) × (is_value (value.Primitive e.1) d.dtype ≡ true)
      × (Some (record { options = closed; lower = number_literal c e.0; upper = number_literal d e.1 }) ≡ number_ends o c d p q)

  abbrev number_ends_if : Bool → Option Ends
  number_ends_if t = if t then Some (record { options = closed; lower = number_literal c low; upper = number_literal d high }) else None

  ordered_is : (t : Bool) → int_le (low_size o.lower_strict p) (high_size o.upper_strict q) ≡ t → (a b : Bool) → int_le (low_size o.lower_strict p) (greatest (ptype_of p)) ≡ a → int_le (least (ptype_of q)) (high_size o.upper_strict q) ≡ b
      → Coded (ordered_ends (some_if a low) (some_if b high))
  ordered_is true h true true e f =
      let at_most : is_gt (pvalue_cmp low high) ≡ false = not-true _ (compared f ∙ h) in
      subst Coded (sym (ap (λ (t : Bool). if t then None else Some (low, high)) at_most)) (
        of_type p low c.dtype (resized_type p (low_size o.lower_strict p)) (low_in_range o.lower_strict o.upper_strict p q k.same k.p_in k.q_in h) k.p_fits,
        of_type q high d.dtype (resized_type q (high_size o.upper_strict q)) (high_in_range o.lower_strict o.upper_strict p q k.same k.p_in k.q_in h) k.q_fits,
        sym (ap number_ends_if h),
      )
  ordered_is true h false b e f = let g : true ≡ false = sym (low_greatest o.lower_strict o.upper_strict p q k.same k.p_in k.q_in h) ∙ e in cc
  ordered_is true h true false e f = let g : true ≡ false = sym (high_least o.lower_strict o.upper_strict p q k.same k.p_in k.q_in h) ∙ f in cc
  ordered_is false h true true e f =
      let above : is_gt (pvalue_cmp low high) ≡ true = not-false _ (compared f ∙ h) in
      subst Coded (sym (ap (λ (t : Bool). if t then None else Some (low, high)) above)) (sym (ap number_ends_if h))
  ordered_is false h true false e f = sym (ap number_ends_if h)
  ordered_is false h false b e f = sym (ap number_ends_if h)

  pub coded : (r : Option (PValue × PValue)) → r ≡ ordered_ends (raised_end o.lower_strict p) (lowered_end o.upper_strict q) → Coded r
  coded r e =
      subst Coded (sym (e ∙ ap₂ ordered_ends (raised_is o.lower_strict p k.p_in) (lowered_is o.upper_strict q k.q_in)))
      (ordered_is (int_le (low_size o.lower_strict p) (high_size o.upper_strict q)) refl (int_le (low_size o.lower_strict p) (greatest (ptype_of p))) (int_le (least (ptype_of q)) (high_size o.upper_strict q)) refl refl)

  pub coded_from : (r v : Option (PValue × PValue)) (s t : Option PValue) → r ≡ ordered_ends s t → s ≡ raised_end o.lower_strict p → t ≡ lowered_end o.upper_strict q → r ≡ v → Coded v
  coded_from r v s t e f g h = subst Coded h (coded r (e ∙ ap₂ ordered_ends f g))
