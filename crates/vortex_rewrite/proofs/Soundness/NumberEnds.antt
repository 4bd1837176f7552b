-- The ends of a range of numbers, moved to their neighbours, in the order of values.
use Rattle.std.proofs.Common.{◌≡◌, ℤ, pos, ◌+ℤ◌, ◌-ℤ◌, ◌<ℤ◌, int_le, unsigned_abs, Bool, true, false, not, ◌&&◌, refl, sym, ap, ap₂, ◌∙◌, arith}
use Rattle.std.proofs.lemmas.Bool.{and_parts}
use Rattle.std.proofs.lemmas.Cmp.{nat_cmp_total}
use Rattle.std.proofs.lemmas.Int.{ints}
use Rattle.std.specs.Cmp.{int_ranks, tied_itself}
use Rattle.std.specs.Ordering.{MatchOrdering, int_cmp, is_gt, is_lt, nat_cmp, ordering_then}
use Rattle.std.specs.declared.cmp.Ordering.{Ordering}
use Rattle.std.specs.declared.cmp.Ordering.TheVariants.{Less, Equal, Greater}
use Rattle.vortex_expr.specs.Trees.Between.{to_operator}
use Rattle.vortex_expr.specs.Meanings.Meaning.{holds}
use Rattle.vortex_base.specs.Data.Neighbours.{resized}
use Rattle.vortex_base.specs.Data.Types.{ptype_index}
use Rattle.vortex_base.specs.Data.Values.{greatest, in_range, least, number_of, ptype_of, value_cmp}
use Rattle.vortex_expr.specs.declared.scalar_fn.StrictComparison.{StrictComparison}
use Rattle.vortex_expr.specs.declared.scalar_fn.StrictComparison.TheVariants.{Strict, NonStrict}
use Rattle.vortex_expr.specs.declared.scalar_fn.Operator.TheVariants.{Lt, Lte}
use Rattle.vortex_base.specs.declared.types.PType.{PType}
use Rattle.vortex_base.specs.declared.types.PType.TheVariants as ptype
use Rattle.vortex_base.specs.declared.pvalue.PValue.{PValue}
use Rattle.vortex_base.specs.declared.pvalue.PValue.TheVariants as number
use Rattle.vortex_base.specs.declared.scalar_value.ScalarValue.{ScalarValue}
use Rattle.vortex_base.specs.declared.scalar_value.ScalarValue.TheVariants as value
use Rattle.vortex_rewrite.proofs.Soundness.TruthLogic.{clash, refuted}
use Rattle.vortex_rewrite.proofs.Soundness.ValueTests.{value_le, le_trans, lt_le, holds_by_le}
use Rattle.vortex_rewrite.specs.Rewriting.Falsifiers.{high_size, low_size}

abbrev pub SameType : PValue → PValue → Type 0
SameType p q = ptype_index (ptype_of p) ≡ ptype_index (ptype_of q)

types_same : (s t : PType) → ptype_index s ≡ ptype_index t → s ≡ t
types_same ptype.U8 ptype.U8 h = refl
types_same ptype.U16 ptype.U16 h = refl
types_same ptype.U32 ptype.U32 h = refl
types_same ptype.U64 ptype.U64 h = refl
types_same ptype.I8 ptype.I8 h = refl
types_same ptype.I16 ptype.I16 h = refl
types_same ptype.I32 ptype.I32 h = refl
types_same ptype.I64 ptype.I64 h = refl
types_same s t h = absurd (omega arith)

-- ---- numbers of another size

pub resized_type : (p : PValue) (z : ℤ) → ptype_of (resized p z) ≡ ptype_of p
resized_type (number.U8 n) z = refl
resized_type (number.U16 n) z = refl
resized_type (number.U32 n) z = refl
resized_type (number.U64 n) z = refl
resized_type (number.I8 n) z = refl
resized_type (number.I16 n) z = refl
resized_type (number.I32 n) z = refl
resized_type (number.I64 n) z = refl

pub resized_self : (p : PValue) → resized p (number_of p) ≡ p
resized_self (number.U8 n) = refl
resized_self (number.U16 n) = refl
resized_self (number.U32 n) = refl
resized_self (number.U64 n) = refl
resized_self (number.I8 n) = refl
resized_self (number.I16 n) = refl
resized_self (number.I32 n) = refl
resized_self (number.I64 n) = refl

natural : (z : ℤ) → int_le (pos 0) z ≡ true → pos (unsigned_abs z) ≡ z
natural (pos n) h = refl
natural (ℤ.negsuc n) h = cc

pub resized_number : (p : PValue) (z : ℤ) → int_le (least (ptype_of p)) z ≡ true → number_of (resized p z) ≡ z
resized_number (number.U8 n) z h = natural z h
resized_number (number.U16 n) z h = natural z h
resized_number (number.U32 n) z h = natural z h
resized_number (number.U64 n) z h = natural z h
resized_number (number.I8 n) z h = refl
resized_number (number.I16 n) z h = refl
resized_number (number.I32 n) z h = refl
resized_number (number.I64 n) z h = refl

-- ---- their order

pub then_equal : (o : Ordering) → ordering_then o Equal ≡ o
then_equal Less = refl
then_equal Equal = refl
then_equal Greater = refl

-- one size is compared by `<` as the next one is by `≤`
ranked : (m n k : ℤ) → n ≡ m +ℤ pos 1 → (a b : Ordering) → MatchOrdering a (m <ℤ k) (m ≡ k) (k <ℤ m) → MatchOrdering b (n <ℤ k) (n ≡ k) (k <ℤ n) → is_lt a ≡ not (is_gt b)
ranked m n k e Less Less h g = refl
ranked m n k e Less Equal h g = refl
ranked m n k e Less Greater h g = absurd (omega (arith, ints))
ranked m n k e Equal Less h g = absurd (omega (arith, ints))
ranked m n k e Equal Equal h g = absurd (omega (arith, ints))
ranked m n k e Equal Greater h g = refl
ranked m n k e Greater Less h g = absurd (omega (arith, ints))
ranked m n k e Greater Equal h g = absurd (omega (arith, ints))
ranked m n k e Greater Greater h g = refl

by_type_first : (o a b : Ordering) → is_lt a ≡ not (is_gt b) → is_lt (ordering_then o (ordering_then a Equal)) ≡ not (is_gt (ordering_then o (ordering_then b Equal)))
by_type_first Less a b h = refl
by_type_first Equal a b h = ap is_lt (then_equal a) ∙ h ∙ sym (ap (λ o. not (is_gt o)) (then_equal b))
by_type_first Greater a b h = refl

-- a value is above a number exactly if it is at least the next one
raised : (p q : PValue) → SameType q p → number_of q ≡ number_of p +ℤ pos 1 → (v : ScalarValue) → holds Lt (value_cmp (value.Primitive p) v) ≡ holds Lte (value_cmp (value.Primitive q) v)
raised p q same e (value.Bool b) = refl
raised p q same e (value.Utf8 bs) = refl
raised p q same e (value.Binary bs) = refl
raised p q same e (value.Primitive r) =
    let o = nat_cmp (ptype_index (ptype_of p)) (ptype_index (ptype_of r)) in
    let a = int_cmp (number_of p) (number_of r) in
    let b = int_cmp (number_of q) (number_of r) in
    by_type_first o a b (ranked (number_of p) (number_of q) (number_of r) e a b (int_ranks (number_of p) (number_of r)) (int_ranks (number_of q) (number_of r)))
    ∙ ap (λ i. not (is_gt (ordering_then (nat_cmp i (ptype_index (ptype_of r))) (ordering_then b Equal)))) (sym same)

flipped : (a b : Bool) → not a ≡ b → not b ≡ a
flipped true b h = ap not (sym h)
flipped false b h = ap not (sym h)

-- and below a number exactly if it is at most the one before
lowered : (p q : PValue) → SameType q p → number_of p ≡ number_of q +ℤ pos 1 → (v : ScalarValue) → holds Lt (value_cmp v (value.Primitive p)) ≡ holds Lte (value_cmp v (value.Primitive q))
lowered p q same e v =
    holds_by_le Lt v (value.Primitive p)
    ∙ flipped (value_le v (value.Primitive q)) (value_le (value.Primitive p) v) (sym (holds_by_le Lt (value.Primitive q) v) ∙ raised q p (sym same) e v)

pub at_most : (m n : ℤ) (o : Ordering) → MatchOrdering o (m <ℤ n) (m ≡ n) (n <ℤ m) → not (is_gt o) ≡ int_le m n
at_most m n Less h = grind (arith, ints)
at_most m n Equal h = grind (arith, ints)
at_most m n Greater h = grind (arith, ints)

-- numbers of one type stand by their sizes
pub number_le : (p q : PValue) → SameType p q → value_le (value.Primitive p) (value.Primitive q) ≡ int_le (number_of p) (number_of q)
number_le p q same =
    ap (λ o. not (is_gt (ordering_then o (ordering_then (int_cmp (number_of p) (number_of q)) Equal)))) (ap (λ i. nat_cmp i (ptype_index (ptype_of q))) same ∙ tied_itself nat_cmp_total (ptype_index (ptype_of q)))
    ∙ ap (λ o. not (is_gt o)) (then_equal (int_cmp (number_of p) (number_of q)))
    ∙ at_most (number_of p) (number_of q) (int_cmp (number_of p) (number_of q)) (int_ranks (number_of p) (number_of q))

-- ---- the ends

-- what in_range tells
pub at_least : (p : PValue) → in_range p ≡ true → int_le (least (ptype_of p)) (number_of p) ≡ true
at_least p h = (and_parts (int_le (least (ptype_of p)) (number_of p)) (int_le (number_of p) (greatest (ptype_of p))) h).0

pub at_greatest : (p : PValue) → in_range p ≡ true → int_le (number_of p) (greatest (ptype_of p)) ≡ true
at_greatest p h = (and_parts (int_le (least (ptype_of p)) (number_of p)) (int_le (number_of p) (greatest (ptype_of p))) h).1

le_chain : (a b c : ℤ) → int_le a b ≡ true → int_le b c ≡ true → int_le a c ≡ true
le_chain a b c h k = grind (arith, ints)

le_up : (a b : ℤ) → int_le a b ≡ true → int_le a (b +ℤ pos 1) ≡ true
le_up a b h = grind (arith, ints)

le_down : (a b : ℤ) → int_le a b ≡ true → int_le (a -ℤ pos 1) b ≡ true
le_down a b h = grind (arith, ints)

pub low_within : (s : StrictComparison) (p : PValue) → in_range p ≡ true → int_le (least (ptype_of p)) (low_size s p) ≡ true
low_within Strict p h = le_up (least (ptype_of p)) (number_of p) (at_least p h)
low_within NonStrict p h = at_least p h

pub high_within : (s : StrictComparison) (p : PValue) → in_range p ≡ true → int_le (high_size s p) (greatest (ptype_of p)) ≡ true
high_within Strict p h = le_down (number_of p) (greatest (ptype_of p)) (at_greatest p h)
high_within NonStrict p h = at_greatest p h

abbrev pub low_end : StrictComparison → PValue → PValue
low_end s p = resized p (low_size s p)

abbrev pub high_end : StrictComparison → PValue → PValue
high_end s p = resized p (high_size s p)

back_up : (m : ℤ) → m ≡ (m -ℤ pos 1) +ℤ pos 1
back_up m = omega (arith, ints)

-- a comparison with the lower end is one with its neighbour
pub low_moved : (s : StrictComparison) (p : PValue) → in_range p ≡ true → (v : ScalarValue)
    → holds (to_operator s) (value_cmp (value.Primitive p) v) ≡ holds Lte (value_cmp (value.Primitive (low_end s p)) v)
low_moved Strict p h v = raised p (low_end Strict p) (ap ptype_index (resized_type p (low_size Strict p))) (resized_number p (low_size Strict p) (low_within Strict p h)) v
low_moved NonStrict p h v = ap (λ q. holds Lte (value_cmp (value.Primitive q) v)) (sym (resized_self p))

pub high_moved : (s : StrictComparison) (p : PValue) → int_le (least (ptype_of p)) (high_size s p) ≡ true → (v : ScalarValue)
    → holds (to_operator s) (value_cmp v (value.Primitive p)) ≡ holds Lte (value_cmp v (value.Primitive (high_end s p)))
high_moved Strict p h v =
    lowered p (high_end Strict p) (ap ptype_index (resized_type p (high_size Strict p))) (back_up (number_of p) ∙ ap (λ z. z +ℤ pos 1) (sym (resized_number p (high_size Strict p) h))) v
high_moved NonStrict p h v = ap (λ q. holds Lte (value_cmp v (value.Primitive q))) (sym (resized_self p))

-- ---- both ends, of one type

module _ (s t : StrictComparison) (p q : PValue) (same : SameType p q) (p_in : in_range p ≡ true) (q_in : in_range q ≡ true) where
  least_same : least (ptype_of p) ≡ least (ptype_of q)
  least_same = ap least (types_same (ptype_of p) (ptype_of q) same)

  greatest_same : greatest (ptype_of p) ≡ greatest (ptype_of q)
  greatest_same = ap greatest (types_same (ptype_of p) (ptype_of q) same)

  pub low_number : number_of (low_end s p) ≡ low_size s p
  low_number = resized_number p (low_size s p) (low_within s p p_in)

  pub low_type : SameType (low_end s p) q
  low_type = ap ptype_index (resized_type p (low_size s p)) ∙ same

  module _ (order : int_le (low_size s p) (high_size t q) ≡ true) where
    pub high_least : int_le (least (ptype_of q)) (high_size t q) ≡ true
    high_least = le_chain (least (ptype_of q)) (low_size s p) (high_size t q) (ap (λ z. int_le z (low_size s p)) (sym least_same) ∙ low_within s p p_in) order

    pub low_greatest : int_le (low_size s p) (greatest (ptype_of p)) ≡ true
    low_greatest = le_chain (low_size s p) (high_size t q) (greatest (ptype_of p)) order (ap (int_le (high_size t q)) greatest_same ∙ high_within t q q_in)

    pub high_number : number_of (high_end t q) ≡ high_size t q
    high_number = resized_number q (high_size t q) high_least

    -- moved ends are in the type's range
    pub low_in_range : in_range (low_end s p) ≡ true
    low_in_range = rw (resized_type p (low_size s p), low_number) (ap₂ ◌&&◌ (low_within s p p_in) low_greatest)

    pub high_in_range : in_range (high_end t q) ≡ true
    high_in_range = rw (resized_type q (high_size t q), high_number) (ap₂ ◌&&◌ high_least (high_within t q q_in))

    pub ends_ordered : value_le (value.Primitive (low_end s p)) (value.Primitive (high_end t q)) ≡ true
    ends_ordered =
        number_le (low_end s p) (high_end t q) (low_type ∙ sym (ap ptype_index (resized_type q (high_size t q))))
        ∙ ap₂ int_le low_number high_number ∙ order

    -- a value lies between the ends exactly if it does between the moved ones
    pub ends_moved : (v : ScalarValue) → (holds (to_operator s) (value_cmp (value.Primitive p) v) && holds (to_operator t) (value_cmp v (value.Primitive q)))
        ≡ (holds Lte (value_cmp (value.Primitive (low_end s p)) v) && holds Lte (value_cmp v (value.Primitive (high_end t q))))
    ends_moved v = ap₂ ◌&&◌ (low_moved s p p_in v) (high_moved t q high_least v)

  -- between ends that crossed, no value lies
  crossed : (t : StrictComparison) → int_le (low_size s p) (high_size t q) ≡ false → (v : ScalarValue)
      → value_le (value.Primitive (low_end s p)) v ≡ true → holds (to_operator t) (value_cmp v (value.Primitive q)) ≡ true → ⊥
  crossed NonStrict h v l u = clash (sym (ap (λ z. int_le z (number_of q)) low_number) ∙ sym (number_le (low_end s p) q low_type) ∙ le_trans (value.Primitive (low_end s p)) v (value.Primitive q) l u) h
  crossed Strict h v l u =
      let above : value_le (value.Primitive q) (value.Primitive (low_end s p)) ≡ true =
      number_le q (low_end s p) (sym low_type) ∙ ap (int_le (number_of q)) low_number ∙ turned (low_size s p) (number_of q) h in
      clash (le_trans (value.Primitive q) (value.Primitive (low_end s p)) v above l) (lt_le v (value.Primitive q) u)
    where
      turned : (m n : ℤ) → int_le m (n -ℤ pos 1) ≡ false → int_le n m ≡ true
      turned m n h = grind (arith, ints)

  pub none_between : int_le (low_size s p) (high_size t q) ≡ false → (v : ScalarValue)
      → (holds (to_operator s) (value_cmp (value.Primitive p) v) && holds (to_operator t) (value_cmp v (value.Primitive q))) ≡ false
  none_between h v = refuted _ (λ e.
      let k = and_parts (holds (to_operator s) (value_cmp (value.Primitive p) v)) (holds (to_operator t) (value_cmp v (value.Primitive q))) e in
      crossed t h v (sym (low_moved s p p_in v) ∙ k.0) k.1)
