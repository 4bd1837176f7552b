-- The greater and the lesser of two values under a total order, and what follows of them.
use Rattle.std.specs.Prelude.{◌≡◌, false, ◌⊎◌, if◌then◌else◌, refl}
use Rattle.std.proofs.Common.{inl, inr, sym, ◌∙◌, ap}
use mathlib.Core.Bool.{true≢false}
use Rattle.std.specs.declared.cmp.Ordering.{Ordering}
use Rattle.std.specs.declared.cmp.Ordering.TheVariants.{Less, Equal, Greater}
use Rattle.std.specs.Ordering.{is_lt, is_gt, ordering_reverse, flip_args}
use Rattle.std.specs.Cmp.{IsTotalOrder, upto, tied_itself, tied_back, alike_right}

module _ {T : Type 0} (R : T → T → Ordering) where
  -- the greater, and the first where the two compare equal
  abbrev pub greater : T → T → T
  greater a b = if is_lt (R a b) then b else a

  -- the lesser, and the first where the two compare equal
  abbrev pub lesser : T → T → T
  lesser a b = if is_lt (R b a) then b else a

  -- a is at most b
  abbrev pub AtMost : T → T → Type 0
  AtMost a b = is_gt (R a b) ≡ false

-- the reversed order is total too
pub reversed_total : {T : Type 0} {R : T → T → Ordering} → IsTotalOrder R → IsTotalOrder (flip_args R)
reversed_total o = record {
  antisymm = λ x y. o.antisymm y x;
  trans = λ x y z p q. o.trans z y x q p;
  congr = λ x y z e. alike_right o x y z (tied_back o y x e);
}

-- the greater, by the answer of the comparison
abbrev greater_by : {T : Type 0} → Ordering → T → T → T
greater_by c a b = if is_lt c then b else a

module _ {T : Type 0} {R : T → T → Ordering} (o : IsTotalOrder R) where
  pub AtMost-refl : (a : T) → AtMost R a a
  AtMost-refl a = ap is_gt (tied_itself o a)

  pub AtMost-trans : (a b c : T) → AtMost R a b → AtMost R b c → AtMost R a c
  AtMost-trans = upto o

  pub AtMost-of_equal : (a b : T) → R a b ≡ Equal → AtMost R a b
  AtMost-of_equal a b e = ap is_gt e

  pub AtMost-of_less : (a b : T) → R a b ≡ Less → AtMost R a b
  AtMost-of_less a b e = ap is_gt e

  pub AtMost-of_greater : (a b : T) → R a b ≡ Greater → AtMost R b a
  AtMost-of_greater a b e = ap is_gt (o.antisymm b a ∙ ap ordering_reverse e)

  greater_by-above : (a b : T) (c : Ordering) → R a b ≡ c → AtMost R a (greater_by c a b) × AtMost R b (greater_by c a b)
  greater_by-above a b Less e = (AtMost-of_less a b e, AtMost-refl b)
  greater_by-above a b Equal e = (AtMost-refl a, AtMost-of_equal b a (tied_back o a b e))
  greater_by-above a b Greater e = (AtMost-refl a, AtMost-of_greater a b e)

  -- both are at most the greater
  pub greater-above : (a b : T) → AtMost R a (greater R a b) × AtMost R b (greater R a b)
  greater-above a b = greater_by-above a b (R a b) refl

  greater_by-least : (a b c : T) (d : Ordering) → AtMost R a c → AtMost R b c → AtMost R (greater_by d a b) c
  greater_by-least a b c Less p q = q
  greater_by-least a b c Equal p q = p
  greater_by-least a b c Greater p q = p

  -- what both are at most, the greater is at most
  pub greater-least : (a b c : T) → AtMost R a c → AtMost R b c → AtMost R (greater R a b) c
  greater-least a b c = greater_by-least a b c (R a b)

  -- the greater rises with both
  pub greater-rises : (a b x y : T) → AtMost R x a → AtMost R y b → AtMost R (greater R x y) (greater R a b)
  greater-rises a b x y p q =
      greater-least x y (greater R a b)
      (AtMost-trans x a (greater R a b) p (greater-above a b).0)
      (AtMost-trans y b (greater R a b) q (greater-above a b).1)

  less_not : (a b : T) → R a b ≡ Less → AtMost R b a → ⊥
  less_not a b e q = true≢false (sym (ap is_gt (o.antisymm b a ∙ ap ordering_reverse e)) ∙ q)

  pub greater_not : (a b : T) → R a b ≡ Greater → AtMost R a b → ⊥
  greater_not a b e q = true≢false (sym (ap is_gt e) ∙ q)

  pub less_not_equal : (a b : T) → R a b ≡ Less → R a b ≡ Equal → ⊥
  less_not_equal a b e q = true≢false (sym (ap is_lt e) ∙ ap is_lt q)

  pub greater_not_equal : (a b : T) → R a b ≡ Greater → R a b ≡ Equal → ⊥
  greater_not_equal a b e q = true≢false (sym (ap is_gt e) ∙ ap is_gt q)

  equal_by : (a b : T) (c : Ordering) → R a b ≡ c → is_gt c ≡ false → AtMost R b a → R a b ≡ Equal
  equal_by a b Less e p q = absurd (less_not a b e q)
  equal_by a b Equal e p q = e
  equal_by a b Greater e p q = absurd (true≢false p)

  -- two that are at most each other compare equal
  pub equal-of_both : (a b : T) → AtMost R a b → AtMost R b a → R a b ≡ Equal
  equal-of_both a b p q = equal_by a b (R a b) refl p q

  pub AtMost-equal_left : (a b c : T) → R b a ≡ Equal → AtMost R b c → AtMost R a c
  AtMost-equal_left a b c e p = AtMost-trans a b c (AtMost-of_equal a b (tied_back o b a e)) p

-- the lesser is the greater of the reversed order
module _ {T : Type 0} {R : T → T → Ordering} (o : IsTotalOrder R) where
  pub lesser-below : (a b : T) → AtMost R (lesser R a b) a × AtMost R (lesser R a b) b
  lesser-below a b = greater-above (reversed_total o) a b

  pub lesser-greatest : (a b c : T) → AtMost R c a → AtMost R c b → AtMost R c (lesser R a b)
  lesser-greatest a b c = greater-least (reversed_total o) a b c

  pub lesser-rises : (a b x y : T) → AtMost R x a → AtMost R y b → AtMost R (lesser R x y) (lesser R a b)
  lesser-rises a b x y p q = greater-rises (reversed_total o) x y a b p q

-- each is one of the two
module _ {T X : Type 0} (f : T → X) where
  greater_by-one_of : (a b : T) (c : Ordering) → (f (greater_by c a b) ≡ f a) ⊎ (f (greater_by c a b) ≡ f b)
  greater_by-one_of a b Less = inr refl
  greater_by-one_of a b Equal = inl refl
  greater_by-one_of a b Greater = inl refl

  pub greater-one_of : (R : T → T → Ordering) (a b : T) → (f (greater R a b) ≡ f a) ⊎ (f (greater R a b) ≡ f b)
  greater-one_of R a b = greater_by-one_of a b (R a b)

  pub lesser-one_of : (R : T → T → Ordering) (a b : T) → (f (lesser R a b) ≡ f a) ⊎ (f (lesser R a b) ≡ f b)
  lesser-one_of R a b = greater_by-one_of a b (R b a)
