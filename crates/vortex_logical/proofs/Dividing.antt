-- A multiple of a number compares with another number as the whole number compares with their quotient.
use Rattle.std.proofs.Common.{◌≡◌, ℕ, zero, suc, ◌+◌, ◌-◌, ◌*◌, ◌/◌, ◌%◌, ◌<◌, Bool, true, false, refl, sym, ◌∙◌, ap, arith}
use Rattle.std.specs.Prelude.{ℤ, pos, negsuc, ◌+ℤ◌, ◌*ℤ◌, ◌<ℤ◌, ◌≤ℤ◌, int_le, if◌then◌else◌}
use Rattle.std.specs.Int.{int_div_euclid}
use Rattle.std.specs.Ordering.{int_cmp, int_eq, is_eq}
use Rattle.std.specs.declared.cmp.Ordering.TheVariants.{Less, Greater}
use Rattle.std.proofs.lemmas.Int.{ints}
use Rattle.std.proofs.Math.Nat.{div-add-mod', mod-lt}
use Rattle.vortex_logical.specs.declared.point.Point.{Point}
use Rattle.vortex_logical.specs.declared.point.Point.TheVariants.{Whole, Between}
use Rattle.vortex_logical.specs.Points.{point_of, point_cmp}
use Rattle.vortex_logical.proofs.Orders.{is_less, is_greater, is_equal, cases_int, le_true, le_false}
use Rattle.vortex_logical.proofs.Products.{product_le, product_lt}

-- q is the quotient of b by a, and r what is left
pub record Parts (b : ℤ) (a : ℕ) (q : ℤ) (r : ℕ) : Type 0 where
  pub whole : b ≡ (q *ℤ pos a) +ℤ pos r
  pub below : r < a

-- what is left of -(n + 1)
abbrev rest_below : ℕ → ℕ → ℕ
rest_below n a = a - 1 - n % a

parts_pos : (n a : ℕ) → 0 < a → Parts (pos n) a (pos (n / a)) (n % a)
parts_pos n a h = record { whole = omega (arith, ints, div-add-mod' n a); below = mod-lt n h }

parts_neg : (n a : ℕ) → 0 < a → Parts (negsuc n) a (negsuc (n / a)) (rest_below n a)
parts_neg n a h =
    let m : n % a < a = mod-lt n h in
    let e : n / a * a + n % a ≡ n = div-add-mod' n a in
    record { whole = omega (arith, ints); below = omega arith }

next_product : (q : ℤ) (a : ℕ) → (q +ℤ pos 1) *ℤ pos a ≡ (q *ℤ pos a) +ℤ pos a
next_product (pos n) a = omega (arith, ints)
next_product (negsuc zero) a = omega (arith, ints)
next_product (negsuc (suc n)) a =
    let e : negsuc (suc n) +ℤ pos 1 ≡ negsuc n = omega (arith, ints) in
    let f : negsuc n *ℤ pos a ≡ (negsuc (suc n) *ℤ pos a) +ℤ pos a = omega (arith, ints) in
    ap (λ (x : ℤ). x *ℤ pos a) e ∙ f

pub scaled_cmp : (n q : ℤ) (a : ℕ) → 0 < a → int_cmp (n *ℤ pos a) (q *ℤ pos a) ≡ int_cmp n q
scaled_cmp n q a h =
    cases_int n q
    (λ l. is_less _ _ (product_lt n q a h l) ∙ sym (is_less n q l))
    (λ e. is_equal _ _ (ap (λ (x : ℤ). x *ℤ pos a) e) ∙ sym (is_equal n q e))
    (λ g. is_greater _ _ (product_lt q n a h g) ∙ sym (is_greater n q g))

-- a number between two multiples
between_by : (n q b : ℤ) (a r : ℕ) → 0 < a → Parts b a q r → 0 < r → (t : Bool) → int_le n q ≡ t → int_cmp (n *ℤ pos a) b ≡ (if t then Less else Greater)
between_by n q b a r h p k true e =
    let le : (n *ℤ pos a) ≤ℤ (q *ℤ pos a) = product_le n q a (le_true n q e) in
    let w = p.whole in
    is_less (n *ℤ pos a) b (omega (arith, ints))
between_by n q b a r h p k false e =
    let lt : q <ℤ n = le_false n q e in
    let next : (q +ℤ pos 1) ≤ℤ n = omega (arith, ints) in
    let le : ((q +ℤ pos 1) *ℤ pos a) ≤ℤ (n *ℤ pos a) = product_le (q +ℤ pos 1) n a next in
    let same = next_product q a in
    let w = p.whole in
    let s = p.below in
    is_greater (n *ℤ pos a) b (omega (arith, ints))

-- the point of a number with these parts
abbrev point_by : ℕ → ℤ → Point
point_by r q = if int_eq (pos r) (pos 0) then Whole q else Between q

by_rest : (n q b : ℤ) (a r : ℕ) → 0 < a → Parts b a q r → int_cmp (n *ℤ pos a) b ≡ point_cmp n (point_by r q)
by_rest n q b a zero h p =
    let w = p.whole in
    let e : b ≡ q *ℤ pos a = omega (arith, ints) in
    ap (int_cmp (n *ℤ pos a)) e ∙ scaled_cmp n q a h
by_rest n q b a (suc r) h p =
    let e : int_eq (pos (suc r)) (pos 0) ≡ false = ap is_eq (is_greater (pos (suc r)) (pos 0) (omega (arith, ints))) in
    between_by n q b a (suc r) h p (omega arith) (int_le n q) refl ∙ sym (ap (λ (t : Bool). point_cmp n (if t then Whole q else Between q)) e)

pub divided_cmp : (n b : ℤ) (a : ℕ) → 0 < a → int_cmp (n *ℤ pos a) b ≡ point_cmp n (point_of b (pos a))
divided_cmp n (pos m) a h = by_rest n _ _ a _ h (parts_pos m a h)
divided_cmp n (negsuc m) a h = by_rest n _ _ a _ h (parts_neg m a h)

-- ---- quotients keep the order

pub parts_of : (b : ℤ) (a : ℕ) → 0 < a → (r : ℕ) × Parts b a (int_div_euclid b (pos a)) r
parts_of (pos m) a h = (m % a, parts_pos m a h)
parts_of (negsuc m) a h = (rest_below m a, parts_neg m a h)

next_above : (b q : ℤ) (a r : ℕ) → Parts b a q r → b <ℤ ((q +ℤ pos 1) *ℤ pos a)
next_above b q a r p =
    let w = p.whole in
    let s = p.below in
    let same = next_product q a in
    omega (arith, ints)

below_own : (b q : ℤ) (a r : ℕ) → Parts b a q r → (q *ℤ pos a) ≤ℤ b
below_own b q a r p = let w = p.whole in omega (arith, ints)

pub cut_above : (v b : ℤ) (a : ℕ) → 0 < a → v ≤ℤ b → v <ℤ ((int_div_euclid b (pos a) +ℤ pos 1) *ℤ pos a)
cut_above v b a h l =
    let n = next_above b (int_div_euclid b (pos a)) a (parts_of b a h).0 (parts_of b a h).1 in
    omega (arith, ints)

ordered_by : (v b p q : ℤ) (a r s : ℕ) → Parts v a p r → Parts b a q s → v ≤ℤ b → p ≤ℤ q
ordered_by v b p q a r s f g l =
    cases_int q p
    (λ less.
    let next : (q +ℤ pos 1) ≤ℤ p = omega (arith, ints) in
    let m = product_le (q +ℤ pos 1) p a next in
    let n = next_above b q a s g in
    let o = below_own v p a r f in
    absurd (omega (arith, ints)))
    (λ same. omega (arith, ints))
    (λ more. omega (arith, ints))

pub cut_ordered : (v b : ℤ) (a : ℕ) → 0 < a → v ≤ℤ b → int_div_euclid v (pos a) ≤ℤ int_div_euclid b (pos a)
cut_ordered v b a h l = ordered_by v b _ _ a (parts_of v a h).0 (parts_of b a h).0 (parts_of v a h).1 (parts_of b a h).1 l
