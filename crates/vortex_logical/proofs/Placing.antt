-- Where a number lies among the cells of a column, by powers of ten.
use Rattle.std.proofs.Common.{◌≡◌, ℕ, suc, ◌+◌, ◌-◌, ◌*◌, ◌^◌, ◌<◌, ◌≤◌, Bool, sym, ◌∙◌, ap, arith, FitsSigned}
use Rattle.std.specs.Prelude.{ℤ, pos, negsuc, ◌*ℤ◌, ◌<ℤ◌, ◌≤ℤ◌, if◌then◌else◌}
use Rattle.std.specs.Int.{w128}
use Rattle.std.specs.Ordering.{int_cmp}
use Rattle.std.specs.declared.cmp.Ordering.TheVariants.{Less, Greater}
use Rattle.std.proofs.lemmas.Int.{ints}
use Rattle.std.proofs.lemmas.Nat.{pow-add, mul-le}
use Rattle.std.proofs.Math.Nat.{pow-le-pow_right, mul_assoc, mul_comm, le-mul_of_pos_right, one-le-pow, mul-pos}
use Rattle.vortex_logical.specs.declared.point.Point.TheVariants.{Between}
use Rattle.vortex_logical.specs.Points.{point_of, point_cmp, IsShort}
use Rattle.vortex_logical.proofs.Orders.{is_less, is_greater, le_is_true, le_is_false}
use Rattle.vortex_logical.proofs.Products.{product_le, product_lt, product_twice}
use Rattle.vortex_logical.proofs.Dividing.{scaled_cmp, divided_cmp}

pub power-le : (k m : ℕ) → k ≤ m → 10 ^ k ≤ 10 ^ m
power-le k m h = pow-le-pow_right {n = 10} (omega arith) h

pub power_pos : (k : ℕ) → 0 < 10 ^ k
power_pos k = let h = one-le-pow k 10 (omega arith) in omega arith

pub power-short : (k : ℕ) → k ≤ 38 → 10 ^ k < 2 ^ 127
power-short k h = let p = power-le k 38 h in omega arith

pub multiple-short : (k e : ℕ) → k ≤ 33 → e ≤ 86_400 → 10 ^ k * e < 2 ^ 127
multiple-short k e h f = let p = mul-le (10 ^ k) e (10 ^ 33) 86_400 (power-le k 33 h) f in omega arith

power_back : (k s : ℕ) → s ≤ k → 10 ^ (k - s) * 10 ^ s ≡ 10 ^ k
power_back k s h = let e : k - s + s ≡ k = omega arith in sym (pow-add 10 (k - s) s) ∙ ap (λ (x : ℕ). 10 ^ x) e

regrouped : (a b c : ℕ) → a * (b * c) ≡ b * a * c
regrouped a b c = sym (mul_assoc a b c) ∙ ap (λ (x : ℕ). x * c) (mul_comm a b)

-- a number of no fewer digits than the column's
pub finer : (n top : ℤ) (each k s : ℕ) → s ≤ k → 0 < each → int_cmp ((n *ℤ pos each) *ℤ pos (10 ^ k)) (top *ℤ pos (10 ^ s)) ≡ point_cmp n (point_of top (pos (10 ^ (k - s) * each)))
finer n top each k s h e =
    let a = 10 ^ (k - s) * each in
    let same : each * 10 ^ k ≡ a * 10 ^ s = ap (λ (x : ℕ). each * x) (sym (power_back k s h)) ∙ regrouped each (10 ^ (k - s)) (10 ^ s) in
    let left : (n *ℤ pos each) *ℤ pos (10 ^ k) ≡ (n *ℤ pos a) *ℤ pos (10 ^ s) =
    product_twice n each (10 ^ k) ∙ ap (λ (x : ℕ). n *ℤ pos x) same ∙ sym (product_twice n a (10 ^ s)) in
    ap (λ (x : ℤ). int_cmp x (top *ℤ pos (10 ^ s))) left
    ∙ scaled_cmp (n *ℤ pos a) top (10 ^ s) (power_pos s)
    ∙ divided_cmp n top a (mul-pos (power_pos (k - s)) e)

scaled_up : (top : ℤ) (k s : ℕ) → k ≤ s → top *ℤ pos (10 ^ s) ≡ (top *ℤ pos (10 ^ (s - k))) *ℤ pos (10 ^ k)
scaled_up top k s h = ap (λ (x : ℕ). top *ℤ pos x) (sym (power_back s k h)) ∙ sym (product_twice top (10 ^ (s - k)) (10 ^ k))

-- the number in the column's digits
up_to : (n top : ℤ) (each k s : ℕ) → k ≤ s → int_cmp ((n *ℤ pos each) *ℤ pos (10 ^ k)) (top *ℤ pos (10 ^ s)) ≡ int_cmp (n *ℤ pos each) (top *ℤ pos (10 ^ (s - k)))
up_to n top each k s h =
    ap (int_cmp ((n *ℤ pos each) *ℤ pos (10 ^ k))) (scaled_up top k s h) ∙ scaled_cmp (n *ℤ pos each) (top *ℤ pos (10 ^ (s - k))) (10 ^ k) (power_pos k)

pub coarser : (n top : ℤ) (each k s : ℕ) → k ≤ s → 0 < each → int_cmp ((n *ℤ pos each) *ℤ pos (10 ^ k)) (top *ℤ pos (10 ^ s)) ≡ point_cmp n (point_of (top *ℤ pos (10 ^ (s - k))) (pos each))
coarser n top each k s h e = up_to n top each k s h ∙ divided_cmp n (top *ℤ pos (10 ^ (s - k))) each e

-- ---- numbers past 128 bits

unfit_low : (z : ℤ) → z <ℤ pos 0 → ¬ FitsSigned w128 z → z <ℤ negsuc (2 ^ 127 - 1)
unfit_low (pos n) h f = absurd (omega (arith, ints))
unfit_low (negsuc n) h f = let m : n < 2 ^ 127 → ⊥ = λ l. f (record { sfits = l }) in omega (arith, ints)

unfit_high : (z : ℤ) → pos 0 ≤ℤ z → ¬ FitsSigned w128 z → pos (2 ^ 127 - 1) <ℤ z
unfit_high (pos n) h f = let m : n < 2 ^ 127 → ⊥ = λ l. f (record { sfits = l }) in omega (arith, ints)
unfit_high (negsuc n) h f = absurd (omega (arith, ints))

product_sign : (x : ℤ) (k : ℕ) → 0 < k → x <ℤ pos 0 → (x *ℤ pos k) <ℤ pos 0
product_sign x k p h = let l = product_lt x (pos 0) k p h in omega (arith, ints)

product_positive : (x : ℤ) (k : ℕ) → pos 0 ≤ℤ x → pos 0 ≤ℤ (x *ℤ pos k)
product_positive x k h = let l = product_le (pos 0) x k h in omega (arith, ints)

-- a cell of at most 128 bits is above all numbers below these
cell_high : (n : ℤ) (each : ℕ) → 0 < each → IsShort (n *ℤ pos each) → negsuc (2 ^ 127 - 1) <ℤ n
cell_high (pos n) each e s = omega (arith, ints)
cell_high (negsuc n) each e s = let l = le-mul_of_pos_right (suc n) e in omega (arith, ints, s.0)

cell_low : (n : ℤ) (each : ℕ) → 0 < each → IsShort (n *ℤ pos each) → n ≤ℤ pos (2 ^ 127 - 1)
cell_low (pos n) each e s = let l = le-mul_of_pos_right n e in omega (arith, ints, s.1)
cell_low (negsuc n) each e s = omega (arith, ints)

pub too_low : (n top : ℤ) (each k s : ℕ) → k ≤ s → 0 < each → IsShort (n *ℤ pos each) → top <ℤ pos 0 → ¬ FitsSigned w128 (top *ℤ pos (10 ^ (s - k)))
    → int_cmp ((n *ℤ pos each) *ℤ pos (10 ^ k)) (top *ℤ pos (10 ^ s)) ≡ point_cmp n (Between (negsuc (2 ^ 127 - 1)))
too_low n top each k s h e short low unfit =
    let b : (top *ℤ pos (10 ^ (s - k))) <ℤ negsuc (2 ^ 127 - 1) = unfit_low _ (product_sign top (10 ^ (s - k)) (power_pos (s - k)) low) unfit in
    let lower : (top *ℤ pos (10 ^ (s - k))) <ℤ (n *ℤ pos each) = omega (arith, ints, short.0) in
    up_to n top each k s h ∙ is_greater (n *ℤ pos each) (top *ℤ pos (10 ^ (s - k))) lower
    ∙ sym (ap (λ (t : Bool). if t then Less else Greater) (le_is_false n (negsuc (2 ^ 127 - 1)) (cell_high n each e short)))

pub too_high : (n top : ℤ) (each k s : ℕ) → k ≤ s → 0 < each → IsShort (n *ℤ pos each) → pos 0 ≤ℤ top → ¬ FitsSigned w128 (top *ℤ pos (10 ^ (s - k)))
    → int_cmp ((n *ℤ pos each) *ℤ pos (10 ^ k)) (top *ℤ pos (10 ^ s)) ≡ point_cmp n (Between (pos (2 ^ 127 - 1)))
too_high n top each k s h e short high unfit =
    let b : pos (2 ^ 127 - 1) <ℤ (top *ℤ pos (10 ^ (s - k))) = unfit_high _ (product_positive top (10 ^ (s - k)) high) unfit in
    let higher : (n *ℤ pos each) <ℤ (top *ℤ pos (10 ^ (s - k))) = omega (arith, ints, short.1) in
    up_to n top each k s h ∙ is_less (n *ℤ pos each) (top *ℤ pos (10 ^ (s - k))) higher
    ∙ sym (ap (λ (t : Bool). if t then Less else Greater) (le_is_true n (pos (2 ^ 127 - 1)) (cell_low n each e short)))

pub multiple_pos : (k e : ℕ) → 0 < e → 0 < 10 ^ k * e
multiple_pos k e h = mul-pos (power_pos k) h
