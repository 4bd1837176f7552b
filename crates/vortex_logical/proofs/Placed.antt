-- A literal's place among the cells of a column, and comparisons by it.
use Rattle.std.proofs.Common.{◌≡◌, ℕ, ◌-◌, ◌*◌, ◌^◌, ◌<◌, ◌≤◌, Bool, true, false, refl, ◌∙◌, ap, arith, FitsSigned}
use Rattle.std.proofs.lemmas.Bool.Decides.{nat_tests}
use Rattle.std.proofs.lemmas.Int.{ints}
use Rattle.std.specs.Prelude.{ℤ, pos, negsuc, ◌*ℤ◌, ◌<ℤ◌, ◌≤ℤ◌, int_lt, nat_le, if◌then◌else◌}
use Rattle.std.specs.Int.{w128}
use Rattle.std.specs.Ordering.{int_cmp}
use Rattle.vortex_logical.specs.declared.comparison.Comparison.{Comparison}
use Rattle.vortex_logical.specs.declared.exact.Step.{Step}
use Rattle.vortex_logical.specs.declared.point.Point.{Point}
use Rattle.vortex_logical.specs.declared.point.Point.TheVariants.{Between}
use Rattle.vortex_logical.specs.declared.cell_range.CellRange.{CellRange}
use Rattle.vortex_logical.specs.Lowering.{IsIn, lowered, test_holds}
use Rattle.vortex_logical.specs.Meaning.{fraction_cmp, holds, over, steps}
use Rattle.vortex_logical.specs.Points.{IsShort, has_128_bits, place_of, point_cmp, point_of, scaled_point}
use Rattle.vortex_logical.proofs.Clamping.{lowered_is}
use Rattle.vortex_logical.proofs.Dividing.{scaled_cmp}
use Rattle.vortex_logical.proofs.Placing.{coarser, finer, power_pos, too_high, too_low}

by_test : {A : Type 0} (b : Bool) (x y : A) (P : A → Type 0) → (b ≡ true → P x) → (b ≡ false → P y) → P (if b then x else y)
by_test true x y P f g = f refl
by_test false x y P f g = g refl

unfit : (z : ℤ) → has_128_bits z ≡ false → ¬ FitsSigned w128 z
unfit (pos n) h f = grind (arith, ints, f.sfits)
unfit (negsuc n) h f = grind (arith, ints, f.sfits)

is_below : (z : ℤ) → int_lt z (pos 0) ≡ true → z <ℤ pos 0
is_below z h = grind (arith, ints)

is_no_less : (z : ℤ) → int_lt z (pos 0) ≡ false → pos 0 ≤ℤ z
is_no_less z h = grind (arith, ints)

is_le : (a b : ℕ) → nat_le a b ≡ true → a ≤ b
is_le a b h = grind (arith, nat_tests)

is_ge : (a b : ℕ) → nat_le a b ≡ false → b ≤ a
is_ge a b h = grind (arith, nat_tests)

-- the number is at its place
pub placed : (s : Step) (top : ℤ) (scale : ℕ) (n : ℤ) → 0 < s.each → IsShort (n *ℤ pos s.each) → fraction_cmp (steps s n) (over top scale) ≡ point_cmp n (place_of s top scale)
placed s top scale n each short =
    let up = top *ℤ pos (10 ^ (s.scale - scale)) in
    let low_end = Between (negsuc 170_141_183_460_469_231_731_687_303_715_884_105_727) in
    let high_end = Between (pos 170_141_183_460_469_231_731_687_303_715_884_105_727) in
    let P : Point → Type 0 = λ p. fraction_cmp (steps s n) (over top scale) ≡ point_cmp n p in
    by_test (nat_le s.scale scale) (point_of top (pos (10 ^ (scale - s.scale) * s.each))) (scaled_point top up s.each) P
    (λ fine. finer n top s.each scale s.scale (is_le s.scale scale fine) each)
    (λ coarse.
    let l : scale ≤ s.scale = is_ge s.scale scale coarse in
    by_test (has_128_bits up) (point_of up (pos s.each)) (if int_lt top (pos 0) then low_end else high_end) P
    (λ fits. coarser n top s.each scale s.scale l each)
    (λ long. by_test (int_lt top (pos 0)) low_end high_end P
    (λ low. too_low n top s.each scale s.scale l each short (is_below top low) (unfit up long))
    (λ high. too_high n top s.each scale s.scale l each short (is_no_less top high) (unfit up long))))

-- the comparison of a cell's value with the number is the test of the cell
pub compare_is : (s : Step) (top : ℤ) (scale : ℕ) (c : Comparison) (r : CellRange) (n : ℤ) → 0 < s.each → IsIn r n → IsShort (n *ℤ pos s.each)
    → holds c (fraction_cmp (steps s n) (over top scale)) ≡ test_holds n (lowered c (place_of s top scale) r)
compare_is s top scale c r n each inside short = ap (holds c) (placed s top scale n each short) ∙ lowered_is c (place_of s top scale) n r inside

-- cells of one type compare as their whole numbers
pub steps_cmp : (s : Step) (a b : ℤ) → 0 < s.each → fraction_cmp (steps s a) (steps s b) ≡ int_cmp a b
steps_cmp s a b each =
    scaled_cmp (a *ℤ pos s.each) (b *ℤ pos s.each) (10 ^ s.scale) (power_pos s.scale) ∙ scaled_cmp a b s.each each
