use Rattle.std.proofs.Common.{◌≡◌, arith, ap, sym, ◌∙◌, take, get_or, ◌++◌, ◌∷◌, [], ◌+◌, ◌*◌, ◌-◌, ◌^◌, min, List, ℕ, append_assoc}
use Rattle.std.specs.Char.{digit_value}
use Rattle.std.specs.Str.Parse.{digits_value}
use Rattle.std.proofs.lemmas.List.{take_more}
use Rattle.std.proofs.lemmas.Int.Digits.{digits_value_push}
use Rattle.std.proofs.lemmas.Str.{digit_value_digit}
use Rattle.std.proofs.lemmas.Str.Parse.{digit_at}
use Rattle.vortex_literals.proofs.Capping.{capped_push}
use Rattle.vortex_literals.proofs.numbers.appended.Goals as goal

regrouped : (a b c : List ℕ) → (a ++ b) ++ c ≡ a ++ (b ++ c)
regrouped a b c = simp append_assoc

pub overflow_sub-digit : goal.overflow_sub-digit
overflow_sub-digit c =
    let h = digit_at c.args.digits.now c.loop-digit.digit-index c.requires c.loop-digit-test.true in
    omega (arith, h)

pub loop-digit-preserved : goal.loop-digit-preserved
loop-digit-preserved c = λ before e.
    let i : ℕ = c.loop-digit.digit-index in
    let d : List ℕ = c.args.digits.now in
    let x : ℕ = get_or d i 0 in
    let m : ℕ = 2 ^ 128 - 1 in
    let w : c.loop-digit.value ≡ min (digits_value 10 (before ++ take i d)) m = c.loop-digit.invariant before e in
    let s : before ++ take (i + 1) d ≡ (before ++ take i d) ++ (x ∷ []) = ap (λ (z : List ℕ). before ++ z) (take_more d i 0 c.loop-digit-test.true) ∙ sym (regrouped before (take i d) (x ∷ [])) in
    let h = digit_at d i c.requires c.loop-digit-test.true in
    let n : c.from-next.result ≡ digit_value x = omega (arith, c.from-next.ensures, digit_value_digit x h) in
    let v : c.saturating_add-value.result ≡ min (min (c.loop-digit.value * 10) m + digit_value x) m =
    c.saturating_add-value.ensures ∙ ap (λ (z : ℕ). min (z + c.from-next.result) m) c.saturating_mul.ensures
    ∙ ap (λ (z : ℕ). min (min (c.loop-digit.value * 10) m + z) m) n in
    v ∙ capped_push c.loop-digit.value (digits_value 10 (before ++ take i d)) m (digit_value x) w
    ∙ ap (λ (z : ℕ). min z m) (sym (digits_value_push 10 (before ++ take i d) x) ∙ sym (ap (digits_value 10) s))
