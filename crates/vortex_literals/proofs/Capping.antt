-- Numbers that are read no further than the greatest of 128 bits: what they write stays as short, or as long.
use Rattle.std.proofs.Common.{◌≡◌, ℕ, ◌+◌, ◌*◌, ◌^◌, ◌<◌, ◌≤◌, ◌⊎◌, Bool, true, false, ◌&&◌, nat_lt, nat_le, min, pos, true≢false, Option, Some, None, inl, inr, ap, ap₂, arith, refl, sym, ◌∙◌}
use Rattle.std.proofs.Math.Nat.{one-le-pow}
use Rattle.std.proofs.lemmas.Bool.{cases_lt}
use Rattle.std.specs.Prelude.{if◌then◌else◌}
use Rattle.vortex_logical.proofs.Placing.{power-le}
use Rattle.vortex_logical.specs.Meaning.{Fraction}
use Rattle.vortex_literals.specs.Dates.{over}
use Rattle.vortex_literals.specs.Numbers.{if_short}

pub capped_push : (v w m x : ℕ) → v ≡ min w m → min (min (v * 10) m + x) m ≡ min (w * 10 + x) m
capped_push v w m x e = omega arith

capped_low : (d m : ℕ) → d ≤ m → min d m ≡ d
capped_low d m h = omega arith

capped_high : (d m : ℕ) → m < d → min d m ≡ m
capped_high d m h = omega arith

at_least : (d u : ℕ) → d ≤ d * 10 ^ u
at_least d u = let h = one-le-pow u 10 (omega arith) in grind (arith, h)

long_power : (u : ℕ) → 39 ≤ u → 2 ^ 127 ≤ 10 ^ u
long_power u h = let p = power-le 39 u h in omega arith

pub long_raised : (d u : ℕ) → 1 ≤ d → 39 ≤ u → 2 ^ 127 ≤ d * 10 ^ u
long_raised d u h k = let p = long_power u k in grind (arith, p)

zero_times : (p : ℕ) → 0 * p ≡ 0
zero_times p = omega arith

nothing : (m p : ℕ) → min 0 m * p ≡ 0
nothing m p = ap (λ (x : ℕ). x * p) (capped_low 0 m (omega arith)) ∙ zero_times p

-- what is capped stays as short, and is then the same, or as long
pub raised_capped : (m d u : ℕ) → 2 ^ 127 ≤ m → (min d m * 10 ^ min u m ≡ d * 10 ^ u) ⊎ ((2 ^ 127 ≤ min d m * 10 ^ min u m) × (2 ^ 127 ≤ d * 10 ^ u))
raised_capped m d u big =
    elim (cases_lt m d) [
      | inl high ↦
          let a = at_least d u in
          let b = at_least m (min u m) in
          let e = ap (λ (z : ℕ). z * 10 ^ min u m) (capped_high d m high) in
          inr (omega (arith, b, e), omega (arith, a))
      | inr low ↦ elim (cases_lt m u) [
        | inl far ↦ elim (cases_lt 0 d) [
          | inl some ↦
              let a = long_raised d u some (omega arith) in
              let b = long_raised d m some (omega arith) in
              let F : ℕ → ℕ → ℕ = λ x y. x * 10 ^ y in
              let e = ap₂ F (capped_low d m low) (capped_high u m far) in
              inr (omega (arith, b, e), a)
          | inr none ↦
              let z : d ≡ 0 = omega arith in
              inl (ap (λ (x : ℕ). min x m * 10 ^ min u m) z ∙ nothing m (10 ^ min u m) ∙ sym (zero_times (10 ^ u)) ∙ sym (ap (λ (x : ℕ). x * 10 ^ u) z))
        ]
        | inr near ↦
            let F : ℕ → ℕ → ℕ = λ x y. x * 10 ^ y in
            inl (ap₂ F (capped_low d m low) (capped_low u m near))
      ]
    ]

if_short_by : ℕ → ℕ → Option Fraction
if_short_by w p = if nat_le w 33 && nat_lt p (2 ^ 127) then Some (over (pos p) w) else None

if_false : (b : Bool) (x : Option Fraction) → b ≡ false → (if b then x else None) ≡ None
if_false b x e = ap (λ (z : Bool). if z then x else None) e

false_left : (a b : Bool) → a ≡ false → (a && b) ≡ false
false_left false b e = refl
false_left true b e = absurd (true≢false e)

false_right : (a b : Bool) → b ≡ false → (a && b) ≡ false
false_right false b e = refl
false_right true b e = e

far_none : (w p : ℕ) → 33 < w → if_short_by w p ≡ None
unfolding if_short_by
far_none w p h = if_false (nat_le w 33 && nat_lt p (2 ^ 127)) (Some (over (pos p) w)) (false_left (nat_le w 33) (nat_lt p (2 ^ 127)) (grind arith))

long_none : (w p : ℕ) → 2 ^ 127 ≤ p → if_short_by w p ≡ None
unfolding if_short_by
long_none w p h = if_false (nat_le w 33 && nat_lt p (2 ^ 127)) (Some (over (pos p) w)) (false_right (nat_le w 33) (nat_lt p (2 ^ 127)) (grind arith))

-- a number that is capped in each of its parts is as short as the number, and is then the same
pub if_short_capped : (m d u w : ℕ) → 2 ^ 127 ≤ m → if_short (min d m) (min u m) (min w m) ≡ if_short d u w
unfolding if_short_by
if_short_capped m d u w big =
    let p : ℕ = min d m * 10 ^ min u m in
    let p₂ : ℕ = d * 10 ^ u in
    elim (cases_lt 33 w) [
      | inl far ↦ far_none (min w m) p (omega arith) ∙ sym (far_none w p₂ far)
      | inr near ↦ elim (raised_capped m d u big) [
        | inl e ↦ ap₂ if_short_by (capped_low w m (omega arith)) e
        | inr long ↦ long_none (min w m) p long.0 ∙ sym (long_none w p₂ long.1)
      ]
    ]

-- an exponent with a plus or no sign adds noughts
pub moved_up : (m digits exponent behind d e : ℕ) (n : Bool) → n ≡ false → 2 ^ 127 ≤ m → behind ≤ m → digits ≡ min d m → exponent ≡ min e m
    → if_short digits exponent behind ≡ if_short d (if n then 0 else e) (behind + (if n then e else 0))
moved_up m digits exponent behind d e n positive big low p q =
    let b : behind ≡ min (behind + 0) m = omega arith in
    ap (λ (x : ℕ). if_short x exponent behind) p
    ∙ ap (λ (x : ℕ). if_short (min d m) x behind) q
    ∙ ap (λ (x : ℕ). if_short (min d m) (min e m) x) b
    ∙ if_short_capped m d e (behind + 0) big
    ∙ ap (λ (x : Bool). if_short d (if x then 0 else e) (behind + (if x then e else 0))) (sym positive)

-- an exponent with a minus moves the point to the left
pub moved_down : (m digits exponent behind far d e : ℕ) (n : Bool) → n ≡ true → 2 ^ 127 ≤ m → digits ≡ min d m → exponent ≡ min e m → far ≡ min (behind + exponent) m
    → if_short digits 0 far ≡ if_short d (if n then 0 else e) (behind + (if n then e else 0))
moved_down m digits exponent behind far d e n negative big p q r =
    let b : far ≡ min (behind + e) m = omega arith in
    let none : 0 ≡ min 0 m = omega arith in
    ap (λ (x : ℕ). if_short x 0 far) p
    ∙ ap (λ (x : ℕ). if_short (min d m) x far) none
    ∙ ap (λ (x : ℕ). if_short (min d m) (min 0 m) x) b
    ∙ if_short_capped m d 0 (behind + e) big
    ∙ ap (λ (x : Bool). if_short d (if x then 0 else e) (behind + (if x then e else 0))) (sym negative)
