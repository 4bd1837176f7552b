-- Types of decimals are made exactly of the digits that one has.
use Rattle.std.proofs.Common.{◌≡◌, ◌∙◌, ℕ, ◌≤◌, ◌<◌, Bool, true, false, ◌&&◌, Option, Some, None, refl, sym, ap}
use Rattle.std.proofs.Math.Bridge.{le_prop}
use Rattle.std.proofs.lemmas.Bool.{leb-true, le-leb, lt-leb}
use Rattle.std.specs.Prelude.{nat_le, is_some, IfSome}
use Rattle.vortex_logical.specs.declared.decimal.DecimalDType.{DecimalDType}
use Rattle.vortex_parquet.specs.Meanings.{tested_le, proof_le, decimal_if, decimal_type}

-- a number that is at most another has the proof
tested : (m n : ℕ) (h : m ≤ n) (b : Bool) (e : nat_le m n ≡ b) → tested_le m n b e ≡ Some h
tested m n h true e = ap Some (le_prop (leb-true m n e) h)
tested m n h false e = let f : true ≡ false = sym (le-leb m n h) ∙ e in cc

pub proven : (m n : ℕ) (h : m ≤ n) → proof_le m n ≡ Some h
proven m n h = tested m n h (nat_le m n) refl

-- the type of the digits of one is that one
of_own : (d : DecimalDType) → decimal_type d.precision d.scale ≡ Some d
unfolding decimal_type
of_own d =
    ap (λ o. decimal_if d.precision d.scale o (proof_le d.precision 38) (proof_le d.scale 38)) (proven 1 d.precision d.some)
    ∙ ap (λ o. decimal_if d.precision d.scale (Some d.some) o (proof_le d.scale 38)) (proven d.precision 38 d.digits)
    ∙ ap (λ o. decimal_if d.precision d.scale (Some d.some) (Some d.digits) o) (proven d.scale 38 d.behind)

pub of_digits : (precision scale : ℕ) (d : DecimalDType) → d.precision ≡ precision → d.scale ≡ scale → decimal_type precision scale ≡ Some d
of_digits precision scale d a b =
    sym (ap (λ n. decimal_type n scale) a) ∙ sym (ap (λ n. decimal_type d.precision n) b) ∙ of_own d

-- none where a test fails
untested : (p s : ℕ) (a b c : Bool) (e : nat_le 1 p ≡ a) (f : nat_le p 38 ≡ b) (g : nat_le s 38 ≡ c) → (a && (b && c)) ≡ false
    → decimal_if p s (tested_le 1 p a e) (tested_le p 38 b f) (tested_le s 38 c g) ≡ None
untested p s true true true e f g h = cc
untested p s true true false e f g h = refl
untested p s true false true e f g h = refl
untested p s true false false e f g h = refl
untested p s false true true e f g h = refl
untested p s false true false e f g h = refl
untested p s false false true e f g h = refl
untested p s false false false e f g h = refl

none_of : (p s : ℕ) → (nat_le 1 p && (nat_le p 38 && nat_le s 38)) ≡ false → decimal_type p s ≡ None
unfolding decimal_type
none_of p s h = untested p s (nat_le 1 p) (nat_le p 38) (nat_le s 38) refl refl refl h

-- what is made of digits is the type of these
pub made_of : (p s : ℕ) (o : Option DecimalDType) → is_some o ≡ (nat_le 1 p && (nat_le p 38 && nat_le s 38))
    → IfSome o (λ d. d.precision ≡ p) → IfSome o (λ d. d.scale ≡ s) → o ≡ decimal_type p s
made_of p s None made a b = sym (none_of p s (sym made))
made_of p s (Some d) made a b = sym (of_digits p s d a b)

and_false : (a b : Bool) → b ≡ false → (a && b) ≡ false
and_false true b h = h
and_false false b h = refl

false_and : (a b : Bool) → a ≡ false → (a && b) ≡ false
false_and true b h = cc
false_and false b h = refl

-- none of more than 38 digits, and none with more behind the point
pub too_long : (p s : ℕ) → 38 < p → None ≡ decimal_type p s
too_long p s h = sym (none_of p s (and_false (nat_le 1 p) (nat_le p 38 && nat_le s 38) (false_and (nat_le p 38) (nat_le s 38) (lt-leb p 38 h))))

pub too_many_behind : (p s : ℕ) → 38 < s → None ≡ decimal_type p s
too_many_behind p s h = sym (none_of p s (and_false (nat_le 1 p) (nat_le p 38 && nat_le s 38) (and_false (nat_le p 38) (nat_le s 38) (lt-leb s 38 h))))
