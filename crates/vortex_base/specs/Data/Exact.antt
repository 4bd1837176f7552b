-- Equality tests that tell whether two things are one.
use Rattle.std.specs.Prelude.{◌≡◌, ◌&&◌, Bool, true, false, IsTrue, ◌↔◌, refl}
use Rattle.std.proofs.Common.{sym, ap}
use Rattle.std.specs.Cmp.{IsEquivalence}

-- the test holds of two things exactly if they are one
abbrev pub IsExact : {K : Type 0} → (K → K → Bool) → Type 0
IsExact {K} E = (x y : K) → IsTrue (E x y) ↔ (x ≡ y)

pub same_bool : (a b : Bool) → (a ≡ true → b ≡ true) → (b ≡ true → a ≡ true) → a ≡ b
same_bool true b f g = sym (f refl)
same_bool false true f g = g refl
same_bool false false f g = refl

-- such a test is reflexive, symmetric and a congruence
pub exact_equivalence : {K : Type 0} (E : K → K → Bool) → IsExact E → IsEquivalence E
exact_equivalence E h = record {
  refl = λ x. (h x x).1 refl;
  symm = λ x y. same_bool (E x y) (E y x) (λ e. (h y x).1 (sym ((h x y).0 e))) (λ e. (h x y).1 (sym ((h y x).0 e)));
  congr = λ x y z e. ap (λ t. E t z) ((h x y).0 e);
}

pub both_true : (a b : Bool) → IsTrue (a && b) → IsTrue a × IsTrue b
both_true true b h = (refl, h)
both_true false b h = cc

pub both_hold : (a b : Bool) → IsTrue a → IsTrue b → IsTrue (a && b)
both_hold true b h k = k
both_hold false b h k = h
