-- Plain logic: what tests that are joined tell of each other, and a choice between two values.
use Rattle.std.proofs.Common.{◌≡◌, Bool, true, false, cond, ◌&&◌, ◌||◌, Result, Ok, Err, refl, sym}
use Rattle.std.specs.Prelude.{OnErr}
use mathlib.Core.Bool.{true≢false}

pub and_both : (a b : Bool) → a ≡ true → b ≡ true → (a && b) ≡ true
and_both true b h k = k
and_both false b h k = h

pub and_first : (a b : Bool) → (a && b) ≡ true → a ≡ true
and_first true b h = refl
and_first false b h = absurd (true≢false (sym h))

pub and_second : (a b : Bool) → (a && b) ≡ true → b ≡ true
and_second true b h = h
and_second false b h = absurd (true≢false (sym h))

pub and_second_false : (a b : Bool) → b ≡ false → (a && b) ≡ false
and_second_false true b h = h
and_second_false false b h = refl

pub or_left : (a b : Bool) → a ≡ true → (a || b) ≡ true
or_left true b h = refl
or_left false b h = absurd (true≢false (sym h))

pub or_right : (a b : Bool) → b ≡ true → (a || b) ≡ true
or_right true b h = refl
or_right false b h = h

pub or_false : (a b : Bool) → a ≡ false → b ≡ false → (a || b) ≡ false
or_false true b h k = h
or_false false b h k = k

pub or_left_false : (a b : Bool) → (a || b) ≡ false → a ≡ false
or_left_false true b h = absurd (true≢false h)
or_left_false false b h = refl

pub or_right_false : (a b : Bool) → (a || b) ≡ false → b ≡ false
or_right_false true b h = absurd (true≢false h)
or_right_false false b h = h

-- what holds of both values holds of the one that is chosen
pub either : {A : Type 0} (P : A → Type 0) (b : Bool) (x y : A) → P x → P y → P (cond b x y)
either P true x y p q = p
either P false x y p q = q

-- what holds anyhow holds where a call was refused
pub on_err : {T E : Type 0} {P : Type 0} (r : Result T E) → P → OnErr r P
on_err (Ok v) h = tt
on_err (Err e) h = h
