-- When one gap follows another, and what a search among gaps in order finds.
use Rattle.std.proofs.Common.{◌≡◌, ◌⊎◌, inl, inr, ◌+◌, ◌-◌, ◌≤◌, ◌<◌, ℕ, zero, suc, Bool, true, false, not, ◌&&◌, ◌||◌, List, [], ◌∷◌, Option, Some, None, refl, sym, ap, ◌∙◌, subst, arith, length, get_or}
use Rattle.std.specs.List.{All, list_all}
use Rattle.std.specs.Ordering.{is_eq}
use Rattle.std.specs.declared.cmp.Ordering.{Ordering}
use Rattle.std.specs.declared.cmp.Ordering.TheVariants.{Less, Equal, Greater}
use Rattle.std.specs.Prelude.{IsSome}
use Rattle.std.proofs.lemmas.Bool.{cases_lt}
use Rattle.vortex_base.specs.Data.ArrayData.{value_of}
use Rattle.vortex_base.specs.declared.scalar_value.ScalarValue.{ScalarValue}
use Rattle.vortex_expr.specs.Meanings.Meaning.{is_true}
use Rattle.vortex_expr.specs.declared.scalar_fn.Operator.{Operator}
use Rattle.vortex_expr.specs.declared.scalar_fn.Operator.TheVariants.{Eq, NotEq, Gt, Gte, Lt, Lte, And, Or}
use Rattle.vortex_rewrite.proofs.Soundness.ValueTests.{by_le, eq_le, holds_by_le, le_antisym, le_trans, value_le}
use Rattle.vortex_prune.specs.Scanning.Gaps.{AreOrdered, ArePoints, Covers, Follows, IsSure, gap_passes, is_end, is_falling, is_past, is_rising, passes_by, past_by, side_passes, upper}
use Rattle.vortex_prune.specs.Scanning.Leaves.{compares}
use Rattle.vortex_prune.specs.declared.scan.gaps.Gap.{Gap}
use Rattle.vortex_prune.specs.declared.scan.sides.Flag.{Flag}
use Rattle.vortex_prune.specs.declared.scan.sides.Side.{Side}

pub clash : {P : Type 0} {b : Bool} → b ≡ true → b ≡ false → P
clash {b = true} h k = absurd cc
clash {b = false} h k = absurd cc

not_true : (b : Bool) → not b ≡ true → b ≡ false
not_true true h = absurd cc
not_true false h = refl

not_false : (b : Bool) → not b ≡ false → b ≡ true
not_false true h = refl
not_false false h = absurd cc

refute : (b : Bool) → (b ≡ true → ⊥) → not b ≡ true
refute true f = absurd (f refl)
refute false f = refl

-- where the first is false the second is
against : (a b : Bool) → (b ≡ true → a ≡ true) → a ≡ false → b ≡ false
against a true f h = clash (f refl) h
against a false f h = refl

-- and where the first isn't true
turned_round : (a b : Bool) → (a ≡ true → b ≡ true) → not b ≡ true → not a ≡ true
turned_round true b f h = clash (f refl) (not_true b h)
turned_round false b f h = refl

-- ---- comparisons of the same operator

rising_by : (o : Operator) (u v w : ScalarValue) → is_rising o ≡ true → value_le v w ≡ true → by_le o (value_le u w) (value_le w u) ≡ true → by_le o (value_le u v) (value_le v u) ≡ true
rising_by Gt u v w r h k = refute (value_le u v) (λ e. clash (le_trans u v w e h) (not_true (value_le u w) k))
rising_by Gte u v w r h k = le_trans v w u h k
rising_by Eq u v w r h k = cc
rising_by NotEq u v w r h k = cc
rising_by Lt u v w r h k = cc
rising_by Lte u v w r h k = cc
rising_by And u v w r h k = cc
rising_by Or u v w r h k = cc

falling_by : (o : Operator) (u v w : ScalarValue) → is_falling o ≡ true → value_le v w ≡ true → by_le o (value_le u v) (value_le v u) ≡ true → by_le o (value_le u w) (value_le w u) ≡ true
falling_by Lt u v w r h k = refute (value_le w u) (λ e. clash (le_trans v w u h e) (not_true (value_le v u) k))
falling_by Lte u v w r h k = le_trans u v w k h
falling_by Eq u v w r h k = cc
falling_by NotEq u v w r h k = cc
falling_by Gt u v w r h k = cc
falling_by Gte u v w r h k = cc
falling_by And u v w r h k = cc
falling_by Or u v w r h k = cc

pub rises_so : (a b : Side) → a.operator ≡ b.operator → is_rising a.operator ≡ true → value_le (value_of a.value) (value_of b.value) ≡ true → (x : Option ScalarValue) → side_passes b x ≡ true → side_passes a x ≡ true
rises_so a b same r h None k = absurd cc
rises_so a b same r h (Some u) k =
    holds_by_le a.operator u (value_of a.value)
    ∙ rising_by a.operator u (value_of a.value) (value_of b.value) r h (sym (holds_by_le a.operator u (value_of b.value)) ∙ ap (λ o. compares o (Some u) (Some (value_of b.value))) same ∙ k)

falls_by : (o : Operator) (v w : ScalarValue) → is_falling o ≡ true → value_le v w ≡ true → (x : Option ScalarValue) → compares o x (Some v) ≡ true → compares o x (Some w) ≡ true
falls_by o v w r h None k = absurd cc
falls_by o v w r h (Some u) k = holds_by_le o u w ∙ falling_by o u v w r h (sym (holds_by_le o u v) ∙ k)

pub falls_so : (a b : Side) → a.operator ≡ b.operator → is_falling a.operator ≡ true → value_le (value_of a.value) (value_of b.value) ≡ true → (y : Option ScalarValue) → side_passes a y ≡ true → side_passes b y ≡ true
falls_so a b same r h y k = ap (λ o. compares o y (Some (value_of b.value))) (sym same) ∙ falls_by a.operator (value_of a.value) (value_of b.value) r h y k

upper_falls : (o : Operator) → is_falling (upper o) ≡ true
upper_falls Eq = refl
upper_falls NotEq = refl
upper_falls Gt = refl
upper_falls Gte = refl
upper_falls Lt = refl
upper_falls Lte = refl
upper_falls And = refl
upper_falls Or = refl

upper_itself : (o : Operator) → is_falling o ≡ true → upper o ≡ o
upper_itself Lt h = refl
upper_itself Lte h = refl
upper_itself Eq h = absurd cc
upper_itself NotEq h = absurd cc
upper_itself Gt h = absurd cc
upper_itself Gte h = absurd cc
upper_itself And h = absurd cc
upper_itself Or h = absurd cc

pub equal_of : (o : Ordering) → is_eq o ≡ true → o ≡ Equal
equal_of Equal h = refl
equal_of Less h = absurd cc
equal_of Greater h = absurd cc

equal_to : (x : Option ScalarValue) (v : ScalarValue) → compares Eq x (Some v) ≡ true → x ≡ Some v
equal_to None v h = absurd cc
equal_to (Some u) v h = let e = eq_le u v h in ap Some (le_antisym u v e.0 e.1)

at_most_equal : (x : Option ScalarValue) (v : ScalarValue) → compares Eq x (Some v) ≡ true → compares Lte x (Some v) ≡ true
at_most_equal None v h = absurd cc
at_most_equal (Some u) v h = holds_by_le Lte u v ∙ (eq_le u v h).0

end_upper : (o : Operator) → is_end o ≡ true → (x : Option ScalarValue) (v : ScalarValue) → compares o x (Some v) ≡ true → compares (upper o) x (Some v) ≡ true
end_upper Eq h x v k = at_most_equal x v k
end_upper Lt h x v k = k
end_upper Lte h x v k = k
end_upper NotEq h x v k = absurd cc
end_upper Gt h x v k = absurd cc
end_upper Gte h x v k = absurd cc
end_upper And h x v k = absurd cc
end_upper Or h x v k = absurd cc

-- ---- a first value that is past a gap

pub or_left : (a b : Bool) → a ≡ true → (a || b) ≡ true
or_left true b h = refl
or_left false b h = absurd cc

or_right : (a b : Bool) → b ≡ true → (a || b) ≡ true
or_right true b h = refl
or_right false b h = h

not_first : (a b : Bool) → a ≡ false → not (a && b) ≡ true
not_first true b h = absurd cc
not_first false b h = refl

pub sure_open : (a b : Side) → IsSure (record { above = a; below = b; flag = None })
sure_open a b x y z h = or_left (side_passes a x) (side_passes b y) h

pub sure_flagged : (a b : Side) (f : Flag) → is_end a.operator ≡ true → IsSure (record { above = a; below = b; flag = Some f })
sure_flagged a b f e x y z h =
    not_first (side_passes a x) (side_passes b y && is_true z)
    (not_true (side_passes a x) (turned_round (side_passes a x) (compares (upper a.operator) x (Some (value_of a.value))) (end_upper a.operator e x (value_of a.value)) h))

-- ---- gaps that follow others

open_rises : (a b c d : Bool) → a ≡ false → (a || b) ≡ true → (b ≡ true → d ≡ true) → (c || d) ≡ true
open_rises true b c d h k f = absurd cc
open_rises false b c d h k f = or_right c d (f k)

follows_none : (p q : Option Flag) (s t u v : Side) → p ≡ None → q ≡ None → Covers s u → Covers v t → Follows (record { above = s; below = t; flag = p }) (record { above = u; below = v; flag = q })
follows_none None None s t u v e f h k = record {
  falls = h.1;
  rises = λ x y z n p. open_rises (side_passes s x) (side_passes t y) (side_passes u x) (side_passes v y) n p (k.1 y);
}
follows_none None (Some g) s t u v e f h k = absurd cc
follows_none (Some g) q s t u v e f h k = absurd cc

pub follows_open : (a b : Gap) → a.flag ≡ None → b.flag ≡ None → Covers a.above b.above → Covers b.below a.below → Follows a b
follows_open a b e f h k = follows_none a.flag b.flag a.above a.below b.above b.below e f h k

-- where the first value isn't past the one range, its lower end or the flag isn't met, nor those of the other
span_rises : (a b c d s : Bool) → a ≡ true → not (a && (b && s)) ≡ true → (d ≡ true → b ≡ true) → not (c && (d && s)) ≡ true
span_rises a b false d s h k f = refl
span_rises a b true false s h k f = refl
span_rises a b true true false h k f = refl
span_rises a b true true true h k f = sym (ap (λ p. not (p && (b && true))) h ∙ ap (λ p. not (p && true)) (f refl)) ∙ k

past_falls : (o q : Operator) (v w : ScalarValue) (x : Option ScalarValue) → (compares (upper o) x (Some v) ≡ true → compares (upper q) x (Some w) ≡ true) → not (compares (upper q) x (Some w)) ≡ true → not (compares (upper o) x (Some v)) ≡ true
past_falls o q v w x f h = turned_round (compares (upper o) x (Some v)) (compares (upper q) x (Some w)) f h

range_falls : (s u : Side) → is_falling s.operator ≡ true → s.operator ≡ u.operator → Covers u s → (x : Option ScalarValue) → compares (upper s.operator) x (Some (value_of s.value)) ≡ true → compares (upper u.operator) x (Some (value_of u.value)) ≡ true
range_falls s u h e k x p =
    ap (λ o. compares o x (Some (value_of u.value))) (ap upper (sym e) ∙ upper_itself s.operator h ∙ e)
    ∙ k.1 x (ap (λ o. compares o x (Some (value_of s.value))) (sym (upper_itself s.operator h)) ∙ p)

follows_some : (p q : Option Flag) (s t u v : Side) → IsSome p → IsSome q → is_falling s.operator ≡ true → s.operator ≡ u.operator → Covers u s → Covers t v → Follows (record { above = s; below = t; flag = p }) (record { above = u; below = v; flag = q })
follows_some None q s t u v i j r e h k = absurd cc
follows_some (Some f) None s t u v i j r e h k = absurd cc
follows_some (Some f) (Some g) s t u v i j r e h k = record {
  falls = λ x. past_falls s.operator u.operator (value_of s.value) (value_of u.value) x (range_falls s u r e h x);
  rises = λ x y z n p.
      span_rises (side_passes s x) (side_passes t y) (side_passes u x) (side_passes v y) (is_true z)
      (ap (λ o. compares o x (Some (value_of s.value))) (sym (upper_itself s.operator r)) ∙ not_false (compares (upper s.operator) x (Some (value_of s.value))) n) p (k.1 y);
}

pub follows_ranges : (a b : Gap) → IsSome a.flag → IsSome b.flag → is_falling a.above.operator ≡ true → a.above.operator ≡ b.above.operator → Covers b.above a.above → Covers a.below b.below → Follows a b
follows_ranges a b i j r e h k = follows_some a.flag b.flag a.above a.below b.above b.below i j r e h k

-- a single value that is met by both comparisons is that of the gap before, if the first value isn't past that
point_rises : (x y : Option ScalarValue) (v w v' w' : ScalarValue) (s : Bool) → v ≡ w → v' ≡ w' → value_le v v' ≡ true → compares Lte x (Some v) ≡ true → not (compares Eq x (Some v) && (compares Eq y (Some w) && s)) ≡ true
    → (b : Bool) → compares Eq x (Some v') ≡ b → not (b && (compares Eq y (Some w') && s)) ≡ true
point_rises x y v w v' w' s e f h n p false m = refl
point_rises x y v w v' w' s e f h n p true m =
    let is : x ≡ Some v' = equal_to x v' m in
    let le : value_le v' v ≡ true = sym (holds_by_le Lte v' v) ∙ ap (λ u. compares Lte u (Some v)) (sym is) ∙ n in
    let same : v ≡ v' = le_antisym v v' h le in
    let lower : w ≡ w' = sym e ∙ same ∙ f in
    let met : compares Eq x (Some v) ≡ true = ap (λ u. compares Eq x (Some u)) same ∙ m in
    ap (λ u. not (compares Eq y (Some u) && s)) (sym lower) ∙ ap (λ b. not (b && (compares Eq y (Some w) && s))) (sym met) ∙ p

module _ (s t u v : Side) (f g : Flag) (h : ArePoints (record { above = s; below = t; flag = Some f }) (record { above = u; below = v; flag = Some g })) where
  le : value_le (value_of s.value) (value_of u.value) ≡ true
  le = ap not h.order

  points_fall : (x : Option ScalarValue) → compares (upper s.operator) x (Some (value_of s.value)) ≡ true → compares (upper u.operator) x (Some (value_of u.value)) ≡ true
  points_fall x k =
      ap (λ o. compares (upper o) x (Some (value_of u.value))) h.next.above
      ∙ falls_by Lte (value_of s.value) (value_of u.value) refl le x (ap (λ o. compares (upper o) x (Some (value_of s.value))) (sym h.first.above) ∙ k)

  side_is : (a : Side) → a.operator ≡ Eq → (x : Option ScalarValue) → side_passes a x ≡ compares Eq x (Some (value_of a.value))
  side_is a e x = ap (λ o. compares o x (Some (value_of a.value))) e

  points_rise : (x y z : Option ScalarValue) → past_by (Some f) s x ≡ false → passes_by (Some f) (side_passes s x) (side_passes t y) (is_true z) ≡ true → passes_by (Some g) (side_passes u x) (side_passes v y) (is_true z) ≡ true
  points_rise x y z n p =
      let at : compares Lte x (Some (value_of s.value)) ≡ true =
      ap (λ o. compares (upper o) x (Some (value_of s.value))) (sym h.first.above) ∙ not_false (compares (upper s.operator) x (Some (value_of s.value))) n in
      ap (λ b. not (b && (side_passes v y && is_true z))) (side_is u h.next.above x)
      ∙ ap (λ b. not (compares Eq x (Some (value_of u.value)) && (b && is_true z))) (side_is v h.next.below y)
      ∙ point_rises x y (value_of s.value) (value_of t.value) (value_of u.value) (value_of v.value) (is_true z) h.first.same h.next.same le at
      (ap (λ b. not (b && (compares Eq y (Some (value_of t.value)) && is_true z))) (sym (side_is s h.first.above x))
      ∙ ap (λ b. not (side_passes s x && (b && is_true z))) (sym (side_is t h.first.below y)) ∙ p)
      (compares Eq x (Some (value_of u.value))) refl

  points_follow : Follows (record { above = s; below = t; flag = Some f }) (record { above = u; below = v; flag = Some g })
  points_follow = record {
    falls = λ x. past_falls s.operator u.operator (value_of s.value) (value_of u.value) x (points_fall x);
    rises = points_rise;
  }

follows_point : (p q : Option Flag) (s t u v : Side) → IsSome p → IsSome q → ArePoints (record { above = s; below = t; flag = p }) (record { above = u; below = v; flag = q }) → Follows (record { above = s; below = t; flag = p }) (record { above = u; below = v; flag = q })
follows_point None q s t u v i j h = absurd cc
follows_point (Some f) None s t u v i j h = absurd cc
follows_point (Some f) (Some g) s t u v i j h = points_follow s t u v f g h

pub follows_points : (a b : Gap) → IsSome a.flag → IsSome b.flag → ArePoints a b → Follows a b
follows_points a b i j h = follows_point a.flag b.flag a.above a.below b.above b.below i j h

-- ---- gaps each of which follows the one before it

follows_self : (g : Gap) → Follows g g
follows_self g = record { falls = λ x h. h; rises = λ x y z n h. h }

follows_on : (a b c : Gap) → Follows a b → Follows b c → Follows a c
follows_on a b c h k = record {
  falls = λ x p. h.falls x (k.falls x p);
  rises = λ x y z n p. k.rises x y z (against (is_past a x) (is_past b x) (h.falls x) n) (h.rises x y z n p);
}

module _ (gs : List Gap) (d : Gap) (step : (i : ℕ) → i + 1 < length gs → Follows (get_or gs i d) (get_or gs (i + 1) d)) where
  after : (n k : ℕ) → n + k < length gs → Follows (get_or gs k d) (get_or gs (n + k) d)
  after zero k h = let e : k ≡ zero + k = omega arith in subst (λ i. Follows (get_or gs k d) (get_or gs i d)) e (follows_self (get_or gs k d))
  after (suc n) k h =
      let e : (n + k) + 1 ≡ suc n + k = omega arith in
      let before : n + k < length gs = omega (arith, h) in
      let there : (n + k) + 1 < length gs = omega (arith, h) in
      subst (λ i. Follows (get_or gs k d) (get_or gs i d)) e (follows_on (get_or gs k d) (get_or gs (n + k) d) (get_or gs ((n + k) + 1) d) (after n k before) (step (n + k) there))

pub ordered_by_steps : (gs : List Gap) → ((i : ℕ) (d : Gap) → i + 1 < length gs → Follows (get_or gs i d) (get_or gs (i + 1) d)) → AreOrdered gs
ordered_by_steps gs step k m d h l =
    let e : (m - k) + k ≡ m = omega (arith, h) in
    let there : (m - k) + k < length gs = omega (arith, h, l) in
    subst (λ i. Follows (get_or gs k d) (get_or gs i d)) e (after gs d (λ i. step i d) (m - k) k there)

-- ---- all of them, by the first that the first value isn't past

pub all_by : (p : Gap → Bool) (gs : List Gap) → ((k : ℕ) (d : Gap) → k < length gs → p (get_or gs k d) ≡ true) → list_all p gs ≡ true
all_by p [] h = refl
all_by p (g ∷ gs) h = ap (λ b. b && list_all p gs) (h 0 g (omega arith)) ∙ all_by p gs (λ k d l. h (suc k) d (omega (arith, l)))

none_by : (p : Gap → Bool) (gs : List Gap) (k : ℕ) (d : Gap) → k < length gs → p (get_or gs k d) ≡ false → list_all p gs ≡ false
none_by p [] k d l h = absurd (omega (arith, l))
none_by p (g ∷ gs) zero d l h = ap (λ b. b && list_all p gs) h
none_by p (g ∷ gs) (suc k) d l h = ap (λ b. p g && b) (none_by p gs k d (omega (arith, l)) h) ∙ and_false (p g)
  where
    and_false : (b : Bool) → (b && false) ≡ false
    and_false true = refl
    and_false false = refl

pub partitioned : (gs : List Gap) (x : Option ScalarValue) → AreOrdered gs → (k m : ℕ) (d : Gap) → k ≤ m → m < length gs → is_past (get_or gs m d) x ≡ true → is_past (get_or gs k d) x ≡ true
partitioned gs x order k m d l n h = (order k m d l n).falls x h

get_any : (gs : List Gap) (k : ℕ) (c d : Gap) → k < length gs → get_or gs k c ≡ get_or gs k d
get_any [] k c d h = absurd (omega (arith, h))
get_any (g ∷ gs) zero c d h = refl
get_any (g ∷ gs) (suc k) c d h = get_any gs k c d (omega (arith, h))

-- one more of them is looked at
pub one_more_step : (gs : List Gap) (k : ℕ) (a b : Gap) → 1 ≤ k → k < length gs → a ≡ get_or gs (k - 1) a → b ≡ get_or gs k b → Follows a b → ((i : ℕ) (d : Gap) → i + 1 < k → Follows (get_or gs i d) (get_or gs (i + 1) d))
    → (i : ℕ) (d : Gap) → i + 1 < k + 1 → Follows (get_or gs i d) (get_or gs (i + 1) d)
one_more_step gs k a b low high first next h before i d l = by (cases_lt (i + 1) k)
  where
    by : (i + 1 < k) ⊎ (k ≤ i + 1) → Follows (get_or gs i d) (get_or gs (i + 1) d)
    by (inl m) = before i d m
    by (inr m) =
        let is : k - 1 ≡ i = omega (arith, l, m, low) in
        let so : k ≡ i + 1 = omega (arith, l, m, low) in
        let there : k - 1 < length gs = omega (arith, high, low) in
        subst (λ n. Follows (get_or gs n d) (get_or gs (i + 1) d)) is
        (subst (λ n. Follows (get_or gs (k - 1) d) (get_or gs n d)) so
        (subst (λ g. Follows g (get_or gs k d)) (first ∙ get_any gs (k - 1) a d there) (subst (λ g. Follows a g) (next ∙ get_any gs k b d high) h)))

module _ (gs : List Gap) (x y z : Option ScalarValue) (order : AreOrdered gs) (sure : All IsSure gs) (place : ℕ) (before : (k : ℕ) (d : Gap) → k < place → k < length gs → is_past (get_or gs k d) x ≡ true) where
  -- the first value is past each
  pub all_before : length gs ≤ place → true ≡ list_all (λ g. gap_passes g x y z) gs
  all_before h = sym (all_by (λ g. gap_passes g x y z) gs (λ k d l. sure k d l x y z (before k d (omega (arith, h, l)) l)))

  -- it came to a gap that it isn't past
  pub by_first : (b : Bool) (d : Gap) → place < length gs → is_past (get_or gs place d) x ≡ false → b ≡ gap_passes (get_or gs place d) x y z → b ≡ list_all (λ g. gap_passes g x y z) gs
  by_first true d l h e =
      sym (all_by (λ g. gap_passes g x y z) gs (λ k c n. by k c n (cases_lt k place)))
    where
      by : (k : ℕ) (c : Gap) → k < length gs → (k < place) ⊎ (place ≤ k) → gap_passes (get_or gs k c) x y z ≡ true
      by k c n (inl m) = sure k c n x y z (before k c m n)
      by k c n (inr m) =
          (order place k c m n).rises x y z (ap (λ (g : Gap). is_past g x) (get_any gs place c d l) ∙ h) (ap (λ (g : Gap). gap_passes g x y z) (get_any gs place c d l) ∙ sym e)
  by_first false d l h e = sym (none_by (λ g. gap_passes g x y z) gs place d l (sym e))
