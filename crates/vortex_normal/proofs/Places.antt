-- What two searches by halves find in separate intervals: those that end below an interval, that it touches, and that begin above it.
use Rattle.std.proofs.Common.{◌≡◌, ℕ, zero, suc, ◌+◌, ◌-◌, ◌<◌, ◌≤◌, Bool, true, false, not as not_b, ◌&&◌, List, [], ◌∷◌, ◌++◌, Option, Some, None, append_assoc, drop, get_or, length, map, take, refl, sym, ap, ap₂, ◌∙◌, subst, arith}
use Rattle.std.specs.List.{AllByRecursion, AllWithin}
use Rattle.std.specs.List.Sorted.{IsPartitionPoint, IsPartitionedBy}
use Rattle.std.proofs.Math.Seq.{drop-nil}
use Rattle.std.proofs.lemmas.Bool.{and_parts, not-true}
use Rattle.std.proofs.lemmas.List.{take-append-drop}
use Rattle.vortex_rewrite.proofs.Soundness.TruthLogic.{clash, refuted}
use Rattle.vortex_normal.specs.declared.interval.Interval.{Interval as LentInterval}
use Rattle.vortex_normal.specs.Intervals.{Cut, Interval, combined, cut_le, cut_of, interval_of, is_empty, share}
use Rattle.vortex_normal.specs.Separate.{are_beyond, hull_of_all, is_beyond, is_separate, left_of}
use Rattle.vortex_normal.proofs.Sets.{cut_trans, total}
use Rattle.vortex_normal.proofs.Sorting.{cut_self}
use Rattle.vortex_normal.proofs.Separate.{parts}
use Rattle.vortex_normal.proofs.Spliced.{AllTouch, BeginsAbove, EndsBelow, spliced_is}

abbrev low_of : LentInterval → Cut
low_of i = cut_of i.low

abbrev high_of : LentInterval → Cut
high_of i = cut_of i.high

-- ---- beginnings rise, and so do ends

beyond_each : (c : Cut) (is : List LentInterval) → are_beyond (Some c) (map interval_of is) ≡ true → (k : ℕ) (d : LentInterval) → k < length is → (cut_le c (low_of (get_or is k d)) ≡ true) × (cut_le c (high_of (get_or is k d)) ≡ true)
beyond_each c [] h k d l = absurd (omega (arith, l))
beyond_each c (i ∷ is) h zero d l =
    let p = parts (Some c) (interval_of i) (map interval_of is) h in
    let above : cut_le c (low_of i) ≡ true = total (low_of i) c (not-true (cut_le (low_of i) c) p.beyond) in
    (above, cut_trans c (low_of i) (high_of i) above (total (high_of i) (low_of i) p.values))
beyond_each c (i ∷ is) h (suc k) d l =
    let p = parts (Some c) (interval_of i) (map interval_of is) h in
    let above : cut_le c (low_of i) ≡ true = total (low_of i) c (not-true (cut_le (low_of i) c) p.beyond) in
    let over : cut_le c (high_of i) ≡ true = cut_trans c (low_of i) (high_of i) above (total (high_of i) (low_of i) p.values) in
    let r = beyond_each (high_of i) is p.later k d (omega (arith, l)) in
    (cut_trans c (high_of i) (low_of (get_or is k d)) over r.0, cut_trans c (high_of i) (high_of (get_or is k d)) over r.1)

both_rise : (b : Option Cut) (is : List LentInterval) → are_beyond b (map interval_of is) ≡ true → (k m : ℕ) (d : LentInterval) → k ≤ m → m < length is
    → (cut_le (low_of (get_or is k d)) (low_of (get_or is m d)) ≡ true) × (cut_le (high_of (get_or is k d)) (high_of (get_or is m d)) ≡ true)
both_rise b [] h k m d l n = absurd (omega (arith, n))
both_rise b (i ∷ is) h zero zero d l n = (cut_self (low_of i), cut_self (high_of i))
both_rise b (i ∷ is) h zero (suc m) d l n =
    let p = parts b (interval_of i) (map interval_of is) h in
    let r = beyond_each (high_of i) is p.later m d (omega (arith, n)) in
    (cut_trans (low_of i) (high_of i) (low_of (get_or is m d)) (total (high_of i) (low_of i) p.values) r.0, r.1)
both_rise b (i ∷ is) h (suc k) zero d l n = absurd (omega (arith, l))
both_rise b (i ∷ is) h (suc k) (suc m) d l n = both_rise (Some (high_of i)) is (parts b (interval_of i) (map interval_of is) h).later k m d (omega (arith, l)) (omega (arith, n))

abbrev pub ends_below : Cut → LentInterval → Bool
ends_below c i = not_b (cut_le c (cut_of i.high))

abbrev pub begins_by : Cut → LentInterval → Bool
begins_by c i = cut_le (cut_of i.low) c

pub ends_partitioned : (c : Cut) (is : List LentInterval) → is_separate (map interval_of is) ≡ true → IsPartitionedBy (ends_below c) is
ends_partitioned c is h k m d l n e =
    ap not_b (refuted (cut_le c (high_of (get_or is k d)))
    (λ a. clash (cut_trans c (high_of (get_or is k d)) (high_of (get_or is m d)) a (both_rise None is h k m d l n).1) (not-true (cut_le c (high_of (get_or is m d))) e)))

pub begins_partitioned : (c : Cut) (is : List LentInterval) → is_separate (map interval_of is) ≡ true → IsPartitionedBy (begins_by c) is
begins_partitioned c is h k m d l n e = cut_trans (low_of (get_or is k d)) (low_of (get_or is m d)) c (both_rise None is h k m d l n).0 e

-- ---- the parts of a list

drop_beyond : (b : Option Cut) (n : ℕ) (is : List LentInterval) → are_beyond b (map interval_of is) ≡ true → are_beyond None (map interval_of (drop n is)) ≡ true
drop_beyond b zero [] h = refl
drop_beyond b zero (i ∷ is) h = unbound b (interval_of i) (map interval_of is) h
  where
    unbound : (b : Option Cut) (i : Interval) (is : List Interval) → are_beyond b (i ∷ is) ≡ true → are_beyond None (i ∷ is) ≡ true
    unbound b i is h = (and_parts (is_beyond b i.low) (not_b (is_empty i) && are_beyond (Some i.high) is) h).1
drop_beyond b (suc n) [] h = refl
drop_beyond b (suc n) (i ∷ is) h = drop_beyond (Some (high_of i)) n is (parts b (interval_of i) (map interval_of is) h).later

take_whole : {X : Type 0} → (n : ℕ) (xs : List X) → length xs ≤ n → take n xs ≡ xs
take_whole zero [] h = refl
take_whole zero (x ∷ xs) h = absurd (omega (arith, h))
take_whole (suc n) [] h = refl
take_whole (suc n) (x ∷ xs) h = ap (λ r. x ∷ r) (take_whole n xs (omega (arith, h)))

dropped_length : {X : Type 0} → (n : ℕ) (xs : List X) → length (drop n xs) ≤ length xs - n
dropped_length zero xs = omega arith
dropped_length (suc n) [] = omega arith
dropped_length (suc n) (x ∷ xs) = omega (arith, dropped_length n xs)

pub whole_rest : (n m : ℕ) (is : List LentInterval) → m ≡ length is - n → take m (drop n is) ≡ drop n is
whole_rest n m is e = take_whole m (drop n is) (omega (arith, e, dropped_length n is))

pub rest_separate : (n m : ℕ) (is : List LentInterval) → m ≡ length is - n → is_separate (map interval_of is) ≡ true → is_separate (map interval_of (take m (drop n is))) ≡ true
rest_separate n m is e h = ap (λ l. is_separate (map interval_of l)) (whole_rest n m is e) ∙ drop_beyond None n is h

taken_all : (P : Interval → Type 0) (n : ℕ) (is : List LentInterval) → AllWithin (λ i. P (interval_of i)) is 0 n → n ≤ length is → AllByRecursion P (map interval_of (take n is))
taken_all P zero is h l = tt
taken_all P (suc n) [] h l = absurd (omega (arith, l))
taken_all P (suc n) (i ∷ is) h l = (h 0 i (omega arith) (omega arith), taken_all P n is (λ k d a b. h (suc k) d (omega arith) (omega (arith, b))) (omega (arith, l)))

dropped_all : (P : Interval → Type 0) (n : ℕ) (is : List LentInterval) → AllWithin (λ i. P (interval_of i)) is n (length is) → AllByRecursion P (map interval_of (drop n is))
dropped_all P zero [] h = tt
dropped_all P zero (i ∷ is) h = (h 0 i (omega arith) (omega arith), dropped_all P zero is (λ k d a b. h (suc k) d (omega arith) (omega (arith, b))))
dropped_all P (suc n) [] h = tt
dropped_all P (suc n) (i ∷ is) h = dropped_all P n is (λ k d a b. h (suc k) d (omega (arith, a)) (omega (arith, b)))

some_all : (P : Interval → Type 0) (n : ℕ) (is : List LentInterval) → AllByRecursion P (map interval_of is) → AllByRecursion P (map interval_of (take n is))
some_all P zero is h = tt
some_all P (suc n) [] h = tt
some_all P (suc n) (i ∷ is) h = (h.0, some_all P n is h.1)

both_all : (P Q : Interval → Type 0) (is : List Interval) → AllByRecursion P is → AllByRecursion Q is → AllByRecursion (λ i. P i × Q i) is
both_all P Q [] h k = tt
both_all P Q (i ∷ is) h k = ((h.0, k.0), both_all P Q is h.1 k.1)

map_append : (is js : List LentInterval) → map interval_of (is ++ js) ≡ map interval_of is ++ map interval_of js
map_append [] js = refl
map_append (i ∷ is) js = ap (λ r. interval_of i ∷ r) (map_append is js)

three_parts : (n t : ℕ) (is : List LentInterval) → map interval_of is ≡ map interval_of (take n is) ++ (map interval_of (take t (drop n is)) ++ map interval_of (drop t (drop n is)))
three_parts n t is =
    ap (map interval_of) (sym (take-append-drop n is ∙ refl))
    ∙ map_append (take n is) (drop n is)
    ∙ ap (λ r. map interval_of (take n is) ++ r) (ap (map interval_of) (sym (take-append-drop t (drop n is))) ∙ map_append (take t (drop n is)) (drop t (drop n is)))

-- ---- what stands before, what is put there and what stands behind

pub spliced_at : (w : Bool) (r : Interval) (is : List LentInterval) (n t : ℕ) → is_empty r ≡ false → is_separate (map interval_of is) ≡ true → n ≤ length is → t ≤ length (drop n is)
    → IsPartitionPoint (λ i. cut_le r.low (cut_of i.high) ≡ false) (λ i. cut_le r.low (cut_of i.high) ≡ true) is n
    → IsPartitionPoint (λ i. cut_le (cut_of i.low) r.high ≡ true) (λ i. cut_le (cut_of i.low) r.high ≡ false) (drop n is) t
    → map interval_of (take n is) ++ (left_of w (hull_of_all r (map interval_of (take t (drop n is)))) r ++ map interval_of (drop t (drop n is)))
    ≡ combined w (map interval_of is ∷ share w (r ∷ []) ∷ [])
spliced_at w r is n t v h l m p q =
    let below = map interval_of (take n is) in
    let touched = map interval_of (take t (drop n is)) in
    let over = map interval_of (drop t (drop n is)) in
    let reach : AllByRecursion (λ i. cut_le r.low i.high ≡ true) (map interval_of (drop n is)) = dropped_all (λ i. cut_le r.low i.high ≡ true) n is p.1 in
    let touching : AllTouch r touched =
    both_all (λ i. cut_le r.low i.high ≡ true) (λ i. cut_le i.low r.high ≡ true) touched
    (some_all (λ i. cut_le r.low i.high ≡ true) t (drop n is) reach)
    (taken_all (λ i. cut_le i.low r.high ≡ true) t (drop n is) q.0 m) in
    spliced_is w r below touched over v (sym (ap is_separate (three_parts n t is)) ∙ h)
    (taken_all (EndsBelow r) n is p.0 l) touching (dropped_all (BeginsAbove r) t (drop n is) q.1)
    ∙ ap (λ s. combined w (s ∷ share w (r ∷ []) ∷ [])) (sym (three_parts n t is))

drop_sum : {X : Type 0} → (n t : ℕ) (xs : List X) → drop (n + t) xs ≡ drop t (drop n xs)
drop_sum zero t xs = ap (λ m. drop m xs) (omega arith)
drop_sum (suc n) t [] = drop-nil (suc n + t) ∙ sym (drop-nil t)
drop_sum (suc n) t (x ∷ xs) = let e : suc n + t ≡ suc (n + t) = omega arith in ap (λ m. drop m (x ∷ xs)) e ∙ drop_sum n t xs

take_less : {X : Type 0} → (n t : ℕ) (xs : List X) → take n (take (n + t) xs) ≡ take n xs
take_less zero t xs = refl
take_less (suc n) t [] = let e : suc n + t ≡ suc (n + t) = omega arith in ap (λ m. take (suc n) (take m [])) e
take_less (suc n) t (x ∷ xs) =
    let e : suc n + t ≡ suc (n + t) = omega arith in
    ap (λ m. take (suc n) (take m (x ∷ xs))) e ∙ ap (λ r. x ∷ r) (take_less n t xs)

-- the steps by which a set is changed in place
pub record Spliced (w : Bool) (r : Interval) (is new : List LentInterval) (n t : ℕ) : Type 0 where
  pub hull : Interval
  pub kept : List LentInterval
  pub cut : List LentInterval
  pub put : List LentInterval
  pub over : List LentInterval
  pub hull_is : hull ≡ hull_of_all r (map interval_of (take ((n + t) - n) (drop n is)))
  pub kept_is : kept ≡ take (n + t) is
  pub over_is : over ≡ drop (n + t) is
  pub cut_is : cut ≡ take n kept
  pub put_is : map interval_of put ≡ map interval_of cut ++ left_of w hull r
  pub new_is : new ≡ put ++ over

pub spliced_set : (w : Bool) (r : Interval) (is new : List LentInterval) (n t : ℕ) → is_empty r ≡ false → is_separate (map interval_of is) ≡ true → n ≤ length is → t ≤ length (take (length is - n) (drop n is))
    → IsPartitionPoint (λ i. cut_le r.low (cut_of i.high) ≡ false) (λ i. cut_le r.low (cut_of i.high) ≡ true) is n
    → IsPartitionPoint (λ i. cut_le (cut_of i.low) r.high ≡ true) (λ i. cut_le (cut_of i.low) r.high ≡ false) (take (length is - n) (drop n is)) t
    → Spliced w r is new n t → map interval_of new ≡ combined w (map interval_of is ∷ share w (r ∷ []) ∷ [])
spliced_set w r is new n t v h l m p q s =
    let rest = whole_rest n (length is - n) is refl in
    let hull : s.hull ≡ hull_of_all r (map interval_of (take t (drop n is))) = s.hull_is ∙ ap (λ k. hull_of_all r (map interval_of (take k (drop n is)))) (omega arith) in
    let first : s.cut ≡ take n is = s.cut_is ∙ ap (take n) s.kept_is ∙ take_less n t is in
    let last : s.over ≡ drop t (drop n is) = s.over_is ∙ drop_sum n t is in
    ap (map interval_of) s.new_is
    ∙ map_append s.put s.over
    ∙ ap₂ (λ a b. a ++ map interval_of b) (s.put_is ∙ ap₂ (λ a b. map interval_of a ++ left_of w b r) first hull) last
    ∙ append_assoc (map interval_of (take n is)) (left_of w (hull_of_all r (map interval_of (take t (drop n is)))) r) (map interval_of (drop t (drop n is)))
    ∙ spliced_at w r is n t v h l (subst (λ xs. t ≤ length xs) rest m) p
    (subst (λ xs. IsPartitionPoint (λ i. cut_le (cut_of i.low) r.high ≡ true) (λ i. cut_le (cut_of i.low) r.high ≡ false) xs t) rest q)
