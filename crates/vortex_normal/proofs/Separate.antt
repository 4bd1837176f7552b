-- Separate intervals: what is made of such sets is separate, and places tell one such set from another.
use Rattle.std.proofs.Common.{◌≡◌, Bool, true, false, not as not_b, ◌&&◌, ◌||◌, List, [], ◌∷◌, ◌++◌, Option, Some, None, refl, sym, ap, ap₂, ◌∙◌, if◌then◌else◌}
use Rattle.std.specs.List.{AllByRecursion, flat_map}
use Rattle.std.proofs.lemmas.Bool.{and_parts, not-true}
use Rattle.vortex_base.specs.Data.Exact.{both_hold}
use Rattle.vortex_rewrite.proofs.Soundness.TruthLogic.{clash, refuted}
use Rattle.vortex_rewrite.proofs.Soundness.ValueTests.{le_antisym}
use Rattle.vortex_normal.specs.Intervals.{Cut, Lowest, Before, After, Highest, Interval, at_most, combined, complement, cut_le, higher, interval, is_empty, left_out, placed, share, sorted, unless_empty}
use Rattle.vortex_normal.specs.Separate.{are_beyond, are_separate, is_beyond, is_separate, lower}
use Rattle.vortex_normal.proofs.Sets.{IsPlace, cut_trans, lies_in, lies_in_combined, lies_in_sets, total}
use Rattle.vortex_normal.proofs.Sorting.{cut_self}

-- ---- cuts

pub cut_antisym : (c d : Cut) → cut_le c d ≡ true → cut_le d c ≡ true → c ≡ d
cut_antisym Lowest Lowest h k = refl
cut_antisym Lowest (Before y) h k = cc
cut_antisym Lowest (After y) h k = cc
cut_antisym Lowest Highest h k = cc
cut_antisym (Before x) Lowest h k = cc
cut_antisym (Before x) (Before y) h k = ap Before (le_antisym x y h k)
cut_antisym (Before x) (After y) h k = clash h (not-true (at_most x y) k)
cut_antisym (Before x) Highest h k = cc
cut_antisym (After x) Lowest h k = cc
cut_antisym (After x) (Before y) h k = clash k (not-true (at_most y x) h)
cut_antisym (After x) (After y) h k = ap After (le_antisym x y h k)
cut_antisym (After x) Highest h k = cc
cut_antisym Highest Lowest h k = cc
cut_antisym Highest (Before y) h k = cc
cut_antisym Highest (After y) h k = cc
cut_antisym Highest Highest h k = refl

pub below_highest : (c : Cut) → cut_le c Highest ≡ true
below_highest Lowest = refl
below_highest (Before x) = refl
below_highest (After x) = refl
below_highest Highest = refl

-- a cut that isn't at most another lies above it, and so does each above that
pub above_it : (c d e : Cut) → cut_le d c ≡ false → cut_le d e ≡ true → cut_le e c ≡ false
above_it c d e h k = refuted (cut_le e c) (λ a. clash (cut_trans d e c k a) h)

pub below_it : (c d e : Cut) → cut_le e c ≡ true → cut_le d c ≡ false → cut_le d e ≡ false
below_it c d e h k = refuted (cut_le d e) (λ a. clash (cut_trans d e c a h) k)

pub beyond_more : (b : Option Cut) (c d : Cut) → is_beyond b c ≡ true → cut_le c d ≡ true → is_beyond b d ≡ true
beyond_more None c d h k = refl
beyond_more (Some b) c d h k = ap not_b (above_it b c d (not-true (cut_le c b) h) k)

-- what is at most the higher of two ends is so by one of them
lower_if : (c d e : Cut) (b : Bool) → cut_le c d ≡ b → (cut_le (if b then c else d) c ≡ true) × (cut_le (if b then c else d) d ≡ true)
lower_if c d e true h = (cut_self c, h)
lower_if c d e false h = (total c d h, cut_self d)

pub lower_left : (c d : Cut) → cut_le (lower c d) c ≡ true
lower_left c d = (lower_if c d c (cut_le c d) refl).0

higher_if : (c d : Cut) (b : Bool) → cut_le c d ≡ b → (cut_le c (if b then d else c) ≡ true) × (cut_le d (if b then d else c) ≡ true)
higher_if c d true h = (h, cut_self d)
higher_if c d false h = (cut_self c, total c d h)

pub higher_left : (c d : Cut) → cut_le c (higher c d) ≡ true
higher_left c d = (higher_if c d (cut_le c d) refl).0

pub higher_right : (c d : Cut) → cut_le d (higher c d) ≡ true
higher_right c d = (higher_if c d (cut_le c d) refl).1

-- ---- the first of intervals beyond a cut, and those behind it

pub record Parts (b : Option Cut) (i : Interval) (is : List Interval) : Type 0 where
  pub beyond : is_beyond b i.low ≡ true
  pub values : is_empty i ≡ false
  pub later : are_beyond (Some i.high) is ≡ true

pub parts : (b : Option Cut) (i : Interval) (is : List Interval) → are_beyond b (i ∷ is) ≡ true → Parts b i is
parts b i is h =
    let a = and_parts (is_beyond b i.low) (not_b (is_empty i) && are_beyond (Some i.high) is) h in
    let v = and_parts (not_b (is_empty i)) (are_beyond (Some i.high) is) a.1 in
    record { beyond = a.0; values = not-true (is_empty i) v.0; later = v.1 }

-- ---- sets without empty intervals

abbrev pub HasValues : Interval → Type 0
HasValues i = is_empty i ≡ false

pub still_beyond : (b : Option Cut) (c : Cut) (is : List Interval) → is_beyond b c ≡ true → are_beyond (Some c) is ≡ true → are_beyond b is ≡ true
still_beyond b c [] h k = refl
still_beyond b c (i ∷ is) h k =
    let a = and_parts (is_beyond (Some c) i.low) (not_b (is_empty i) && are_beyond (Some i.high) is) k in
    both_hold _ _ (beyond_more b c i.low h (total i.low c (not-true (cut_le i.low c) a.0))) a.1

pub separate_values : (b : Option Cut) (is : List Interval) → are_beyond b is ≡ true → AllByRecursion HasValues is
separate_values b [] h = tt
separate_values b (i ∷ is) h =
    let a = and_parts (is_beyond b i.low) (not_b (is_empty i) && are_beyond (Some i.high) is) h in
    let v = and_parts (not_b (is_empty i)) (are_beyond (Some i.high) is) a.1 in
    (not-true (is_empty i) v.0, separate_values (Some i.high) is v.1)

values_if : (b : Bool) (is js : List Interval) → AllByRecursion HasValues is → AllByRecursion HasValues js → AllByRecursion HasValues (if b then is else js)
values_if true is js h k = h
values_if false is js h k = k

placed_values : (i : Interval) (js : List Interval) → HasValues i → AllByRecursion HasValues js → AllByRecursion HasValues (placed i js)
placed_values i [] h k = (h, tt)
placed_values i (j ∷ js) h k = values_if (cut_le i.low j.low) (i ∷ j ∷ js) (j ∷ placed i js) (h, k) (k.0, placed_values i js h k.1)

sorted_values : (is : List Interval) → AllByRecursion HasValues is → AllByRecursion HasValues (sorted is)
sorted_values [] h = tt
sorted_values (i ∷ is) h = placed_values i (sorted is) h.0 (sorted_values is h.1)

append_values : (is js : List Interval) → AllByRecursion HasValues is → AllByRecursion HasValues js → AllByRecursion HasValues (is ++ js)
append_values [] js h k = k
append_values (i ∷ is) js h k = (h.0, append_values is js h.1 k)

-- ---- what they leave out, and what is made of sets, is separate

pub unless_beyond : (b : Option Cut) (i : Interval) (is : List Interval) → is_beyond b i.low ≡ true → are_beyond b is ≡ true → (is_empty i ≡ false → are_beyond (Some i.high) is ≡ true) → are_beyond b (unless_empty i is) ≡ true
unless_beyond b i is h k g = by_test (is_empty i) refl
  where
    by_test : (e : Bool) → is_empty i ≡ e → are_beyond b (if e then is else i ∷ is) ≡ true
    by_test true e = k
    by_test false e = both_hold _ _ h (both_hold _ _ (ap not_b e) (g e))

left_out_separate : (b : Option Cut) (c : Cut) (is : List Interval) → is_beyond b c ≡ true → AllByRecursion HasValues is → are_beyond b (left_out c is) ≡ true
left_out_separate b c [] h v = unless_beyond b (interval c Highest) [] h refl (λ e. refl)
left_out_separate b c (i ∷ is) h v =
    let next = higher c i.high in
    unless_beyond b (interval c i.low) (left_out next is) h
    (left_out_separate b next is (beyond_more b c next h (higher_left c i.high)) v.1)
    (λ e. left_out_separate (Some i.low) next is (ap not_b (above_it i.low i.high next v.0 (higher_right c i.high))) v.1)

pub complement_separate : (is : List Interval) → AllByRecursion HasValues is → is_separate (complement is) ≡ true
complement_separate is v = left_out_separate None Lowest (sorted is) refl (sorted_values is v)

pub share_values : (w : Bool) (is : List Interval) → is_separate is ≡ true → AllByRecursion HasValues (share w is)
share_values true is h = separate_values None (complement is) (complement_separate is (separate_values None is h))
share_values false is h = separate_values None is h

shares_values : (w : Bool) (iss : List (List Interval)) → are_separate iss ≡ true → AllByRecursion HasValues (flat_map (share w) iss)
shares_values w [] h = tt
shares_values w (is ∷ iss) h =
    let a = and_parts (is_separate is) (are_separate iss) h in
    append_values (share w is) (flat_map (share w) iss) (share_values w is a.0) (shares_values w iss a.1)

pub share_separate : (w : Bool) (is : List Interval) → is_separate is ≡ true → is_separate (share w is) ≡ true
share_separate true is h = complement_separate is (separate_values None is h)
share_separate false is h = h

met_separate : (iss : List (List Interval)) → are_separate iss ≡ true → is_separate (complement (flat_map (share true) iss)) ≡ true
met_separate iss h = complement_separate (flat_map (share true) iss) (shares_values true iss h)

united_separate : (iss : List (List Interval)) → are_separate iss ≡ true → is_separate (complement (complement (flat_map (share false) iss))) ≡ true
united_separate iss h =
    let rest = complement (flat_map (share false) iss) in
    complement_separate rest (separate_values None rest (complement_separate (flat_map (share false) iss) (shares_values false iss h)))

pub combined_separate : (w : Bool) (iss : List (List Interval)) → are_separate iss ≡ true → is_separate (combined w iss) ≡ true
combined_separate w (is ∷ []) h = (and_parts (is_separate is) true h).0
combined_separate true [] h = met_separate [] h
combined_separate false [] h = united_separate [] h
combined_separate true (is ∷ js ∷ iss) h = met_separate (is ∷ js ∷ iss) h
combined_separate false (is ∷ js ∷ iss) h = united_separate (is ∷ js ∷ iss) h

-- ---- places tell separate sets apart

-- the place just above a cut
abbrev pub at : Cut → Cut → Bool
at d c = cut_le c d

pub cut_place : (d : Cut) → cut_le Highest d ≡ false → IsPlace (at d)
cut_place d h = record { falls = λ c e a b. cut_trans c e d a b; lowest = refl; highest = h }

abbrev pub AreAlike : (is js : List Interval) → Type 0
AreAlike is js = (d : Cut) → cut_le Highest d ≡ false → lies_in (at d) is ≡ lies_in (at d) js

-- where an interval begins it isn't at the end
begins_below : (i : Interval) → is_empty i ≡ false → cut_le Highest i.low ≡ false
begins_below i v = refuted (cut_le Highest i.low) (λ a. clash (cut_trans i.high Highest i.low (below_highest i.high) a) v)

none_beyond : (c d : Cut) (is : List Interval) → cut_le d c ≡ true → are_beyond (Some c) is ≡ true → lies_in (at d) is ≡ false
none_beyond c d [] h k = refl
none_beyond c d (i ∷ is) h k =
    let a = and_parts (is_beyond (Some c) i.low) (not_b (is_empty i) && are_beyond (Some i.high) is) k in
    let v = and_parts (not_b (is_empty i)) (are_beyond (Some i.high) is) a.1 in
    let from : cut_le i.low d ≡ false = below_it c i.low d h (not-true (cut_le i.low c) a.0) in
    let later : cut_le d i.high ≡ true = cut_trans d i.low i.high (total i.low d from) (total i.high i.low (not-true (is_empty i) v.0)) in
    ap₂ (λ p q. (p && not_b (cut_le i.high d)) || q) from (none_beyond i.high d is later v.1)

-- the first interval's beginning is in the set, and its end isn't
first_in : (i : Interval) (is : List Interval) (d : Cut) → cut_le i.low d ≡ true → cut_le i.high d ≡ false → lies_in (at d) (i ∷ is) ≡ true
first_in i is d h k = ap₂ (λ p q. (p && not_b q) || lies_in (at d) is) h k

end_out : (i : Interval) (is : List Interval) → are_beyond (Some i.high) is ≡ true → lies_in (at i.high) (i ∷ is) ≡ false
end_out i is h =
    ap₂ (λ p q. (cut_le i.low i.high && not_b p) || q) (cut_self i.high) (none_beyond i.high i.high is (cut_self i.high) h)
    ∙ nowhere (cut_le i.low i.high)
  where
    nowhere : (b : Bool) → ((b && false) || false) ≡ false
    nowhere true = refl
    nowhere false = refl

-- before the first beginning there is nothing
none_before : (i : Interval) (is : List Interval) (d : Cut) → cut_le i.low d ≡ false → is_empty i ≡ false → are_beyond (Some i.high) is ≡ true → lies_in (at d) (i ∷ is) ≡ false
none_before i is d h v k =
    ap₂ (λ p q. (p && not_b (cut_le i.high d)) || q) h
    (none_beyond i.high d is (cut_trans d i.low i.high (total i.low d h) (total i.high i.low v)) k)

low_le : (i j : Interval) (is js : List Interval) → is_empty i ≡ false → is_empty j ≡ false → are_beyond (Some j.high) js ≡ true → AreAlike (i ∷ is) (j ∷ js) → cut_le j.low i.low ≡ true
low_le i j is js v u k same = by_test (cut_le j.low i.low) refl
  where
    by_test : (b : Bool) → cut_le j.low i.low ≡ b → cut_le j.low i.low ≡ true
    by_test true e = e
    by_test false e = clash (sym (same i.low (begins_below i v)) ∙ first_in i is i.low (cut_self i.low) v) (none_before j js i.low e u k)

high_le : (i j : Interval) (is js : List Interval) → i.low ≡ j.low → is_empty i ≡ false → are_beyond (Some i.high) is ≡ true → AreAlike (i ∷ is) (j ∷ js) → cut_le j.high i.high ≡ true
high_le i j is js low v k same = by_test (cut_le j.high i.high) refl
  where
    by_test : (b : Bool) → cut_le j.high i.high ≡ b → cut_le j.high i.high ≡ true
    by_test true e = e
    by_test false e =
        let inner : cut_le Highest i.high ≡ false = refuted (cut_le Highest i.high) (λ a. clash (cut_trans j.high Highest i.high (below_highest j.high) a) e) in
        let from : cut_le j.low i.high ≡ true = sym (ap (λ c. cut_le c i.high) low) ∙ total i.high i.low v in
        clash (same i.high inner ∙ first_in j js i.high from e) (end_out i is k)

tails_alike : (i : Interval) (is js : List Interval) → are_beyond (Some i.high) is ≡ true → are_beyond (Some i.high) js ≡ true → AreAlike (i ∷ is) (i ∷ js) → AreAlike is js
tails_alike i is js h k same d e = by_test (cut_le i.low d) (cut_le i.high d) refl refl
  where
    by_test : (p q : Bool) → cut_le i.low d ≡ p → cut_le i.high d ≡ q → lies_in (at d) is ≡ lies_in (at d) js
    by_test true false a b = none_beyond i.high d is (total i.high d b) h ∙ sym (none_beyond i.high d js (total i.high d b) k)
    by_test false q a b =
        sym (ap (λ p. (p && not_b (cut_le i.high d)) || lies_in (at d) is) a) ∙ same d e
        ∙ ap (λ p. (p && not_b (cut_le i.high d)) || lies_in (at d) js) a
    by_test true true a b =
        sym (ap₂ (λ p q. (p && not_b q) || lies_in (at d) is) a b) ∙ same d e
        ∙ ap₂ (λ p q. (p && not_b q) || lies_in (at d) js) a b

same_interval : (i j : Interval) → i.low ≡ j.low → i.high ≡ j.high → i ≡ j
same_interval i j h k = ap₂ (λ c d. interval c d) h k

alike_from : (b : Option Cut) (is js : List Interval) → are_beyond b is ≡ true → are_beyond b js ≡ true → AreAlike is js → is ≡ js
alike_from b [] [] h k same = refl
alike_from b [] (j ∷ js) h k same =
    let p = parts b j js k in
    clash (same j.low (begins_below j p.values) ∙ first_in j js j.low (cut_self j.low) p.values) refl
alike_from b (i ∷ is) [] h k same =
    let p = parts b i is h in
    clash (sym (same i.low (begins_below i p.values)) ∙ first_in i is i.low (cut_self i.low) p.values) refl
alike_from b (i ∷ is) (j ∷ js) h k same =
    let p = parts b i is h in
    let q = parts b j js k in
    let turned : AreAlike (j ∷ js) (i ∷ is) = λ d e. sym (same d e) in
    let low : i.low ≡ j.low = cut_antisym i.low j.low (low_le j i js is q.values p.values p.later turned) (low_le i j is js p.values q.values q.later same) in
    let high : i.high ≡ j.high = cut_antisym i.high j.high (high_le j i js is (sym low) q.values q.later turned) (high_le i j is js low p.values p.later same) in
    let first : i ≡ j = same_interval i j low high in
    let later : are_beyond (Some i.high) js ≡ true = ap (λ c. are_beyond (Some c) js) high ∙ q.later in
    let all : AreAlike (i ∷ is) (i ∷ js) = λ d e. same d e ∙ ap (λ l. lies_in (at d) (l ∷ js)) (sym first) in
    ap₂ ◌∷◌ first (alike_from (Some i.high) is js p.later later (tails_alike i is js p.later later all))

pub same_set : (is js : List Interval) → is_separate is ≡ true → is_separate js ≡ true → AreAlike is js → is ≡ js
same_set is js h k same = alike_from None is js h k same

-- what AND or OR makes of sets is told by where it lies
pub same_combined : (w : Bool) (is : List Interval) (iss : List (List Interval)) → is_separate is ≡ true → are_separate iss ≡ true
    → ((d : Cut) → cut_le Highest d ≡ false → lies_in (at d) is ≡ lies_in_sets w (at d) iss) → is ≡ combined w iss
same_combined w is iss h k same =
    same_set is (combined w iss) h (combined_separate w iss k)
    (λ d e. same d e ∙ sym (lies_in_combined (at d) (cut_place d e) w iss))
