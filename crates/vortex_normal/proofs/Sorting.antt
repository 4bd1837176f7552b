-- A stable sort by low cuts answers the list in that order, and only one list is in order with those that tie as they stood.
use Rattle.std.proofs.Common.{◌≡◌, ℕ, suc, Bool, true, false, not as not_b, ◌&&◌, List, [], ◌∷◌, ◌++◌, ◌+◌, ◌<◌, ◌≤◌, append_assoc, drop, length, map, get_or, refl, sym, ap, ap₂, ◌∙◌, subst, cond, if◌then◌else◌, arith}
use Rattle.std.specs.List.{filter}
use Rattle.std.specs.List.Sorted.{IsSortedBy, IsStableBy, ties}
use Rattle.std.specs.Cmp.{IsStrictWeakOrder}
use Rattle.std.proofs.lemmas.Bool.{and_parts, not-true, not-false}
use Rattle.std.proofs.lemmas.List.{drop_more}
use Rattle.std.proofs.lemmas.List.Sorted.{sorted_far}
use Rattle.vortex_rewrite.proofs.Soundness.TruthLogic.{clash, refuted}
use Rattle.vortex_normal.specs.declared.interval.Interval.{Interval as LentInterval}
use Rattle.vortex_normal.specs.Intervals.{Cut, Interval, cut_le, cut_of, higher, interval, interval_of, is_empty, left_out, placed, sorted, unless_empty}
use Rattle.vortex_normal.proofs.Sets.{AreFrom, AreInOrder, cut_trans, sorted_in_order, total}

self_if : (c : Cut) (b : Bool) → cut_le c c ≡ b → cut_le c c ≡ true
self_if c true e = e
self_if c false e = total c c e

pub cut_self : (c : Cut) → cut_le c c ≡ true
cut_self c = self_if c (cut_le c c) refl

abbrev pub is_below : LentInterval → LentInterval → Bool
is_below i j = not_b (cut_le (cut_of j.low) (cut_of i.low))

pub below_is_order : IsStrictWeakOrder is_below
below_is_order = record {
  one_way = λ i j h. ap not_b (total (cut_of j.low) (cut_of i.low) (not-true (cut_le (cut_of j.low) (cut_of i.low)) h));
  chain = λ i j k h g. ap not_b (cut_trans (cut_of k.low) (cut_of j.low) (cut_of i.low) (not-false (cut_le (cut_of k.low) (cut_of j.low)) g) (not-false (cut_le (cut_of j.low) (cut_of i.low)) h));
}

-- ---- the sorted list, as it is kept

abbrev kept_placed : LentInterval → List LentInterval → List LentInterval
kept_placed i [] = i ∷ []
kept_placed i (j ∷ js) = if cut_le (cut_of i.low) (cut_of j.low) then i ∷ j ∷ js else j ∷ kept_placed i js

abbrev kept_sorted : List LentInterval → List LentInterval
kept_sorted [] = []
kept_sorted (i ∷ is) = kept_placed i (kept_sorted is)

map_if : (i j : LentInterval) (js : List LentInterval) (b : Bool) → map interval_of (kept_placed i js) ≡ placed (interval_of i) (map interval_of js)
    → map interval_of (if b then i ∷ j ∷ js else j ∷ kept_placed i js) ≡ (if b then interval_of i ∷ interval_of j ∷ map interval_of js else interval_of j ∷ placed (interval_of i) (map interval_of js))
map_if i j js true h = refl
map_if i j js false h = ap (λ r. interval_of j ∷ r) h

map_placed : (i : LentInterval) (js : List LentInterval) → map interval_of (kept_placed i js) ≡ placed (interval_of i) (map interval_of js)
map_placed i [] = refl
map_placed i (j ∷ js) = map_if i j js (cut_le (cut_of i.low) (cut_of j.low)) (map_placed i js)

map_sorted : (is : List LentInterval) → map interval_of (kept_sorted is) ≡ sorted (map interval_of is)
map_sorted [] = refl
map_sorted (i ∷ is) = map_placed i (kept_sorted is) ∙ ap (placed (interval_of i)) (map_sorted is)

-- ---- those that tie stay as they stood

swapped_pair : (a b : Bool) (i j : LentInterval) (rest : List LentInterval) → (a ≡ true → b ≡ false)
    → cond b (j ∷ cond a (i ∷ rest) rest) (cond a (i ∷ rest) rest) ≡ cond a (i ∷ cond b (j ∷ rest) rest) (cond b (j ∷ rest) rest)
swapped_pair true true i j rest f = clash refl (f refl)
swapped_pair true false i j rest f = refl
swapped_pair false true i j rest f = refl
swapped_pair false false i j rest f = refl

module _ (z : LentInterval) where
  abbrev tie : LentInterval → Bool
  tie i = ties is_below z i

  -- two that tie with z don't begin one below the other
  not_both : (i j : LentInterval) → cut_le (cut_of i.low) (cut_of j.low) ≡ false → tie i ≡ true → tie j ≡ false
  not_both i j e h = refuted (tie j) (λ k.
      let a = and_parts (not_b (is_below z i)) (not_b (is_below i z)) h in
      let b = and_parts (not_b (is_below z j)) (not_b (is_below j z)) k in
      clash (ap not_b e) (below_is_order.chain j z i (not-true (is_below j z) b.1) (not-true (is_below z i) a.0)))

  ties_if : (i j : LentInterval) (js : List LentInterval) (b : Bool) → cut_le (cut_of i.low) (cut_of j.low) ≡ b → filter tie (kept_placed i js) ≡ filter tie (i ∷ js)
      → filter tie (if b then i ∷ j ∷ js else j ∷ kept_placed i js) ≡ filter tie (i ∷ j ∷ js)
  ties_if i j js true e h = refl
  ties_if i j js false e h =
      ap (λ r. cond (tie j) (j ∷ r) r) h
      ∙ swapped_pair (tie i) (tie j) i j (filter tie js) (not_both i j e)

  placed_ties : (i : LentInterval) (js : List LentInterval) → filter tie (kept_placed i js) ≡ filter tie (i ∷ js)
  placed_ties i [] = refl
  placed_ties i (j ∷ js) = ties_if i j js (cut_le (cut_of i.low) (cut_of j.low)) refl (placed_ties i js)

  sorted_ties : (is : List LentInterval) → filter tie (kept_sorted is) ≡ filter tie is
  sorted_ties [] = refl
  sorted_ties (i ∷ is) = placed_ties i (kept_sorted is) ∙ ap (λ r. cond (tie i) (i ∷ r) r) (sorted_ties is)

  tie_itself : tie z ≡ true
  tie_itself = ap (λ b. not_b (not_b b) && not_b (not_b b)) (cut_self (cut_of z.low))

  none_tie : (c : Cut) (is : List LentInterval) → cut_le c (cut_of z.low) ≡ false → AreFrom c (map interval_of is) → filter tie is ≡ []
  none_tie c [] e h = refl
  none_tie c (i ∷ is) e h =
      let above : cut_le (cut_of i.low) (cut_of z.low) ≡ false = refuted (cut_le (cut_of i.low) (cut_of z.low)) (λ k. clash (cut_trans c (cut_of i.low) (cut_of z.low) h.0 k) e) in
      ap (λ b. cond (not_b (not_b b) && not_b (is_below i z)) (i ∷ filter tie is) (filter tie is)) above
      ∙ none_tie c is e h.1

-- ---- one list in order

nothing : (i : LentInterval) (is : List LentInterval) → [] ≡ i ∷ is → ⊥
nothing i is h = absurd cc

abbrev Agree : List LentInterval → List LentInterval → Type 0
Agree is js = (z : LentInterval) → filter (tie z) is ≡ filter (tie z) js

-- the first interval of a list is among those that tie with it
first_ties : (i : LentInterval) (is : List LentInterval) → filter (tie i) (i ∷ is) ≡ i ∷ filter (tie i) is
first_ties i is = ap (λ b. cond b (i ∷ filter (tie i) is) (filter (tie i) is)) (tie_itself i)

not_above : (i j : LentInterval) (is js : List LentInterval) → AreInOrder (map interval_of (j ∷ js)) → Agree (i ∷ is) (j ∷ js) → cut_le (cut_of j.low) (cut_of i.low) ≡ false → ⊥
not_above i j is js h t e =
    nothing i (filter (tie i) is)
    (sym (none_tie i (cut_of j.low) (j ∷ js) e (cut_self (cut_of j.low), h.0)) ∙ sym (t i) ∙ first_ties i is)

without_first : (b : Bool) (i : LentInterval) (is js : List LentInterval) → cond b (i ∷ is) is ≡ cond b (i ∷ js) js → is ≡ js
without_first true i is js h = cc
without_first false i is js h = h

same_first : (i j : LentInterval) (is js : List LentInterval) → i ∷ is ≡ j ∷ js → i ≡ j
same_first i j is js h = cc

cons_if : (i j : LentInterval) (is js : List LentInterval) → AreInOrder (map interval_of (i ∷ is)) → AreInOrder (map interval_of (j ∷ js)) → Agree (i ∷ is) (j ∷ js) → (Agree is js → is ≡ js)
    → (a b : Bool) → cut_le (cut_of j.low) (cut_of i.low) ≡ a → cut_le (cut_of i.low) (cut_of j.low) ≡ b → i ∷ is ≡ j ∷ js
cons_if i j is js h k t rest false b d e = absurd (not_above i j is js k t d)
cons_if i j is js h k t rest true false d e = absurd (not_above j i js is h (λ z. sym (t z)) e)
cons_if i j is js h k t rest true true d e =
    let tied : tie i j ≡ true = ap₂ (λ p q. not_b (not_b p) && not_b (not_b q)) d e in
    let same : i ≡ j = same_first i j (filter (tie i) is) (filter (tie i) js) (sym (first_ties i is) ∙ t i ∙ ap (λ b. cond b (j ∷ filter (tie i) js) (filter (tie i) js)) tied) in
    let agree : Agree is js = λ z. without_first (tie z i) i (filter (tie z) is) (filter (tie z) js) (t z ∙ sym (ap (λ l. cond (tie z l) (l ∷ filter (tie z) js) (filter (tie z) js)) same)) in
    ap₂ ◌∷◌ same (rest agree)

unique : (is js : List LentInterval) → AreInOrder (map interval_of is) → AreInOrder (map interval_of js) → Agree is js → is ≡ js
unique [] [] h k t = refl
unique [] (j ∷ js) h k t = absurd (nothing j (filter (tie j) js) (t j ∙ first_ties j js))
unique (i ∷ is) [] h k t = absurd (nothing i (filter (tie i) is) (sym (t i) ∙ first_ties i is))
unique (i ∷ is) (j ∷ js) h k t =
    cons_if i j is js h k t (unique is js h.1 k.1) (cut_le (cut_of j.low) (cut_of i.low)) (cut_le (cut_of i.low) (cut_of j.low)) refl refl

from_each : (i : LentInterval) (js : List LentInterval) → ((k : ℕ) → k < length js → is_below (get_or js k i) i ≡ false) → AreFrom (cut_of i.low) (map interval_of js)
from_each i [] h = tt
from_each i (j ∷ js) h = (not-false (cut_le (cut_of i.low) (cut_of j.low)) (h 0 (omega arith)), from_each i js (λ k p. h (suc k) (omega arith)))

in_order : (is : List LentInterval) → ((k m : ℕ) (d : LentInterval) → k ≤ m → m < length is → is_below (get_or is m d) (get_or is k d) ≡ false) → AreInOrder (map interval_of is)
in_order [] h = tt
in_order (i ∷ is) h = (from_each i is (λ k p. h 0 (suc k) i (omega arith) (omega arith)), in_order is (λ k m d p q. h (suc k) (suc m) d (omega arith) (omega arith)))

pub sort_is : (is js : List LentInterval) → IsSortedBy is_below js → IsStableBy is_below is js → map interval_of js ≡ sorted (map interval_of is)
sort_is is js up stable =
    ap (map interval_of)
    (unique js (kept_sorted is) (in_order js (sorted_far is_below below_is_order js up))
    (subst AreInOrder (sym (map_sorted is)) (sorted_in_order (map interval_of is)))
    (λ z. stable z ∙ sym (sorted_ties z is)))
    ∙ map_sorted is

-- ---- what intervals in order leave out, one interval on

unless_if : (i : Interval) (is : List Interval) (b : Bool) → (if b then [] else i ∷ []) ++ is ≡ (if b then is else i ∷ is)
unless_if i is true = refl
unless_if i is false = refl

pub left_out_more : (set : List LentInterval) (i : ℕ) (x : LentInterval) (low : Cut) (done : List Interval) → i < length set → x ≡ get_or set i x
    → (done ++ unless_empty (interval low (cut_of x.low)) []) ++ left_out (higher low (cut_of x.high)) (map interval_of (drop (i + 1) set)) ≡ done ++ left_out low (map interval_of (drop i set))
left_out_more set i x low done lt is =
    let next : drop i set ≡ x ∷ drop (i + 1) set = drop_more set i x lt ∙ ap (λ y. y ∷ drop (i + 1) set) (sym is) in
    let first = interval low (cut_of x.low) in
    let rest = left_out (higher low (cut_of x.high)) (map interval_of (drop (i + 1) set)) in
    append_assoc done (unless_empty first []) rest
    ∙ ap (λ r. done ++ r) (unless_if first rest (is_empty first) ∙ sym (ap (λ l. left_out low (map interval_of l)) next))
