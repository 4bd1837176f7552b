-- What is in the sets that are made of sets.
use Rattle.std.proofs.Common.{◌≡◌, Bool, true, false, not as not_b, ◌&&◌, ◌||◌, List, [], ◌∷◌, ◌++◌, refl, sym, ap, ap₂, ◌∙◌, if◌then◌else◌}
use Rattle.std.specs.List.{flat_map}
use Rattle.std.proofs.lemmas.Bool.{not-true, not-false}
use Rattle.vortex_base.specs.declared.scalar_value.ScalarValue.{ScalarValue}
use Rattle.vortex_expr.specs.declared.scalar_fn.Operator.{Operator}
use Rattle.vortex_expr.specs.declared.scalar_fn.Operator.TheVariants.{Eq, NotEq, Gt, Gte, Lt, Lte, And, Or}
use Rattle.vortex_expr.specs.Meanings.Meaning.{holds}
use Rattle.vortex_base.specs.Data.Values.{value_cmp}
use Rattle.vortex_rewrite.proofs.Completeness.Interval.{is_comparison}
use Rattle.vortex_rewrite.proofs.Soundness.TruthLogic.{clash, refuted}
use Rattle.vortex_rewrite.proofs.Soundness.ValueTests.{by_le, holds_by_le, le_total, le_trans}
use Rattle.vortex_normal.specs.Intervals.{Cut, Lowest, Before, After, Highest, Interval, above, at_most, combined, comparison_set, complement, contains, cut_le, higher, in_set, interval, is_empty, left_out, placed, share, sorted, swapped, unless_empty}
use Rattle.vortex_normal.specs.Separate.{lower}
use Rattle.vortex_normal.proofs.Told.{joined}

-- ---- cuts are in a total order, and a value is above all cuts up to some place

not_at_most : (x y : ScalarValue) → not_b (at_most x y) ≡ true → at_most y x ≡ true
not_at_most x y h = le_total x y (not-true (at_most x y) h)

pub monotone : (c d : Cut) (v : ScalarValue) → cut_le c d ≡ true → above d v ≡ true → above c v ≡ true
monotone Lowest d v h k = refl
monotone (Before x) Lowest v h k = cc
monotone (Before x) (Before y) v h k = le_trans x y v h k
monotone (Before x) (After y) v h k = le_trans x y v h (not_at_most v y k)
monotone (Before x) Highest v h k = cc
monotone (After x) Lowest v h k = cc
monotone (After x) (Before y) v h k = ap not_b (refuted (at_most v x) (λ e. clash (le_trans y v x k e) (not-true (at_most y x) h)))
monotone (After x) (After y) v h k = ap not_b (refuted (at_most v x) (λ e. clash (le_trans v x y e h) (not-true (at_most v y) k)))
monotone (After x) Highest v h k = cc
monotone Highest Lowest v h k = cc
monotone Highest (Before y) v h k = cc
monotone Highest (After y) v h k = cc
monotone Highest Highest v h k = k

pub total : (c d : Cut) → cut_le c d ≡ false → cut_le d c ≡ true
total Lowest d h = cc
total (Before x) Lowest h = refl
total (Before x) (Before y) h = le_total x y h
total (Before x) (After y) h = ap not_b h
total (Before x) Highest h = cc
total (After x) Lowest h = refl
total (After x) (Before y) h = not-false (at_most y x) h
total (After x) (After y) h = le_total x y h
total (After x) Highest h = cc
total Highest Lowest h = refl
total Highest (Before y) h = refl
total Highest (After y) h = refl
total Highest Highest h = cc

and_second : (p q : Bool) → (q ≡ true → p ≡ true) → q ≡ (p && q)
and_second true q f = refl
and_second false true f = sym (f refl)
and_second false false f = refl

and_first : (p q : Bool) → (p ≡ true → q ≡ true) → p ≡ (p && q)
and_first false q f = refl
and_first true q f = sym (f refl)

or_first : (p q : Bool) → (q ≡ true → p ≡ true) → p ≡ (p || q)
or_first true q f = refl
or_first false true f = f refl
or_first false false f = refl

or_second : (p q : Bool) → (p ≡ true → q ≡ true) → q ≡ (p || q)
or_second false q f = refl
or_second true true f = refl
or_second true false f = f refl

pub cut_trans : (c d e : Cut) → cut_le c d ≡ true → cut_le d e ≡ true → cut_le c e ≡ true
cut_trans Lowest d e h k = refl
cut_trans (Before x) Lowest e h k = cc
cut_trans (Before x) (Before y) Lowest h k = cc
cut_trans (Before x) (Before y) (Before z) h k = le_trans x y z h k
cut_trans (Before x) (Before y) (After z) h k = le_trans x y z h k
cut_trans (Before x) (Before y) Highest h k = refl
cut_trans (Before x) (After y) Lowest h k = cc
cut_trans (Before x) (After y) (Before z) h k = le_trans x y z h (not_at_most z y k)
cut_trans (Before x) (After y) (After z) h k = le_trans x y z h k
cut_trans (Before x) (After y) Highest h k = refl
cut_trans (Before x) Highest Lowest h k = cc
cut_trans (Before x) Highest (Before z) h k = cc
cut_trans (Before x) Highest (After z) h k = cc
cut_trans (Before x) Highest Highest h k = refl
cut_trans (After x) Lowest e h k = cc
cut_trans (After x) (Before y) Lowest h k = cc
cut_trans (After x) (Before y) (Before z) h k = ap not_b (refuted (at_most z x) (λ a. clash (le_trans y z x k a) (not-true (at_most y x) h)))
cut_trans (After x) (Before y) (After z) h k = le_trans x y z (not_at_most y x h) k
cut_trans (After x) (Before y) Highest h k = refl
cut_trans (After x) (After y) Lowest h k = cc
cut_trans (After x) (After y) (Before z) h k = ap not_b (refuted (at_most z x) (λ a. clash (le_trans z x y a h) (not-true (at_most z y) k)))
cut_trans (After x) (After y) (After z) h k = le_trans x y z h k
cut_trans (After x) (After y) Highest h k = refl
cut_trans (After x) Highest Lowest h k = cc
cut_trans (After x) Highest (Before z) h k = cc
cut_trans (After x) Highest (After z) h k = cc
cut_trans (After x) Highest Highest h k = refl
cut_trans Highest Lowest e h k = cc
cut_trans Highest (Before y) e h k = cc
cut_trans Highest (After y) e h k = cc
cut_trans Highest Highest e h k = k

-- ---- intervals

crossed : (a b : Bool) → (a ≡ true → b ≡ true) → (a && not_b b) ≡ false
crossed false b f = refl
crossed true b f = ap not_b (f refl)

-- ---- intervals in the order of their low cuts

abbrev pub AreFrom : Cut → List Interval → Type 0
AreFrom c [] = Unit {0}
AreFrom c (i ∷ is) = (cut_le c i.low ≡ true) × AreFrom c is

abbrev pub AreInOrder : List Interval → Type 0
AreInOrder [] = Unit {0}
AreInOrder (i ∷ is) = AreFrom i.low is × AreInOrder is

still_from : (c d : Cut) (is : List Interval) → cut_le c d ≡ true → AreFrom d is → AreFrom c is
still_from c d [] h k = tt
still_from c d (i ∷ is) h k = (cut_trans c d i.low h k.0, still_from c d is h k.1)

from_if : (c : Cut) (i j : Interval) (js ks : List Interval) (b : Bool) → cut_le c i.low ≡ true → cut_le c j.low ≡ true → AreFrom c js → AreFrom c ks → AreFrom c (if b then i ∷ j ∷ js else j ∷ ks)
from_if c i j js ks true h k f g = (h, (k, f))
from_if c i j js ks false h k f g = (k, g)

placed_from : (c : Cut) (i : Interval) (js : List Interval) → cut_le c i.low ≡ true → AreFrom c js → AreFrom c (placed i js)
placed_from c i [] h k = (h, tt)
placed_from c i (j ∷ js) h k = from_if c i j js (placed i js) (cut_le i.low j.low) h k.0 k.1 (placed_from c i js h k.1)

order_if : (i j : Interval) (js : List Interval) (b : Bool) → cut_le i.low j.low ≡ b → AreInOrder (j ∷ js) → AreInOrder (placed i js) → AreInOrder (if b then i ∷ j ∷ js else j ∷ placed i js)
order_if i j js true e h k = ((e, still_from i.low j.low js e h.0), h)
order_if i j js false e h k = (placed_from j.low i js (total i.low j.low e) h.0, k)

placed_in_order : (i : Interval) (js : List Interval) → AreInOrder js → AreInOrder (placed i js)
placed_in_order i [] h = (tt, tt)
placed_in_order i (j ∷ js) h = order_if i j js (cut_le i.low j.low) refl h (placed_in_order i js h.1)

pub sorted_in_order : (is : List Interval) → AreInOrder (sorted is)
sorted_in_order [] = tt
sorted_in_order (i ∷ is) = placed_in_order i (sorted is) (sorted_in_order is)

-- ---- sets

pub or_assoc : (a b c : Bool) → ((a || b) || c) ≡ (a || (b || c))
or_assoc true b c = refl
or_assoc false b c = refl

or_swap : (a b c : Bool) → (b || (a || c)) ≡ (a || (b || c))
or_swap true true c = refl
or_swap true false c = refl
or_swap false b c = refl

-- the sets' values together: those in all of them, or in any
abbrev pub in_sets : (is_and : Bool) → List (List Interval) → ScalarValue → Bool
in_sets w [] v = w
in_sets w (is ∷ iss) v = joined w (in_set is v) (in_sets w iss v)

-- a place between lower cuts and higher ones, by the test that a cut is one of the lower: it lies in an interval, and in some interval of a set
abbrev pub lies_within : (is_lower : Cut → Bool) → Interval → Bool
lies_within f i = f i.low && not_b (f i.high)

abbrev pub lies_in : (is_lower : Cut → Bool) → List Interval → Bool
lies_in f [] = false
lies_in f (i ∷ is) = lies_within f i || lies_in f is

-- in all of the sets, or in any
abbrev pub lies_in_sets : (is_and : Bool) → (is_lower : Cut → Bool) → List (List Interval) → Bool
lies_in_sets w f [] = w
lies_in_sets w f (is ∷ iss) = joined w (lies_in f is) (lies_in_sets w f iss)

-- what is lower than a lower cut is one of the lower, the lowest is and the highest isn't
pub record IsPlace (is_lower : Cut → Bool) : Type 0 where
  pub falls : (c d : Cut) → cut_le c d ≡ true → is_lower d ≡ true → is_lower c ≡ true
  pub lowest : is_lower Lowest ≡ true
  pub highest : is_lower Highest ≡ false

-- a value's
value_place : (v : ScalarValue) → IsPlace (λ c. above c v)
value_place v = record { falls = λ c d h k. monotone c d v h k; lowest = refl; highest = refl }

module _ (f : Cut → Bool) (place : IsPlace f) where
  higher_by : (c d : Cut) (b : Bool) → cut_le c d ≡ b → f (if b then d else c) ≡ (f c && f d)
  higher_by c d true e = and_second (f c) (f d) (place.falls c d e)
  higher_by c d false e = and_first (f c) (f d) (place.falls d c (total c d e))

  pub at_higher : (c d : Cut) → f (higher c d) ≡ (f c && f d)
  at_higher c d = higher_by c d (cut_le c d) refl

  lower_by : (c d : Cut) (b : Bool) → cut_le c d ≡ b → f (if b then c else d) ≡ (f c || f d)
  lower_by c d true e = or_first (f c) (f d) (place.falls c d e)
  lower_by c d false e = or_second (f c) (f d) (place.falls d c (total c d e))

  pub at_lower : (c d : Cut) → f (lower c d) ≡ (f c || f d)
  at_lower c d = lower_by c d (cut_le c d) refl

  in_empty : (i : Interval) → is_empty i ≡ true → lies_within f i ≡ false
  in_empty i h = crossed (f i.low) (f i.high) (place.falls i.high i.low h)

  placed_if : (i j : Interval) (js : List Interval) (b : Bool) → lies_in f (placed i js) ≡ (lies_within f i || lies_in f js) → lies_in f (if b then i ∷ j ∷ js else j ∷ placed i js) ≡ (lies_within f i || (lies_within f j || lies_in f js))
  placed_if i j js true h = refl
  placed_if i j js false h = ap (λ b. lies_within f j || b) h ∙ or_swap (lies_within f i) (lies_within f j) (lies_in f js)

  in_placed : (i : Interval) (js : List Interval) → lies_in f (placed i js) ≡ (lies_within f i || lies_in f js)
  in_placed i [] = refl
  in_placed i (j ∷ js) = placed_if i j js (cut_le i.low j.low) (in_placed i js)

  in_sorted : (is : List Interval) → lies_in f (sorted is) ≡ lies_in f is
  in_sorted [] = refl
  in_sorted (i ∷ is) = in_placed i (sorted is) ∙ ap (λ b. lies_within f i || b) (in_sorted is)

  unless_by : (i : Interval) (is : List Interval) (b : Bool) → is_empty i ≡ b → lies_in f (if b then is else i ∷ is) ≡ (lies_within f i || lies_in f is)
  unless_by i is true e = sym (ap (λ b. b || lies_in f is) (in_empty i e))
  unless_by i is false e = refl

  pub in_unless : (i : Interval) (is : List Interval) → lies_in f (unless_empty i is) ≡ (lies_within f i || lies_in f is)
  in_unless i is = unless_by i is (is_empty i) refl

  -- what lies below where a set's intervals begin is in none
  none_below : (c : Cut) (is : List Interval) → AreFrom c is → f c ≡ false → lies_in f is ≡ false
  none_below c [] h k = refl
  none_below c (i ∷ is) h k =
      ap₂ ◌||◌
      (ap (λ b. b && not_b (f i.high)) (refuted (f i.low) (λ a. clash (place.falls c i.low h.0 a) k)))
      (none_below c is h.1 k)

  up_from : (a b : Bool) → b ≡ false → ((a && not_b b) || false) ≡ (a && true)
  up_from a true e = cc
  up_from true false e = refl
  up_from false false e = refl

  -- a: above the cut; l, h: above the ends of the first interval; s: in a later one
  past_first : (a l h s : Bool) → (l ≡ false → s ≡ false) → ((a && not_b l) || ((a && h) && not_b s)) ≡ (a && not_b ((l && not_b h) || s))
  past_first false l h s f = refl
  past_first true true true s f = refl
  past_first true true false s f = refl
  past_first true false true s f = ap not_b (sym (f refl))
  past_first true false false s f = ap not_b (sym (f refl))

  in_left_out : (c : Cut) (is : List Interval) → AreInOrder is → lies_in f (left_out c is) ≡ (f c && not_b (lies_in f is))
  in_left_out c [] h = in_unless (interval c Highest) [] ∙ up_from (f c) (f Highest) place.highest
  in_left_out c (i ∷ is) h =
      in_unless (interval c i.low) (left_out (higher c i.high) is)
      ∙ ap (λ b. (f c && not_b (f i.low)) || b) (in_left_out (higher c i.high) is h.1 ∙ ap (λ b. b && not_b (lies_in f is)) (at_higher c i.high))
      ∙ past_first (f c) (f i.low) (f i.high) (lies_in f is) (none_below i.low is h.0)

  pub in_complement : (is : List Interval) → lies_in f (complement is) ≡ not_b (lies_in f is)
  in_complement is =
      in_left_out Lowest (sorted is) (sorted_in_order is)
      ∙ ap₂ (λ a b. a && not_b b) place.lowest (in_sorted is)

  pub in_append : (is js : List Interval) → lies_in f (is ++ js) ≡ (lies_in f is || lies_in f js)
  in_append [] js = refl
  in_append (i ∷ is) js = ap (λ b. lies_within f i || b) (in_append is js) ∙ sym (or_assoc (lies_within f i) (lies_in f is) (lies_in f js))

  not_both : (a b : Bool) → not_b (not_b a || b) ≡ (a && not_b b)
  not_both true b = refl
  not_both false b = refl

  -- an AND's are those that no set leaves out
  in_all : (iss : List (List Interval)) → not_b (lies_in f (flat_map (share true) iss)) ≡ lies_in_sets true f iss
  in_all [] = refl
  in_all (is ∷ iss) =
      ap not_b (in_append (complement is) (flat_map (share true) iss) ∙ ap (λ b. b || lies_in f (flat_map (share true) iss)) (in_complement is))
      ∙ not_both (lies_in f is) (lies_in f (flat_map (share true) iss))
      ∙ ap (λ b. lies_in f is && b) (in_all iss)

  in_any : (iss : List (List Interval)) → lies_in f (flat_map (share false) iss) ≡ lies_in_sets false f iss
  in_any [] = refl
  in_any (is ∷ iss) = in_append is (flat_map (share false) iss) ∙ ap (λ b. lies_in f is || b) (in_any iss)

  not_twice : (b : Bool) → not_b (not_b b) ≡ b
  not_twice true = refl
  not_twice false = refl

  met : (iss : List (List Interval)) → lies_in f (complement (flat_map (share true) iss)) ≡ lies_in_sets true f iss
  met iss = in_complement (flat_map (share true) iss) ∙ in_all iss

  united : (iss : List (List Interval)) → lies_in f (complement (complement (flat_map (share false) iss))) ≡ lies_in_sets false f iss
  united iss =
      in_complement (complement (flat_map (share false) iss))
      ∙ ap not_b (in_complement (flat_map (share false) iss))
      ∙ not_twice (lies_in f (flat_map (share false) iss))
      ∙ in_any iss

  with_unit : (w a : Bool) → a ≡ joined w a w
  with_unit true true = refl
  with_unit true false = refl
  with_unit false true = refl
  with_unit false false = refl

  pub lies_in_combined : (w : Bool) (iss : List (List Interval)) → lies_in f (combined w iss) ≡ lies_in_sets w f iss
  lies_in_combined w (is ∷ []) = with_unit w (lies_in f is)
  lies_in_combined true [] = met []
  lies_in_combined false [] = united []
  lies_in_combined true (is ∷ js ∷ iss) = met (is ∷ js ∷ iss)
  lies_in_combined false (is ∷ js ∷ iss) = united (is ∷ js ∷ iss)

module _ (v : ScalarValue) where
  value_lies : (is : List Interval) → in_set is v ≡ lies_in (λ c. above c v) is
  value_lies [] = refl
  value_lies (i ∷ is) = ap (λ b. contains i v || b) (value_lies is)

  value_in_sets : (w : Bool) (iss : List (List Interval)) → lies_in_sets w (λ c. above c v) iss ≡ in_sets w iss v
  value_in_sets w [] = refl
  value_in_sets w (is ∷ iss) = ap₂ (joined w) (sym (value_lies is)) (value_in_sets w iss)

  pub in_combined : (w : Bool) (iss : List (List Interval)) → in_set (combined w iss) v ≡ in_sets w iss v
  in_combined w iss = value_lies (combined w iss) ∙ lies_in_combined (λ c. above c v) (value_place v) w iss ∙ value_in_sets w iss

-- ---- comparisons

by_tests : (o : Operator) (x v : ScalarValue) (a b : Bool) → at_most x v ≡ a → at_most v x ≡ b → is_comparison o ≡ true → in_set (comparison_set o v) x ≡ by_le o a b
by_tests Eq x v a b e f c = (λ k. (f k && not_b (not_b (e k))) || false) ∙ eq a b
  where
    eq : (a b : Bool) → ((b && not_b (not_b a)) || false) ≡ (a && b)
    eq true true = refl
    eq true false = refl
    eq false true = refl
    eq false false = refl
by_tests NotEq x v a b e f c = (λ k. (true && not_b (f k)) || ((not_b (e k) && not_b false) || false)) ∙ neq a b
  where
    neq : (a b : Bool) → (not_b b || ((not_b a && true) || false)) ≡ not_b (a && b)
    neq true true = refl
    neq true false = refl
    neq false true = refl
    neq false false = refl
by_tests Gt x v a b e f c = (λ k. (not_b (e k) && not_b false) || false) ∙ gt a
  where
    gt : (a : Bool) → ((not_b a && true) || false) ≡ not_b a
    gt true = refl
    gt false = refl
by_tests Gte x v a b e f c = (λ k. (f k && not_b false) || false) ∙ gte b
  where
    gte : (b : Bool) → ((b && true) || false) ≡ b
    gte true = refl
    gte false = refl
by_tests Lt x v a b e f c = (λ k. (true && not_b (f k)) || false) ∙ lt b
  where
    lt : (b : Bool) → (not_b b || false) ≡ not_b b
    lt true = refl
    lt false = refl
by_tests Lte x v a b e f c = (λ k. (true && not_b (not_b (e k))) || false) ∙ lte a
  where
    lte : (a : Bool) → (not_b (not_b a) || false) ≡ a
    lte true = refl
    lte false = refl
by_tests And x v a b e f c = cc
by_tests Or x v a b e f c = cc

-- a value is in the set of a comparison exactly if the comparison holds of it
pub in_comparison : (o : Operator) (x v : ScalarValue) → is_comparison o ≡ true → in_set (comparison_set o v) x ≡ holds o (value_cmp x v)
in_comparison o x v c = by_tests o x v (at_most x v) (at_most v x) refl refl c ∙ sym (holds_by_le o x v)

by_le_swapped : (o : Operator) (a b : Bool) → by_le (swapped o) a b ≡ by_le o b a
by_le_swapped Eq true true = refl
by_le_swapped Eq true false = refl
by_le_swapped Eq false true = refl
by_le_swapped Eq false false = refl
by_le_swapped NotEq true true = refl
by_le_swapped NotEq true false = refl
by_le_swapped NotEq false true = refl
by_le_swapped NotEq false false = refl
by_le_swapped Gt a b = refl
by_le_swapped Gte a b = refl
by_le_swapped Lt a b = refl
by_le_swapped Lte a b = refl
by_le_swapped And a b = refl
by_le_swapped Or a b = refl

pub holds_swapped : (o : Operator) (x y : ScalarValue) → holds (swapped o) (value_cmp x y) ≡ holds o (value_cmp y x)
holds_swapped o x y = holds_by_le (swapped o) x y ∙ by_le_swapped o (at_most x y) (at_most y x) ∙ sym (holds_by_le o y x)
