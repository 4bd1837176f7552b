-- Sets that are taken in one after another, an interval at a time, come to what their AND or OR is.
use Rattle.std.proofs.Common.{◌≡◌, Bool, true, false, not as not_b, ◌&&◌, ◌||◌, List, [], ◌∷◌, Option, Some, None, arith, length, refl, sym, ap, ap₂, ◌∙◌}
use Rattle.std.proofs.lemmas.Bool.{and_parts}
use Rattle.vortex_base.specs.Data.Exact.{both_hold}
use Rattle.vortex_normal.specs.Intervals.{Cut, Lowest, Highest, Interval, combined, interval, is_empty, share}
use Rattle.vortex_normal.specs.Separate.{are_beyond, are_separate, is_separate}
use Rattle.vortex_normal.proofs.Sets.{IsPlace, in_complement, lies_in, lies_in_combined, lies_in_sets, lies_within}
use Rattle.vortex_normal.proofs.Separate.{at, combined_separate, cut_place, parts, same_combined, share_separate}
use Rattle.vortex_normal.proofs.Told.{joined}

abbrev LieAlike : (is_and : Bool) → (iss jss : List (List Interval)) → Type 0
LieAlike w iss jss = (f : Cut → Bool) → IsPlace f → lies_in_sets w f iss ≡ lies_in_sets w f jss

alike_combined : (w : Bool) (iss jss : List (List Interval)) → are_separate iss ≡ true → are_separate jss ≡ true → LieAlike w iss jss → combined w iss ≡ combined w jss
alike_combined w iss jss h k same =
    same_combined w (combined w iss) jss (combined_separate w iss h) k
    (λ d e. lies_in_combined (at d) (cut_place d e) w iss ∙ same (at d) (cut_place d e))

two_separate : (is js : List Interval) → is_separate is ≡ true → is_separate js ≡ true → are_separate (is ∷ js ∷ []) ≡ true
two_separate is js h k = both_hold _ _ h (both_hold _ _ k refl)

-- ---- of two sets the one or the other may come first

joined_turned : (w a b : Bool) → joined w a (joined w b w) ≡ joined w b (joined w a w)
joined_turned true true true = refl
joined_turned true true false = refl
joined_turned true false true = refl
joined_turned true false false = refl
joined_turned false true true = refl
joined_turned false true false = refl
joined_turned false false true = refl
joined_turned false false false = refl

pub turned : (w : Bool) (is js : List Interval) → is_separate is ≡ true → is_separate js ≡ true → combined w (js ∷ is ∷ []) ≡ combined w (is ∷ js ∷ [])
turned w is js h k =
    alike_combined w (js ∷ is ∷ []) (is ∷ js ∷ []) (two_separate js is k h) (two_separate is js h k)
    (λ f p. joined_turned w (lies_in f js) (lies_in f is))

-- ---- an interval at a time

not_twice : (b : Bool) → not_b (not_b b) ≡ b
not_twice true = refl
not_twice false = refl

shared_twice : (f : Cut → Bool) → IsPlace f → (w : Bool) (is : List Interval) → lies_in f (share w (share w is)) ≡ lies_in f is
shared_twice f p true is = in_complement f p (share true is) ∙ ap not_b (in_complement f p is) ∙ not_twice (lies_in f is)
shared_twice f p false is = refl

-- a share is what is taken in
pub from_share : (w : Bool) (is few : List Interval) → is_separate is ≡ true → is_separate few ≡ true → combined w (is ∷ share w (share w few) ∷ []) ≡ combined w (is ∷ few ∷ [])
from_share w is few h k =
    alike_combined w (is ∷ share w (share w few) ∷ []) (is ∷ few ∷ [])
    (two_separate is (share w (share w few)) h (share_separate w (share w few) (share_separate w few k)))
    (two_separate is few h k)
    (λ f p. ap (λ b. joined w (lies_in f is) (joined w b w)) (shared_twice f p w few))

unbound : (b : Option Cut) (is : List Interval) → are_beyond b is ≡ true → is_separate is ≡ true
unbound b [] h = refl
unbound b (i ∷ is) h = let p = parts b i is h in both_hold _ _ refl (both_hold _ _ (ap not_b p.values) p.later)

pub rest_of : (i : Interval) (is : List Interval) → is_separate (i ∷ is) ≡ true → is_separate is ≡ true
rest_of i is h = unbound (Some i.high) is (parts None i is h).later

pub first_of : (i : Interval) (is : List Interval) → is_separate (i ∷ is) ≡ true → is_empty i ≡ false
first_of i is h = (parts None i is h).values

alone : (i : Interval) (is : List Interval) → is_separate (i ∷ is) ≡ true → is_separate (i ∷ []) ≡ true
alone i is h = both_hold _ _ refl (both_hold _ _ (ap not_b (first_of i is h)) refl)

-- a: in the set; i: in the first interval; r: in one behind it
and_step : (a i r : Bool) → ((a && (not_b (i || false) && true)) && (not_b r && true)) ≡ (a && (not_b (i || r) && true))
and_step false i r = refl
and_step true true r = refl
and_step true false r = refl

or_step : (a i r : Bool) → ((a || ((i || false) || false)) || (r || false)) ≡ (a || ((i || r) || false))
or_step true i r = refl
or_step false true r = refl
or_step false false r = refl

step_lies : (w : Bool) (set : List Interval) (i : Interval) (is : List Interval) → LieAlike w (combined w (set ∷ share w (i ∷ []) ∷ []) ∷ share w is ∷ []) (set ∷ share w (i ∷ is) ∷ [])
step_lies true set i is f p =
    ap₂ (λ a b. a && (b && true))
    (lies_in_combined f p true (set ∷ share true (i ∷ []) ∷ []) ∙ ap (λ b. lies_in f set && (b && true)) (in_complement f p (i ∷ [])))
    (in_complement f p is)
    ∙ and_step (lies_in f set) (lies_within f i) (lies_in f is)
    ∙ ap (λ b. lies_in f set && (b && true)) (sym (in_complement f p (i ∷ is)))
step_lies false set i is f p =
    ap (λ a. a || (lies_in f is || false)) (lies_in_combined f p false (set ∷ (i ∷ []) ∷ []))
    ∙ or_step (lies_in f set) (lies_within f i) (lies_in f is)

pub one_taken : (w : Bool) (set : List Interval) (i : Interval) (is : List Interval) → is_separate set ≡ true → is_separate (i ∷ is) ≡ true
    → combined w (combined w (set ∷ share w (i ∷ []) ∷ []) ∷ share w is ∷ []) ≡ combined w (set ∷ share w (i ∷ is) ∷ [])
one_taken w set i is h k =
    let changed = combined w (set ∷ share w (i ∷ []) ∷ []) in
    alike_combined w (changed ∷ share w is ∷ []) (set ∷ share w (i ∷ is) ∷ [])
    (two_separate changed (share w is)
    (combined_separate w (set ∷ share w (i ∷ []) ∷ []) (two_separate set (share w (i ∷ [])) h (share_separate w (i ∷ []) (alone i is k))))
    (share_separate w is (rest_of i is k)))
    (two_separate set (share w (i ∷ is)) h (share_separate w (i ∷ is) k)) (step_lies w set i is)

pub taken_separate : (w : Bool) (set : List Interval) (i : Interval) (is : List Interval) → is_separate set ≡ true → is_separate (i ∷ is) ≡ true → is_separate (combined w (set ∷ share w (i ∷ []) ∷ [])) ≡ true
taken_separate w set i is h k = combined_separate w (set ∷ share w (i ∷ []) ∷ []) (two_separate set (share w (i ∷ [])) h (share_separate w (i ∷ []) (alone i is k)))

none_lie : (w : Bool) (set : List Interval) → LieAlike w (set ∷ share w [] ∷ []) (set ∷ [])
none_lie true set f p = ap (λ b. lies_in f set && (b && true)) (in_complement f p [])
none_lie false set f p = refl

pub none_left : (w : Bool) (set : List Interval) → is_separate set ≡ true → combined w (set ∷ share w [] ∷ []) ≡ set
none_left w set h =
    alike_combined w (set ∷ share w [] ∷ []) (set ∷ []) (two_separate set (share w []) h (share_separate w [] refl)) (both_hold _ _ h refl) (none_lie w set)

-- ---- a set at a time

-- what an AND or OR takes nothing from
abbrev pub unit : (is_and : Bool) → List Interval
unit true = interval Lowest Highest ∷ []
unit false = []

unit_lies : (w : Bool) (iss : List (List Interval)) → LieAlike w (unit w ∷ iss) iss
unit_lies true iss f p = ap₂ (λ a b. ((a && not_b b) || false) && lies_in_sets true f iss) p.lowest p.highest
unit_lies false iss f p = refl

pub unit_separate : (w : Bool) → is_separate (unit w) ≡ true
unit_separate true = refl
unit_separate false = refl

pub from_unit : (w : Bool) (iss : List (List Interval)) → are_separate iss ≡ true → combined w (unit w ∷ iss) ≡ combined w iss
from_unit w iss h = alike_combined w (unit w ∷ iss) iss (both_hold _ _ (unit_separate w) h) h (unit_lies w iss)

joined_regrouped : (w a b c : Bool) → joined w (joined w a (joined w b w)) c ≡ joined w a (joined w b c)
joined_regrouped true true true c = refl
joined_regrouped true true false c = refl
joined_regrouped true false b c = refl
joined_regrouped false true b c = refl
joined_regrouped false false true c = refl
joined_regrouped false false false c = refl

pub set_taken : (w : Bool) (all is : List Interval) (iss : List (List Interval)) → is_separate all ≡ true → are_separate (is ∷ iss) ≡ true
    → combined w (combined w (all ∷ is ∷ []) ∷ iss) ≡ combined w (all ∷ is ∷ iss)
set_taken w all is iss h k =
    let a = and_parts (is_separate is) (are_separate iss) k in
    let both = combined w (all ∷ is ∷ []) in
    alike_combined w (both ∷ iss) (all ∷ is ∷ iss)
    (both_hold _ _ (combined_separate w (all ∷ is ∷ []) (two_separate all is h a.0)) a.1) (both_hold _ _ h k)
    (λ f p. ap (λ b. joined w b (lies_in_sets w f iss)) (lies_in_combined f p w (all ∷ is ∷ [])) ∙ joined_regrouped w (lies_in f all) (lies_in f is) (lies_in_sets w f iss))

pub both_separate : (w : Bool) (all is : List Interval) → is_separate all ≡ true → is_separate is ≡ true → is_separate (combined w (all ∷ is ∷ [])) ≡ true
both_separate w all is h k = combined_separate w (all ∷ is ∷ []) (two_separate all is h k)

pub no_items : {X : Type 0} → (xs : List X) → length xs ≡ 0 → xs ≡ []
no_items [] h = refl
no_items (x ∷ xs) h = absurd (omega (arith, h))
