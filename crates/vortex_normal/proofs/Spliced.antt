-- An interval more or less in a separate set: only those that it touches change, and become their hull or what is left of it.
use Rattle.std.proofs.Common.{◌≡◌, Bool, true, false, not as not_b, ◌&&◌, ◌||◌, List, [], ◌∷◌, ◌++◌, Option, Some, None, refl, sym, ap, ap₂, ◌∙◌, if◌then◌else◌}
use Rattle.std.specs.List.{AllByRecursion}
use Rattle.std.proofs.lemmas.Bool.{and_parts, not-true}
use Rattle.vortex_base.specs.Data.Exact.{both_hold}
use Rattle.vortex_rewrite.proofs.Soundness.TruthLogic.{clash, refuted}
use Rattle.vortex_normal.specs.Intervals.{Cut, Interval, combined, cut_le, higher, interval, is_empty, share, unless_empty}
use Rattle.vortex_normal.specs.Separate.{are_beyond, hull, hull_of_all, is_beyond, is_separate, left_of, lower}
use Rattle.vortex_normal.proofs.Sets.{IsPlace, at_higher, at_lower, cut_trans, in_append, in_complement, in_unless, lies_in, lies_in_sets, lies_within, or_assoc, total}
use Rattle.vortex_normal.proofs.Sorting.{cut_self}
use Rattle.vortex_normal.proofs.Told.{joined}
use Rattle.vortex_normal.proofs.Separate.{above_it, at, beyond_more, cut_place, higher_left, lower_left, same_combined, share_separate, still_beyond, unless_beyond}

abbrev pub EndsBelow : Interval → Interval → Type 0
EndsBelow r i = cut_le r.low i.high ≡ false

abbrev pub BeginsAbove : Interval → Interval → Type 0
BeginsAbove r i = cut_le i.low r.high ≡ false

abbrev pub Touches : Interval → Interval → Type 0
Touches r i = (cut_le r.low i.high ≡ true) × (cut_le i.low r.high ≡ true)

abbrev pub AllTouch : Interval → List Interval → Type 0
AllTouch r is = AllByRecursion (Touches r) is

-- ---- where the hull lies

touches_hull : (r i j : Interval) → Touches r j → Touches (hull r i) j
touches_hull r i j h = (cut_trans (lower r.low i.low) r.low j.high (lower_left r.low i.low) h.0, cut_trans j.low r.high (higher r.high i.high) h.1 (higher_left r.high i.high))

all_touch_hull : (r i : Interval) (is : List Interval) → AllTouch r is → AllTouch (hull r i) is
all_touch_hull r i [] h = tt
all_touch_hull r i (j ∷ is) h = (touches_hull r i j h.0, all_touch_hull r i is h.1)

-- a, b: above the ends of the one; c, e: above those of the other
hull_cases : (a b c e : Bool) → (e ≡ true → a ≡ true) → (b ≡ true → c ≡ true) → ((a || c) && not_b (b && e)) ≡ ((a && not_b b) || (c && not_b e))
hull_cases true true true true f g = refl
hull_cases true true true false f g = refl
hull_cases true true false e f g = clash (g refl) refl
hull_cases true false true true f g = refl
hull_cases true false true false f g = refl
hull_cases true false false true f g = refl
hull_cases true false false false f g = refl
hull_cases false b c true f g = clash (f refl) refl
hull_cases false true true false f g = refl
hull_cases false true false false f g = refl
hull_cases false false true false f g = refl
hull_cases false false false false f g = refl

or_none : (a : Bool) → (a || false) ≡ a
or_none true = refl
or_none false = refl

module _ (f : Cut → Bool) (place : IsPlace f) where
  in_hull : (r i : Interval) → Touches r i → lies_within f (hull r i) ≡ (lies_within f r || lies_within f i)
  in_hull r i h =
      ap₂ (λ p q. p && not_b q) (at_lower f place r.low i.low) (at_higher f place r.high i.high)
      ∙ hull_cases (f r.low) (f r.high) (f i.low) (f i.high) (place.falls r.low i.high h.0) (place.falls i.low r.high h.1)

  in_hull_of_all : (r : Interval) (is : List Interval) → AllTouch r is → lies_within f (hull_of_all r is) ≡ (lies_within f r || lies_in f is)
  in_hull_of_all r [] h = sym (or_none (lies_within f r))
  in_hull_of_all r (i ∷ is) h =
      in_hull_of_all (hull r i) is (all_touch_hull r i is h.1)
      ∙ ap (λ b. b || lies_in f is) (in_hull r i h.0)
      ∙ or_assoc (lies_within f r) (lies_within f i) (lies_in f is)

  -- what ends below the interval, or begins above it, has nothing in common with it
  ended : (r : Interval) (is : List Interval) → AllByRecursion (EndsBelow r) is → f r.low ≡ true → lies_in f is ≡ false
  ended r [] h k = refl
  ended r (i ∷ is) h k =
      ap₂ (λ p q. p || q)
      (ap (λ b. f i.low && not_b b) (place.falls i.high r.low (total r.low i.high h.0) k) ∙ nothing (f i.low))
      (ended r is h.1 k)
    where
      nothing : (b : Bool) → (b && false) ≡ false
      nothing true = refl
      nothing false = refl

  not_begun : (r : Interval) (is : List Interval) → AllByRecursion (BeginsAbove r) is → f r.high ≡ false → lies_in f is ≡ false
  not_begun r [] h k = refl
  not_begun r (i ∷ is) h k =
      ap₂ (λ p q. (p && not_b (f i.high)) || q)
      (refuted (f i.low) (λ a. clash (place.falls r.high i.low (total i.low r.high h.0) a) k))
      (not_begun r is h.1 k)

-- ---- the result lies where it is to

-- p, q: above the hull's ends; a, b: above the interval's
sides_cases : (p a b q : Bool) → (q ≡ true → b ≡ true) → (b ≡ true → a ≡ true) → (a ≡ true → p ≡ true) → ((p && not_b a) || ((b && not_b q) || false)) ≡ ((p && not_b q) && not_b (a && not_b b))
sides_cases true true true true f g h = refl
sides_cases true true true false f g h = refl
sides_cases true true false false f g h = refl
sides_cases true true false true f g h = clash (f refl) refl
sides_cases true false true q f g h = clash (g refl) refl
sides_cases true false false true f g h = clash (f refl) refl
sides_cases true false false false f g h = refl
sides_cases false true b q f g h = clash (h refl) refl
sides_cases false false true q f g h = clash (g refl) refl
sides_cases false false false true f g h = clash (f refl) refl
sides_cases false false false false f g h = refl

-- m: in a touched one; x: in the interval; l, r: in one below, above; n: in what is left
and_cases : (l m r x : Bool) → (x ≡ true → l ≡ false) → (x ≡ true → r ≡ false) → (l || (((x || m) && not_b x) || r)) ≡ ((l || (m || r)) && (not_b (x || false) && true))
and_cases l m r true f g =
    ap₂ (λ p q. p || (((true || m) && false) || q)) (f refl) (g refl) ∙ sym (no (l || (m || r)))
  where
    no : (b : Bool) → (b && false) ≡ false
    no true = refl
    no false = refl
and_cases true m r false f g = refl
and_cases false true r false f g = refl
and_cases false false true false f g = refl
and_cases false false false false f g = refl

or_cases : (l m r x : Bool) → (l || (((x || m) || false) || r)) ≡ ((l || (m || r)) || ((x || false) || false))
or_cases true m r x = refl
or_cases false true r true = refl
or_cases false true r false = refl
or_cases false false true true = refl
or_cases false false true false = refl
or_cases false false false true = refl
or_cases false false false false = refl

hull_low : (r : Interval) (is : List Interval) → cut_le (hull_of_all r is).low r.low ≡ true
hull_low r [] = cut_self r.low
hull_low r (i ∷ is) = cut_trans (hull_of_all (hull r i) is).low (lower r.low i.low) r.low (hull_low (hull r i) is) (lower_left r.low i.low)

hull_high : (r : Interval) (is : List Interval) → cut_le r.high (hull_of_all r is).high ≡ true
hull_high r [] = cut_self r.high
hull_high r (i ∷ is) = cut_trans r.high (higher r.high i.high) (hull_of_all (hull r i) is).high (higher_left r.high i.high) (hull_high (hull r i) is)

module _ (f : Cut → Bool) (place : IsPlace f) (r : Interval) (values : is_empty r ≡ false) where
  in_left_of : (h : Interval) → cut_le h.low r.low ≡ true → cut_le r.high h.high ≡ true → lies_in f (left_of true h r) ≡ (lies_within f h && not_b (lies_within f r))
  in_left_of h a b =
      in_unless f place (interval h.low r.low) (unless_empty (interval r.high h.high) [])
      ∙ ap (λ x. (f h.low && not_b (f r.low)) || x) (in_unless f place (interval r.high h.high) [])
      ∙ sides_cases (f h.low) (f r.low) (f r.high) (f h.high)
      (place.falls r.high h.high b) (place.falls r.low r.high (total r.high r.low values)) (place.falls h.low r.low a)

  -- in the interval: above its low end, not above its high one
  inside : (a b : Bool) → (a && not_b b) ≡ true → (a ≡ true) × (b ≡ false)
  inside true false h = (refl, refl)
  inside true true h = cc
  inside false b h = cc

  in_spliced : (w : Bool) (below touched over : List Interval) → AllByRecursion (EndsBelow r) below → AllTouch r touched → AllByRecursion (BeginsAbove r) over
      → lies_in f (below ++ (left_of w (hull_of_all r touched) r ++ over)) ≡ lies_in_sets w f ((below ++ (touched ++ over)) ∷ share w (r ∷ []) ∷ [])
  in_spliced w below touched over h k g =
      in_append f place below (left_of w (hull_of_all r touched) r ++ over)
      ∙ ap (λ b. lies_in f below || b) (in_append f place (left_of w (hull_of_all r touched) r) over)
      ∙ by_connective w
      ∙ ap (λ b. joined w b (joined w (lies_in f (share w (r ∷ []))) w)) (sym (in_append f place below (touched ++ over) ∙ ap (λ b. lies_in f below || b) (in_append f place touched over)))
    where
      by_connective : (w : Bool) → (lies_in f below || (lies_in f (left_of w (hull_of_all r touched) r) || lies_in f over))
          ≡ joined w (lies_in f below || (lies_in f touched || lies_in f over)) (joined w (lies_in f (share w (r ∷ []))) w)
      by_connective true =
          ap (λ b. lies_in f below || (b || lies_in f over))
          (in_left_of (hull_of_all r touched) (hull_low r touched) (hull_high r touched) ∙ ap (λ b. b && not_b (lies_within f r)) (in_hull_of_all f place r touched k))
          ∙ and_cases (lies_in f below) (lies_in f touched) (lies_in f over) (lies_within f r)
          (λ x. ended f place r below h (inside (f r.low) (f r.high) x).0)
          (λ x. not_begun f place r over g (inside (f r.low) (f r.high) x).1)
          ∙ ap (λ b. (lies_in f below || (lies_in f touched || lies_in f over)) && (b && true)) (sym (in_complement f place (r ∷ [])))
      by_connective false =
          ap (λ b. lies_in f below || ((b || false) || lies_in f over)) (in_hull_of_all f place r touched k)
          ∙ or_cases (lies_in f below) (lies_in f touched) (lies_in f over) (lies_within f r)

-- ---- the result is separate

above_beyond : (b : Option Cut) (r : Interval) (is : List Interval) → are_beyond b is ≡ true → AllByRecursion (BeginsAbove r) is → are_beyond (Some r.high) is ≡ true
above_beyond b r [] h k = refl
above_beyond b r (i ∷ is) h k = both_hold _ _ (ap not_b k.0) (and_parts (is_beyond b i.low) (not_b (is_empty i) && are_beyond (Some i.high) is) h).1

record HullFits (b : Option Cut) (r h : Interval) (over : List Interval) : Type 0 where
  pub beyond : is_beyond b h.low ≡ true
  pub later : are_beyond (Some h.high) over ≡ true

lower_beyond : (b : Option Cut) (c d : Cut) → is_beyond b c ≡ true → is_beyond b d ≡ true → is_beyond b (lower c d) ≡ true
lower_beyond b c d h k = by_test (cut_le c d)
  where
    by_test : (e : Bool) → is_beyond b (if e then c else d) ≡ true
    by_test true = h
    by_test false = k

still_above : (r i : Interval) (is : List Interval) → AllByRecursion (BeginsAbove r) is → AllByRecursion (BeginsAbove i) is → AllByRecursion (BeginsAbove (hull r i)) is
still_above r i [] h k = tt
still_above r i (j ∷ is) h k = (by_test (cut_le r.high i.high), still_above r i is h.1 k.1)
  where
    by_test : (e : Bool) → cut_le j.low (if e then i.high else r.high) ≡ false
    by_test true = k.0
    by_test false = h.0

-- those beyond a cut that is at least the interval's end begin above it
all_above : (c : Cut) (i : Interval) (is : List Interval) → cut_le i.high c ≡ true → are_beyond (Some c) is ≡ true → AllByRecursion (BeginsAbove i) is
all_above c i [] e h = tt
all_above c i (j ∷ is) e h =
    let a = and_parts (is_beyond (Some c) j.low) (not_b (is_empty j) && are_beyond (Some j.high) is) h in
    let v = and_parts (not_b (is_empty j)) (are_beyond (Some j.high) is) a.1 in
    let above = not-true (cut_le j.low c) a.0 in
    let up : cut_le i.high j.high ≡ true = cut_trans i.high j.low j.high (cut_trans i.high c j.low e (total j.low c above)) (total j.high j.low (not-true (is_empty j) v.0)) in
    (below_it' c i.high j.low e above, all_above j.high i is up v.1)
  where
    below_it' : (c d e : Cut) → cut_le d c ≡ true → cut_le e c ≡ false → cut_le e d ≡ false
    below_it' c d e h k = refuted (cut_le e d) (λ a. clash (cut_trans e d c a h) k)

tail_above : (c : Cut) (i : Interval) (is js : List Interval) → cut_le i.high c ≡ true → are_beyond (Some c) (is ++ js) ≡ true → AllByRecursion (BeginsAbove i) js
tail_above c i [] js e h = all_above c i js e h
tail_above c i (j ∷ is) js e h =
    let a = and_parts (is_beyond (Some c) j.low) (not_b (is_empty j) && are_beyond (Some j.high) (is ++ js)) h in
    let v = and_parts (not_b (is_empty j)) (are_beyond (Some j.high) (is ++ js)) a.1 in
    let above = not-true (cut_le j.low c) a.0 in
    tail_above j.high i is js (cut_trans i.high j.low j.high (cut_trans i.high c j.low e (total j.low c above)) (total j.high j.low (not-true (is_empty j) v.0))) v.1

hull_fits : (b : Option Cut) (r : Interval) (touched over : List Interval) → is_beyond b r.low ≡ true → are_beyond b (touched ++ over) ≡ true → AllByRecursion (BeginsAbove r) over → HullFits b r (hull_of_all r touched) over
hull_fits b r [] over h k g = record { beyond = h; later = above_beyond b r over k g }
hull_fits b r (i ∷ is) over h k g =
    let a = and_parts (is_beyond b i.low) (not_b (is_empty i) && are_beyond (Some i.high) (is ++ over)) k in
    let v = and_parts (not_b (is_empty i)) (are_beyond (Some i.high) (is ++ over)) a.1 in
    let up : is_beyond b i.high ≡ true = beyond_more b i.low i.high a.0 (total i.high i.low (not-true (is_empty i) v.0)) in
    let fit = hull_fits b (hull r i) is over (lower_beyond b r.low i.low h a.0) (still_beyond b i.high (is ++ over) up v.1)
    (still_above r i over g (tail_above i.high i is over (cut_self i.high) v.1)) in
    record { beyond = fit.beyond; later = fit.later }

unless_append : (i : Interval) (is js : List Interval) → unless_empty i is ++ js ≡ unless_empty i (is ++ js)
unless_append i is js = by_test (is_empty i)
  where
    by_test : (e : Bool) → (if e then is else i ∷ is) ++ js ≡ (if e then is ++ js else i ∷ (is ++ js))
    by_test true = refl
    by_test false = refl

module _ (r : Interval) (values : is_empty r ≡ false) where
  sides_separate : (b : Option Cut) (h : Interval) (over : List Interval) → is_beyond b h.low ≡ true → cut_le h.low r.low ≡ true → cut_le r.high h.high ≡ true → are_beyond (Some h.high) over ≡ true
      → are_beyond b (left_of true h r ++ over) ≡ true
  sides_separate b h over beyond low high later =
      let second = interval r.high h.high in
      let up : is_beyond b r.high ≡ true = beyond_more b h.low r.high beyond (cut_trans h.low r.low r.high low (total r.high r.low values)) in
      let end : is_beyond b h.high ≡ true = beyond_more b r.high h.high up high in
      ap (are_beyond b) (unless_append (interval h.low r.low) (unless_empty second []) over ∙ ap (unless_empty (interval h.low r.low)) (unless_append second [] over))
      ∙ unless_beyond b (interval h.low r.low) (unless_empty second over) beyond
      (unless_beyond b second over up (still_beyond b h.high over end later) (λ e. later))
      (λ e. unless_beyond (Some r.low) second over (ap not_b values)
      (still_beyond (Some r.low) h.high over (ap not_b (above_it r.low r.high h.high values high)) later) (λ e. later))

  middle_separate : (w : Bool) (b : Option Cut) (touched over : List Interval) → is_beyond b r.low ≡ true → are_beyond b (touched ++ over) ≡ true → AllByRecursion (BeginsAbove r) over
      → are_beyond b (left_of w (hull_of_all r touched) r ++ over) ≡ true
  middle_separate true b touched over h k g =
      let fit = hull_fits b r touched over h k g in
      sides_separate b (hull_of_all r touched) over fit.beyond (hull_low r touched) (hull_high r touched) fit.later
  middle_separate false b touched over h k g =
      let all = hull_of_all r touched in
      let fit = hull_fits b r touched over h k g in
      let wide : cut_le all.high all.low ≡ false = refuted (cut_le all.high all.low) (λ e. clash (cut_trans r.high all.high r.low (hull_high r touched) (cut_trans all.high all.low r.low e (hull_low r touched))) values) in
      both_hold _ _ fit.beyond (both_hold _ _ (ap not_b wide) fit.later)

  spliced_separate : (w : Bool) (b : Option Cut) (below touched over : List Interval) → is_beyond b r.low ≡ true → are_beyond b (below ++ (touched ++ over)) ≡ true → AllByRecursion (EndsBelow r) below → AllByRecursion (BeginsAbove r) over
      → are_beyond b (below ++ (left_of w (hull_of_all r touched) r ++ over)) ≡ true
  spliced_separate w b [] touched over h k e g = middle_separate w b touched over h k g
  spliced_separate w b (i ∷ below) touched over h k e g =
      let a = and_parts (is_beyond b i.low) (not_b (is_empty i) && are_beyond (Some i.high) (below ++ (touched ++ over))) k in
      let v = and_parts (not_b (is_empty i)) (are_beyond (Some i.high) (below ++ (touched ++ over))) a.1 in
      both_hold _ _ a.0 (both_hold _ _ v.0 (spliced_separate w (Some i.high) below touched over (ap not_b e.0) v.1 e.1 g))

pub spliced_is : (w : Bool) (r : Interval) (below touched over : List Interval) → is_empty r ≡ false → is_separate (below ++ (touched ++ over)) ≡ true
    → AllByRecursion (EndsBelow r) below → AllTouch r touched → AllByRecursion (BeginsAbove r) over
    → below ++ (left_of w (hull_of_all r touched) r ++ over) ≡ combined w ((below ++ (touched ++ over)) ∷ share w (r ∷ []) ∷ [])
spliced_is w r below touched over v h e t g =
    same_combined w (below ++ (left_of w (hull_of_all r touched) r ++ over)) ((below ++ (touched ++ over)) ∷ share w (r ∷ []) ∷ [])
    (spliced_separate r v w None below touched over refl h e g)
    (both_hold _ _ h (both_hold _ _ (share_separate w (r ∷ []) (both_hold _ _ refl (both_hold _ _ (ap not_b v) refl))) refl))
    (λ d k. in_spliced (at d) (cut_place d k) r v w below touched over e t g)
