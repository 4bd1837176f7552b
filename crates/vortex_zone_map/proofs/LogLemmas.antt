-- What is told in order makes the sets of zones, and what is told later changes none.
use Rattle.std.proofs.Common.{◌≡◌, ◌≤◌, ◌+◌, ◌-◌, ◌++◌, ◌∙◌, ℕ, zero, suc, List, [], ◌∷◌, Option, None, Some, ap, ap₂, arith, drop, length, refl, subst, sym, take}
use Rattle.std.proofs.lemmas.List.{drop-append-le, drop_at, length-append, length-drop, length-replicate, map-append, take-append-le, take_all}
use Rattle.std.proofs.lemmas.Option.{same_Some, slice_get_past}
use Rattle.std.specs.List.{AllByRecursion}
use Rattle.std.specs.Prelude.{slice_get, slice_set}
use Rattle.vortex_base.specs.declared.scalar_value.ScalarValue.{ScalarValue}
use Rattle.vortex_zone_map.specs.Zone.{Entries, ZoneData}
use Rattle.vortex_stats.specs.declared.precision.Precision.{Precision}
use Rattle.vortex_stats.specs.declared.stat.Stat.{Stat}
use Rattle.vortex_zone_map.specs.Kept.{IsWithin, Saying, sets_of, stretch_of, sets_with, zone_of, zones_of}
use Rattle.vortex_zone_map.specs.Logs.{empty_sets, set_at}
use Rattle.vortex_zone_map.specs.declared.entry_range.EntryRange.{EntryRange}

-- ---- what is told, one part behind the other

pub sets_with-append : (sets : List Entries) (xs ys : List Saying) → sets_with sets (xs ++ ys) ≡ sets_with (sets_with sets xs) ys
sets_with-append sets [] ys = refl
sets_with-append sets (x ∷ xs) ys = sets_with-append (set_at x.column x.stat x.value sets (slice_get sets x.column)) xs ys

length-set : {X : Type 0} (xs : List X) (i : ℕ) (x : X) → length (slice_set xs i x) ≡ length xs
length-set [] i x = refl
length-set (y ∷ xs) zero x = refl
length-set (y ∷ xs) (suc i) x = ap suc (length-set xs i x)

length-set_at : (i : ℕ) (s : Stat) (p : Precision ScalarValue) (sets : List Entries) (o : Option Entries) → length (set_at i s p sets o) ≡ length sets
length-set_at i s p sets None = refl
length-set_at i s p sets (Some e) = length-set sets i _

pub length-sets_with : (sets : List Entries) (ts : List Saying) → length (sets_with sets ts) ≡ length sets
length-sets_with sets [] = refl
length-sets_with sets (t ∷ ts) = length-sets_with (set_at t.column t.stat t.value sets (slice_get sets t.column)) ts ∙ length-set_at t.column t.stat t.value sets (slice_get sets t.column)

-- there is a set for each column
pub length-sets_of : (n : ℕ) (ts : List Saying) → length (sets_of n ts) ≡ n
length-sets_of n ts = length-sets_with (empty_sets n) ts ∙ length-replicate n []

-- one more statistic
pub one_more_told : (n : ℕ) (ts : List Saying) (t : Saying) → sets_of n (ts ++ t ∷ []) ≡ set_at t.column t.stat t.value (sets_of n ts) (slice_get (sets_of n ts) t.column)
one_more_told n ts t = sets_with-append (empty_sets n) ts (t ∷ [])

-- there is no such column
pub nothing_told : (n : ℕ) (ts : List Saying) (i : ℕ) (s : Stat) (p : Precision ScalarValue) → n ≤ i → set_at i s p (sets_of n ts) (slice_get (sets_of n ts) i) ≡ sets_of n ts
nothing_told n ts i s p past = ap (set_at i s p (sets_of n ts)) (slice_get_past (sets_of n ts) i (omega (arith, length-sets_of n ts, past)))

-- ---- stretches

pub stretch_grows : (ts more : List Saying) (s : EntryRange) → IsWithin (length ts) s → stretch_of (ts ++ more) s ≡ stretch_of ts s
stretch_grows ts more s is =
    let a = is.ascends in
    let w = is.within in
    let long = length-drop s.from ts in
    ap (take (s.to - s.from)) (drop-append-le s.from ts more (omega (arith, a, w)))
    ∙ take-append-le (s.to - s.from) (drop s.from ts) more (omega (arith, long, a, w))

pub zones_grow : (n : ℕ) (ts more : List Saying) (ss : List EntryRange) → AllByRecursion (IsWithin (length ts)) ss → zones_of n (ts ++ more) ss ≡ zones_of n ts ss
zones_grow n ts more [] all = refl
zones_grow n ts more (s ∷ ss) (is, all) =
    ap₂ (λ (l : List Saying) (zs : List ZoneData). record { rows = s.rows; stats = sets_of n l } ∷ zs) (stretch_grows ts more s is) (zones_grow n ts more ss all)

pub stays_within : (m n : ℕ) (ss : List EntryRange) → m ≤ n → AllByRecursion (IsWithin m) ss → AllByRecursion (IsWithin n) ss
stays_within m n [] le all = tt
stays_within m n (s ∷ ss) le (is, all) = (record { ascends = is.ascends; within = let w = is.within in omega (arith, le, w) }, stays_within m n ss le all)

-- the stretch of what was told last
pub stretch_last : (ts more : List Saying) (s : EntryRange) → s.from ≡ length ts → s.to ≡ length ts + length more → stretch_of (ts ++ more) s ≡ more
stretch_last ts more s from to =
    let long : length more ≤ s.to - s.from = omega (arith, from, to) in
    ap (take (s.to - s.from)) (drop_at ts more s.from (sym from)) ∙ take_all (s.to - s.from) more long

-- ---- zones that end

-- the stretch of what is told behind all the others
pub record IsNext (ts more : List Saying) (s : EntryRange) : Type 0 where
  pub from : s.from ≡ length ts
  pub to : s.to ≡ length (ts ++ more)

module _ (ts more : List Saying) (s : EntryRange) (next : IsNext ts more s) where
  -- it is one of what is told then
  pub next_is_within : IsWithin (length (ts ++ more)) s
  next_is_within =
      let f = next.from in
      let t = next.to in
      let long = length-append ts more in
      record { ascends = omega (arith, f, t, long); within = omega (arith, t) }

  -- with the others
  pub others_within : (ss : List EntryRange) → AllByRecursion (IsWithin (length ts)) ss → AllByRecursion (IsWithin (length (ts ++ more))) ss
  others_within ss all = let long = length-append ts more in stays_within (length ts) (length (ts ++ more)) ss (omega (arith, long)) all

  -- the zone that it tells of
  pub next_zone : (n : ℕ) → zone_of n (ts ++ more) s ≡ record { rows = s.rows; stats = sets_of n more }
  next_zone n = ap (λ (l : List Saying). record { rows = s.rows; stats = sets_of n l }) (stretch_last ts more s next.from (next.to ∙ length-append ts more))

  -- the zones with it behind them
  pub zones_ended : (n : ℕ) (ss : List EntryRange) → AllByRecursion (IsWithin (length ts)) ss → zones_of n (ts ++ more) (ss ++ s ∷ []) ≡ zones_of n ts ss ++ record { rows = s.rows; stats = sets_of n more } ∷ []
  zones_ended n ss all =
      map-append (zone_of n (ts ++ more)) ss (s ∷ [])
      ∙ ap₂ (λ (zs : List ZoneData) (z : ZoneData). zs ++ z ∷ []) (zones_grow n ts more ss all) (next_zone n)

-- nothing is told of the next one, of as many columns
pub none_told : (n : ℕ) (ts : List Saying) → sets_of n [] ≡ empty_sets (length (sets_of n ts))
none_told n ts = ap empty_sets (sym (length-sets_of n ts))

-- each zone has a set for each column
pub zone_long : (n : ℕ) (ts : List Saying) (ss : List EntryRange) (i : ℕ) (z : ZoneData) → slice_get (zones_of n ts ss) i ≡ Some z → length z.stats ≡ n
zone_long n ts [] i z at = absurd cc
zone_long n ts (s ∷ ss) zero z at = let same = same_Some (zone_of n ts s) z at in ap (λ (x : ZoneData). length x.stats) (sym same) ∙ length-sets_of n (stretch_of ts s)
zone_long n ts (s ∷ ss) (suc i) z at = zone_long n ts ss i z at

-- ---- one of them all

pub all_at : {X : Type 0} (P : X → Type 0) (xs : List X) (i : ℕ) (x : X) → AllByRecursion P xs → slice_get xs i ≡ Some x → P x
all_at P [] i x all at = absurd cc
all_at P (y ∷ ys) zero x (is, all) at = subst P (same_Some y x at) is
all_at P (y ∷ ys) (suc i) x (is, all) at = all_at P ys i x all at
