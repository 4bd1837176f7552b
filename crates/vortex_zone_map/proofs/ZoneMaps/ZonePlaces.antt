-- Where a column of a table of zones stands, by where the columns start that tell of its column.
use Rattle.std.proofs.Common.{◌≡◌, ◌<◌, ◌+◌, ◌≤◌, ℕ, zero, suc, Bool, true, false, List, [], ◌∷◌, Option, Some, None, arith, length, map, refl, sym, ap, ◌∙◌}
use Rattle.std.specs.Prelude.{if◌then◌else◌, option_map, slice_get}
use Rattle.std.proofs.lemmas.List.{length-map}
use Rattle.std.proofs.Common.{get_or, nat_lt}
use Rattle.std.proofs.lemmas.Bool.Decides.{nat_tests}
use Rattle.std.proofs.lemmas.Option.{same_Some, slice_get-get_or, slice_get_within}
use Rattle.vortex_base.specs.Data.Scopes.{Named}
use Rattle.vortex_base.specs.Data.Types.{eq_ignore_nullability}
use Rattle.vortex_base.specs.declared.aggregate.AggregateFnRef.{AggregateFnRef}
use Rattle.vortex_base.specs.declared.dtype.DType.{DType}
use Rattle.vortex_zone_map.proofs.ZoneMaps.HeadPlaces.{place_of}
use Rattle.vortex_zone_map.specs.ZoneMaps.{heads, named_head, offset, starts_from, supporting, zone_place, zone_type}

pub starts_long : (n : ℕ) (cs : List Named) → length (starts_from n cs) ≡ length cs
starts_long n [] = refl
starts_long n (c ∷ cs) = ap suc (starts_long (n + length (supporting c.1)) cs)

past : (cs : List Named) (i : ℕ) (f : AggregateFnRef) (t : DType) → length cs ≤ i → zone_place cs i f t ≡ None
past [] i f t h = refl
past (c ∷ cs) zero f t h = absurd (omega arith)
past (c ∷ cs) (suc i) f t h = ap (option_map (λ k. length (supporting c.1) + k)) (past cs i f t (omega arith))

abbrev place_if : Option ℕ → Bool → ℕ → Option ℕ
place_if o b s = if b then option_map (λ k. s + k) o else None

moved_if : (b : Bool) (n : ℕ) (o : Option ℕ) → option_map (λ k. n + k) (if b then o else None) ≡ place_if o b n
moved_if true n o = refl
moved_if false n o = refl

moved_twice : (n w : ℕ) (o : Option ℕ) → option_map (λ k. n + k) (option_map (λ k. w + k) o) ≡ option_map (λ k. n + w + k) o
moved_twice n w None = refl
moved_twice n w (Some k) = let e : n + (w + k) ≡ n + w + k = omega arith in ap Some e

from_start : (n : ℕ) (cs : List Named) (i : ℕ) (c : Named) (s : ℕ) (f : AggregateFnRef) (t : DType) → slice_get cs i ≡ Some c → slice_get (starts_from n cs) i ≡ Some s
    → option_map (λ k. n + k) (zone_place cs i f t) ≡ place_if (offset f c.1) (eq_ignore_nullability c.1 t) s
from_start n [] i c s f t there at = absurd cc
from_start n (d ∷ cs) zero c s f t there at =
    moved_if (eq_ignore_nullability d.1 t) n (offset f d.1) ∙ ap (place_if (offset f d.1) (eq_ignore_nullability d.1 t)) (same_Some n s at) ∙ ap (λ (x : Named). place_if (offset f x.1) (eq_ignore_nullability x.1 t) s) (same_Some d c there)
from_start n (d ∷ cs) (suc i) c s f t there at =
    moved_twice n (length (supporting d.1)) (zone_place cs i f t) ∙ from_start (n + length (supporting d.1)) cs i c s f t there at

not_moved : (o : Option ℕ) → option_map (λ k. 0 + k) o ≡ o
not_moved None = refl
not_moved (Some k) = let e : 0 + k ≡ k = omega arith in ap Some e

by_start : (cs : List Named) (i : ℕ) (c : Named) (s : ℕ) (f : AggregateFnRef) (t : DType) → slice_get cs i ≡ Some c → slice_get (starts_from 0 cs) i ≡ Some s → zone_place cs i f t ≡ place_if (offset f c.1) (eq_ignore_nullability c.1 t) s
by_start cs i c s f t there at = sym (not_moved (zone_place cs i f t)) ∙ from_start 0 cs i c s f t there at

-- ---- the same, as it is looked up

-- the name at a place whose type was read
pub typed_there : (cs : List Named) (i : ℕ) (own : DType) → option_map (λ (c : Named). c.1) (slice_get cs i) ≡ Some own → (c : Named) × (slice_get cs i ≡ Some c) × (c.1 ≡ own)
typed_there [] i own h = absurd cc
typed_there (c ∷ cs) zero own h = (c, refl, same_Some c.1 own h)
typed_there (c ∷ cs) (suc i) own h = typed_there cs i own h

abbrev pub reference : AggregateFnRef → DType → Option ℕ → Option (ℕ × DType)
reference f t o = option_map (λ k. (k, zone_type f t)) o

pub none_past : (cs : List Named) (i : ℕ) (f : AggregateFnRef) (t : DType) → length cs ≤ i → None ≡ reference f t (zone_place cs i f t)
none_past cs i f t h = sym (ap (reference f t) (past cs i f t h))

module _ (cs : List Named) (i : ℕ) (own : DType) (s : ℕ) (f : AggregateFnRef) (t : DType) (typed : option_map (λ (c : Named). c.1) (slice_get cs i) ≡ Some own) (at : slice_get (starts_from 0 cs) i ≡ Some s) where
  placed : zone_place cs i f t ≡ place_if (offset f own) (eq_ignore_nullability own t) s
  placed =
      let p = typed_there cs i own typed in
      by_start cs i p.0 s f t p.1 at ∙ ap (λ u. place_if (offset f u) (eq_ignore_nullability u t) s) p.2

  pub none_typed : eq_ignore_nullability own t ≡ false → None ≡ reference f t (zone_place cs i f t)
  none_typed h = sym (ap (reference f t) (placed ∙ ap (λ b. place_if (offset f own) b s) h))

  pub none_offset : eq_ignore_nullability own t ≡ true → offset f own ≡ None → None ≡ reference f t (zone_place cs i f t)
  none_offset h e = sym (ap (reference f t) (placed ∙ ap (λ b. place_if (offset f own) b s) h ∙ ap (option_map (λ k. s + k)) e))

  place_some : (k : ℕ) → eq_ignore_nullability own t ≡ true → offset f own ≡ Some k → zone_place cs i f t ≡ Some (s + k)
  place_some k h e = placed ∙ ap (λ b. place_if (offset f own) b s) h ∙ ap (option_map (λ k. s + k)) e

  pub some_place : (k : ℕ) → eq_ignore_nullability own t ≡ true → offset f own ≡ Some k → Some (s + k, zone_type f t) ≡ reference f t (zone_place cs i f t)
  some_place k h e = sym (ap (reference f t) (place_some k h e))

  pub place_within : (k : ℕ) → eq_ignore_nullability own t ≡ true → offset f own ≡ Some k → s + k < length (map named_head (heads cs))
  place_within k h e =
      let p = place_of cs i f t (s + k) (place_some k h e) in
      let within = slice_get_within (heads cs) (s + k) _ p.3 in
      omega (arith, length-map (heads cs) named_head, within)

-- where a column of the scope is, its first column of the table starts
pub start_within : (cs : List Named) (starts : List ℕ) (i s : ℕ) → starts ≡ starts_from 0 cs → slice_get starts i ≡ Some s → i < length cs
start_within cs starts i s started at = omega (arith, slice_get_within starts i s at, ap length started, starts_long 0 cs)

slice_get_none : {X : Type 0} (xs : List X) (i : ℕ) → slice_get xs i ≡ None → length xs ≤ i
slice_get_none [] i h = omega arith
slice_get_none (x ∷ xs) zero h = absurd cc
slice_get_none (x ∷ xs) (suc i) h = let k = slice_get_none xs i h in omega (arith, k)

pub start_past : (cs : List Named) (starts : List ℕ) (i : ℕ) → starts ≡ starts_from 0 cs → slice_get starts i ≡ None → length cs ≤ i
start_past cs starts i started at = omega (arith, slice_get_none starts i at, ap length started, starts_long 0 cs)

-- what a look-up says of the place
pub read_start : (xs : List ℕ) (i s d : ℕ) → true ≡ nat_lt i (length xs) → s ≡ get_or xs i d → slice_get xs i ≡ Some s
read_start xs i s d test is =
    let h : i < length xs = grind (arith, nat_tests) in
    slice_get-get_or xs i d h ∙ ap Some (sym is)

pub read_past : (cs : List Named) (xs : List ℕ) (i : ℕ) → xs ≡ starts_from 0 cs → false ≡ nat_lt i (length xs) → length cs ≤ i
read_past cs xs i started test =
    let h : length xs ≤ i = grind (arith, nat_tests) in
    omega (arith, h, ap length started, starts_long 0 cs)
