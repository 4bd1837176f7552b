-- What stands at the place of a column of the table.
use Rattle.std.specs.Prelude.{◌≡◌, ℕ, ◌+◌, Bool, true, false, List, [], ◌∷◌, ◌++◌, Option, Some, None, length, map, position, option_map, slice_get, if◌then◌else◌, refl}
use Rattle.std.proofs.Common.{ap, arith, rules, suc, sym, zero, ◌∙◌}
use Rattle.std.proofs.Common.{get_or}
use Rattle.std.proofs.lemmas.List.{length-map}
use Rattle.std.proofs.lemmas.List.Quantifiers.{position-Some}
use Rattle.std.proofs.lemmas.Option.{same_Some, slice_get-get_or, slice_get-map}
use lib.Pointwise.{pointwise}
use Rattle.vortex_base.specs.Data.Exact.{IsExact, both_true}
use Rattle.vortex_base.specs.Data.Scopes.{Named}
use Rattle.vortex_expr.specs.Trees.TreeEq.{aggregate_eq}
use Rattle.vortex_base.specs.Data.Types.{eq_ignore_nullability}
use Rattle.vortex_base.specs.declared.aggregate.AggregateFnRef.{AggregateFnRef}
use Rattle.vortex_base.specs.declared.dtype.DType.{DType}
use Rattle.vortex_zone_map.specs.ZoneMaps.{head, heads, heads_from, offset, supporting, zone_place}

pub aggregate_eq_is_exact : IsExact aggregate_eq
aggregate_eq_is_exact a b = search rules

module _ {X : Type 0} where
  -- an element that a test finds passes it
  position_passes : (test : X → Bool) (xs : List X) (k : ℕ) (d : X) → position test xs ≡ Some k → (x : X) × (slice_get xs k ≡ Some x) × (test x ≡ true)
  position_passes test xs k d h =
      let p = position-Some test xs k d h in
      (get_or xs k d, slice_get-get_or xs k d p.0, p.1)

  pub slice_get-left : (xs ys : List X) (k : ℕ) (x : X) → slice_get xs k ≡ Some x → slice_get (xs ++ ys) k ≡ Some x
  slice_get-left [] ys k x h = cc
  slice_get-left (y ∷ xs) ys zero x h = h
  slice_get-left (y ∷ xs) ys (suc k) x h = slice_get-left xs ys k x h

  pub slice_get-right : (xs ys : List X) (k : ℕ) → slice_get (xs ++ ys) (length xs + k) ≡ slice_get ys k
  slice_get-right [] ys k = let e : 0 + k ≡ k = omega arith in ap (slice_get ys) e
  slice_get-right (x ∷ xs) ys k = let e : suc (length xs) + k ≡ suc (length xs + k) = omega arith in ap (slice_get (x ∷ (xs ++ ys))) e ∙ slice_get-right xs ys k

  pub pointwise_at : {Y : Type 0} (test : X → Y → Bool) (xs : List X) (ys : List Y) (k : ℕ) (x : X) → pointwise test xs ys ≡ true → slice_get xs k ≡ Some x → (y : Y) × (slice_get ys k ≡ Some y) × (test x y ≡ true)
  pointwise_at test [] ys k x h e = absurd cc
  pointwise_at test (a ∷ xs) [] k x h e = absurd cc
  pointwise_at test (a ∷ xs) (b ∷ ys) zero x h e = (b, refl, ap (λ c. test c b) (sym (same_Some a x e)) ∙ (both_true _ _ h).0)
  pointwise_at test (a ∷ xs) (b ∷ ys) (suc k) x h e = pointwise_at test xs ys k x (both_true _ _ h).1 e

-- the aggregate stands at its place among those that support the type
pub offset_is : (f : AggregateFnRef) (t : DType) (k : ℕ) → offset f t ≡ Some k → slice_get (supporting t) k ≡ Some f
offset_is f t k h =
    let p = position_passes (aggregate_eq f) (supporting t) k f h in
    p.1 ∙ ap Some (sym ((aggregate_eq_is_exact f p.0).0 p.2))

-- what stands at a place of the table
record IsHeadOf (m : ℕ) (scope : List Named) (i : ℕ) (f : AggregateFnRef) (t : DType) (k : ℕ) : Type 0 where
  pub own : Named
  pub there : slice_get scope i ≡ Some own
  pub typed : eq_ignore_nullability own.1 t ≡ true
  pub at : slice_get (heads_from m scope) k ≡ Some (head (m + i) own f)

head_here : (m : ℕ) (c : Named) (cs : List Named) (f : AggregateFnRef) (t : DType) (k : ℕ) (b : Bool) → eq_ignore_nullability c.1 t ≡ b → (if b then offset f c.1 else None) ≡ Some k → IsHeadOf m (c ∷ cs) zero f t k
head_here m c cs f t k false e h = absurd cc
head_here m c cs f t k true e h =
    let place : m + 0 ≡ m = omega arith in
    record {
      own = c;
      there = refl;
      typed = e;
      at = slice_get-left (map (head m c) (supporting c.1)) (heads_from (m + 1) cs) k (head m c f) (slice_get-map (head m c) (supporting c.1) k ∙ ap (option_map (head m c)) (offset_is f c.1 k h))
          ∙ ap (λ i. Some (head i c f)) (sym place);
    }

head_later : (m : ℕ) (c : Named) (cs : List Named) (i : ℕ) (f : AggregateFnRef) (t : DType) (k : ℕ) (o : Option ℕ) → zone_place cs i f t ≡ o → option_map (λ j. length (supporting c.1) + j) o ≡ Some k
    → ((j : ℕ) → zone_place cs i f t ≡ Some j → IsHeadOf (m + 1) cs i f t j) → IsHeadOf m (c ∷ cs) (suc i) f t k
head_later m c cs i f t k None e h rest = absurd cc
head_later m c cs i f t k (Some j) e h rest =
    let r = rest j e in
    let place : m + 1 + i ≡ m + suc i = omega arith in
    let own : length (supporting c.1) + j ≡ k = same_Some (length (supporting c.1) + j) k h in
    let long : length (map (head m c) (supporting c.1)) ≡ length (supporting c.1) = length-map (supporting c.1) (head m c) in
    record {
      own = r.own;
      there = r.there;
      typed = r.typed;
      at = ap (slice_get (heads_from m (c ∷ cs))) (sym own ∙ ap (λ n. n + j) (sym long)) ∙ slice_get-right (map (head m c) (supporting c.1)) (heads_from (m + 1) cs) j
          ∙ r.at ∙ ap (λ n. Some (head n r.own f)) place;
    }

-- at the place of a column of the table it stands
head_at : (m : ℕ) (scope : List Named) (i : ℕ) (f : AggregateFnRef) (t : DType) (k : ℕ) → zone_place scope i f t ≡ Some k → IsHeadOf m scope i f t k
head_at m [] i f t k h = absurd cc
head_at m (c ∷ cs) zero f t k h = head_here m c cs f t k (eq_ignore_nullability c.1 t) refl h
head_at m (c ∷ cs) (suc i) f t k h = head_later m c cs i f t k (zone_place cs i f t) refl h (λ j e. head_at (m + 1) cs i f t j e)

pub place_of : (scope : List Named) (i : ℕ) (f : AggregateFnRef) (t : DType) (k : ℕ) → zone_place scope i f t ≡ Some k → (c : Named) × (slice_get scope i ≡ Some c) × (eq_ignore_nullability c.1 t ≡ true) × (slice_get (heads scope) k ≡ Some (head i c f))
place_of scope i f t k h =
    let p = head_at 0 scope i f t k h in
    let place : 0 + i ≡ i = omega arith in
    (p.own, p.there, p.typed, p.at ∙ ap (λ n. Some (head n p.own f)) place)
