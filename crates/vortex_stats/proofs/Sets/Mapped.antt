-- The tables of bounds over things that are ordered by what a function takes of them.
use Rattle.std.proofs.Common.{◌≡◌, Bool, true, false, cond, Option, Some, refl, ap}
use Rattle.std.specs.Option.{option_map}
use Rattle.std.specs.declared.cmp.Ordering.{Ordering}
use Rattle.std.specs.Ordering.{is_lt, is_eq, flip_args}
use Rattle.vortex_stats.specs.declared.bound.IntersectionResult.{IntersectionResult}
use Rattle.vortex_stats.specs.declared.bound.IntersectionResult.TheVariants.{Value, Empty}
use Rattle.vortex_stats.specs.declared.precision.Precision.{Precision}
use Rattle.vortex_stats.specs.declared.precision.Precision.TheVariants.{Exact, Inexact, Absent}
use Rattle.vortex_stats.specs.Bounds.Bound.{intersection_map}
use Rattle.vortex_stats.specs.Bounds.LowerBound.{lower_union, lower_intersection}
use Rattle.vortex_stats.specs.Bounds.PointBound.{point_intersection}
use Rattle.vortex_stats.specs.Precision.{precision_map}
use Rattle.vortex_stats.specs.Bounds.UpperBound.{upper_union, upper_intersection}

either : {A B : Type 0} (g : A → B) (b : Bool) (x y : A) → g (cond b x y) ≡ cond b (g x) (g y)
either g true x y = refl
either g false x y = refl

module _ {A T : Type 0} (f : A → T) (R : T → T → Ordering) where
  mixed_union : (b : Bool) (e i : A) → option_map (precision_map f) (Some (cond b (Inexact i) (Exact e))) ≡ Some (cond b (Inexact (f i)) (Exact (f e)))
  mixed_union b e i = ap Some (either (precision_map f) b (Inexact i) (Exact e))

  pub upper_union-map : (p q : Precision A) → option_map (precision_map f) (upper_union (λ x y. R (f x) (f y)) p q) ≡ upper_union R (precision_map f p) (precision_map f q)
  upper_union-map (Exact a) (Exact b) = ap (λ v. Some (Exact v)) (either f (is_lt (R (f a) (f b))) b a)
  upper_union-map (Exact e) (Inexact i) = mixed_union (is_lt (R (f e) (f i))) e i
  upper_union-map (Exact e) Absent = refl
  upper_union-map (Inexact i) (Exact e) = mixed_union (is_lt (R (f e) (f i))) e i
  upper_union-map (Inexact a) (Inexact b) = ap (λ v. Some (Inexact v)) (either f (is_lt (R (f a) (f b))) b a)
  upper_union-map (Inexact i) Absent = refl
  upper_union-map Absent q = refl

  within : (b : Bool) (e : A) → option_map (intersection_map (precision_map f)) (Some (cond b Empty (Value (Exact e)))) ≡ Some (cond b Empty (Value (Exact (f e))))
  within b e = ap Some (either (intersection_map (precision_map f)) b Empty (Value (Exact e)))

  same : (b : Bool) (e : A) → option_map (intersection_map (precision_map f)) (Some (cond b (Value (Exact e)) Empty)) ≡ Some (cond b (Value (Exact (f e))) Empty)
  same b e = ap Some (either (intersection_map (precision_map f)) b (Value (Exact e)) Empty)

  pub upper_intersection-map : (p q : Precision A)
      → option_map (intersection_map (precision_map f)) (upper_intersection (λ x y. R (f x) (f y)) p q) ≡ upper_intersection R (precision_map f p) (precision_map f q)
  upper_intersection-map (Exact a) (Exact b) = same (is_eq (R (f a) (f b))) a
  upper_intersection-map (Exact e) (Inexact i) = within (is_lt (R (f i) (f e))) e
  upper_intersection-map (Exact e) Absent = refl
  upper_intersection-map (Inexact i) (Exact e) = within (is_lt (R (f i) (f e))) e
  upper_intersection-map (Inexact a) (Inexact b) = ap (λ v. Some (Value (Inexact v))) (either f (is_lt (R (f b) (f a))) b a)
  upper_intersection-map (Inexact i) Absent = refl
  upper_intersection-map Absent q = refl

  mixed_point : (b : Bool) (e : A) → option_map (intersection_map (precision_map f)) (Some (Value (cond b (Inexact e) (Exact e)))) ≡ Some (Value (cond b (Inexact (f e)) (Exact (f e))))
  mixed_point b e = ap (λ p. Some (Value p)) (either (precision_map f) b (Inexact e) (Exact e))

  pub point_intersection-map : (p q : Precision A)
      → option_map (intersection_map (precision_map f)) (point_intersection (λ x y. R (f x) (f y)) p q) ≡ point_intersection R (precision_map f p) (precision_map f q)
  point_intersection-map (Exact a) (Exact b) = same (is_eq (R (f a) (f b))) a
  point_intersection-map (Exact e) (Inexact i) = mixed_point (is_lt (R (f e) (f i))) e
  point_intersection-map (Exact e) Absent = refl
  point_intersection-map (Inexact i) (Exact e) = mixed_point (is_lt (R (f e) (f i))) e
  point_intersection-map (Inexact a) (Inexact b) = ap (λ v. Some (Value (Inexact v))) (either f (is_lt (R (f b) (f a))) b a)
  point_intersection-map (Inexact i) Absent = refl
  point_intersection-map Absent q = refl

-- a lower bound's tables are those of an upper one under the reversed order
module _ {A T : Type 0} (f : A → T) (R : T → T → Ordering) where
  pub lower_union-map : (p q : Precision A) → option_map (precision_map f) (lower_union (λ x y. R (f x) (f y)) p q) ≡ lower_union R (precision_map f p) (precision_map f q)
  lower_union-map = upper_union-map f (flip_args R)

  pub lower_intersection-map : (p q : Precision A)
      → option_map (intersection_map (precision_map f)) (lower_intersection (λ x y. R (f x) (f y)) p q) ≡ lower_intersection R (precision_map f p) (precision_map f q)
  lower_intersection-map = upper_intersection-map f (flip_args R)
