-- The derived order of values is that of the definitions, so the tables over it are too.
use Rattle.std.proofs.Common.{◌≡◌, ℕ, ◌<◌, Bool, true, false, Option, refl, ap, ◌∙◌, arith}
use Rattle.std.specs.Prelude.{ℤ, pos, ◌<ℤ◌}
use Rattle.std.specs.Cmp.{ranked, int_cmp_is}
use borrow.Author.Differences.{ints}
use Rattle.std.specs.Option.{option_map}
use Rattle.std.specs.declared.cmp.Ordering.{Ordering}
use Rattle.std.specs.declared.cmp.Ordering.TheVariants.{Less, Equal, Greater}
use Rattle.std.specs.Ordering.{nat_cmp, int_cmp, ordering_then, MatchOrdering}
use Rattle.vortex_base.specs.declared.pvalue.PValue.{PValue}
use Rattle.vortex_base.specs.declared.pvalue.PValue.TheVariants as number
use Rattle.vortex_base.specs.contracts.scalar_value.ScalarValueOrd.TheImpl as derived
use Rattle.vortex_base.specs.declared.scalar_value.ScalarValue.{ScalarValue}
use Rattle.vortex_base.specs.declared.scalar_value.ScalarValue.TheVariants as value
use Rattle.vortex_base.specs.Data.Values.{value_cmp}
use Rattle.vortex_stats.specs.declared.precision.Precision.{Precision}
use Rattle.vortex_stats.specs.Bounds.Bound.{intersection_map}
use Rattle.vortex_stats.specs.Bounds.LowerBound.{lower_union, lower_intersection}
use Rattle.vortex_stats.specs.Bounds.PointBound.{point_intersection}
use Rattle.vortex_stats.specs.Precision.{precision_map}
use Rattle.vortex_stats.specs.Bounds.UpperBound.{upper_union, upper_intersection}
use Rattle.vortex_stats.proofs.Sets.Mapped.{upper_union-map, lower_union-map, upper_intersection-map, lower_intersection-map, point_intersection-map}

abbrev pub derived_cmp : ScalarValue → ScalarValue → Ordering
derived_cmp = derived.ghosts.cmp

then_equal : (o : Ordering) → o ≡ ordering_then o Equal
then_equal Less = refl
then_equal Equal = refl
then_equal Greater = refl

as_whole : (m n : ℕ) (r : Ordering) → MatchOrdering r (m < n) (m ≡ n) (n < m) → MatchOrdering r (pos m <ℤ pos n) (pos m ≡ pos n) (pos n <ℤ pos m)
as_whole m n Less h = omega (arith, ints)
as_whole m n Equal h = ap pos h
as_whole m n Greater h = omega (arith, ints)

-- natural numbers are ordered as whole ones
nat_cmp-pos : (m n : ℕ) → nat_cmp m n ≡ ordering_then (int_cmp (pos m) (pos n)) Equal
nat_cmp-pos m n = int_cmp_is (pos m) (pos n) (nat_cmp m n) (as_whole m n (nat_cmp m n) (ranked m n (nat_cmp m n) refl)) ∙ then_equal (int_cmp (pos m) (pos n))

derived_numbers : (p q : PValue) → derived_cmp (value.Primitive p) (value.Primitive q) ≡ value_cmp (value.Primitive p) (value.Primitive q)
derived_numbers (number.U8 m) (number.U8 n) = nat_cmp-pos m n
derived_numbers (number.U16 m) (number.U16 n) = nat_cmp-pos m n
derived_numbers (number.U32 m) (number.U32 n) = nat_cmp-pos m n
derived_numbers (number.U64 m) (number.U64 n) = nat_cmp-pos m n
derived_numbers (number.I8 m) (number.I8 n) = then_equal (int_cmp m n)
derived_numbers (number.I16 m) (number.I16 n) = then_equal (int_cmp m n)
derived_numbers (number.I32 m) (number.I32 n) = then_equal (int_cmp m n)
derived_numbers (number.I64 m) (number.I64 n) = then_equal (int_cmp m n)
derived_numbers p q = refl

derived_at : (x y : ScalarValue) → derived_cmp x y ≡ value_cmp x y
derived_at (value.Bool false) (value.Bool false) = refl
derived_at (value.Bool false) (value.Bool true) = refl
derived_at (value.Bool true) (value.Bool false) = refl
derived_at (value.Bool true) (value.Bool true) = refl
derived_at (value.Primitive p) (value.Primitive q) = derived_numbers p q
derived_at (value.Utf8 a) (value.Utf8 b) = refl
derived_at (value.Binary a) (value.Binary b) = refl
derived_at x y = refl

pub derived_is : derived_cmp ≡ value_cmp
derived_is = λ i x y. derived_at x y i

module _ {A : Type 0} (f : A → ScalarValue) (p q : Precision A) where
  pub upper_union-read : option_map (precision_map f) (upper_union (λ x y. derived_cmp (f x) (f y)) p q) ≡ upper_union value_cmp (precision_map f p) (precision_map f q)
  upper_union-read = upper_union-map f derived_cmp p q ∙ ap (λ R. upper_union R (precision_map f p) (precision_map f q)) derived_is

  pub lower_union-read : option_map (precision_map f) (lower_union (λ x y. derived_cmp (f x) (f y)) p q) ≡ lower_union value_cmp (precision_map f p) (precision_map f q)
  lower_union-read = lower_union-map f derived_cmp p q ∙ ap (λ R. lower_union R (precision_map f p) (precision_map f q)) derived_is

  pub upper_intersection-read : option_map (intersection_map (precision_map f)) (upper_intersection (λ x y. derived_cmp (f x) (f y)) p q)
      ≡ upper_intersection value_cmp (precision_map f p) (precision_map f q)
  upper_intersection-read = upper_intersection-map f derived_cmp p q ∙ ap (λ R. upper_intersection R (precision_map f p) (precision_map f q)) derived_is

  pub lower_intersection-read : option_map (intersection_map (precision_map f)) (lower_intersection (λ x y. derived_cmp (f x) (f y)) p q)
      ≡ lower_intersection value_cmp (precision_map f p) (precision_map f q)
  lower_intersection-read = lower_intersection-map f derived_cmp p q ∙ ap (λ R. lower_intersection R (precision_map f p) (precision_map f q)) derived_is

  pub point_intersection-read : option_map (intersection_map (precision_map f)) (point_intersection (λ x y. derived_cmp (f x) (f y)) p q)
      ≡ point_intersection value_cmp (precision_map f p) (precision_map f q)
  point_intersection-read = point_intersection-map f derived_cmp p q ∙ ap (λ R. point_intersection R (precision_map f p) (precision_map f q)) derived_is
