-- Worked rows of the definitions of unions, found by computation alone, and bounds that are not the tightest.
use Rattle.std.proofs.Common.{◌≡◌, ℕ, zero, suc, [], ◌∷◌, inl, refl, sym, arith}
use Rattle.std.specs.Prelude.{Some, None, Contains, option_map}
use Rattle.std.specs.Ordering.{nat_cmp}
use Rattle.std.specs.declared.cmp.Ordering.TheVariants.{Equal}
use Rattle.std.proofs.lemmas.Cmp.{nat_cmp_total}
use Rattle.vortex_stats.specs.declared.precision.Precision.TheVariants.{Exact, Inexact, Absent}
use Rattle.vortex_stats.specs.Precision.{inexact_of}
use Rattle.vortex_stats.specs.Bounds.Bound.{IsUnion, IsIntersection, intersection_map}
use Rattle.vortex_stats.specs.Bounds.Order.{greater, lesser}
use Rattle.vortex_stats.specs.Bounds.UpperBound.{upper_allows, upper_union, upper_union-law}
use Rattle.vortex_stats.specs.Bounds.LowerBound.{lower_allows, lower_union, lower_union-law}
use Rattle.vortex_stats.specs.Bounds.PointBound.{point_allows, point_union, point_intersection}
use Rattle.vortex_stats.specs.Bounds.Tightest.{leaf, fork, tree_union, IsTightestAt, IsGreatestOf, IsLeastOf}
use mathlib.Core.Bool.{true≢false}

-- ---- three upper bounds in several groupings and orders: the greatest value is exact where an exact bound has it

upper_right : tree_union (upper_union nat_cmp) (fork (leaf (Inexact 10)) (fork (leaf (Exact 12)) (leaf (Inexact 12)))) ≡ Some (Exact 12)
upper_right = refl

upper_left : tree_union (upper_union nat_cmp) (fork (fork (leaf (Inexact 12)) (leaf (Inexact 10))) (leaf (Exact 12))) ≡ Some (Exact 12)
upper_left = refl

upper_inexact : tree_union (upper_union nat_cmp) (fork (leaf (Exact 10)) (fork (leaf (Inexact 12)) (leaf (Exact 11)))) ≡ Some (Inexact 12)
upper_inexact = refl

upper_one : tree_union (upper_union nat_cmp) (leaf (Inexact 10)) ≡ Some (Inexact 10)
upper_one = refl

upper_absent : tree_union (upper_union nat_cmp) (fork (leaf (Exact 12)) (leaf Absent)) ≡ None
upper_absent = refl

-- ---- lower bounds, with the least value

lower_right : tree_union (lower_union nat_cmp) (fork (leaf (Inexact 7)) (fork (leaf (Exact 5)) (leaf (Inexact 5)))) ≡ Some (Exact 5)
lower_right = refl

lower_left : tree_union (lower_union nat_cmp) (fork (fork (leaf (Inexact 5)) (leaf (Inexact 7))) (leaf (Exact 5))) ≡ Some (Exact 5)
lower_left = refl

lower_inexact : tree_union (lower_union nat_cmp) (fork (leaf (Exact 5)) (fork (leaf (Inexact 4)) (leaf (Exact 6)))) ≡ Some (Inexact 4)
lower_inexact = refl

-- ---- a bound that is inexact without need, or that lies further out, is not the tightest: the union itself allows
-- the picks, and not the value that the looser bound allows

needlessly_inexact : ¬ IsTightestAt (upper_allows nat_cmp) (greater nat_cmp) (Exact 10) (Exact 12) (Inexact 12)
needlessly_inexact = λ h. let e = h (Exact 12) 11 refl (λ x y i j. ((upper_union-law nat_cmp_total).present (Exact 10) (Exact 12) refl refl).allowed x y) in cc

inexact_beside_inexact : ¬ IsTightestAt (upper_allows nat_cmp) (greater nat_cmp) (Inexact 10) (Exact 12) (Inexact 12)
inexact_beside_inexact = λ h. let e = h (Exact 12) 11 refl (λ x y i j. ((upper_union-law nat_cmp_total).present (Inexact 10) (Exact 12) refl refl).allowed x y) in cc

further_above : ¬ IsTightestAt (upper_allows nat_cmp) (greater nat_cmp) (Inexact 10) (Inexact 12) (Inexact 13)
further_above = λ h. let e = h (Inexact 12) 13 refl (λ x y i j. ((upper_union-law nat_cmp_total).present (Inexact 10) (Inexact 12) refl refl).allowed x y) in cc

needlessly_inexact_below : ¬ IsTightestAt (lower_allows nat_cmp) (lesser nat_cmp) (Exact 10) (Exact 12) (Inexact 10)
needlessly_inexact_below = λ h. let e = h (Exact 10) 11 refl (λ x y i j. ((lower_union-law nat_cmp_total).present (Exact 10) (Exact 12) refl refl).allowed x y) in cc

-- ---- a bound that is inexact where an exact one has the greatest value, or exact where none has, or that has another
-- value, is not the union of many

inner : {v w : ℕ} → Exact v ≡ Exact w → v ≡ w
inner e = cc

none_exact : (v : ℕ) → Contains (Exact 10 ∷ Inexact 12 ∷ []) (Exact v) → nat_cmp v 12 ≡ Equal → ⊥
none_exact v (zero, l, e) h = let ten : 10 ≡ v = inner e in cc
none_exact v (suc zero, l, e) h = cc
none_exact v (suc (suc k), l, e) h = absurd (omega arith)

inexact_of_exact : ¬ IsGreatestOf nat_cmp (Exact 10 ∷ Exact 12 ∷ []) (Inexact 12)
inexact_of_exact = λ (g, n). n (12, (1, omega arith, refl), refl)

exact_of_inexact : ¬ IsGreatestOf nat_cmp (Exact 10 ∷ Inexact 12 ∷ []) (Exact 12)
exact_of_inexact = λ (g, (v, i, e)). none_exact v i e

lesser_of_two : ¬ IsGreatestOf nat_cmp (Exact 10 ∷ Exact 12 ∷ []) (Exact 10)
lesser_of_two = λ (g, x). let h = g.above 12 (inl (1, omega arith, refl)) in cc

greater_of_two : ¬ IsLeastOf nat_cmp (Exact 10 ∷ Exact 12 ∷ []) (Exact 12)
greater_of_two = λ (g, x). let h = g.below 10 (inl (0, omega arith, refl)) in cc

-- ---- a union, or an intersection, that is never exact is none, also where an inexact bound allows everything

never_exact_union : ¬ IsUnion (point_allows nat_cmp) (lesser nat_cmp) (λ a b. option_map inexact_of (point_union nat_cmp a b))
never_exact_union = λ h. true≢false (sym ((h.present (Exact 1) (Exact 1) refl refl).made.tied 1 refl refl refl refl))

never_exact_intersection : ¬ IsIntersection (point_allows nat_cmp) (λ a b. option_map (intersection_map inexact_of) (point_intersection nat_cmp a b))
never_exact_intersection = λ h. true≢false (sym ((h.present (Exact 1) (Exact 1) refl refl).made.tied 1 refl refl refl refl))
