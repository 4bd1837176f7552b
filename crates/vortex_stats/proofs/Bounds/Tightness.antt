-- Unions of two present bounds are tightest: what they allow is allowed by every bound that allows the picks.
use Rattle.std.proofs.Common.{◌≡◌, refl, inl, inr, sym, ◌∙◌, ⊎_elim}
use Rattle.std.specs.Prelude.{MatchOption, ◌⊎◌, if◌then◌else◌, IsTrue}
use mathlib.Core.Bool.{true≢false}
use Rattle.std.specs.declared.cmp.Ordering.{Ordering}
use Rattle.std.specs.declared.cmp.Ordering.TheVariants.{Less, Equal, Greater}
use Rattle.std.specs.Ordering.{is_lt}
use Rattle.std.specs.Cmp.{IsTotalOrder, tied_back}
use Rattle.vortex_stats.specs.declared.precision.Precision.{Precision}
use Rattle.vortex_stats.specs.declared.precision.Precision.TheVariants.{Exact, Inexact, Absent}
use Rattle.vortex_stats.specs.Precision.{is_present}
use Rattle.vortex_stats.specs.Bounds.Order.{greater, lesser, AtMost, AtMost-refl, AtMost-trans, AtMost-of_equal, AtMost-of_less, AtMost-of_greater, equal-of_both, greater-least, greater_not, less_not_equal, reversed_total}
use Rattle.vortex_stats.specs.Bounds.UpperBound.{upper_allows, upper_union}
use Rattle.vortex_stats.specs.Bounds.LowerBound.{lower_allows, lower_union}
use Rattle.vortex_stats.specs.Bounds.Tightest.{IsTightestAt, IsTightestUnion}

module _ {T : Type 0} {R : T → T → Ordering} (o : IsTotalOrder R) where
  -- what compares equal to a value that is allowed is allowed
  allows_tied : (c : Precision T) (v w : T) → R v w ≡ Equal → upper_allows R c v → upper_allows R c w
  allows_tied (Exact u) v w e h = o.congr u v w h ∙ e
  allows_tied (Inexact u) v w e h = AtMost-trans o w v u (AtMost-of_equal o w v (tied_back o v w e)) h
  allows_tied Absent v w e h = tt

  -- what allows two values of which one is less allows everything below the other
  allows_below : (c : Precision T) (u w z : T) → R u w ≡ Less → upper_allows R c u → upper_allows R c w → AtMost R z w → upper_allows R c z
  allows_below (Exact x) u w z l p q m = absurd (less_not_equal o u w l (sym (o.congr x u w p) ∙ q))
  allows_below (Inexact x) u w z l p q m = AtMost-trans o z w x m q
  allows_below Absent u w z l p q m = tt

  greater_by-tied : (a b : T) (c : Ordering) → R a b ≡ c → (AtMost R b a → R (if is_lt c then b else a) a ≡ Equal) × (AtMost R a b → R (if is_lt c then b else a) b ≡ Equal)
  greater_by-tied a b Less e = (λ l. equal-of_both o b a l (AtMost-of_less o a b e), λ l. equal-of_both o b b (AtMost-refl o b) (AtMost-refl o b))
  greater_by-tied a b Equal e = (λ l. equal-of_both o a a (AtMost-refl o a) (AtMost-refl o a), λ l. e)
  greater_by-tied a b Greater e = (λ l. equal-of_both o a a (AtMost-refl o a) (AtMost-refl o a), λ l. absurd (greater_not o a b e l))

  -- where the pick is allowed, the greater of the two is
  pick_first : (c : Precision T) (a b : T) → AtMost R b a → upper_allows R c (greater R a b) → upper_allows R c a
  pick_first c a b l h = allows_tied c (greater R a b) a ((greater_by-tied a b (R a b) refl).0 l) h

  pick_second : (c : Precision T) (a b : T) → AtMost R a b → upper_allows R c (greater R a b) → upper_allows R c b
  pick_second c a b l h = allows_tied c (greater R a b) b ((greater_by-tied a b (R a b) refl).1 l) h

  tied : (a : T) → R a a ≡ Equal
  tied a = equal-of_both o a a (AtMost-refl o a) (AtMost-refl o a)

  tightest-exact : (a b : T) → IsTightestAt (upper_allows R) (greater R) (Exact a) (Exact b) (Exact (greater R a b))
  tightest-exact a b c z h picks = allows_tied c (greater R a b) z h (picks a b (inr (inl refl)) (inr (inr refl)) (tied a) (tied b))

  -- the exact value is at least the inexact one
  tightest-reached : (e i : T) → AtMost R i e → IsTightestAt (upper_allows R) (greater R) (Exact e) (Inexact i) (Exact e)
  tightest-reached e i l c z h picks =
      allows_tied c e z h (pick_first c e i l (picks e i (inr (inl refl)) (inr (inr refl)) (tied e) (AtMost-refl o i)))

  tightest-reached_back : (e i : T) → AtMost R i e → IsTightestAt (upper_allows R) (greater R) (Inexact i) (Exact e) (Exact e)
  tightest-reached_back e i l c z h picks =
      allows_tied c e z h (pick_second c i e l (picks i e (inr (inl refl)) (inr (inr refl)) (AtMost-refl o i) (tied e)))

  -- the exact value is less than the inexact one
  tightest-unreached : (e i : T) → R e i ≡ Less → IsTightestAt (upper_allows R) (greater R) (Exact e) (Inexact i) (Inexact i)
  tightest-unreached e i l c z h picks =
      let e_allowed : upper_allows R c e = pick_first c e e (AtMost-refl o e) (picks e e (inr (inl refl)) (inr (inl refl)) (tied e) (AtMost-of_less o e i l)) in
      let i_allowed : upper_allows R c i = pick_second c e i (AtMost-of_less o e i l) (picks e i (inr (inl refl)) (inr (inr refl)) (tied e) (AtMost-refl o i)) in
      allows_below c e i z l e_allowed i_allowed h

  tightest-unreached_back : (e i : T) → R e i ≡ Less → IsTightestAt (upper_allows R) (greater R) (Inexact i) (Exact e) (Inexact i)
  tightest-unreached_back e i l c z h picks =
      let e_allowed : upper_allows R c e = pick_first c e e (AtMost-refl o e) (picks e e (inr (inr refl)) (inr (inr refl)) (AtMost-of_less o e i l) (tied e)) in
      let i_allowed : upper_allows R c i = pick_first c i e (AtMost-of_less o e i l) (picks i e (inr (inl refl)) (inr (inr refl)) (AtMost-refl o i) (tied e)) in
      allows_below c e i z l e_allowed i_allowed h

  mixed : (e i : T) (c : Ordering) → R e i ≡ c
      → IsTightestAt (upper_allows R) (greater R) (Exact e) (Inexact i) (if is_lt c then Inexact i else Exact e)
  mixed e i Less l = tightest-unreached e i l
  mixed e i Equal l = tightest-reached e i (AtMost-of_equal o i e (tied_back o e i l))
  mixed e i Greater l = tightest-reached e i (AtMost-of_greater o e i l)

  mixed_back : (e i : T) (c : Ordering) → R e i ≡ c
      → IsTightestAt (upper_allows R) (greater R) (Inexact i) (Exact e) (if is_lt c then Inexact i else Exact e)
  mixed_back e i Less l = tightest-unreached_back e i l
  mixed_back e i Equal l = tightest-reached_back e i (AtMost-of_equal o i e (tied_back o e i l))
  mixed_back e i Greater l = tightest-reached_back e i (AtMost-of_greater o e i l)

  one_way : (z a : T) (c : Ordering) → R z a ≡ c → AtMost R z a ⊎ AtMost R a z
  one_way z a Less e = inl (AtMost-of_less o z a e)
  one_way z a Equal e = inl (AtMost-of_equal o z a e)
  one_way z a Greater e = inr (AtMost-of_greater o z a e)

  -- z is picked from itself and itself, from itself and the lesser operand, or compares equal to the greater operand
  tightest-inexact : (a b : T) → IsTightestAt (upper_allows R) (greater R) (Inexact a) (Inexact b) (Inexact (greater R a b))
  tightest-inexact a b c z h picks =
      ⊎_elim
      (λ (z_a : AtMost R z a). ⊎_elim
      (λ (z_b : AtMost R z b). pick_first c z z (AtMost-refl o z) (picks z z (inl refl) (inl refl) z_a z_b))
      (λ (b_z : AtMost R b z). pick_first c z b b_z (picks z b (inl refl) (inr (inr refl)) z_a (AtMost-refl o b)))
      (one_way z b (R z b) refl))
      (λ (a_z : AtMost R a z). ⊎_elim
      (λ (z_b : AtMost R z b). pick_second c a z a_z (picks a z (inr (inl refl)) (inl refl) (AtMost-refl o a) z_b))
      (λ (b_z : AtMost R b z). allows_tied c (greater R a b) z
      (equal-of_both o (greater R a b) z (greater-least o a b z a_z b_z) h)
      (picks a b (inr (inl refl)) (inr (inr refl)) (AtMost-refl o a) (AtMost-refl o b)))
      (one_way z b (R z b) refl))
      (one_way z a (R z a) refl)

  tightest_at : (a b : Precision T) → IsTrue (is_present a) → IsTrue (is_present b)
      → MatchOption (upper_union R a b) ⊥ (IsTightestAt (upper_allows R) (greater R) a b)
  tightest_at (Exact a) (Exact b) p q = tightest-exact a b
  tightest_at (Exact e) (Inexact i) p q = mixed e i (R e i) refl
  tightest_at (Exact e) Absent p q = true≢false (sym q)
  tightest_at (Inexact i) (Exact e) p q = mixed_back e i (R e i) refl
  tightest_at (Inexact a) (Inexact b) p q = tightest-inexact a b
  tightest_at (Inexact i) Absent p q = true≢false (sym q)
  tightest_at Absent b p q = absurd (true≢false (sym p))

  pub upper_union-tightest : IsTightestUnion (upper_allows R) (greater R) (upper_union R)
  upper_union-tightest = record { present = tightest_at }

-- each table of lower bounds is that of upper bounds under the reversed order
module _ {T : Type 0} {R : T → T → Ordering} (o : IsTotalOrder R) where
  pub lower_union-tightest : IsTightestUnion (lower_allows R) (lesser R) (lower_union R)
  lower_union-tightest = upper_union-tightest (reversed_total o)
