-- The union of many present bounds is their greatest value, exact where an exact bound has it, whatever their grouping and order.
use Rattle.std.proofs.Common.{◌≡◌, zero, suc, refl, inl, inr, sym, ◌∙◌, ap, subst, ⊎_elim, arith}
use Rattle.std.specs.Prelude.{Option, Some, None, List, [], ◌∷◌, ◌++◌, MatchOption, ◌⊎◌, if◌then◌else◌, IsTrue, Contains, IsPermutation}
use mathlib.Core.Bool.{true≢false}
use Rattle.std.specs.declared.cmp.Ordering.{Ordering}
use Rattle.std.specs.declared.cmp.Ordering.TheVariants.{Less, Equal, Greater}
use Rattle.std.specs.Ordering.{is_lt, ordering_reverse, flip_args}
use Rattle.std.specs.Cmp.{IsTotalOrder, tied_back}
use Rattle.std.proofs.lemmas.List.Elements.{All-contains, Contains-append_left, Contains-append_right, Contains-append_cases}
use Rattle.std.proofs.lemmas.List.Sorted.{All-permutation, Contains-permutation, IsPermutation-append_comm, IsPermutation-sym}
use Rattle.vortex_stats.specs.declared.precision.Precision.{Precision}
use Rattle.vortex_stats.specs.declared.precision.Precision.TheVariants.{Exact, Inexact, Absent}
use Rattle.vortex_stats.specs.Precision.{is_present}
use Rattle.vortex_stats.specs.Bounds.Order.{AtMost, AtMost-refl, AtMost-trans, AtMost-of_equal, AtMost-of_less, AtMost-of_greater, equal-of_both, greater_not, reversed_total}
use Rattle.vortex_stats.specs.Bounds.UpperBound.{upper_union}
use Rattle.vortex_stats.specs.Bounds.LowerBound.{lower_union}
use Rattle.vortex_stats.specs.Bounds.Tightest.{BoundTree, leaf, fork, leaves, ArePresent, union_of_two, tree_union, HasValue, HasExact, IsGreatest, IsGreatestOf, IsLeastOf, AreAlike, AnswersAlike}

only_one : {X : Type 0} (x y : X) → Contains (x ∷ []) y → x ≡ y
only_one x y (zero, l, e) = e
only_one x y (suc k, l, e) = absurd (omega (arith, l))

module _ {T : Type 0} where
  inner_exact : {v w : T} → Exact v ≡ Exact w → v ≡ w
  inner_exact e = cc

  inner_inexact : {v w : T} → Inexact v ≡ Inexact w → v ≡ w
  inner_inexact e = cc

  HasValue-left : (bs cs : List (Precision T)) (v : T) → HasValue bs v → HasValue (bs ++ cs) v
  HasValue-left bs cs v h =
      ⊎_elim (λ i. inl (Contains-append_left bs cs (Exact v) i)) (λ i. inr (Contains-append_left bs cs (Inexact v) i)) h

  HasValue-cases : (bs cs : List (Precision T)) (v : T) → HasValue (bs ++ cs) v → HasValue bs v ⊎ HasValue cs v
  HasValue-cases bs cs v h =
      ⊎_elim
      (λ i. ⊎_elim (λ j. inl (inl j)) (λ j. inr (inl j)) (Contains-append_cases bs cs (Exact v) i))
      (λ i. ⊎_elim (λ j. inl (inr j)) (λ j. inr (inr j)) (Contains-append_cases bs cs (Inexact v) i))
      h

  HasValue-permuted : (bs cs : List (Precision T)) (v : T) → IsPermutation bs cs → HasValue bs v → HasValue cs v
  HasValue-permuted bs cs v p h =
      ⊎_elim (λ i. inl (Contains-permutation bs cs (Exact v) p i)) (λ i. inr (Contains-permutation bs cs (Inexact v) p i)) h

module _ {T : Type 0} {R : T → T → Ordering} (o : IsTotalOrder R) where
  tied : (v : T) → R v v ≡ Equal
  tied v = equal-of_both o v v (AtMost-refl o v) (AtMost-refl o v)

  HasExact-left : (bs cs : List (Precision T)) (w : T) → HasExact R bs w → HasExact R (bs ++ cs) w
  HasExact-left bs cs w (v, i, e) = (v, Contains-append_left bs cs (Exact v) i, e)

  HasExact-cases : (bs cs : List (Precision T)) (w : T) → HasExact R (bs ++ cs) w → HasExact R bs w ⊎ HasExact R cs w
  HasExact-cases bs cs w (v, i, e) = ⊎_elim (λ j. inl (v, j, e)) (λ j. inr (v, j, e)) (Contains-append_cases bs cs (Exact v) i)

  HasExact-permuted : (bs cs : List (Precision T)) (w : T) → IsPermutation bs cs → HasExact R bs w → HasExact R cs w
  HasExact-permuted bs cs w p (v, i, e) = (v, Contains-permutation bs cs (Exact v) p i, e)

  HasExact-tied : (bs : List (Precision T)) (v w : T) → R v w ≡ Equal → HasExact R bs v → HasExact R bs w
  HasExact-tied bs v w l (u, i, e) = (u, i, o.congr u v w e ∙ l)

  -- no bound has a value above the greatest
  HasExact-not_above : (bs : List (Precision T)) (v w : T) → IsGreatest R bs w → R v w ≡ Greater → ¬ HasExact R bs v
  HasExact-not_above bs v w g l (u, i, e) =
      greater_not o v w l (AtMost-trans o v u w (AtMost-of_equal o v u (tied_back o u v e)) (g.above u (inl i)))

  IsGreatest-left : (bs cs : List (Precision T)) (v w : T) → IsGreatest R bs v → IsGreatest R cs w → AtMost R w v → IsGreatest R (bs ++ cs) v
  IsGreatest-left bs cs v w g h l = record {
    reached = HasValue-left bs cs v g.reached;
    above = λ u i. ⊎_elim (λ j. g.above u j) (λ j. AtMost-trans o u w v (h.above u j) l) (HasValue-cases bs cs u i);
  }

  IsGreatest-permuted : (bs cs : List (Precision T)) (w : T) → IsPermutation bs cs → IsGreatest R bs w → IsGreatest R cs w
  IsGreatest-permuted bs cs w p g = record {
    reached = HasValue-permuted bs cs w p g.reached;
    above = λ u i. g.above u (HasValue-permuted cs bs u (IsPermutation-sym bs cs p) i);
  }

  permuted : (bs cs : List (Precision T)) → IsPermutation bs cs → (r : Precision T) → IsGreatestOf R bs r → IsGreatestOf R cs r
  permuted bs cs p (Exact w) (g, x) = (IsGreatest-permuted bs cs w p g, HasExact-permuted bs cs w p x)
  permuted bs cs p (Inexact w) (g, n) =
      (IsGreatest-permuted bs cs w p g, λ x. n (HasExact-permuted cs bs w (IsPermutation-sym bs cs p) x))
  permuted bs cs p Absent h = absurd h

  swapped : (bs cs : List (Precision T)) (r : Precision T) → IsGreatestOf R (cs ++ bs) r → IsGreatestOf R (bs ++ cs) r
  swapped bs cs r h = permuted (cs ++ bs) (bs ++ cs) (IsPermutation-append_comm cs bs) r h

  -- the first list's bound is that of both
  exact_left : (bs cs : List (Precision T)) (v w : T) → IsGreatestOf R bs (Exact v) → IsGreatest R cs w → AtMost R w v → IsGreatestOf R (bs ++ cs) (Exact v)
  exact_left bs cs v w (g, x) h l = (IsGreatest-left bs cs v w g h l, HasExact-left bs cs v x)

  inexact_left : (bs cs : List (Precision T)) (v w : T) → IsGreatestOf R bs (Inexact v) → IsGreatest R cs w → AtMost R w v → ¬ HasExact R cs v
      → IsGreatestOf R (bs ++ cs) (Inexact v)
  inexact_left bs cs v w (g, n) h l m = (IsGreatest-left bs cs v w g h l, λ x. ⊎_elim n m (HasExact-cases bs cs v x))

  less_back : (v w : T) → R v w ≡ Less → R w v ≡ Greater
  less_back v w l = o.antisymm w v ∙ ap ordering_reverse l

  exacts : (bs cs : List (Precision T)) (v w : T) (c : Ordering) → R v w ≡ c → IsGreatestOf R bs (Exact v) → IsGreatestOf R cs (Exact w)
      → IsGreatestOf R (bs ++ cs) (Exact (if is_lt c then w else v))
  exacts bs cs v w Less l g h = swapped bs cs (Exact w) (exact_left cs bs w v h g.0 (AtMost-of_less o v w l))
  exacts bs cs v w Equal l g h = exact_left bs cs v w g h.0 (AtMost-of_equal o w v (tied_back o v w l))
  exacts bs cs v w Greater l g h = exact_left bs cs v w g h.0 (AtMost-of_greater o v w l)

  inexacts : (bs cs : List (Precision T)) (v w : T) (c : Ordering) → R v w ≡ c → IsGreatestOf R bs (Inexact v) → IsGreatestOf R cs (Inexact w)
      → IsGreatestOf R (bs ++ cs) (Inexact (if is_lt c then w else v))
  inexacts bs cs v w Less l g h =
      swapped bs cs (Inexact w)
      (inexact_left cs bs w v h g.0 (AtMost-of_less o v w l) (HasExact-not_above bs w v g.0 (less_back v w l)))
  inexacts bs cs v w Equal l g h =
      inexact_left bs cs v w g h.0 (AtMost-of_equal o w v (tied_back o v w l)) (λ x. h.1 (HasExact-tied cs v w l x))
  inexacts bs cs v w Greater l g h = inexact_left bs cs v w g h.0 (AtMost-of_greater o v w l) (HasExact-not_above cs v w h.0 l)

  mixed : (bs cs : List (Precision T)) (e i : T) (c : Ordering) → R e i ≡ c → IsGreatestOf R bs (Exact e) → IsGreatestOf R cs (Inexact i)
      → IsGreatestOf R (bs ++ cs) (if is_lt c then Inexact i else Exact e)
  mixed bs cs e i Less l g h =
      swapped bs cs (Inexact i)
      (inexact_left cs bs i e h g.0 (AtMost-of_less o e i l) (HasExact-not_above bs i e g.0 (less_back e i l)))
  mixed bs cs e i Equal l g h = exact_left bs cs e i g h.0 (AtMost-of_equal o i e (tied_back o e i l))
  mixed bs cs e i Greater l g h = exact_left bs cs e i g h.0 (AtMost-of_greater o e i l)

  of_two : (bs cs : List (Precision T)) (p q : Precision T) → IsGreatestOf R bs p → IsGreatestOf R cs q
      → MatchOption (upper_union R p q) ⊥ (IsGreatestOf R (bs ++ cs))
  of_two bs cs (Exact v) (Exact w) g h = exacts bs cs v w (R v w) refl g h
  of_two bs cs (Exact e) (Inexact i) g h = mixed bs cs e i (R e i) refl g h
  of_two bs cs (Exact e) Absent g h = h
  of_two bs cs (Inexact i) (Exact e) g h = swapped bs cs (if is_lt (R e i) then Inexact i else Exact e) (mixed cs bs e i (R e i) refl h g)
  of_two bs cs (Inexact v) (Inexact w) g h = inexacts bs cs v w (R v w) refl g h
  of_two bs cs (Inexact i) Absent g h = h
  of_two bs cs Absent q g h = absurd g

  of_sides : (bs cs : List (Precision T)) (p q : Option (Precision T)) → MatchOption p ⊥ (IsGreatestOf R bs) → MatchOption q ⊥ (IsGreatestOf R cs)
      → MatchOption (union_of_two (upper_union R) p q) ⊥ (IsGreatestOf R (bs ++ cs))
  of_sides bs cs (Some p) (Some q) g h = of_two bs cs p q g h
  of_sides bs cs (Some p) None g h = h
  of_sides bs cs None q g h = absurd g

  of_one : (b : Precision T) → IsTrue (is_present b) → IsGreatestOf R (b ∷ []) b
  of_one (Exact v) p = (
    record {
      reached = inl (zero, omega arith, refl);
      above = λ u h. ⊎_elim
          (λ i. let e : v ≡ u = inner_exact (only_one (Exact v) (Exact u) i) in subst (λ x. AtMost R x v) e (AtMost-refl o v))
          (λ i. let e : Exact v ≡ Inexact u = only_one (Exact v) (Inexact u) i in cc)
          h;
    },
    (v, (zero, omega arith, refl), tied v),
  )
  of_one (Inexact v) p = (
    record {
      reached = inr (zero, omega arith, refl);
      above = λ u h. ⊎_elim
          (λ i. let e : Inexact v ≡ Exact u = only_one (Inexact v) (Exact u) i in cc)
          (λ i. let e : v ≡ u = inner_inexact (only_one (Inexact v) (Inexact u) i) in subst (λ x. AtMost R x v) e (AtMost-refl o v))
          h;
    },
    λ (u, i, e). let d : Inexact v ≡ Exact u = only_one (Inexact v) (Exact u) i in cc,
  )
  of_one Absent p = absurd (true≢false (sym p))

  of_tree : (t : BoundTree T) → ((b : Precision T) → Contains (leaves t) b → IsTrue (is_present b))
      → MatchOption (tree_union (upper_union R) t) ⊥ (IsGreatestOf R (leaves t))
  of_tree (leaf b) h = of_one b (h b (zero, omega arith, refl))
  of_tree (fork s t) h =
      of_sides (leaves s) (leaves t) (tree_union (upper_union R) s) (tree_union (upper_union R) t)
      (of_tree s (λ b i. h b (Contains-append_left (leaves s) (leaves t) b i)))
      (of_tree t (λ b i. h b (Contains-append_right (leaves s) (leaves t) b i)))

  pub upper_union-greatest : (t : BoundTree T) → ArePresent (leaves t) → MatchOption (tree_union (upper_union R) t) ⊥ (IsGreatestOf R (leaves t))
  upper_union-greatest t h = of_tree t (λ b i. All-contains (λ c. IsTrue (is_present c)) (leaves t) b h i)

  -- a list has one greatest value
  one_greatest : (bs : List (Precision T)) (v w : T) → IsGreatest R bs v → IsGreatest R bs w → R v w ≡ Equal
  one_greatest bs v w g h = equal-of_both o v w (h.above v g.reached) (g.above w h.reached)

  alike : (bs : List (Precision T)) (p q : Precision T) → IsGreatestOf R bs p → IsGreatestOf R bs q → AreAlike R p q
  alike bs (Exact v) (Exact w) (g, x) (h, y) = one_greatest bs v w g h
  alike bs (Exact v) (Inexact w) (g, x) (h, n) = n (HasExact-tied bs v w (one_greatest bs v w g h) x)
  alike bs (Exact v) Absent g h = h
  alike bs (Inexact v) (Exact w) (g, n) (h, x) = n (HasExact-tied bs w v (one_greatest bs w v h g) x)
  alike bs (Inexact v) (Inexact w) (g, n) (h, m) = one_greatest bs v w g h
  alike bs (Inexact v) Absent g h = h
  alike bs Absent q g h = absurd g

  answers_alike : (bs cs : List (Precision T)) → IsPermutation bs cs → (p q : Option (Precision T))
      → MatchOption p ⊥ (IsGreatestOf R bs) → MatchOption q ⊥ (IsGreatestOf R cs) → AnswersAlike R p q
  answers_alike bs cs m (Some p) (Some q) g h = alike cs p q (permuted bs cs m p g) h
  answers_alike bs cs m (Some p) None g h = h
  answers_alike bs cs m None q g h = absurd g

  pub upper_unions-agree : (s t : BoundTree T) → ArePresent (leaves s) → IsPermutation (leaves s) (leaves t)
      → AnswersAlike R (tree_union (upper_union R) s) (tree_union (upper_union R) t)
  upper_unions-agree s t h p =
      answers_alike (leaves s) (leaves t) p (tree_union (upper_union R) s) (tree_union (upper_union R) t)
      (upper_union-greatest s h)
      (upper_union-greatest t (All-permutation (λ b. IsTrue (is_present b)) (leaves s) (leaves t) p h))

-- the unions of lower bounds are those of upper bounds under the reversed order
module _ {T : Type 0} {R : T → T → Ordering} (o : IsTotalOrder R) where
  turned_exact : (bs : List (Precision T)) (w : T) → HasExact (flip_args R) bs w → HasExact R bs w
  turned_exact bs w (v, i, e) = (v, i, tied_back o w v e)

  turned_exact_back : (bs : List (Precision T)) (w : T) → HasExact R bs w → HasExact (flip_args R) bs w
  turned_exact_back bs w (v, i, e) = (v, i, tied_back o v w e)

  turned : (bs : List (Precision T)) (r : Precision T) → IsGreatestOf (flip_args R) bs r → IsLeastOf R bs r
  turned bs (Exact w) (g, x) = (record { reached = g.reached; below = g.above }, turned_exact bs w x)
  turned bs (Inexact w) (g, n) = (record { reached = g.reached; below = g.above }, λ x. n (turned_exact_back bs w x))
  turned bs Absent h = h

  turned_option : (bs : List (Precision T)) (p : Option (Precision T)) → MatchOption p ⊥ (IsGreatestOf (flip_args R) bs) → MatchOption p ⊥ (IsLeastOf R bs)
  turned_option bs (Some p) h = turned bs p h
  turned_option bs None h = h

  pub lower_union-least : (t : BoundTree T) → ArePresent (leaves t) → MatchOption (tree_union (lower_union R) t) ⊥ (IsLeastOf R (leaves t))
  lower_union-least t h = turned_option (leaves t) (tree_union (lower_union R) t) (upper_union-greatest (reversed_total o) t h)

  turned_alike : (p q : Precision T) → AreAlike (flip_args R) p q → AreAlike R p q
  turned_alike (Exact v) (Exact w) e = tied_back o w v e
  turned_alike (Exact v) (Inexact w) e = e
  turned_alike (Exact v) Absent e = e
  turned_alike (Inexact v) (Exact w) e = e
  turned_alike (Inexact v) (Inexact w) e = tied_back o w v e
  turned_alike (Inexact v) Absent e = e
  turned_alike Absent q e = e

  turned_answers : (p q : Option (Precision T)) → AnswersAlike (flip_args R) p q → AnswersAlike R p q
  turned_answers (Some p) (Some q) e = turned_alike p q e
  turned_answers (Some p) None e = e
  turned_answers None q e = e

  pub lower_unions-agree : (s t : BoundTree T) → ArePresent (leaves s) → IsPermutation (leaves s) (leaves t)
      → AnswersAlike R (tree_union (lower_union R) s) (tree_union (lower_union R) t)
  lower_unions-agree s t h p =
      turned_answers (tree_union (lower_union R) s) (tree_union (lower_union R) t) (upper_unions-agree (reversed_total o) s t h p)
