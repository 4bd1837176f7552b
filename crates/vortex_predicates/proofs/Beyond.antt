-- A box whose sides lie beyond all that a test compares goes far enough, and so does one of known bounds.
use Rattle.std.proofs.Common.{◌≡◌, ◌≢◌, ◌==◌, Bool, true, false, not as not_b, ◌&&◌, ◌||◌, List, [], ◌∷◌, ◌++◌, Option, Some, None, refl, sym, ap, ap₂}
use Rattle.std.specs.Prelude.{IsTrue, MatchOption, is_none, slice_get}
use Rattle.std.specs.List.{AllByRecursion}
use Rattle.std.specs.Option.{is_some}
use Rattle.std.specs.declared.cmp.Ordering.{Ordering}
use Rattle.std.specs.declared.cmp.Ordering.TheVariants.{Less, Equal, Greater}
use Rattle.std.proofs.lemmas.Bool.{and_parts, eq-eqb, not-true, or_left, or_parts, or_right}
use Rattle.vortex_base.specs.Data.Exact.{both_hold}
use Rattle.vortex_base.specs.Data.Values.{value_cmp}
use Rattle.vortex_base.specs.declared.scalar_value.ScalarValue.{ScalarValue}
use Rattle.vortex_expr.specs.Meanings.Meaning.{compared, holds, is_true, truth_value}
use Rattle.vortex_expr.specs.Trees.Between.{to_operator}
use Rattle.vortex_expr.specs.Trees.Tree.{Tree, Place, column, literal, binary, between}
use Rattle.vortex_expr.specs.declared.scalar_fn.Operator.{Operator}
use Rattle.vortex_expr.specs.declared.scalar_fn.Operator.TheVariants.{Eq, NotEq, Gt, Gte, Lt, Lte, And, Or}
use Rattle.vortex_expr.specs.declared.scalar_fn.StrictComparison.{StrictComparison}
use Rattle.vortex_expr.specs.declared.scalar_fn.StrictComparison.TheVariants.{Strict, NonStrict}
use Rattle.vortex_predicates.proofs.NullChoices.{number_differs}
use Rattle.vortex_predicates.specs.Beyond.{BeyondGoesFar, BoundedGoesFar, IsBeyond, IsBounded, operands_of}
use Rattle.vortex_predicates.specs.NullBoxes.{NullBox, goes_far, has_values, high_of, is_either_open, is_met, is_met_if_open, is_open, is_simple_or_null, lacks, low_of}
use Rattle.vortex_zone_map.specs.Zone.{Entries, ZoneData}
use Rattle.vortex_prune.specs.Scanning.Complete.{IsKnownBy}
use Rattle.vortex_rewrite.proofs.Completeness.Choices.{all_back, all_front, all_map}
use Rattle.vortex_rewrite.proofs.Soundness.TruthLogic.{clash}
use Rattle.vortex_rewrite.specs.Rewriting.ReadOnce.{are_apart, are_distinct, are_sides_apart, columns_of, has_index, is_operand}
use Rattle.vortex_stats.specs.Precision.{present_value}
use Rattle.vortex_stats.specs.Sets.Entries.{entry_value}
use Rattle.vortex_stats.specs.declared.stat.Stat.{Stat}
use Rattle.vortex_stats.specs.declared.stat.Stat.TheVariants.{Max, Min}

-- ---- what is below is at most, and differs

lte_of_lt : (o : Ordering) → holds Lt o ≡ true → holds Lte o ≡ true
lte_of_lt Less h = refl
lte_of_lt Equal h = cc
lte_of_lt Greater h = cc

not_eq_of_lt : (o : Ordering) → holds Lt o ≡ true → holds NotEq o ≡ true
not_eq_of_lt Less h = refl
not_eq_of_lt Equal h = cc
not_eq_of_lt Greater h = cc

below_tells : (p : Operator) → ((o : Ordering) → holds Lt o ≡ true → holds p o ≡ true) → (u v : Option ScalarValue) → is_true (truth_value (compared Lt u v)) ≡ true → is_true (truth_value (compared p u v)) ≡ true
below_tells p f (Some a) (Some b) h = f (value_cmp a b) h
below_tells p f (Some a) None h = cc
below_tells p f None v h = cc

-- ---- tests that are asked under a condition

asked_weaker : (s t u : Bool) → (t ≡ true → u ≡ true) → (not_b s || t) ≡ true → (not_b s || u) ≡ true
asked_weaker true t u f h = f h
asked_weaker false t u f h = refl

asked_of_either : (s t m k : Bool) → (s ≡ true → m ≡ true) → (t ≡ true → k ≡ true) → (not_b (s || t) || (m || k)) ≡ true
asked_of_either true t m k f g = or_left m k (f refl)
asked_of_either false true m k f g = or_right m k (g refl)
asked_of_either false false m k f g = refl

asked : (s t : Bool) → (not_b s || t) ≡ true → s ≡ true → t ≡ true
asked true t h e = h
asked false t h e = cc

-- ---- operands of a comparison differ, unless both are literals

columns_differ : (c d : Place) → are_distinct (c ∷ d ∷ []) ≡ true → column c ≡ column d → ⊥
columns_differ c d h e =
    let k = and_parts (not_b (has_index c.index (d ∷ []))) (are_distinct (d ∷ [])) h in
    let apart = (or_parts (c.index == d.index) false (not-true (has_index c.index (d ∷ [])) k.0)).0 in
    let same : c ≡ d = cc in
    clash (eq-eqb c.index d.index (ap (λ (x : Place). x.index) same)) apart

module _ (zone : ZoneData) (box : NullBox) where
  lte_met : (x y : Tree Place) → is_met_if_open zone box Lt x y ≡ true → is_met_if_open zone box Lte x y ≡ true
  lte_met x y h = asked_weaker (is_either_open zone box x y) (is_met zone box Lt x y) (is_met zone box Lte x y) (below_tells Lte lte_of_lt (low_of box.bounds x) (high_of box.bounds y)) h

  not_eq_met : (x y : Tree Place) → is_met_if_open zone box Lt x y ≡ true → is_either_open zone box x y ≡ true → is_met zone box NotEq x y ≡ true
  not_eq_met x y h e = below_tells NotEq not_eq_of_lt (low_of box.bounds x) (high_of box.bounds y) (asked (is_either_open zone box x y) (is_met zone box Lt x y) h e)

  end_met : (s : StrictComparison) (x y : Tree Place) → is_met_if_open zone box Lt x y ≡ true → is_met_if_open zone box (to_operator s) x y ≡ true
  end_met Strict x y h = h
  end_met NonStrict x y h = lte_met x y h

  module _ (l r : Tree Place) (forth : is_met_if_open zone box Lt l r ≡ true) (back : is_met_if_open zone box Lt r l ≡ true) where
    eq_far : goes_far zone box (binary Eq l r) ≡ true
    eq_far = both_hold (is_met_if_open zone box Lte l r) (is_met_if_open zone box Lte r l) (lte_met l r forth) (lte_met r l back)

    not_eq_far : goes_far zone box (binary NotEq l r) ≡ true
    not_eq_far = asked_of_either (is_either_open zone box l r) (is_either_open zone box r l) (is_met zone box NotEq l r) (is_met zone box NotEq r l) (not_eq_met l r forth) (not_eq_met r l back)

  -- each is below the other
  abbrev BothBelow : (l r : Tree Place) → Type 0
  BothBelow l r = (is_met_if_open zone box Lt l r ≡ true) × (is_met_if_open zone box Lt r l ≡ true)

  both_below : (l r : Tree Place) → (is_operand l && is_operand r) ≡ true → are_distinct (columns_of l ++ columns_of r) ≡ true → IsBeyond zone box (l ∷ r ∷ []) → BothBelow l r
  both_below (column c) (column d) operands distinct h = (h.0.1.0 (columns_differ c d distinct), h.1.0.0 (λ e. columns_differ c d distinct (sym e)))
  both_below (column c) (literal d) operands distinct h = (h.0.1.0 (λ e. cc), h.1.0.0 (λ e. cc))
  both_below (literal c) (column d) operands distinct h = (h.0.1.0 (λ e. cc), h.1.0.0 (λ e. cc))
  both_below (literal c) (literal d) operands distinct h = (refl, refl)
  both_below (column c) r operands distinct h = cc
  both_below (literal c) r operands distinct h = let no = (and_parts (is_some c.value) (is_operand r) operands).1 in cc
  both_below l r operands distinct h = cc

  -- ---- each side of a connective

  front_beyond : (xs ys : List (Tree Place)) → IsBeyond zone box (xs ++ ys) → IsBeyond zone box xs
  front_beyond xs ys h =
      let Below = λ (x y : Tree Place). x ≢ y → IsTrue (is_met_if_open zone box Lt x y) in
      all_map (λ x. AllByRecursion (Below x) (xs ++ ys)) (λ x. AllByRecursion (Below x) xs) xs (λ x k. all_front (Below x) xs ys k) (all_front (λ x. AllByRecursion (Below x) (xs ++ ys)) xs ys h)

  back_beyond : (xs ys : List (Tree Place)) → IsBeyond zone box (xs ++ ys) → IsBeyond zone box ys
  back_beyond xs ys h =
      let Below = λ (x y : Tree Place). x ≢ y → IsTrue (is_met_if_open zone box Lt x y) in
      all_map (λ x. AllByRecursion (Below x) (xs ++ ys)) (λ x. AllByRecursion (Below x) ys) ys (λ x k. all_back (Below x) xs ys k) (all_back (λ x. AllByRecursion (Below x) (xs ++ ys)) xs ys h)

  beyond : (q : Tree Place) → is_simple_or_null q ≡ true → are_sides_apart q ≡ true → IsBeyond zone box (operands_of q) → goes_far zone box q ≡ true
  beyond (binary And l r) simple apart h =
      let e = and_parts (is_simple_or_null l) (is_simple_or_null r) simple in
      let a = and_parts (are_apart (columns_of l) (columns_of r)) (are_sides_apart l && are_sides_apart r) apart in
      let b = and_parts (are_sides_apart l) (are_sides_apart r) a.1 in
      both_hold (goes_far zone box l) (goes_far zone box r) (beyond l e.0 b.0 (front_beyond (operands_of l) (operands_of r) h)) (beyond r e.1 b.1 (back_beyond (operands_of l) (operands_of r) h))
  beyond (binary Or l r) simple apart h =
      let e = and_parts (is_simple_or_null l) (is_simple_or_null r) simple in
      let b = and_parts (are_sides_apart l) (are_sides_apart r) apart in
      both_hold (goes_far zone box l) (goes_far zone box r) (beyond l e.0 b.0 (front_beyond (operands_of l) (operands_of r) h)) (beyond r e.1 b.1 (back_beyond (operands_of l) (operands_of r) h))
  beyond (binary Eq l r) simple apart h = let k = both_below l r simple apart h in eq_far l r k.0 k.1
  beyond (binary NotEq l r) simple apart h = let k = both_below l r simple apart h in not_eq_far l r k.0 k.1
  beyond (binary Gt l r) simple apart h = (both_below l r simple apart h).1
  beyond (binary Gte l r) simple apart h = lte_met r l (both_below l r simple apart h).1
  beyond (binary Lt l r) simple apart h = (both_below l r simple apart h).0
  beyond (binary Lte l r) simple apart h = lte_met l r (both_below l r simple apart h).0
  beyond (between o (column c) (literal d) (literal e)) simple apart h =
      let x = column c in
      both_hold (is_met_if_open zone box (to_operator o.lower_strict) (literal d) x) (is_met_if_open zone box (to_operator o.upper_strict) x (literal e))
      (end_met o.lower_strict (literal d) x (h.1.0.0 (λ k. cc))) (end_met o.upper_strict x (literal e) (h.0.1.1.0 (λ k. cc)))
  beyond (between o x l u) simple apart h = cc
  beyond q simple apart h = refl

pub beyond_goes_far : BeyondGoesFar
beyond_goes_far zone box test apart h =
    let k = and_parts (is_simple_or_null test) (are_sides_apart test) apart in
    beyond zone box test k.0 k.1 h

-- ---- known bounds

neither_asked : (a b s t : Bool) → (a && s) ≡ false → (b && t) ≡ false → ((a && b) && (s || t)) ≡ false
neither_asked true true true t h k = cc
neither_asked true true false t h k = k
neither_asked true false s t h k = refl
neither_asked false b s t h k = refl

is_there : (o : Option Entries) (P : Entries → Type 0) (s : Stat) → ((es : Entries) → P es → is_none (present_value (entry_value s es)) ≡ false) → MatchOption o ⊥ P → lacks s o ≡ false
is_there (Some es) P s f h = f es h
is_there None P s f h = absurd h

module _ (zone : ZoneData) (box : NullBox) where
  shut : (s : Stat) (c : Place) → ((es : Entries) → IsKnownBy box.bounds c.index es → is_none (present_value (entry_value s es)) ≡ false) → IsBounded zone box c
      → (b : Bool) → (box.nulls c.index == zone.rows) ≡ b → (not_b b && is_open zone box s (column c)) ≡ false
  shut s c f k true e = refl
  shut s c f k false e = is_there (slice_get zone.stats c.index) (IsKnownBy box.bounds c.index) s f (k (number_differs (box.nulls c.index) zone.rows e))

  low_shut : (x : Tree Place) → AllByRecursion (IsBounded zone box) (columns_of x) → (has_values zone box x && is_open zone box Min x) ≡ false
  low_shut (column c) k = shut Min c (λ es w. ap is_none w.0) k.0 (box.nulls c.index == zone.rows) refl
  low_shut x k = refl

  high_shut : (x : Tree Place) → AllByRecursion (IsBounded zone box) (columns_of x) → (has_values zone box x && is_open zone box Max x) ≡ false
  high_shut (column c) k = shut Max c (λ es w. ap is_none w.1) k.0 (box.nulls c.index == zone.rows) refl
  high_shut x k = refl

  module _ (x y : Tree Place) (hx : AllByRecursion (IsBounded zone box) (columns_of x)) (hy : AllByRecursion (IsBounded zone box) (columns_of y)) where
    none_open : is_either_open zone box x y ≡ false
    none_open = neither_asked (has_values zone box x) (has_values zone box y) (is_open zone box Min x) (is_open zone box Max y) (low_shut x hx) (high_shut y hy)

    unasked : (o : Operator) → is_met_if_open zone box o x y ≡ true
    unasked o = ap (λ b. not_b b || is_met zone box o x y) none_open

  module _ (l r : Tree Place) (hl : AllByRecursion (IsBounded zone box) (columns_of l)) (hr : AllByRecursion (IsBounded zone box) (columns_of r)) where
    equals_unasked : goes_far zone box (binary Eq l r) ≡ true
    equals_unasked = both_hold (is_met_if_open zone box Lte l r) (is_met_if_open zone box Lte r l) (unasked l r hl hr Lte) (unasked r l hr hl Lte)

    differs_unasked : goes_far zone box (binary NotEq l r) ≡ true
    differs_unasked = ap₂ (λ a b. not_b (a || b) || (is_met zone box NotEq l r || is_met zone box NotEq r l)) (none_open l r hl hr) (none_open r l hr hl)

  bounded : (q : Tree Place) → AllByRecursion (IsBounded zone box) (columns_of q) → goes_far zone box q ≡ true
  bounded (binary o l r) k = by_operator o (bounded l (all_front (IsBounded zone box) (columns_of l) (columns_of r) k)) (bounded r (all_back (IsBounded zone box) (columns_of l) (columns_of r) k))
    where
      hl : AllByRecursion (IsBounded zone box) (columns_of l)
      hl = all_front (IsBounded zone box) (columns_of l) (columns_of r) k

      hr : AllByRecursion (IsBounded zone box) (columns_of r)
      hr = all_back (IsBounded zone box) (columns_of l) (columns_of r) k

      by_operator : (o : Operator) → goes_far zone box l ≡ true → goes_far zone box r ≡ true → goes_far zone box (binary o l r) ≡ true
      by_operator And f g = both_hold (goes_far zone box l) (goes_far zone box r) f g
      by_operator Or f g = both_hold (goes_far zone box l) (goes_far zone box r) f g
      by_operator Eq f g = equals_unasked l r hl hr
      by_operator NotEq f g = differs_unasked l r hl hr
      by_operator Gt f g = unasked r l hr hl Lt
      by_operator Gte f g = unasked r l hr hl Lte
      by_operator Lt f g = unasked l r hl hr Lt
      by_operator Lte f g = unasked l r hl hr Lte
  bounded (between o x l u) k =
      let ends = all_back (IsBounded zone box) (columns_of x) (columns_of l ++ columns_of u) k in
      let hx = all_front (IsBounded zone box) (columns_of x) (columns_of l ++ columns_of u) k in
      both_hold (is_met_if_open zone box (to_operator o.lower_strict) l x) (is_met_if_open zone box (to_operator o.upper_strict) x u)
      (unasked l x (all_front (IsBounded zone box) (columns_of l) (columns_of u) ends) hx (to_operator o.lower_strict))
      (unasked x u hx (all_back (IsBounded zone box) (columns_of l) (columns_of u) ends) (to_operator o.upper_strict))
  bounded q k = refl

pub bounded_goes_far : BoundedGoesFar
bounded_goes_far zone box test k = bounded zone box test k
