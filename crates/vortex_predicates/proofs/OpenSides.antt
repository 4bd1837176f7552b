-- Over a box that goes far enough where a zone has no bounds: the falsifier of a predicate whose ANDs are apart is true wherever no values within the box satisfy the predicate.
use Rattle.std.proofs.Common.{◌≡◌, ◌==◌, ◌+◌, ⊎_elim, ℕ, zero, suc, Bool, true, false, not as not_b, ◌&&◌, ◌||◌, List, [], ◌∷◌, ◌++◌, Option, Some, None, int_le, option_to_list, refl, sym, ap, ap₂, subst, ◌∙◌, arith, if◌then◌else◌}
use Rattle.std.specs.Prelude.{MatchOption, is_none, is_ok, slice_get, ⊤}
use Rattle.std.specs.List.{AllByRecursion}
use Rattle.std.proofs.lemmas.Bool.{and_parts, eq-eqb, not-true, or_cases, or_parts}
use Rattle.std.proofs.lemmas.Option.{none-some, same_Some}
use Rattle.vortex_base.specs.Data.Exact.{both_hold}
use Rattle.vortex_base.specs.Data.Scalars.{Constant}
use Rattle.vortex_base.specs.Data.Scopes.{Named}
use Rattle.vortex_base.specs.Data.Types.{as_nullable, dtype_eq_is_exact, eq_ignore_nullability}
use Rattle.vortex_base.specs.Data.Values.{is_value, value_cmp}
use Rattle.vortex_base.specs.declared.aggregate.AggregateFnRef.{AggregateFnRef}
use Rattle.vortex_base.specs.declared.aggregate.AggregateFnRef.TheVariants as aggregate
use Rattle.vortex_base.specs.declared.dtype.DType.{DType}
use Rattle.vortex_base.specs.declared.dtype.DType.TheVariants as dtype
use Rattle.vortex_base.specs.declared.pvalue.PValue.{PValue}
use Rattle.vortex_base.specs.declared.scalar_value.ScalarValue.{ScalarValue}
use Rattle.vortex_base.specs.declared.scalar_value.ScalarValue.TheVariants as value
use Rattle.vortex_expr.proofs.Meanings.PlacedTypes.{with_types-ok}
use Rattle.vortex_expr.specs.Meanings.Fitting.{fits_scope, is_of_type}
use Rattle.vortex_expr.specs.Meanings.Meaning.{compared, holds, is_true, truth_value}
use Rattle.vortex_expr.specs.Meanings.Typing.{connective_type, type_of}
use Rattle.vortex_expr.specs.Trees.Between.{to_operator}
use Rattle.vortex_expr.specs.Trees.Tree.{Tree, Place, column, literal, binary, between, is_null, is_not_null, not, like, stat, row_count}
use Rattle.vortex_expr.specs.declared.scalar_fn.BetweenOptions.{BetweenOptions}
use Rattle.vortex_expr.specs.declared.scalar_fn.Operator.{Operator}
use Rattle.vortex_expr.specs.declared.scalar_fn.Operator.TheVariants.{Eq, NotEq, Gt, Gte, Lt, Lte, And, Or}
use Rattle.vortex_expr.specs.declared.scalar_fn.StrictComparison.{StrictComparison}
use Rattle.vortex_expr.specs.declared.scalar_fn.StrictComparison.TheVariants.{Strict, NonStrict}
use Rattle.vortex_predicates.proofs.Carried.{extreme_fits, name_there, present_fits, set_there}
use Rattle.vortex_predicates.specs.NullBoxes.{IsNullKnownBy, IsSide, NullBox, goes_far, has_values, high_of, is_either_open, is_met, is_met_if_open, is_open, lacks, low_of}
use Rattle.vortex_zone_map.proofs.ZoneLemmas.{zone_set_fits}
use Rattle.vortex_prune.proofs.Scanning.Boxes.{falsifiers_are_complete}
use Rattle.vortex_prune.proofs.Scanning.WholeScan.{typed_bool}
use Rattle.vortex_prune.specs.Binding.PartAnswers.{column_value, told_values}
use Rattle.vortex_zone_map.specs.StatValues.{stat_value}
use Rattle.vortex_zone_map.specs.Zone.{Entries, IsZone, ZoneData, fits_zone}
use Rattle.vortex_prune.specs.Scanning.Complete.{IsKnownBy}
use Rattle.vortex_rewrite.proofs.Completeness.Choices.{all_back, all_front, all_map}
use Rattle.vortex_rewrite.proofs.Completeness.Decided.{comparison_applied}
use Rattle.vortex_rewrite.proofs.Completeness.Interval.{is_comparison}
use Rattle.vortex_rewrite.proofs.Soundness.MovedEnds.{are_numbers}
use Rattle.vortex_rewrite.proofs.Soundness.NumberEnds.{high_end, high_least, high_moved, low_end, low_moved}
use Rattle.vortex_rewrite.proofs.Soundness.TruthLogic.{clash, proves_value, true_and, true_or}
use Rattle.vortex_rewrite.proofs.Soundness.ValueTests.{by_order, eq_le, gt_le, gte_le, lt_le}
use Rattle.vortex_rewrite.specs.Rewriting.Falsifiers.{bool_literal, both_of, closed, comparison_falsifier, either_of, ends, falsifier, halves, high_size, is_crossed, literal_ends, literal_falsifier, low_size, max_of, min_of, node, number_literal, reduce_balanced}
use Rattle.vortex_rewrite.specs.Rewriting.Lawful.{OwnRule}
use Rattle.vortex_rewrite.specs.Rewriting.Predicates.{is_predicate}
use Rattle.vortex_rewrite.specs.Rewriting.Proof.{Assignment, value_under}
use Rattle.vortex_rewrite.specs.Rewriting.ReadOnce.{IsSatisfiable, are_sides_apart, columns_of, has_disjoint_ands, is_operand, is_simple}
use Rattle.vortex_stats.proofs.Kit.{entry_value-fits}
use Rattle.vortex_stats.specs.Bounds.Order.{AtMost}
use Rattle.vortex_stats.specs.Precision.{present_value}
use Rattle.vortex_stats.specs.Sets.Entries.{entries_fit, entry_value, is_value_of}
use Rattle.vortex_stats.specs.Stat.{extreme_dtype, stat_dtype}
use Rattle.vortex_stats.specs.declared.precision.Precision.TheVariants.{Exact}
use Rattle.vortex_stats.specs.declared.stat.Stat.{Stat}
use Rattle.vortex_stats.specs.declared.stat.Stat.TheVariants.{Max, Min}

-- ---- what follows from two comparisons

gte_excludes : (a b : ScalarValue) → holds Lt (value_cmp a b) ≡ true → holds Gte (value_cmp a b) ≡ true → ⊥
gte_excludes a b h k = clash (gte_le a b k) (lt_le a b h)

gt_excludes : (a b : ScalarValue) → holds Lte (value_cmp a b) ≡ true → holds Gt (value_cmp a b) ≡ true → ⊥
gt_excludes a b h k = clash h (gt_le a b k)

eq_excludes : (a b : ScalarValue) → holds NotEq (value_cmp a b) ≡ true → holds Eq (value_cmp a b) ≡ true → ⊥
eq_excludes a b h k = clash k (not-true (holds Eq (value_cmp a b)) h)

-- with the sides of the second turned round
lte_turned : (a b : ScalarValue) → holds Lt (value_cmp a b) ≡ true → holds Lte (value_cmp b a) ≡ true → ⊥
lte_turned a b h k = clash k (lt_le a b h)

lt_turned : (a b : ScalarValue) → holds Lte (value_cmp a b) ≡ true → holds Lt (value_cmp b a) ≡ true → ⊥
lt_turned a b h k = clash h (lt_le b a k)

eq_turned : (a b : ScalarValue) → holds NotEq (value_cmp a b) ≡ true → holds Eq (value_cmp b a) ≡ true → ⊥
eq_turned a b h k = let le = eq_le b a k in eq_excludes a b h (by_order Eq a b true true le.1 le.0)

-- the truth of a comparison of two optional values
abbrev tells : Operator → (u v : Option ScalarValue) → Bool
tells o u v = is_true (truth_value (compared o u v))

excluded : (o p : Operator) → ((a b : ScalarValue) → holds o (value_cmp a b) ≡ true → holds p (value_cmp a b) ≡ true → ⊥) → (u v : Option ScalarValue) → tells o u v ≡ true → tells p u v ≡ true → ⊥
excluded o p f (Some a) (Some b) h k = f a b h k
excluded o p f (Some a) None h k = cc
excluded o p f None v h k = cc

turned : (o p : Operator) → ((a b : ScalarValue) → holds o (value_cmp a b) ≡ true → holds p (value_cmp b a) ≡ true → ⊥) → (u v : Option ScalarValue) → tells o u v ≡ true → tells p v u ≡ true → ⊥
turned o p f (Some a) (Some b) h k = f a b h k
turned o p f (Some a) None h k = cc
turned o p f None v h k = cc

-- ---- a test that is asked under a condition

asked_if : (s t : Bool) → (not_b s || t) ≡ true → s ≡ true → t ≡ true
asked_if true t h k = h
asked_if false t h k = cc

-- ---- types that have values have a least and a greatest one

extreme_is : (t : DType) (v : ScalarValue) → is_value v t ≡ true → is_value_of (extreme_dtype t) v ≡ true
extreme_is (dtype.Bool n) v h = h
extreme_is (dtype.Primitive p n) v h = h
extreme_is (dtype.Utf8 n) v h = h
extreme_is (dtype.Binary n) v h = h
extreme_is (dtype.MinMaxState e n) v h = h
extreme_is dtype.Null (value.Bool b) h = cc
extreme_is dtype.Null (value.Primitive p) h = cc
extreme_is dtype.Null (value.Utf8 bs) h = cc
extreme_is dtype.Null (value.Binary bs) h = cc

-- ---- falsifiers by built-in rules alone

node_is : (prove : OwnRule → Tree Place → Option (Tree Place)) (q : Tree Place) (o : Option (Tree Place)) → node prove [] q (option_to_list o) ≡ o
unfolding node reduce_balanced
node_is prove q (Some e) = refl
node_is prove q None = refl

literal_is : (c : Constant) → falsifier [] (literal c) ≡ literal_falsifier c.value
literal_is c = node_is _ (literal c) (literal_falsifier c.value)

and_is : (l r : Tree Place) → falsifier [] (binary And l r) ≡ either_of (binary Or) (falsifier [] l) (falsifier [] r)
and_is l r = node_is _ (binary And l r) (either_of (binary Or) (falsifier [] l) (falsifier [] r))

or_is : (l r : Tree Place) → falsifier [] (binary Or l r) ≡ both_of (binary And) (falsifier [] l) (falsifier [] r)
or_is l r = node_is _ (binary Or l r) (both_of (binary And) (falsifier [] l) (falsifier [] r))

comparison_is : (o : Operator) (l r : Tree Place) → is_comparison o ≡ true → falsifier [] (binary o l r) ≡ comparison_falsifier o l r
comparison_is Eq l r k = node_is _ (binary Eq l r) (comparison_falsifier Eq l r)
comparison_is NotEq l r k = node_is _ (binary NotEq l r) (comparison_falsifier NotEq l r)
comparison_is Gt l r k = node_is _ (binary Gt l r) (comparison_falsifier Gt l r)
comparison_is Gte l r k = node_is _ (binary Gte l r) (comparison_falsifier Gte l r)
comparison_is Lt l r k = node_is _ (binary Lt l r) (comparison_falsifier Lt l r)
comparison_is Lte l r k = node_is _ (binary Lte l r) (comparison_falsifier Lte l r)
comparison_is And l r k = cc
comparison_is Or l r k = cc

abbrev options_of : (s t : StrictComparison) → BetweenOptions
options_of s t = record { lower_strict = s; upper_strict = t }

-- of a range whose ends are moved it's that of the AND of its two comparisons
range_is : (o : BetweenOptions) (x l u : Tree Place) (s t : StrictComparison) (a b : Tree Place) → ends o l u ≡ Some (record { options = options_of s t; lower = a; upper = b }) → falsifier [] (between o x l u) ≡ falsifier [] (halves (options_of s t) x a b)
range_is o x l u Strict Strict a b is = rw is (node_is _ (between o x l u) (falsifier [] (halves (options_of Strict Strict) x a b)))
range_is o x l u Strict NonStrict a b is = rw is (node_is _ (between o x l u) (falsifier [] (halves (options_of Strict NonStrict) x a b)))
range_is o x l u NonStrict Strict a b is = rw is (node_is _ (between o x l u) (falsifier [] (halves (options_of NonStrict Strict) x a b)))
range_is o x l u NonStrict NonStrict a b is = rw is (node_is _ (between o x l u) (falsifier [] (halves (options_of NonStrict NonStrict) x a b)))

-- and without ends it's true
range_never : (o : BetweenOptions) (x l u : Tree Place) → ends o l u ≡ None → falsifier [] (between o x l u) ≡ Some (bool_literal true)
range_never o x l u is = rw is (node_is _ (between o x l u) (Some (bool_literal true)))

pub if_same : (b : Bool) (x e : Tree Place) → (if b then Some x else None) ≡ Some e → x ≡ e
if_same true x e h = same_Some _ _ h
if_same false x e h = absurd (none-some e h)

module _ (scope : List Named) (zone : ZoneData) (is_zone : IsZone scope zone) (box : NullBox) where
  abbrev n : ℕ
  n = zone.rows

  abbrev answers : Assignment
  answers = told_values scope zone

  -- a column of the scope that has values, whose null count is known and whose sides are the bounds where these are known
  pub record HasSides (c : Place) : Type 0 where
    pub scoped : is_of_type c.dtype (slice_get scope c.index) ≡ true
    pub valued : (box.nulls c.index == zone.rows) ≡ false
    pub set : MatchOption (slice_get zone.stats c.index) ⊥ (IsNullKnownBy box zone.rows c)

  -- the bound of a set that fits is of the column's type
  side_fits : (s : Stat) → ((t : DType) → stat_dtype s t ≡ extreme_dtype t) → (t : DType) (es : Entries) (v : ScalarValue) (o : Option ScalarValue) → present_value (entry_value s es) ≡ o → entries_fit es t ≡ true → IsSide o t v → is_value v t ≡ true
  side_fits s of_extreme t es v (Some bound) e fits side =
      subst (λ (w : ScalarValue). is_value w t ≡ true) side
      (extreme_fits t bound (ap (λ (d : Option DType). is_value_of d bound) (sym (of_extreme t)) ∙ present_fits s t (entry_value s es) bound e (entry_value-fits s t es fits)))
  side_fits s of_extreme t es v None e fits side = side

  valued_differs : (c : Place) → HasSides c → box.nulls c.index ≡ zone.rows → ⊥
  valued_differs c h e = clash (eq-eqb (box.nulls c.index) zone.rows e) h.valued

  low_side : (c : Place) (h : HasSides c) (es : Entries) → IsNullKnownBy box zone.rows c es → IsSide (present_value (entry_value Min es)) c.dtype (box.bounds.low c.index)
  low_side c h es k = k.low (valued_differs c h)

  high_side : (c : Place) (h : HasSides c) (es : Entries) → IsNullKnownBy box zone.rows c es → IsSide (present_value (entry_value Max es)) c.dtype (box.bounds.high c.index)
  high_side c h es k = k.high (valued_differs c h)

  set_fits : (c : Place) (h : HasSides c) (es : Entries) → slice_get zone.stats c.index ≡ Some es → entries_fit es c.dtype ≡ true
  set_fits c h es there =
      let d = name_there (slice_get scope c.index) c.dtype h.scoped in
      subst (λ (t : DType). entries_fit es t ≡ true) d.2 (zone_set_fits scope zone.stats c.index d.0 es is_zone d.1 there)

  pub low_fits : (c : Place) → HasSides c → is_value (box.bounds.low c.index) c.dtype ≡ true
  low_fits c h =
      let es = set_there (IsNullKnownBy box zone.rows c) (slice_get zone.stats c.index) h.set in
      side_fits Min (λ t. refl) c.dtype es.0 (box.bounds.low c.index) (present_value (entry_value Min es.0)) refl (set_fits c h es.0 es.1) (low_side c h es.0 es.2)

  high_fits : (c : Place) → HasSides c → is_value (box.bounds.high c.index) c.dtype ≡ true
  high_fits c h =
      let es = set_there (IsNullKnownBy box zone.rows c) (slice_get zone.stats c.index) h.set in
      side_fits Max (λ t. refl) c.dtype es.0 (box.bounds.high c.index) (present_value (entry_value Max es.0)) refl (set_fits c h es.0 es.1) (high_side c h es.0 es.2)

  pub in_order : (c : Place) → HasSides c → AtMost value_cmp (box.bounds.low c.index) (box.bounds.high c.index)
  in_order c h = (set_there (IsNullKnownBy box zone.rows c) (slice_get zone.stats c.index) h.set).2.order (valued_differs c h)

  -- ---- the zone whose bounds are all known: the sides of the box

  abbrev put : Stat → (t : DType) → ScalarValue → Entries → Entries
  put s t v es = if is_value_of (stat_dtype s t) v then (s, Exact v) ∷ es else es

  abbrev full_set : ℕ → DType → Entries
  full_set i t = put Min t (box.bounds.low i) (put Max t (box.bounds.high i) [])

  abbrev full_sets : ℕ → List Named → List Entries
  full_sets i [] = []
  full_sets i (d ∷ ds) = full_set i d.1 ∷ full_sets (suc i) ds

  abbrev full : ZoneData
  full = record { rows = zone.rows; stats = full_sets 0 scope }

  put_fits : (s : Stat) (t : DType) (v : ScalarValue) (es : Entries) (b : Bool) → is_value_of (stat_dtype s t) v ≡ b → entries_fit es t ≡ true → entries_fit (if b then (s, Exact v) ∷ es else es) t ≡ true
  put_fits s t v es true e h = both_hold (is_value_of (stat_dtype s t) v) (entries_fit es t) e h
  put_fits s t v es false e h = h

  full_set_fits : (i : ℕ) (t : DType) → entries_fit (full_set i t) t ≡ true
  full_set_fits i t =
      put_fits Min t (box.bounds.low i) (put Max t (box.bounds.high i) []) (is_value_of (stat_dtype Min t) (box.bounds.low i)) refl
      (put_fits Max t (box.bounds.high i) [] (is_value_of (stat_dtype Max t) (box.bounds.high i)) refl refl)

  full_fits : (i : ℕ) (ds : List Named) → fits_zone ds (full_sets i ds) ≡ true
  full_fits i [] = refl
  full_fits i (d ∷ ds) = both_hold (entries_fit (full_set i d.1) d.1) (fits_zone ds (full_sets (suc i) ds)) (full_set_fits i d.1) (full_fits (suc i) ds)

  full_at : (ds : List Named) (i k : ℕ) (d : Named) → slice_get ds k ≡ Some d → slice_get (full_sets i ds) k ≡ Some (full_set (i + k) d.1)
  full_at [] i k d h = absurd (none-some d h)
  full_at (e ∷ ds) i zero d h =
      let same : i ≡ i + 0 = omega arith in
      ap (λ (x : Named). Some (full_set i x.1)) (same_Some e d h) ∙ ap (λ (j : ℕ). Some (full_set j d.1)) same
  full_at (e ∷ ds) i (suc k) d h =
      let same : suc i + k ≡ i + suc k = omega arith in
      full_at ds (suc i) k d h ∙ ap (λ (j : ℕ). Some (full_set j d.1)) same

  full_there : (c : Place) → HasSides c → slice_get full.stats c.index ≡ Some (full_set c.index c.dtype)
  full_there c h =
      let d = name_there (slice_get scope c.index) c.dtype h.scoped in
      let same : 0 + c.index ≡ c.index = omega arith in
      full_at scope 0 c.index d.0 d.1 ∙ (λ i. Some (full_set (same i) (d.2 i)))

  full_low : (c : Place) → HasSides c → present_value (entry_value Min (full_set c.index c.dtype)) ≡ Some (box.bounds.low c.index)
  full_low c h =
      ap (λ (b : Bool). present_value (entry_value Min (if b then (Min, Exact (box.bounds.low c.index)) ∷ put Max c.dtype (box.bounds.high c.index) [] else put Max c.dtype (box.bounds.high c.index) [])))
      (extreme_is c.dtype (box.bounds.low c.index) (low_fits c h))

  full_high : (c : Place) → HasSides c → present_value (entry_value Max (full_set c.index c.dtype)) ≡ Some (box.bounds.high c.index)
  full_high c h =
      ap₂ (λ (a b : Bool). present_value (entry_value Max (if a then (Min, Exact (box.bounds.low c.index)) ∷ (if b then (Max, Exact (box.bounds.high c.index)) ∷ [] else []) else (if b then (Max, Exact (box.bounds.high c.index)) ∷ [] else []))))
      (extreme_is c.dtype (box.bounds.low c.index) (low_fits c h)) (extreme_is c.dtype (box.bounds.high c.index) (high_fits c h))

  full_known : (c : Place) → HasSides c → MatchOption (slice_get full.stats c.index) ⊥ (IsKnownBy box.bounds c.index)
  full_known c h = subst (λ (o : Option Entries). MatchOption o ⊥ (IsKnownBy box.bounds c.index)) (sym (full_there c h)) (full_low c h, full_high c h)

  abbrev full_answers : Assignment
  full_answers = told_values scope full

  -- ---- proofs that are true by the zone if they are by the full one

  abbrev Rises : Tree Place → Type 0
  Rises e = is_true (value_under full_answers n e) ≡ true → is_true (value_under answers n e) ≡ true

  abbrev Lifts : Option (Tree Place) → Type 0
  Lifts None = ⊤
  Lifts (Some e) = Rises e

  abbrev Never : Option (Tree Place) → Type 0
  Never None = ⊤
  Never (Some e) = is_true (value_under full_answers n e) ≡ true → ⊥

  or_rises : (a b : Tree Place) → Rises a → Rises b → Rises (binary Or a b)
  or_rises a b f g h =
      true_or (value_under answers n a) (value_under answers n b)
      ∙ raised (is_true (value_under full_answers n a)) (is_true (value_under full_answers n b)) (is_true (value_under answers n a)) (is_true (value_under answers n b)) f g
      (sym (true_or (value_under full_answers n a) (value_under full_answers n b)) ∙ h)
    where
      raised : (s t u v : Bool) → (s ≡ true → u ≡ true) → (t ≡ true → v ≡ true) → (s || t) ≡ true → (u || v) ≡ true
      raised true t true v f g h = refl
      raised true t false v f g h = let no = f refl in cc
      raised false true true v f g h = refl
      raised false true false v f g h = g refl
      raised false false u v f g h = cc

  and_rises : (a b : Tree Place) → Rises a → Rises b → Rises (binary And a b)
  and_rises a b f g h =
      let k = and_parts (is_true (value_under full_answers n a)) (is_true (value_under full_answers n b)) (sym (true_and (value_under full_answers n a) (value_under full_answers n b)) ∙ h) in
      true_and (value_under answers n a) (value_under answers n b) ∙ both_hold (is_true (value_under answers n a)) (is_true (value_under answers n b)) (f k.0) (g k.1)

  either_lifts : (a b : Option (Tree Place)) → Lifts a → Lifts b → Lifts (either_of (binary Or) a b)
  either_lifts (Some a) (Some b) f g = or_rises a b f g
  either_lifts (Some a) None f g = f
  either_lifts None b f g = g

  or_lifts : (a b : Option (Tree Place)) → Lifts a → Lifts b → Lifts (both_of (binary Or) a b)
  or_lifts (Some a) (Some b) f g = or_rises a b f g
  or_lifts (Some a) None f g = tt
  or_lifts None b f g = tt

  and_lifts : (a b : Option (Tree Place)) → Lifts a → Lifts b → Lifts (both_of (binary And) a b)
  and_lifts (Some a) (Some b) f g = and_rises a b f g
  and_lifts (Some a) None f g = tt
  and_lifts None b f g = tt

  -- an AND of which a side is never true is never true
  left_never : (a b : Option (Tree Place)) → Never a → Lifts (both_of (binary And) a b)
  left_never (Some a) (Some b) f = λ h.
      absurd (f (and_parts (is_true (value_under full_answers n a)) (is_true (value_under full_answers n b)) (sym (true_and (value_under full_answers n a) (value_under full_answers n b)) ∙ h)).0)
  left_never (Some a) None f = tt
  left_never None b f = tt

  right_never : (a b : Option (Tree Place)) → Never b → Lifts (both_of (binary And) a b)
  right_never (Some a) (Some b) f = λ h.
      absurd (f (and_parts (is_true (value_under full_answers n a)) (is_true (value_under full_answers n b)) (sym (true_and (value_under full_answers n a) (value_under full_answers n b)) ∙ h)).1)
  right_never (Some a) None f = tt
  right_never None b f = tt

  lift_by : (a b : Option (Tree Place)) → a ≡ b → Lifts b → Lifts a
  lift_by a b e h = subst (λ (o : Option (Tree Place)). Lifts o) (sym e) h

  -- ---- the ends of operands

  -- a bound's proof answers this value by the full zone, and by the zone where the bound is known
  record IsEnd (unknown : Bool) (o : Option (Tree Place)) (v : Option ScalarValue) : Type 0 where
    full_told : (e : Tree Place) → o ≡ Some e → value_under full_answers n e ≡ v
    told : (e : Tree Place) → o ≡ Some e → unknown ≡ false → value_under answers n e ≡ v

  column_told : (f : AggregateFnRef) (z : ZoneData) (c : Place) (h : HasSides c) (es : Entries) → slice_get z.stats c.index ≡ Some es → told_values scope z f (column c) ≡ stat_value f es z.rows
  column_told f z c h es set =
      let d = name_there (slice_get scope c.index) c.dtype h.scoped in
      let suits : eq_ignore_nullability d.0.1 c.dtype ≡ true = (dtype_eq_is_exact (as_nullable d.0.1) (as_nullable c.dtype)).1 (ap as_nullable d.2) in
      (λ i. column_value f c.dtype (d.1 i) (set i) z.rows) ∙ ap (λ (b : Bool). if b then stat_value f es z.rows else None) suits

  -- a side is the bound where this is known
  bound_told : (t : DType) (v : ScalarValue) (o : Option ScalarValue) → IsSide o t v → is_none o ≡ false → o ≡ Some v
  bound_told t v (Some bound) side h = ap Some side
  bound_told t v None side h = cc

  known_at : (s : Stat) (o : Option Entries) (es : Entries) → o ≡ Some es → lacks s o ≡ false → is_none (present_value (entry_value s es)) ≡ false
  known_at s o es e h = sym (ap (lacks s) e) ∙ h

  column_low : (c : Place) → HasSides c → IsEnd (is_open zone box Min (column c)) (min_of (column c)) (low_of box.bounds (column c))
  column_low c h = record {
    full_told = λ e is.
        ap (value_under full_answers n) (sym (if_same _ (stat aggregate.Min (column c)) e is))
        ∙ column_told aggregate.Min full c h (full_set c.index c.dtype) (full_there c h)
        ∙ full_low c h;
    told = λ e is known.
        let es = set_there (IsNullKnownBy box zone.rows c) (slice_get zone.stats c.index) h.set in
        ap (value_under answers n) (sym (if_same _ (stat aggregate.Min (column c)) e is))
        ∙ column_told aggregate.Min zone c h es.0 es.1
        ∙ bound_told c.dtype (box.bounds.low c.index) (present_value (entry_value Min es.0)) (low_side c h es.0 es.2) (known_at Min (slice_get zone.stats c.index) es.0 es.1 known);
  }

  column_high : (c : Place) → HasSides c → IsEnd (is_open zone box Max (column c)) (max_of (column c)) (high_of box.bounds (column c))
  column_high c h = record {
    full_told = λ e is.
        ap (value_under full_answers n) (sym (if_same _ (stat aggregate.Max (column c)) e is))
        ∙ column_told aggregate.Max full c h (full_set c.index c.dtype) (full_there c h)
        ∙ full_high c h;
    told = λ e is known.
        let es = set_there (IsNullKnownBy box zone.rows c) (slice_get zone.stats c.index) h.set in
        ap (value_under answers n) (sym (if_same _ (stat aggregate.Max (column c)) e is))
        ∙ column_told aggregate.Max zone c h es.0 es.1
        ∙ bound_told c.dtype (box.bounds.high c.index) (present_value (entry_value Max es.0)) (high_side c h es.0 es.2) (known_at Max (slice_get zone.stats c.index) es.0 es.1 known);
  }

  literal_end : (c : Constant) → IsEnd false (Some (literal c)) c.value
  literal_end c = record {
    full_told = λ e is. ap (value_under full_answers n) (sym (same_Some (literal c) e is));
    told = λ e is known. ap (value_under answers n) (sym (same_Some (literal c) e is));
  }

  -- an operand, and what the proofs of its bounds answer
  record HasEnds (x : Tree Place) : Type 0 where
    with_values : has_values zone box x ≡ true
    least : IsEnd (is_open zone box Min x) (min_of x) (low_of box.bounds x)
    most : IsEnd (is_open zone box Max x) (max_of x) (high_of box.bounds x)

  has_ends : (x : Tree Place) → is_operand x ≡ true → AllByRecursion HasSides (columns_of x) → HasEnds x
  has_ends (column c) k sides = record { with_values = ap not_b sides.0.valued; least = column_low c sides.0; most = column_high c sides.0 }
  has_ends (literal c) k sides = record { with_values = refl; least = literal_end c; most = literal_end c }
  has_ends x k sides = cc

  -- a comparison of two ends
  full_pair : (o : Operator) → is_comparison o ≡ true → (a b : Tree Place) (u v : Option ScalarValue) → value_under full_answers n a ≡ u → value_under full_answers n b ≡ v → is_true (value_under full_answers n (binary o a b)) ≡ tells o u v
  full_pair o k a b u v e f =
      ap (λ b. is_true (truth_value b)) (comparison_applied o (value_under full_answers n a) (value_under full_answers n b) k)
      ∙ (λ i. is_true (truth_value (compared o (e i) (f i))))

  own_pair : (o : Operator) → is_comparison o ≡ true → (a b : Tree Place) (u v : Option ScalarValue) → value_under answers n a ≡ u → value_under answers n b ≡ v → is_true (value_under answers n (binary o a b)) ≡ tells o u v
  own_pair o k a b u v e f =
      ap (λ b. is_true (truth_value b)) (comparison_applied o (value_under answers n a) (value_under answers n b) k)
      ∙ (λ i. is_true (truth_value (compared o (e i) (f i))))

  pair_never : (o : Operator) → is_comparison o ≡ true → (a b : Option (Tree Place)) (u v : Option ScalarValue) (s t : Bool) → IsEnd s a u → IsEnd t b v → (tells o u v ≡ true → ⊥) → Never (both_of (binary o) a b)
  pair_never o k (Some a) (Some b) u v s t x y far = λ h. far (sym (full_pair o k a b u v (x.full_told a refl) (y.full_told b refl)) ∙ h)
  pair_never o k (Some a) None u v s t x y far = tt
  pair_never o k None b u v s t x y far = tt

  pair_lifts : (o : Operator) → is_comparison o ≡ true → (a b : Option (Tree Place)) (u v : Option ScalarValue) (s t : Bool) → IsEnd s a u → IsEnd t b v → ((s || t) ≡ true → tells o u v ≡ true → ⊥) → Lifts (both_of (binary o) a b)
  pair_lifts o k (Some a) (Some b) u v false false x y far = λ h. own_pair o k a b u v (x.told a refl refl) (y.told b refl refl) ∙ sym (full_pair o k a b u v (x.full_told a refl) (y.full_told b refl)) ∙ h
  pair_lifts o k (Some a) (Some b) u v true t x y far = λ h. absurd (far refl (sym (full_pair o k a b u v (x.full_told a refl) (y.full_told b refl)) ∙ h))
  pair_lifts o k (Some a) (Some b) u v false true x y far = λ h. absurd (far refl (sym (full_pair o k a b u v (x.full_told a refl) (y.full_told b refl)) ∙ h))
  pair_lifts o k (Some a) None u v s t x y far = tt
  pair_lifts o k None b u v s t x y far = tt

  -- ---- comparisons

  or_turned : (s t : Bool) → (s || t) ≡ true → (t || s) ≡ true
  or_turned true true h = refl
  or_turned true false h = refl
  or_turned false true h = refl
  or_turned false false h = cc

  -- the lower bound of the first or the upper one of the second isn't known
  abbrev either : (x y : Tree Place) → Bool
  either x y = is_open zone box Min x || is_open zone box Max y

  abbrev IsMet : Operator → (x y : Tree Place) → Type 0
  IsMet o x y = either x y ≡ true → is_met zone box o x y ≡ true

  open_sides : (x y : Tree Place) → HasEnds x → HasEnds y → either x y ≡ true → is_either_open zone box x y ≡ true
  open_sides x y hx hy h = both_hold (has_values zone box x && has_values zone box y) (either x y) (both_hold (has_values zone box x) (has_values zone box y) hx.with_values hy.with_values) h

  met_if_open : (o : Operator) (x y : Tree Place) → HasEnds x → HasEnds y → is_met_if_open zone box o x y ≡ true → IsMet o x y
  met_if_open o x y hx hy far h = asked_if (is_either_open zone box x y) (is_met zone box o x y) far (open_sides x y hx hy h)

  module _ (o p : Operator) (k : is_comparison p ≡ true) (x y : Tree Place) (hx : HasEnds x) (hy : HasEnds y) (met : IsMet o x y) where
    low_high_lifts : ((a b : ScalarValue) → holds o (value_cmp a b) ≡ true → holds p (value_cmp a b) ≡ true → ⊥) → Lifts (both_of (binary p) (min_of x) (max_of y))
    low_high_lifts f =
        pair_lifts p k (min_of x) (max_of y) (low_of box.bounds x) (high_of box.bounds y) (is_open zone box Min x) (is_open zone box Max y) hx.least hy.most
        (λ unknown h. excluded o p f (low_of box.bounds x) (high_of box.bounds y) (met unknown) h)

    high_low_lifts : ((a b : ScalarValue) → holds o (value_cmp a b) ≡ true → holds p (value_cmp b a) ≡ true → ⊥) → Lifts (both_of (binary p) (max_of y) (min_of x))
    high_low_lifts f =
        pair_lifts p k (max_of y) (min_of x) (high_of box.bounds y) (low_of box.bounds x) (is_open zone box Max y) (is_open zone box Min x) hy.most hx.least
        (λ unknown h. turned o p f (low_of box.bounds x) (high_of box.bounds y) (met (or_turned (is_open zone box Max y) (is_open zone box Min x) unknown)) h)

  module _ (l r : Tree Place) (hl : HasEnds l) (hr : HasEnds r) where
    -- where all four bounds are known, both tests of equal ends are as they were
    same_lifts : is_either_open zone box l r ≡ false → is_either_open zone box r l ≡ false → Lifts (comparison_falsifier NotEq l r)
    same_lifts known back =
        and_lifts (both_of (binary Eq) (min_of l) (max_of r)) (both_of (binary Eq) (max_of l) (min_of r))
        (pair_lifts Eq refl (min_of l) (max_of r) (low_of box.bounds l) (high_of box.bounds r) (is_open zone box Min l) (is_open zone box Max r) hl.least hr.most (λ unknown h. clash (open_sides l r hl hr unknown) known))
        (pair_lifts Eq refl (max_of l) (min_of r) (high_of box.bounds l) (low_of box.bounds r) (is_open zone box Max l) (is_open zone box Min r) hl.most hr.least
        (λ unknown h. clash (open_sides r l hr hl (or_turned (is_open zone box Max l) (is_open zone box Min r) unknown)) back))

    differing_lifts : is_met zone box NotEq l r ≡ true → Lifts (comparison_falsifier NotEq l r)
    differing_lifts met =
        left_never (both_of (binary Eq) (min_of l) (max_of r)) (both_of (binary Eq) (max_of l) (min_of r))
        (pair_never Eq refl (min_of l) (max_of r) (low_of box.bounds l) (high_of box.bounds r) (is_open zone box Min l) (is_open zone box Max r) hl.least hr.most
        (excluded NotEq Eq eq_excludes (low_of box.bounds l) (high_of box.bounds r) met))

    differing_back : is_met zone box NotEq r l ≡ true → Lifts (comparison_falsifier NotEq l r)
    differing_back met =
        right_never (both_of (binary Eq) (min_of l) (max_of r)) (both_of (binary Eq) (max_of l) (min_of r))
        (pair_never Eq refl (max_of l) (min_of r) (high_of box.bounds l) (low_of box.bounds r) (is_open zone box Max l) (is_open zone box Min r) hl.most hr.least
        (turned NotEq Eq eq_turned (low_of box.bounds r) (high_of box.bounds l) met))

    not_eq_lifts : goes_far zone box (binary NotEq l r) ≡ true → Lifts (comparison_falsifier NotEq l r)
    not_eq_lifts far =
        ⊎_elim
        (λ h. let k = or_parts (is_either_open zone box l r) (is_either_open zone box r l) (not-true (is_either_open zone box l r || is_either_open zone box r l) h) in same_lifts k.0 k.1)
        (λ h. ⊎_elim differing_lifts differing_back (or_cases (is_met zone box NotEq l r) (is_met zone box NotEq r l) h))
        (or_cases (not_b (is_either_open zone box l r || is_either_open zone box r l)) (is_met zone box NotEq l r || is_met zone box NotEq r l) far)

    eq_lifts : goes_far zone box (binary Eq l r) ≡ true → Lifts (comparison_falsifier Eq l r)
    eq_lifts far =
        let k = and_parts (is_met_if_open zone box Lte l r) (is_met_if_open zone box Lte r l) far in
        or_lifts (both_of (binary Gt) (min_of l) (max_of r)) (both_of (binary Gt) (min_of r) (max_of l))
        (low_high_lifts Lte Gt refl l r hl hr (met_if_open Lte l r hl hr k.0) gt_excludes)
        (low_high_lifts Lte Gt refl r l hr hl (met_if_open Lte r l hr hl k.1) gt_excludes)

    gt_lifts : goes_far zone box (binary Gt l r) ≡ true → Lifts (comparison_falsifier Gt l r)
    gt_lifts far = high_low_lifts Lt Lte refl r l hr hl (met_if_open Lt r l hr hl far) lte_turned

    gte_lifts : goes_far zone box (binary Gte l r) ≡ true → Lifts (comparison_falsifier Gte l r)
    gte_lifts far = high_low_lifts Lte Lt refl r l hr hl (met_if_open Lte r l hr hl far) lt_turned

    lt_lifts : IsMet Lt l r → Lifts (comparison_falsifier Lt l r)
    lt_lifts met = low_high_lifts Lt Gte refl l r hl hr met gte_excludes

    lte_lifts : IsMet Lte l r → Lifts (comparison_falsifier Lte l r)
    lte_lifts met = low_high_lifts Lte Gt refl l r hl hr met gt_excludes

    end_lifts : (s : StrictComparison) → IsMet (to_operator s) l r → Lifts (falsifier [] (binary (to_operator s) l r))
    end_lifts Strict met = lift_by (falsifier [] (binary Lt l r)) (comparison_falsifier Lt l r) (comparison_is Lt l r refl) (lt_lifts met)
    end_lifts NonStrict met = lift_by (falsifier [] (binary Lte l r)) (comparison_falsifier Lte l r) (comparison_is Lte l r refl) (lte_lifts met)

  -- ---- ranges

  literal_has_ends : (c : Constant) → HasEnds (literal c)
  literal_has_ends c = record { with_values = refl; least = literal_end c; most = literal_end c }

  module _ (c : Place) (hc : HasEnds (column c)) where
    halves_lift : (o : BetweenOptions) (d e : Constant) → IsMet (to_operator o.lower_strict) (literal d) (column c) → IsMet (to_operator o.upper_strict) (column c) (literal e) → Lifts (falsifier [] (halves o (column c) (literal d) (literal e)))
    halves_lift o d e low high =
        let lower = binary (to_operator o.lower_strict) (literal d) (column c) in
        let upper = binary (to_operator o.upper_strict) (column c) (literal e) in
        lift_by (falsifier [] (binary And lower upper)) (either_of (binary Or) (falsifier [] lower) (falsifier [] upper)) (and_is lower upper)
        (either_lifts (falsifier [] lower) (falsifier [] upper) (end_lifts (literal d) (column c) (literal_has_ends d) hc o.lower_strict low) (end_lifts (column c) (literal e) hc (literal_has_ends e) o.upper_strict high))

    module _ (o : BetweenOptions) (d e : Constant) (ok : is_ok (type_of (between o (column c) (literal d) (literal e))) ≡ true)
        (low : IsMet (to_operator o.lower_strict) (literal d) (column c)) (high : IsMet (to_operator o.upper_strict) (column c) (literal e)) where
      abbrev range : Tree Place
      range = between o (column c) (literal d) (literal e)

      never : ends o (literal d) (literal e) ≡ None → Lifts (falsifier [] range)
      never is = lift_by (falsifier [] range) (Some (bool_literal true)) (range_never o (column c) (literal d) (literal e) is) (λ h. h)

      as_it_stands : ends o (literal d) (literal e) ≡ Some (record { options = o; lower = literal d; upper = literal e }) → Lifts (falsifier [] range)
      as_it_stands is =
          lift_by (falsifier [] range) (falsifier [] (halves o (column c) (literal d) (literal e))) (range_is o (column c) (literal d) (literal e) o.lower_strict o.upper_strict (literal d) (literal e) is)
          (halves_lift o d e low high)

      numbers : (p q : PValue) → d.value ≡ Some (value.Primitive p) → e.value ≡ Some (value.Primitive q) → (t : Bool) → int_le (low_size o.lower_strict p) (high_size o.upper_strict q) ≡ t → Lifts (falsifier [] range)
      numbers p q p_is q_is true order =
          let k = are_numbers o (column c) d e p q ok p_is q_is in
          let lower : Constant = record { dtype = d.dtype; value = Some (value.Primitive (low_end o.lower_strict p)) } in
          let upper : Constant = record { dtype = e.dtype; value = Some (value.Primitive (high_end o.upper_strict q)) } in
          lift_by (falsifier [] range) (falsifier [] (halves closed (column c) (literal lower) (literal upper)))
          (range_is o (column c) (literal d) (literal e) NonStrict NonStrict (literal lower) (literal upper)
          ((λ i. literal_ends o d e (p_is i) (q_is i)) ∙ ap (λ (t : Bool). if t then Some (record { options = closed; lower = literal lower; upper = literal upper }) else None) order))
          (halves_lift closed lower upper
          (λ unknown. sym (low_moved o.lower_strict p k.p_in (box.bounds.high c.index)) ∙ sym (ap (λ (v : Option ScalarValue). tells (to_operator o.lower_strict) v (Some (box.bounds.high c.index))) p_is) ∙ low unknown)
          (λ unknown.
          sym (high_moved o.upper_strict q (high_least o.lower_strict o.upper_strict p q k.same k.p_in k.q_in order) (box.bounds.low c.index))
          ∙ sym (ap (λ (v : Option ScalarValue). tells (to_operator o.upper_strict) (Some (box.bounds.low c.index)) v) q_is)
          ∙ high unknown))
      numbers p q p_is q_is false order =
          never
          ((λ i. literal_ends o d e (p_is i) (q_is i))
          ∙ ap (λ (t : Bool). if t then Some (record { options = closed; lower = number_literal d (low_end o.lower_strict p); upper = number_literal e (high_end o.upper_strict q) }) else None) order)

      module _ (l u : ScalarValue) (l_is : d.value ≡ Some l) (u_is : e.value ≡ Some u) (plain : literal_ends o d e (Some l) (Some u) ≡ (if is_crossed o (value_cmp l u) then None else Some (record { options = o; lower = literal d; upper = literal e }))) where
        values : (t : Bool) → is_crossed o (value_cmp l u) ≡ t → Lifts (falsifier [] range)
        values true h = never ((λ i. literal_ends o d e (l_is i) (u_is i)) ∙ plain ∙ ap (λ (t : Bool). if t then None else Some (record { options = o; lower = literal d; upper = literal e })) h)
        values false h = as_it_stands ((λ i. literal_ends o d e (l_is i) (u_is i)) ∙ plain ∙ ap (λ (t : Bool). if t then None else Some (record { options = o; lower = literal d; upper = literal e })) h)

      of_values : (l u : ScalarValue) → d.value ≡ Some l → e.value ≡ Some u → Lifts (falsifier [] range)
      of_values (value.Primitive p) (value.Primitive q) a b = numbers p q a b (int_le (low_size o.lower_strict p) (high_size o.upper_strict q)) refl
      of_values (value.Primitive p) u a b = values (value.Primitive p) u a b refl (is_crossed o (value_cmp (value.Primitive p) u)) refl
      of_values l u a b = values l u a b refl (is_crossed o (value_cmp l u)) refl

      range_lifts : (v w : Option ScalarValue) → d.value ≡ v → e.value ≡ w → Lifts (falsifier [] range)
      range_lifts (Some l) (Some u) a b = of_values l u a b
      range_lifts (Some l) None a b = as_it_stands (λ i. literal_ends o d e (a i) (b i))
      range_lifts None w a b = as_it_stands (λ i. literal_ends o d e (a i) (b i))

  -- ---- every such predicate

  literal_lifts : (v : Option ScalarValue) → Lifts (literal_falsifier v)
  literal_lifts (Some (value.Bool b)) = λ h. h
  literal_lifts (Some (value.Primitive p)) = tt
  literal_lifts (Some (value.Utf8 bs)) = tt
  literal_lifts (Some (value.Binary bs)) = tt
  literal_lifts None = tt

  module _ (x y : Tree Place) (operands : (is_operand x && is_operand y) ≡ true) (sides : AllByRecursion HasSides (columns_of x ++ columns_of y)) where
    first_ends : HasEnds x
    first_ends = has_ends x (and_parts (is_operand x) (is_operand y) operands).0 (all_front HasSides (columns_of x) (columns_of y) sides)

    second_ends : HasEnds y
    second_ends = has_ends y (and_parts (is_operand x) (is_operand y) operands).1 (all_back HasSides (columns_of x) (columns_of y) sides)

    of_operands : (o : Operator) → ((l r : Tree Place) → HasEnds l → HasEnds r → goes_far zone box (binary o l r) ≡ true → Lifts (comparison_falsifier o l r)) → goes_far zone box (binary o x y) ≡ true
        → is_comparison o ≡ true → Lifts (falsifier [] (binary o x y))
    of_operands o f far k = lift_by (falsifier [] (binary o x y)) (comparison_falsifier o x y) (comparison_is o x y k) (f x y first_ends second_ends far)

  lifts : (q : Tree Place) → is_simple q ≡ true → is_ok (type_of q) ≡ true → AllByRecursion HasSides (columns_of q) → goes_far zone box q ≡ true → Lifts (falsifier [] q)
  lifts (literal c) simple ok sides far = lift_by (falsifier [] (literal c)) (literal_falsifier c.value) (literal_is c) (literal_lifts c.value)
  lifts (binary And x y) simple ok sides far =
      let k = and_parts (is_simple x) (is_simple y) simple in
      let t = with_types-ok connective_type (type_of x) (type_of y) ok in
      let f = and_parts (goes_far zone box x) (goes_far zone box y) far in
      lift_by (falsifier [] (binary And x y)) (either_of (binary Or) (falsifier [] x) (falsifier [] y)) (and_is x y)
      (either_lifts (falsifier [] x) (falsifier [] y) (lifts x k.0 t.0 (all_front HasSides (columns_of x) (columns_of y) sides) f.0) (lifts y k.1 t.1 (all_back HasSides (columns_of x) (columns_of y) sides) f.1))
  lifts (binary Or x y) simple ok sides far =
      let k = and_parts (is_simple x) (is_simple y) simple in
      let t = with_types-ok connective_type (type_of x) (type_of y) ok in
      let f = and_parts (goes_far zone box x) (goes_far zone box y) far in
      lift_by (falsifier [] (binary Or x y)) (both_of (binary And) (falsifier [] x) (falsifier [] y)) (or_is x y)
      (and_lifts (falsifier [] x) (falsifier [] y) (lifts x k.0 t.0 (all_front HasSides (columns_of x) (columns_of y) sides) f.0) (lifts y k.1 t.1 (all_back HasSides (columns_of x) (columns_of y) sides) f.1))
  lifts (binary Eq x y) simple ok sides far = of_operands x y simple sides Eq eq_lifts far refl
  lifts (binary NotEq x y) simple ok sides far = of_operands x y simple sides NotEq not_eq_lifts far refl
  lifts (binary Gt x y) simple ok sides far = of_operands x y simple sides Gt gt_lifts far refl
  lifts (binary Gte x y) simple ok sides far = of_operands x y simple sides Gte gte_lifts far refl
  lifts (binary Lt x y) simple ok sides far = of_operands x y simple sides Lt (λ l r hl hr f. lt_lifts l r hl hr (met_if_open Lt l r hl hr f)) far refl
  lifts (binary Lte x y) simple ok sides far = of_operands x y simple sides Lte (λ l r hl hr f. lte_lifts l r hl hr (met_if_open Lte l r hl hr f)) far refl
  lifts (between o (column c) (literal d) (literal e)) simple ok sides far =
      let hc : HasEnds (column c) = has_ends (column c) refl sides in
      let f = and_parts (is_met_if_open zone box (to_operator o.lower_strict) (literal d) (column c)) (is_met_if_open zone box (to_operator o.upper_strict) (column c) (literal e)) far in
      range_lifts c hc o d e ok
      (met_if_open (to_operator o.lower_strict) (literal d) (column c) (literal_has_ends d) hc f.0)
      (met_if_open (to_operator o.upper_strict) (column c) (literal e) hc (literal_has_ends e) f.1) d.value e.value refl refl
  lifts (between o x l u) simple ok sides far = cc
  lifts (column c) simple ok sides far = cc
  lifts (is_null x) simple ok sides far = cc
  lifts (is_not_null x) simple ok sides far = cc
  lifts (not x) simple ok sides far = cc
  lifts (like o x p) simple ok sides far = cc
  lifts (stat f x) simple ok sides far = cc
  lifts row_count simple ok sides far = cc

  pub far_falsifier : (q : Tree Place) → has_disjoint_ands q ≡ true → is_predicate q ≡ true → fits_scope q scope ≡ true → AllByRecursion HasSides (columns_of q) → goes_far zone box q ≡ true
      → (e : Tree Place) × (falsifier [] q ≡ Some e) × (¬ IsSatisfiable q box.bounds zone.rows → is_true (value_under answers zone.rows e) ≡ true)
  far_falsifier q apart predicate fits sides far =
      let k = and_parts (is_simple q) (are_sides_apart q) apart in
      let t = typed_bool q (type_of q) refl predicate in
      let is_box = all_map HasSides (λ c. MatchOption (slice_get full.stats c.index) ⊥ (IsKnownBy box.bounds c.index)) (columns_of q) full_known sides in
      let order = all_map HasSides (λ c. AtMost value_cmp (box.bounds.low c.index) (box.bounds.high c.index)) (columns_of q) in_order sides in
      let d = falsifiers_are_complete q t.0 scope full box.bounds t.1 t.2 (full_fits 0 scope) fits apart is_box order in
      let rises : Rises d.0 = subst (λ (o : Option (Tree Place)). Lifts o) d.1 (lifts q k.0 (ap is_ok t.1) sides far) in
      (d.0, d.1, λ none. rises (proves_value d.0 full_answers zone.rows (d.2.1 none)))
