-- The falsifiers of predicates whose ANDs are apart are complete over known boxes in order.
use Rattle.std.proofs.Common.{◌≡◌, ◌↔◌, ◌||◌, ◌⊎◌, inl, inr, ⊎_elim, int_le, ℕ, zero, suc, Bool, true, false, not as not_b, ◌&&◌, List, [], ◌∷◌, ◌++◌, length, Option, Some, None, refl, sym, ap, ◌∙◌, subst, subst₂, if◌then◌else◌}
use Rattle.std.specs.Prelude.{IsTrue, MatchOption, is_ok, slice_get}
use Rattle.std.specs.List.{AllByRecursion}
use Rattle.std.specs.Option.{is_some}
use Rattle.std.specs.declared.cmp.Ordering.{Ordering}
use Rattle.std.specs.declared.cmp.Ordering.TheVariants.{Less, Equal, Greater}
use Rattle.vortex_expr.specs.Trees.Between.{to_operator}
use Rattle.vortex_base.specs.declared.pvalue.PValue.{PValue}
use Rattle.vortex_rewrite.proofs.Soundness.MovedEnds.{IsMoved, Rewritten, are_numbers, rewritten}
use Rattle.vortex_rewrite.proofs.Soundness.NumberEnds.{ends_ordered, high_end, low_end}
use Rattle.vortex_rewrite.proofs.Rewriting.OverParts.{comparable_ends, halves_typed}
use Rattle.vortex_rewrite.proofs.Completeness.Ranges.{Halved, halved, moved_decided, never_decided}
use Rattle.std.proofs.lemmas.Bool.{and_parts}
use Rattle.std.proofs.lemmas.Option.{same_Some, none-some, slice_get_within}
use Rattle.vortex_expr.proofs.Meanings.PlacedTypes.{with_types-ok}
use Rattle.vortex_expr.specs.Meanings.Fitting.{fits_scope, is_of_type}
use Rattle.vortex_expr.specs.Meanings.Meaning.{holds, is_true}
use Rattle.vortex_base.specs.Data.Scalars.{Constant, is_optional_value}
use Rattle.vortex_base.specs.Data.Scopes.{Named}
use Rattle.vortex_expr.specs.Trees.Tree.{Tree, Place, column, literal, binary, between, is_null, is_not_null, not, like, stat, row_count, all_columns}
use Rattle.vortex_base.specs.Data.Types.{as_nullable, dtype_eq_is_exact, eq_ignore_nullability}
use Rattle.vortex_expr.specs.Meanings.Typing.{between_type, binary_type, comparison_type, connective_type, type_of, with_types}
use Rattle.vortex_base.specs.Data.Values.{is_value, value_cmp}
use Rattle.vortex_base.specs.declared.aggregate.AggregateFnRef.TheVariants as aggregate
use Rattle.vortex_expr.specs.declared.scalar_fn.BetweenOptions.{BetweenOptions}
use Rattle.vortex_expr.specs.declared.scalar_fn.StrictComparison.{StrictComparison}
use Rattle.vortex_expr.specs.declared.scalar_fn.StrictComparison.TheVariants.{Strict, NonStrict}
use Rattle.vortex_base.specs.declared.dtype.DType.{DType}
use Rattle.vortex_base.specs.declared.dtype.DType.TheVariants as dtype
use Rattle.vortex_expr.specs.declared.scalar_fn.Operator.{Operator}
use Rattle.vortex_expr.specs.declared.scalar_fn.Operator.TheVariants.{Eq, NotEq, Gt, Gte, Lt, Lte, And, Or}
use Rattle.vortex_base.specs.declared.scalar_value.ScalarValue.{ScalarValue}
use Rattle.vortex_base.specs.declared.scalar_value.ScalarValue.TheVariants as value
use Rattle.vortex_rewrite.proofs.Completeness.Apart.{Known, all_inside, and_apart, or_shared}
use Rattle.vortex_rewrite.proofs.Completeness.Choices.{all_back, all_front, row_with, row_within}
use Rattle.vortex_rewrite.proofs.Completeness.Decided.{Decided, comparison_decided, truth_decided}
use Rattle.vortex_rewrite.proofs.Completeness.Interval.{is_comparison}
use Rattle.vortex_rewrite.proofs.Completeness.Operands.{IsInterval, if_ok, if_typed, operand, operand_type, same_operands, same_values, some_value}
use Rattle.vortex_zone_map.proofs.ZoneLemmas.{zone_set_fits}
use Rattle.vortex_rewrite.proofs.Soundness.TruthLogic.{clash}
use Rattle.vortex_rewrite.specs.Rewriting.ReadOnce.{Box, IsInOrder, IsSatisfiable, are_apart, are_distinct, are_sides_apart, columns_of, has_closed_end, is_number_type, is_operand, is_range, is_simple, is_truth}
use Rattle.vortex_prune.specs.Scanning.Complete.{FalsifiersAreComplete, IsBoxIn, IsKnownBy, SkippingIsComplete}
use Rattle.vortex_zone_map.specs.Zone.{Entries, IsZone, ZoneData}
use Rattle.vortex_prune.specs.Binding.PartAnswers.{column_value, told_values}
use Rattle.vortex_rewrite.specs.Rewriting.Proof.{Assignment, proves}
use Rattle.vortex_rewrite.specs.Rewriting.Falsifiers.{closed, ends, falsifier, high_size, is_crossed, literal_ends, low_size, number_literal}
use Rattle.vortex_prune.specs.Scanning.Selection.{proves_of}
use Rattle.vortex_stats.proofs.Kit.{entry_value-fits}
use Rattle.vortex_stats.specs.Bounds.Order.{AtMost}
use Rattle.vortex_stats.specs.Sets.Entries.{entry_value, is_value_of, value_fits}
use Rattle.vortex_stats.specs.Precision.{present_value}
use Rattle.vortex_stats.specs.Stat.{extreme_dtype, stat_dtype}
use Rattle.vortex_stats.specs.declared.precision.Precision.{Precision}
use Rattle.vortex_stats.specs.declared.precision.Precision.TheVariants.{Exact, Inexact, Absent}
use Rattle.vortex_stats.specs.declared.stat.Stat.{Stat}
use Rattle.vortex_stats.specs.declared.stat.Stat.TheVariants.{Max, Min}
use Rattle.vortex_rewrite.proofs.Logic.{all_append}

-- ---- what the tests of a predicate's shape tell

truth_is : (o : Option ScalarValue) → is_truth o ≡ true → (b : Bool) × (o ≡ Some (value.Bool b))
truth_is None h = cc
truth_is (Some (value.Bool b)) h = (b, refl)
truth_is (Some (value.Primitive p)) h = cc
truth_is (Some (value.Utf8 bs)) h = cc
truth_is (Some (value.Binary bs)) h = cc

-- ends that didn't cross meet both comparisons
meets : (s t : StrictComparison) (r : Ordering) → is_crossed (record { lower_strict = s; upper_strict = t }) r ≡ false → (holds (to_operator s) r ≡ true) × (holds (to_operator t) r ≡ true)
meets s t Less h = (less s, less t)
  where
    less : (s : StrictComparison) → holds (to_operator s) Less ≡ true
    less Strict = refl
    less NonStrict = refl
meets NonStrict NonStrict Equal h = (refl, refl)
meets NonStrict Strict Equal h = cc
meets Strict t Equal h = cc
meets s t Greater h = cc

is_number : ScalarValue → Bool
is_number (value.Primitive p) = true
is_number v = false

number_kind : (v : ScalarValue) (t : DType) → is_value v t ≡ true → is_number v ≡ is_number_type t
unfolding is_number
number_kind (value.Bool b) (dtype.Bool n) h = refl
number_kind (value.Primitive p) (dtype.Primitive q n) h = refl
number_kind (value.Utf8 bs) (dtype.Utf8 n) h = refl
number_kind (value.Binary bs) (dtype.Binary n) h = refl
number_kind v t h = cc

-- what a test of columns tells of each
each_column : (test : Place → Bool) (p : Tree Place) → all_columns test p ≡ true → AllByRecursion (λ c. test c ≡ true) (columns_of p)
each_column test (column c) h = (h, tt)
each_column test (literal c) h = tt
each_column test (binary o l r) h =
    let k = and_parts (all_columns test l) (all_columns test r) h in
    all_append (λ c. test c ≡ true) (columns_of l) (columns_of r) (each_column test l k.0) (each_column test r k.1)
each_column test (between o x l u) h =
    let k = and_parts (all_columns test x) (all_columns test l && all_columns test u) h in
    let j = and_parts (all_columns test l) (all_columns test u) k.1 in
    all_append (λ c. test c ≡ true) (columns_of x) (columns_of l ++ columns_of u) (each_column test x k.0)
    (all_append (λ c. test c ≡ true) (columns_of l) (columns_of u) (each_column test l j.0) (each_column test u j.1))
each_column test (is_null x) h = each_column test x h
each_column test (is_not_null x) h = each_column test x h
each_column test (not x) h = each_column test x h
each_column test (like o x q) h =
    let k = and_parts (all_columns test x) (all_columns test q) h in
    all_append (λ c. test c ≡ true) (columns_of x) (columns_of q) (each_column test x k.0) (each_column test q k.1)
each_column test (stat f x) h = tt
each_column test row_count h = tt

-- ---- every such predicate

module _ (box : Box) (A : Assignment) (m n : ℕ) where
  literal_node : (c : Constant) → is_truth c.value ≡ true → Decided box A m n (literal c)
  literal_node c h =
      let t = truth_is c.value h in
      subst (λ o. Decided box A m n (literal (record { dtype = c.dtype; value = o }))) (sym t.1) (truth_decided box A m n c.dtype t.0)

  module _ (x y : Tree Place) (known : Known box A m n (columns_of x ++ columns_of y)) (distinct : are_distinct (columns_of x ++ columns_of y) ≡ true) where
    comparison : (o : Operator) → is_comparison o ≡ true → (is_operand x && is_operand y) ≡ true → is_ok (with_types comparison_type (type_of x) (type_of y)) ≡ true → Decided box A m n (binary o x y)
    comparison o k simple ok =
        let h = and_parts (is_operand x) (is_operand y) simple in
        let t = with_types-ok comparison_type (type_of x) (type_of y) ok in
        comparison_decided box A m n x y (operand_type x) (operand_type y)
        (operand box A m n x h.0 t.0 (all_front (IsInterval box A m n) (columns_of x) (columns_of y) known))
        (operand box A m n y h.1 t.1 (all_back (IsInterval box A m n) (columns_of x) (columns_of y) known))
        o k (same_operands x y h.0 h.1 t.0 t.1 ok) (all_inside box A m n (columns_of x ++ columns_of y) known) distinct

    at_end : (s : StrictComparison) → (is_operand x && is_operand y) ≡ true → is_ok (with_types (binary_type (to_operator s)) (type_of x) (type_of y)) ≡ true → Decided box A m n (binary (to_operator s) x y)
    at_end Strict simple ok = comparison Lt refl simple ok
    at_end NonStrict simple ok = comparison Lte refl simple ok

  -- a column between two literals
  module _ (c : Place) (known : Known box A m n (c ∷ [])) where
    abbrev range_of : BetweenOptions → (d e : Constant) → Tree Place
    range_of o d e = between o (column c) (literal d) (literal e)

    module _ (o : BetweenOptions) (d e : Constant) (ok : is_ok (type_of (between o (column c) (literal d) (literal e))) ≡ true) where
      ends_fit : (l u : ScalarValue) → d.value ≡ Some l → e.value ≡ Some u → (is_value l c.dtype ≡ true) × (is_value u c.dtype ≡ true)
      ends_fit l u l_is u_is =
          let t = with_types-ok (between_type c.dtype) (type_of (literal d)) (type_of (literal e)) ok in
          let low_fit : is_optional_value d.value d.dtype ≡ true = if_ok _ _ _ t.0 in
          let high_fit : is_optional_value e.value e.dtype ≡ true = if_ok _ _ _ t.1 in
          let typed : is_ok (between_type c.dtype d.dtype e.dtype) ≡ true =
          subst₂ (λ a b. is_ok (with_types (between_type c.dtype) a b) ≡ true) (if_typed (is_optional_value d.value d.dtype) d.dtype _ t.0) (if_typed (is_optional_value e.value e.dtype) e.dtype _ t.1) ok in
          let comparable = comparable_ends c.dtype d.dtype e.dtype typed in (
            same_values l c.dtype d.dtype (and_parts (eq_ignore_nullability c.dtype d.dtype) _ comparable.0).0 ∙ subst (λ v. is_optional_value v d.dtype ≡ true) l_is low_fit,
            same_values u c.dtype e.dtype (and_parts (eq_ignore_nullability c.dtype e.dtype) _ comparable.1).0 ∙ subst (λ v. is_optional_value v e.dtype ≡ true) u_is high_fit,
          )

      range_halved : (l u : ScalarValue) → d.value ≡ Some l → e.value ≡ Some u → holds (to_operator o.lower_strict) (value_cmp l u) ≡ true → holds (to_operator o.upper_strict) (value_cmp l u) ≡ true
          → has_closed_end o ≡ true → Halved box A m n c known.0 o d e
      range_halved l u l_is u_is low high one =
          let fit = ends_fit l u l_is u_is in
          let sides = halves_typed o.lower_strict o.upper_strict (type_of (column c)) (type_of (literal d)) (type_of (literal e)) ok in
          let t = with_types-ok connective_type (with_types (binary_type (to_operator o.lower_strict)) (type_of (literal d)) (type_of (column c))) (with_types (binary_type (to_operator o.upper_strict)) (type_of (column c)) (type_of (literal e))) sides in
          halved box A m n c known.0 o d e l u l_is u_is fit.0 fit.1 low high one
          (at_end (literal d) (column c) known refl o.lower_strict (ap (λ v. is_some v && true) l_is) t.0)
          (at_end (column c) (literal e) known refl o.upper_strict (ap is_some u_is) t.1)

    module _ (o : BetweenOptions) (d e : Constant) (ok : is_ok (type_of (between o (column c) (literal d) (literal e))) ≡ true) (shape : (is_number_type c.dtype || has_closed_end o) ≡ true) where
      -- without ends, and by its own
      never : ends o (literal d) (literal e) ≡ None → Decided box A m n (range_of o d e)
      never is = never_decided box A m n c known.0 o d e is (subst (Rewritten o (column c) (literal d) (literal e)) is (rewritten o (column c) (literal d) (literal e) ok))

      moved : (q : BetweenOptions) (a b : Constant) (l u : ScalarValue) → a.value ≡ Some l → b.value ≡ Some u → ends o (literal d) (literal e) ≡ Some (record { options = q; lower = literal a; upper = literal b })
          → holds (to_operator q.lower_strict) (value_cmp l u) ≡ true → holds (to_operator q.upper_strict) (value_cmp l u) ≡ true → has_closed_end q ≡ true → Decided box A m n (range_of o d e)
      moved q a b l u l_is u_is is low high one =
          let same : IsMoved o (column c) (literal d) (literal e) (record { options = q; lower = literal a; upper = literal b }) =
          subst (Rewritten o (column c) (literal d) (literal e)) is (rewritten o (column c) (literal d) (literal e) ok) in
          moved_decided box A m n c known.0 o q d e a b is same (range_halved q a b (ap is_ok same.typed ∙ ok) l u l_is u_is low high one)

      module _ (p q : PValue) (p_is : d.value ≡ Some (value.Primitive p)) (q_is : e.value ≡ Some (value.Primitive q)) where
        numbers : (t : Bool) → int_le (low_size o.lower_strict p) (high_size o.upper_strict q) ≡ t → Decided box A m n (range_of o d e)
        numbers true h =
            let k = are_numbers o (column c) d e p q ok p_is q_is in
            let order = ends_ordered o.lower_strict o.upper_strict p q k.same k.p_in k.q_in h in
            let low = value.Primitive (low_end o.lower_strict p) in
            let high = value.Primitive (high_end o.upper_strict q) in
            moved closed (record { dtype = d.dtype; value = Some low }) (record { dtype = e.dtype; value = Some high }) low high refl refl
            ((λ i. literal_ends o d e (p_is i) (q_is i)) ∙ ap (λ (t : Bool). if t then Some (record { options = closed; lower = number_literal d (low_end o.lower_strict p); upper = number_literal e (high_end o.upper_strict q) }) else None) h)
            order order refl
        numbers false h =
            never ((λ i. literal_ends o d e (p_is i) (q_is i)) ∙ ap (λ (t : Bool). if t then Some (record { options = closed; lower = number_literal d (low_end o.lower_strict p); upper = number_literal e (high_end o.upper_strict q) }) else None) h)

      module _ (l u : ScalarValue) (l_is : d.value ≡ Some l) (u_is : e.value ≡ Some u) (plain : literal_ends o d e (Some l) (Some u) ≡ (if is_crossed o (value_cmp l u) then None else Some (record { options = o; lower = literal d; upper = literal e }))) where
        values : is_number_type c.dtype ≡ false → (t : Bool) → is_crossed o (value_cmp l u) ≡ t → Decided box A m n (range_of o d e)
        values none true h = never ((λ i. literal_ends o d e (l_is i) (u_is i)) ∙ plain ∙ ap (λ (t : Bool). if t then None else Some (record { options = o; lower = literal d; upper = literal e })) h)
        values none false h =
            let k = meets o.lower_strict o.upper_strict (value_cmp l u) h in
            moved o d e l u l_is u_is
            ((λ i. literal_ends o d e (l_is i) (u_is i)) ∙ plain ∙ ap (λ (t : Bool). if t then None else Some (record { options = o; lower = literal d; upper = literal e })) h)
            k.0 k.1 (ap (λ b. b || has_closed_end o) (sym none) ∙ shape)

      -- the value isn't a number, so the column's type isn't one of numbers
      no_numbers : (l u : ScalarValue) → d.value ≡ Some l → e.value ≡ Some u → (v : ScalarValue) → (v ≡ l) ⊎ (v ≡ u) → is_number v ≡ false → is_number_type c.dtype ≡ false
      no_numbers l u l_is u_is v at h =
          let fit = ends_fit o d e ok l u l_is u_is in
          ⊎_elim (λ same. sym (number_kind l c.dtype fit.0) ∙ ap is_number (sym same) ∙ h) (λ same. sym (number_kind u c.dtype fit.1) ∙ ap is_number (sym same) ∙ h) at

      of_values : (l u : ScalarValue) → d.value ≡ Some l → e.value ≡ Some u → Decided box A m n (range_of o d e)
      unfolding is_number
      of_values (value.Primitive p) (value.Primitive q) a b = numbers p q a b (int_le (low_size o.lower_strict p) (high_size o.upper_strict q)) refl
      of_values (value.Primitive p) u a b = values (value.Primitive p) u a b refl (no_numbers (value.Primitive p) u a b u (inr refl) refl) (is_crossed o (value_cmp (value.Primitive p) u)) refl
      of_values l u a b = values l u a b refl (no_numbers l u a b l (inl refl) refl) (is_crossed o (value_cmp l u)) refl

    range : (o : BetweenOptions) (d e : Constant) → is_ok (type_of (between o (column c) (literal d) (literal e))) ≡ true → is_range o (column c) (literal d) (literal e) ≡ true → Decided box A m n (range_of o d e)
    range o d e ok simple =
        let k = and_parts (is_number_type c.dtype || has_closed_end o) (is_some d.value && is_some e.value) simple in
        let some = and_parts (is_some d.value) (is_some e.value) k.1 in
        let l = some_value d.value some.0 in
        let u = some_value e.value some.1 in
        of_values o d e ok k.0 l.0 u.0 l.1 u.1

  decided : (p : Tree Place) → is_simple p ≡ true → are_sides_apart p ≡ true → is_ok (type_of p) ≡ true → Known box A m n (columns_of p) → Decided box A m n p
  decided (column c) simple apart ok known = cc
  decided (literal c) simple apart ok known = literal_node c simple
  decided (binary Eq x y) simple apart ok known = comparison x y known apart Eq refl simple ok
  decided (binary NotEq x y) simple apart ok known = comparison x y known apart NotEq refl simple ok
  decided (binary Gt x y) simple apart ok known = comparison x y known apart Gt refl simple ok
  decided (binary Gte x y) simple apart ok known = comparison x y known apart Gte refl simple ok
  decided (binary Lt x y) simple apart ok known = comparison x y known apart Lt refl simple ok
  decided (binary Lte x y) simple apart ok known = comparison x y known apart Lte refl simple ok
  decided (binary And x y) simple apart ok known =
      let h = and_parts (is_simple x) (is_simple y) simple in
      let a = and_parts (are_apart (columns_of x) (columns_of y)) (are_sides_apart x && are_sides_apart y) apart in
      let b = and_parts (are_sides_apart x) (are_sides_apart y) a.1 in
      let t = with_types-ok connective_type (type_of x) (type_of y) ok in
      let known_x = all_front (IsInterval box A m n) (columns_of x) (columns_of y) known in
      let known_y = all_back (IsInterval box A m n) (columns_of x) (columns_of y) known in
      and_apart box A m n x y (decided x h.0 b.0 t.0 known_x) (decided y h.1 b.1 t.1 known_y) known_x known_y a.0
  decided (binary Or x y) simple apart ok known =
      let h = and_parts (is_simple x) (is_simple y) simple in
      let b = and_parts (are_sides_apart x) (are_sides_apart y) apart in
      let t = with_types-ok connective_type (type_of x) (type_of y) ok in
      let known_x = all_front (IsInterval box A m n) (columns_of x) (columns_of y) known in
      let known_y = all_back (IsInterval box A m n) (columns_of x) (columns_of y) known in
      or_shared box A m n x y (decided x h.0 b.0 t.0 known_x) (decided y h.1 b.1 t.1 known_y) known_x known_y
  decided (between o (column c) (literal d) (literal e)) simple apart ok known = range c known o d e ok simple
  decided (between o x l u) simple apart ok known = cc
  decided (is_null x) simple apart ok known = cc
  decided (is_not_null x) simple apart ok known = cc
  decided (not x) simple apart ok known = cc
  decided (like o x q) simple apart ok known = cc
  decided (stat f x) simple apart ok known = cc
  decided row_count simple apart ok known = cc

  holds_true : (b : Bool) → (b ≡ false → ⊥) → b ≡ true
  holds_true true f = refl
  holds_true false f = absurd (f refl)

  decides : (p : Tree Place) → Known box A m n (columns_of p) → Decided box A m n p → (e : Tree Place) × (falsifier [] p ≡ Some e) × (IsTrue (proves e A n) ↔ ¬ IsSatisfiable p box n)
  decides p known d =
      let says : proves d.proof A n ≡ d.says = λ i. is_true (if d.closed i then None else d.proof_told i) in (
        d.proof,
        d.proof_is,
        (
          (λ t sat. clash sat.2 (d.refutes (sym says ∙ t) sat.0 sat.1)),
          (λ none. says ∙ holds_true d.says (λ e. let f = d.finds e in none (row_with f.0 m, row_within box f.0 m (columns_of p) (all_inside box A m n (columns_of p) known) f.1, f.2))),
        ),
      )

-- ---- what a part's sets answer for the columns of a predicate

column_there : (ns : List Named) (i : ℕ) (t : DType) → is_of_type t (slice_get ns i) ≡ true → (c : Named) × (slice_get ns i ≡ Some c) × (c.1 ≡ t)
column_there [] i t k = cc
column_there (x ∷ ns) zero t k = (x, refl, (dtype_eq_is_exact x.1 t).0 k)
column_there (x ∷ ns) (suc i) t k = column_there ns i t k

set_there : (P : Entries → Type 0) (o : Option Entries) → MatchOption o ⊥ P → (es : Entries) × (o ≡ Some es) × P es
set_there P (Some es) h = (es, refl, h)
set_there P None h = absurd h

present_fits : (s : Stat) (t : DType) (p : Precision ScalarValue) (v : ScalarValue) → present_value p ≡ Some v → value_fits s t p ≡ true → is_value_of (stat_dtype s t) v ≡ true
present_fits s t (Exact w) v is h = subst (λ x. is_value_of (stat_dtype s t) x ≡ true) (same_Some _ _ is) h
present_fits s t (Inexact w) v is h = subst (λ x. is_value_of (stat_dtype s t) x ≡ true) (same_Some _ _ is) h
present_fits s t Absent v is h = absurd (none-some v is)

extreme_fits : (t : DType) (v : ScalarValue) → is_value_of (extreme_dtype t) v ≡ true → is_value v t ≡ true
extreme_fits dtype.Null v h = cc
extreme_fits (dtype.Bool n) v h = h
extreme_fits (dtype.Primitive p n) v h = h
extreme_fits (dtype.Utf8 n) v h = h
extreme_fits (dtype.Binary n) v h = h
extreme_fits (dtype.MinMaxState e n) v h = h

module _ (scope : List Named) (zone : ZoneData) (box : Box) (is_zone : IsZone scope zone) where
  -- the column's bounds are those of the box, whose values are of its type
  interval_at : (c : Place) (d : Named) (es : Entries) → slice_get scope c.index ≡ Some d → d.1 ≡ c.dtype → slice_get zone.stats c.index ≡ Some es → IsKnownBy box c.index es
      → AtMost value_cmp (box.low c.index) (box.high c.index) → IsInterval box (told_values scope zone) (length zone.stats) zone.rows c
  interval_at c d es there same set known order =
      let fits = zone_set_fits scope zone.stats c.index d es is_zone there set in
      let suits : eq_ignore_nullability d.1 c.dtype ≡ true = (dtype_eq_is_exact (as_nullable d.1) (as_nullable c.dtype)).1 (ap as_nullable same) in
      let low = extreme_fits d.1 (box.low c.index) (present_fits Min d.1 (entry_value Min es) (box.low c.index) known.0 (entry_value-fits Min d.1 es fits)) in
      let high = extreme_fits d.1 (box.high c.index) (present_fits Max d.1 (entry_value Max es) (box.high c.index) known.1 (entry_value-fits Max d.1 es fits)) in
      record {
        inside = slice_get_within zone.stats c.index es set;
        min_told = (λ i. column_value aggregate.Min c.dtype (there i) (set i) zone.rows) ∙ ap (λ (b : Bool). if b then present_value (entry_value Min es) else None) suits ∙ known.0;
        max_told = (λ i. column_value aggregate.Max c.dtype (there i) (set i) zone.rows) ∙ ap (λ (b : Bool). if b then present_value (entry_value Max es) else None) suits ∙ known.1;
        low = subst (λ t. is_value (box.low c.index) t ≡ true) same low;
        high = subst (λ t. is_value (box.high c.index) t ≡ true) same high;
        order = ap not_b order;
      }

  -- each column of a list
  intervals : (cs : List Place) → AllByRecursion (λ c. is_of_type c.dtype (slice_get scope c.index) ≡ true) cs → AllByRecursion (λ c. MatchOption (slice_get zone.stats c.index) ⊥ (IsKnownBy box c.index)) cs
      → AllByRecursion (λ c. AtMost value_cmp (box.low c.index) (box.high c.index)) cs → AllByRecursion (IsInterval box (told_values scope zone) (length zone.stats) zone.rows) cs
  intervals [] fit known order = tt
  intervals (c ∷ cs) fit known order =
      let d = column_there scope c.index c.dtype fit.0 in
      let es = set_there (IsKnownBy box c.index) (slice_get zone.stats c.index) known.0 in
      (interval_at c d.0 es.0 d.1 d.2 es.1 es.2 order.0, intervals cs fit.1 known.1 order.1)

  falsifiers_complete : (p : Tree Place) → is_ok (type_of p) ≡ true → is_simple p ≡ true → are_sides_apart p ≡ true → IsTrue (fits_scope p scope) → IsBoxIn zone.stats p box → IsInOrder p box
      → (e : Tree Place) × (falsifier [] p ≡ Some e) × (IsTrue (proves e (told_values scope zone) zone.rows) ↔ ¬ IsSatisfiable p box zone.rows)
  falsifiers_complete p ok simple apart fits is_box order =
      let known = intervals (columns_of p) (each_column (λ c. is_of_type c.dtype (slice_get scope c.index)) p fits) is_box order in
      decides box (told_values scope zone) (length zone.stats) zone.rows p known (decided box (told_values scope zone) (length zone.stats) zone.rows p simple apart ok known)

pub falsifiers_are_complete : FalsifiersAreComplete
falsifiers_are_complete p t scope zone box typed bool is_zone fits apart is_box order =
    let h = and_parts (is_simple p) (are_sides_apart p) apart in
    falsifiers_complete scope zone box is_zone p (ap is_ok typed) h.0 h.1 fits is_box order

pub skipping_is_complete : SkippingIsComplete
skipping_is_complete p t scope zone box typed bool is_zone fits apart is_box order =
    let c = falsifiers_are_complete p t scope zone box typed bool is_zone fits apart is_box order in
    subst (λ o. IsTrue (proves_of o zone.rows (told_values scope zone)) ↔ ¬ IsSatisfiable p box zone.rows) (sym c.1) c.2
