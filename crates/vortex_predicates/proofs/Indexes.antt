-- Sets of the indexes of columns: what two sides share, and what they have together.
use Rattle.std.proofs.Common.{◌≡◌, ◌++◌, ◌||◌, ℕ, Bool, true, false, not as not_b, ◌&&◌, List, [], ◌∷◌, refl, ap, ap₂, ◌∙◌, sym, ⊎_elim}
use Rattle.std.proofs.lemmas.Bool.{and_parts, eq-eqb, eqb-true, false_from_ne_true, not-true, or_cases, or_right}
use Rattle.std.specs.BTreeSet.{BTreeSet, IsDisjoint, contains}
use Rattle.std.specs.Ordering.{nat_cmp}
use Rattle.std.specs.Prelude.{◌==◌}
use Rattle.vortex_base.specs.Data.Exact.{both_hold}
use Rattle.vortex_expr.specs.Trees.Tree.{Tree, Place, binary, column, literal}
use Rattle.vortex_expr.specs.declared.scalar_fn.Operator.TheVariants.{And, Or}
use Rattle.vortex_predicates.specs.Complete.{HasIndexesOf}
use Rattle.vortex_predicates.specs.NullBoxes.{is_null_apart, is_simple_or_null}
use Rattle.vortex_rewrite.specs.Rewriting.ReadOnce.{are_apart, are_distinct, are_sides_apart, columns_of, has_index, has_disjoint_ands, is_operand, is_simple}
use mathlib.Core.Bool.{true≢false}

or_assoc : (a b c : Bool) → (a || (b || c)) ≡ ((a || b) || c)
or_assoc true b c = refl
or_assoc false b c = refl

has_append : (i : ℕ) (cs ds : List Place) → has_index i (cs ++ ds) ≡ (has_index i cs || has_index i ds)
has_append i [] ds = refl
has_append i (c ∷ cs) ds = ap (λ b. (i == c.index) || b) (has_append i cs ds) ∙ or_assoc (i == c.index) (has_index i cs) (has_index i ds)

-- the joined set has what the two lists have
pub has_both : (cs ds : List Place) (s t u : BTreeSet ℕ) → HasIndexesOf cs s → HasIndexesOf ds t → ((i : ℕ) → contains nat_cmp u i ≡ (contains nat_cmp s i || contains nat_cmp t i)) → HasIndexesOf (cs ++ ds) u
has_both cs ds s t u has also joined i = joined i ∙ ap₂ (λ a b. a || b) (has i) (also i) ∙ sym (has_append i cs ds)

-- ---- lists that share no index

apart_if : (cs ds : List Place) → ((i : ℕ) → has_index i cs ≡ true → has_index i ds ≡ false) → are_apart cs ds ≡ true
apart_if [] ds none = refl
apart_if (c ∷ cs) ds none =
    both_hold (not_b (has_index c.index ds)) (are_apart cs ds) (ap not_b (none c.index (ap (λ b. b || has_index c.index cs) (eq-eqb c.index c.index refl))))
    (apart_if cs ds (λ i at. none i (or_right (i == c.index) (has_index i cs) at)))

shares_none : (cs ds : List Place) → are_apart cs ds ≡ true → (i : ℕ) → has_index i cs ≡ true → has_index i ds ≡ false
shares_none [] ds h i at = absurd (true≢false (sym at))
shares_none (c ∷ cs) ds h i at =
    let k = and_parts (not_b (has_index c.index ds)) (are_apart cs ds) h in
    ⊎_elim (λ e. ap (λ j. has_index j ds) (eqb-true i c.index e) ∙ not-true (has_index c.index ds) k.0) (λ among. shares_none cs ds k.1 i among) (or_cases (i == c.index) (has_index i cs) at)

module _ (cs ds : List Place) (s t : BTreeSet ℕ) (has : HasIndexesOf cs s) (also : HasIndexesOf ds t) where
  pub sets_apart : IsDisjoint nat_cmp s t → are_apart cs ds ≡ true
  sets_apart disjoint = apart_if cs ds (λ i at. sym (also i) ∙ disjoint i (has i ∙ at))

  pub sets_share : (IsDisjoint nat_cmp s t → ⊥) → are_apart cs ds ≡ false
  sets_share shared = false_from_ne_true (are_apart cs ds) (λ h. shared (λ i at. also i ∙ shares_none cs ds h i (sym (has i) ∙ at)))

-- ---- predicates that bounds decide, by their sides

of_and : (s t a x y : Bool) → ((s && t) && (a && (x && y))) ≡ (a && ((s && x) && (t && y)))
of_and false t false x y = refl
of_and false t true x y = refl
of_and true false false x y = refl
of_and true false true false y = refl
of_and true false true true y = refl
of_and true true a x y = refl

of_or : (s t x y : Bool) → ((s && t) && (x && y)) ≡ ((s && x) && (t && y))
of_or false t x y = refl
of_or true false false y = refl
of_or true false true y = refl
of_or true true x y = refl

pub and_is_apart : (l r : Tree Place) → has_disjoint_ands (binary And l r) ≡ (are_apart (columns_of l) (columns_of r) && (has_disjoint_ands l && has_disjoint_ands r))
and_is_apart l r = of_and (is_simple l) (is_simple r) (are_apart (columns_of l) (columns_of r)) (are_sides_apart l) (are_sides_apart r)

pub or_is_apart : (l r : Tree Place) → has_disjoint_ands (binary Or l r) ≡ (has_disjoint_ands l && has_disjoint_ands r)
or_is_apart l r = of_or (is_simple l) (is_simple r) (are_sides_apart l) (are_sides_apart r)

-- and with null tests
pub and_is_null_apart : (l r : Tree Place) → is_null_apart (binary And l r) ≡ (are_apart (columns_of l) (columns_of r) && (is_null_apart l && is_null_apart r))
and_is_null_apart l r = of_and (is_simple_or_null l) (is_simple_or_null r) (are_apart (columns_of l) (columns_of r)) (are_sides_apart l) (are_sides_apart r)

pub or_is_null_apart : (l r : Tree Place) → is_null_apart (binary Or l r) ≡ (is_null_apart l && is_null_apart r)
or_is_null_apart l r = of_or (is_simple_or_null l) (is_simple_or_null r) (are_sides_apart l) (are_sides_apart r)

distinct_apart : (l r : Tree Place) → is_operand l ≡ true → is_operand r ≡ true → are_distinct (columns_of l ++ columns_of r) ≡ are_apart (columns_of l) (columns_of r)
distinct_apart (column c) (column d) h k = refl
distinct_apart (column c) (literal d) h k = refl
distinct_apart (literal c) (column d) h k = refl
distinct_apart (literal c) (literal d) h k = refl
distinct_apart (column c) r h k = cc
distinct_apart (literal c) r h k = cc
distinct_apart l r h k = cc

turned : (o a b : Bool) → (o ≡ true → a ≡ b) → (o && a) ≡ (b && o)
turned true a true h = h refl
turned true a false h = h refl
turned false a true h = refl
turned false a false h = refl

pub operands_apart : (l r : Tree Place) → ((is_operand l && is_operand r) && are_distinct (columns_of l ++ columns_of r)) ≡ (are_apart (columns_of l) (columns_of r) && (is_operand l && is_operand r))
operands_apart l r =
    turned (is_operand l && is_operand r) (are_distinct (columns_of l ++ columns_of r)) (are_apart (columns_of l) (columns_of r))
    (λ h. let k = and_parts (is_operand l) (is_operand r) h in distinct_apart l r k.0 k.1)
