-- The columns of a predicate as a list, and as a test of each.
use Rattle.std.proofs.Common.{◌≡◌, ⊎_elim, ℕ, Bool, true, false, not as not_b, ◌&&◌, ◌||◌, List, [], ◌∷◌, ◌++◌, refl, sym, ap, subst, arith}
use Rattle.std.specs.Prelude.{◌==◌}
use Rattle.std.specs.List.{AllByRecursion}
use Rattle.std.proofs.lemmas.Bool.{and_parts, eq-eqb, not-true, or_cases, or_parts, or_right}
use Rattle.std.proofs.lemmas.Bool.Decides.{nat_tests}
use Rattle.vortex_base.specs.Data.Exact.{both_hold}
use Rattle.vortex_expr.specs.Trees.Tree.{Tree, Place, all_columns, column, literal, binary, between, is_null, is_not_null, not, like, stat, row_count, has_placeholder, has_row_count, is_plain}
use Rattle.vortex_expr.specs.Trees.TreeEq.{place_eq, tree_eq_is_exact}
use Rattle.vortex_rewrite.proofs.Completeness.Choices.{all_back, all_front, all_map}
use Rattle.vortex_rewrite.proofs.Logic.{all_append}
use Rattle.vortex_rewrite.specs.Rewriting.ReadOnce.{columns_of, has_index}
use Rattle.vortex_normal.specs.Same.{HasNoOther}

-- ---- columns among others

pub eqb_same : (a b : ℕ) → (a == b) ≡ true → a ≡ b
eqb_same a b h = grind (arith, nat_tests)

pub same_place : (c d : Place) → place_eq c d ≡ true → c ≡ d
same_place c d h = column_of ((tree_eq_is_exact (column c) (column d)).0 h)
  where
    column_of : column c ≡ column d → c ≡ d
    column_of e = cc

abbrev has_place : Place → List Place → Bool
has_place c [] = false
has_place c (d ∷ ds) = place_eq c d || has_place c ds

all_placed : (cs : List Place) → AllByRecursion (λ c. has_place c cs ≡ true) cs
all_placed [] = tt
all_placed (c ∷ cs) = (
  ap (λ b. b || has_place c cs) ((tree_eq_is_exact (column c) (column c)).1 refl),
  all_map (λ d. has_place d cs ≡ true) (λ d. has_place d (c ∷ cs) ≡ true) cs (λ d e. or_right (place_eq d c) (has_place d cs) e) (all_placed cs),
)

pub all_indexed : (cs : List Place) → AllByRecursion (λ c. has_index c.index cs ≡ true) cs
all_indexed [] = tt
all_indexed (c ∷ cs) = (
  ap (λ b. b || has_index c.index cs) (eq-eqb c.index c.index refl),
  all_map (λ d. has_index d.index cs ≡ true) (λ d. has_index d.index (c ∷ cs) ≡ true) cs (λ d e. or_right (d.index == c.index) (has_index d.index cs) e) (all_indexed cs),
)

placed_in : (P : Place → Type 0) (c : Place) (cs : List Place) → has_place c cs ≡ true → AllByRecursion P cs → P c
placed_in P c [] h k = absurd cc
placed_in P c (d ∷ ds) h k = ⊎_elim (λ e. subst P (sym (same_place c d e)) k.0) (λ e. placed_in P c ds e k.1) (or_cases (place_eq c d) (has_place c ds) h)

pub indexed_in : (P : Place → Type 0) (i : ℕ) (cs : List Place) → has_index i cs ≡ true → AllByRecursion P cs → (c : Place) × (c.index ≡ i) × P c
indexed_in P i [] h k = absurd cc
indexed_in P i (c ∷ cs) h k = ⊎_elim (λ e. (c, sym (eqb_same i c.index e), k.0)) (λ e. indexed_in P i cs e k.1) (or_cases (i == c.index) (has_index i cs) h)

module _ (test : Place → Bool) where
  abbrev pub Passes : Place → Type 0
  Passes c = test c ≡ true

  -- what a test of all columns tells of each, and back where there are no placeholders
  pub each_column : (p : Tree Place) → all_columns test p ≡ true → AllByRecursion Passes (columns_of p)
  each_column (column c) h = (h, tt)
  each_column (literal c) h = tt
  each_column (binary o l r) h =
      let k = and_parts (all_columns test l) (all_columns test r) h in
      all_append Passes (columns_of l) (columns_of r) (each_column l k.0) (each_column r k.1)
  each_column (between o x l u) h =
      let k = and_parts (all_columns test x) (all_columns test l && all_columns test u) h in
      let j = and_parts (all_columns test l) (all_columns test u) k.1 in
      all_append Passes (columns_of x) (columns_of l ++ columns_of u) (each_column x k.0) (all_append Passes (columns_of l) (columns_of u) (each_column l j.0) (each_column u j.1))
  each_column (is_null x) h = each_column x h
  each_column (is_not_null x) h = each_column x h
  each_column (not x) h = each_column x h
  each_column (like o x q) h =
      let k = and_parts (all_columns test x) (all_columns test q) h in
      all_append Passes (columns_of x) (columns_of q) (each_column x k.0) (each_column q k.1)
  each_column (stat f x) h = tt
  each_column row_count h = tt

  pub plain_columns : (p : Tree Place) → has_placeholder p ≡ false → AllByRecursion Passes (columns_of p) → all_columns test p ≡ true
  plain_columns (column c) n h = h.0
  plain_columns (literal c) n h = refl
  plain_columns (binary o l r) n h =
      let k = or_parts (has_placeholder l) (has_placeholder r) n in
      both_hold _ _ (plain_columns l k.0 (all_front Passes (columns_of l) (columns_of r) h)) (plain_columns r k.1 (all_back Passes (columns_of l) (columns_of r) h))
  plain_columns (between o x l u) n h =
      let k = or_parts (has_placeholder x) (has_placeholder l || has_placeholder u) n in
      let j = or_parts (has_placeholder l) (has_placeholder u) k.1 in
      let ends = all_back Passes (columns_of x) (columns_of l ++ columns_of u) h in
      both_hold _ _ (plain_columns x k.0 (all_front Passes (columns_of x) (columns_of l ++ columns_of u) h))
      (both_hold _ _ (plain_columns l j.0 (all_front Passes (columns_of l) (columns_of u) ends)) (plain_columns u j.1 (all_back Passes (columns_of l) (columns_of u) ends)))
  plain_columns (is_null x) n h = plain_columns x n h
  plain_columns (is_not_null x) n h = plain_columns x n h
  plain_columns (not x) n h = plain_columns x n h
  plain_columns (like o x q) n h =
      let k = or_parts (has_placeholder x) (has_placeholder q) n in
      both_hold _ _ (plain_columns x k.0 (all_front Passes (columns_of x) (columns_of q) h)) (plain_columns q k.1 (all_back Passes (columns_of x) (columns_of q) h))
  plain_columns (stat f x) n h = cc
  plain_columns row_count n h = refl

pub no_placeholder : (p : Tree Place) → is_plain p ≡ true → has_placeholder p ≡ false
no_placeholder p h = not-true (has_placeholder p) (and_parts (not_b (has_placeholder p)) (not_b (has_row_count p)) h).0

-- what is so of each column of a plain predicate is so of each of one that has no other
pub carried_columns : (p q : Tree Place) → is_plain p ≡ true → HasNoOther p q → (P : Place → Type 0) → AllByRecursion P (columns_of p) → AllByRecursion P (columns_of q)
carried_columns p q plain other P all =
    let own = columns_of p in
    all_map (λ c. has_place c own ≡ true) P (columns_of q) (λ c h. placed_in P c own h all)
    (each_column (λ c. has_place c own) q (other (λ c. has_place c own) (plain_columns (λ c. has_place c own) p (no_placeholder p plain) (all_placed own))))

-- a test that passes where another does
pub weaker : (test other : Place → Bool) → ((c : Place) → test c ≡ true → other c ≡ true) → (p : Tree Place) → all_columns test p ≡ true → all_columns other p ≡ true
weaker test other f (column c) h = f c h
weaker test other f (literal c) h = refl
weaker test other f (binary o l r) h =
    let k = and_parts (all_columns test l) (all_columns test r) h in
    both_hold _ _ (weaker test other f l k.0) (weaker test other f r k.1)
weaker test other f (between o x l u) h =
    let k = and_parts (all_columns test x) (all_columns test l && all_columns test u) h in
    let j = and_parts (all_columns test l) (all_columns test u) k.1 in
    both_hold _ _ (weaker test other f x k.0) (both_hold _ _ (weaker test other f l j.0) (weaker test other f u j.1))
weaker test other f (is_null x) h = weaker test other f x h
weaker test other f (is_not_null x) h = weaker test other f x h
weaker test other f (not x) h = weaker test other f x h
weaker test other f (like o x q) h =
    let k = and_parts (all_columns test x) (all_columns test q) h in
    both_hold _ _ (weaker test other f x k.0) (weaker test other f q k.1)
weaker test other f (stat g x) h = weaker test other f x h
weaker test other f row_count h = refl
