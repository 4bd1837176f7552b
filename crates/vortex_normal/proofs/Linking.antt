-- What follows from comparisons of columns is true where they are.
use Rattle.std.proofs.Common.{◌≡◌, ℕ, zero, suc, Bool, true, false, not as not_b, ◌&&◌, List, [], ◌∷◌, ◌++◌, Option, Some, None, IsOk, filter_map, take, refl, sym, ap, ◌∙◌, subst, if◌then◌else◌}
use Rattle.std.specs.List.{AllByRecursion, cons_option}
use Rattle.std.proofs.lemmas.Option.{same_Some, none-some}
use Rattle.vortex_base.specs.Data.Scalars.{Constant}
use Rattle.vortex_base.specs.Data.Values.{value_cmp}
use Rattle.vortex_base.specs.declared.scalar_value.ScalarValue.{ScalarValue}
use Rattle.vortex_expr.specs.Meanings.Meaning.{both, compared, holds, is_true, meaning, satisfies, truth_value}
use Rattle.vortex_expr.specs.Meanings.Typing.{type_of}
use Rattle.vortex_expr.specs.Trees.Between.{to_operator}
use Rattle.vortex_expr.specs.Trees.Tree.{Tree, Place, column, literal, binary, between}
use Rattle.vortex_expr.specs.Trees.TreeEq.{tree_eq, tree_eq_is_exact}
use Rattle.vortex_expr.specs.declared.scalar_fn.BetweenOptions.{BetweenOptions}
use Rattle.vortex_expr.specs.declared.scalar_fn.Operator.{Operator}
use Rattle.vortex_expr.specs.declared.scalar_fn.Operator.TheVariants.{Eq, NotEq, Gt, Gte, Lt, Lte, And, Or}
use Rattle.vortex_expr.specs.declared.scalar_fn.StrictComparison.{StrictComparison}
use Rattle.vortex_expr.specs.declared.scalar_fn.StrictComparison.TheVariants.{Strict, NonStrict}
use Rattle.vortex_rewrite.proofs.Completeness.Decided.{comparison_applied}
use Rattle.vortex_rewrite.proofs.Completeness.Interval.{is_comparison}
use Rattle.vortex_rewrite.proofs.Soundness.TruthLogic.{clash, refuted}
use Rattle.vortex_rewrite.proofs.Soundness.ValueTests.{eq_le, gt_le, gte_le, holds_by_le, le_antisym, le_total, le_trans, lt_le, value_le}
use Rattle.vortex_rewrite.proofs.Rewriting.ProofTypes.{alike_compare, are_alike, binary_is_predicate}
use Rattle.vortex_rewrite.specs.Rewriting.Predicates.{is_connective, is_predicate}
use Rattle.vortex_normal.specs.Intervals.{swapped}
use Rattle.vortex_normal.specs.Links.{Link, bound_linked, bound_links, chained, chained_test, column_links, columns_linked, comparison_only, consequence, consequences, crossed_links, link, paired_links}
use Rattle.vortex_normal.specs.Pushed.{is_reflexive}
use Rattle.vortex_normal.proofs.Grouped.{compared_swapped}
use Rattle.vortex_normal.proofs.GroupsKept.{IsPassedDown}
use Rattle.vortex_normal.proofs.Kept.{IsInherited}
use Rattle.vortex_normal.proofs.Steps.{typed}

-- ---- the order of values

less_le : (x y z : ScalarValue) → value_le y x ≡ false → value_le y z ≡ true → value_le z x ≡ false
less_le x y z h k = refuted (value_le z x) (λ e. clash (le_trans y z x k e) h)

le_less : (x y z : ScalarValue) → value_le x y ≡ true → value_le z y ≡ false → value_le z x ≡ false
le_less x y z h k = refuted (value_le z x) (λ e. clash (le_trans z x y e h) k)

only_is : (o q : Operator) → comparison_only o ≡ Some q → o ≡ q
only_is Eq q h = same_Some _ _ h
only_is NotEq q h = same_Some _ _ h
only_is Gt q h = same_Some _ _ h
only_is Gte q h = same_Some _ _ h
only_is Lt q h = same_Some _ _ h
only_is Lte q h = same_Some _ _ h
only_is And q h = absurd (none-some q h)
only_is Or q h = absurd (none-some q h)

only_compares : (o q : Operator) → comparison_only o ≡ Some q → is_comparison o ≡ true
only_compares Eq q h = refl
only_compares NotEq q h = refl
only_compares Gt q h = refl
only_compares Gte q h = refl
only_compares Lt q h = refl
only_compares Lte q h = refl
only_compares And q h = absurd (none-some q h)
only_compares Or q h = absurd (none-some q h)

abbrev Holds : Operator → (x y : ScalarValue) → Type 0
Holds o x y = holds o (value_cmp x y) ≡ true

equal : (x y : ScalarValue) → Holds Eq x y → x ≡ y
equal x y h = let k = eq_le x y h in le_antisym x y k.0 k.1

lte_le : (x y : ScalarValue) → Holds Lte x y → value_le x y ≡ true
lte_le x y h = sym (holds_by_le Lte x y) ∙ h

is_less : (x y : ScalarValue) → value_le y x ≡ false → Holds Lt x y
is_less x y h = holds_by_le Lt x y ∙ ap not_b h

is_at_most : (x y : ScalarValue) → value_le x y ≡ true → Holds Lte x y
is_at_most x y h = holds_by_le Lte x y ∙ h

is_greater : (x y : ScalarValue) → value_le x y ≡ false → Holds Gt x y
is_greater x y h = holds_by_le Gt x y ∙ ap not_b h

is_at_least : (x y : ScalarValue) → value_le y x ≡ true → Holds Gte x y
is_at_least x y h = holds_by_le Gte x y ∙ h

-- behind an equality the comparison stays as it is
with_equal : (o q : Operator) (x y z : ScalarValue) → Some o ≡ Some q → Holds o x y → Holds Eq y z → Holds q x z
with_equal o q x y z is h k = subst (λ (p : Operator). Holds p x z) (same_Some _ _ is) (subst (λ (v : ScalarValue). Holds o x v) (equal y z k) h)

as_chained : (o q : Operator) (x z : ScalarValue) → Some o ≡ Some q → Holds o x z → Holds q x z
as_chained o q x z is h = subst (λ (p : Operator). Holds p x z) (same_Some _ _ is) h

chained_holds : (o p q : Operator) (x y z : ScalarValue) → chained o p ≡ Some q → Holds o x y → Holds p y z → Holds q x z
chained_holds Eq p q x y z is h k = subst (λ (v : ScalarValue). Holds q v z) (sym (equal x y h)) (subst (λ (r : Operator). Holds r y z) (only_is p q is) k)
chained_holds Lt Eq q x y z is h k = with_equal Lt q x y z is h k
chained_holds Lt Lt q x y z is h k = as_chained Lt q x z is (is_less x z (less_le x y z (lt_le x y h) (le_total z y (lt_le y z k))))
chained_holds Lt Lte q x y z is h k = as_chained Lt q x z is (is_less x z (less_le x y z (lt_le x y h) (lte_le y z k)))
chained_holds Lte Eq q x y z is h k = with_equal Lte q x y z is h k
chained_holds Lte Lt q x y z is h k = as_chained Lt q x z is (is_less x z (le_less x y z (lte_le x y h) (lt_le y z k)))
chained_holds Lte Lte q x y z is h k = as_chained Lte q x z is (is_at_most x z (le_trans x y z (lte_le x y h) (lte_le y z k)))
chained_holds Gt Eq q x y z is h k = with_equal Gt q x y z is h k
chained_holds Gt Gt q x y z is h k = as_chained Gt q x z is (is_greater x z (le_less z y x (le_total y z (gt_le y z k)) (gt_le x y h)))
chained_holds Gt Gte q x y z is h k = as_chained Gt q x z is (is_greater x z (le_less z y x (gte_le y z k) (gt_le x y h)))
chained_holds Gte Eq q x y z is h k = with_equal Gte q x y z is h k
chained_holds Gte Gt q x y z is h k = as_chained Gt q x z is (is_greater x z (less_le z y x (gt_le y z k) (gte_le x y h)))
chained_holds Gte Gte q x y z is h k = as_chained Gte q x z is (is_at_least x z (le_trans z y x (gte_le y z k) (gte_le x y h)))
chained_holds o p q x y z is h k = absurd (none-some q is)

-- all three are comparisons
pub record AreComparisons (o p q : Operator) : Type 0 where
  pub first : is_comparison o ≡ true
  pub second : is_comparison p ≡ true
  pub third : is_comparison q ≡ true

are_three : (o p r q : Operator) → is_comparison o ≡ true → is_comparison p ≡ true → is_comparison r ≡ true → Some r ≡ Some q → AreComparisons o p q
are_three o p r q f g h is = record { first = f; second = g; third = ap is_comparison (sym (same_Some _ _ is)) ∙ h }

pub chained_compares : (o p q : Operator) → chained o p ≡ Some q → AreComparisons o p q
chained_compares Eq p q is = let k = only_compares p q is in record { first = refl; second = k; third = ap is_comparison (sym (only_is p q is)) ∙ k }
chained_compares Lt Eq q is = are_three Lt Eq Lt q refl refl refl is
chained_compares Lt Lt q is = are_three Lt Lt Lt q refl refl refl is
chained_compares Lt Lte q is = are_three Lt Lte Lt q refl refl refl is
chained_compares Lte Eq q is = are_three Lte Eq Lte q refl refl refl is
chained_compares Lte Lt q is = are_three Lte Lt Lt q refl refl refl is
chained_compares Lte Lte q is = are_three Lte Lte Lte q refl refl refl is
chained_compares Gt Eq q is = are_three Gt Eq Gt q refl refl refl is
chained_compares Gt Gt q is = are_three Gt Gt Gt q refl refl refl is
chained_compares Gt Gte q is = are_three Gt Gte Gt q refl refl refl is
chained_compares Gte Eq q is = are_three Gte Eq Gte q refl refl refl is
chained_compares Gte Gt q is = are_three Gte Gt Gt q refl refl refl is
chained_compares Gte Gte q is = are_three Gte Gte Gte q refl refl refl is
chained_compares o p q is = absurd (none-some q is)

abbrev Compares : Operator → (a b : Option ScalarValue) → Type 0
Compares o a b = is_true (truth_value (compared o a b)) ≡ true

chained_values : (o p q : Operator) (a b c : Option ScalarValue) → chained o p ≡ Some q → Compares o a b → Compares p b c → Compares q a c
chained_values o p q (Some x) (Some y) (Some z) is h k = chained_holds o p q x y z is h k
chained_values o p q (Some x) (Some y) None is h k = absurd cc
chained_values o p q (Some x) None c is h k = absurd cc
chained_values o p q None b c is h k = absurd cc

both_true_right : (a b : Option Bool) → is_true (truth_value (both a b)) ≡ true → is_true (truth_value b) ≡ true
both_true_right (Some true) b h = h
both_true_right (Some false) b h = absurd cc
both_true_right None (Some true) h = absurd cc
both_true_right None (Some false) h = absurd cc
both_true_right None None h = absurd cc

both_true_left : (a b : Option Bool) → is_true (truth_value (both a b)) ≡ true → is_true (truth_value a) ≡ true
both_true_left (Some true) b h = refl
both_true_left (Some false) b h = h
both_true_left None (Some true) h = h
both_true_left None (Some false) h = h
both_true_left None None h = h

end_compares : (s : StrictComparison) → is_comparison (to_operator s) ≡ true
end_compares Strict = refl
end_compares NonStrict = refl

-- ---- all of some links

all_joined : (Q : Link → Type 0) (ks ms : List Link) → AllByRecursion Q ks → AllByRecursion Q ms → AllByRecursion Q (ks ++ ms)
all_joined Q [] ms h k = k
all_joined Q (l ∷ ks) ms h k = (h.0, all_joined Q ks ms h.1 k)

all_first : {X : Type 0} (Q : X → Type 0) (n : ℕ) (xs : List X) → AllByRecursion Q xs → AllByRecursion Q (take n xs)
all_first Q zero xs h = tt
all_first Q (suc n) [] h = tt
all_first Q (suc n) (x ∷ xs) h = (h.0, all_first Q n xs h.1)

tests_joined : (P : Tree Place → Type 0) (es fs : List (Tree Place)) → AllByRecursion P es → AllByRecursion P fs → AllByRecursion P (es ++ fs)
tests_joined P [] fs h k = k
tests_joined P (e ∷ es) fs h k = (h.0, tests_joined P es fs h.1 k)

if_some : (b : Bool) (e t : Tree Place) → (if b then Some e else None) ≡ Some t → e ≡ t
if_some true e t h = same_Some _ _ h
if_some false e t h = absurd (none-some t h)

if_there : (b : Bool) (o : Option (Tree Place)) (t : Tree Place) → (if b then o else None) ≡ Some t → (b ≡ true) × (o ≡ Some t)
if_there true o t h = (refl, h)
if_there false o t h = absurd (none-some t h)

-- the parts of what follows from two links
pub record IsChained (k m : Link) (t : Tree Place) : Type 0 where
  pub operator : Operator
  pub chained_is : chained k.operator m.operator ≡ Some operator
  pub meets : k.right ≡ m.left
  pub test_is : binary operator k.left m.right ≡ t

test_chained : (k m : Link) (o : Option Operator) (t : Tree Place) → chained k.operator m.operator ≡ o → k.right ≡ m.left → chained_test o k.left m.right ≡ Some t → IsChained k m t
test_chained k m None t is meets h = absurd (none-some t h)
test_chained k m (Some o) t is meets h = record {
  operator = o;
  chained_is = is;
  meets = meets;
  test_is = if_some (is_predicate (binary Eq k.left m.right) && not_b (tree_eq k.left m.right && is_reflexive o)) (binary o k.left m.right) t h;
}

pub is_chained : (k m : Link) (t : Tree Place) → consequence k m ≡ Some t → IsChained k m t
is_chained k m t h =
    let w = if_there (tree_eq k.right m.left) (chained_test (chained k.operator m.operator) k.left m.right) t h in
    test_chained k m (chained k.operator m.operator) t refl ((tree_eq_is_exact k.right m.left).0 w.0) w.1

module _ (P : Tree Place → Type 0) (Q : Link → Type 0) (f : (k m : Link) (t : Tree Place) → Q k → Q m → consequence k m ≡ Some t → P t) where
  cons_all : (o : Option (Tree Place)) (es : List (Tree Place)) → ((t : Tree Place) → o ≡ Some t → P t) → AllByRecursion P es → AllByRecursion P (cons_option o es)
  cons_all None es g h = h
  cons_all (Some t) es g h = (g t refl, h)

  each_follows : (k : Link) (ms : List Link) → Q k → AllByRecursion Q ms → AllByRecursion P (filter_map (consequence k) ms)
  each_follows k [] h j = tt
  each_follows k (m ∷ ms) h j = cons_all (consequence k m) (filter_map (consequence k) ms) (λ t is. f k m t h j.0 is) (each_follows k ms h j.1)

  paired_follow : (ks : List Link) → AllByRecursion Q ks → AllByRecursion P (paired_links ks)
  paired_follow [] h = tt
  paired_follow (k ∷ ks) h = tests_joined P (filter_map (consequence k) ks) (paired_links ks) (each_follows k ks h.0 h.1) (paired_follow ks h.1)

  crossed_follow : (ks bs : List Link) → AllByRecursion Q ks → AllByRecursion Q bs → AllByRecursion P (crossed_links ks bs)
  crossed_follow [] bs h j = tt
  crossed_follow (k ∷ ks) bs h j = tests_joined P (filter_map (consequence k) bs) (crossed_links ks bs) (each_follows k bs h.0 j) (crossed_follow ks bs h.1 j)

  -- what two links that have Q entail, the consequences of a predicate have
  pub consequences_have : (e : Tree Place) → AllByRecursion Q (column_links e) → AllByRecursion Q (bound_links e) → AllByRecursion P (consequences e)
  consequences_have e h j =
      let ks = take 16 (column_links e) in
      let bs = take 32 (bound_links e) in
      let all = all_first Q 16 (column_links e) h in
      all_first P 32 (paired_links ks ++ crossed_links ks bs)
      (tests_joined P (paired_links ks) (crossed_links ks bs) (paired_follow ks all) (crossed_follow ks bs all (all_first Q 32 (bound_links e) j)))

-- ---- links of a predicate that is true are true

module _ (row : List Constant) (n : ℕ) where
  abbrev value : Tree Place → Option ScalarValue
  value x = meaning x row n

  abbrev pub IsTrueLink : Link → Type 0
  IsTrueLink k = is_true (truth_value (compared k.operator (value k.left) (value k.right))) ≡ true

  consequence_true : (k m : Link) (t : Tree Place) → IsTrueLink k → IsTrueLink m → consequence k m ≡ Some t → satisfies t row n ≡ true
  consequence_true k m t h j is =
      let c = is_chained k m t is in
      let three = chained_compares k.operator m.operator c.operator c.chained_is in
      subst (λ (e : Tree Place). satisfies e row n ≡ true) c.test_is
      (ap (λ b. is_true (truth_value b)) (comparison_applied c.operator (value k.left) (value m.right) three.third)
      ∙ chained_values k.operator m.operator c.operator (value k.left) (value k.right) (value m.right) c.chained_is h
      (subst (λ (x : Tree Place). is_true (truth_value (compared m.operator (value x) (value m.right))) ≡ true) (sym c.meets) j))

  compared_true : (o : Operator) (l r : Tree Place) → is_comparison o ≡ true → satisfies (binary o l r) row n ≡ true → IsTrueLink (link l o r)
  compared_true o l r c h = ap (λ b. is_true (truth_value b)) (sym (comparison_applied o (value l) (value r) c)) ∙ h

  turned_true : (o : Operator) (l r : Tree Place) → IsTrueLink (link l o r) → IsTrueLink (link r (swapped o) l)
  turned_true o l r h = sym (compared_swapped o (value l) (value r)) ∙ h

  columns_true : (o : Operator) (l r : Tree Place) → IsTrueLink (link l o r) → AllByRecursion IsTrueLink (columns_linked o l r)
  columns_true o (column c) (column d) h = (h, (turned_true o (column c) (column d) h, tt))
  columns_true o l r h = tt

  bound_true : (o : Operator) (l r : Tree Place) → IsTrueLink (link l o r) → AllByRecursion IsTrueLink (bound_linked o l r)
  bound_true o (column c) (literal d) h = (h, tt)
  bound_true o (literal d) (column c) h = (turned_true o (literal d) (column c) h, tt)
  bound_true o l r h = tt

  module _ (sides : (l r : Tree Place) → satisfies (binary And l r) row n ≡ true → (satisfies l row n ≡ true) × (satisfies r row n ≡ true)) where
    column_links_true : (e : Tree Place) → satisfies e row n ≡ true → AllByRecursion IsTrueLink (column_links e)
    column_links_true (binary And l r) h = let p = sides l r h in all_joined IsTrueLink (column_links l) (column_links r) (column_links_true l p.0) (column_links_true r p.1)
    column_links_true (binary Or l r) h = tt
    column_links_true (binary Eq l r) h = columns_true Eq l r (compared_true Eq l r refl h)
    column_links_true (binary NotEq l r) h = columns_true NotEq l r (compared_true NotEq l r refl h)
    column_links_true (binary Gt l r) h = columns_true Gt l r (compared_true Gt l r refl h)
    column_links_true (binary Gte l r) h = columns_true Gte l r (compared_true Gte l r refl h)
    column_links_true (binary Lt l r) h = columns_true Lt l r (compared_true Lt l r refl h)
    column_links_true (binary Lte l r) h = columns_true Lte l r (compared_true Lte l r refl h)
    column_links_true e h = tt

    range_true : (o : BetweenOptions) (x l u : Tree Place) → satisfies (between o x l u) row n ≡ true → AllByRecursion IsTrueLink (bound_linked (to_operator o.lower_strict) l x ++ bound_linked (to_operator o.upper_strict) x u)
    range_true o x l u h =
        let low = compared (to_operator o.lower_strict) (value l) (value x) in
        let high = compared (to_operator o.upper_strict) (value x) (value u) in
        all_joined IsTrueLink (bound_linked (to_operator o.lower_strict) l x) (bound_linked (to_operator o.upper_strict) x u)
        (bound_true (to_operator o.lower_strict) l x (both_true_left low high h))
        (bound_true (to_operator o.upper_strict) x u (both_true_right low high h))

    bound_links_true : (e : Tree Place) → satisfies e row n ≡ true → AllByRecursion IsTrueLink (bound_links e)
    bound_links_true (binary And l r) h = let p = sides l r h in all_joined IsTrueLink (bound_links l) (bound_links r) (bound_links_true l p.0) (bound_links_true r p.1)
    bound_links_true (binary Or l r) h = tt
    bound_links_true (binary Eq l r) h = bound_true Eq l r (compared_true Eq l r refl h)
    bound_links_true (binary NotEq l r) h = bound_true NotEq l r (compared_true NotEq l r refl h)
    bound_links_true (binary Gt l r) h = bound_true Gt l r (compared_true Gt l r refl h)
    bound_links_true (binary Gte l r) h = bound_true Gte l r (compared_true Gte l r refl h)
    bound_links_true (binary Lt l r) h = bound_true Lt l r (compared_true Lt l r refl h)
    bound_links_true (binary Lte l r) h = bound_true Lte l r (compared_true Lte l r refl h)
    bound_links_true (between o x l u) h = range_true o x l u h
    bound_links_true e h = tt

    pub consequences_true : (e : Tree Place) → satisfies e row n ≡ true → AllByRecursion (λ t. satisfies t row n ≡ true) (consequences e)
    consequences_true e h = consequences_have (λ t. satisfies t row n ≡ true) IsTrueLink consequence_true e (column_links_true e h) (bound_links_true e h)

-- ---- what follows is a predicate, over no other column

is_connective_not : (o : Operator) → is_comparison o ≡ true → is_connective o ≡ false
is_connective_not Eq h = refl
is_connective_not NotEq h = refl
is_connective_not Gt h = refl
is_connective_not Gte h = refl
is_connective_not Lt h = refl
is_connective_not Lte h = refl
is_connective_not And h = cc
is_connective_not Or h = cc

-- a chained comparison is none of AND and OR
pub chained_unconnected : (o p q : Operator) → chained o p ≡ Some q → is_connective q ≡ false
chained_unconnected o p q is = is_connective_not q (chained_compares o p q is).third

-- operands that can be compared, compared so
pub compares_as : (o : Operator) (x z : Tree Place) → is_connective o ≡ false → is_predicate (binary Eq x z) ≡ true → IsOk (type_of (binary o x z))
compares_as o x z c h = alike_compare o x z c (are_alike x z (typed (binary Eq x z) h))

guarded : (a b : Bool) (e t : Tree Place) → (if a && b then Some e else None) ≡ Some t → (a ≡ true) × (e ≡ t)
guarded true true e t h = (refl, same_Some _ _ h)
guarded true false e t h = absurd (none-some t h)
guarded false b e t h = absurd (none-some t h)

test_is_predicate : (o p : Operator) (r : Option Operator) (x z t : Tree Place) → chained o p ≡ r → chained_test r x z ≡ Some t → is_predicate t ≡ true
test_is_predicate o p None x z t is h = absurd (none-some t h)
test_is_predicate o p (Some q) x z t is h =
    let w = guarded (is_predicate (binary Eq x z)) (not_b (tree_eq x z && is_reflexive q)) (binary q x z) t h in
    subst (λ (e : Tree Place). is_predicate e ≡ true) w.1 (binary_is_predicate q x z (compares_as q x z (chained_unconnected o p q is) w.0))

consequence_is : (k m : Link) (t : Tree Place) → Unit {0} → Unit {0} → consequence k m ≡ Some t → is_predicate t ≡ true
consequence_is k m t h j is =
    test_is_predicate k.operator m.operator (chained k.operator m.operator) k.left m.right t refl (if_there (tree_eq k.right m.left) (chained_test (chained k.operator m.operator) k.left m.right) t is).1

no_more : (ks : List Link) → AllByRecursion (λ _. Unit {0}) ks
no_more [] = tt
no_more (k ∷ ks) = (tt, no_more ks)

pub consequences_are_predicates : (e : Tree Place) → AllByRecursion (λ t. is_predicate t ≡ true) (consequences e)
consequences_are_predicates e = consequences_have (λ t. is_predicate t ≡ true) (λ _. Unit {0}) consequence_is e (no_more (column_links e)) (no_more (bound_links e))

module _ (P : Tree Place → Type 0) (i : IsInherited P) (d : IsPassedDown P) where
  abbrev HasSides : Link → Type 0
  HasSides k = P k.left × P k.right

  consequence_kept : (k m : Link) (t : Tree Place) → HasSides k → HasSides m → consequence k m ≡ Some t → P t
  consequence_kept k m t h j is =
      let c = is_chained k m t is in
      subst P c.test_is (i.of_binary c.operator k.left m.right h.0 j.1)

  columns_kept : (o : Operator) (l r : Tree Place) → P l × P r → AllByRecursion HasSides (columns_linked o l r)
  columns_kept o (column c) (column v) h = ((h.0, h.1), ((h.1, h.0), tt))
  columns_kept o l r h = tt

  bound_kept : (o : Operator) (l r : Tree Place) → P l × P r → AllByRecursion HasSides (bound_linked o l r)
  bound_kept o (column c) (literal v) h = ((h.0, h.1), tt)
  bound_kept o (literal v) (column c) h = ((h.1, h.0), tt)
  bound_kept o l r h = tt

  column_links_kept : (e : Tree Place) → P e → AllByRecursion HasSides (column_links e)
  column_links_kept (binary And l r) h = let p = d.of_sides And l r h in all_joined HasSides (column_links l) (column_links r) (column_links_kept l p.0) (column_links_kept r p.1)
  column_links_kept (binary Or l r) h = tt
  column_links_kept (binary Eq l r) h = columns_kept Eq l r (d.of_sides Eq l r h)
  column_links_kept (binary NotEq l r) h = columns_kept NotEq l r (d.of_sides NotEq l r h)
  column_links_kept (binary Gt l r) h = columns_kept Gt l r (d.of_sides Gt l r h)
  column_links_kept (binary Gte l r) h = columns_kept Gte l r (d.of_sides Gte l r h)
  column_links_kept (binary Lt l r) h = columns_kept Lt l r (d.of_sides Lt l r h)
  column_links_kept (binary Lte l r) h = columns_kept Lte l r (d.of_sides Lte l r h)
  column_links_kept e h = tt

  bound_links_kept : (e : Tree Place) → P e → AllByRecursion HasSides (bound_links e)
  bound_links_kept (binary And l r) h = let p = d.of_sides And l r h in all_joined HasSides (bound_links l) (bound_links r) (bound_links_kept l p.0) (bound_links_kept r p.1)
  bound_links_kept (binary Or l r) h = tt
  bound_links_kept (binary Eq l r) h = bound_kept Eq l r (d.of_sides Eq l r h)
  bound_links_kept (binary NotEq l r) h = bound_kept NotEq l r (d.of_sides NotEq l r h)
  bound_links_kept (binary Gt l r) h = bound_kept Gt l r (d.of_sides Gt l r h)
  bound_links_kept (binary Gte l r) h = bound_kept Gte l r (d.of_sides Gte l r h)
  bound_links_kept (binary Lt l r) h = bound_kept Lt l r (d.of_sides Lt l r h)
  bound_links_kept (binary Lte l r) h = bound_kept Lte l r (d.of_sides Lte l r h)
  bound_links_kept (between o x l u) h =
      let p = d.of_ranged o x l u h in
      all_joined HasSides (bound_linked (to_operator o.lower_strict) l x) (bound_linked (to_operator o.upper_strict) x u)
      (bound_kept (to_operator o.lower_strict) l x (p.1, p.0))
      (bound_kept (to_operator o.upper_strict) x u (p.0, p.2))
  bound_links_kept e h = tt

  pub consequences_kept : (e : Tree Place) → P e → AllByRecursion P (consequences e)
  consequences_kept e h = consequences_have P HasSides consequence_kept e (column_links_kept e h) (bound_links_kept e h)
