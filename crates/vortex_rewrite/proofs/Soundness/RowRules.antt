-- The proofs of comparisons, of tests of null and of literals, at one row where the answers of the placeholders are right.
use Rattle.std.proofs.Common.{◌≡◌, ℕ, Bool, true, false, not, ◌<◌, ⊎_elim, List, Option, Some, None, refl, sym, ap, ◌∙◌, subst, arith, option_to_list, if◌then◌else◌}
use Rattle.std.specs.Prelude.{⊤, is_none}
use Rattle.std.specs.List.{AllByRecursion}
use Rattle.std.specs.Result.{is_ok}
use Rattle.std.proofs.lemmas.Bool.{not-true, not-false, and_parts, or_cases, and_left}
use Rattle.std.proofs.lemmas.Option.{same_Some, none-some, cond_some}
use Rattle.vortex_expr.specs.Meanings.Meaning.{compared, is_true, meaning, satisfies, truth_value}
use Rattle.vortex_base.specs.Data.Scalars.{Constant}
use Rattle.vortex_expr.specs.Trees.Tree.{Tree, Place, literal, binary, stat, row_count}
use Rattle.vortex_expr.specs.Meanings.Typing.{type_of}
use Rattle.vortex_base.specs.Data.Values.{value_cmp}
use Rattle.vortex_base.specs.declared.aggregate.AggregateFnRef.{AggregateFnRef}
use Rattle.vortex_base.specs.declared.aggregate.AggregateFnRef.TheVariants.{Max, Min, NullCount, AllNull, AllNonNull}
use Rattle.vortex_expr.specs.declared.scalar_fn.Operator.{Operator}
use Rattle.vortex_expr.specs.declared.scalar_fn.Operator.TheVariants.{Eq, NotEq, Gt, Gte, Lt, Lte, And, Or}
use Rattle.vortex_base.specs.declared.scalar_value.ScalarValue.{ScalarValue}
use Rattle.vortex_base.specs.declared.scalar_value.ScalarValue.TheVariants as value
use Rattle.vortex_expr.specs.Meanings.Meaning.{holds}
use Rattle.vortex_stats.specs.Sets.Claims.{count_value}
use Rattle.vortex_rewrite.proofs.Soundness.TruthLogic.{Gives, both_some, clash, proves_value, refuted, true_and, true_or}
use Rattle.vortex_rewrite.proofs.Soundness.ValueTests.{value_le, le_refl, le_trans, le_antisym, holds_by_le, by_order, gt_le, gte_le, lt_le, eq_le}
use Rattle.vortex_rewrite.specs.Rewriting.Proof.{Assignment, value_under}
use Rattle.vortex_rewrite.specs.Rewriting.Falsifiers.{both_of, comparison_falsifier, count_literal, every_null, literal_falsifier, literal_satisfier, max_of, min_of, none_null, null_count_of, placeholder}
use Rattle.std.proofs.Math.Bool.{and_comm}

-- ---- bounds of an optional value

-- a value that is there is at most v, and at least v
abbrev pub IsNotAbove : ScalarValue → Option ScalarValue → Type 0
IsNotAbove v None = ⊤
IsNotAbove v (Some x) = value_le x v ≡ true

abbrev pub IsNotBelow : ScalarValue → Option ScalarValue → Type 0
IsNotBelow v None = ⊤
IsNotBelow v (Some x) = value_le v x ≡ true

-- an optional bound, where none bounds everything
abbrev pub Bounds : (ScalarValue → Option ScalarValue → Type 0) → Option ScalarValue → Option ScalarValue → Type 0
Bounds P None x = ⊤
Bounds P (Some a) x = P a x

-- the comparison is true
abbrev pub is : Operator → Option ScalarValue → Option ScalarValue → Bool
is op x y = is_true (truth_value (compared op x y))

-- what a comparison of two bounds says of the two optional values
lifted : (P Q : ScalarValue → Option ScalarValue → Type 0) (op op' : Operator)
    → ((a b x y : ScalarValue) → P a (Some x) → Q b (Some y) → holds op (value_cmp a b) ≡ true → holds op' (value_cmp x y) ≡ false)
    → (a b x y : Option ScalarValue) → Bounds P a x → Bounds Q b y → is op a b ≡ true → is op' x y ≡ false
lifted P Q op op' f (Some a) (Some b) (Some x) (Some y) p q h = f a b x y p q h
lifted P Q op op' f a b None y p q h = refl
lifted P Q op op' f a b (Some x) None p q h = refl
lifted P Q op op' f None b (Some x) (Some y) p q h = cc
lifted P Q op op' f (Some a) None (Some x) (Some y) p q h = cc

lower_self : (x : Option ScalarValue) → Bounds IsNotBelow x x
lower_self None = tt
lower_self (Some a) = le_refl a

upper_self : (x : Option ScalarValue) → Bounds IsNotAbove x x
upper_self None = tt
upper_self (Some a) = le_refl a

-- a lower bound of x is above an upper bound of y
not_lte : (a b x y : ScalarValue) → value_le a x ≡ true → value_le y b ≡ true → holds Gt (value_cmp a b) ≡ true → value_le x y ≡ false
not_lte a b x y l u h = refuted (value_le x y) (λ e. clash (le_trans a y b (le_trans a x y l e) u) (gt_le a b h))

gt_lte : (a b x y : Option ScalarValue) → Bounds IsNotBelow a x → Bounds IsNotAbove b y → is Gt a b ≡ true → is Lte x y ≡ false
gt_lte = lifted IsNotBelow IsNotAbove Gt Lte not_lte

gt_eq : (a b x y : Option ScalarValue) → Bounds IsNotBelow a x → Bounds IsNotAbove b y → is Gt a b ≡ true → is Eq x y ≡ false
gt_eq = lifted IsNotBelow IsNotAbove Gt Eq (λ a b x y l u h. holds_by_le Eq x y ∙ and_left (value_le x y) (value_le y x) (not_lte a b x y l u h))

gte_lt : (a b x y : Option ScalarValue) → Bounds IsNotBelow a x → Bounds IsNotAbove b y → is Gte a b ≡ true → is Lt x y ≡ false
gte_lt = lifted IsNotBelow IsNotAbove Gte Lt (λ a b x y l u h. holds_by_le Lt x y ∙ ap not (le_trans y b x u (le_trans b a x (gte_le a b h) l)))

lte_gt : (a b x y : Option ScalarValue) → Bounds IsNotAbove a x → Bounds IsNotBelow b y → is Lte a b ≡ true → is Gt x y ≡ false
lte_gt = lifted IsNotAbove IsNotBelow Lte Gt (λ a b x y u l h. holds_by_le Gt x y ∙ ap not (le_trans x a y u (le_trans a b y h l)))

lt_gte : (a b x y : Option ScalarValue) → Bounds IsNotAbove a x → Bounds IsNotBelow b y → is Lt a b ≡ true → is Gte x y ≡ false
lt_gte =
    lifted IsNotAbove IsNotBelow Lt Gte
    (λ a b x y u l h. holds_by_le Gte x y ∙ refuted (value_le y x) (λ e. clash (le_trans b x a (le_trans b y x l e) u) (lt_le a b h)))

-- x is at most y, and y at most x
eq_lte : (a b x y : Option ScalarValue) → Bounds IsNotAbove a x → Bounds IsNotBelow b y → is Eq a b ≡ true → is Gt x y ≡ false
eq_lte = lifted IsNotAbove IsNotBelow Eq Gt (λ a b x y u l h. holds_by_le Gt x y ∙ ap not (le_trans x a y u (le_trans a b y (eq_le a b h).0 l)))

eq_gte : (a b x y : Option ScalarValue) → Bounds IsNotBelow a x → Bounds IsNotAbove b y → is Eq a b ≡ true → is Lt x y ≡ false
eq_gte = lifted IsNotBelow IsNotAbove Eq Lt (λ a b x y l u h. holds_by_le Lt x y ∙ ap not (le_trans y b x u (le_trans b a x (eq_le a b h).1 l)))

not_ne : (x y : Option ScalarValue) → is Gt x y ≡ false → is Lt x y ≡ false → is NotEq x y ≡ false
not_ne None y h k = refl
not_ne (Some x) None h k = refl
not_ne (Some x) (Some y) h k =
    by_order NotEq x y true true (not-false (value_le x y) (sym (holds_by_le Gt x y) ∙ h)) (not-false (value_le y x) (sym (holds_by_le Lt x y) ∙ k))

eq_back : (x y : Option ScalarValue) → is Eq y x ≡ false → is Eq x y ≡ false
eq_back None y h = refl
eq_back (Some x) None h = refl
eq_back (Some x) (Some y) h = holds_by_le Eq x y ∙ and_comm (value_le x y) (value_le y x) ∙ sym (holds_by_le Eq y x) ∙ h

pub equal_some : (o : Option ScalarValue) (w : ScalarValue) → is Eq o (Some w) ≡ true → o ≡ Some w
equal_some None w h = cc
equal_some (Some v) w h = let k = eq_le v w h in ap Some (le_antisym v w k.0 k.1)

pub true_value : (o : Option ScalarValue) → is_true o ≡ true → o ≡ Some (value.Bool true)
true_value None h = cc
true_value (Some (value.Bool b)) h = ap (λ c. Some (value.Bool c)) h
true_value (Some (value.Primitive p)) h = cc
true_value (Some (value.Utf8 bs)) h = cc
true_value (Some (value.Binary bs)) h = cc

-- ---- one row

-- the answers are right of this row among n
pub record IsRight (A : Assignment) (row : List Constant) (n : ℕ) : Type 0 where
  pub max : (x : Tree Place) → Bounds IsNotAbove (A Max x) (meaning x row n)
  pub min : (x : Tree Place) → Bounds IsNotBelow (A Min x) (meaning x row n)
  pub no_null : (x : Tree Place) → A NullCount x ≡ Some (count_value 0) → is_none (meaning x row n) ≡ false
  pub all_nulls : (x : Tree Place) → A NullCount x ≡ Some (count_value n) → is_none (meaning x row n) ≡ true
  pub none_null : (x : Tree Place) → A AllNonNull x ≡ Some (value.Bool true) → is_none (meaning x row n) ≡ false
  pub every_null : (x : Tree Place) → A AllNull x ≡ Some (value.Bool true) → is_none (meaning x row n) ≡ true
  pub rows : 0 < n

module _ (A : Assignment) (row : List Constant) (n : ℕ) (right : IsRight A row n) where
  abbrev told : Tree Place → Option ScalarValue
  told e = value_under A n e

  placeholder_is : (f : AggregateFnRef) (x e : Tree Place) → placeholder f x ≡ Some e → told e ≡ A f x
  placeholder_is f x e h = sym (ap (value_under A n) (cond_some (is_ok (type_of (stat f x))) (stat f x) e h).1)

  pub lower : (x e : Tree Place) → min_of x ≡ Some e → Bounds IsNotBelow (told e) (meaning x row n)
  lower (literal c) e h = subst (λ d. Bounds IsNotBelow (value_under A n d) c.value) (same_Some _ _ h) (lower_self c.value)
  lower x e h = rw (placeholder_is Min x e h) (right.min x)

  pub upper : (x e : Tree Place) → max_of x ≡ Some e → Bounds IsNotAbove (told e) (meaning x row n)
  upper (literal c) e h = subst (λ d. Bounds IsNotAbove (value_under A n d) c.value) (same_Some _ _ h) (upper_self c.value)
  upper x e h = rw (placeholder_is Max x e h) (right.max x)

  -- a lower and an upper bound that are compared, and an upper and a lower one
  low_high : (op op' : Operator) (join : Tree Place → Tree Place → Tree Place) (x y e : Tree Place)
      → ((a b : Tree Place) → is_true (told (join a b)) ≡ is op (told a) (told b))
      → ((a b x y : Option ScalarValue) → Bounds IsNotBelow a x → Bounds IsNotAbove b y → is op a b ≡ true → is op' x y ≡ false)
      → both_of join (min_of x) (max_of y) ≡ Some e → is_true (told e) ≡ true → is op' (meaning x row n) (meaning y row n) ≡ false
  low_high op op' join x y e computes f h t =
      let b = both_some join (min_of x) (max_of y) e h in
      f (told b.left) (told b.right) (meaning x row n) (meaning y row n) (lower x b.left b.left_is) (upper y b.right b.right_is)
      (sym (computes b.left b.right) ∙ ap (λ d. is_true (told d)) b.is ∙ t)

  high_low : (op op' : Operator) (join : Tree Place → Tree Place → Tree Place) (x y e : Tree Place)
      → ((a b : Tree Place) → is_true (told (join a b)) ≡ is op (told a) (told b))
      → ((a b x y : Option ScalarValue) → Bounds IsNotAbove a x → Bounds IsNotBelow b y → is op a b ≡ true → is op' x y ≡ false)
      → both_of join (max_of x) (min_of y) ≡ Some e → is_true (told e) ≡ true → is op' (meaning x row n) (meaning y row n) ≡ false
  high_low op op' join x y e computes f h t =
      let b = both_some join (max_of x) (min_of y) e h in
      f (told b.left) (told b.right) (meaning x row n) (meaning y row n) (upper x b.left b.left_is) (lower y b.right b.right_is)
      (sym (computes b.left b.right) ∙ ap (λ d. is_true (told d)) b.is ∙ t)

  pub comparison_right : (op : Operator) (x y e : Tree Place) → comparison_falsifier op x y ≡ Some e → is_true (told e) ≡ true → satisfies (binary op x y) row n ≡ false
  comparison_right Lte x y e h t = low_high Gt Lte (binary Gt) x y e (λ a b. refl) gt_lte h t
  comparison_right Lt x y e h t = low_high Gte Lt (binary Gte) x y e (λ a b. refl) gte_lt h t
  comparison_right Gte x y e h t = high_low Lt Gte (binary Lt) x y e (λ a b. refl) lt_gte h t
  comparison_right Gt x y e h t = high_low Lte Gt (binary Lte) x y e (λ a b. refl) lte_gt h t
  comparison_right Eq x y e h t =
      let o = both_some (binary Or) (both_of (binary Gt) (min_of x) (max_of y)) (both_of (binary Gt) (min_of y) (max_of x)) e h in
      ⊎_elim
      (λ k. low_high Gt Eq (binary Gt) x y o.left (λ a b. refl) gt_eq o.left_is k)
      (λ k. eq_back (meaning x row n) (meaning y row n) (low_high Gt Eq (binary Gt) y x o.right (λ a b. refl) gt_eq o.right_is k))
      (or_cases (is_true (told o.left)) (is_true (told o.right)) (sym (true_or (told o.left) (told o.right)) ∙ ap (λ d. is_true (told d)) o.is ∙ t))
  comparison_right NotEq x y e h t =
      let o = both_some (binary And) (both_of (binary Eq) (min_of x) (max_of y)) (both_of (binary Eq) (max_of x) (min_of y)) e h in
      let k = and_parts (is_true (told o.left)) (is_true (told o.right)) (sym (true_and (told o.left) (told o.right)) ∙ ap (λ d. is_true (told d)) o.is ∙ t) in
      not_ne (meaning x row n) (meaning y row n)
      (high_low Eq Gt (binary Eq) x y o.right (λ a b. refl) eq_lte o.right_is k.1)
      (low_high Eq Lt (binary Eq) x y o.left (λ a b. refl) eq_gte o.left_is k.0)
  comparison_right And x y e h t = absurd (none-some e h)
  comparison_right Or x y e h t = absurd (none-some e h)

  -- ---- nulls and literals

  literal_no_null : (v : Option ScalarValue) → is Eq (Some (count_value (if is_none v then 1 else 0))) (Some (count_value 0)) ≡ true → is_none v ≡ false
  literal_no_null None h = cc
  literal_no_null (Some v) h = refl

  pub no_nulls : (x : Tree Place) → is Eq (told (null_count_of x)) (Some (count_value 0)) ≡ true → is_none (meaning x row n) ≡ false
  no_nulls (literal c) h = literal_no_null c.value h
  no_nulls x h = right.no_null x (equal_some (A NullCount x) (count_value 0) h)

  not_zero : (m : ℕ) → 0 < m → Some (count_value 0) ≡ Some (count_value m) → ⊥
  not_zero m l e = let k : 0 ≡ m = cc in omega arith

  literal_only_null : (v : Option ScalarValue) → is Eq (Some (count_value (if is_none v then 1 else 0))) (Some (count_value n)) ≡ true → is_none v ≡ true
  literal_only_null None h = refl
  literal_only_null (Some v) h = absurd (not_zero n right.rows (equal_some (Some (count_value 0)) (count_value n) h))

  pub only_nulls : (x : Tree Place) → is Eq (told (null_count_of x)) (Some (count_value n)) ≡ true → is_none (meaning x row n) ≡ true
  only_nulls (literal c) h = literal_only_null c.value h
  only_nulls x h = right.all_nulls x (equal_some (A NullCount x) (count_value n) h)

  -- each proof that no row is null is right, and each that every row is
  pub none_null_right : (G : Type 0) (x : Tree Place) → (is_none (meaning x row n) ≡ false → G) → AllByRecursion (Gives A n G) (none_null x)
  none_null_right G x f = (
    λ t. f (no_nulls x (proves_value (binary Eq (null_count_of x) (count_literal 0)) A n t)),
    (λ t. f (right.none_null x (true_value (A AllNonNull x) (proves_value (stat AllNonNull x) A n t))), tt),
  )

  pub every_null_right : (G : Type 0) (x : Tree Place) → (is_none (meaning x row n) ≡ true → G) → AllByRecursion (Gives A n G) (every_null x)
  every_null_right G x f = (
    λ t. f (only_nulls x (proves_value (binary Eq (null_count_of x) row_count) A n t)),
    (λ t. f (right.every_null x (true_value (A AllNull x) (proves_value (stat AllNull x) A n t))), tt),
  )

-- a true proof of a literal tells what it is
module _ (A : Assignment) (n : ℕ) where
  pub literal_false : (v : Option ScalarValue) → AllByRecursion (Gives A n (is_true v ≡ false)) (option_to_list (literal_falsifier v))
  literal_false None = tt
  literal_false (Some (value.Bool b)) = (λ h. not-true b h, tt)
  literal_false (Some (value.Primitive p)) = tt
  literal_false (Some (value.Utf8 bs)) = tt
  literal_false (Some (value.Binary bs)) = tt

  pub literal_true : (v : Option ScalarValue) → AllByRecursion (Gives A n (is_true v ≡ true)) (option_to_list (literal_satisfier v))
  literal_true None = tt
  literal_true (Some (value.Bool b)) = (λ h. h, tt)
  literal_true (Some (value.Primitive p)) = tt
  literal_true (Some (value.Utf8 bs)) = tt
  literal_true (Some (value.Binary bs)) = tt
