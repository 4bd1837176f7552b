-- A tested predicate, and a strict one, has no column and no placeholder that it had not.
use Rattle.std.proofs.Common.{◌≡◌, ℕ, zero, suc, Bool, true, false, not as not_b, Option, Some, None, ap, refl, subst}
use Rattle.std.proofs.lemmas.Bool.{and_parts, not-true}
use Rattle.std.proofs.lemmas.Option.{same_Some, none-some}
use Rattle.vortex_base.specs.Data.Exact.{both_hold}
use Rattle.vortex_expr.specs.Trees.Between.{to_operator}
use Rattle.vortex_expr.specs.Trees.Tree.{Tree, Place, column, literal, binary, between, is_null, is_not_null, not, like, stat, row_count, some_node, has_placeholder, has_row_count, is_placeholder, is_row_count}
use Rattle.vortex_expr.specs.declared.scalar_fn.BetweenOptions.{BetweenOptions}
use Rattle.vortex_expr.specs.declared.scalar_fn.Operator.{Operator}
use Rattle.vortex_expr.specs.declared.scalar_fn.Operator.TheVariants.{Eq, NotEq, Gt, Gte, Lt, Lte, And, Or}
use Rattle.vortex_normal.specs.Intervals.{swapped}
use Rattle.vortex_normal.specs.Pushed.{or_not}
use Rattle.vortex_normal.specs.Same.{HasNoOther, StaysPlain}
use Rattle.vortex_normal.specs.LeafColumns.{column_beside, range_column}
use Rattle.vortex_normal.specs.Strict.{agreed, body, both_valued, rests_on, sides_valued, strict, valued}
use Rattle.vortex_normal.specs.Tested.{between_tested, comparison_tested, is_inner, joined, null_tested, operand_or, operands_tested, or_null, tested, value_test, wanted_beside, whole_tested}
use Rattle.vortex_normal.proofs.Forms.{if_as}
use Rattle.vortex_normal.proofs.GroupsKept.{IsPassedDown, columns_down, nodes_down}
use Rattle.vortex_normal.proofs.Kept.{Holds, IsInherited, IsOfLeaves, Lacks, columns_inherited, nodes_inherited, placeholders, row_counts}
use Rattle.vortex_normal.proofs.StrictTold.{agreed_both}
use Rattle.vortex_normal.proofs.TestedTold.{operand_or_as}

module _ (P : Tree Place → Type 0) (i : IsInherited P) (d : IsPassedDown P) where
  -- ---- tests

  or_not_kept : (w : Bool) (e : Tree Place) → P e → P (or_not w e)
  or_not_kept true e h = h
  or_not_kept false e h = i.of_not e h

  or_null_kept : (m : Bool) (null e : Tree Place) → P null → P e → P (or_null m null e)
  or_null_kept true null e h k = i.of_binary Or null e h k
  or_null_kept false null e h k = k

  joined_kept : (v : Bool) (l r : Tree Place) → P l → P r → P (joined v l r)
  joined_kept true l r h k = i.of_binary And l r h k
  joined_kept false l r h k = i.of_binary Or l r h k

  whole_kept : (w m : Bool) (e : Tree Place) → P e → P (whole_tested w m e)
  whole_kept w m e h = or_null_kept m (is_null e) (or_not w e) (i.of_null e h) (or_not_kept w e h)

  operands_kept : (w m : Bool) (l r e : Tree Place) → P l → P r → P e → P (operands_tested w m l r e)
  operands_kept w m l r e h k x =
      or_null_kept m (binary Or (is_null l) (is_null r)) (or_not w e) (i.of_binary Or (is_null l) (is_null r) (i.of_null l h) (i.of_null r k)) (or_not_kept w e x)

  end_kept : (w : Bool) (o : Operator) (l r : Tree Place) → P l → P r → P (operands_tested w true l r (binary o l r))
  end_kept w o l r h k = operands_kept w true l r (binary o l r) h k (i.of_binary o l r h k)

  between_kept : (w m : Bool) (o : BetweenOptions) (x l u : Tree Place) → P (between o x l u) → P (between_tested w m o x l u)
  between_kept w true o x l u h =
      let p = d.of_ranged o x l u h in
      let lower = to_operator o.lower_strict in
      let upper = to_operator o.upper_strict in
      joined_kept w (operands_tested w true l x (binary lower l x)) (operands_tested w true x u (binary upper x u)) (end_kept w lower l x p.1 p.0) (end_kept w upper x u p.0 p.2)
  between_kept w false o x l u h = or_not_kept w (between o x l u) h

  comparison_kept : (w m : Bool) (o : Operator) (l r : Tree Place) (f g : Bool → Tree Place) → P (binary o l r) → ((v : Bool) → P (f v)) → ((v : Bool) → P (g v)) → P (comparison_tested w m o l r f g)
  comparison_kept w m o l r f g h left right =
      let p = d.of_sides o l r h in
      operand_or_as P w (wanted_beside o l r) f (operand_or w (wanted_beside (swapped o) r l) g (operands_tested w m l r (binary o l r))) (λ t _. left _)
      (operand_or_as P w (wanted_beside (swapped o) r l) g (operands_tested w m l r (binary o l r)) (λ t _. right _) (operands_kept w m l r (binary o l r) p.0 p.1 h))

  value_kept : (w : Bool) (x : Tree Place) → P x → P (value_test w x)
  value_kept true x h = i.of_null x h
  value_kept false x h = i.of_not_null x h

  null_kept : (k : ℕ) (w : Bool) (x : Tree Place) (f : ℕ → Bool → Bool → Tree Place) → P x → ((j : ℕ) (v m : Bool) → P (f j v m)) → P (null_tested k w x f)
  null_kept zero w x f h each = value_kept w x h
  null_kept (suc k) w x f h each =
      if_as P (is_inner x) (joined w (f k false w) (f k true w)) (value_test w x) (λ _. joined_kept w (f k false w) (f k true w) (each k false w) (each k true w)) (λ _. value_kept w x h)

  pub tested_kept : (k : ℕ) (w m : Bool) (e : Tree Place) → P e → P (tested k w m e)
  tested_kept k w m (column c) h = whole_kept w m (column c) h
  tested_kept k w m (literal c) h = whole_kept w m (literal c) h
  tested_kept k w m (binary And l r) h = let p = d.of_sides And l r h in joined_kept w (tested k w m l) (tested k w m r) (tested_kept k w m l p.0) (tested_kept k w m r p.1)
  tested_kept k w m (binary Or l r) h = let p = d.of_sides Or l r h in joined_kept (not_b w) (tested k w m l) (tested k w m r) (tested_kept k w m l p.0) (tested_kept k w m r p.1)
  tested_kept k w m (binary Eq l r) h = let p = d.of_sides Eq l r h in comparison_kept w m Eq l r (λ v. tested k v m l) (λ v. tested k v m r) h (λ v. tested_kept k v m l p.0) (λ v. tested_kept k v m r p.1)
  tested_kept k w m (binary NotEq l r) h = let p = d.of_sides NotEq l r h in comparison_kept w m NotEq l r (λ v. tested k v m l) (λ v. tested k v m r) h (λ v. tested_kept k v m l p.0) (λ v. tested_kept k v m r p.1)
  tested_kept k w m (binary Gt l r) h = let p = d.of_sides Gt l r h in comparison_kept w m Gt l r (λ v. tested k v m l) (λ v. tested k v m r) h (λ v. tested_kept k v m l p.0) (λ v. tested_kept k v m r p.1)
  tested_kept k w m (binary Gte l r) h = let p = d.of_sides Gte l r h in comparison_kept w m Gte l r (λ v. tested k v m l) (λ v. tested k v m r) h (λ v. tested_kept k v m l p.0) (λ v. tested_kept k v m r p.1)
  tested_kept k w m (binary Lt l r) h = let p = d.of_sides Lt l r h in comparison_kept w m Lt l r (λ v. tested k v m l) (λ v. tested k v m r) h (λ v. tested_kept k v m l p.0) (λ v. tested_kept k v m r p.1)
  tested_kept k w m (binary Lte l r) h = let p = d.of_sides Lte l r h in comparison_kept w m Lte l r (λ v. tested k v m l) (λ v. tested k v m r) h (λ v. tested_kept k v m l p.0) (λ v. tested_kept k v m r p.1)
  tested_kept k w m (between o x l u) h = between_kept w m o x l u h
  tested_kept k w m (is_null x) h = let p = d.of_null_operand x h in null_kept k w x (λ j v n. tested j v n x) p (λ j v n. tested_kept j v n x p)
  tested_kept k w m (is_not_null x) h = let p = d.of_operand x h in null_kept k (not_b w) x (λ j v n. tested j v n x) p (λ j v n. tested_kept j v n x p)
  tested_kept k w m (not x) h = tested_kept k (not_b w) m x (d.of_negated x h)
  tested_kept k w m (like o x p) h = let q = d.of_text o x p h in operands_kept w m x p (like o x p) q.0 q.1 h
  tested_kept k w m (stat f x) h = whole_kept w m (stat f x) h
  tested_kept k w m row_count h = whole_kept w m row_count h

  -- ---- strict predicates

  abbrev KeptIn : Option (Tree Place) → Type 0
  KeptIn o = (c : Tree Place) → o ≡ Some c → P c

  beside_kept : (x y : Tree Place) → P x → P y → KeptIn (column_beside x y)
  beside_kept (column c) (literal v) h k e is = subst P (same_Some _ _ is) h
  beside_kept (literal v) (column c) h k e is = subst P (same_Some _ _ is) k
  beside_kept x y h k e is = absurd (none-some e is)

  range_kept : (x l u : Tree Place) → P x → KeptIn (range_column x l u)
  range_kept (column c) (literal v) (literal t) h e is = subst P (same_Some _ _ is) h
  range_kept x l u h e is = absurd (none-some e is)

  rests_kept : (e : Tree Place) → P e → KeptIn (rests_on e)
  rests_kept (binary And l r) h c is = rests_kept l (d.of_sides And l r h).0 c (agreed_both (rests_on l) (rests_on r) c is).0
  rests_kept (binary Or l r) h c is = rests_kept l (d.of_sides Or l r h).0 c (agreed_both (rests_on l) (rests_on r) c is).0
  rests_kept (binary Eq l r) h c is = let p = d.of_sides Eq l r h in beside_kept l r p.0 p.1 c is
  rests_kept (binary NotEq l r) h c is = let p = d.of_sides NotEq l r h in beside_kept l r p.0 p.1 c is
  rests_kept (binary Gt l r) h c is = let p = d.of_sides Gt l r h in beside_kept l r p.0 p.1 c is
  rests_kept (binary Gte l r) h c is = let p = d.of_sides Gte l r h in beside_kept l r p.0 p.1 c is
  rests_kept (binary Lt l r) h c is = let p = d.of_sides Lt l r h in beside_kept l r p.0 p.1 c is
  rests_kept (binary Lte l r) h c is = let p = d.of_sides Lte l r h in beside_kept l r p.0 p.1 c is
  rests_kept (between o x l u) h c is = range_kept x l u (d.of_ranged o x l u h).0 c is
  rests_kept (like o x p) h c is = let q = d.of_text o x p h in beside_kept x p q.0 q.1 c is
  rests_kept e h c is = absurd (none-some c is)

  valued_kept : (o : Option (Tree Place)) (e : Tree Place) → KeptIn o → P e → P (valued o e)
  valued_kept None e f h = h
  valued_kept (Some c) e f h = i.of_binary And e (is_not_null c) h (i.of_not_null c (f c refl))

  both_kept : (l r e : Tree Place) → P l → P r → P e → P (both_valued l r e)
  both_kept (column c) (column v) e h k x =
      i.of_binary And (binary And e (is_not_null (column c))) (is_not_null (column v)) (i.of_binary And e (is_not_null (column c)) x (i.of_not_null (column c) h)) (i.of_not_null (column v) k)
  both_kept l r e h k x = x

  sides_kept : (o : Operator) (s a b : Option (Tree Place)) (x y : Tree Place) → KeptIn a → KeptIn b → P x → P y → P (sides_valued o s a b x y)
  sides_kept o (Some c) a b x y f g h k = i.of_binary o x y h k
  sides_kept o None a b x y f g h k = i.of_binary o (valued a x) (valued b y) (valued_kept a x f h) (valued_kept b y g k)

  body_kept : (e : Tree Place) → P e → P (body e)
  body_kept (binary And l r) h =
      let p = d.of_sides And l r h in
      sides_kept And (agreed (rests_on l) (rests_on r)) (rests_on l) (rests_on r) (body l) (body r) (rests_kept l p.0) (rests_kept r p.1) (body_kept l p.0) (body_kept r p.1)
  body_kept (binary Or l r) h =
      let p = d.of_sides Or l r h in
      sides_kept Or (agreed (rests_on l) (rests_on r)) (rests_on l) (rests_on r) (body l) (body r) (rests_kept l p.0) (rests_kept r p.1) (body_kept l p.0) (body_kept r p.1)
  body_kept (binary Eq l r) h = let p = d.of_sides Eq l r h in both_kept l r (binary Eq l r) p.0 p.1 h
  body_kept (binary NotEq l r) h = let p = d.of_sides NotEq l r h in both_kept l r (binary NotEq l r) p.0 p.1 h
  body_kept (binary Gt l r) h = let p = d.of_sides Gt l r h in both_kept l r (binary Gt l r) p.0 p.1 h
  body_kept (binary Gte l r) h = let p = d.of_sides Gte l r h in both_kept l r (binary Gte l r) p.0 p.1 h
  body_kept (binary Lt l r) h = let p = d.of_sides Lt l r h in both_kept l r (binary Lt l r) p.0 p.1 h
  body_kept (binary Lte l r) h = let p = d.of_sides Lte l r h in both_kept l r (binary Lte l r) p.0 p.1 h
  body_kept e h = h

  pub strict_kept : (e : Tree Place) → P e → P (strict e)
  strict_kept e h = valued_kept (rests_on e) (body e) (rests_kept e h) (body_kept e h)

-- ---- columns, and plain predicates

pub tested_columns : (k : ℕ) (w m : Bool) (e : Tree Place) → HasNoOther e (tested k w m e)
tested_columns k w m e test h = tested_kept (Holds test) (columns_inherited test) (columns_down test) k w m e h

pub strict_columns : (e : Tree Place) → HasNoOther e (strict e)
strict_columns e test h = strict_kept (Holds test) (columns_inherited test) (columns_down test) e h

-- a pass that keeps what a test of nodes finds nowhere keeps a predicate plain
pub plain_by : (e q : Tree Place) → ((test : Tree Place → Bool) → IsOfLeaves test → some_node test e ≡ false → some_node test q ≡ false) → StaysPlain e q
plain_by e q f h =
    let k = and_parts (not_b (has_placeholder e)) (not_b (has_row_count e)) h in
    both_hold _ _
    (ap not_b (f is_placeholder placeholders (not-true (has_placeholder e) k.0)))
    (ap not_b (f is_row_count row_counts (not-true (has_row_count e) k.1)))

pub tested_plain : (k : ℕ) (w m : Bool) (e : Tree Place) → StaysPlain e (tested k w m e)
tested_plain k w m e = plain_by e (tested k w m e) (λ test t. tested_kept (Lacks test t) (nodes_inherited test t) (nodes_down test t) k w m e)

pub strict_plain : (e : Tree Place) → StaysPlain e (strict e)
strict_plain e = plain_by e (strict e) (λ test t. strict_kept (Lacks test t) (nodes_inherited test t) (nodes_down test t) e)
