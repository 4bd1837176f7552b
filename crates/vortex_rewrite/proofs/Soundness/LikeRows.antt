-- What a matching pattern says of a text, and the proofs of LIKE at one row.
use Rattle.std.proofs.Common.{◌≡◌, ℕ, Bool, true, false, not, ⊎_elim, List, [], ◌∷◌, ◌++◌, Option, Some, None, refl, sym, ap, ap₂, ◌∙◌, subst, Less, if◌then◌else◌, append-nil}
use Rattle.std.specs.Prelude.{⊤, ◌==◌, encode_utf8_all}
use Rattle.std.specs.Ordering.{is_gt, ordering_reverse}
use Rattle.std.specs.Str.{chars, is_utf8}
use Rattle.std.proofs.lemmas.Bool.{and_parts, or_cases, eqb-true}
use Rattle.std.proofs.lemmas.Option.{same_Some, none-some}
use Rattle.std.proofs.lemmas.Str.{encodes-append, encodes-chars, IsUtf8-from_is_utf8}
use Rattle.vortex_base.proofs.Data.OrderLemmas.{value_cmp-total}
use Rattle.vortex_expr.specs.Patterns.Like.{items, like, like_text}
use Rattle.vortex_expr.specs.Meanings.Meaning.{is_like, is_true, meaning, satisfies, truth_value, unless_null}
use Rattle.vortex_expr.specs.Patterns.Prefix.{is_exact, literal_prefix, successor}
use Rattle.vortex_base.specs.Data.Scalars.{Constant}
use Rattle.vortex_expr.specs.Trees.Tree.{Tree, Place, binary, literal, like as like_tree}
use Rattle.vortex_expr.specs.declared.like.Item.{Item}
use Rattle.vortex_expr.specs.declared.like.Item.TheVariants.{Char, AnyChar, AnyRun}
use Rattle.vortex_expr.specs.declared.like.LikeOptions.{LikeOptions}
use Rattle.vortex_expr.specs.declared.scalar_fn.Operator.TheVariants.{Gt, Gte, Lt, Or}
use Rattle.vortex_base.specs.declared.scalar_value.ScalarValue.{ScalarValue}
use Rattle.vortex_base.specs.declared.scalar_value.ScalarValue.TheVariants as value
use Rattle.vortex_rewrite.proofs.Soundness.RowRules.{Bounds, IsNotAbove, IsNotBelow, IsRight, is, lower, upper}
use Rattle.vortex_expr.proofs.Patterns.Successors.{below_successor}
use Rattle.vortex_base.proofs.Data.TextOrder.{bytes_cmp, same_front}
use Rattle.vortex_rewrite.proofs.Soundness.TruthLogic.{both_some, clash, refuted, true_or}
use Rattle.vortex_rewrite.proofs.Soundness.ValueTests.{value_le, le_refl, le_trans, gt_le, gte_le, lt_le}
use Rattle.vortex_rewrite.specs.Rewriting.Proof.{Assignment, value_under}
use Rattle.vortex_rewrite.specs.Rewriting.Falsifiers.{both_of, items_falsifier, like_falsifier, max_of, min_of, other_than, outside, pattern_falsifier, text_literal}

-- ---- patterns

-- items without wildcards match their own characters alone
exact_is : (is : List Item) (cs : List ℕ) → is_exact is ≡ true → like is cs ≡ true → cs ≡ literal_prefix is
exact_is [] [] e h = refl
exact_is [] (c ∷ cs) e h = cc
exact_is (Char d ∷ is) [] e h = cc
exact_is (Char d ∷ is) (c ∷ cs) e h =
    let k = and_parts (d == c) (like is cs) h in
    ap₂ ◌∷◌ (sym (eqb-true d c k.0)) (exact_is is cs e k.1)
exact_is (AnyChar ∷ is) cs e h = cc
exact_is (AnyRun ∷ is) cs e h = cc

-- a text that items match begins with their literal characters
prefix_is : (is : List Item) (cs : List ℕ) → like is cs ≡ true → (rest : List ℕ) × (cs ≡ literal_prefix is ++ rest)
prefix_is [] cs h = (cs, refl)
prefix_is (Char d ∷ is) [] h = cc
prefix_is (Char d ∷ is) (c ∷ cs) h =
    let k = and_parts (d == c) (like is cs) h in
    let p = prefix_is is cs k.1 in
    (p.0, ap₂ ◌∷◌ (sym (eqb-true d c k.0)) p.1)
prefix_is (AnyChar ∷ is) cs h = (cs, refl)
prefix_is (AnyRun ∷ is) cs h = (cs, refl)

-- ---- texts by their bytes

-- a text is not below its beginning
beginning_le : (p rest : List ℕ) → value_le (value.Utf8 (encode_utf8_all p)) (value.Utf8 (encode_utf8_all (p ++ rest))) ≡ true
beginning_le p rest =
    ap (λ o. not (is_gt o)) ((λ i. bytes_cmp (sym (append-nil (encode_utf8_all p)) i) (encodes-append p rest i)) ∙ same_front (encode_utf8_all p) [] (encode_utf8_all rest))
    ∙ empty_le (encode_utf8_all rest)
  where
    empty_le : (bs : List ℕ) → not (is_gt (bytes_cmp [] bs)) ≡ true
    empty_le [] = refl
    empty_le (b ∷ bs) = refl

-- ---- at a row

-- the bytes of a text are those of its characters
text_is : (bs : List ℕ) → is_utf8 bs ≡ true → encode_utf8_all (chars bs) ≡ bs
text_is bs h = encodes-chars bs (IsUtf8-from_is_utf8 bs h)

-- a value that is a text is UTF-8
abbrev pub IsText : Option ScalarValue → Type 0
IsText (Some (value.Utf8 bs)) = is_utf8 bs ≡ true
IsText v = ⊤

-- what a comparison of a bound with a text says of a text within the bound
at_least : (a : Option ScalarValue) (t b : List ℕ) → Bounds IsNotBelow a (Some (value.Utf8 t)) → is Gte a (Some (value.Utf8 b)) ≡ true → value_le (value.Utf8 b) (value.Utf8 t) ≡ true
at_least None t b l h = cc
at_least (Some a) t b l h = le_trans (value.Utf8 b) a (value.Utf8 t) (gte_le a (value.Utf8 b) h) l

above : (a : Option ScalarValue) (t b : List ℕ) → Bounds IsNotBelow a (Some (value.Utf8 t)) → is Gt a (Some (value.Utf8 b)) ≡ true → value_le (value.Utf8 t) (value.Utf8 b) ≡ false
above None t b l h = cc
above (Some a) t b l h = refuted (value_le (value.Utf8 t) (value.Utf8 b)) (λ e. clash (le_trans a (value.Utf8 t) (value.Utf8 b) l e) (gt_le a (value.Utf8 b) h))

below : (a : Option ScalarValue) (t b : List ℕ) → Bounds IsNotAbove a (Some (value.Utf8 t)) → is Lt a (Some (value.Utf8 b)) ≡ true → value_le (value.Utf8 b) (value.Utf8 t) ≡ false
below None t b u h = cc
below (Some a) t b u h = refuted (value_le (value.Utf8 b) (value.Utf8 t)) (λ e. clash (le_trans (value.Utf8 b) (value.Utf8 t) a e u) (lt_le a (value.Utf8 b) h))

less_not_le : (s t : List ℕ) → bytes_cmp s t ≡ Less → value_le (value.Utf8 t) (value.Utf8 s) ≡ false
less_not_le s t h = ap (λ o. not (is_gt o)) (value_cmp-total.antisymm (value.Utf8 t) (value.Utf8 s) ∙ ap ordering_reverse h)

module _ (A : Assignment) (row : List Constant) (n : ℕ) (right : IsRight A row n) (x : Tree Place) where
  abbrev told : Tree Place → Option ScalarValue
  told e = value_under A n e

  -- the text t of the row lies within the bounds
  within_low : (e : Tree Place) (t : List ℕ) → meaning x row n ≡ Some (value.Utf8 t) → min_of x ≡ Some e → Bounds IsNotBelow (told e) (Some (value.Utf8 t))
  within_low e t m h = subst (λ v. Bounds IsNotBelow (value_under A n e) v) m (lower A row n right x e h)

  within_high : (e : Tree Place) (t : List ℕ) → meaning x row n ≡ Some (value.Utf8 t) → max_of x ≡ Some e → Bounds IsNotAbove (told e) (Some (value.Utf8 t))
  within_high e t m h = subst (λ v. Bounds IsNotAbove (value_under A n e) v) m (upper A row n right x e h)

  exact_right : (is : List Item) (e : Tree Place) (t : List ℕ) → meaning x row n ≡ Some (value.Utf8 t) → is_utf8 t ≡ true → is_exact is ≡ true
      → other_than x (literal_prefix is) ≡ Some e → is_true (told e) ≡ true → like is (chars t) ≡ true → ⊥
  exact_right its e t m text exact h told_true found =
      let p : List ℕ = encode_utf8_all (literal_prefix its) in
      let lit = text_literal (literal_prefix its) in
      let o = both_some (binary Or) (both_of (binary Gt) (min_of x) (Some lit)) (both_of (binary Lt) (max_of x) (Some lit)) e h in
      let b = both_some (binary Gt) (min_of x) (Some lit) o.left o.left_is in
      let c = both_some (binary Lt) (max_of x) (Some lit) o.right o.right_is in
      let same : t ≡ p = sym (text_is t text) ∙ ap encode_utf8_all (exact_is its (chars t) exact found) in
      let self : value_le (value.Utf8 t) (value.Utf8 p) ≡ true = subst (λ q. value_le (value.Utf8 t) (value.Utf8 q) ≡ true) same (le_refl (value.Utf8 t)) in
      let back : value_le (value.Utf8 p) (value.Utf8 t) ≡ true = subst (λ q. value_le (value.Utf8 q) (value.Utf8 t) ≡ true) same (le_refl (value.Utf8 t)) in
      let first : told b.right ≡ Some (value.Utf8 p) = sym (ap (value_under A n) (same_Some _ _ b.right_is)) in
      let second : told c.right ≡ Some (value.Utf8 p) = sym (ap (value_under A n) (same_Some _ _ c.right_is)) in
      ⊎_elim
      (λ k. clash self (above (told b.left) t p (within_low b.left t m b.left_is) (ap (is Gt (told b.left)) (sym first) ∙ ap (λ d. is_true (told d)) b.is ∙ k)))
      (λ k. clash back (below (told c.left) t p (within_high c.left t m c.left_is) (ap (is Lt (told c.left)) (sym second) ∙ ap (λ d. is_true (told d)) c.is ∙ k)))
      (or_cases (is_true (told o.left)) (is_true (told o.right)) (sym (true_or (told o.left) (told o.right)) ∙ ap (λ d. is_true (told d)) o.is ∙ told_true))

  prefix_right : (is : List Item) (e : Tree Place) (t : List ℕ) → meaning x row n ≡ Some (value.Utf8 t) → is_utf8 t ≡ true → (s : Option (List ℕ)) → successor (literal_prefix is) ≡ s
      → outside x (literal_prefix is) s ≡ Some e → is_true (told e) ≡ true → like is (chars t) ≡ true → ⊥
  prefix_right its e t m text None s h told_true found = none-some e h
  prefix_right its e t m text (Some q) s h told_true found =
      let p : List ℕ = encode_utf8_all (literal_prefix its) in
      let r : List ℕ = encode_utf8_all q in
      let o = both_some (binary Or) (both_of (binary Gte) (min_of x) (Some (text_literal q))) (both_of (binary Lt) (max_of x) (Some (text_literal (literal_prefix its)))) e h in
      let b = both_some (binary Gte) (min_of x) (Some (text_literal q)) o.left o.left_is in
      let c = both_some (binary Lt) (max_of x) (Some (text_literal (literal_prefix its))) o.right o.right_is in
      let front = prefix_is its (chars t) found in
      let same : encode_utf8_all (literal_prefix its ++ front.0) ≡ t = ap encode_utf8_all (sym front.1) ∙ text_is t text in
      let low : value_le (value.Utf8 p) (value.Utf8 t) ≡ true = subst (λ u. value_le (value.Utf8 p) (value.Utf8 u) ≡ true) same (beginning_le (literal_prefix its) front.0) in
      let high : value_le (value.Utf8 r) (value.Utf8 t) ≡ false = less_not_le t r (subst (λ u. bytes_cmp u r ≡ Less) same (below_successor (literal_prefix its) q front.0 s)) in
      let first : told b.right ≡ Some (value.Utf8 r) = sym (ap (value_under A n) (same_Some _ _ b.right_is)) in
      let second : told c.right ≡ Some (value.Utf8 p) = sym (ap (value_under A n) (same_Some _ _ c.right_is)) in
      ⊎_elim
      (λ k. clash (at_least (told b.left) t r (within_low b.left t m b.left_is) (ap (is Gte (told b.left)) (sym first) ∙ ap (λ d. is_true (told d)) b.is ∙ k)) high)
      (λ k. clash low (below (told c.left) t p (within_high c.left t m c.left_is) (ap (is Lt (told c.left)) (sym second) ∙ ap (λ d. is_true (told d)) c.is ∙ k)))
      (or_cases (is_true (told o.left)) (is_true (told o.right)) (sym (true_or (told o.left) (told o.right)) ∙ ap (λ d. is_true (told d)) o.is ∙ told_true))

  items_right : (is : List Item) (e : Tree Place) (t : List ℕ) → meaning x row n ≡ Some (value.Utf8 t) → is_utf8 t ≡ true → items_falsifier x is ≡ Some e → is_true (told e) ≡ true
      → like is (chars t) ≡ true → ⊥
  items_right its e t m text = by (is_exact its) refl
    where
      by : (b : Bool) → is_exact its ≡ b → (if b then other_than x (literal_prefix its) else outside x (literal_prefix its) (successor (literal_prefix its))) ≡ Some e
          → is_true (told e) ≡ true → like its (chars t) ≡ true → ⊥
      by true k h = exact_right its e t m text k h
      by false k h = prefix_right its e t m text (successor (literal_prefix its)) refl h

  -- neither negated nor ignoring case
  plain_right : (neg ci : Bool) (o : Option (Tree Place)) (e : Tree Place) (bs s : List ℕ) → (o ≡ Some e → like (items (chars bs)) (chars s) ≡ false)
      → (if neg then None else (if ci then None else o)) ≡ Some e → (if neg then not (like_text ci bs s) else like_text ci bs s) ≡ false
  plain_right false false o e bs s f h = f h
  plain_right false true o e bs s f h = absurd (none-some e h)
  plain_right true ci o e bs s f h = absurd (none-some e h)

  pattern_right : (o : LikeOptions) (bs : List ℕ) (e : Tree Place) → IsText (meaning x row n)
      → (if o.negated then None else (if o.case_insensitive then None else items_falsifier x (items (chars bs)))) ≡ Some e → is_true (told e) ≡ true
      → (v : Option ScalarValue) → meaning x row n ≡ v → is_true (truth_value (unless_null (is_like o) v (Some (value.Utf8 bs)))) ≡ false
  pattern_right o bs e text h t None m = refl
  pattern_right o bs e text h t (Some (value.Utf8 s)) m =
      plain_right o.negated o.case_insensitive (items_falsifier x (items (chars bs))) e bs s
      (λ i. refuted (like (items (chars bs)) (chars s)) (items_right (items (chars bs)) e s m (subst IsText m text) i t))
      h
  pattern_right o bs e text h t (Some (value.Bool b)) m = refl
  pattern_right o bs e text h t (Some (value.Primitive p)) m = refl
  pattern_right o bs e text h t (Some (value.Binary b)) m = refl

  valued_right : (o : LikeOptions) (p : Option ScalarValue) (e : Tree Place) → IsText (meaning x row n) → pattern_falsifier o x p ≡ Some e → is_true (told e) ≡ true
      → is_true (truth_value (unless_null (is_like o) (meaning x row n) p)) ≡ false
  valued_right o (Some (value.Utf8 bs)) e text h t = pattern_right o bs e text h t (meaning x row n) refl
  valued_right o None e text h t = absurd (none-some e h)
  valued_right o (Some (value.Bool b)) e text h t = absurd (none-some e h)
  valued_right o (Some (value.Primitive q)) e text h t = absurd (none-some e h)
  valued_right o (Some (value.Binary bs)) e text h t = absurd (none-some e h)

  pub like_right : (o : LikeOptions) (y e : Tree Place) → IsText (meaning x row n) → like_falsifier o x y ≡ Some e → is_true (told e) ≡ true → satisfies (like_tree o x y) row n ≡ false
  like_right o (literal c) e text h t = valued_right o c.value e text h t
  like_right o y e text h t = absurd (none-some e h)
