-- A predicate with its NOTs pushed down has no more leaves, takes no more turns, and its leaves are no deeper than the whole and one node.
use Rattle.std.proofs.Common.{◌≡◌, ℕ, ◌+◌, ◌≤◌, Bool, true, false, not as not_b, ◌&&◌, List, Option, Some, None, max, refl, subst, arith, if◌then◌else◌}
use Rattle.std.specs.Prelude.{encode_utf8_all}
use Rattle.std.specs.Str.{chars}
use Rattle.std.proofs.lemmas.Option.{none-some, same_Some}
use Rattle.vortex_expr.specs.Trees.Between.{to_operator}
use Rattle.vortex_expr.specs.Trees.Tree.{Tree, Place, column, literal, binary, between, is_null, is_not_null, not, like, stat, row_count}
use Rattle.vortex_expr.specs.Patterns.Like.{items}
use Rattle.vortex_expr.specs.Patterns.Prefix.{is_exact, literal_prefix, successor}
use Rattle.vortex_expr.specs.declared.like.Item.{Item}
use Rattle.vortex_expr.specs.declared.like.LikeOptions.{LikeOptions}
use Rattle.vortex_expr.specs.declared.scalar_fn.StrictComparison.{StrictComparison}
use Rattle.vortex_expr.specs.declared.scalar_fn.StrictComparison.TheVariants.{Strict, NonStrict}
use Rattle.vortex_expr.specs.declared.scalar_fn.Operator.{Operator}
use Rattle.vortex_expr.specs.declared.scalar_fn.Operator.TheVariants.{Eq, NotEq, Gt, Gte, Lt, Lte, And, Or}
use Rattle.vortex_rewrite.specs.Rewriting.Falsifiers.{bool_literal, bytes_literal, text_in}
use Rattle.vortex_rewrite.proofs.Completeness.Interval.{is_comparison}
use Rattle.vortex_normal.specs.Balanced.{depth}
use Rattle.vortex_normal.specs.Laws.{NormalIsShallow, leaves, turns}
use Rattle.vortex_normal.specs.Ends.{ended}
use Rattle.vortex_normal.specs.Pushed.{all_of, any_of, any_text, are_runs, begins, comparison, comparison_of, connected, decided, folded, is_beginning, is_last_raised, items_matched, like_as, liked, null_test, operator_as, pushed, same_text, settled, text_matched}
use Rattle.vortex_normal.proofs.TypeEnds.{ended_as}
use Rattle.vortex_normal.proofs.Forms.{all_by_kept, any_by_kept, comparison_as, folded_as, liked_as, settled_as}
use Rattle.vortex_normal.proofs.Matched.{given_if}
use Rattle.vortex_normal.proofs.WholeDepth.{grouped_shallow, leaf_depth}

-- at most so many leaves, so deep ones, and so many turns in an AND and in an OR
record Within (e : Tree Place) (n d a o : ℕ) : Type 0 where
  pub count : leaves e ≤ n
  pub deep : leaf_depth e ≤ d
  pub in_and : turns true e ≤ a
  pub in_or : turns false e ≤ o

-- ---- leaves

truth_within : (b : Bool) (n d a o : ℕ) → 1 ≤ n → Within (bool_literal b) n d a o
truth_within true n d a o h = record { count = h; deep = omega arith; in_and = omega arith; in_or = omega arith }
truth_within false n d a o h = record { count = h; deep = omega arith; in_and = omega arith; in_or = omega arith }

binary_within : (o : Operator) (l r : Tree Place) (d : ℕ) → is_comparison o ≡ true → depth (binary o l r) ≤ d → Within (binary o l r) 1 d 0 0
binary_within Eq l r d c h = record { count = omega arith; deep = h; in_and = omega arith; in_or = omega arith }
binary_within NotEq l r d c h = record { count = omega arith; deep = h; in_and = omega arith; in_or = omega arith }
binary_within Gt l r d c h = record { count = omega arith; deep = h; in_and = omega arith; in_or = omega arith }
binary_within Gte l r d c h = record { count = omega arith; deep = h; in_and = omega arith; in_or = omega arith }
binary_within Lt l r d c h = record { count = omega arith; deep = h; in_and = omega arith; in_or = omega arith }
binary_within Lte l r d c h = record { count = omega arith; deep = h; in_and = omega arith; in_or = omega arith }
binary_within And l r d c h = cc
binary_within Or l r d c h = cc

settled_within : (q : Tree Place) (d : ℕ) → Within q 1 d 0 0 → Within (settled q) 1 d 0 0
settled_within q d h = settled_as (λ e. Within e 1 d 0 0) q h (λ _ _. truth_within _ 1 d 0 0 (omega arith))

null_within : (w : Bool) (x : Tree Place) (d : ℕ) → depth x + 1 ≤ d → Within (null_test w x) 1 d 0 0
null_within true x d h = settled_within (is_null x) d (record { count = omega arith; deep = h; in_and = omega arith; in_or = omega arith })
null_within false x d h = settled_within (is_not_null x) d (record { count = omega arith; deep = h; in_and = omega arith; in_or = omega arith })

folded_shallow : (e : Tree Place) (d : ℕ) → depth e ≤ d → depth (folded e) ≤ d
folded_shallow e d h = folded_as (λ x. depth x ≤ d) e h (λ _ _ _. omega arith)

of_within : (o : Operator) (l r : Tree Place) (d : ℕ) → is_comparison o ≡ true → depth l + 1 ≤ d → depth r + 1 ≤ d → Within (comparison_of o l r) 1 d 0 0
of_within o l r d c h k =
    comparison_as (λ e. Within e 1 d 0 0) o l r (λ _. truth_within false 1 d 0 0 (omega arith)) (λ _ _. null_within false l d h) (λ _ _. truth_within false 1 d 0 0 (omega arith))
    (settled_within (ended o l r) d
    (ended_as (λ e. Within e 1 d 0 0) o l r (truth_within false 1 d 0 0 (omega arith))
    (λ f _. record { count = omega arith; deep = omega (arith, h); in_and = omega arith; in_or = omega arith })
    (λ f _ b. binary_within Eq (column f) _ d refl (omega (arith, h)))
    (binary_within o l r d c (omega (arith, h, k)))))

comparison_within : (o : Operator) (l r : Tree Place) (d : ℕ) → is_comparison o ≡ true → depth l ≤ d → depth r ≤ d → Within (comparison o l r) 1 (d + 1) 0 0
unfolding comparison
comparison_within o l r d c h k = of_within o (folded l) (folded r) (d + 1) c (omega (arith, folded_shallow l d h)) (omega (arith, folded_shallow r d k))

still_comparison : (w : Bool) (o : Operator) → is_comparison o ≡ true → is_comparison (operator_as w o) ≡ true
still_comparison true o h = h
still_comparison false Eq h = refl
still_comparison false NotEq h = refl
still_comparison false Gt h = refl
still_comparison false Gte h = refl
still_comparison false Lt h = refl
still_comparison false Lte h = refl
still_comparison false And h = cc
still_comparison false Or h = cc

-- ---- connectives

flipped : (w : Bool) (e : Tree Place) → turns w e ≤ turns (not_b w) e + 1
flipped true (binary And l r) = omega arith
flipped false (binary And l r) = omega arith
flipped true (binary Or l r) = omega arith
flipped false (binary Or l r) = omega arith
flipped true (not x) = flipped false x
flipped false (not x) = flipped true x
flipped true (between o x l u) = omega arith
flipped false (between o x l u) = omega arith
flipped true (like o x p) = omega arith
flipped false (like o x p) = omega arith
flipped w (binary Eq l r) = omega arith
flipped w (binary NotEq l r) = omega arith
flipped w (binary Gt l r) = omega arith
flipped w (binary Gte l r) = omega arith
flipped w (binary Lt l r) = omega arith
flipped w (binary Lte l r) = omega arith
flipped w e = omega arith

module _ (l r : Tree Place) (m n d a o b p : ℕ) (h : Within l m d a o) (k : Within r n d b p) where
  all_within : Within (connected true l r) (m + n) d (max a b) (max a b + 1)
  unfolding all_of
  all_within =
      all_by_kept (λ e. Within e (m + n) d (max a b) (max a b + 1)) l r
      (record { count = omega (arith, h.count); deep = h.deep; in_and = omega (arith, h.in_and); in_or = omega (arith, flipped false l, h.in_and) })
      (record { count = omega (arith, k.count); deep = k.deep; in_and = omega (arith, k.in_and); in_or = omega (arith, flipped false r, k.in_and) })
      (decided l) (decided r)
      (record { count = omega (arith, h.count, k.count); deep = omega (arith, h.deep, k.deep); in_and = omega (arith, h.in_and, k.in_and); in_or = omega (arith, h.in_and, k.in_and) })

  any_within : Within (connected false l r) (m + n) d (max o p + 1) (max o p)
  unfolding any_of
  any_within =
      any_by_kept (λ e. Within e (m + n) d (max o p + 1) (max o p)) l r
      (record { count = omega (arith, h.count); deep = h.deep; in_and = omega (arith, flipped true l, h.in_or); in_or = omega (arith, h.in_or) })
      (record { count = omega (arith, k.count); deep = k.deep; in_and = omega (arith, flipped true r, k.in_or); in_or = omega (arith, k.in_or) })
      (decided l) (decided r)
      (record { count = omega (arith, h.count, k.count); deep = omega (arith, h.deep, k.deep); in_and = omega (arith, h.in_or, k.in_or); in_or = omega (arith, h.in_or, k.in_or) })

weaker : (e : Tree Place) (m d a o n c b p : ℕ) → Within e m d a o → m ≤ n → d ≤ c → a ≤ b → o ≤ p → Within e n c b p
weaker e m d a o n c b p h i j k l =
    record { count = omega (arith, h.count, i); deep = omega (arith, h.deep, j); in_and = omega (arith, h.in_and, k); in_or = omega (arith, h.in_or, l) }

-- ---- two comparisons joined, which a BETWEEN and some LIKEs are

abbrev IsPair : (d : ℕ) → Tree Place → Type 0
IsPair d e = Within e 2 d 1 1

one_is_pair : (d : ℕ) (e : Tree Place) → Within e 1 d 0 0 → IsPair d e
one_is_pair d e h = weaker e 1 d 0 0 2 d 1 1 h (omega arith) (omega arith) (omega arith) (omega arith)

both_pair : (w : Bool) (d : ℕ) (l r : Tree Place) → Within l 1 d 0 0 → Within r 1 d 0 0 → IsPair d (connected w l r)
both_pair true d l r h k = weaker (connected true l r) 2 d (max 0 0) (max 0 0 + 1) 2 d 1 1 (all_within l r 1 1 d 0 0 0 0 h k) (omega arith) (omega arith) (omega arith) (omega arith)
both_pair false d l r h k = weaker (connected false l r) 2 d (max 0 0 + 1) (max 0 0) 2 d 1 1 (any_within l r 1 1 d 0 0 0 0 h k) (omega arith) (omega arith) (omega arith) (omega arith)

begins_within : (w : Bool) (x : Tree Place) (d : ℕ) (cs : List ℕ) (s : Option (List ℕ)) (e : Tree Place) → depth x ≤ d → begins w x cs s ≡ Some e → IsPair (d + 1) e
begins_within w x d cs None e h k = absurd (none-some e k)
begins_within w x d cs (Some ds) e h k =
    subst (IsPair (d + 1)) (same_Some _ _ k)
    (both_pair w (d + 1) (comparison (operator_as w Gte) x (bytes_literal (encode_utf8_all cs))) (comparison (operator_as w Lt) x (bytes_literal (encode_utf8_all ds)))
    (comparison_within (operator_as w Gte) x (bytes_literal (encode_utf8_all cs)) d (still_comparison w Gte refl) h (omega arith))
    (comparison_within (operator_as w Lt) x (bytes_literal (encode_utf8_all ds)) d (still_comparison w Lt refl) h (omega arith)))

any_within_pair : (w : Bool) (x : Tree Place) (d : ℕ) → depth x ≤ d → IsPair (d + 1) (any_text w x)
any_within_pair true x d h = one_is_pair (d + 1) (any_text true x) (null_within false x (d + 1) (omega (arith, h)))
any_within_pair false x d h = truth_within false 2 (d + 1) 1 1 (omega arith)

items_within : (w : Bool) (x : Tree Place) (d : ℕ) (is : List Item) (e : Tree Place) → depth x ≤ d → items_matched w x is ≡ Some e → IsPair (d + 1) e
items_within w x d is e h =
    let cs = literal_prefix is in
    let begun = begins w x cs (successor cs) in
    let first : Option (Tree Place) = if is_beginning is && is_last_raised cs then begun else None in
    given_if (IsPair (d + 1)) (is_exact is) (Some (same_text w x (encode_utf8_all cs))) (if are_runs is then Some (any_text w x) else first)
    (λ _ q k. subst (IsPair (d + 1)) (same_Some _ _ k)
    (one_is_pair (d + 1) (same_text w x (encode_utf8_all cs)) (comparison_within (operator_as w Eq) x (bytes_literal (encode_utf8_all cs)) d (still_comparison w Eq refl) h (omega arith))))
    (λ _. given_if (IsPair (d + 1)) (are_runs is) (Some (any_text w x)) first
    (λ _ q k. subst (IsPair (d + 1)) (same_Some _ _ k) (any_within_pair w x d h))
    (λ _. given_if (IsPair (d + 1)) (is_beginning is && is_last_raised cs) begun None
    (λ _ q k. begins_within w x d cs (successor cs) q h k)
    (λ _ q k. absurd (none-some q k))))
    e

text_within : (w : Bool) (x : Tree Place) (d : ℕ) (t : Option (List ℕ)) (e : Tree Place) → depth x ≤ d → text_matched w x t ≡ Some e → IsPair (d + 1) e
text_within w x d None e h k = absurd (none-some e k)
text_within w x d (Some bs) e h k = items_within w x d (items (chars bs)) e h k

liked_within : (o : LikeOptions) (x p : Tree Place) (d : ℕ) → depth x ≤ d → depth p ≤ d → IsPair (d + 1) (liked o x p)
liked_within o x p d h k =
    liked_as (IsPair (d + 1)) o x p (λ _. truth_within false 2 (d + 1) 1 1 (omega arith))
    (given_if (IsPair (d + 1)) o.case_insensitive None (text_matched (not_b o.negated) x (text_in p))
    (λ _ q m. absurd (none-some q m))
    (λ _ q m. text_within (not_b o.negated) x d (text_in p) q h m))
    (λ _. settled_as (IsPair (d + 1)) (like o x p)
    (record { count = omega arith; deep = omega (arith, h, k); in_and = omega arith; in_or = omega arith })
    (λ _ _. truth_within _ 2 (d + 1) 1 1 (omega arith)))

end_compares : (s : StrictComparison) → is_comparison (to_operator s) ≡ true
end_compares Strict = refl
end_compares NonStrict = refl

-- ---- the whole

compared_within : (w : Bool) (o : Operator) (l r : Tree Place) (a b : ℕ) → is_comparison o ≡ true → Within (comparison (operator_as w o) l r) 1 (max (depth l) (depth r) + 1 + 1) a b
compared_within w o l r a b c =
    let d = max (depth l) (depth r) in
    let h = comparison_within (operator_as w o) l r d (still_comparison w o c) (omega arith) (omega arith) in
    weaker (comparison (operator_as w o) l r) 1 (d + 1) 0 0 1 (d + 1 + 1) a b h (omega arith) (omega arith) (omega arith) (omega arith)

connected_within : (w : Bool) (l r : Tree Place) (m n d e a o b p : ℕ) → Within l m (d + 1) a o → Within r n (e + 1) b p → Within (connected w l r) (m + n) (max d e + 1 + 1) (if w then max a b else max o p + 1) (if w then max a b + 1 else max o p)
connected_within true l r m n d e a o b p h k =
    let c = max d e + 1 + 1 in
    all_within l r m n c a o b p (weaker l m (d + 1) a o m c a o h (omega arith) (omega arith) (omega arith) (omega arith)) (weaker r n (e + 1) b p n c b p k (omega arith) (omega arith) (omega arith) (omega arith))
connected_within false l r m n d e a o b p h k =
    let c = max d e + 1 + 1 in
    any_within l r m n c a o b p (weaker l m (d + 1) a o m c a o h (omega arith) (omega arith) (omega arith) (omega arith)) (weaker r n (e + 1) b p n c b p k (omega arith) (omega arith) (omega arith) (omega arith))

-- by AND it takes no more turns than the given one where it is wanted, and else than that one by OR
abbrev IsPushed : Bool → Tree Place → Type 0
IsPushed w e = Within (pushed w e) (leaves e) (depth e + 1) (turns w e) (turns (not_b w) e)

pushed_within : (w : Bool) (e : Tree Place) → IsPushed w e
pushed_within w (column c) = record { count = omega arith; deep = deep w; in_and = omega arith; in_or = omega arith }
  where
    deep : (w : Bool) → depth (bool_literal w) + 1 ≤ 1
    deep true = omega arith
    deep false = omega arith
pushed_within w (literal c) = truth_within _ 1 1 0 0 (omega arith)
pushed_within true (binary And l r) =
    connected_within true (pushed true l) (pushed true r) (leaves l) (leaves r) (depth l) (depth r) (turns true l) (turns false l) (turns true r) (turns false r) (pushed_within true l) (pushed_within true r)
pushed_within false (binary And l r) =
    connected_within false (pushed false l) (pushed false r) (leaves l) (leaves r) (depth l) (depth r) (turns false l) (turns true l) (turns false r) (turns true r) (pushed_within false l) (pushed_within false r)
pushed_within true (binary Or l r) =
    connected_within false (pushed true l) (pushed true r) (leaves l) (leaves r) (depth l) (depth r) (turns true l) (turns false l) (turns true r) (turns false r) (pushed_within true l) (pushed_within true r)
pushed_within false (binary Or l r) =
    connected_within true (pushed false l) (pushed false r) (leaves l) (leaves r) (depth l) (depth r) (turns false l) (turns true l) (turns false r) (turns true r) (pushed_within false l) (pushed_within false r)
pushed_within w (binary Eq l r) = compared_within w Eq l r 0 0 refl
pushed_within w (binary NotEq l r) = compared_within w NotEq l r 0 0 refl
pushed_within w (binary Gt l r) = compared_within w Gt l r 0 0 refl
pushed_within w (binary Gte l r) = compared_within w Gte l r 0 0 refl
pushed_within w (binary Lt l r) = compared_within w Lt l r 0 0 refl
pushed_within w (binary Lte l r) = compared_within w Lte l r 0 0 refl
pushed_within w (between o x l u) =
    let d = depth (between o x l u) + 1 in
    let low = comparison (operator_as w (to_operator o.lower_strict)) l x in
    let high = comparison (operator_as w (to_operator o.upper_strict)) x u in
    both_pair w d low high
    (weaker low 1 (max (depth l) (depth x) + 1 + 1) 0 0 1 d 0 0 (compared_within w (to_operator o.lower_strict) l x 0 0 (end_compares o.lower_strict)) (omega arith) (omega arith) (omega arith) (omega arith))
    (weaker high 1 (max (depth x) (depth u) + 1 + 1) 0 0 1 d 0 0 (compared_within w (to_operator o.upper_strict) x u 0 0 (end_compares o.upper_strict)) (omega arith) (omega arith) (omega arith) (omega arith))
pushed_within w (is_null x) = null_within w x (depth x + 1 + 1) (omega arith)
pushed_within w (is_not_null x) = null_within (not_b w) x (depth x + 1 + 1) (omega arith)
pushed_within true (not x) = weaker (pushed false x) (leaves x) (depth x + 1) (turns false x) (turns true x) (leaves x) (depth x + 1 + 1) (turns false x) (turns true x) (pushed_within false x) (omega arith) (omega arith) (omega arith) (omega arith)
pushed_within false (not x) = weaker (pushed true x) (leaves x) (depth x + 1) (turns true x) (turns false x) (leaves x) (depth x + 1 + 1) (turns true x) (turns false x) (pushed_within true x) (omega arith) (omega arith) (omega arith) (omega arith)
pushed_within w (like o x p) =
    let d = max (depth x) (depth p) in
    weaker (liked (like_as w o) x p) 2 (d + 1) 1 1 2 (d + 1 + 1) 1 1 (liked_within (like_as w o) x p d (omega arith) (omega arith)) (omega arith) (omega arith) (omega arith) (omega arith)
pushed_within true (stat f x) = record { count = omega arith; deep = omega arith; in_and = omega arith; in_or = omega arith }
pushed_within false (stat f x) = record { count = omega arith; deep = omega arith; in_and = omega arith; in_or = omega arith }
pushed_within true row_count = record { count = omega arith; deep = omega arith; in_and = omega arith; in_or = omega arith }
pushed_within false row_count = record { count = omega arith; deep = omega arith; in_and = omega arith; in_or = omega arith }

pub normal_is_shallow : NormalIsShallow
normal_is_shallow p k h =
    let w = pushed_within true p in
    grouped_shallow (pushed true p) (depth p + 1) k (turns true p) (omega (arith, w.count, h)) w.deep w.in_and
