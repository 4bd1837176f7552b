-- The cases of what a LIKE becomes as comparisons, and how its pattern reads.
use Rattle.std.proofs.Common.{◌≡◌, ℕ, Bool, true, false, not as not_b, ◌&&◌, List, Option, Some, None, refl, subst, if◌then◌else◌}
use Rattle.std.specs.Prelude.{encode_utf8_all}
use Rattle.std.specs.Option.{is_some}
use Rattle.std.specs.Str.{chars}
use Rattle.std.proofs.lemmas.Option.{none-some, same_Some}
use Rattle.vortex_expr.specs.Patterns.Like.{items}
use Rattle.vortex_expr.specs.Patterns.Prefix.{is_exact, literal_prefix, successor}
use Rattle.vortex_expr.specs.Trees.Tree.{Tree, Place, column, literal, binary, between, is_null, is_not_null, not, like, stat, row_count}
use Rattle.vortex_expr.specs.declared.like.Item.{Item}
use Rattle.vortex_expr.specs.declared.like.LikeOptions.{LikeOptions}
use Rattle.vortex_expr.specs.declared.scalar_fn.Operator.{Operator}
use Rattle.vortex_expr.specs.declared.scalar_fn.Operator.TheVariants.{Eq, Gte, Lt}
use Rattle.vortex_rewrite.proofs.Completeness.Interval.{is_comparison}
use Rattle.vortex_rewrite.specs.Rewriting.Falsifiers.{bytes_literal, text_in}
use Rattle.vortex_normal.specs.Pushed.{any_text, are_runs, as_comparisons, begins, comparison, connected, is_beginning, is_last_raised, is_literal, items_matched, like_as, operator_as, same_text, text_matched}

-- ---- a property of comparisons of the text, and of what they are connected to

pub given_if : (P : Tree Place → Type 0) (b : Bool) (m n : Option (Tree Place)) → (b ≡ true → (e : Tree Place) → m ≡ Some e → P e) → (b ≡ false → (e : Tree Place) → n ≡ Some e → P e)
    → (e : Tree Place) → (if b then m else n) ≡ Some e → P e
given_if P true m n f g e h = f refl e h
given_if P false m n f g e h = g refl e h

module _ (P : Tree Place → Type 0) (x : Tree Place) (compared : (w : Bool) (o : Operator) → is_comparison o ≡ true → (bs : List ℕ) → P (comparison (operator_as w o) x (bytes_literal bs)))
    (joined : (w : Bool) (l r : Tree Place) → P l → P r → P (connected w l r)) (any : (w : Bool) → P (any_text w x)) where
  begins_as : (w : Bool) (cs : List ℕ) (s : Option (List ℕ)) (e : Tree Place) → begins w x cs s ≡ Some e → P e
  begins_as w cs None e h = absurd (none-some e h)
  begins_as w cs (Some ds) e h =
      subst P (same_Some _ _ h)
      (joined w (comparison (operator_as w Gte) x (bytes_literal (encode_utf8_all cs))) (comparison (operator_as w Lt) x (bytes_literal (encode_utf8_all ds)))
      (compared w Gte refl (encode_utf8_all cs)) (compared w Lt refl (encode_utf8_all ds)))

  items_as : (w : Bool) (is : List Item) (e : Tree Place) → items_matched w x is ≡ Some e → P e
  items_as w is =
      let begun : Option (Tree Place) = if is_beginning is && is_last_raised (literal_prefix is) then begins w x (literal_prefix is) (successor (literal_prefix is)) else None in
      given_if P (is_exact is) (Some (same_text w x (encode_utf8_all (literal_prefix is)))) (if are_runs is then Some (any_text w x) else begun)
      (λ _ e h. subst P (same_Some _ _ h) (compared w Eq refl (encode_utf8_all (literal_prefix is))))
      (λ _. given_if P (are_runs is) (Some (any_text w x)) begun
      (λ _ e h. subst P (same_Some _ _ h) (any w))
      (λ _. given_if P (is_beginning is && is_last_raised (literal_prefix is)) (begins w x (literal_prefix is) (successor (literal_prefix is))) None
      (λ _ e h. begins_as w (literal_prefix is) (successor (literal_prefix is)) e h)
      (λ _ e h. absurd (none-some e h))))

  text_as : (w : Bool) (t : Option (List ℕ)) (e : Tree Place) → text_matched w x t ≡ Some e → P e
  text_as w None e h = absurd (none-some e h)
  text_as w (Some bs) e h = items_as w (items (chars bs)) e h

  pub matched_as : (o : LikeOptions) (p e : Tree Place) → as_comparisons o x p ≡ Some e → P e
  matched_as o p =
      given_if P o.case_insensitive None (text_matched (not_b o.negated) x (text_in p))
      (λ _ e h. absurd (none-some e h))
      (λ _ e h. text_as (not_b o.negated) (text_in p) e h)

-- ---- such a pattern is a literal

abbrev the_none : Option (Tree Place)
the_none = None

none_either : (b : Bool) → is_some (if b then None else the_none) ≡ true → ⊥
none_either true h = absurd cc
none_either false h = absurd cc

pub literal_pattern : (o : LikeOptions) (x p : Tree Place) → is_some (as_comparisons o x p) ≡ true → is_literal p ≡ true
literal_pattern o x (literal c) h = refl
literal_pattern o x (column d) h = absurd (none_either o.case_insensitive h)
literal_pattern o x (binary op l r) h = absurd (none_either o.case_insensitive h)
literal_pattern o x (between b y l u) h = absurd (none_either o.case_insensitive h)
literal_pattern o x (is_null y) h = absurd (none_either o.case_insensitive h)
literal_pattern o x (is_not_null y) h = absurd (none_either o.case_insensitive h)
literal_pattern o x (not y) h = absurd (none_either o.case_insensitive h)
literal_pattern o x (like q y p) h = absurd (none_either o.case_insensitive h)
literal_pattern o x (stat f y) h = absurd (none_either o.case_insensitive h)
literal_pattern o x row_count h = absurd (none_either o.case_insensitive h)

-- ---- whether it is negated or not, it is compared

some_if : (b : Bool) (m n r s : Option (Tree Place)) → (is_some m ≡ true → is_some r ≡ true) → (is_some n ≡ true → is_some s ≡ true) → is_some (if b then m else n) ≡ true → is_some (if b then r else s) ≡ true
some_if true m n r s f g h = f h
some_if false m n r s f g h = g h

some_begins : (v w : Bool) (x : Tree Place) (cs : List ℕ) (s : Option (List ℕ)) → is_some (begins v x cs s) ≡ true → is_some (begins w x cs s) ≡ true
some_begins v w x cs None h = cc
some_begins v w x cs (Some ds) h = refl

some_items : (v w : Bool) (x : Tree Place) (is : List Item) → is_some (items_matched v x is) ≡ true → is_some (items_matched w x is) ≡ true
some_items v w x is =
    let begun : Option (Tree Place) = if is_beginning is && is_last_raised (literal_prefix is) then begins v x (literal_prefix is) (successor (literal_prefix is)) else None in
    let again : Option (Tree Place) = if is_beginning is && is_last_raised (literal_prefix is) then begins w x (literal_prefix is) (successor (literal_prefix is)) else None in
    some_if (is_exact is) (Some (same_text v x (encode_utf8_all (literal_prefix is)))) (if are_runs is then Some (any_text v x) else begun)
    (Some (same_text w x (encode_utf8_all (literal_prefix is)))) (if are_runs is then Some (any_text w x) else again)
    (λ h. refl)
    (some_if (are_runs is) (Some (any_text v x)) begun (Some (any_text w x)) again (λ h. refl)
    (some_if (is_beginning is && is_last_raised (literal_prefix is)) (begins v x (literal_prefix is) (successor (literal_prefix is))) None (begins w x (literal_prefix is) (successor (literal_prefix is))) None
    (some_begins v w x (literal_prefix is) (successor (literal_prefix is))) (λ h. h)))

some_text : (v w : Bool) (x : Tree Place) (t : Option (List ℕ)) → is_some (text_matched v x t) ≡ true → is_some (text_matched w x t) ≡ true
some_text v w x None h = h
some_text v w x (Some bs) h = some_items v w x (items (chars bs)) h

pub still_matched : (w : Bool) (o : LikeOptions) (x p : Tree Place) → is_some (as_comparisons o x p) ≡ true → is_some (as_comparisons (like_as w o) x p) ≡ true
still_matched true o x p h = h
still_matched false o x p h =
    some_if o.case_insensitive None (text_matched (not_b o.negated) x (text_in p)) None (text_matched (not_b (not_b o.negated)) x (text_in p)) (λ k. k)
    (some_text (not_b o.negated) (not_b (not_b o.negated)) x (text_in p)) h
