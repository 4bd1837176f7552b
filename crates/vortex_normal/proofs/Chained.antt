-- The index of a chain's items, one item on and with one item changed.
use Rattle.std.proofs.Common.{◌≡◌, ℕ, Bool, true, false, ◌&&◌, List, [], ◌∷◌, ◌++◌, ◌+◌, ◌<◌, Option, Some, None, cond, length, nat_lt as ltb, set, get_or, refl, sym, ap, ap₂, subst, ◌∙◌, inl, inr, ⊎_elim, ◌==◌, arith}
use Rattle.std.specs.BTreeMap.{BTreeMap, Updates, get}
use Rattle.std.specs.List.{position, position_from}
use Rattle.std.specs.Ordering.{is_eq, nat_cmp}
use Rattle.std.proofs.lemmas.Bool.{cases_Bool, cases_eq, cond-true, cond-false}
use Rattle.std.proofs.lemmas.Bool.Decides.{nat_tests}
use Rattle.std.proofs.lemmas.Iterator.Adapters.{position_from-zero}
use Rattle.std.proofs.lemmas.List.{length-set, length_push, get_or-set_same, get_or-set_other, get_or_append_left, get_or_default, get_or_push}
use Rattle.std.proofs.lemmas.List.Folds.{position_or_len-set}
use Rattle.vortex_expr.specs.Trees.Tree.{Place}
use Rattle.vortex_base.specs.Data.Types.{dtype_eq}
use Rattle.vortex_expr.specs.Trees.TreeEq.{place_eq}
use Rattle.vortex_normal.specs.declared.groups.Item.{Item as Kept}
use Rattle.vortex_normal.specs.Chains.{IsIndexOf, Tells, item_at}
use Rattle.vortex_normal.specs.Groups.{Item, inside, other, is_of, item_of, widened}
use Rattle.vortex_normal.specs.Intervals.{Interval}
use Rattle.vortex_normal.proofs.Columns.{same_place}

-- ---- places in lists

module _ {X : Type 0} (p : X → Bool) where
  from_failing : (y : X) → p y ≡ false → (i : ℕ) (xs : List X) → position_from p i (xs ++ y ∷ []) ≡ position_from p i xs
  from_failing y fails i [] = cond-false (p y) (Some i) None fails
  from_failing y fails i (x ∷ xs) = ap (λ o. cond (p x) (Some i) o) (from_failing y fails (i + 1) xs)

  from_passing : (y : X) → p y ≡ true → (i : ℕ) (xs : List X) → position_from p i xs ≡ None → position_from p i (xs ++ y ∷ []) ≡ Some (i + length xs)
  from_passing y passes i [] none = cond-true (p y) (Some i) None passes ∙ ap Some (omega arith)
  from_passing y passes i (x ∷ xs) none = elim (cases_Bool (p x)) [
    | inl here ↦ (let e = rw here at none in cc)
    | inr fails ↦ (let later : position_from p (i + 1) xs ≡ None = rw fails at none in
        cond-false (p x) (Some i) (position_from p (i + 1) (xs ++ y ∷ [])) fails ∙ from_passing y passes (i + 1) xs later ∙ ap Some (omega arith))
  ]

  pub after_failing : (xs : List X) (y : X) → p y ≡ false → position p (xs ++ y ∷ []) ≡ position p xs
  after_failing xs y fails = position_from-zero p (xs ++ y ∷ []) ∙ from_failing y fails 0 xs ∙ sym (position_from-zero p xs)

  pub after_passing : (xs : List X) (y : X) → p y ≡ true → position p xs ≡ None → position p (xs ++ y ∷ []) ≡ Some (length xs)
  after_passing xs y passes none =
      position_from-zero p (xs ++ y ∷ []) ∙ from_passing y passes 0 xs (sym (position_from-zero p xs) ∙ none) ∙ ap Some (omega arith)

  pub changed : (xs : List X) (i : ℕ) (y d : X) → p y ≡ p (get_or xs i d) → position p (set xs i y) ≡ position p xs
  changed xs i y d same = ap₂ (λ n l. cond (ltb n l) (Some n) None) (position_or_len-set p xs i y d same) (length-set xs i y)

-- ---- one item changed, which stays of its column

abbrev is_kept_of : Place → Kept → Bool
is_kept_of c item = is_of c (item_of item)

module _ (items : List Kept) (i : ℕ) (new : Kept) (same : (c : Place) (e : Kept) → is_kept_of c new ≡ is_kept_of c (get_or items i e)) where
  same_at : (c : Place) (n : ℕ) (e : Kept) → n < length items → is_kept_of c (get_or (set items i new) n e) ≡ is_kept_of c (get_or items n e)
  same_at c n e lt =
      ⊎_elim
      (λ (q : n ≡ i). let inside_list : i < length items = omega (arith, q) in
      ap (λ m. is_kept_of c (get_or (set items i new) m e)) q ∙ ap (is_kept_of c) (get_or-set_same items i new e inside_list) ∙ same c e ∙ sym (ap (λ m. is_kept_of c (get_or items m e)) q))
      (λ ne. ap (is_kept_of c) (get_or-set_other items i n new e ne))
      (cases_eq n i)

  changed_tells : (c : Place) (o : Option ℕ) → Tells c items o → Tells c (set items i new) o
  changed_tells c None h = changed (is_kept_of c) items i new new (same c new) ∙ h
  changed_tells c (Some n) h =
      let long = length-set items i new in
      let lt = h.0 in (
        omega arith,
        λ e k. changed (is_kept_of c) items i new new (same c new) ∙ h.1 e (sym (same_at c n e lt) ∙ k),
      )

  pub index_changed : (places : BTreeMap ℕ ℕ) → IsIndexOf items places → IsIndexOf (set items i new) places
  index_changed places h c = changed_tells c (get nat_cmp places c.index) (h c)

-- what is said of a column stays of it
still_of : (c : Place) (w m : Bool) (iss : List (List Interval)) (x : Item) → is_of c (widened w m iss x) ≡ is_of c x
still_of c w m iss (inside d n jss) = refl
still_of c w m iss (other e) = refl

pub widened_of : (w m : Bool) (iss : List (List Interval)) (items : List Kept) (i : ℕ) (new old : Kept) → i < length items → old ≡ get_or items i old → item_of new ≡ widened w m iss (item_of old)
    → (c : Place) (e : Kept) → is_kept_of c new ≡ is_kept_of c (get_or items i e)
widened_of w m iss items i new old lt at is c e =
    ap (is_of c) is ∙ still_of c w m iss (item_of old) ∙ ap (is_kept_of c) (at ∙ get_or_default items i old e lt)

-- ---- one more

behind_tells : (c : Place) (items : List Kept) (new : Kept) → is_kept_of c new ≡ false → (o : Option ℕ) → Tells c items o → Tells c (items ++ new ∷ []) o
behind_tells c items new fails None h = after_failing (is_kept_of c) items new fails ∙ h
behind_tells c items new fails (Some n) h =
    let long = length_push items new in
    let lt = h.0 in (
      omega arith,
      λ e k. after_failing (is_kept_of c) items new fails ∙ h.1 e (sym (ap (is_kept_of c) (get_or_append_left items (new ∷ []) e n lt)) ∙ k),
    )

pub index_other : (items : List Kept) (places : BTreeMap ℕ ℕ) (new : Kept) → ((c : Place) → is_kept_of c new ≡ false) → IsIndexOf items places → IsIndexOf (items ++ new ∷ []) places
index_other items places new fails h c = behind_tells c items new (fails c) (get nat_cmp places c.index) (h c)

apart_test : (i j : ℕ) → (i ≡ j → ⊥) → (i == j) ≡ false
apart_test i j ne = grind (arith, nat_tests)

apart_key : (i j : ℕ) → (i ≡ j → ⊥) → is_eq (nat_cmp j i) ≡ false
apart_key i j ne = grind (arith, nat_tests)

module _ (items : List Kept) (new : Kept) (c : Place) (own : (d : Place) → is_kept_of d new ≡ place_eq d c) (absent : item_at c items ≡ None) where
  own_tells : (d : Place) → Tells d (items ++ new ∷ []) (Some (length items))
  own_tells d =
      let long = length_push items new in (
        omega arith,
        λ e k.
            let passes : is_kept_of d new ≡ true = sym (ap (is_kept_of d) (get_or_push items new e (length items) refl)) ∙ k in
            let none : item_at d items ≡ None = subst (λ p. item_at p items ≡ None) (sym (same_place d c (sym (own d) ∙ passes))) absent in
            after_passing (is_kept_of d) items new passes none,
      )

  pub index_more : (old places : BTreeMap ℕ ℕ) → Updates nat_cmp old places c.index (Some (length items)) → IsIndexOf items old → IsIndexOf (items ++ new ∷ []) places
  index_more old places update h d =
      ⊎_elim
      (λ (e : d.index ≡ c.index). subst (Tells d (items ++ new ∷ [])) (sym (ap (get nat_cmp places) e ∙ update.1)) (own_tells d))
      (λ ne. subst (Tells d (items ++ new ∷ [])) (sym (update.2 d.index (apart_key d.index c.index ne)))
      (behind_tells d items new (own d ∙ ap (λ b. b && dtype_eq d.dtype c.dtype) (apart_test d.index c.index ne)) (get nat_cmp old d.index) (h d)))
      (cases_eq d.index c.index)

-- ---- what the map tells at a column's place

pub told : (c : Place) (items : List Kept) (places : BTreeMap ℕ ℕ) (o p : Option ℕ) → o ≡ get nat_cmp places c.index → o ≡ p → IsIndexOf items places → Tells c items p
told c items places o p h e index = subst (Tells c items) (sym h ∙ e) (index c)
