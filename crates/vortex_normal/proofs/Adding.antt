-- Where what is said of a column is joined to the items of a chain: at the first item of the column, or behind all.
use Rattle.std.proofs.Common.{◌≡◌, ℕ, zero, suc, Bool, true, false, List, [], ◌∷◌, ◌++◌, Some, None, ◌<◌, ◌≤◌, length, map, set, get_or, sym, ap, ◌∙◌, if◌then◌else◌, arith}
use Rattle.std.specs.List.{position, position_or_len}
use Rattle.std.proofs.lemmas.Grind.{common_steps}
use Rattle.std.proofs.lemmas.List.Quantifiers.{position-Some}
use Rattle.std.proofs.lemmas.List.Sums.{fails_before_first}
use Rattle.vortex_expr.specs.Trees.Tree.{Place}
use Rattle.vortex_normal.specs.declared.groups.Item.{Item as Kept}
use Rattle.vortex_normal.specs.Groups.{inside, add_sets, is_of, item_of, widened}
use Rattle.vortex_normal.specs.Intervals.{Interval}

none_pass : {X : Type 0} (p : X → Bool) (xs : List X) (d : X) → position p xs ≡ None → (k : ℕ) → k < length xs → p (get_or xs k d) ≡ false
none_pass p xs d e k lt =
    let at : length xs ≤ position_or_len p xs = grind (arith, common_steps) in
    fails_before_first p xs k d (omega arith)

module _ (w : Bool) (c : Place) (m : Bool) (iss : List (List Interval)) where
  add_at : (js : List Kept) (i : ℕ) (new d : Kept) → i < length js → is_of c (item_of (get_or js i d)) ≡ true → ((k : ℕ) → k < i → is_of c (item_of (get_or js k d)) ≡ false)
      → item_of new ≡ widened w m iss (item_of (get_or js i d)) → map item_of (set js i new) ≡ add_sets w c m iss (map item_of js)
  add_at [] i new d l h f e = absurd (omega arith)
  add_at (j ∷ js) zero new d l h f e =
      ap (λ n. n ∷ map item_of js) e
      ∙ sym (ap (λ b. if b then widened w m iss (item_of j) ∷ map item_of js else item_of j ∷ add_sets w c m iss (map item_of js)) h)
  add_at (j ∷ js) (suc i) new d l h f e =
      ap (λ r. item_of j ∷ r) (add_at js i new d (omega arith) h (λ k lt. f (suc k) (omega arith)) e)
      ∙ sym (ap (λ b. if b then widened w m iss (item_of j) ∷ map item_of js else item_of j ∷ add_sets w c m iss (map item_of js)) (f zero (omega arith)))

  add_behind : (js : List Kept) (new : Kept) → ((k : ℕ) → k < length js → is_of c (item_of (get_or js k new)) ≡ false) → item_of new ≡ inside c m iss
      → map item_of (js ++ new ∷ []) ≡ add_sets w c m iss (map item_of js)
  add_behind [] new f e = ap (λ n. n ∷ []) e
  add_behind (j ∷ js) new f e =
      ap (λ r. item_of j ∷ r) (add_behind js new (λ k lt. f (suc k) (omega arith)) e)
      ∙ sym (ap (λ b. if b then widened w m iss (item_of j) ∷ map item_of js else item_of j ∷ add_sets w c m iss (map item_of js)) (f zero (omega arith)))

  pub add_found : (js : List Kept) (i : ℕ) (new d : Kept) → position (λ j. is_of c (item_of j)) js ≡ Some i → item_of new ≡ widened w m iss (item_of (get_or js i d))
      → map item_of (set js i new) ≡ add_sets w c m iss (map item_of js)
  add_found js i new d h e =
      let k = position-Some (λ j. is_of c (item_of j)) js i d h in
      add_at js i new d k.0 k.1 k.2 e

  pub add_new : (js : List Kept) (new : Kept) → position (λ j. is_of c (item_of j)) js ≡ None → item_of new ≡ inside c m iss
      → map item_of (js ++ new ∷ []) ≡ add_sets w c m iss (map item_of js)
  add_new js new h e = add_behind js new (none_pass (λ j. is_of c (item_of j)) js new h) e
