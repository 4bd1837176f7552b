-- Narrowed predicates are satisfied by the same rows: only what is known where a leaf stands is put beside it.
use Rattle.std.proofs.Common.{◌≡◌, ℕ, zero, suc, Bool, true, false, ◌&&◌, ◌||◌, ⊎_elim, List, [], ◌∷◌, ◌++◌, Option, Some, None, Result, Ok, Err, IsOk, ◌<◌, cond, find, get_or, length, map, nat_lt, option_map, position, take, refl, sym, ap, ◌∙◌, subst, if◌then◌else◌}
use Rattle.std.specs.List.{AllByRecursion, position_or_len}
use Rattle.std.specs.Prelude.{slice_get}
use Rattle.std.proofs.lemmas.List.{map-append, take-map}
use Rattle.std.proofs.lemmas.List.Folds.{find_at}
use Rattle.std.proofs.lemmas.Bool.{and_parts, ltb-false, or_cases}
use Rattle.std.proofs.lemmas.Option.{same_Some, none-some, slice_get-get_or, slice_get_past}
use Rattle.vortex_base.specs.Data.Exact.{both_hold}
use Rattle.vortex_base.specs.Data.Scalars.{Constant}
use Rattle.vortex_base.specs.declared.dtype.DType.{DType}
use Rattle.vortex_base.specs.declared.error.BaseError.{BaseError}
use Rattle.vortex_expr.specs.Meanings.Meaning.{meaning, satisfies}
use Rattle.vortex_expr.specs.Meanings.Fitting.{is_cell_of}
use Rattle.vortex_expr.specs.Meanings.Typing.{type_of}
use Rattle.vortex_expr.specs.Trees.Tree.{Tree, Place, column, binary, between, is_null, is_not_null}
use Rattle.vortex_expr.specs.Trees.TreeEq.{tree_eq, tree_eq_is_exact}
use Rattle.vortex_expr.specs.declared.scalar_fn.Operator.{Operator}
use Rattle.vortex_expr.specs.declared.scalar_fn.Operator.TheVariants.{Eq, NotEq, Gt, Gte, Lt, Lte, And, Or}
use Rattle.vortex_rewrite.proofs.Rewriting.ProofTypes.{binary_is_predicate, predicates_connect}
use Rattle.vortex_rewrite.proofs.Soundness.TruthLogic.{true_and, true_or}
use Rattle.vortex_rewrite.specs.Rewriting.Falsifiers.{bool_literal}
use Rattle.vortex_rewrite.specs.Rewriting.Predicates.{is_connective, is_predicate}
use Rattle.vortex_normal.specs.Balanced.{balanced}
use Rattle.vortex_normal.specs.Groups.{grouped, normal}
use Rattle.vortex_normal.specs.Links.{consequences, linked, with_all}
use Rattle.vortex_normal.specs.Narrowed.{beside, chain, fact_column, facts, is_about, is_column, joins_or, known_fact, known_within, leaf_facts, narrow, narrowed, tested_column, with_fact}
use Rattle.vortex_normal.specs.Pushed.{pushed}
use Rattle.vortex_normal.specs.Same.{HasNoOther, Same, StaysPlain}
use Rattle.vortex_normal.proofs.Forms.{connected_kept, if_as}
use Rattle.vortex_normal.proofs.Grouped.{grouped_told}
use Rattle.vortex_normal.proofs.GroupsKept.{IsPassedDown, columns_down, grouped_columns, grouped_plain, nodes_down}
use Rattle.vortex_normal.proofs.Kept.{Holds, IsInherited, Lacks, columns_inherited, columns_kept, nodes_inherited, plain_kept}
use Rattle.vortex_normal.proofs.Linking.{consequences_are_predicates, consequences_kept, consequences_true}
use Rattle.vortex_normal.proofs.Pairs.{balanced_has}
use Rattle.vortex_normal.proofs.Steps.{between_is_predicate, sides}
use Rattle.vortex_normal.proofs.TestedKept.{plain_by}
use Rattle.vortex_normal.proofs.Told.{pushed_same}

-- ---- lists that are lent

-- the first of some and then others, by what they lend
pub taken_joined : {A B : Type 0} (v : A → B) (n : ℕ) (start found all first known : List A) (fs : List B) → start ≡ [] → map v found ≡ map v start ++ fs → all ≡ found ++ known → first ≡ take n all → map v first ≡ take n (fs ++ map v known)
taken_joined v n start found all first known fs none pushed joined taken =
    ap (map v) taken
    ∙ sym (take-map v n all)
    ∙ ap (take n) (ap (map v) joined ∙ map-append v found known ∙ ap (λ ys. ys ++ map v known) (pushed ∙ ap (λ xs. map v xs ++ fs) none))

cond_map : {A B : Type 0} (v : A → B) (b : Bool) (x : A) (o : Option A) → option_map v (cond b (Some x) o) ≡ cond b (Some (v x)) (option_map v o)
cond_map v true x o = refl
cond_map v false x o = refl

find_lent : {A B : Type 0} (v : A → B) (p : B → Bool) (xs : List A) → find p (map v xs) ≡ option_map v (find (λ x. p (v x)) xs)
find_lent v p [] = refl
find_lent v p (x ∷ xs) =
    ap (λ o. cond (p (v x)) (Some (v x)) o) (find_lent v p xs) ∙ sym (cond_map v (p (v x)) x (find (λ y. p (v y)) xs))

cond_some : (b : Bool) (m i : ℕ) → cond b (Some m) None ≡ Some i → m ≡ i
cond_some true m i h = same_Some _ _ h
cond_some false m i h = absurd (none-some i h)

cond_none : (b : Bool) (m : ℕ) → cond b (Some m) None ≡ None → b ≡ false
cond_none true m h = cc
cond_none false m h = refl

-- what is found stands at the place that is found
pub found_here : {A B : Type 0} (v : A → B) (p : B → Bool) (xs : List A) (i : ℕ) (d : A) → position (λ x. p (v x)) xs ≡ Some i → i < length xs → get_or xs i d ≡ d → Some (v d) ≡ find p (map v xs)
found_here {A = A} v p xs i d is here same =
    let q = λ (x : A). p (v x) in
    let at : position_or_len q xs ≡ i = cond_some (nat_lt (position_or_len q xs) (length xs)) (position_or_len q xs) i is in
    sym
    (find_lent v p xs
    ∙ ap (option_map v) (find_at q xs ∙ ap (slice_get xs) at ∙ slice_get-get_or xs i d here ∙ ap Some same))

pub found_nowhere : {A B : Type 0} (v : A → B) (p : B → Bool) (xs : List A) → position (λ x. p (v x)) xs ≡ None → None ≡ find p (map v xs)
found_nowhere {A = A} v p xs is =
    let q = λ (x : A). p (v x) in
    let m = position_or_len q xs in
    sym
    (find_lent v p xs
    ∙ ap (option_map v) (find_at q xs ∙ slice_get_past xs m (ltb-false m (length xs) (cond_none (nat_lt m (length xs)) m is))))

-- ---- facts are predicates

null_fact : (x d : Tree Place) → tested_column x ≡ Some d → (is_predicate (is_null x) ≡ true) × (is_predicate (is_not_null x) ≡ true)
null_fact (column c) d h = (refl, refl)
null_fact x d h = absurd (none-some d h)

typed_as : (r : Result DType BaseError) (t : DType) → r ≡ Ok t → IsOk r
typed_as (Ok s) t h = refl
typed_as (Err f) t h = cc

fact_is_predicate : (f d : Tree Place) (t : DType) → fact_column f ≡ Some d → type_of f ≡ Ok t → is_predicate f ≡ true
fact_is_predicate (binary o l r) d t h k = binary_is_predicate o l r (typed_as (type_of (binary o l r)) t k)
fact_is_predicate (between o x l u) d t h k = between_is_predicate o x l u (typed_as (type_of (between o x l u)) t k)
fact_is_predicate (is_null x) d t h k = (null_fact x d h).0
fact_is_predicate (is_not_null x) d t h k = (null_fact x d h).1
fact_is_predicate e d t h k = absurd (none-some d h)

about_fact : (c : Tree Place) (o : Option (Tree Place)) → is_column c o ≡ true → (d : Tree Place) × (o ≡ Some d)
about_fact c None h = absurd cc
about_fact c (Some d) h = (d, refl)

passes_if : (test : Tree Place → Bool) (k f : Tree Place) (o : Option (Tree Place)) (b : Bool) → test k ≡ b → (o ≡ Some f → test f ≡ true) → cond b (Some k) o ≡ Some f → test f ≡ true
passes_if test k f o true e g is = ap test (sym (same_Some _ _ is)) ∙ e
passes_if test k f o false e g is = g is

found_passes : (test : Tree Place → Bool) (known : List (Tree Place)) (f : Tree Place) → find test known ≡ Some f → test f ≡ true
found_passes test [] f is = absurd (none-some f is)
found_passes test (k ∷ ks) f is = passes_if test k f (find test ks) (test k) refl (found_passes test ks f) is

pub known_is_predicate : (known : List (Tree Place)) (o : Option (Tree Place)) (f : Tree Place) (t : DType) → known_fact known o ≡ Some f → type_of f ≡ Ok t → is_predicate f ≡ true
known_is_predicate known None f t is h = absurd (none-some f is)
known_is_predicate known (Some c) f t is h =
    let w = about_fact c (fact_column f) (found_passes (is_about c) known f is) in
    fact_is_predicate f w.0 t w.1 h

-- ---- a property of all that is known

module _ (P : Tree Place → Type 0) where
  abbrev AllKnown : List (Tree Place) → Type 0
  AllKnown known = AllByRecursion P known

  all_if : (k f : Tree Place) (o : Option (Tree Place)) (b : Bool) → P k → (o ≡ Some f → P f) → cond b (Some k) o ≡ Some f → P f
  all_if k f o true h g is = subst P (same_Some _ _ is) h
  all_if k f o false h g is = g is

  found_all : (test : Tree Place → Bool) (known : List (Tree Place)) (f : Tree Place) → AllKnown known → find test known ≡ Some f → P f
  found_all test [] f h is = absurd (none-some f is)
  found_all test (k ∷ ks) f h is = all_if k f (find test ks) (test k) h.0 (found_all test ks f h.1) is

  known_all : (known : List (Tree Place)) (c : Option (Tree Place)) (f : Tree Place) → AllKnown known → known_fact known c ≡ Some f → P f
  known_all known None f h is = absurd (none-some f is)
  known_all known (Some c) f h is = found_all (is_about c) known f h is

  first_all : (n : ℕ) (known : List (Tree Place)) → AllKnown known → AllKnown (take n known)
  first_all zero known h = tt
  first_all (suc n) [] h = tt
  first_all (suc n) (k ∷ ks) h = (h.0, first_all n ks h.1)

  joined_all : (fs gs : List (Tree Place)) → AllKnown fs → AllKnown gs → AllKnown (fs ++ gs)
  joined_all [] gs h k = k
  joined_all (f ∷ fs) gs h k = (h.0, joined_all fs gs h.1 k)

  within_if : (b : Bool) (e : Tree Place) (known : List (Tree Place)) → AllKnown (facts e) → AllKnown known → AllKnown (if b then take 32 (facts e ++ known) else known)
  within_if true e known h k = first_all 32 (facts e ++ known) (joined_all (facts e) known h k)
  within_if false e known h k = k

  within_all : (e : Tree Place) (known : List (Tree Place)) → AllKnown (facts e) → AllKnown known → AllKnown (known_within e known)
  within_all e known h k = within_if (joins_or e) e known h k

  leaf_all : (c : Option (Tree Place)) (e : Tree Place) → P e → AllKnown (leaf_facts c e)
  leaf_all None e h = tt
  leaf_all (Some c) e h = (h, tt)

  -- the facts of a predicate have what passes from an AND to its sides
  facts_all : ((l r : Tree Place) → P (binary And l r) → P l × P r) → (e : Tree Place) → P e → AllKnown (facts e)
  facts_all down (binary And l r) h = let p = down l r h in joined_all (facts l) (facts r) (facts_all down l p.0) (facts_all down r p.1)
  facts_all down (binary Or l r) h = leaf_all (fact_column (binary Or l r)) (binary Or l r) h
  facts_all down (binary Eq l r) h = leaf_all (fact_column (binary Eq l r)) (binary Eq l r) h
  facts_all down (binary NotEq l r) h = leaf_all (fact_column (binary NotEq l r)) (binary NotEq l r) h
  facts_all down (binary Gt l r) h = leaf_all (fact_column (binary Gt l r)) (binary Gt l r) h
  facts_all down (binary Gte l r) h = leaf_all (fact_column (binary Gte l r)) (binary Gte l r) h
  facts_all down (binary Lt l r) h = leaf_all (fact_column (binary Lt l r)) (binary Lt l r) h
  facts_all down (binary Lte l r) h = leaf_all (fact_column (binary Lte l r)) (binary Lte l r) h
  facts_all down e h = leaf_all (fact_column e) e h

-- ---- rows

and_true : (u v : Bool) → u ≡ true → v ≡ true → (u && v) ≡ true
and_true u v h k = both_hold _ _ h k

or_left : (u v : Bool) → u ≡ true → (u || v) ≡ true
or_left u v h = ap (λ b. b || v) h

or_right : (u v : Bool) → v ≡ true → (u || v) ≡ true
or_right true v h = refl
or_right false v h = h

same_truth : (a b : Bool) → (a ≡ true → b ≡ true) → (b ≡ true → a ≡ true) → a ≡ b
same_truth true b f g = sym (f refl)
same_truth false true f g = g refl
same_truth false false f g = refl

module _ (row : List Constant) (n : ℕ) where
  abbrev IsTrueHere : Tree Place → Type 0
  IsTrueHere e = satisfies e row n ≡ true

  abbrev all_true : List (Tree Place) → Type 0
  all_true known = AllByRecursion IsTrueHere known

  both_here : (l r : Tree Place) → IsTrueHere l → IsTrueHere r → IsTrueHere (binary And l r)
  both_here l r h k = true_and (meaning l row n) (meaning r row n) ∙ and_true (satisfies l row n) (satisfies r row n) h k

  each_here : (l r : Tree Place) → IsTrueHere (binary And l r) → IsTrueHere l × IsTrueHere r
  each_here l r h = and_parts (satisfies l row n) (satisfies r row n) (sym (true_and (meaning l row n) (meaning r row n)) ∙ h)

  first_here : (l r : Tree Place) → IsTrueHere l → IsTrueHere (binary Or l r)
  first_here l r h = true_or (meaning l row n) (meaning r row n) ∙ or_left (satisfies l row n) (satisfies r row n) h

  second_here : (l r : Tree Place) → IsTrueHere r → IsTrueHere (binary Or l r)
  second_here l r h = true_or (meaning l row n) (meaning r row n) ∙ or_right (satisfies l row n) (satisfies r row n) h

  -- a side of an OR that is true, replaced
  side_here : (l r u v : Tree Place) → (IsTrueHere l → IsTrueHere u) → (IsTrueHere r → IsTrueHere v) → IsTrueHere (binary Or l r) → IsTrueHere (binary Or u v)
  side_here l r u v f g h =
      ⊎_elim (λ a. first_here u v (f a)) (λ b. second_here u v (g b)) (or_cases (satisfies l row n) (satisfies r row n) (sym (true_or (meaning l row n) (meaning r row n)) ∙ h))

  within_true : (e : Tree Place) (known : List (Tree Place)) → IsTrueHere e → all_true known → all_true (known_within e known)
  within_true e known h k = within_all IsTrueHere e known (facts_all IsTrueHere each_here e h) k

  all_here : (cs : List (Tree Place)) → all_true cs → IsTrueHere (balanced true cs)
  all_here cs h =
      balanced_has IsTrueHere true (λ l r a b. connected_kept IsTrueHere l r a b true (both_here l r a b) (first_here l r a)) cs refl h

  with_less : (q : Tree Place) (cs : List (Tree Place)) → IsTrueHere (with_all q cs) → IsTrueHere q
  with_less q [] h = h
  with_less q (c ∷ cs) h = (each_here q (balanced true (c ∷ cs)) h).0

  with_more : (q : Tree Place) (cs : List (Tree Place)) → all_true cs → IsTrueHere q → IsTrueHere (with_all q cs)
  with_more q [] k h = h
  with_more q (c ∷ cs) k h = both_here q (balanced true (c ∷ cs)) h (all_here (c ∷ cs) k)

  linked_less : (e q : Tree Place) → IsTrueHere (linked e q) → IsTrueHere q
  linked_less e q h = with_less q (consequences e) h

  linked_more : (e q : Tree Place) → IsTrueHere e → IsTrueHere q → IsTrueHere (linked e q)
  linked_more e q k h = with_more q (consequences e) (consequences_true row n each_here e k) h

  -- ---- what a narrowed predicate is true of, the predicate is

  fact_less : (f : Option (Tree Place)) (e : Tree Place) → IsTrueHere (with_fact f e) → IsTrueHere e
  fact_less None e h = h
  fact_less (Some f) e h = (each_here e f h).0

  beside_less : (known : List (Tree Place)) (e : Tree Place) → IsTrueHere (beside known e) → IsTrueHere e
  beside_less known e h = fact_less (known_fact known (fact_column e)) e h

  chain_less : (outer inner : List (Tree Place)) (e : Tree Place) → IsTrueHere (chain outer inner e) → IsTrueHere e
  chain_less outer inner (binary And l r) h =
      let p = each_here (chain outer inner l) (chain outer inner r) h in
      both_here l r (chain_less outer inner l p.0) (chain_less outer inner r p.1)
  chain_less outer inner (binary Or l r) h =
      let u = chain inner (known_within l inner) l in
      let v = chain inner (known_within r inner) r in
      side_here (linked l u) (linked r v) l r (λ a. chain_less inner (known_within l inner) l (linked_less l u a)) (λ b. chain_less inner (known_within r inner) r (linked_less r v b)) h
  chain_less outer inner (binary Eq l r) h = beside_less outer (binary Eq l r) h
  chain_less outer inner (binary NotEq l r) h = beside_less outer (binary NotEq l r) h
  chain_less outer inner (binary Gt l r) h = beside_less outer (binary Gt l r) h
  chain_less outer inner (binary Gte l r) h = beside_less outer (binary Gte l r) h
  chain_less outer inner (binary Lt l r) h = beside_less outer (binary Lt l r) h
  chain_less outer inner (binary Lte l r) h = beside_less outer (binary Lte l r) h
  chain_less outer inner e h = beside_less outer e h

  -- ---- where all that is known is true, it loses nothing

  fact_more : (f : Option (Tree Place)) (e : Tree Place) → ((g : Tree Place) → f ≡ Some g → IsTrueHere g) → IsTrueHere e → IsTrueHere (with_fact f e)
  fact_more None e k h = h
  fact_more (Some f) e k h = both_here e f h (k f refl)

  beside_more : (known : List (Tree Place)) (e : Tree Place) → all_true known → IsTrueHere e → IsTrueHere (beside known e)
  beside_more known e k h = fact_more (known_fact known (fact_column e)) e (λ f is. known_all IsTrueHere known (fact_column e) f k is) h

  chain_more : (outer inner : List (Tree Place)) (e : Tree Place) → all_true outer → all_true inner → IsTrueHere e → IsTrueHere (chain outer inner e)
  chain_more outer inner (binary And l r) j k h =
      let p = each_here l r h in
      both_here (chain outer inner l) (chain outer inner r) (chain_more outer inner l j k p.0) (chain_more outer inner r j k p.1)
  chain_more outer inner (binary Or l r) j k h =
      let u = chain inner (known_within l inner) l in
      let v = chain inner (known_within r inner) r in
      side_here l r (linked l u) (linked r v)
      (λ a. linked_more l u a (chain_more inner (known_within l inner) l k (within_true l inner a k) a))
      (λ b. linked_more r v b (chain_more inner (known_within r inner) r k (within_true r inner b k) b)) h
  chain_more outer inner (binary Eq l r) j k h = beside_more outer (binary Eq l r) j h
  chain_more outer inner (binary NotEq l r) j k h = beside_more outer (binary NotEq l r) j h
  chain_more outer inner (binary Gt l r) j k h = beside_more outer (binary Gt l r) j h
  chain_more outer inner (binary Gte l r) j k h = beside_more outer (binary Gte l r) j h
  chain_more outer inner (binary Lt l r) j k h = beside_more outer (binary Lt l r) j h
  chain_more outer inner (binary Lte l r) j k h = beside_more outer (binary Lte l r) j h
  chain_more outer inner e j k h = beside_more outer e j h

  pub narrowed_same : (e : Tree Place) → satisfies (narrowed e) row n ≡ satisfies e row n
  narrowed_same e =
      let known = known_within e [] in
      let q = chain [] known e in
      same_truth (satisfies (narrowed e) row n) (satisfies e row n)
      (λ h. chain_less [] known e (linked_less e q h))
      (λ h. linked_more e q h (chain_more [] known e tt (within_true e [] h tt) h))

-- ---- what predicates and what they join have alike

module _ (P : Tree Place → Type 0)
    (join : (o : Operator) (l r : Tree Place) → is_connective o ≡ true → P l → P r → P (binary o l r))
    (split : (o : Operator) (l r : Tree Place) → is_connective o ≡ true → P (binary o l r) → P l × P r)
    (truth : P (bool_literal true)) (follow : (e : Tree Place) → P e → AllByRecursion P (consequences e)) where
  with_kept : (q : Tree Place) (cs : List (Tree Place)) → P q → AllByRecursion P cs → P (with_all q cs)
  with_kept q [] h k = h
  with_kept q (c ∷ cs) h k =
      join And q (balanced true (c ∷ cs)) refl h
      (balanced_has P true (λ l r a b. connected_kept P l r a b true (join And l r refl a b) (join Or l r refl a b)) (c ∷ cs) truth k)

  linked_kept : (e q : Tree Place) → P e → P q → P (linked e q)
  linked_kept e q h k = with_kept q (consequences e) k (follow e h)

  fact_kept : (f : Option (Tree Place)) (e : Tree Place) → ((g : Tree Place) → f ≡ Some g → P g) → P e → P (with_fact f e)
  fact_kept None e k h = h
  fact_kept (Some f) e k h = join And e f refl h (k f refl)

  beside_kept : (known : List (Tree Place)) (e : Tree Place) → AllByRecursion P known → P e → P (beside known e)
  beside_kept known e k h = fact_kept (known_fact known (fact_column e)) e (λ f is. known_all P known (fact_column e) f k is) h

  within_kept : (e : Tree Place) (known : List (Tree Place)) → P e → AllByRecursion P known → AllByRecursion P (known_within e known)
  within_kept e known h k = within_all P e known (facts_all P (λ l r. split And l r refl) e h) k

  chain_kept : (outer inner : List (Tree Place)) (e : Tree Place) → AllByRecursion P outer → AllByRecursion P inner → P e → P (chain outer inner e)
  chain_kept outer inner (binary And l r) j k h =
      let p = split And l r refl h in
      join And (chain outer inner l) (chain outer inner r) refl (chain_kept outer inner l j k p.0) (chain_kept outer inner r j k p.1)
  chain_kept outer inner (binary Or l r) j k h =
      let p = split Or l r refl h in
      let u = chain inner (known_within l inner) l in
      let v = chain inner (known_within r inner) r in
      join Or (linked l u) (linked r v) refl
      (linked_kept l u p.0 (chain_kept inner (known_within l inner) l k (within_kept l inner p.0 k) p.0))
      (linked_kept r v p.1 (chain_kept inner (known_within r inner) r k (within_kept r inner p.1 k) p.1))
  chain_kept outer inner (binary Eq l r) j k h = beside_kept outer (binary Eq l r) j h
  chain_kept outer inner (binary NotEq l r) j k h = beside_kept outer (binary NotEq l r) j h
  chain_kept outer inner (binary Gt l r) j k h = beside_kept outer (binary Gt l r) j h
  chain_kept outer inner (binary Gte l r) j k h = beside_kept outer (binary Gte l r) j h
  chain_kept outer inner (binary Lt l r) j k h = beside_kept outer (binary Lt l r) j h
  chain_kept outer inner (binary Lte l r) j k h = beside_kept outer (binary Lte l r) j h
  chain_kept outer inner e j k h = beside_kept outer e j h

  narrowed_kept : (e : Tree Place) → P e → P (narrowed e)
  narrowed_kept e h = linked_kept e (chain [] (known_within e []) e) h (chain_kept [] (known_within e []) e tt (within_kept e [] h tt) h)

narrowed_is_predicate : (e : Tree Place) → is_predicate e ≡ true → is_predicate (narrowed e) ≡ true
narrowed_is_predicate e h = narrowed_kept (λ x. is_predicate x ≡ true) (λ o l r c a b. binary_is_predicate o l r (predicates_connect o l r c a b)) sides refl (λ x _. consequences_are_predicates x) e h

narrowed_passed : (P : Tree Place → Type 0) → IsInherited P → IsPassedDown P → (e : Tree Place) → P e → P (narrowed e)
narrowed_passed P i d e h = narrowed_kept P (λ o l r c a b. i.of_binary o l r a b) (λ o l r c p. d.of_sides o l r p) (i.of_literal _) (consequences_kept P i d) e h

narrowed_columns : (e : Tree Place) → HasNoOther e (narrowed e)
narrowed_columns e test h = narrowed_passed (Holds test) (columns_inherited test) (columns_down test) e h

narrowed_plain : (e : Tree Place) → StaysPlain e (narrowed e)
narrowed_plain e = plain_by e (narrowed e) (λ test t. narrowed_passed (Lacks test t) (nodes_inherited test t) (nodes_down test t) e)

-- ---- grouped anew, if a fact was gained

pub narrow_left : (q e : Tree Place) → q ≡ narrowed e → tree_eq q e ≡ true → q ≡ narrow e
narrow_left q e is h =
    let same : tree_eq (narrowed e) e ≡ true = ap (λ x. tree_eq x e) (sym is) ∙ h in
    (tree_eq_is_exact q e).0 h ∙ sym (ap (λ (b : Bool). if b then e else normal (narrowed e)) same)

pub narrow_anew : (q e g : Tree Place) → q ≡ narrowed e → tree_eq q e ≡ false → g ≡ grouped (pushed true q) → g ≡ narrow e
narrow_anew q e g is h made =
    let other : tree_eq (narrowed e) e ≡ false = ap (λ x. tree_eq x e) (sym is) ∙ h in
    made ∙ ap normal is ∙ sym (ap (λ (b : Bool). if b then e else normal (narrowed e)) other)

pub narrow_same : (e : Tree Place) → is_predicate e ≡ true → Same e (narrow e)
narrow_same e p =
    if_as (Same e) (tree_eq (narrowed e) e) e (normal (narrowed e)) (λ _ row n r fits small. refl)
    (λ _ row n r fits small. grouped_told row n (pushed true (narrowed e))
    ∙ pushed_same (narrowed e) (narrowed_is_predicate e p) row n r (narrowed_columns e (λ c. is_cell_of c.dtype (slice_get row c.index)) fits) small
    ∙ narrowed_same row n e)

pub narrow_columns : (e : Tree Place) → HasNoOther e (narrow e)
narrow_columns e =
    if_as (HasNoOther e) (tree_eq (narrowed e) e) e (normal (narrowed e)) (λ _ test h. h)
    (λ _ test h. grouped_columns test (pushed true (narrowed e)) (columns_kept test true (narrowed e) (narrowed_columns e test h)))

pub narrow_plain : (e : Tree Place) → StaysPlain e (narrow e)
narrow_plain e =
    if_as (StaysPlain e) (tree_eq (narrowed e) e) e (normal (narrowed e)) (λ _ h. h)
    (λ _ h. grouped_plain (pushed true (narrowed e)) (plain_kept (narrowed e) (narrowed_plain e h)))
