-- The places of columns by their names, with one more column.
use Rattle.std.proofs.Common.{◌≡◌, ◌+◌, ◌<◌, ℕ, Bool, true, false, cond, List, [], ◌∷◌, ◌++◌, IfSome, Option, None, Some, String, Vec, get_or, length, length-append, option_map, slice_get, string_bytes, refl, ap, sym, subst, ◌∙◌, inl, inr, arith}
use Rattle.std.proofs.Math.Seq.{get_or-append_seam}
use Rattle.std.proofs.lemmas.Bool.{cases_Bool, cases_lt, cond-true, cond-false}
use Rattle.std.proofs.lemmas.List.{get_or_append_left}
use Rattle.std.proofs.lemmas.Option.{get_or_from_slice_get, slice_get-map, slice_get_read, slice_get_within}
use Rattle.std.proofs.lemmas.Iterator.Adapters.{position_from-zero}
use Rattle.std.proofs.lemmas.Map.Text.{is_eq-slice_cmp}
use Rattle.std.specs.BTreeMap.{BTreeMap, UpdatesBy}
use Rattle.std.specs.Cmp.{eq_by_cmp_equiv}
use Rattle.std.specs.Cmp.Lexicographic.{bytes_decides, nat_list_cmp_total, nat_list_eq_equiv, slice_cmp}
use Rattle.std.specs.List.{position_from}
use Rattle.std.specs.Map.{AreApart, IsKeyTest, KeepsOthers, lookup}
use Rattle.std.specs.Ordering.{is_eq, nat_cmp}
use Rattle.std.specs.Str.{bytes_eq}
use Rattle.std.specs.declared.alloc.Global.{Global}
use Rattle.vortex_base.proofs.Data.MapLemmas.{position-map}
use Rattle.vortex_expr.specs.Meanings.Binding.{find_column}
use Rattle.vortex_base.specs.Data.Scopes.{is_named, named, named_columns, place_of}
use Rattle.vortex_base.specs.declared.dtype.DType.{DType}
use Rattle.vortex_syntax.proofs.Found.{found_some}
use Rattle.vortex_syntax.specs.Places.{AreDistinct, IsIndexOf, place_at}

-- ---- places in lists

below : {X : Type 0} (p : X → Bool) (i : ℕ) (xs : List X) (j : ℕ) → position_from p i xs ≡ Some j → j < i + length xs
below p i [] j h = cc
below p i (x ∷ xs) j h = elim (cases_Bool (p x)) [
  | inl passes ↦ (let same : i ≡ j = (let e = rw passes at h in cc) in omega (arith, same))
  | inr fails ↦ (let later : position_from p (i + 1) xs ≡ Some j = rw fails at h in omega (arith, below p (i + 1) xs j later))
]

-- one more, that fails the test
after_failing : {X : Type 0} (p : X → Bool) (y : X) → p y ≡ false → (i : ℕ) (xs : List X) → position_from p i (xs ++ y ∷ []) ≡ position_from p i xs
after_failing p y fails i [] = rw fails refl
after_failing p y fails i (x ∷ xs) = ap (λ o. cond (p x) (Some i) o) (after_failing p y fails (i + 1) xs)

-- one more, that is the first to pass the test
after_passing : {X : Type 0} (p : X → Bool) (y : X) → p y ≡ true → (i : ℕ) (xs : List X) → position_from p i xs ≡ None → position_from p i (xs ++ y ∷ []) ≡ Some (i + length xs)
after_passing p y passes i [] none = cond-true (p y) (Some i) None passes ∙ ap Some (omega arith)
after_passing p y passes i (x ∷ xs) none = elim (cases_Bool (p x)) [
  | inl here ↦ (let e = rw here at none in cc)
  | inr fails ↦ (let later : position_from p (i + 1) xs ≡ None = rw fails at none in
      cond-false (p x) (Some i) (position_from p (i + 1) (xs ++ y ∷ [])) fails ∙ after_passing p y passes (i + 1) xs later ∙ ap Some (omega arith))
]

abbrev Held : Type 0
Held = List (String Global × DType)

at_name : (name : List ℕ) (cs : Held) → place_of name (named_columns cs) ≡ position_from (λ c. is_named name (named c)) 0 cs
at_name name cs = position-map (is_named name) named cs ∙ position_from-zero (λ c. is_named name (named c)) cs

pub place_in_range : (name : List ℕ) (cs : Held) (o : Option ℕ) → o ≡ place_of name (named_columns cs) → IfSome o (λ i. i < length cs)
place_in_range name cs None h = tt
place_in_range name cs (Some i) h = omega (arith, below (λ c. is_named name (named c)) 0 cs i (sym (at_name name cs) ∙ sym h))

-- ---- the map with one more key

module _ {K : Type 0} (eq : K → K → Bool) (test : K → Bool) where
  other_keys : {X : Type 0} (old new : List (K × X)) → KeepsOthers eq test old new → (other : K → Bool) → IsKeyTest eq other → AreApart test other → lookup other new ≡ lookup other old
  unfolding KeepsOthers
  other_keys old new h = h

apart : (name other key : List ℕ) → bytes_eq name other ≡ false → is_eq (slice_cmp nat_cmp name key) ≡ true → is_eq (slice_cmp nat_cmp other key) ≡ false
apart name other key fails passes =
    let same : bytes_eq name key ≡ true = sym (is_eq-slice_cmp name key) ∙ passes in
    is_eq-slice_cmp other key ∙ nat_list_eq_equiv.symm other key ∙ sym (nat_list_eq_equiv.congr name key other same) ∙ fails

abbrev Places : Type 0
Places = BTreeMap (Vec ℕ Global) ℕ

abbrev IsUpdate : List ℕ → ℕ → Places → Places → Type 0
IsUpdate name place old new = UpdatesBy (λ x y. slice_cmp nat_cmp x.items y.items) (λ k. slice_cmp nat_cmp name k.items) old new (Some place)

elsewhere : (name : List ℕ) (place : ℕ) (old new : Places) → IsUpdate name place old new → (other : List ℕ) → bytes_eq name other ≡ false → place_at other new ≡ place_at other old
elsewhere name place old new update other fails =
    other_keys _ _ _ _ update.3 _ (λ x y. (eq_by_cmp_equiv nat_list_cmp_total).congr other x.items y.items) (λ k. apart name other k.items fails)

-- a new name, at the place behind the others
pub one_more : (cs : Held) (name : String Global) (t : DType) (place : ℕ) (old new : Places) → IsIndexOf cs old → place_of (string_bytes name) (named_columns cs) ≡ None → place ≡ length cs
    → (key : List ℕ) → key ≡ string_bytes name → IsUpdate key place old new → IsIndexOf (cs ++ (name, t) ∷ []) new
one_more cs name t place old new index none at key is_name updated other =
    let behind : length cs ≡ 0 + length cs = omega arith in
    let update : IsUpdate (string_bytes name) place old new = subst (λ k. IsUpdate k place old new) is_name updated in
    elim (cases_Bool (bytes_eq (string_bytes name) other)) [
      | inl passes ↦ (let same : string_bytes name ≡ other = (bytes_decides (string_bytes name) other).0 passes in
          let absent : place_of other (named_columns cs) ≡ None = subst (λ n. place_of n (named_columns cs) ≡ None) same none in
          subst (λ n. place_at n new ≡ Some place) same update.1 ∙ ap Some (at ∙ behind)
          ∙ sym (at_name other (cs ++ (name, t) ∷ []) ∙ after_passing (λ c. is_named other (named c)) (name, t) passes 0 cs (sym (at_name other cs) ∙ absent)))
      | inr fails ↦ elsewhere (string_bytes name) place old new update other fails ∙ index other ∙ at_name other cs
          ∙ sym (at_name other (cs ++ (name, t) ∷ []) ∙ after_failing (λ c. is_named other (named c)) (name, t) fails 0 cs)
    ]

-- ---- distinct names

-- what is found in the front is found in the whole
still_found : {X : Type 0} (p : X → Bool) (i : ℕ) (xs ys : List X) (j : ℕ) → position_from p i xs ≡ Some j → position_from p i (xs ++ ys) ≡ Some j
still_found p i [] ys j h = cc
still_found p i (x ∷ xs) ys j h = elim (cases_Bool (p x)) [
  | inl here ↦ rw here (rw here at h)
  | inr fails ↦ rw fails (still_found p (i + 1) xs ys j (rw fails at h))
]

-- no columns
pub none_distinct : AreDistinct []
none_distinct i c at = cc

-- one more of a new name
pub distinct_more : (cs : Held) (name : String Global) (t : DType) → AreDistinct cs → place_of (string_bytes name) (named_columns cs) ≡ None → AreDistinct (cs ++ (name, t) ∷ [])
distinct_more cs name t distinct none i c at =
    let within : i < length (cs ++ (name, t) ∷ []) = slice_get_within (cs ++ (name, t) ∷ []) i c at in
    let is : get_or (cs ++ (name, t) ∷ []) i c ≡ c = get_or_from_slice_get (cs ++ (name, t) ∷ []) i c c at in
    elim (cases_lt i (length cs)) [
      | inl before ↦ (
          let there : c ≡ get_or cs i c = sym (sym (get_or_append_left cs ((name, t) ∷ []) c i before) ∙ is) in
          at_name (string_bytes c.0) (cs ++ (name, t) ∷ [])
          ∙ still_found (λ k. is_named (string_bytes c.0) (named k)) 0 cs ((name, t) ∷ []) i (sym (at_name (string_bytes c.0) cs) ∙ distinct i c (slice_get_read cs (length cs) i c refl before there)))
      | inr behind ↦ (
          let last : i ≡ length cs = omega (arith, length-append cs ((name, t) ∷ [])) in
          let same : (name, t) ≡ c = sym (get_or-append_seam cs (name, t) [] c) ∙ ap (λ k. get_or (cs ++ (name, t) ∷ []) k c) (sym last) ∙ is in
          subst (λ (d : String Global × DType). place_of (string_bytes d.0) (named_columns (cs ++ (name, t) ∷ [])) ≡ Some i) same
          (at_name (string_bytes name) (cs ++ (name, t) ∷ [])
          ∙ after_passing (λ k. is_named (string_bytes name) (named k)) (name, t) ((bytes_decides (string_bytes name) (string_bytes name)).1 refl) 0 cs (sym (at_name (string_bytes name) cs) ∙ none)
          ∙ ap Some (omega (arith, last))))
    ]

-- the column of a place, which has this name
pub found_at : (cs : Held) (name : List ℕ) (place : ℕ) (c : String Global × DType) → AreDistinct cs → place < length cs → c ≡ get_or cs place c → bytes_eq (string_bytes c.0) name ≡ true
    → find_column (named_columns cs) name ≡ Some (record { index = place; dtype = c.1 })
found_at cs name place c distinct within is passes =
    let at : slice_get cs place ≡ Some c = slice_get_read cs (length cs) place c refl within is in
    let same : string_bytes c.0 ≡ name = (bytes_decides (string_bytes c.0) name).0 passes in
    let found : place_of name (named_columns cs) ≡ Some place = ap (λ n. place_of n (named_columns cs)) (sym same) ∙ distinct place c at in
    found_some cs name (place_of name (named_columns cs)) place c refl found (slice_get-map named cs place ∙ ap (option_map named) at)
