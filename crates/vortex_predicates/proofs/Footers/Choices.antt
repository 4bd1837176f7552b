-- Columns are chosen name by name.
use Rattle.std.proofs.Common.{◌≡◌, ◌<◌, ◌+◌, ℕ, zero, suc, Bool, true, false, cond, List, [], ◌∷◌, ◌++◌, Option, None, Some, length, map, take, drop, get_or, inl, inr, refl, ap, sym, subst, ◌∙◌, add-one, drop-cons, take-append-drop, arith}
use Rattle.std.specs.Prelude.{Contains, is_none, slice_get}
use Rattle.std.specs.List.{list_all}
use Rattle.std.proofs.lemmas.List.{drop-map, map_push, take-map}
use Rattle.std.proofs.Math.Seq.{take-suc}
use Rattle.std.proofs.lemmas.List.Elements.{Contains-append_left, Contains-push, Contains-push_cases}
use Rattle.std.proofs.lemmas.List.Folds.{list_all-append}
use Rattle.std.proofs.lemmas.List.Quantifiers.{position-Some}
use Rattle.vortex_base.specs.Data.Scopes.{Named, is_named, is_state_column, place_of}
use Rattle.vortex_base.specs.declared.types.Nullability.{Nullability}
use Rattle.vortex_expr.specs.Meanings.Binding.{find_column, found, place_at}
use Rattle.vortex_expr.specs.Trees.Tree.{Place}
use Rattle.vortex_parquet.specs.Columns.{ColumnView, form_dtype, leaf_dtype, lookup}
use Rattle.vortex_parquet.specs.declared.columns.Content.{Content}
use Rattle.vortex_parquet.specs.declared.columns.Content.TheVariants as content
use Rattle.vortex_parquet.specs.declared.columns.Form.{Form}
use Rattle.vortex_parquet.specs.declared.columns.Form.TheVariants as form
use Rattle.vortex_parquet.specs.declared.columns.Leaf.{Leaf}
use Rattle.vortex_syntax.proofs.Fitting.ScopeFits.{storable_more}
use Rattle.vortex_predicates.specs.Footers.Choosing.{AreChosen, IsReadAs, is_read, is_taken, leaf_in, no_column, reason}
use Rattle.vortex_predicates.specs.Footers.Mentions.{MentionData, view, views}
use Rattle.vortex_predicates.specs.Footers.Refusals.{IsLeftOutBy, IsLeftOutOf}
use Rattle.vortex_predicates.specs.declared.parquet.error.FooterError.{FooterError}
use Rattle.vortex_predicates.specs.declared.parquet.error.FooterError.TheVariants as error
use Rattle.vortex_predicates.specs.declared.parquet.mentions.Mention.{Mention}
use Rattle.vortex_predicates.proofs.Footers.Names.{column_there, distinct_new, named_more}

-- ---- a type of a leaf is one of a column

form_storable : (name : List ℕ) (f : Form) (n : Nullability) → is_state_column (name, form_dtype f n) ≡ false
form_storable name form.Bool n = refl
form_storable name (form.Four p) n = refl
form_storable name (form.Eight p) n = refl
form_storable name form.Utf8 n = refl
form_storable name form.Binary n = refl
form_storable name form.Decimal n = refl
form_storable name (form.Float t) n = refl

-- ---- tests of contents

place_found : (scope : List Named) (o : Option ℕ) (p : Place) → found scope o ≡ Some p → (i : ℕ) × (o ≡ Some i)
place_found scope None p h = absurd cc
place_found scope (Some i) p h = (i, refl)

read_is : (b : Bool) (l k : Leaf) → cond b (Some l) None ≡ Some k → (l ≡ k) × (b ≡ true)
read_is true l k h = (let same : l ≡ k = cc in same, refl)
read_is false l k h = absurd cc

read_as : (o : Option Content) (k : Leaf) → leaf_in o ≡ Some k → (o ≡ Some (content.Leaf k)) × (is_read k ≡ true)
read_as None k h = absurd cc
read_as (Some (content.LeftOut why)) k h = absurd cc
read_as (Some (content.Leaf l)) k h =
    let t = read_is (is_read l) l k h in
    (ap (λ x. Some (content.Leaf x)) t.0, ap is_read (sym t.0) ∙ t.1)

left_out : (b : Bool) (l : Leaf) → cond b (Some l) None ≡ None → b ≡ true → ⊥
left_out true l h plain = cc
left_out false l h plain = cc

unread_as : (o : Option Content) (l : Leaf) → leaf_in o ≡ None → o ≡ Some (content.Leaf l) → is_read l ≡ true → ⊥
unread_as None l h e plain = cc
unread_as (Some (content.LeftOut why)) l h e plain = cc
unread_as (Some (content.Leaf k)) l h e plain =
    let same : k ≡ l = cc in
    left_out (is_read k) k h (ap is_read same ∙ plain)

leaf_taken : (cs : List ColumnView) (m : MentionData) (l : Leaf) → lookup m.name cs ≡ Some (content.Leaf l) → is_taken cs m ≡ true
leaf_taken cs m l h = ap (λ o. is_none (reason o)) h

-- ---- a name in the scope or not

place_at_some : (i : ℕ) (o : Option Named) (c : Named) → o ≡ Some c → place_at i o ≡ None → ⊥
place_at_some i None c e h = cc
place_at_some i (Some d) c e h = cc

there_is : (scope : List Named) (i : ℕ) → i < length scope → (c : Named) × (slice_get scope i ≡ Some c)
there_is [] i h = absurd (omega arith)
there_is (c ∷ cs) zero h = (c, refl)
there_is (c ∷ cs) (suc i) h = there_is cs i (omega arith)

not_placed : (scope : List Named) (name : List ℕ) (o : Option ℕ) → place_of name scope ≡ o → found scope o ≡ None → o ≡ None
not_placed scope name None e h = refl
not_placed scope name (Some i) e h =
    let (within, at, before) = position-Some (is_named name) scope i no_column e in
    let c = there_is scope i within in
    absurd (place_at_some i (slice_get scope i) c.0 c.1 h)

-- a name that isn't found has no place
pub unplaced : (scope : List Named) (n name : List ℕ) → None ≡ find_column scope n → n ≡ name → place_of name scope ≡ None
unplaced scope n name h same = not_placed scope name (place_of name scope) refl (sym (h ∙ ap (find_column scope) same))

-- ---- one more name

module _ (cs : List ColumnView) (ms : List MentionData) (scope : List Named) (ls : List Leaf) (m : MentionData) (h : AreChosen cs ms scope ls) where
  all_taken : is_taken cs m ≡ true → list_all (is_taken cs) (ms ++ m ∷ []) ≡ true
  all_taken taken = list_all-append (is_taken cs) ms (m ∷ []) ∙ rw (h.taken, taken) refl

  each_more : (wide : List Named) → ((c : Named) → Contains scope c → Contains wide c) → ((l : Leaf) → IsReadAs cs m.name l → Contains wide (m.name, leaf_dtype l))
      → (x : MentionData) (l : Leaf) → Contains (ms ++ m ∷ []) x → IsReadAs cs x.name l → Contains wide (x.name, leaf_dtype l)
  each_more wide keep here x l there is = elim (Contains-push_cases ms m x there) [
    | inl before ↦ keep (x.name, leaf_dtype l) (h.each x l before is)
    | inr same ↦ subst (λ (y : MentionData). Contains wide (y.name, leaf_dtype l)) same (here l (subst (λ (y : MentionData). IsReadAs cs y.name l) (sym same) is))
  ]

  only_more : (c : Named) → Contains scope c → (x : MentionData) × Contains (ms ++ m ∷ []) x × (x.name ≡ c.0)
  only_more c there = let t = h.only c there in (t.0, Contains-append_left ms (m ∷ []) t.0 t.1, t.2)

  stays : is_taken cs m ≡ true → ((l : Leaf) → IsReadAs cs m.name l → Contains scope (m.name, leaf_dtype l)) → AreChosen cs (ms ++ m ∷ []) scope ls
  stays taken here = record {
    named = h.named;
    are_read = h.are_read;
    each = each_more scope (λ c there. there) here;
    only = only_more;
    taken = all_taken taken;
    distinct = h.distinct;
    storable = h.storable;
  }

  -- a name that is there already
  pub stays_found : (p : Place) → find_column scope m.name ≡ Some p → AreChosen cs (ms ++ m ∷ []) scope ls
  stays_found p at =
      let i = place_found scope (place_of m.name scope) p at in
      let t = column_there cs scope ls m.name i.0 h.named i.1 in
      stays (leaf_taken cs m t.0 t.1)
      (λ l is. let one : Some (content.Leaf t.0) ≡ Some (content.Leaf l) = sym t.1 ∙ is.0 in
      let same : t.0 ≡ l = cc in
      subst (λ (k : Leaf). Contains scope (m.name, leaf_dtype k)) same t.2)

  -- one that isn't read
  pub stays_unread : reason (lookup m.name cs) ≡ None → leaf_in (lookup m.name cs) ≡ None → AreChosen cs (ms ++ m ∷ []) scope ls
  stays_unread taken unread = stays (ap is_none taken) (λ l is. absurd (unread_as (lookup m.name cs) l unread is.0 is.1))

  new_only : (l : Leaf) (c : Named) → Contains (scope ++ (m.name, leaf_dtype l) ∷ []) c → (x : MentionData) × Contains (ms ++ m ∷ []) x × (x.name ≡ c.0)
  new_only l c there = elim (Contains-push_cases scope (m.name, leaf_dtype l) c there) [
    | inl before ↦ only_more c before
    | inr same ↦ (m, Contains-push ms m, ap (λ (x : Named). x.0) same)
  ]

  pub grows : (l : Leaf) → leaf_in (lookup m.name cs) ≡ Some l → place_of m.name scope ≡ None → AreChosen cs (ms ++ m ∷ []) (scope ++ (m.name, leaf_dtype l) ∷ []) (ls ++ l ∷ [])
  grows l is new =
      let t = read_as (lookup m.name cs) l is in
      let column : Named = (m.name, leaf_dtype l) in
      record {
        named = named_more cs scope ls m.name l h.named t.0;
        are_read = list_all-append is_read ls (l ∷ []) ∙ rw (h.are_read, t.1) refl;
        each = each_more (scope ++ column ∷ []) (λ c there. Contains-append_left scope (column ∷ []) c there)
            (λ k other. let one : Some (content.Leaf l) ≡ Some (content.Leaf k) = sym t.0 ∙ other.0 in
            let same : l ≡ k = cc in
            subst (λ (x : Leaf). Contains (scope ++ column ∷ []) (m.name, leaf_dtype x)) same (Contains-push scope column));
        only = new_only l;
        taken = all_taken (leaf_taken cs m l t.0);
        distinct = distinct_new scope m.name (leaf_dtype l) h.distinct new;
        storable = storable_more scope m.name (leaf_dtype l) h.storable (form_storable m.name l.form l.nullability);
      }

-- ---- the loop over the names

pub none_chosen : (cs : List ColumnView) → AreChosen cs [] [] []
none_chosen cs = record {
  named = tt;
  are_read = refl;
  each = λ m l there is. absurd (omega (arith, there.1));
  only = λ c there. absurd (omega (arith, there.1));
  taken = refl;
  distinct = refl;
  storable = refl;
}

take_more : (ms : List Mention) (i : ℕ) (d : Mention) → i < length ms → take (i + 1) (views ms) ≡ take i (views ms) ++ view (get_or ms i d) ∷ []
take_more ms i d lt =
    take-map view (i + 1) ms ∙ ap (map view) (ap (λ (n : ℕ). take n ms) (add-one i) ∙ take-suc ms i d lt) ∙ map_push view (take i ms) (get_or ms i d) ∙ ap (λ (xs : List MentionData). xs ++ view (get_or ms i d) ∷ []) (sym (take-map view i ms))

pub chosen_goes : (cs : List ColumnView) (ms : List Mention) (scope : List Named) (ls : List Leaf) (i : ℕ) (m : Mention) → i < length ms → m ≡ get_or ms i m
    → AreChosen cs (take i (views ms) ++ view m ∷ []) scope ls → AreChosen cs (take (i + 1) (views ms)) scope ls
chosen_goes cs ms scope ls i m lt is h =
    subst (λ (xs : List MentionData). AreChosen cs xs scope ls) (ap (λ (x : Mention). take i (views ms) ++ view x ∷ []) is ∙ sym (take_more ms i m lt)) h

map_at : (ms : List Mention) (i : ℕ) (m : Mention) → i < length ms → drop i (views ms) ≡ view (get_or ms i m) ∷ views (drop (i + 1) ms)
map_at ms i m lt = drop-map view i ms ∙ ap views (drop-cons ms i m lt ∙ ap (λ n. get_or ms i m ∷ drop n ms) (sym (add-one i)))

pub left_out_of : (cs : List ColumnView) (ms : List Mention) (i : ℕ) (m : Mention) (e : FooterError) → i < length ms → m ≡ get_or ms i m → list_all (is_taken cs) (take i (views ms)) ≡ true
    → IsLeftOutBy cs (view m) e → IsLeftOutOf cs (views ms) e
left_out_of cs ms i m (error.LeftOut s t why) lt is taken h = record {
  front = take i (views ms);
  here = view m;
  back = views (drop (i + 1) ms);
  parts = sym (take-append-drop i (views ms)) ∙ ap (λ (xs : List MentionData). take i (views ms) ++ xs) (map_at ms i m lt ∙ ap (λ (x : Mention). view x ∷ views (drop (i + 1) ms)) (sym is));
  taken = taken;
  left_out = h.0;
  starts = h.1;
  ends = h.2;
}
left_out_of cs ms i m error.Memory lt is taken h = tt
left_out_of cs ms i m (error.Footer f) lt is taken h = absurd h
left_out_of cs ms i m (error.Sql f) lt is taken h = absurd h
left_out_of cs ms i m (error.Stats f) lt is taken h = absurd h
