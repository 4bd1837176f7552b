-- A scope that was given is one, and the predicate is one over it.
use Rattle.std.proofs.Common.{◌≡◌, ◌<◌, ◌+◌, add-one, ◌==◌, ◌++◌, ◌∷◌, [], ◌∙◌, ◌≤◌, ℕ, zero, suc, Bool, true, false, if◌then◌else◌, List, Option, None, Some, Result, Ok, Err, inl, inr, length, refl, ap, subst, sym, slice_get, nat_le}
use Rattle.std.specs.Prelude.{String, is_some}
use Rattle.std.specs.declared.alloc.Global.{Global}
use Rattle.std.specs.List.{list_any}
use Rattle.std.specs.Str.{is_utf8}
use Rattle.vortex_base.specs.Data.Scopes.{IsScope, Named, has_duplicate, is_empty, is_state_column, named_columns, place_of}
use Rattle.vortex_expr.specs.Meanings.Fitting.{fits_scope}
use Rattle.vortex_expr.specs.Trees.Tree.{Place, Tree, is_plain}
use Rattle.vortex_base.specs.declared.dtype.DType.{DType}
use Rattle.vortex_base.specs.declared.types.Nullability.{Nullability}
use Rattle.vortex_rewrite.specs.Rewriting.Predicates.{is_predicate}
use Rattle.vortex_syntax.specs.Expressions.{expression_of}
use Rattle.vortex_syntax.specs.Words.{words}
use Rattle.std.proofs.lemmas.Bool.{le-leb, lt-leb}
use Rattle.vortex_normal.specs.Balanced.{depth}
use Rattle.vortex_capi.specs.Nesting.Halves.{halved}
use Rattle.vortex_capi.proofs.Nesting.Columns.{same_fit, same_plain}
use Rattle.vortex_capi.proofs.Nesting.Types.{same_predicate}
use Rattle.vortex_capi.specs.declared.nested.error.NestedError.{NestedError}
use Rattle.vortex_capi.specs.declared.nested.error.NestedError.TheVariants as nested
use Rattle.vortex_capi.specs.declared.fault.Refusal.{Refusal}
use Rattle.vortex_syntax.proofs.Fitting.ExpressionFits.{expression_fits, step_of}
use Rattle.vortex_syntax.proofs.Fitting.ScopeFits.{distinct_more, storable_more}
use Rattle.vortex_syntax.specs.Names.{is_name, is_new}
use Rattle.vortex_syntax.specs.Fails.{when}
use Rattle.vortex_capi.specs.declared.field.Field.{Field}
use Rattle.vortex_capi.specs.declared.logical.Kinds.{Kinds}
use Rattle.vortex_capi.specs.declared.logical.Kinds.TheVariants.{Logical, Plain}
use Rattle.vortex_capi.specs.LogicalKinds.{logical_of}
use Rattle.vortex_logical.specs.declared.logical_type.LogicalType.{LogicalType}
use Rattle.vortex_capi.specs.declared.status.Status.{Status}
use Rattle.vortex_capi.specs.declared.status.Status.TheVariants.{BadName, NotAPredicate, TooDeep}
use Rattle.vortex_capi.specs.Refusals.{placed, stepped}
use Rattle.vortex_capi.specs.Scopes.{IsNested, IsPredicateGiven, IsRefusedText, expression_in, if_predicate, max_depth, next_field, dtype_by, field_dtype, predicate_given, scope_given, shallow, taken, with_field, with_field_or, with_typed}
use Rattle.vortex_capi.specs.Statuses.{at_column, nowhere, status_of_nested}
use Rattle.vortex_capi.specs.Types.{kind_of, nullability_of, ok_or_bad_kind, typed}
use Rattle.vortex_capi.proofs.ReadLemmas.{followed_from, steps_stop}

-- ---- types of kinds are those of columns

abbrev IsStorable : List ℕ → DType → Type 0
IsStorable name t = is_state_column (name, t) ≡ false

by_kind : (name : List ℕ) (t u : DType) (rest : Option DType) (b : Bool) → (if b then Some u else rest) ≡ Some t → IsStorable name u → (rest ≡ Some t → IsStorable name t) → IsStorable name t
by_kind name t u rest true e h more = let same : u ≡ t = cc in subst (IsStorable name) same h
by_kind name t u rest false e h more = more e

kind_storable : (name : List ℕ) (k : ℕ) (n : Nullability) (t : DType) → kind_of k n ≡ Some t → IsStorable name t
kind_storable name k n t h =
    by_kind name t _ _ (k == 0) h refl (λ h. by_kind name t _ _ (k == 1) h refl (λ h. by_kind name t _ _ (k == 2) h refl (λ h. by_kind name t _ _ (k == 3) h refl (λ h.
    by_kind name t _ _ (k == 4) h refl (λ h. by_kind name t _ _ (k == 5) h refl (λ h. by_kind name t _ _ (k == 6) h refl (λ h. by_kind name t _ _ (k == 7) h refl (λ h.
    by_kind name t _ _ (k == 8) h refl (λ h. by_kind name t _ _ (k == 9) h refl (λ h. by_kind name t _ _ (k == 10) h refl (λ h. by_kind name t _ _ (k == 11) h refl (λ h.
    by_kind name t _ _ (k == 12) h refl (λ h. by_kind name t _ _ (k == 13) h refl (λ h. by_kind name t _ _ (k == 14) h refl (λ h. by_kind name t _ _ (k == 15) h refl (λ h.
    by_kind name t _ _ (k == 16) h refl (λ h. absurd cc)))))))))))))))))

ok_storable : (name : List ℕ) (o : Option DType) (t : DType) → ok_or_bad_kind o ≡ Ok t → (o ≡ Some t → IsStorable name t) → IsStorable name t
ok_storable name None t h more = absurd cc
ok_storable name (Some u) t h more = more (let same : u ≡ t = cc in ap Some same)

typed_storable : (name : List ℕ) (k : ℕ) (o : Option Nullability) (t : DType) → typed k o ≡ Ok t → IsStorable name t
typed_storable name k None t h = absurd cc
typed_storable name k (Some n) t h = ok_storable name (kind_of k n) t h (kind_storable name k n t)

taken_storable : (name : List ℕ) (k : Kinds) (f : Field) (o : Option LogicalType) (t : DType) → taken k f o ≡ Ok t → IsStorable name t
taken_storable name Plain f (Some l) t h = absurd cc
taken_storable name Plain f None t h = typed_storable name f.kind (nullability_of f.nullable) t h
taken_storable name Logical f o t h = typed_storable name f.kind (nullability_of f.nullable) t h

told_storable : (name : List ℕ) (k : Kinds) (f : Field) (r : Result (Option LogicalType) Status) (t : DType) → dtype_by k f r ≡ Ok t → IsStorable name t
told_storable name k f (Err s) t h = absurd cc
told_storable name k f (Ok o) t h = taken_storable name k f o t h

-- ---- the scope

abbrev IsAlmostScope : List Named → Type 0
IsAlmostScope scope = (has_duplicate scope ≡ false) × (list_any is_state_column scope ≡ false)

new_column : (scope : List Named) (name : List ℕ) (t : DType) (b : Bool) (more : List Named) → is_new scope name ≡ b → (if b then Ok (scope ++ (name, t) ∷ []) else Err BadName) ≡ Ok more
    → IsStorable name t → IsAlmostScope scope → IsAlmostScope more
new_column scope name t true more is h one so =
    let same : scope ++ (name, t) ∷ [] ≡ more = cc in
    subst IsAlmostScope same (distinct_more scope name t so.0 is, storable_more scope name t so.1 one)
new_column scope name t false more is h one so = absurd cc

typed_column : (scope more : List Named) (name : List ℕ) (r : Result DType Status) → with_typed scope name r ≡ Ok more → ((t : DType) → r ≡ Ok t → IsStorable name t) → IsAlmostScope scope → IsAlmostScope more
typed_column scope more name (Ok t) h one so = new_column scope name t (is_new scope name) more refl h (one t refl) so
typed_column scope more name (Err s) h one so = absurd cc

unplaced : (r : Result (List Named) Status) (more : List Named) (i : ℕ) → placed (λ s. at_column s i) r ≡ Ok more → r ≡ Ok more
unplaced (Ok scope) more i h = let same : scope ≡ more = cc in ap Ok same
unplaced (Err s) more i h = absurd cc

field_column : (k : Kinds) (scope more : List Named) (o : Option Field) (i : ℕ) → placed (λ s. at_column s i) (with_field_or k scope o) ≡ Ok more → IsAlmostScope scope → IsAlmostScope more
field_column k scope more None i h so = absurd cc
field_column k scope more (Some f) i h so = typed_column scope more f.name.now (field_dtype k f) (unplaced (with_field k scope f) more i h) (told_storable f.name.now k f (logical_of f)) so

steps_are_scope : (k : Kinds) (fields : List Field) (n : ℕ) (scope : List Named) → stepped (next_field k fields) [] n ≡ Ok scope → IsAlmostScope scope
steps_are_scope k fields zero scope h = let same : [] ≡ scope = cc in subst IsAlmostScope same (refl, refl)
steps_are_scope k fields (suc n) scope h =
    let f = followed_from (stepped (next_field k fields) [] n) (next_field k fields n) scope h in
    field_column k f.at scope (slice_get fields n) n f.then (steps_are_scope k fields n f.at f.made)

-- the columns that were given make a scope, if there is one
pub given_is_scope : (k : Kinds) (fields : List Field) (scope : List Named) → scope_given k fields ≡ Ok scope → is_empty scope ≡ false → IsScope scope
given_is_scope k fields scope h some =
    let so = steps_are_scope k fields (length fields) scope h in
    rw (some, so.0, so.1) refl

pub some_columns : (cs : List (String Global × DType)) → (length cs == 0) ≡ false → is_empty (named_columns cs) ≡ false
some_columns [] h = cc
some_columns (c ∷ cs) h = refl

-- a new name is that of no column
unnamed : (o : Option ℕ) (b : Bool) → (if b then (if is_some o then false else true) else false) ≡ true → o ≡ None
unnamed None true h = refl
unnamed (Some i) true h = absurd cc
unnamed o false h = absurd cc

pub new_is_unnamed : (scope : List Named) (name : List ℕ) → is_new scope name ≡ true → place_of name scope ≡ None
new_is_unnamed scope name h = unnamed (place_of name scope) (is_name name) h

-- ---- the predicate

pub record IsPredicateOver (scope : List Named) (e : Tree Place) : Type 0 where
  pub some : is_empty scope ≡ false
  pub plain : is_plain e ≡ true
  pub fits : fits_scope e scope ≡ true
  pub truth : is_predicate e ≡ true

passed : {X : Type 0} (b : Bool) (x y : X) → when b x ≡ Some y → (b ≡ true) × (x ≡ y)
passed true x y h = (refl, cc)
passed false x y h = absurd cc

both_hold : (a b : Bool) → (if a then (if b then false else true) else false) ≡ true → b ≡ false
both_hold true true h = absurd cc
both_hold true false h = refl
both_hold false b h = absurd cc

expression_over : (scope : List Named) (text : List ℕ) (e : Tree Place) → expression_in scope text ≡ Some e → (is_empty scope ≡ false) × (is_plain e ≡ true) × (fits_scope e scope ≡ true)
expression_over scope text e h =
    let a = step_of (when (if is_utf8 text then (if is_empty scope then false else true) else false) text) (λ (line : List ℕ). expression_of scope (words line)) e h in
    let fits = expression_fits scope (words a.at) e a.then in
    (both_hold (is_utf8 text) (is_empty scope) (passed _ text a.at a.made).0, fits.0, fits.1)

if_truth : (e x : Tree Place) (b : Bool) → is_predicate e ≡ b → (if b then Ok e else Err (nowhere NotAPredicate)) ≡ Ok x → (e ≡ x) × (is_predicate e ≡ true)
if_truth e x true is h = (cc, is)
if_truth e x false is h = absurd cc

is_given : (scope : List Named) (o : Option (Tree Place)) (x : Tree Place) → if_predicate o ≡ Ok x → ((e : Tree Place) → o ≡ Some e → (is_empty scope ≡ false) × (is_plain e ≡ true) × (fits_scope e scope ≡ true)) → IsPredicateOver scope x
is_given scope None x h over = absurd cc
is_given scope (Some e) x h over =
    let f = followed_from (shallow (halved e)) (λ p. if is_predicate e then Ok e else Err (nowhere NotAPredicate)) x h in
    let t = if_truth e x (is_predicate e) refl f.then in
    let is = over e refl in
    subst (IsPredicateOver scope) t.0 (record { some = is.0; plain = is.1; fits = is.2; truth = t.1 })

pub given_is_predicate : (scope : List Named) (text : List ℕ) (e : Tree Place) → predicate_given scope text ≡ Ok e → IsPredicateOver scope e
given_is_predicate scope text e h = is_given scope (expression_in scope text) e h (expression_over scope text)

-- so is the predicate with its chains joined in halves
pub halved_is_over : (scope : List Named) (e b : Tree Place) → b ≡ halved e → IsPredicateOver scope e → IsPredicateOver scope b
halved_is_over scope e b is over = subst (IsPredicateOver scope) (sym is) (record {
  some = over.some;
  plain = same_plain e ∙ over.plain;
  fits = same_fit e scope ∙ over.fits;
  truth = same_predicate e ∙ over.truth;
})

-- ---- what is answered to a text

decided : (e : Tree Place) (truth : Bool) → depth (halved e) ≤ max_depth → is_predicate (halved e) ≡ truth → if_predicate (Some e) ≡ (if truth then Ok e else Err (nowhere NotAPredicate))
decided e truth within is =
    let fits : nat_le (depth (halved e)) max_depth ≡ true = le-leb (depth (halved e)) max_depth within in
    let same : is_predicate e ≡ truth = sym (same_predicate e) ∙ is in
    rw (fits, same) refl

by_decision : (wanted : Option (Tree Place)) (b : Tree Place) (truth : Bool) → IsNested wanted (Ok b) → is_predicate b ≡ truth → (e : Tree Place) × (if_predicate wanted ≡ (if truth then Ok e else Err (nowhere NotAPredicate))) × (b ≡ halved e)
by_decision wanted b truth h is =
    let e = h.0.0 in
    let same : b ≡ halved e = h.0.2 in
    (e, ap if_predicate h.0.1 ∙ decided e truth (subst (λ x. depth x ≤ max_depth) same h.1) (ap is_predicate (sym same) ∙ is), same)

pub text_is_predicate : (wanted : Option (Tree Place)) (b : Tree Place) → IsNested wanted (Ok b) → is_predicate b ≡ true → IsPredicateGiven (if_predicate wanted) (Ok b)
text_is_predicate wanted b h is = by_decision wanted b true h is

pub text_is_none : (wanted : Option (Tree Place)) (b : Tree Place) (r : Refusal) → r ≡ nowhere NotAPredicate → IsNested wanted (Ok b) → is_predicate b ≡ false → IsPredicateGiven (if_predicate wanted) (Err r)
text_is_none wanted b r told h is = λ _. inl ((by_decision wanted b false h is).1 ∙ ap Err (sym told))

deep_text : (wanted : Option (Tree Place)) (r : Refusal) → r ≡ nowhere TooDeep → IsNested wanted (Err nested.TooDeep) → IsRefusedText (if_predicate wanted) r
deep_text None r told h = inr (told, refl)
deep_text (Some e) r told h =
    let over : nat_le (depth (halved e)) max_depth ≡ false = lt-leb (depth (halved e)) max_depth (h e refl) in
    inl (rw over (ap Err (sym told)))

pub text_is_refused : (wanted : Option (Tree Place)) (n : NestedError) (r : Refusal) → r ≡ nowhere (status_of_nested n) → IsNested wanted (Err n) → IsPredicateGiven (if_predicate wanted) (Err r)
text_is_refused wanted nested.Memory r told h = λ other. absurd (other (ap (λ (x : Refusal). x.status) told))
text_is_refused wanted nested.Bad r told h = λ _. inl (ap if_predicate h ∙ ap Err (sym told))
text_is_refused wanted nested.TooDeep r told h = λ _. deep_text wanted r told h

-- ---- reading a scope

pub field_stops : (k : Kinds) (fields : List Field) (i : ℕ) (f : Field) (scope : List Named) (s : Status) → slice_get fields i ≡ Some f → with_field k scope f ≡ Err s → stepped (next_field k fields) [] i ≡ Ok scope → i < length fields → scope_given k fields ≡ Err (at_column s i)
field_stops k fields i f scope s there stopped before h = steps_stop (next_field k fields) [] i (length fields) scope (at_column s i) before (rw (there, stopped) refl) h

pub next_column : (k : Kinds) (fields : List Field) (i : ℕ) (f : Field) (scope new : List Named) → slice_get fields i ≡ Some f → with_field k scope f ≡ Ok new → stepped (next_field k fields) [] i ≡ Ok scope → stepped (next_field k fields) [] (i + 1) ≡ Ok new
next_column k fields i f scope new there read before = rw (add-one, before, there, read) refl
