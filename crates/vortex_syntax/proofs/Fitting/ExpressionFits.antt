-- An expression that is read fits its scope, and holds no placeholder and no row count.
use Rattle.std.proofs.Common.{◌≡◌, ◌||◌, ℕ, zero, suc, Bool, true, false, List, Option, None, Some, option_and_then, is_ok, length, slice_get, refl, ap, subst, inl, inr}
use Rattle.std.proofs.lemmas.Bool.{and_from, cases_Bool}
use Rattle.vortex_expr.specs.Meanings.Binding.{find_column, found, place_at}
use Rattle.vortex_expr.specs.Meanings.Fitting.{fits_scope, is_of_type}
use Rattle.vortex_base.specs.Data.Scopes.{Named, place_of}
use Rattle.vortex_expr.specs.Trees.Tree.{Tree, Place, column, literal, binary, between, is_null, is_not_null, not as negated, like, has_placeholder, has_row_count, is_plain}
use Rattle.vortex_base.specs.Data.Types.{dtype_eq_is_exact}
use Rattle.vortex_expr.specs.Meanings.Typing.{type_of}
use Rattle.vortex_expr.specs.declared.scalar_fn.BetweenOptions.{BetweenOptions}
use Rattle.vortex_base.specs.declared.dtype.DType.{DType}
use Rattle.vortex_base.specs.declared.scalar_value.ScalarValue.{ScalarValue}
use Rattle.vortex_expr.specs.declared.like.LikeOptions.{LikeOptions}
use Rattle.vortex_expr.specs.declared.scalar_fn.Operator.{Operator}
use Rattle.vortex_syntax.specs.Expressions.{Read, expression_by, expression_of, expression_within, followed, form_of, read_between, read_column, read_literal, read_one, read_options, read_two, typed}
use Rattle.vortex_syntax.specs.Names.{type_of as type_of_word}
use Rattle.vortex_syntax.specs.Values.{optional_value_of}
use Rattle.vortex_syntax.specs.Words.{Token, first_word, no_word, plain_word}
use Rattle.vortex_syntax.specs.declared.form.Form.{Form}
use Rattle.vortex_syntax.specs.declared.form.Form.TheVariants as form

-- a step that was made, and what follows it
pub record Step {A B : Type 0} (o : Option A) (f : A → Option B) (y : B) : Type 0 where
  pub at : A
  pub made : o ≡ Some at
  pub then : f at ≡ Some y

pub step_of : {A B : Type 0} (o : Option A) (f : A → Option B) (y : B) → option_and_then f o ≡ Some y → Step o f y
step_of None f y h = cc
step_of (Some x) f y h = record { at = x; made = refl; then = h }

-- what two steps made is one
pub one_made : {X : Type 0} (x y : X) → Some x ≡ Some y → x ≡ y
one_made x y h = cc

-- what is known of an expression that was read
pub record Fits (scope : List Named) (e : Tree Place) : Type 0 where
  pub no_placeholder : has_placeholder e ≡ false
  pub no_row_count : has_row_count e ≡ false
  pub columns : fits_scope e scope ≡ true

neither : (a b : Bool) → a ≡ false → b ≡ false → (a || b) ≡ false
neither a b x y = rw (x, y) refl

two : (scope : List Named) (o : Operator) (l r : Tree Place) → Fits scope l → Fits scope r → Fits scope (binary o l r)
two scope o l r x y = record {
  no_placeholder = neither _ _ x.no_placeholder y.no_placeholder;
  no_row_count = neither _ _ x.no_row_count y.no_row_count;
  columns = and_from _ _ x.columns y.columns;
}

alike : (scope : List Named) (o : LikeOptions) (l r : Tree Place) → Fits scope l → Fits scope r → Fits scope (like o l r)
alike scope o l r x y = record {
  no_placeholder = neither _ _ x.no_placeholder y.no_placeholder;
  no_row_count = neither _ _ x.no_row_count y.no_row_count;
  columns = and_from _ _ x.columns y.columns;
}

within_ends : (scope : List Named) (o : BetweenOptions) (x l u : Tree Place) → Fits scope x → Fits scope l → Fits scope u → Fits scope (between o x l u)
within_ends scope o x l u a b c = record {
  no_placeholder = neither _ _ a.no_placeholder (neither _ _ b.no_placeholder c.no_placeholder);
  no_row_count = neither _ _ a.no_row_count (neither _ _ b.no_row_count c.no_row_count);
  columns = and_from _ _ a.columns (and_from _ _ b.columns c.columns);
}

null_test : (scope : List Named) (x : Tree Place) → Fits scope x → Fits scope (is_null x)
null_test scope x a = record { no_placeholder = a.no_placeholder; no_row_count = a.no_row_count; columns = a.columns }

value_test : (scope : List Named) (x : Tree Place) → Fits scope x → Fits scope (is_not_null x)
value_test scope x a = record { no_placeholder = a.no_placeholder; no_row_count = a.no_row_count; columns = a.columns }

opposite : (scope : List Named) (x : Tree Place) → Fits scope x → Fits scope (negated x)
opposite scope x a = record { no_placeholder = a.no_placeholder; no_row_count = a.no_row_count; columns = a.columns }

at_place : (scope : List Named) (i : ℕ) (o : Option Named) (p : Place) → slice_get scope i ≡ o → place_at i o ≡ Some p → is_of_type p.dtype (slice_get scope p.index) ≡ true
at_place scope i None p at h = cc
at_place scope i (Some c) p at h =
    let same : record { index = i; dtype = c.1 } ≡ p = cc in
    let P : Place → Type 0 = λ q. is_of_type q.dtype (slice_get scope q.index) ≡ true in
    subst P same (rw at ((dtype_eq_is_exact c.1 c.1).1 refl))

pub found_place : (scope : List Named) (o : Option ℕ) (p : Place) → found scope o ≡ Some p → is_of_type p.dtype (slice_get scope p.index) ≡ true
found_place scope None p h = cc
found_place scope (Some i) p h = at_place scope i (slice_get scope i) p refl h

-- the expression that was typed is the one that was made
followed_is : (e : Tree Place) (ws : List Token) (x : Tree Place × List Token) → followed (typed e) ws ≡ Some x → e ≡ x.0
followed_is e ws x h = elim (cases_Bool (is_ok (type_of e))) [
  | inl is ↦ (let same = rw is at h in let pair : (e, ws) ≡ x = cc in ap (λ (p : Tree Place × List Token). p.0) pair)
  | inr isnt ↦ (let same = rw isnt at h in cc)
]

made_fits : (scope : List Named) (e : Tree Place) (ws : List Token) (x : Tree Place × List Token) → followed (typed e) ws ≡ Some x → Fits scope e → Fits scope x.0
made_fits scope e ws x h fits = let P : Tree Place → Type 0 = Fits scope in subst P (followed_is e ws x h) fits

-- each operand that is read fits
abbrev pub AllFit : List Named → (List Token → Read) → Type 0
AllFit scope operand = (ws : List Token) (x : Tree Place × List Token) → operand ws ≡ Some x → Fits scope x.0

column_fits : (scope : List Named) (ws : List Token) (x : Tree Place × List Token) → read_column scope ws ≡ Some x → Fits scope x.0
column_fits scope ws x h =
    let a = step_of (plain_word ws) (λ (name : List ℕ × List Token). option_and_then (λ (p : Place). Some (column p, name.1)) (find_column scope name.0)) x h in
    let b = step_of (find_column scope a.at.0) (λ (p : Place). Some (column p, a.at.1)) x a.then in
    let at = found_place scope (place_of a.at.0 scope) b.at b.made in
    let last = b.then in
    let pair : (column b.at, a.at.1) ≡ x = cc in
    let P : Tree Place → Type 0 = Fits scope in
    subst P (ap (λ (p : Tree Place × List Token). p.0) pair) (record { no_placeholder = refl; no_row_count = refl; columns = at })

literal_fits : (scope : List Named) (ws : List Token) (x : Tree Place × List Token) → read_literal ws ≡ Some x → Fits scope x.0
literal_fits scope ws x h =
    let last = λ (t : DType) (rest : List Token) (v : Option ScalarValue). followed (typed (literal (record { dtype = t; value = v }))) rest in
    let third = λ (t : DType) (word : Token × List Token). option_and_then (last t word.1) (optional_value_of t word.0) in
    let second = λ (rest : List Token) (t : DType). option_and_then (third t) (first_word rest) in
    let a = step_of (plain_word ws) (λ (kind : List ℕ × List Token). option_and_then (second kind.1) (type_of_word kind.0)) x h in
    let b = step_of (type_of_word a.at.0) (second a.at.1) x a.then in
    let c = step_of (first_word a.at.1) (third b.at) x b.then in
    let d = step_of (optional_value_of b.at c.at.0) (last b.at c.at.1) x c.then in
    made_fits scope (literal (record { dtype = b.at; value = d.at })) c.at.1 x d.then (record { no_placeholder = refl; no_row_count = refl; columns = refl })

one_fits : (scope : List Named) (operand : List Token → Read) (made : Tree Place → Tree Place) → AllFit scope operand → ((e : Tree Place) → Fits scope e → Fits scope (made e))
    → (ws : List Token) (x : Tree Place × List Token) → read_one operand made ws ≡ Some x → Fits scope x.0
one_fits scope operand made all keeps ws x h =
    let a = step_of _ _ x h in
    made_fits scope _ _ x a.then (keeps a.at.0 (all ws a.at a.made))

two_fit : (scope : List Named) (operand : List Token → Read) (made : Tree Place → Tree Place → Tree Place) → AllFit scope operand
    → ((d e : Tree Place) → Fits scope d → Fits scope e → Fits scope (made d e)) → (ws : List Token) (x : Tree Place × List Token) → read_two operand made ws ≡ Some x → Fits scope x.0
two_fit scope operand made all keeps ws x h =
    let a = step_of _ _ x h in
    let b = step_of _ _ x a.then in
    made_fits scope _ _ x b.then (keeps a.at.0 b.at.0 (all ws a.at a.made) (all a.at.1 b.at b.made))

ends_fit : (scope : List Named) (operand : List Token → Read) → AllFit scope operand → (ws : List Token) (x : Tree Place × List Token) → read_between operand ws ≡ Some x → Fits scope x.0
ends_fit scope operand all ws x h =
    let last = λ (o : BetweenOptions) (y l : Tree Place) (u : Tree Place × List Token). followed (typed (between o y l u.0)) u.1 in
    let third = λ (o : BetweenOptions) (y : Tree Place) (l : Tree Place × List Token). option_and_then (last o y l.0) (operand l.1) in
    let second = λ (o : BetweenOptions) (y : Tree Place × List Token). option_and_then (third o y.0) (operand y.1) in
    let o = step_of (read_options ws) (λ (p : BetweenOptions × List Token). option_and_then (second p.0) (operand p.1)) x h in
    let a = step_of (operand o.at.1) (second o.at.0) x o.then in
    let b = step_of (operand a.at.1) (third o.at.0 a.at.0) x a.then in
    let c = step_of (operand b.at.1) (last o.at.0 a.at.0 b.at.0) x b.then in
    made_fits scope (between o.at.0 a.at.0 b.at.0 c.at.0) c.at.1 x c.then (within_ends scope o.at.0 a.at.0 b.at.0 c.at.0 (all o.at.1 a.at a.made) (all a.at.1 b.at b.made) (all b.at.1 c.at c.made))

form_fits : (scope : List Named) (operand : List Token → Read) → AllFit scope operand → (shape : Form) (ws : List Token) (x : Tree Place × List Token)
    → expression_by scope operand shape ws ≡ Some x → Fits scope x.0
form_fits scope operand all form.Column ws x h = column_fits scope ws x h
form_fits scope operand all form.Literal ws x h = literal_fits scope ws x h
form_fits scope operand all (form.Binary o) ws x h = two_fit scope operand (binary o) all (two scope o) ws x h
form_fits scope operand all form.Between ws x h = ends_fit scope operand all ws x h
form_fits scope operand all form.IsNull ws x h = one_fits scope operand is_null all (null_test scope) ws x h
form_fits scope operand all form.IsNotNull ws x h = one_fits scope operand is_not_null all (value_test scope) ws x h
form_fits scope operand all form.Not ws x h = one_fits scope operand negated all (opposite scope) ws x h
form_fits scope operand all (form.Like o) ws x h = two_fit scope operand (like o) all (alike scope o) ws x h

within_fits : (scope : List Named) (most : ℕ) → AllFit scope (expression_within scope most)
within_fits scope zero ws x h = cc
within_fits scope (suc most) ws x h =
    let a = step_of (plain_word ws) (λ (word : List ℕ × List Token). option_and_then (λ (shape : Form). expression_by scope (expression_within scope most) shape word.1) (form_of word.0)) x h in
    let b = step_of (form_of a.at.0) (λ (shape : Form). expression_by scope (expression_within scope most) shape a.at.1) x a.then in
    form_fits scope (expression_within scope most) (within_fits scope most) b.at a.at.1 x b.then

-- an expression that words are fits the scope, and is plain
pub expression_fits : (scope : List Named) (ws : List Token) (e : Tree Place) → expression_of scope ws ≡ Some e → (is_plain e ≡ true) × (fits_scope e scope ≡ true)
expression_fits scope ws e h =
    let a = step_of (expression_within scope (length ws) ws) (λ (x : Tree Place × List Token). option_and_then (λ (none : Unit {0}). Some x.0) (no_word x.1)) e h in
    let b = step_of (no_word a.at.1) (λ (none : Unit {0}). Some a.at.0) e a.then in
    let last = b.then in
    let same : a.at.0 ≡ e = cc in
    let P : Tree Place → Type 0 = Fits scope in
    let fits = subst P same (within_fits scope (length ws) ws a.at a.made) in
    (rw (fits.no_placeholder, fits.no_row_count) refl, fits.columns)
