-- An expression by its first word.
use Rattle.std.proofs.Common.{◌≡◌, ◌<◌, ◌≤◌, ℕ, zero, suc, List, Option, Some, Result, length, option_and_then, subst, sym, ap, ◌∙◌, arith}
use Rattle.vortex_base.specs.Data.Scopes.{Named}
use Rattle.vortex_expr.specs.Trees.Tree.{Tree, Place}
use Rattle.vortex_syntax.specs.Expressions.{expression_by, expression_within, form_of}
use Rattle.vortex_syntax.specs.Fails.{Gives}
use Rattle.vortex_syntax.specs.Words.{Token, plain_word}
use Rattle.vortex_syntax.specs.declared.form.Form.{Form}
use Rattle.vortex_syntax.specs.declared.line_error.LineError.{LineError}

step_is : (scope : List Named) (m : ℕ) (ws rest : List Token) (name : List ℕ) (shape : Form) → plain_word ws ≡ Some (name, rest) → form_of name ≡ Some shape
    → expression_within scope (suc m) ws ≡ expression_by scope (expression_within scope m) shape rest
step_is scope m ws rest name shape plain form =
    ap (option_and_then (λ (word : List ℕ × List Token). option_and_then (λ (s : Form). expression_by scope (expression_within scope m) s word.1) (form_of word.0))) plain
    ∙ ap (option_and_then (λ (s : Form). expression_by scope (expression_within scope m) s rest)) form

pub by_form : {X : Type 0} (scope : List Named) (ws rest : List Token) (name : List ℕ) (shape : Form) (view : X → Tree Place × List Token) (r : Result X LineError)
    → plain_word ws ≡ Some (name, rest) → form_of name ≡ Some shape → length rest < length ws
    → ((m : ℕ) → length rest ≤ m → Gives view r (expression_by scope (expression_within scope m) shape rest))
    → (most : ℕ) → length ws ≤ most → Gives view r (expression_within scope most ws)
by_form scope ws rest name shape view r plain form fewer more zero fits = absurd (omega arith)
by_form scope ws rest name shape view r plain form fewer more (suc m) fits =
    let P : Option (Tree Place × List Token) → Type 0 = λ o. Gives view r o in
    subst P (sym (step_is scope m ws rest name shape plain form)) (more m (omega arith))
