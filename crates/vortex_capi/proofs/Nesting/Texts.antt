-- The expression that a text is.
use Rattle.std.proofs.Common.{◌≡◌, ◌<◌, ◌+◌, ℕ, List, Option, Some, None, length, option_and_then, ap, sym, subst, ◌∙◌, arith}
use Rattle.vortex_base.specs.Data.Scopes.{Named}
use Rattle.vortex_expr.specs.Trees.Tree.{Tree, Place}
use Rattle.vortex_normal.specs.Balanced.{depth}
use Rattle.vortex_syntax.specs.Expressions.{expression_of, expression_within}
use Rattle.vortex_syntax.specs.Words.{Token, no_word}
use Rattle.vortex_capi.specs.Nesting.Halves.{halved}
use Rattle.vortex_capi.specs.Nesting.Reads.{Fails, halved_pair, halved_read, nested_within}
use Rattle.vortex_capi.specs.Nesting.Texts.{IsHalvedOf}
use Rattle.vortex_capi.specs.declared.nested.error.NestedError.TheVariants as errors
use Rattle.vortex_capi.proofs.Nesting.Steps.{read_back, read_none, step_of}

module _ (scope : List Named) (ws : List Token) where
  abbrev ending : Tree Place × List Token → Option (Tree Place)
  ending x = option_and_then (λ (none : Unit {0}). Some x.0) (no_word x.1)

  pub text_read : (e : Tree Place) (rest : List Token) → nested_within scope (length ws) ws ≡ Some (e, rest) → no_word rest ≡ Some tt → IsHalvedOf (expression_of scope ws) e
  text_read e rest read last =
      let x = read_back (expression_within scope (length ws) ws) (e, rest) read in
      let more = ap (λ (p : Tree Place × List Token). p.1) x.2 in (
        x.0.0,
        ap (option_and_then ending) x.1 ∙ ap (λ vs. option_and_then (λ (none : Unit {0}). Some x.0.0) (no_word vs)) more ∙ ap (option_and_then (λ (none : Unit {0}). Some x.0.0)) last,
        sym (ap (λ (p : Tree Place × List Token). p.0) x.2),
      )

  pub text_none : nested_within scope (length ws) ws ≡ None → expression_of scope ws ≡ None
  text_none read = ap (option_and_then ending) (read_none (expression_within scope (length ws) ws) read)

  pub text_longer : (e : Tree Place) (rest : List Token) → nested_within scope (length ws) ws ≡ Some (e, rest) → no_word rest ≡ None → expression_of scope ws ≡ None
  text_longer e rest read last =
      let x = read_back (expression_within scope (length ws) ws) (e, rest) read in
      let more = ap (λ (p : Tree Place × List Token). p.1) x.2 in
      ap (option_and_then ending) x.1 ∙ ap (λ vs. option_and_then (λ (none : Unit {0}). Some x.0.0) (no_word vs)) more ∙ ap (option_and_then (λ (none : Unit {0}). Some x.0.0)) last

  pub text_deep : (levels : ℕ) → Fails (levels + 1) errors.TooDeep (nested_within scope (length ws) ws) → (e : Tree Place) → expression_of scope ws ≡ Some e → levels < depth (halved e)
  text_deep levels deep e h =
      let a = step_of (expression_within scope (length ws) ws) ending e h in
      let b = step_of (no_word a.at.1) (λ (none : Unit {0}). Some a.at.0) e a.then in
      let last = b.then in
      let same : a.at.0 ≡ e = cc in
      let found = deep (halved_pair a.at) (ap halved_read a.made) in
      let P : Tree Place → Type 0 = λ d. levels < depth (halved d) in
      subst P same (omega (arith, found))
