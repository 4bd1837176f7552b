use Rattle.std.proofs.Common.{◌≡◌, sym, subst, ◌∙◌}
use Rattle.std.specs.Prelude.{IsTrue}
use Rattle.vortex_rewrite.specs.Rewriting.Predicates.{is_predicate}
use Rattle.vortex_normal.specs.Same.{HasNoOther, Same, StaysPlain}
use Rattle.vortex_normal.specs.Strict.{strict}
use Rattle.vortex_normal.proofs.StrictTold.{strict_told}
use Rattle.vortex_normal.proofs.TestedKept.{strict_columns, strict_plain}
use Rattle.vortex_normal.proofs.normalize.strict_form.Goals as goal

pub returns : goal.returns
returns c =
    let p = c.args.predicate.now in
    let is : c.into_expression.result ≡ strict p = c.into_expression.ensures.value ∙ c.in_ok-with_values.ensures in
    record {
      same = subst (λ e. Same p e) (sym is) (λ row n r f small. strict_told row n p);
      form = is;
      truth = subst (λ e. IsTrue (is_predicate e)) (sym c.into_expression.ensures.value) c.into_expression.ensures.truth;
      columns = subst (λ e. HasNoOther p e) (sym is) (strict_columns p);
      plain = subst (λ e. StaysPlain p e) (sym is) (strict_plain p);
      memory = tt;
    }
