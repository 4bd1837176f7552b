use Rattle.std.proofs.Common.{◌≡◌, sym, subst, ◌∙◌}
use Rattle.std.specs.Prelude.{IsTrue}
use Rattle.vortex_rewrite.specs.Rewriting.Predicates.{is_predicate}
use Rattle.vortex_normal.specs.Narrowed.{narrow}
use Rattle.vortex_normal.specs.Same.{HasNoOther, Same, StaysPlain}
use Rattle.vortex_normal.proofs.Narrowing.{narrow_columns, narrow_plain, narrow_same}
use Rattle.vortex_normal.proofs.normalize.narrow_form.Goals as goal

pub returns : goal.returns
returns c =
    let p = c.args.predicate.now in
    let is : c.into_expression.result ≡ narrow p = c.into_expression.ensures.value ∙ c.in_ok-narrow.ensures in
    record {
      same = subst (λ e. Same p e) (sym is) (narrow_same p c.requires);
      form = is;
      truth = subst (λ e. IsTrue (is_predicate e)) (sym c.into_expression.ensures.value) c.into_expression.ensures.truth;
      columns = subst (λ e. HasNoOther p e) (sym is) (narrow_columns p);
      plain = subst (λ e. StaysPlain p e) (sym is) (narrow_plain p);
      memory = tt;
    }
