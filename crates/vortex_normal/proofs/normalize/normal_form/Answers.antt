use Rattle.std.proofs.Common.{◌≡◌, ap, sym, subst, true, ◌∙◌}
use Rattle.std.specs.Prelude.{IsTrue}
use Rattle.vortex_rewrite.specs.Rewriting.Predicates.{is_predicate}
use Rattle.vortex_normal.specs.Groups.{grouped, normal}
use Rattle.vortex_normal.specs.Pushed.{pushed}
use Rattle.vortex_normal.specs.Same.{HasNoOther, Same, StaysPlain}
use Rattle.vortex_normal.proofs.Grouped.{grouped_told}
use Rattle.vortex_normal.proofs.GroupsKept.{grouped_columns, grouped_plain}
use Rattle.vortex_normal.proofs.Told.{pushed_same}
use Rattle.vortex_normal.proofs.Kept.{columns_kept, plain_kept}
use Rattle.vortex_normal.proofs.normalize.normal_form.Goals as goal

pub returns : goal.returns
returns c =
    let p = c.args.predicate.now in
    let is : c.into_expression.result ≡ normal p = c.into_expression.ensures.value ∙ c.in_ok-grouped.ensures ∙ ap grouped (c.expression.ensures.value ∙ c.in_ok-pushed.ensures) in
    record {
      same = subst (λ e. Same p e) (sym is) (λ row n r f small. grouped_told row n (pushed true p) ∙ pushed_same p c.requires row n r f small);
      form = is;
      truth = subst (λ e. IsTrue (is_predicate e)) (sym c.into_expression.ensures.value) c.into_expression.ensures.truth;
      columns = subst (λ e. HasNoOther p e) (sym is) (λ test h. grouped_columns test (pushed true p) (columns_kept test true p h));
      plain = subst (λ e. StaysPlain p e) (sym is) (λ h. grouped_plain (pushed true p) (plain_kept p h));
      memory = tt;
    }
