use Rattle.std.proofs.Common.{◌≡◌, IfOk, subst, ◌∙◌}
use Rattle.std.specs.Prelude.{slice_get}
use Rattle.std.proofs.lemmas.Result.{IfOk-weaker}
use Rattle.vortex_expr.specs.Meanings.Fitting.{is_cell_of}
use Rattle.vortex_expr.specs.Trees.Tree.{Place, Tree}
use Rattle.vortex_normal.specs.Groups.{normal}
use Rattle.vortex_normal.specs.Same.{HasNoOther, Same, StaysPlain}
use Rattle.vortex_normal.specs.Tested.{tested}
use Rattle.vortex_normal.proofs.TestedKept.{tested_columns, tested_plain}
use Rattle.vortex_normal.proofs.TestedTold.{tested_is_test}
use Rattle.vortex_normal.proofs.normalize.test_form.Goals as goal

pub returns : goal.returns
returns c =
    let p = c.args.predicate.now in
    let w = c.args.wanted in
    let m = c.args.with_null in
    let q : Tree Place = tested 3 w m p in
    let r = c.normal_form.result in
    let given : c.expression.result.now ≡ q = c.expression.ensures.value ∙ c.in_ok-tested.ensures in
    record {
      test = IfOk-weaker r _ _
          (λ e same row k cells f small. same row k cells (tested_columns 3 w m p (λ c. is_cell_of c.dtype (slice_get row c.index)) f) small ∙ tested_is_test 3 w m p c.requires row k cells f small)
          (subst (λ (x : Tree Place). IfOk r (λ e. Same x e)) given c.normal_form.ensures.same);
      form = subst (λ (x : Tree Place). IfOk r (λ e. e ≡ normal x)) given c.normal_form.ensures.form;
      truth = c.normal_form.ensures.truth;
      columns = IfOk-weaker r _ _ (λ e columns test h. columns test (tested_columns 3 w m p test h)) (subst (λ (x : Tree Place). IfOk r (λ e. HasNoOther x e)) given c.normal_form.ensures.columns);
      plain = IfOk-weaker r _ _ (λ e plain h. plain (tested_plain 3 w m p h)) (subst (λ (x : Tree Place). IfOk r (λ e. StaysPlain x e)) given c.normal_form.ensures.plain);
      memory = c.normal_form.ensures.memory;
    }
