use Rattle.std.proofs.Common.{◌∷◌, false, subst, sym, true}
use Rattle.std.proofs.lemmas.Option.{IfSome_then}
use Rattle.vortex_sql.proofs.Parsing.Joined.{of_pair}
use Rattle.vortex_sql.specs.declared.syntax.tree.Condition.{Condition}
use Rattle.vortex_sql.specs.Parsing.Joining.{Joins, ands}
use Rattle.vortex_sql.specs.Parsing.Places.{leaves}
use Rattle.vortex_sql.proofs.syntax.spans.+end_of_joined.Goals as goal

pub returns-in_ok-middle-in-And-clause-joins : goal.returns-in_ok-middle-in-And-clause-joins
returns-in_ok-middle-in-And-clause-joins n c =
    IfSome_then c.end_of_joined-in-And.result c.end_of_joined-in-And.ensures.joins
    (λ end h.
    subst (λ (k : Condition). Joins c.args.text.now c.args.from (leaves k) (c.args.and_before ∷ ands k)) (sym c.in-And.is)
    (of_pair c.args.text.now c.args.from c.in_ok-middle-in-And.middle c.args.and_before true c.deref.result.now c.deref-in-And.result.now c.in-And.left.value c.in-And.right.value
    c.deref.ensures c.deref-in-And.ensures c.in_ok-middle-in-And.ensures.joins c.in_ok-middle-in-And.ensures.end h))

pub returns-in_ok-middle-in-Or-clause-joins : goal.returns-in_ok-middle-in-Or-clause-joins
returns-in_ok-middle-in-Or-clause-joins n c =
    IfSome_then c.end_of_joined-in-Or-2.result c.end_of_joined-in-Or-2.ensures.joins
    (λ end h.
    subst (λ (k : Condition). Joins c.args.text.now c.args.from (leaves k) (c.args.and_before ∷ ands k)) (sym c.in-Or.is)
    (of_pair c.args.text.now c.args.from c.in_ok-middle-in-Or.middle c.args.and_before false c.deref-in-Or.result.now c.deref-in-Or-2.result.now c.in-Or.left.value c.in-Or.right.value
    c.deref-in-Or.ensures c.deref-in-Or-2.ensures c.in_ok-middle-in-Or.ensures.joins c.in_ok-middle-in-Or.ensures.end h))
