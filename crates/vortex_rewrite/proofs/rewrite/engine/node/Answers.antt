use Rattle.std.proofs.Common.{ap, sym, ◌∙◌, ◌++◌, option_to_list}
use Rattle.vortex_rewrite.specs.Rewriting.BuiltIn.{listed}
use Rattle.vortex_rewrite.specs.Rewriting.Falsifiers.{own_proofs}
use Rattle.vortex_rewrite.specs.Rewriting.Own.{own_rules}
use Rattle.vortex_rewrite.specs.Rewriting.Sides.{proof_of}
use Rattle.vortex_rewrite.proofs.Soundness.NodeProofs.{alone, listed_is, node_answer}
use Rattle.vortex_rewrite.proofs.rewrite.engine.node.Goals as goal

pub returns-then-not-is_asked-clause-answer : goal.returns-then-not-is_asked-clause-answer
returns-then-not-is_asked-clause-answer g c =
    alone (proof_of c.args.side) (own_rules (λ b. (g.dyn-1.0.entry b.vtable).1) c.args.rules.now.own.items) c.args.e.now c.args.built_in.0 c.args.built_in.1 _ (sym c.is_asked.ensures ∙ c.if-not-is_asked.true) c.either_joined.ensures

pub returns-clause-answer : goal.returns-clause-answer
returns-clause-answer g c =
    let own = own_rules (λ b. (g.dyn-1.0.entry b.vtable).1) c.args.rules.now.own.items in
    node_answer (proof_of c.args.side) own c.args.e.now (listed c.args.built_in.0 c.args.built_in.1) _ _
    (c.in_ok-ask_own.ensures.proofs ∙ ap (λ ps. ps ++ own_proofs (proof_of c.args.side) own c.args.e.now) (c.in_ok-push_some-2.ensures ∙ ap (λ ps. ps ++ option_to_list c.args.built_in.1) (c.in_ok-push_some.ensures ∙ ap (λ ps. ps ++ option_to_list c.args.built_in.0) c.new-proofs.ensures.items) ∙ listed_is c.args.built_in.0 c.args.built_in.1))
    c.reduce_balanced.ensures
