use Rattle.std.proofs.Common.{◌≡◌, false, rules, ap, sym, ◌∙◌}
use Rattle.vortex_expr.specs.Trees.Parts.{whole}
use Rattle.std.proofs.lemmas.Result.{err_from_is_err_and}
use Rattle.vortex_expr.specs.Trees.Tree.{between, binary}
use Rattle.vortex_expr.specs.declared.scalar_fn.Operator.TheVariants.{And, Or}
use Rattle.vortex_rewrite.proofs.Rewriting.AskedNodes.{at_and_left, at_and_right, at_halves, at_node, at_or_left, at_or_right}
use Rattle.vortex_rewrite.proofs.Rewriting.CauseLemmas.{answer-more, refusal-more}
use Rattle.vortex_rewrite.specs.Rewriting.Own.{own_rules}
use Rattle.vortex_rewrite.specs.Rewriting.Sides.{proof_of}
use Rattle.vortex_rewrite.specs.Rewriting.Falsifiers.{ends, ends_node, visits}
use Rattle.vortex_rewrite.proofs.Soundness.NodeProofs.{always_ok, between_answer, empty_node, empty_turns, empty_visits, is_rewritten, moved_node, moved_turns, moved_visits, others_plain, plain_visits, table_answer}
use Rattle.vortex_rewrite.proofs.rewrite.engine.+rewrite_node.Goals as goal
use Rattle.vortex_rewrite.proofs.rewrite.engine.+rewrite_node.Goals.{in-None+in_ok-proof-in-None, in-Some+in_ok-proof-in-Some}

pub returns-in_ok-table_proofs-in_default-clause-answer : goal.returns-in_ok-table_proofs-in_default-clause-answer
returns-in_ok-table_proofs-in_default-clause-answer g t c =
    let plain : is_rewritten c.args.e.now ≡ false = others_plain c.args.e.now _ c.parts.ensures c.in_default.not-Binary c.in_default.not-Between in
    table_answer c.args.side (own_rules (λ b. (g.dyn-1.0.entry b.vtable).1) c.args.rules.now.own.items) c.args.e.now _ _ plain c.in_ok-table_proofs-in_default.ensures c.node-in_default.ensures.answer

pub returns-in_ok-table_proofs-in_default-clause-visits : goal.returns-in_ok-table_proofs-in_default-clause-visits
returns-in_ok-table_proofs-in_default-clause-visits g t c =
    let plain : is_rewritten c.args.e.now ≡ false = others_plain c.args.e.now _ c.parts.ensures c.in_default.not-Binary c.in_default.not-Between in
    let one : visits c.args.e.now ≡ 1 = plain_visits c.args.e.now plain in
    rw one (search rules)

pub returns-after-halves-clause-answer : goal.returns-after-halves-clause-answer
returns-after-halves-clause-answer g t c =
    let rs = own_rules (λ b. (g.dyn-1.0.entry b.vtable).1) c.args.rules.now.own.items in
    let p_is : c.args.e.now ≡ between c.in-Between.options c.in-Between.x.now c.in-Between.lower.now c.in-Between.upper.now = c.parts.ensures ∙ ap whole c.in-Between.is in
    let halves_is = c.in_ok-halves-in-Between.ensures in
    let proof_is : c.match-halves.proof ≡ ends_node c.args.side rs c.in-Between.x.now (ends c.in-Between.options c.in-Between.lower.now c.in-Between.upper.now) =
    elim c.match-halves.branch [
      | in-None+in_ok-proof-in-None w ↦ w.proof-is ∙ w.in_ok-proof-in-None.ensures ∙ empty_node c.args.side rs c.in-Between.options c.in-Between.x.now c.in-Between.lower.now c.in-Between.upper.now c.args.e.now p_is (sym w.in-None.is ∙ halves_is)
      | in-Some+in_ok-proof-in-Some w ↦ w.proof-is ∙ w.in_ok-proof-in-Some.ensures.answer ∙ moved_node c.args.side rs c.in-Between.options c.in-Between.x.now c.in-Between.lower.now c.in-Between.upper.now c.args.e.now p_is w.in-Some.halves (sym w.in-Some.is ∙ halves_is)
    ] in
    between_answer c.args.side rs c.in-Between.options c.in-Between.x.now c.in-Between.lower.now c.in-Between.upper.now c.args.e.now p_is c.match-halves.proof _ proof_is c.node-in-Between.ensures.answer

pub returns-after-halves-clause-visits : goal.returns-after-halves-clause-visits
returns-after-halves-clause-visits g t c =
    let rs = own_rules (λ b. (g.dyn-1.0.entry b.vtable).1) c.args.rules.now.own.items in
    let p_is : c.args.e.now ≡ between c.in-Between.options c.in-Between.x.now c.in-Between.lower.now c.in-Between.upper.now = c.parts.ensures ∙ ap whole c.in-Between.is in
    let halves_is = c.in_ok-halves-in-Between.ensures in
    always_ok c.node-in-Between.result _ (elim c.match-halves.branch [
      | in-None+in_ok-proof-in-None w ↦ empty_turns c.args.visits.now c.saturating_add.result c.match-halves.visits (visits c.args.e.now) 18446744073709551615 c.saturating_add.ensures w.visits-is
          (empty_visits c.args.side rs c.in-Between.options c.in-Between.x.now c.in-Between.lower.now c.in-Between.upper.now c.args.e.now p_is (sym w.in-None.is ∙ halves_is))
      | in-Some+in_ok-proof-in-Some w ↦
          let k = moved_visits c.args.side rs c.in-Between.options c.in-Between.x.now c.in-Between.lower.now c.in-Between.upper.now c.args.e.now p_is w.in-Some.halves (sym w.in-Some.is ∙ halves_is) in
          moved_turns c.args.visits.now c.saturating_add.result c.match-halves.visits (visits w.in-Some.halves) (visits c.args.e.now) 18446744073709551615 c.saturating_add.ensures (w.visits-is ∙ w.in_ok-proof-in-Some.ensures.visits) k.1 k.0
    ])

pub returns-in_err-left-in-And-clause-refusal : goal.returns-in_err-left-in-And-clause-refusal
returns-in_err-left-in-And-clause-refusal g t c =
    let l = c.in-Binary.left.now in
    let r = c.in-Binary.right.now in
    let is : c.args.e.now ≡ binary And l r = c.parts.ensures ∙ ap whole c.in-Binary.is ∙ ap (λ o. binary o l r) c.in-And.is in
    let p = err_from_is_err_and c.from_residual.result c.from_residual.ensures.1 in
    rw (p.1, p.2) (refusal-more _ _ _ (at_and_left (proof_of c.args.side) (own_rules (λ b. (g.dyn-1.0.entry b.vtable).1) c.args.rules.now.own.items) c.args.e.now l r is) c.in_err-left-in-And.ensures.refusal)

pub returns-in_err-right-in-And-clause-refusal : goal.returns-in_err-right-in-And-clause-refusal
returns-in_err-right-in-And-clause-refusal g t c =
    let l = c.in-Binary.left.now in
    let r = c.in-Binary.right.now in
    let is : c.args.e.now ≡ binary And l r = c.parts.ensures ∙ ap whole c.in-Binary.is ∙ ap (λ o. binary o l r) c.in-And.is in
    let p = err_from_is_err_and c.from_residual-in_err-right-in-And.result c.from_residual-in_err-right-in-And.ensures.1 in
    rw (p.1, p.2) (refusal-more _ _ _ (at_and_right (proof_of c.args.side) (own_rules (λ b. (g.dyn-1.0.entry b.vtable).1) c.args.rules.now.own.items) c.args.e.now l r is) c.in_err-right-in-And.ensures.refusal)

pub returns-in_err-left-in-Or-clause-refusal : goal.returns-in_err-left-in-Or-clause-refusal
returns-in_err-left-in-Or-clause-refusal g t c =
    let l = c.in-Binary.left.now in
    let r = c.in-Binary.right.now in
    let is : c.args.e.now ≡ binary Or l r = c.parts.ensures ∙ ap whole c.in-Binary.is ∙ ap (λ o. binary o l r) c.in-Or.is in
    let p = err_from_is_err_and c.from_residual-in_err-left-in-Or.result c.from_residual-in_err-left-in-Or.ensures.1 in
    rw (p.1, p.2) (refusal-more _ _ _ (at_or_left (proof_of c.args.side) (own_rules (λ b. (g.dyn-1.0.entry b.vtable).1) c.args.rules.now.own.items) c.args.e.now l r is) c.in_err-left-in-Or.ensures.refusal)

pub returns-in_err-right-in-Or-clause-refusal : goal.returns-in_err-right-in-Or-clause-refusal
returns-in_err-right-in-Or-clause-refusal g t c =
    let l = c.in-Binary.left.now in
    let r = c.in-Binary.right.now in
    let is : c.args.e.now ≡ binary Or l r = c.parts.ensures ∙ ap whole c.in-Binary.is ∙ ap (λ o. binary o l r) c.in-Or.is in
    let p = err_from_is_err_and c.from_residual-in_err-right-in-Or.result c.from_residual-in_err-right-in-Or.ensures.1 in
    rw (p.1, p.2) (refusal-more _ _ _ (at_or_right (proof_of c.args.side) (own_rules (λ b. (g.dyn-1.0.entry b.vtable).1) c.args.rules.now.own.items) c.args.e.now l r is) c.in_err-right-in-Or.ensures.refusal)

pub returns-in_err-proof-in-Some-clause-refusal : goal.returns-in_err-proof-in-Some-clause-refusal
returns-in_err-proof-in-Some-clause-refusal g t c =
    let p_is : c.args.e.now ≡ between c.in-Between.options c.in-Between.x.now c.in-Between.lower.now c.in-Between.upper.now = c.parts.ensures ∙ ap whole c.in-Between.is in
    let p = err_from_is_err_and c.from_residual-in_err-proof-in-Some.result c.from_residual-in_err-proof-in-Some.ensures.1 in
    rw (p.1, p.2)
    (refusal-more _ _ _
    (at_halves (proof_of c.args.side) (own_rules (λ b. (g.dyn-1.0.entry b.vtable).1) c.args.rules.now.own.items) c.args.e.now c.in-Between.options c.in-Between.x.now c.in-Between.lower.now c.in-Between.upper.now c.in-Some.halves p_is (sym c.in-Some.is ∙ c.in_ok-halves-in-Between.ensures))
    c.in_err-proof-in-Some.ensures.refusal)

pub returns-in_ok-joined-in-And-clause-refusal : goal.returns-in_ok-joined-in-And-clause-refusal
returns-in_ok-joined-in-And-clause-refusal g t c = answer-more _ _ _ (at_node (proof_of c.args.side) (own_rules (λ b. (g.dyn-1.0.entry b.vtable).1) c.args.rules.now.own.items) c.args.e.now) c.node.ensures.refusal

pub returns-in_ok-joined-in-Or-clause-refusal : goal.returns-in_ok-joined-in-Or-clause-refusal
returns-in_ok-joined-in-Or-clause-refusal g t c = answer-more _ _ _ (at_node (proof_of c.args.side) (own_rules (λ b. (g.dyn-1.0.entry b.vtable).1) c.args.rules.now.own.items) c.args.e.now) c.node-in-Or.ensures.refusal

pub returns-in_ok-compared-in_default-operator-clause-refusal : goal.returns-in_ok-compared-in_default-operator-clause-refusal
returns-in_ok-compared-in_default-operator-clause-refusal g t c = answer-more _ _ _ (at_node (proof_of c.args.side) (own_rules (λ b. (g.dyn-1.0.entry b.vtable).1) c.args.rules.now.own.items) c.args.e.now) c.node-in_default-operator.ensures.refusal

pub returns-after-halves-clause-refusal : goal.returns-after-halves-clause-refusal
returns-after-halves-clause-refusal g t c = answer-more _ _ _ (at_node (proof_of c.args.side) (own_rules (λ b. (g.dyn-1.0.entry b.vtable).1) c.args.rules.now.own.items) c.args.e.now) c.node-in-Between.ensures.refusal

pub returns-in_ok-table_proofs-in_default-clause-refusal : goal.returns-in_ok-table_proofs-in_default-clause-refusal
returns-in_ok-table_proofs-in_default-clause-refusal g t c = answer-more _ _ _ (at_node (proof_of c.args.side) (own_rules (λ b. (g.dyn-1.0.entry b.vtable).1) c.args.rules.now.own.items) c.args.e.now) c.node-in_default.ensures.refusal
