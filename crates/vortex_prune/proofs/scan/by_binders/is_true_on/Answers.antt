use Rattle.std.proofs.Common.{ap, ◌∙◌}
use Rattle.vortex_expr.specs.Meanings.Meaning.{is_true, meaning}
use Rattle.vortex_prune.proofs.Binding.ProofLemmas.{row_value}
use Rattle.vortex_rewrite.proofs.Logic.{made_value, memory_alone}
use Rattle.vortex_prune.proofs.scan.by_binders.is_true_on.Goals as goal

pub expect_memory_only-requires : goal.expect_memory_only-requires
expect_memory_only-requires c =
    memory_alone _ _ (row_value c.args.bound.now c.args.row.now c.args.rows c.evaluate.result c.requires.free c.requires.fits c.evaluate.ensures.value)

pub returns-clause-value : goal.returns-clause-value
returns-clause-value c =
    let value = meaning c.args.bound.now c.args.row.now c.args.rows in
    let makes = row_value c.args.bound.now c.args.row.now c.args.rows c.evaluate.result c.requires.free c.requires.fits c.evaluate.ensures.value in
    c.is_true.ensures ∙ ap is_true (made_value value c.in_ok-value.value c.evaluate.result makes c.in_ok-value.ensures)
