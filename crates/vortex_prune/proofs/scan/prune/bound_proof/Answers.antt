use Rattle.std.proofs.Common.{Some, sym, ◌∙◌}
use Rattle.vortex_base.specs.Data.Columns.{row_of}
use Rattle.vortex_prune.proofs.ZoneMaps.ZoneRefusals.{bound_for_memory, left_open}
use Rattle.vortex_prune.proofs.ZoneMaps.ZoneScan.{bound_tells}
use Rattle.vortex_prune.specs.Binding.PartBinder.{IsNullOf}
use Rattle.vortex_prune.specs.Scanning.ZoneScans.{open_causes}
use Rattle.vortex_prune.specs.Zones.{zone_answer}
use Rattle.vortex_prune.proofs.scan.prune.bound_proof.Goals as goal

pub returns-then-has_bare_column-clause-refusal : goal.returns-then-has_bare_column-clause-refusal
returns-then-has_bare_column-clause-refusal c = λ some. left_open c.args.map.now.rows c.args.proof.now some (sym c.has_bare_column.ensures ∙ c.if-has_bare_column.true)

pub returns-clause-tells : goal.returns-clause-tells
returns-clause-tells c =
    bound_tells c.args.map.now c.new-binder.result c.new-binder.ensures.map c.args.proof.now (λ r. c.new-binder.ensures.faithful r 0) c.bind_stats_of.result (sym c.has_bare_column.ensures ∙ c.if-has_bare_column.false)
    c.bind_stats_of.ensures.value

pub returns-clause-refusal : goal.returns-clause-refusal
returns-clause-refusal c = λ some.
    let m = c.args.map.now in
    bound_for_memory (zone_answer c.new-binder.result.scope) IsNullOf c.args.proof.now (open_causes (Some c.args.proof.now) m.rows) c.bind_stats_of.result c.bind_stats_of.ensures.refusal
    (c.bind_stats_of.ensures.right_types (row_of 0 m.table.columns) 0 (c.new-binder.ensures.faithful 0 0))
