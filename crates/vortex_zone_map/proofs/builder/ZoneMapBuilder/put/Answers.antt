use Rattle.std.proofs.Common.{List, ap, arith, sym, ◌∙◌}
use Rattle.vortex_zone_map.proofs.StepLemmas.{nothing_log, on_err, same_log, told_log}
use Rattle.vortex_zone_map.specs.Blocks.{all_of}
use Rattle.vortex_zone_map.specs.Kept.{Saying, log_of}
use Rattle.vortex_zone_map.specs.Logs.{with_told}
use Rattle.vortex_zone_map.specs.declared.stat_entry.StatEntry.{StatEntry}
use Rattle.vortex_zone_map.proofs.builder.ZoneMapBuilder.put.Goals as goal

pub returns-in_err-tell-clause-refused : goal.returns-in_err-tell-clause-refused
returns-in_err-tell-clause-refused c =
    let l = c.self.inside in
    let runs = all_of l.stretches in
    on_err c.from_residual.result
    (ap (λ (now : List StatEntry). log_of l.columns c.tell.new.var_len_values.items l.told.items now runs) c.in_err-tell.ensures.refused
    ∙ same_log l.columns l.var_len_values.items c.tell.new.var_len_values.items c.in_err-tell.ensures.longer l.told.items l.current.items runs c.self.invariant.0 ∙ c.self.view_is)

pub returns-in_ok-tell-clause-told : goal.returns-in_ok-tell-clause-told
returns-in_ok-tell-clause-told c =
    let l = c.self.inside in
    let runs = all_of l.stretches in
    let s : Saying = record { column = c.args.column; stat = c.args.stat; value = c.args.value } in
    told_log l.columns l.var_len_values.items c.tell.new.var_len_values.items c.in_ok-tell.ensures.longer l.told.items l.current.items runs c.self.invariant.0 c.tell.new.told.items s c.in_ok-tell.ensures.told
    ∙ ap (with_told c.args.column c.args.stat c.args.value) c.self.view_is

pub returns-else-column-self-clause-told : goal.returns-else-column-self-clause-told
returns-else-column-self-clause-told c =
    let l = c.self.inside in
    sym c.self.view_is
    ∙ nothing_log l.columns l.var_len_values.items l.told.items l.current.items (all_of l.stretches) c.args.column c.args.stat c.args.value (omega arith)
    ∙ ap (with_told c.args.column c.args.stat c.args.value) c.self.view_is
