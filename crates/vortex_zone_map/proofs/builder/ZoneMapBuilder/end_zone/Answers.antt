use Rattle.std.proofs.Common.{◌≡◌, ◌+◌, ◌++◌, List, ap, ap₂, length, ◌∙◌}
use Rattle.vortex_zone_map.proofs.StepLemmas.{ended_is_log, ended_log}
use Rattle.vortex_zone_map.specs.Blocks.{all_of}
use Rattle.vortex_zone_map.specs.Logs.{ended}
use Rattle.vortex_zone_map.specs.declared.stat_entry.StatEntry.{StatEntry}
use Rattle.vortex_zone_map.proofs.builder.ZoneMapBuilder.end_zone.Goals as goal

pub invariant_of-self-2 : goal.invariant_of-self-2
invariant_of-self-2 c =
    let l = c.self.inside in
    let s = c.in_ok-next.next in
    let is = c.in_ok-next.ensures in
    let to : s.to ≡ length l.told.items + length l.current.items = is.to ∙ ap (λ k. length l.told.items + k) (c.len.ensures ∙ l.current.ok.0) in (
      ended_is_log l.columns l.var_len_values.items l.told.items l.current.items l.current.items (all_of l.stretches) c.self.invariant.0 c.self.invariant.0.current_kept s is.from to c.move_behind.new.told.items c.move_behind.new.more.items
          (all_of c.push.new.self) (c.move_behind.ensures.told ∙ ap (λ (ts : List StatEntry). ts ++ l.current.items) is.same) c.move_behind.ensures.emptied c.in_ok-push.ensures.pushed,
      c.in_ok-push.ensures.counted,
    )

pub returns-clause-ended : goal.returns-clause-ended
returns-clause-ended c =
    let l = c.self.inside in
    let s = c.in_ok-next.next in
    let is = c.in_ok-next.ensures in
    let to : s.to ≡ length l.told.items + length l.current.items = is.to ∙ ap (λ k. length l.told.items + k) (c.len.ensures ∙ l.current.ok.0) in
    ended_log l.columns l.var_len_values.items l.told.items l.current.items (all_of l.stretches) c.self.invariant.0 s is.from to c.move_behind.new.told.items c.move_behind.new.more.items
    (all_of c.push.new.self) (c.move_behind.ensures.told ∙ ap (λ (ts : List StatEntry). ts ++ l.current.items) is.same) c.move_behind.ensures.emptied c.in_ok-push.ensures.pushed
    ∙ ap₂ ended is.rows c.self.view_is
