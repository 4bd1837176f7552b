use Rattle.std.proofs.Common.{◌≡◌, ◌+◌, ◌++◌, List, ap, arith, length, refl, sym, ◌∙◌}
use Rattle.std.specs.Prelude.{slice_get}
use Rattle.vortex_zone_map.specs.Zone.{merged_sets}
use Rattle.vortex_zone_map.proofs.JoinLemmas.{as_long, length-merged}
use Rattle.vortex_zone_map.proofs.StepLemmas.{joined_is_log, joined_log, on_err, refused_is_log, refused_log, same_log, stays_log}
use Rattle.vortex_zone_map.specs.Blocks.{all_of}
use Rattle.vortex_zone_map.specs.Known.{known_zone}
use Rattle.vortex_zone_map.specs.Logs.{LogData, joined_at}
use Rattle.vortex_zone_map.specs.declared.stat_entry.StatEntry.{StatEntry}
use Rattle.vortex_zone_map.proofs.builder.ZoneMapBuilder.join_at.Goals as goal

pub overflow_add-rows : goal.overflow_add-rows
overflow_add-rows c =
    let may = c.requires.joinable (known_zone c.in_ok-left.left) (known_zone c.in_ok-right.right) c.in_ok-left.ensures.known c.in_ok-right.ensures.known in
    let rows = may.rows in
    omega (arith, rows)

pub merged_sets-requires-clause-left_fits : goal.merged_sets-requires-clause-left_fits
merged_sets-requires-clause-left_fits c =
    (c.requires.joinable (known_zone c.in_ok-left.left) (known_zone c.in_ok-right.right) c.in_ok-left.ensures.known c.in_ok-right.ensures.known).left_fits

pub merged_sets-requires-clause-right_fits : goal.merged_sets-requires-clause-right_fits
merged_sets-requires-clause-right_fits c =
    rw c.deref.ensures.value ((c.requires.joinable (known_zone c.in_ok-left.left) (known_zone c.in_ok-right.right) c.in_ok-left.ensures.known c.in_ok-right.ensures.known).right_fits)

-- the merged sets are as many as the log has columns
pub told_of-requires : goal.told_of-requires
told_of-requires c =
    let left = c.in_ok-left.left.sets.items in
    let right = c.in_ok-right.right.sets.items in
    let may = c.requires.joinable (known_zone c.in_ok-left.left) (known_zone c.in_ok-right.right) c.in_ok-left.ensures.known c.in_ok-right.ensures.known in
    let all : length c.in_ok-sets.sets.items ≡ length left = ap length (c.in_ok-sets.ensures ∙ ap (merged_sets left) c.deref.ensures.value) ∙ length-merged left right (as_long c.args.columns.now left right may.left_fits may.right_fits) in
    omega (arith, all, c.in_ok-left.ensures.few)

pub invariant_of-self : goal.invariant_of-self
invariant_of-self c =
    let l = c.self.inside in
    let runs = all_of l.stretches in
    (stays_log l.columns l.var_len_values.items c.told_of.new.var_len_values.items c.in_err-told.ensures.longer l.told.items l.current.items runs c.self.invariant.0, c.self.invariant.1)

pub returns-in_err-told-clause-refused : goal.returns-in_err-told-clause-refused
returns-in_err-told-clause-refused c =
    let l = c.self.inside in
    let runs = all_of l.stretches in
    on_err c.from_residual-in_err-told.result (same_log l.columns l.var_len_values.items c.told_of.new.var_len_values.items c.in_err-told.ensures.longer l.told.items l.current.items runs c.self.invariant.0 ∙ c.self.view_is)

pub invariant_of-self-in_err-joined : goal.invariant_of-self-in_err-joined
invariant_of-self-in_err-joined c =
    let l = c.self.inside in
    let runs = all_of l.stretches in
    (refused_is_log l.columns l.var_len_values.items c.told_of.new.var_len_values.items c.in_ok-told.ensures.longer l.told.items l.current.items runs c.self.invariant.0 c.next_stretch.new.told.items runs c.in_err-joined.ensures.same refl, c.self.invariant.1)

pub returns-in_err-joined-clause-refused : goal.returns-in_err-joined-clause-refused
returns-in_err-joined-clause-refused c =
    let l = c.self.inside in
    let runs = all_of l.stretches in
    on_err c.from_residual-in_err-joined.result (refused_log l.columns l.var_len_values.items c.told_of.new.var_len_values.items c.in_ok-told.ensures.longer l.told.items l.current.items runs c.self.invariant.0 c.next_stretch.new.told.items runs c.in_err-joined.ensures.same refl ∙ c.self.view_is)

pub invariant_of-self-2 : goal.invariant_of-self-2
invariant_of-self-2 c =
    let l = c.self.inside in
    let runs = all_of l.stretches in
    let var_len_values = c.told_of.new.var_len_values.items in
    let more = c.in_ok-told.told.items in
    let stays = stays_log l.columns l.var_len_values.items var_len_values c.in_ok-told.ensures.longer l.told.items l.current.items runs c.self.invariant.0 in
    let is = c.in_ok-joined.ensures in
    let to : c.in_ok-joined.joined.to ≡ length l.told.items + length more = is.to ∙ ap (λ k. length l.told.items + k) (c.len.ensures ∙ c.in_ok-told.told.ok.0) in (
      joined_is_log l.columns var_len_values l.told.items more l.current.items runs stays c.in_ok-told.ensures.kept c.in_ok-joined.joined is.from to c.args.place c.move_behind.new.told.items (all_of c.join_at.new.self)
          (c.move_behind.ensures.told ∙ ap (λ (ts : List StatEntry). ts ++ more) is.same) c.join_at.ensures.joined,
      c.join_at.ensures.counted,
    )

pub returns-clause-joined : goal.returns-clause-joined
returns-clause-joined c =
    let l = c.self.inside in
    let runs = all_of l.stretches in
    let var_len_values = c.told_of.new.var_len_values.items in
    let more = c.in_ok-told.told.items in
    let stays = stays_log l.columns l.var_len_values.items var_len_values c.in_ok-told.ensures.longer l.told.items l.current.items runs c.self.invariant.0 in
    let is = c.in_ok-joined.ensures in
    let to : c.in_ok-joined.joined.to ≡ length l.told.items + length more = is.to ∙ ap (λ k. length l.told.items + k) (c.len.ensures ∙ c.in_ok-told.told.ok.0) in
    let before = same_log l.columns l.var_len_values.items var_len_values c.in_ok-told.ensures.longer l.told.items l.current.items runs c.self.invariant.0 ∙ c.self.view_is in
    ap (λ (d : LogData). joined_at c.args.place d.zones) (sym before)
    ∙ joined_log l.columns var_len_values l.told.items more l.current.items runs stays c.in_ok-told.ensures.kept c.in_ok-joined.joined is.from to c.args.place c.move_behind.new.told.items (all_of c.join_at.new.self)
    (known_zone c.in_ok-left.left) (known_zone c.in_ok-right.right) c.in_ok-sets.sets.items (c.move_behind.ensures.told ∙ ap (λ (ts : List StatEntry). ts ++ more) is.same) c.join_at.ensures.joined
    (ap (λ (d : LogData). slice_get d.zones c.args.place) before ∙ c.in_ok-left.ensures.known) (ap (λ (d : LogData). slice_get d.zones (c.args.place + 1)) before ∙ c.in_ok-right.ensures.known) is.rows
    (c.in_ok-sets.ensures ∙ ap (merged_sets c.in_ok-left.left.sets.items) c.deref.ensures.value) c.in_ok-told.ensures.told

pub returns-clause-current : goal.returns-clause-current
returns-clause-current c =
    let l = c.self.inside in
    let runs = all_of l.stretches in
    ap (λ (d : LogData). d.current) (same_log l.columns l.var_len_values.items c.told_of.new.var_len_values.items c.in_ok-told.ensures.longer l.told.items l.current.items runs c.self.invariant.0 ∙ c.self.view_is)
