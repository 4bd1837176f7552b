use Rattle.std.proofs.Common.{◌++◌, ◌∷◌, List, [], ap, length, ◌∙◌}
use Rattle.vortex_zone_map.proofs.KeptLemmas.{longer_same, one_more_kept, one_more_said}
use Rattle.vortex_zone_map.specs.Kept.{Saying}
use Rattle.vortex_zone_map.specs.declared.stat_entry.StatEntry.{StatEntry}
use Rattle.vortex_zone_map.proofs.stat_entry.tell.Goals as goal

pub returns-in_ok-reserve-in-Some-clause-told : goal.returns-in_ok-reserve-in-Some-clause-told
returns-in_ok-reserve-in-Some-clause-told c =
    let var_len_values = c.args.var_len_values.now.items in
    let t : StatEntry = record { column = c.args.column; stat = c.args.stat; form = c.in-Some.form; cell = c.number_cell.result } in
    let s : Saying = record { column = c.args.column; stat = c.args.stat; value = c.args.value } in
    one_more_said var_len_values var_len_values (longer_same var_len_values) c.args.told.now.items c.requires c.push_reserved.new.self.items t s
    (c.push_reserved.ensures.items ∙ ap (λ (l : List StatEntry). l ++ t ∷ []) c.in_ok-reserve-in-Some.ensures.items)
    (ap (λ v. let says : Saying = record { column = c.args.column; stat = c.args.stat; value = v } in says) (c.in-Some.ensures.kept var_len_values c.number_cell.result c.number_cell.ensures))

pub returns-in_ok-reserve-in-Some-clause-kept : goal.returns-in_ok-reserve-in-Some-clause-kept
returns-in_ok-reserve-in-Some-clause-kept c =
    let var_len_values = c.args.var_len_values.now.items in
    let t : StatEntry = record { column = c.args.column; stat = c.args.stat; form = c.in-Some.form; cell = c.number_cell.result } in
    one_more_kept var_len_values var_len_values (longer_same var_len_values) c.args.told.now.items c.requires c.push_reserved.new.self.items t
    (c.push_reserved.ensures.items ∙ ap (λ (l : List StatEntry). l ++ t ∷ []) c.in_ok-reserve-in-Some.ensures.items) (c.in-Some.ensures.placed (length var_len_values) c.number_cell.result)
