use Rattle.std.proofs.Common.{◌++◌, ◌∷◌, List, [], ap, ◌∙◌}
use Rattle.vortex_zone_map.proofs.KeptLemmas.{one_more_kept, one_more_said}
use Rattle.vortex_zone_map.specs.Kept.{Saying}
use Rattle.vortex_zone_map.specs.declared.stat_entry.StatEntry.{StatEntry}
use Rattle.vortex_zone_map.proofs.stat_entry.tell_other.Goals as goal

pub returns-clause-told : goal.returns-clause-told
returns-clause-told c =
    let t : StatEntry = record { column = c.args.column; stat = c.args.stat; form = c.in_ok-kept.kept.form; cell = c.in_ok-kept.kept.cell } in
    let s : Saying = record { column = c.args.column; stat = c.args.stat; value = c.args.value } in
    one_more_said c.args.var_len_values.now.items c.keep.new.var_len_values.items c.in_ok-kept.ensures.longer c.args.told.now.items c.requires c.push_reserved.new.self.items t s
    (c.push_reserved.ensures.items ∙ ap (λ (l : List StatEntry). l ++ t ∷ []) c.in_ok-reserve.ensures.items)
    (ap (λ v. let says : Saying = record { column = c.args.column; stat = c.args.stat; value = v } in says) c.in_ok-kept.ensures.kept)

pub returns-clause-kept : goal.returns-clause-kept
returns-clause-kept c =
    let t : StatEntry = record { column = c.args.column; stat = c.args.stat; form = c.in_ok-kept.kept.form; cell = c.in_ok-kept.kept.cell } in
    one_more_kept c.args.var_len_values.now.items c.keep.new.var_len_values.items c.in_ok-kept.ensures.longer c.args.told.now.items c.requires c.push_reserved.new.self.items t
    (c.push_reserved.ensures.items ∙ ap (λ (l : List StatEntry). l ++ t ∷ []) c.in_ok-reserve.ensures.items) c.in_ok-kept.ensures.placed
