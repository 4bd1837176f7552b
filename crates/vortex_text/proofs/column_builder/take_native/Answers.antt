use Rattle.std.proofs.Common.{◌++◌, ◌∷◌, [], ◌∙◌, ap, map, option_map}
use Rattle.std.proofs.lemmas.List.{map-append}
use Rattle.vortex_base.specs.Data.ArrayData.{short_value}
use Rattle.vortex_text.proofs.column_builder.take_native.Goals as goal

pub returns-in-Ok-clause-taken : goal.returns-in-Ok-clause-taken
returns-in-Ok-clause-taken g c =
    let f = option_map g.T.Native.scalar in
    let old = c.args.natives.now in
    (short_value c.in_ok-cell.cell, c.in_ok-cell.ensures.value, ap (map f) c.in-Ok.ensures.pushed ∙ map-append f old (c.in_ok-native.native ∷ []) ∙ ap (λ v. map f old ++ v ∷ []) c.in_ok-native.ensures)
