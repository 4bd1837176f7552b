use Rattle.std.proofs.Common.{◌∙◌, Some, ap, map, option_map, slice_set}
use Rattle.std.proofs.lemmas.List.{map-set}
use Rattle.vortex_zone_map.proofs.fill.put_number.Goals as goal

pub returns-clause-put : goal.returns-clause-put
returns-clause-put g c =
    let f = option_map g.T.Native.scalar in
    let put = slice_set c.args.natives.now c.args.place (Some c.args.number) in
    λ _. ap (map f) {y = put} c.set.ensures ∙ map-set f c.args.natives.now c.args.place (Some c.args.number)
