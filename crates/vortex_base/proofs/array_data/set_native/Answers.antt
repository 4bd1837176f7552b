use Rattle.std.proofs.Common.{◌∙◌, ap, arith, map, option_map}
use Rattle.std.proofs.lemmas.List.{length-map, map-set}
use Rattle.vortex_base.proofs.array_data.set_native.Goals as goal

pub set-requires : goal.set-requires
set-requires g c =
    let f = option_map g.T.Native.scalar in
    omega (arith, c.requires, length-map c.args.natives.now f)

pub returns : goal.returns
returns g c =
    let f = option_map g.T.Native.scalar in
    ap (map f) c.set.ensures ∙ map-set f c.args.natives.now c.args.place c.args.native
