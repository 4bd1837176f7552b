use Rattle.std.proofs.Common.{arith, ap, ◌∙◌, pos, ◌<◌, ◌^◌}
use Rattle.std.specs.Int.{w128}
use Rattle.std.proofs.lemmas.Int.{to_z_pos}
use Rattle.vortex_logical.proofs.Placing.{power-short}
use Rattle.vortex_logical.proofs.place.power_of_ten.Goals as goal

pub pow-requires : goal.pow-requires
pow-requires c = let h = power-short c.args.exponent c.requires in omega arith

pub overflow_cast-result : goal.overflow_cast-result
overflow_cast-result c = let h = power-short c.args.exponent c.requires in record { sfits = omega arith }

pub returns : goal.returns
returns c =
    let h = power-short c.args.exponent c.requires in
    let short : c.pow.result < 2 ^ 127 = omega arith in
    to_z_pos w128 c.pow.result short ∙ ap pos c.pow.ensures
