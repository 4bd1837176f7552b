use Rattle.std.proofs.Common.{sym}
use Rattle.vortex_zone_map.proofs.StatFits.{constant-supported, made-constant_of}
use Rattle.vortex_zone_map.proofs.stat_fn.scalar_of.Goals as goal

pub unreachable-requires : goal.unreachable-requires
unreachable-requires c =
    let made = made-constant_of c.args.aggregate c.args.stats.now c.args.rows c.args.dtype.now c.in_ok-answer.answer c.requires (sym c.in_ok-answer.ensures) in
    let value = c.in_ok-value.ensures in
    let answer = c.in-Err.ensures in
    cc

pub returns : goal.returns
returns c =
    constant-supported c.args.aggregate c.args.stats.now c.args.rows c.args.dtype.now c.in_ok-answer.answer c.in_ok-value.value c.in-Ok.scalar c.requires (sym c.in_ok-answer.ensures) c.in_ok-value.ensures (sym c.in-Ok.ensures)
