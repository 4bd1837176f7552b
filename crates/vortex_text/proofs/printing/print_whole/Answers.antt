use Rattle.std.proofs.Common.{◌<◌, length, arith}
use Rattle.std.proofs.lemmas.Bool.Decides.{nat_tests}
use Rattle.vortex_text.proofs.PageLemmas.{whole_line}
use Rattle.vortex_text.proofs.printing.print_whole.Goals as goal

pub returns-clause-printed : goal.returns-clause-printed
returns-clause-printed g c =
    let some : 0 < length c.args.parts.now = grind (arith, nat_tests, c.is_empty.ensures, c.if-is_empty.false) in
    rw (whole_line c.args.parts.now some) c.print_part_line.ensures.printed

pub returns-clause-cut : goal.returns-clause-cut
returns-clause-cut g c =
    let some : 0 < length c.args.parts.now = grind (arith, nat_tests, c.is_empty.ensures, c.if-is_empty.false) in
    rw (whole_line c.args.parts.now some) c.print_part_line.ensures.cut
