use Rattle.std.proofs.Common.{◌≡◌, codes, get_or, refl, arith}
use Rattle.vortex_syntax.proofs.Fronts.{spaced_is}
use Rattle.vortex_syntax.proofs.plain_statistic.spaced_stat.Goals as goal

pub returns-in_ok-dtype-in-32-clause-stat : goal.returns-in_ok-dtype-in-32-clause-stat
returns-in_ok-dtype-in-32-clause-stat c =
    let text = c.args.text.now in
    let space : get_or text 0 0 ≡ 32 = omega arith in
    let m : get_or text 1 0 ≡ 109 = omega arith in
    let i : get_or text 2 0 ≡ 105 = omega arith in
    let n : get_or text 3 0 ≡ 110 = omega arith in
    (codes "min", spaced_is (codes "min") text refl (omega arith) (omega arith) (space, (m, (i, (n, tt)))), refl)

pub returns-in_ok-dtype-in-32-2-clause-stat : goal.returns-in_ok-dtype-in-32-2-clause-stat
returns-in_ok-dtype-in-32-2-clause-stat c =
    let text = c.args.text.now in
    let space : get_or text 0 0 ≡ 32 = omega arith in
    let m : get_or text 1 0 ≡ 109 = omega arith in
    let a : get_or text 2 0 ≡ 97 = omega arith in
    let x : get_or text 3 0 ≡ 120 = omega arith in
    (codes "max", spaced_is (codes "max") text refl (omega arith) (omega arith) (space, (m, (a, (x, tt)))), refl)
