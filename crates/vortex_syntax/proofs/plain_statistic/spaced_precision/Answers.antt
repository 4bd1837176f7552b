use Rattle.std.proofs.Common.{◌≡◌, codes, get_or, refl, arith}
use Rattle.vortex_syntax.proofs.Fronts.{spaced_is}
use Rattle.vortex_syntax.proofs.plain_statistic.spaced_precision.Goals as goal

pub returns-in-32-clause-word : goal.returns-in-32-clause-word
returns-in-32-clause-word c =
    let text = c.args.text.now in
    let space : get_or text 0 0 ≡ 32 = omega arith in
    let e : get_or text 1 0 ≡ 101 = omega arith in
    let x : get_or text 2 0 ≡ 120 = omega arith in
    let a : get_or text 3 0 ≡ 97 = omega arith in
    let d : get_or text 4 0 ≡ 99 = omega arith in
    let t : get_or text 5 0 ≡ 116 = omega arith in
    spaced_is (codes "exact") text refl (omega arith) (omega arith) (space, (e, (x, (a, (d, (t, tt))))))

pub returns-in-32-text-clause-word : goal.returns-in-32-text-clause-word
returns-in-32-text-clause-word c =
    let text = c.args.text.now in
    let space : get_or text 0 0 ≡ 32 = omega arith in
    let i : get_or text 1 0 ≡ 105 = omega arith in
    let n : get_or text 2 0 ≡ 110 = omega arith in
    let e : get_or text 3 0 ≡ 101 = omega arith in
    let x : get_or text 4 0 ≡ 120 = omega arith in
    let a : get_or text 5 0 ≡ 97 = omega arith in
    let d : get_or text 6 0 ≡ 99 = omega arith in
    let t : get_or text 7 0 ≡ 116 = omega arith in
    spaced_is (codes "inexact") text refl (omega arith) (omega arith) (space, (i, (n, (e, (x, (a, (d, (t, tt))))))))
