use Rattle.std.proofs.Common.{◌≡◌, ◌-◌, get_or, length, take, drop, arith}
use Rattle.vortex_base.specs.Data.Scopes.{named_columns}
use Rattle.vortex_syntax.proofs.PlainLemmas.{uncons}
use Rattle.vortex_syntax.proofs.PlainStatisticLemmas.{stat_begins}
use Rattle.vortex_syntax.proofs.plain_statistic.plain_stat.Goals as goal

pub returns-clause-told : goal.returns-clause-told
returns-clause-told c =
    let rest = c.in_ok-value.rest.now in
    let feed : get_or rest 0 0 ≡ 10 = omega arith in
    rw c.precise.ensures
    (stat_begins (named_columns c.args.columns.now) c.args.text.now c.in_ok-claim.claimed.now c.in_ok-is_exact.behind.now rest (take (length rest - 1) (drop 1 rest)) c.in_ok-claim.claim.place c.in_ok-claim.claim.dtype c.in_ok-claim.claim.stat
    c.in_ok-is_exact.is_exact c.in_ok-value.value c.in_ok-claim.ensures.claim c.in_ok-is_exact.ensures.word c.in_ok-value.ensures.value (uncons rest 10 (omega arith) feed))
