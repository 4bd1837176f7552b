use Rattle.std.proofs.Common.{sym}
use Rattle.vortex_base.specs.Data.Scopes.{named_columns}
use Rattle.vortex_syntax.proofs.PlainStatisticLemmas.{claim_begins}
use Rattle.vortex_syntax.proofs.plain_statistic.plain_claim.Goals as goal

pub returns-clause-claim : goal.returns-clause-claim
returns-clause-claim c =
    claim_begins (named_columns c.args.columns.now) c.args.text.now c.in_ok-name.name.now c.in_ok-name.named.now c.in_ok-stat.rest.now c.in_ok-place.place c.in_ok-place.column c.in_ok-stat.dtype c.in_ok-stat.stat
    c.in_ok-name.ensures.word c.in_ok-stat.ensures.stat (sym c.in_ok-place.ensures) c.in_ok-stat.ensures.dtype
