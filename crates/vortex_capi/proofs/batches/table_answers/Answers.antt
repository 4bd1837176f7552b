use Rattle.vortex_capi.proofs.BatchLemmas.{given_whole}
use Rattle.vortex_capi.proofs.batches.table_answers.Goals as goal

pub returns-in-Some-clause-read : goal.returns-in-Some-clause-read
returns-in-Some-clause-read c =
    (given_whole c.args.scope.now c.args.sources.now c.args.rows.now c.requires.typed c.in-Ok.ensures.read c.args.proofs.now.falsifier c.args.proofs.now.satisfier c.in-Some.answers.items c.in-Some.ensures).read

pub returns-in-Some-clause-zones : goal.returns-in-Some-clause-zones
returns-in-Some-clause-zones c =
    (given_whole c.args.scope.now c.args.sources.now c.args.rows.now c.requires.typed c.in-Ok.ensures.read c.args.proofs.now.falsifier c.args.proofs.now.satisfier c.in-Some.answers.items c.in-Some.ensures).fit

pub returns-in-Some-clause-long : goal.returns-in-Some-clause-long
returns-in-Some-clause-long c =
    (given_whole c.args.scope.now c.args.sources.now c.args.rows.now c.requires.typed c.in-Ok.ensures.read c.args.proofs.now.falsifier c.args.proofs.now.satisfier c.in-Some.answers.items c.in-Some.ensures).long
