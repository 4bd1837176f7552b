use Rattle.std.proofs.Common.{List, subst, sym}
use Rattle.std.proofs.lemmas.Result.{IfOk-weaker}
use Rattle.vortex_prune.proofs.ZoneMaps.ZoneScan.{listed, shut_if_kept, verdicts_tell}
use Rattle.vortex_prune.specs.Part.{PartData}
use Rattle.vortex_prune.specs.Scanning.PartScans.{AreTold, TellsOf}
use Rattle.vortex_prune.specs.Scanning.ZoneScans.{statistics_answers}
use Rattle.vortex_prune.proofs.scan.zones.scan_verdicts.Goals as goal

pub returns-clause-found : goal.returns-clause-found
returns-clause-found c =
    let z = c.args.zones.now in
    let vs = c.args.verdicts.now in
    IfOk-weaker c.scan_parts.result _ _
    (λ scan found f s is. found f s (statistics_answers z.parts) (subst (λ (ps : List PartData). TellsOf (listed vs) f s ps (statistics_answers z.parts)) (sym c.parts.ensures.value) (verdicts_tell f s z.scope z.parts vs c.parts.ensures.scoped is)))
    c.scan_parts.ensures.found

pub returns-clause-kept_closed : goal.returns-clause-kept_closed
returns-clause-kept_closed c =
    let z = c.args.zones.now in
    let vs = c.args.verdicts.now in
    IfOk-weaker c.scan_parts.result _ _
    (λ scan told s shut. shut_if_kept s z.parts vs scan.skipped.items (subst (λ (ps : List PartData). AreTold (listed vs) ps scan.skipped.items) c.parts.ensures.value told) shut)
    c.scan_parts.ensures.told
