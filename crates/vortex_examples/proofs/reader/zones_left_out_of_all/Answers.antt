use Rattle.std.proofs.Common.{List, ap, subst, sym}
use Rattle.std.proofs.lemmas.Result.{IfOk-weaker}
use Rattle.vortex_base.specs.Data.Scopes.{Named}
use Rattle.vortex_prune.specs.Part.{IsPartOf}
use Rattle.vortex_zone_map.specs.ZoneMaps.{MapData}
use Rattle.vortex_examples.proofs.reader.zones_left_out_of_all.Goals as goal

pub returns-in-Ok-clause-lossless : goal.returns-in-Ok-clause-lossless
returns-in-Ok-clause-lossless c =
    let same = ap (λ (m : MapData). m.scope) c.in-Ok.ensures.appended in
    IfOk-weaker c.zones_left_out.result _ _
    (λ found lossless zones of i zone part there is is_true listed.
    lossless _ (c.in-Ok.ensures.is_map zones of) i zone part there (subst (λ (s : List Named). IsPartOf s zone part) (sym same) is) is_true listed)
    c.zones_left_out.ensures.lossless
