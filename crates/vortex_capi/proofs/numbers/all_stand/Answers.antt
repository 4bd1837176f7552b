use Rattle.std.proofs.Common.{sym, ◌∙◌}
use Rattle.std.proofs.lemmas.Bool.{OnTrue_from}
use Rattle.vortex_capi.proofs.NumberLemmas.{read_by_codes}
use Rattle.vortex_capi.proofs.numbers.all_stand.Goals as goal

pub returns-then-stand : goal.returns-then-stand
returns-then-stand g c =
    let stand = c.if-stand.ensures.there in
    OnTrue_from _ _ (λ codes. read_by_codes c.args.source.now g.N.Number.PTYPE c.requires c.args.zones stand.known c.if-stand.ensures.numbers (sym c.are_codes.ensures ∙ codes))
