use Rattle.std.proofs.Common.{◌≡◌, All, List, Some, false, refl, ap, sym, subst, ◌∙◌}
use Rattle.vortex_prune.specs.Part.{PartData}
use Rattle.vortex_prune.specs.Scanning.RangeScans.{range_parts}
use Rattle.vortex_text.proofs.StoreLemmas.{chunk}
use Rattle.vortex_text.proofs.StoreSteps.{begun, shut_at}
use Rattle.vortex_text.specs.Fitting.{IsPartOf}
use Rattle.vortex_text.specs.Rows.{empty_part}
use Rattle.vortex_text.specs.Stores.{StoreData, all_parts}
use Rattle.vortex_text.proofs.store.Store.begin_part.Goals as goal

pub returns : goal.returns
returns c =
    let s = c.self.inside in
    let k = chunk s.scope s.columns.items in
    let shut : s.is_open ≡ false = shut_at k s.log s.from s.is_open (ap (λ (x : StoreData). x.current) (c.self.view_is ∙ c.in_ok-end_part.ensures.ended)) in
    let ended : range_parts k 0 s.log.zones ≡ all_parts c.args.self.now = ap (λ (x : StoreData). x.ended) (c.self.view_is ∙ c.in_ok-end_part.ensures.ended) in
    λ scope all.
    begun k s.log s.from scope (c.self.invariant.shut shut) s.log.zones refl (subst (All (IsPartOf scope)) (sym ended) all)
    ∙ ap (λ (ps : List PartData). let x : StoreData = record { ended = ps; current = Some (empty_part scope) } in x) ended
