use Rattle.std.proofs.Common.{◌≡◌, ◌<◌, ◌-◌, ℕ, List, suc, length, sym, ap, ◌∙◌, arith}
use Rattle.vortex_base.specs.Data.VarBinArray.{start_at}
use Rattle.vortex_base.proofs.Data.BlobLemmas.{start_at-suc}
use Rattle.vortex_base.proofs.Data.OffsetLemmas.{start_at-front}
use Rattle.vortex_base.proofs.offsets.Offsets.range.Goals as goal

pub returns-else-i-eq0-clause-start : goal.returns-else-i-eq0-clause-start
returns-else-i-eq0-clause-start c =
    let inside = c.self.inside in
    let low : c.args.i < length inside.short.items = omega (arith, c.if-i-len.true, c.len.ensures, inside.short.ok) in
    let next : suc (c.args.i - 1) ≡ c.args.i = omega arith in
    c.index-else-i-eq0.ensures
    ∙ sym (ap (λ (l : List ℕ). start_at 0 l c.args.i) (sym c.self.view_is)
    ∙ start_at-front c.args.i 0 inside.short.items inside.long.items (omega (arith, low))
    ∙ ap (start_at 0 inside.short.items) (sym next)
    ∙ start_at-suc (c.args.i - 1) 0 inside.short.items c.index-else-i-eq0.result.now (omega (arith, low)))
