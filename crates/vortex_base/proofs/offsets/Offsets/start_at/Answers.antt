use Rattle.std.proofs.Common.{◌≡◌, ◌-◌, suc, sym, ap, ◌∙◌, arith}
use Rattle.vortex_base.specs.Data.VarBinArray.{start_at}
use Rattle.vortex_base.proofs.Data.BlobLemmas.{start_at-suc}
use Rattle.vortex_base.proofs.offsets.Offsets.start_at.Goals as goal

pub returns-else-i-eq0 : goal.returns-else-i-eq0
returns-else-i-eq0 c =
    let next : suc (c.args.i - 1) ≡ c.args.i = omega arith in
    c.get.ensures ∙ sym (ap (start_at 0 c.args.self.now) (sym next) ∙ start_at-suc (c.args.i - 1) 0 c.args.self.now 0 (omega arith))
