use Rattle.std.proofs.lemmas.Option.{slice_get-get_or}
use Rattle.std.specs.Prelude.{option_copied}
use Rattle.vortex_prune.proofs.Scanning.BinderScan.{binder_told}
use Rattle.vortex_prune.proofs.scan.ByBindersPartTest.verdict.Goals as goal

pub returns-clause-verdict : goal.returns-clause-verdict
returns-clause-verdict g c =
    binder_told g.B.StatBinder.answer g.B.StatBinder.is_missing g.B.StatBinder.is_faithful_over (option_copied c.args.self.now.falsifier) (option_copied c.args.self.now.satisfier) c.args.self.now.binders.now
    g.B.StatBinder.value g.B.StatBinder.can_fault c.args.place c.args.part.now _ c.verdict.result (slice_get-get_or c.args.self.now.binders.now c.args.place c.index-self-place.result c.requires)
    c.verdict.ensures.value c.verdict.ensures.closed c.verdict.ensures.kept_closed c.verdict.ensures.refusal c.verdict.ensures.faithful
