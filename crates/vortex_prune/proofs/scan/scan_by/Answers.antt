use Rattle.std.proofs.Common.{arith}
use Rattle.std.proofs.lemmas.Result.{IfErr-weaker}
use Rattle.std.specs.Prelude.{option_copied}
use Rattle.vortex_prune.proofs.Scanning.BinderScan.{binders_closed, binders_kept_closed, binders_refused, binders_refused_faithful, binders_tell}
use Rattle.vortex_prune.proofs.ZoneMaps.ZonePruned.{of_three}
use Rattle.vortex_prune.specs.Scanning.Selection.{answered}
use Rattle.vortex_prune.proofs.scan.scan_by.Goals as goal

pub scan_parts-requires-clause-able : goal.scan_parts-requires-clause-able
scan_parts-requires-clause-able g c = λ place less. omega (arith, c.requires.binders, less)

pub returns-clause-answered : goal.returns-clause-answered
returns-clause-answered g c =
    let B = g.B.StatBinder in
    let f = option_copied c.args.falsifier in
    let s = option_copied c.args.satisfier in
    let parts = c.args.parts.now in
    let binders = c.args.binders.now in
    of_three c.scan_parts.result _ _ _ _
    (λ scan found told are.
    record {
      found = λ faithful. found f s (answered B.value parts binders) (binders_tell B.answer B.is_missing B.is_faithful_over f s binders B.value parts c.requires.binders faithful);
      are_parts = are;
      closed = binders_closed B.answer B.is_missing B.is_faithful_over f s binders B.value parts _ c.requires.binders told;
      kept_closed = binders_kept_closed B.answer B.is_missing B.is_faithful_over f s binders B.value parts _ c.requires.binders told;
    })
    c.scan_parts.ensures.found c.scan_parts.ensures.told c.scan_parts.ensures.parts

pub returns-clause-refusal : goal.returns-clause-refusal
returns-clause-refusal g c =
    let B = g.B.StatBinder in
    IfErr-weaker c.scan_parts.result _ _
    (binders_refused B.answer B.is_missing B.is_faithful_over (option_copied c.args.falsifier) (option_copied c.args.satisfier) c.args.binders.now B.value B.can_fault c.args.parts.now)
    c.scan_parts.ensures.refusal

pub returns-clause-faithful : goal.returns-clause-faithful
returns-clause-faithful g c =
    let B = g.B.StatBinder in
    IfErr-weaker c.scan_parts.result _ _
    (λ f refused faithful.
    binders_refused_faithful B.answer B.is_missing B.is_faithful_over (option_copied c.args.falsifier) (option_copied c.args.satisfier) c.args.binders.now B.value B.can_fault c.args.parts.now f c.requires.binders faithful refused)
    c.scan_parts.ensures.refusal
