use Rattle.std.proofs.Common.{List, ap, rules, subst, sym, ℕ, ◌∙◌}
use Rattle.std.proofs.lemmas.Result.{err_from_is_err_and}
use Rattle.vortex_prune.proofs.Scanning.RangeParts.{chunk_is_full, from_first}
use Rattle.vortex_prune.proofs.Scanning.RangePromises.{as_from_first, by_verdicts, no_ranges, refused_alike}
use Rattle.vortex_prune.proofs.Scanning.TrueRanges.{chunk_satisfying}
use Rattle.vortex_prune.specs.Scanning.Complete.{ZonesSkipExactly}
use Rattle.vortex_prune.specs.Scanning.Found.{Found}
use Rattle.vortex_prune.specs.Scanning.Promises.{ScansRanges}
use Rattle.vortex_rewrite.specs.Rewriting.Own.{own_rules}
use Rattle.vortex_prune.proofs.scan.ranges.scan_ranges.Goals as goal

pub returns-clause-selected : goal.returns-clause-selected
returns-clause-selected g c = λ parts are are_true.
    let has = sym c.has_ranges.ensures ∙ c.if-not-has_ranges.false in
    chunk_is_full c.args.predicate.now c.args.chunk.now c.args.map.now parts _ c.requires.plain has are
    (ap (λ (o : Found). o.selected) c.in_ok-into_scan.ensures ∙ c.in_ok-found.ensures.full parts are are_true)

pub returns-clause-full : goal.returns-clause-full
returns-clause-full g c = λ parts are are_true. ap (λ (o : Found). o.selected) c.in_ok-into_scan.ensures ∙ c.in_ok-found.ensures.full parts are are_true

pub returns-clause-rows_selected : goal.returns-clause-rows_selected
returns-clause-rows_selected g c = λ are.
    let has = sym c.has_ranges.ensures ∙ c.if-not-has_ranges.false in
    chunk_satisfying c.args.predicate.now c.args.chunk.now c.args.map.now _ c.requires.plain has
    (ap (λ (o : Found). o.selected) c.in_ok-into_scan.ensures ∙ c.in_ok-found.ensures.answered.rows_full are)

pub returns-clause-complete : goal.returns-clause-complete
returns-clause-complete g c = λ zones of none once.
    let P : List ℕ → Type 0 = ZonesSkipExactly c.args.predicate.now zones in
    subst P (sym (ap (λ (o : Found). o.skipped) c.in_ok-into_scan.ensures)) (c.in_ok-found.ensures.complete zones of none once)

pub returns-clause-answered : goal.returns-clause-answered
returns-clause-answered g c =
    let own = own_rules (λ b. (g.dyn-1.0.entry b.vtable).1) c.args.rules.now.own.items in
    let P : Found → Type 0 = ScansRanges own c.args.predicate.now c.args.chunk.now 0 c.args.map.now in
    subst P (sym c.in_ok-into_scan.ensures) c.in_ok-found.ensures.answered

pub returns-clause-refused : goal.returns-clause-refused
returns-clause-refused g c =
    by_verdicts (own_rules (λ b. (g.dyn-1.0.entry b.vtable).1) c.args.rules.now.own.items) c.args.predicate.now c.args.map.now _ _ (sym c.has_ranges.ensures ∙ c.if-not-has_ranges.false) c.in_ok-found.ensures.answered.predicate tt

pub returns-in_err-into_scan-clause-refused : goal.returns-in_err-into_scan-clause-refused
returns-in_err-into_scan-clause-refused g c =
    by_verdicts (own_rules (λ b. (g.dyn-1.0.entry b.vtable).1) c.args.rules.now.own.items) c.args.predicate.now c.args.map.now _ _ (sym c.has_ranges.ensures ∙ c.if-not-has_ranges.false) c.in_ok-found.ensures.answered.predicate (search rules)

pub returns-in_err-found-clause-refused : goal.returns-in_err-found-clause-refused
returns-in_err-found-clause-refused g c =
    let q = err_from_is_err_and c.from_residual.result c.from_residual.ensures.1 in
    let own = own_rules (λ b. (g.dyn-1.0.entry b.vtable).1) c.args.rules.now.own.items in
    let p = c.args.predicate.now in
    let m = c.args.map.now in
    let has = sym c.has_ranges.ensures ∙ c.if-not-has_ranges.false in
    rw (q.1, q.2) (refused_alike own p m _ _ (as_from_first own p m _ _ _ has (from_first c.args.chunk.now m has) c.in_err-found.ensures.refused))

pub returns-then-not-has_ranges-clause-refused : goal.returns-then-not-has_ranges-clause-refused
returns-then-not-has_ranges-clause-refused g c =
    no_ranges (own_rules (λ b. (g.dyn-1.0.entry b.vtable).1) c.args.rules.now.own.items) c.args.predicate.now c.args.map.now _ (sym c.has_ranges.ensures ∙ c.if-not-has_ranges.true)
