use Rattle.std.proofs.Common.{◌≡◌, ◌++◌, ◌-◌, ap, arith, replicate, take, true, ◌∙◌}
use Rattle.std.proofs.lemmas.List.{take-replicate}
use Rattle.vortex_prune.proofs.Scanning.RangeLemmas.{marked_behind}
use Rattle.vortex_prune.specs.Scanning.Marks.{is_true_at, marked, marked_rows}
use Rattle.vortex_prune.specs.Scanning.RangeScans.{is_true_in}
use Rattle.vortex_prune.specs.declared.scan.marks.Counts.TheVariants.{Same}
use Rattle.vortex_prune.proofs.scan.select.select_block.Goals as goal

pub returns-clause-selected : goal.returns-clause-selected
returns-clause-selected c =
    let r = c.args.range in
    let cs = r.chunk.now.columns in
    let p = c.args.predicate.now in
    let n = c.args.to - c.args.from in
    let found : c.keep_true.new.marks ≡ marked (is_true_in p cs r.first r.rows) c.args.from (replicate n true) =
    c.keep_true.ensures
    ∙ marked_behind (is_true_at p cs (Same r.rows)) r.first c.args.from (take n (replicate 1024 true))
    ∙ ap (marked (is_true_in p cs r.first r.rows) c.args.from) (take-replicate n 1024 true (omega (arith, c.requires.short))) in
    c.in_ok-push_marked.ensures ∙ ap (λ ms. c.args.selected.now ++ marked_rows c.args.place c.args.from ms) found
