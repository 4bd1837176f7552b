use Rattle.std.proofs.Common.{◌≡◌, [], length, sym}
use Rattle.std.proofs.lemmas.List.{nil_from_length}
use borrow.Author.Tests.{eqb-true}
use Rattle.vortex_capi.proofs.MergeLemmas.{nothing_merged}
use Rattle.vortex_capi.proofs.merge.merged_as.Goals as goal

pub returns-then-is_empty : goal.returns-then-is_empty
returns-then-is_empty c =
    let none : c.args.left.now ≡ [] = nil_from_length c.args.left.now (eqb-true (length c.args.left.now) 0 (sym c.if-is_empty.ensures)) in
    ([], nothing_merged c.args.dtype c.args.left.now c.args.right.now c.args.zones c.in_ok-stats.stats.items c.in_ok-stats.ensures none, c.new.ensures)
