use Rattle.std.proofs.Common.{◌≡◌, [], length, sym}
use Rattle.std.proofs.lemmas.List.{nil_from_length}
use borrow.Author.Tests.{eqb-true}
use Rattle.vortex_capi.proofs.MergeLemmas.{nothing_together}
use Rattle.vortex_capi.proofs.merge_zones.together_as.Goals as goal

pub returns-then-is_empty : goal.returns-then-is_empty
returns-then-is_empty c =
    let none : c.args.table.now ≡ [] = nil_from_length c.args.table.now (eqb-true (length c.args.table.now) 0 (sym c.if-is_empty.ensures)) in
    ([], nothing_together c.args.dtype c.args.table.now c.args.zones none, c.new.ensures)
