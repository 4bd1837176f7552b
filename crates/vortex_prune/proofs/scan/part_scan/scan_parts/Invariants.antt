use Rattle.std.proofs.Common.{◌≡◌, ◌-◌, ◌^◌, List, Option, take}
use Rattle.std.specs.Prelude.{min}
use Rattle.vortex_expr.specs.Trees.Tree.{Place, Tree}
use Rattle.vortex_prune.proofs.Scanning.PartScanLemmas.{AreToldBelow}
use Rattle.vortex_prune.proofs.Scanning.ScanLemmas.{AreBelow}
use Rattle.vortex_prune.specs.Scanning.PartScans.{IsSameTest, TellsOf}
use Rattle.vortex_prune.specs.Scanning.Selection.{Answered, selected_rows, skipped_parts, tested_rows, whole_parts}
use Rattle.vortex_prune.proofs.scan.part_scan.scan_parts.Given as goal

-- what was found is what there is to find in the parts before this one, and the test goes on as it began
abbrev pub invariant-loop-place : goal.invariant-loop-place
invariant-loop-place g l = record {
  same : IsSameTest (g.T.PartTest.able l.fn.test) (g.T.PartTest.able l.test) (g.T.PartTest.tells l.fn.test) (g.T.PartTest.tells l.test) (g.T.PartTest.refuses l.fn.test) (g.T.PartTest.refuses l.test);
  parts : AreBelow l.place l.parts;
  told : AreToldBelow (g.T.PartTest.tells l.fn.test) l.place l.parts l.scan.skipped.items;
  skipped : (f s : Option (Tree Place)) (answers : List Answered) → TellsOf (g.T.PartTest.tells l.fn.test) f s l.parts answers → l.scan.skipped.items ≡ skipped_parts f (take l.place answers);
  whole : (f s : Option (Tree Place)) (answers : List Answered) → TellsOf (g.T.PartTest.tells l.fn.test) f s l.parts answers → l.scan.whole.items ≡ whole_parts f s (take l.place answers);
  selected : (f s : Option (Tree Place)) (answers : List Answered) → TellsOf (g.T.PartTest.tells l.fn.test) f s l.parts answers → l.scan.selected ≡ selected_rows f s l.predicate (take l.place answers);
  evaluated : (f s : Option (Tree Place)) (answers : List Answered) → TellsOf (g.T.PartTest.tells l.fn.test) f s l.parts answers → l.scan.evaluated ≡ min (tested_rows f s (take l.place answers)) (2 ^ 64 - 1);
}
