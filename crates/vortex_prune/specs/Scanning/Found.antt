-- What a scan found, as lists.
use Rattle.std.specs.Prelude.{ℕ, List}
use Rattle.vortex_prune.specs.declared.scan.outcome.RangeScan.{RangeScan}
use Rattle.vortex_prune.specs.declared.scan.outcome.Scan.{Scan}

-- selected rows, each as its part or zone and its place there, the skipped and the whole ones, and how many rows were tested
pub record Found : Type 0 where
  pub selected : List (ℕ × ℕ)
  pub skipped : List ℕ
  pub whole : List ℕ
  pub evaluated : ℕ

-- of a scan of parts
abbrev pub found_by : Scan → Found
found_by scan = record { selected = scan.selected.items; skipped = scan.skipped.items; whole = scan.whole.items; evaluated = scan.evaluated }

-- of a scan of ranges
abbrev pub found_in : RangeScan → Found
found_in scan = record { selected = scan.selected; skipped = scan.skipped.items; whole = scan.whole.items; evaluated = scan.evaluated }
