-- What a reply says.
use Rattle.std.specs.Prelude.{ℕ, List, Result, Ok, Err, string_bytes}
use Rattle.vortex_prune.specs.declared.scan.outcome.RangeScan.{RangeScan}
use Rattle.vortex_text.specs.Printing.{scan_text}
use Rattle.vortex_text.specs.declared.program.Refusal.{Refusal}

-- the status and what is printed, of a scan or of what stands in its place
abbrev pub said : Result RangeScan Refusal → ℕ × List ℕ
said (Ok scan) = (0, scan_text scan.skipped.items scan.selected scan.whole.items)
said (Err refusal) = (refusal.status, string_bytes refusal.answer)
