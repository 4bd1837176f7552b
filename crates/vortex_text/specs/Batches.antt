-- What scans of several batches of parts find together.
use Rattle.std.specs.Prelude.{◌≡◌, ◌<◌, ◌+◌, ◌^◌, ℕ, List, All}
use Rattle.std.specs.List.{AllByRecursion}
use Rattle.vortex_expr.specs.Trees.Tree.{Tree, Place}
use Rattle.vortex_prune.specs.Part.{IsTruePart, PartData}
use Rattle.vortex_prune.specs.Scanning.Selection.{full}
use Rattle.vortex_prune.specs.declared.scan.outcome.RangeScan.{RangeScan}
use Rattle.vortex_text.specs.Program.{selected, skipped, whole}

-- this is what is found in these parts
pub record IsFoundIn (predicate : Tree Place) (parts : List PartData) (found : RangeScan) : Type 0 where
  pub skipped : found.skipped.items ≡ skipped predicate parts
  pub whole : found.whole.items ≡ whole predicate parts
  pub selected : found.selected ≡ selected predicate parts
  pub lossless : AllByRecursion IsTruePart parts → found.selected ≡ full predicate parts

-- the place of a part behind n others
abbrev pub raised : ℕ → ℕ → ℕ
raised n place = n + place

-- the place of a row of such a part
abbrev pub raised_row : ℕ → ℕ × ℕ → ℕ × ℕ
raised_row n row = (n + row.0, row.1)

-- behind n parts these places still fit a word
abbrev pub CanRise : ℕ → List ℕ → Type 0
CanRise n places = All (λ place. n + place < 2 ^ 64) places

abbrev pub CanRiseRows : ℕ → List (ℕ × ℕ) → Type 0
CanRiseRows n rows = All (λ row. n + row.0 < 2 ^ 64) rows
