-- The words for what is to be done with a row group.
use Rattle.std.specs.Prelude.{ℕ, List, codes}
use Rattle.vortex_prune.specs.declared.scan.verdict.Verdict.{Verdict}
use Rattle.vortex_prune.specs.declared.scan.verdict.Verdict.TheVariants.{Skipped, Tested, Whole}

-- the word for a verdict
abbrev pub verdict_word : Verdict → List ℕ
verdict_word Skipped = codes "skip"
verdict_word Whole = codes "whole"
verdict_word Tested = codes "read"
