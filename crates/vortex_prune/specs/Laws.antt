-- What makes the statistics of parts right, over the definitions alone.
use Rattle.std.specs.Prelude.{◌≡◌, ℕ, List, None}
use Rattle.vortex_base.specs.declared.dtype.DType.{DType}
use Rattle.vortex_base.specs.Data.Scalars.{Constant, null_of}
use Rattle.vortex_base.specs.Data.Types.{as_nullable}
use Rattle.vortex_expr.specs.Meanings.Meaning.{meaning}
use Rattle.vortex_expr.specs.Trees.Tree.{literal}
use Rattle.vortex_rewrite.specs.Facts.{IsHonest}
use Rattle.vortex_prune.specs.Binding.Binders.{IsAnswerOf}
use Rattle.vortex_prune.specs.Part.{IsPart, IsTruePart, PartData}
use Rattle.vortex_prune.specs.Binding.PartAnswers.{part_values}

-- what the true statistics of a part answer to placeholders are facts of its columns
abbrev pub StatisticsAreHonest : Type 0
StatisticsAreHonest = (p : PartData) → IsPart p → IsTruePart p → IsHonest (part_values p) p.chunk.columns

-- a literal of the type asked for, nullability aside, may answer a placeholder
abbrev pub LiteralsAreAnswers : Type 0
LiteralsAreAnswers = (c : Constant) (t : DType) (row : List Constant) → as_nullable c.dtype ≡ as_nullable t → IsAnswerOf t row (literal c)

-- and so may null, which is worth null
abbrev pub NullsAreAnswers : Type 0
NullsAreAnswers = (t : DType) (row : List Constant) (n : ℕ) → IsAnswerOf t row (literal (null_of (as_nullable t))) × (meaning (literal (null_of (as_nullable t))) row n ≡ None)
