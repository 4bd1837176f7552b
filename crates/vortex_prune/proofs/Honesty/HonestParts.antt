-- True parts answer honestly.
use Rattle.std.proofs.Common.{◌≡◌, true, subst}
use Rattle.vortex_base.specs.Data.Columns.{ChunkData, IsChunk, all_long, row_count as rows_of}
use Rattle.vortex_base.specs.Data.Exact.{both_true}
use Rattle.vortex_prune.proofs.Honesty.HonestStats.{part_fact}
use Rattle.vortex_prune.proofs.Honesty.OwnValues.{own_is_part, own_values}
use Rattle.vortex_prune.proofs.Honesty.StatTypes.{part_type}
use Rattle.vortex_rewrite.specs.Facts.{IsHonest}
use Rattle.vortex_prune.specs.Part.{IsPart, IsTruePart, PartData}
use Rattle.vortex_prune.specs.Binding.PartAnswers.{part_values}
use Rattle.vortex_rewrite.specs.Rewriting.Proof.{Assignment}

pub columns_long : (k : ChunkData) → IsChunk k → all_long (rows_of k.columns) k.columns ≡ true
columns_long k h = (both_true _ _ (both_true _ _ (both_true _ _ h).1).0).1

own_is_honest : (p : PartData) → IsPart p → IsTruePart p → IsHonest (own_values p) p.chunk.columns
own_is_honest p part sets = record {
  facts = λ f x. part_fact p (columns_long p.chunk part.0) sets f x;
  types = λ f x t h. part_type p part f x t h;
}

pub part_is_honest : (p : PartData) → IsPart p → IsTruePart p → IsHonest (part_values p) p.chunk.columns
part_is_honest p part sets = subst (λ (a : Assignment). IsHonest a p.chunk.columns) (own_is_part p part) (own_is_honest p part sets)
