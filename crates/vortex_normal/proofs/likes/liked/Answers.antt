use Rattle.vortex_rewrite.proofs.Rewriting.ProofTypes.{like_of_text}
use Rattle.vortex_normal.proofs.likes.liked.Goals as goal

pub as_comparisons-requires : goal.as_comparisons-requires
as_comparisons-requires c = like_of_text c.args.options c.args.text.now c.args.pattern.now c.requires
