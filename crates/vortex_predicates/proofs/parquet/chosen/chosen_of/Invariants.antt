use Rattle.std.proofs.Common.{take}
use Rattle.vortex_base.specs.Data.Scopes.{named_columns}
use Rattle.vortex_parquet.specs.Columns.{column_views}
use Rattle.vortex_predicates.specs.Footers.Choosing.{AreChosen}
use Rattle.vortex_predicates.specs.Footers.Mentions.{views}
use Rattle.vortex_predicates.proofs.parquet.chosen.chosen_of.Given as goal

abbrev pub invariant-loop-mention : goal.invariant-loop-mention
invariant-loop-mention l = AreChosen (column_views l.columns) (take l.mention-index (views l.mention-items)) (named_columns l.chosen.columns) l.chosen.leaves.items
