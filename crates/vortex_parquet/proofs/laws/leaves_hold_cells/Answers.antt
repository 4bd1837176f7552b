use Rattle.vortex_parquet.proofs.LogicalLeaves.{float_leaves, logical_leaves}
use Rattle.vortex_parquet.proofs.laws.leaves_hold_cells.Goals as goal

pub returns : goal.returns
returns c = record { numbers = logical_leaves; floats = float_leaves }
