use Rattle.vortex_logical.proofs.ByteOrder.{bytes_cmp}
use Rattle.vortex_logical.proofs.laws.bytes_compare_as_numbers.Goals as goal

pub returns : goal.returns
returns c = bytes_cmp
