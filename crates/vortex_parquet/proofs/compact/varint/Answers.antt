use Rattle.vortex_parquet.proofs.More.{varint_first}
use Rattle.vortex_parquet.proofs.compact.varint.Goals as goal

pub returns-in-len1-up : goal.returns-in-len1-up
returns-in-len1-up c = varint_first c.args.bytes.now c.in-len1-up.len_at_least c.if-byte-lt128.true
