use Rattle.vortex_parquet.proofs.More.{skip_fifth, skip_first, skip_fourth, skip_second, skip_third}
use Rattle.vortex_parquet.proofs.compact.skip_varint.Goals as goal

pub returns-in-len1-up : goal.returns-in-len1-up
returns-in-len1-up c = skip_first c.args.bytes.now c.in-len1-up.len_at_least c.if-byte-lt128.true

pub returns-in-len2-up : goal.returns-in-len2-up
returns-in-len2-up c = skip_second c.args.bytes.now c.in-len2-up.len_at_least c.if-low-ge128.true c.if-high-lt128.true

pub returns-in-len3-up : goal.returns-in-len3-up
returns-in-len3-up c = skip_third c.args.bytes.now c.in-len3-up.len_at_least (λ k. (c.type_inv.bytes k).fits) c.if-a-ge128.true c.if-b-ge128.true c.if-c-lt128.true

pub returns-in-len4-up : goal.returns-in-len4-up
returns-in-len4-up c = skip_fourth c.args.bytes.now c.in-len4-up.len_at_least (λ k. (c.type_inv.bytes k).fits) c.if-a-ge128-2.true c.if-b-ge128-2.true c.if-c-ge128.true c.if-d-lt128.true

pub returns-in-len5-up : goal.returns-in-len5-up
returns-in-len5-up c = skip_fifth c.args.bytes.now c.in-len5-up.len_at_least (λ k. (c.type_inv.bytes k).fits) c.if-a-ge128-3.true c.if-b-ge128-3.true c.if-c-ge128-2.true c.if-d-ge128.true c.if-e-lt128.true
