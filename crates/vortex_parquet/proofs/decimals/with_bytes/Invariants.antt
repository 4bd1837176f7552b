use Rattle.std.proofs.Common.{◌≡◌, drop}
use Rattle.vortex_parquet.specs.Decimals.{in_64_bits, with_bytes as with_all_bytes}
use Rattle.vortex_parquet.proofs.decimals.with_bytes.Given as goal

abbrev pub invariant-loop-byte : goal.invariant-loop-byte
invariant-loop-byte l = in_64_bits (with_all_bytes l.number (drop l.byte-index l.bytes)) ≡ in_64_bits (with_all_bytes l.first l.bytes)
