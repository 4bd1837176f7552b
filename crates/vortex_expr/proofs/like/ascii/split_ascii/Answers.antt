use Rattle.std.proofs.Common.{◌≡◌, ◌<◌, length, slice_index, ap, arith}
use Rattle.vortex_expr.proofs.Patterns.AsciiLemmas.{boundary-one, chars-ascii, folded-true, folded-false}
use Rattle.vortex_expr.proofs.like.ascii.split_ascii.Goals as goal

pub range_from-rest-requires : goal.range_from-rest-requires
range_from-rest-requires c =
    let bs = c.args.text.now in
    let own = c.as_bytes-bytes.ensures.value in
    let some : 0 < length bs = grind arith in
    let same : slice_index c.as_bytes-bytes.result.now 0 ≡ slice_index bs 0 = ap (λ xs. slice_index xs 0) own in
    let ascii = c.if-bytes-ge128.false in
    λ _. boundary-one bs c.utf8.text some (omega arith)

pub returns-then-ignore_case-clause-first : goal.returns-then-ignore_case-clause-first
returns-then-ignore_case-clause-first c =
    let bs = c.args.text.now in
    let own = c.as_bytes-bytes.ensures.value in
    let some : 0 < length bs = grind arith in
    let same : slice_index c.as_bytes-bytes.result.now 0 ≡ slice_index bs 0 = ap (λ xs. slice_index xs 0) own in
    let first = chars-ascii bs c.range_from-rest.result.now _ c.utf8.text some same c.if-bytes-ge128.false c.range_from-rest.ensures.value in
    folded-true bs c.range_from-rest.result.now c.args.ignore_case _ _ c.if-ignore_case.true c.to_ascii_lowercase.ensures.value first

pub returns-else-ignore_case-clause-first : goal.returns-else-ignore_case-clause-first
returns-else-ignore_case-clause-first c =
    let bs = c.args.text.now in
    let own = c.as_bytes-bytes.ensures.value in
    let some : 0 < length bs = grind arith in
    let same : slice_index c.as_bytes-bytes.result.now 0 ≡ slice_index bs 0 = ap (λ xs. slice_index xs 0) own in
    let first = chars-ascii bs c.range_from-rest.result.now _ c.utf8.text some same c.if-bytes-ge128.false c.range_from-rest.ensures.value in
    folded-false bs c.range_from-rest.result.now c.args.ignore_case _ c.if-ignore_case.false first
