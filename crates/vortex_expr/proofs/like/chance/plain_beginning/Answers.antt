use Rattle.std.proofs.Common.{◌≡◌, ◌-◌, ◌≤◌, Some, None, length, take, sym, ap, subst, ◌∙◌, arith, take_all}
use Rattle.std.specs.Prelude.{encode_utf8_all}
use Rattle.std.proofs.lemmas.Str.{IsCharBoundary-end}
use Rattle.memchr.specs.Find.{OccursAt, IsFirstByte, is_byte3}
use Rattle.vortex_expr.proofs.Patterns.ChanceLemmas.{IsFirstByte-same, free_before, all_free, special_byte, plain_beginning}
use Rattle.vortex_expr.proofs.like.chance.plain_beginning.Goals as goal

pub returns-in-Some : goal.returns-in-Some
returns-in-Some c =
    let bs = c.args.pattern.now in
    let found : IsFirstByte (is_byte3 37 95 92) (take c.min.result bs) (Some c.in-Some.end) =
    IsFirstByte-same (is_byte3 37 95 92) _ _ _ _ (ap (take c.min.result) c.as_bytes-bytes.ensures.value) c.in-Some.is c.memchr3.ensures in
    let before = free_before (is_byte3 37 95 92) bs c.min.result c.in-Some.end special_byte found in
    let run : c.range.result.now ≡ take c.in-Some.end bs = c.range.ensures.value ∙ ap (λ n. take n bs) (let e : c.in-Some.end - 0 ≡ c.in-Some.end = omega arith in e) in
    λ ds m. subst (λ xs. OccursAt (encode_utf8_all ds) xs 0) (sym run) (plain_beginning bs c.in-Some.end c.utf8.pattern before.0 before.1 ds m)

pub returns-in-None : goal.returns-in-None
returns-in-None c =
    let bs = c.args.pattern.now in
    let none : IsFirstByte (is_byte3 37 95 92) (take c.min.result bs) None =
    IsFirstByte-same (is_byte3 37 95 92) _ _ _ _ (ap (take c.min.result) c.as_bytes-bytes.ensures.value) c.in-None.is c.memchr3.ensures in
    let most = c.if-bytes-le-MOST_BYTES.true in
    let size = ap length c.as_bytes-bytes.ensures.value in
    let least = c.min.ensures in
    let all : length bs ≤ c.min.result = omega arith in
    λ ds m.
    subst (λ xs. OccursAt (encode_utf8_all ds) xs 0) (take_all (length bs) bs (omega arith))
    (plain_beginning bs (length bs) c.utf8.pattern (IsCharBoundary-end bs) (all_free (is_byte3 37 95 92) bs c.min.result all none) ds m)
