use Rattle.std.proofs.Common.{◌≡◌, ◌-◌, ◌≤◌, Some, None, length, take, sym, ap, subst, ◌∙◌, arith, take_all}
use Rattle.std.specs.Prelude.{encode_utf8_all}
use Rattle.std.proofs.lemmas.Str.{IsCharBoundary-end}
use Rattle.memchr.specs.Find.{OccursAt, IsFirstByte}
use Rattle.vortex_expr.specs.Patterns.Chance.{is_sign_or_letter}
use Rattle.vortex_expr.proofs.Patterns.ChanceLemmas.{IsFirstByte-same, free_before, all_free, special_or_letter, caseless_beginning}
use Rattle.vortex_expr.proofs.like.chance.caseless_beginning.Goals as goal

pub returns-in-Some : goal.returns-in-Some
returns-in-Some c =
    let bs = c.args.pattern.now in
    let found : IsFirstByte is_sign_or_letter (take c.min.result bs) (Some c.in-Some.end) =
    IsFirstByte-same is_sign_or_letter _ _ _ _ (ap (take c.min.result) c.as_bytes-bytes.ensures.value) c.in-Some.is c.first_sign_or_letter.ensures in
    let before = free_before is_sign_or_letter bs c.min.result c.in-Some.end special_or_letter found in
    let run : c.range.result.now ≡ take c.in-Some.end bs = c.range.ensures.value ∙ ap (λ n. take n bs) (let e : c.in-Some.end - 0 ≡ c.in-Some.end = omega arith in e) in
    λ b d ds m. subst (λ xs. OccursAt (encode_utf8_all ds) xs 0) (sym run) (caseless_beginning bs c.in-Some.end c.utf8.pattern before.0 before.1 b d ds m)

pub returns-in-None : goal.returns-in-None
returns-in-None c =
    let bs = c.args.pattern.now in
    let none : IsFirstByte is_sign_or_letter (take c.min.result bs) None =
    IsFirstByte-same is_sign_or_letter _ _ _ _ (ap (take c.min.result) c.as_bytes-bytes.ensures.value) c.in-None.is c.first_sign_or_letter.ensures in
    let most = c.if-bytes-le-MOST_BYTES.true in
    let size = ap length c.as_bytes-bytes.ensures.value in
    let least = c.min.ensures in
    let all : length bs ≤ c.min.result = omega arith in
    λ b d ds m.
    subst (λ xs. OccursAt (encode_utf8_all ds) xs 0) (take_all (length bs) bs (omega arith))
    (caseless_beginning bs (length bs) c.utf8.pattern (IsCharBoundary-end bs) (all_free is_sign_or_letter bs c.min.result all none) b d ds m)
