use Rattle.std.proofs.Common.{◌≡◌, [], sym, ◌∙◌, ap, subst, arith}
use Rattle.vortex_expr.specs.Patterns.Like.{items, like, some_end}
use Rattle.vortex_expr.specs.Patterns.LikeSearch.{characters}
use Rattle.vortex_expr.specs.Patterns.Prefix.{literal_prefix}
use Rattle.vortex_expr.specs.Patterns.Substring.{letters, IsPast}
use Rattle.vortex_expr.proofs.Patterns.PieceLemmas.{some_end-past, some_end-none, letters-of_text}
use Rattle.vortex_expr.proofs.like.piece.from_piece.Goals as goal

pub returns-in-Letters-clause-same : goal.returns-in-Letters-clause-same
returns-in-Letters-clause-same c =
    let is = items (characters c.args.pattern) in
    let of_text : letters c.of_text.result ≡ characters c.args.text = letters-of_text c.of_text.result c.of_text.ensures.text ∙ ap characters c.of_text.ensures.same in
    let of_rest : letters c.from_first.result ≡ characters c.rest.result =
    letters-of_text c.from_first.result (c.from_first.ensures.kind ∙ c.of_text.ensures.text) ∙ ap characters (sym c.rest.ensures) in
    let past : IsPast (literal_prefix is) (characters c.args.text) (characters c.rest.result) =
    subst (λ xs. IsPast xs (characters c.args.text) (characters c.rest.result)) c.of_pattern-needle.ensures.letters
    (subst (λ ys. IsPast (letters c.of_pattern-needle.result) ys (characters c.rest.result)) of_text
    (subst (IsPast (letters c.of_pattern-needle.result) (letters c.of_text.result)) of_rest c.from_first.ensures.past)) in
    (some_end-past is (characters c.args.text) (characters c.rest.result) past).0

pub returns-in-TooLong-clause-same : goal.returns-in-TooLong-clause-same
returns-in-TooLong-clause-same c =
    let test = like (items (characters c.args.pattern)) in
    ap (some_end test) c.end.ensures ∙ some_end-none test [] (λ ds le m. let more = c.in-TooLong.ensures ds m in omega arith)
    ∙ sym (some_end-none test (characters c.args.text) (λ ds le m. let more = c.in-TooLong.ensures ds m in omega arith))
