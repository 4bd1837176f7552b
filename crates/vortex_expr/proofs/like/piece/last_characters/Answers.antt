use Rattle.std.proofs.Common.{◌≡◌, ◌+◌, ◌∷◌, suc, length, drop, sym, ◌∙◌, ap, arith}
use Rattle.vortex_expr.specs.Patterns.Like.{some_end}
use Rattle.vortex_expr.specs.Patterns.LikeSearch.{characters}
use Rattle.vortex_expr.proofs.Patterns.SubstringLemmas.{IsStep-of}
use Rattle.vortex_expr.proofs.Patterns.PieceLemmas.{some_end-skip}
use Rattle.vortex_expr.proofs.like.piece.last_characters.Goals as goal

pub loop-ahead_rest-preserved : goal.loop-ahead_rest-preserved
loop-ahead_rest-preserved c =
    let l = c.loop-ahead_rest in
    let v = l.invariant in
    let cs = characters l.text in
    let rest = characters c.in-Some-Some.rest in
    let text : cs ≡ c.in-Some-Some.field-0-0-1 ∷ rest = c.in-Some-Some.ensures' in
    let step = IsStep-of cs c.args.count _ (characters l.ahead) (characters c.in-Some-Some.ahead_rest) v.ahead c.in-Some-Some.ensures in
    let inside = step.inside in
    let size = ap length text in
    let old = v.shorter in
    let next : c.args.count + 1 ≡ suc c.args.count = omega arith in
    record {
      same = λ test h. some_end-skip test c.in-Some-Some.field-0-0-1 rest (λ t. let n = h (c.in-Some-Some.field-0-0-1 ∷ rest) t in omega arith) ∙ ap (some_end test) (sym text) ∙ v.same test h;
      shorter = omega arith;
      ahead = step.rest ∙ ap (drop (c.args.count + 1)) text ∙ ap (λ n. drop n (c.in-Some-Some.field-0-0-1 ∷ rest)) next;
    }
