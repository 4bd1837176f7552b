use Rattle.std.proofs.Common.{◌∷◌, length, drop, sym, ◌∙◌, ap, arith}
use Rattle.std.proofs.lemmas.Bool.{false≢true}
use Rattle.vortex_expr.specs.Patterns.Like.{items, like}
use Rattle.vortex_expr.specs.Patterns.LikeSearch.{characters}
use Rattle.vortex_expr.specs.Patterns.Prefix.{literal_prefix}
use Rattle.vortex_expr.proofs.Patterns.PieceLemmas.{like-char, like-any_char, read_more}
use Rattle.vortex_expr.proofs.like.piece.read_piece.Goals as goal
use Rattle.vortex_expr.proofs.like.piece.read_piece.Goals.{in-AnyChar, in-Char}

pub loop-item-preserved : goal.loop-item-preserved
loop-item-preserved c =
    let l = c.loop-item in
    let v = l.invariant in
    let is = items (characters l.pattern) in
    let rest = items (characters c.in-Some.rest) in
    let read = c.in-Some.ensures.items in
    let size = ap length c.in-Some-split_first.ensures in
    let old = v.room in
    record {
      like = λ ds m.
          let so_far = v.like ds m in
          elim c.match-item.branch [
            | in-AnyChar w ↦
                read_more rest l.count ds so_far.0 (like-any_char rest (drop l.count ds)
                (ap (λ i. like (i ∷ rest) (drop l.count ds)) (sym w.in-AnyChar.is) ∙ ap (λ js. like js (drop l.count ds)) (sym read) ∙ so_far.1))
            | in-Char w ↦
                read_more rest l.count ds so_far.0 (like-char _ rest (drop l.count ds)
                (ap (λ i. like (i ∷ rest) (drop l.count ds)) (sym w.in-Char.is) ∙ ap (λ js. like js (drop l.count ds)) (sym read) ∙ so_far.1))
          ];
      letters = λ only.
          elim c.match-item.branch [
            | in-AnyChar w ↦ absurd (false≢true (sym w.only_letters-is ∙ only))
            | in-Char w ↦
                let before = v.letters (sym w.only_letters-is ∙ only) in
                let more = ap (λ js. length (literal_prefix js)) read ∙ ap (λ i. length (literal_prefix (i ∷ rest))) w.in-Char.is in
                omega arith
          ];
      room = omega arith;
    }
