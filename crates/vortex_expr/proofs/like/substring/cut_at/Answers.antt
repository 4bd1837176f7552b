use Rattle.std.proofs.Common.{◌≡◌, ◌+◌, ◌-◌, slice_index, max, refl, sym, ap, subst, ◌∙◌, arith}
use Rattle.std.proofs.lemmas.List.{get_or-drop}
use Rattle.std.proofs.lemmas.Bool.{false≢true}
use Rattle.memchr.proofs.lemmas.CriticalLemmas.{IsCut-long, IsCut-small}
use Rattle.vortex_expr.specs.Patterns.Substring.{letters, IsCutOf}
use Rattle.vortex_expr.proofs.Patterns.SubstringLemmas.{IsCutOf-large, IsCutOf-small}
use Rattle.vortex_expr.proofs.like.substring.cut_at.Goals as goal

pub returns-then-stands : goal.returns-then-stands
returns-then-stands c =
    let x = slice_index (letters c.args.needle) in
    let same = c.if-stands.ensures.0 refl in
    let p = c.args.suffix.period in
    IsCutOf-small x c.args.count c.args.suffix.pos p
    (IsCut-small x c.args.count c.args.suffix.pos p c.requires.place
    (λ k l. same k l ∙ ap (λ v. slice_index v k) c.skip.ensures.left ∙ get_or-drop p (letters c.args.needle) k 0 ∙ ap x (let e : p + k ≡ k + p = omega arith in e)))

pub returns-else-stands : goal.returns-else-stands
returns-else-stands c =
    let x = slice_index (letters c.args.needle) in
    let m = c.args.count in
    let pos = c.args.suffix.pos in
    let p = c.args.suffix.period in
    let size = c.max.ensures in
    subst (λ s. IsCutOf x m (record { critical = pos; shift = s; keep = 0 })) (sym c.max.ensures)
    (IsCutOf-large x m pos (max pos (m - pos))
    (IsCut-long x m pos p c.requires.place
    (λ all. false≢true (c.if-stands.ensures.1
    (λ k l. all k l ∙ ap x (let e : k + p ≡ p + k = omega arith in e) ∙ sym (get_or-drop p (letters c.args.needle) k 0) ∙ ap (λ v. slice_index v k) (sym c.skip.ensures.left)))))
    (omega arith))
