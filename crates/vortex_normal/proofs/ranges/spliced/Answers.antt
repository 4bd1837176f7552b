use Rattle.std.proofs.Common.{rules, ◌≡◌, ◌∷◌, ap, map, sym, true, ◌∙◌}
use Rattle.std.proofs.lemmas.Bool.{and_parts}
use Rattle.std.specs.Vec.Iter.{into_iter_items}
use Rattle.vortex_expr.specs.Trees.Connectives.{is_and}
use Rattle.vortex_normal.specs.Intervals.{combined, interval_of, set_of}
use Rattle.vortex_normal.specs.Separate.{are_separate, is_separate}
use Rattle.vortex_normal.proofs.Absorbed.{both_separate, from_unit, set_taken, unit, unit_separate}
use Rattle.vortex_normal.proofs.ranges.spliced.Goals as goal
use Rattle.vortex_normal.proofs.ranges.spliced.Goals.{in-And+in_ok-all-in-And, in-Or}

pub loop-set-init : goal.loop-set-init
loop-set-init c =
    let w = is_and c.args.connective in
    let sets = map set_of c.args.sets.items in
    let all : map set_of (into_iter_items c.into_iter-set-iterator.result) ≡ sets = ap (map set_of) c.into_iter-set-iterator.ensures.into_iter_gives.0 in
    let first : set_of c.match-connective.all ≡ unit w = elim c.match-connective.branch [
      | in-And+in_ok-all-in-And t ↦ ap set_of t.all-is ∙ t.in_ok-all-in-And.ensures ∙ ap (λ k. unit (is_and k)) (sym t.in-And.is)
      | in-Or t ↦ ap set_of t.all-is ∙ ap (map interval_of) t.new-all.ensures.items ∙ ap (λ k. unit (is_and k)) (sym t.in-Or.is)
    ] in
    record {
      whole = ap (λ l. combined w (set_of c.match-connective.all ∷ l)) all ∙ ap (λ s. combined w (s ∷ sets)) first ∙ from_unit w sets c.requires;
      separate = ap is_separate first ∙ unit_separate w;
      to_come = ap are_separate all ∙ c.requires;
      counted = search rules;
    }

pub loop-set-preserved : goal.loop-set-preserved
loop-set-preserved c =
    let w = is_and c.args.connective in
    let all = set_of c.loop-set.all in
    let set = set_of c.in-Some.set in
    let rest = map set_of (into_iter_items c.next.new.self) in
    let known = c.loop-set.invariant in
    let both : are_separate (set ∷ rest) ≡ true = ap (λ l. are_separate (map set_of l)) (sym c.in-Some.ensures.steps.0) ∙ known.to_come in
    let parts = and_parts (is_separate set) (are_separate rest) both in
    record {
      whole =
          ap (λ s. combined w (s ∷ rest)) c.in_ok-all.ensures
          ∙ set_taken w all set rest known.separate both
          ∙ ap (λ l. combined w (all ∷ map set_of l)) (sym c.in-Some.ensures.steps.0)
          ∙ known.whole;
      separate = ap is_separate c.in_ok-all.ensures ∙ both_separate w all set known.separate parts.0;
      to_come = parts.1;
      counted = search rules;
    }
