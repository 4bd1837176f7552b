use Rattle.std.proofs.Common.{rules, ◌≡◌, ◌++◌, ◌∷◌, [], ap, map, sym, true, ◌∙◌}
use Rattle.std.specs.Vec.Iter.{into_iter_items}
use Rattle.vortex_expr.specs.Trees.Connectives.{is_and}
use Rattle.vortex_normal.specs.Intervals.{combined, interval_of, set_of, share}
use Rattle.vortex_normal.specs.Separate.{is_separate}
use Rattle.vortex_normal.proofs.Absorbed.{first_of, from_share, no_items, none_left, one_taken, rest_of, taken_separate}
use Rattle.vortex_normal.proofs.Separate.{share_separate}
use Rattle.vortex_normal.proofs.ranges.absorb.Goals as goal

pub loop-interval-init : goal.loop-interval-init
loop-interval-init c =
    let w = is_and c.args.connective in
    let set = set_of c.args.set.now in
    let few = set_of c.args.few in
    let shared : map interval_of (into_iter_items c.into_iter-interval-iterator.result) ≡ share w few =
    ap (map interval_of) c.into_iter-interval-iterator.ensures.into_iter_gives.0
    ∙ c.in_ok-push_share.ensures
    ∙ ap (λ l. map interval_of l ++ share w few) c.new-share.ensures.items in
    record {
      whole = ap (λ l. combined w (set ∷ share w l ∷ [])) shared ∙ from_share w set few c.requires.set c.requires.few;
      separate = c.requires.set;
      to_come = ap is_separate shared ∙ share_separate w few c.requires.few;
      counted = search rules;
    }

pub splice-requires-clause-values : goal.splice-requires-clause-values
splice-requires-clause-values c =
    first_of (interval_of c.in-Some.interval) (map interval_of (into_iter_items c.next.new.self))
    (ap (λ l. is_separate (map interval_of l)) (sym c.in-Some.ensures.steps.0) ∙ c.loop-interval.invariant.to_come)

pub loop-interval-preserved : goal.loop-interval-preserved
loop-interval-preserved c =
    let w = is_and c.args.connective in
    let set = set_of c.loop-interval.set in
    let i = interval_of c.in-Some.interval in
    let rest = map interval_of (into_iter_items c.next.new.self) in
    let known = c.loop-interval.invariant in
    let both : is_separate (i ∷ rest) ≡ true = ap (λ l. is_separate (map interval_of l)) (sym c.in-Some.ensures.steps.0) ∙ known.to_come in
    record {
      whole =
          ap (λ s. combined w (s ∷ share w rest ∷ [])) c.in_ok-splice.ensures
          ∙ one_taken w set i rest known.separate both
          ∙ ap (λ l. combined w (set ∷ share w (map interval_of l) ∷ [])) (sym c.in-Some.ensures.steps.0)
          ∙ known.whole;
      separate = ap is_separate c.in_ok-splice.ensures ∙ taken_separate w set i rest known.separate both;
      to_come = rest_of i rest both;
      counted = search rules;
    }

pub returns : goal.returns
returns c =
    let w = is_and c.args.connective in
    let set = set_of c.loop-interval.set in
    let known = c.loop-interval.invariant in
    let none : into_iter_items c.loop-interval.interval-iterator ≡ [] = no_items _ (sym known.counted ∙ c.in-None.ensures.steps.0) in
    sym (none_left w set known.separate)
    ∙ ap (λ l. combined w (set ∷ share w (map interval_of l) ∷ [])) (sym none)
    ∙ known.whole
