use Rattle.std.proofs.Common.{◌++◌, ap, sym, ◌∙◌}
use Rattle.vortex_prune.proofs.Scanning.LikeLemmas.{behind_front, with_no_front}
use Rattle.vortex_prune.proofs.scan.pattern.begins_so.Goals as goal

pub returns-in-Some : goal.returns-in-Some
returns-in-Some g c =
    let h = c.in-Some.ensures.cases in
    c.is_match.ensures ∙ behind_front c.args.front.now c.args.text.now c.in-Some.rest.now (g.T.Tail.items c.args.tail.now) c.utf8.front (h.1.1 ∙ ap (λ l. c.args.front.now ++ l) (sym h.2))

pub returns-in-None : goal.returns-in-None
returns-in-None g c = with_no_front c.args.front.now c.args.text.now (g.T.Tail.items c.args.tail.now) c.utf8.front c.utf8.text c.in-None.ensures.cases
