use Rattle.std.proofs.Common.{refl}
use Rattle.std.specs.Char.{char_set_contains}
use Rattle.vortex_prune.proofs.Scanning.LikeLemmas.{signs, split_items, whole_items}
use Rattle.vortex_prune.proofs.scan.pattern.split_letters.Goals as goal

pub returns-in-Some : goal.returns-in-Some
returns-in-Some c =
    let h = c.in-Some.ensures.cases in
    split_items c.args.pattern.now c.split_at.result.0.now c.split_at.result.1.now c.in-Some.place c.utf8.pattern h.3 (h.1 (char_set_contains signs) (λ d. refl)).0 c.split_at.ensures.front c.split_at.ensures.back

pub returns-in-None : goal.returns-in-None
returns-in-None c = whole_items c.args.pattern.now c.utf8.pattern (c.in-None.ensures.cases (char_set_contains signs) (λ d. refl))
