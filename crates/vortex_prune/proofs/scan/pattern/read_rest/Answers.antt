use Rattle.std.proofs.Common.{◌≡◌, ◌∷◌, Some, [], length, sym, ◌∙◌, arith}
use Rattle.std.proofs.lemmas.Bool.{eqb-true}
use Rattle.std.proofs.lemmas.Slice.Eq.{bytes_eq-Decides}
use Rattle.std.proofs.lemmas.Str.Pattern.{strip_prefix_char}
use Rattle.vortex_prune.proofs.Scanning.LikeLemmas.{no_items, read_end, read_within}
use Rattle.vortex_prune.proofs.scan.pattern.read_rest.Goals as goal

pub returns-then-is_empty : goal.returns-then-is_empty
returns-then-is_empty c =
    let first : c.args.rest.now ≡ 37 ∷ c.in-Some.tail.now = strip_prefix_char 37 c.args.rest.now (Some c.in-Some.tail) c.in-Some.ensures.cases (omega arith) in
    read_end c.args.rest.now c.in-Some.tail.now c.split_letters.result.0.now c.split_letters.result.1.now c.utf8.rest first c.split_letters.ensures (sym c.is_empty.ensures ∙ c.if-is_empty.true)

pub returns-then-eq : goal.returns-then-eq
returns-then-eq c =
    let first : c.args.rest.now ≡ 37 ∷ c.in-Some.tail.now = strip_prefix_char 37 c.args.rest.now (Some c.in-Some.tail) c.in-Some.ensures.cases (omega arith) in
    let one : c.split_letters.result.1.now ≡ 37 ∷ [] = (bytes_eq-Decides c.split_letters.result.1.now (37 ∷ [])).0 (sym c.eq.ensures ∙ c.if-eq.true) in
    read_within c.args.rest.now c.in-Some.tail.now c.split_letters.result.0.now c.split_letters.result.1.now c.utf8.rest first c.split_letters.ensures one

pub returns-then-is_empty-2 : goal.returns-then-is_empty-2
returns-then-is_empty-2 c = sym (no_items c.args.rest.now (eqb-true (length c.args.rest.now) 0 (sym c.is_empty-in-None.ensures ∙ c.if-is_empty-2.true)))
