use Rattle.std.proofs.Common.{◌≡◌, [], ◌∷◌, sym, ap, subst, ◌∙◌}
use Rattle.std.specs.Char.{to_ascii_uppercase}
use Rattle.memchr.specs.Find.{Passes, is_byte2}
use Rattle.vortex_expr.specs.Patterns.Chance.{IsFromFirst}
use Rattle.vortex_expr.specs.Patterns.Like.{items, like, some_end}
use Rattle.vortex_expr.specs.Patterns.LikeSearch.{characters}
use Rattle.vortex_expr.specs.declared.like.Item.TheVariants.{Char}
use Rattle.vortex_expr.proofs.Patterns.ChanceLemmas.{some_end-no_item, from_first_letter}
use Rattle.vortex_expr.proofs.like.chance.from_item.Goals as goal

pub returns-in-None-clause-same : goal.returns-in-None-clause-same
returns-in-None-clause-same c =
    let none : items (characters c.args.pattern) ≡ [] = c.in-None.ensures.items in
    ap (λ is. some_end (like is) (characters c.end.result)) none ∙ some_end-no_item (characters c.end.result) (characters c.args.text)
    ∙ ap (λ is. some_end (like is) (characters c.args.text)) (sym none)

pub returns-in-Some-Char-default-clause-same : goal.returns-in-Some-Char-default-clause-same
returns-in-Some-Char-default-clause-same c =
    let bs = c.args.text.text.now in
    let letter = c.in-Some-Char-default.letter in
    let rest = items (characters c.in-Some-Char-default.field-0-1) in
    let first : items (characters c.args.pattern) ≡ Char letter ∷ rest = rw c.in-Some-Char-default.field-0-0-is at c.in-Some-Char-default.ensures.items in
    let found : IsFromFirst (Passes (is_byte2 letter (to_ascii_uppercase letter)) bs) bs c.from_either.result.now =
    subst (λ b. IsFromFirst (Passes (is_byte2 letter b) bs) bs c.from_either.result.now) c.to_ascii_uppercase.ensures.value c.from_either.ensures in
    (from_first_letter c.args.text.ignore_case letter (items (characters c.args.pattern)) rest bs c.from_either.result.now first c.if-letter-lt128.true found).0

pub returns-in-Some-Char-default-clause-shorter : goal.returns-in-Some-Char-default-clause-shorter
returns-in-Some-Char-default-clause-shorter c =
    let bs = c.args.text.text.now in
    let letter = c.in-Some-Char-default.letter in
    let rest = items (characters c.in-Some-Char-default.field-0-1) in
    let first : items (characters c.args.pattern) ≡ Char letter ∷ rest = rw c.in-Some-Char-default.field-0-0-is at c.in-Some-Char-default.ensures.items in
    let found : IsFromFirst (Passes (is_byte2 letter (to_ascii_uppercase letter)) bs) bs c.from_either.result.now =
    subst (λ b. IsFromFirst (Passes (is_byte2 letter b) bs) bs c.from_either.result.now) c.to_ascii_uppercase.ensures.value c.from_either.ensures in
    (from_first_letter c.args.text.ignore_case letter (items (characters c.args.pattern)) rest bs c.from_either.result.now first c.if-letter-lt128.true found).1
