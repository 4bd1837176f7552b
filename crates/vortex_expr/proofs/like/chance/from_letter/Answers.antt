use Rattle.std.proofs.Common.{◌≡◌, ◌∷◌, subst, ap, ◌∙◌}
use Rattle.std.specs.Char.{to_ascii_uppercase}
use Rattle.std.specs.Str.{chars}
use Rattle.memchr.specs.Find.{Passes, is_byte2}
use Rattle.vortex_expr.specs.Patterns.Chance.{IsFromFirst}
use Rattle.vortex_expr.specs.Patterns.Like.{items, folded}
use Rattle.vortex_expr.specs.Patterns.LikeSearch.{characters}
use Rattle.vortex_expr.specs.declared.like.Item.TheVariants.{Char}
use Rattle.vortex_expr.proofs.Patterns.ChanceLemmas.{from_first_letter, items-letter}
use Rattle.vortex_expr.proofs.like.chance.from_letter.Goals as goal

pub returns-in-Some-clause-same : goal.returns-in-Some-clause-same
returns-in-Some-clause-same c =
    let bs = c.args.text.text.now in
    let letter = c.in-Some.byte in
    let rest = folded c.args.pattern.ignore_case (chars c.in-Some.field-0-1.now) in
    let first : items (characters c.args.pattern) ≡ Char letter ∷ items rest = ap items c.in-Some.ensures.first ∙ items-letter letter rest c.in-Some.byte-test.0.1 c.in-Some.byte-test.1 in
    let found : IsFromFirst (Passes (is_byte2 letter (to_ascii_uppercase letter)) bs) bs c.from_either.result.now =
    subst (λ b. IsFromFirst (Passes (is_byte2 letter b) bs) bs c.from_either.result.now) c.to_ascii_uppercase.ensures.value c.from_either.ensures in
    (from_first_letter c.args.text.ignore_case letter (items (characters c.args.pattern)) (items rest) bs c.from_either.result.now first c.in-Some.ensures.ascii found).0

pub returns-in-Some-clause-shorter : goal.returns-in-Some-clause-shorter
returns-in-Some-clause-shorter c =
    let bs = c.args.text.text.now in
    let letter = c.in-Some.byte in
    let rest = folded c.args.pattern.ignore_case (chars c.in-Some.field-0-1.now) in
    let first : items (characters c.args.pattern) ≡ Char letter ∷ items rest = ap items c.in-Some.ensures.first ∙ items-letter letter rest c.in-Some.byte-test.0.1 c.in-Some.byte-test.1 in
    let found : IsFromFirst (Passes (is_byte2 letter (to_ascii_uppercase letter)) bs) bs c.from_either.result.now =
    subst (λ b. IsFromFirst (Passes (is_byte2 letter b) bs) bs c.from_either.result.now) c.to_ascii_uppercase.ensures.value c.from_either.ensures in
    (from_first_letter c.args.text.ignore_case letter (items (characters c.args.pattern)) (items rest) bs c.from_either.result.now first c.in-Some.ensures.ascii found).1
