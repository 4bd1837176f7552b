use Rattle.std.proofs.Common.{◌≡◌, ◌∷◌, length, take, drop, get_or, sym, ◌∙◌, arith, ◌-◌}
use Rattle.std.proofs.lemmas.List.{take_rest}
use Rattle.vortex_syntax.proofs.PlainLemmas.{front_utf8, quoted_begins, uncons}
use Rattle.vortex_syntax.proofs.plain.quoted.Goals as goal

pub from_utf8_unchecked-quoted-requires : goal.from_utf8_unchecked-quoted-requires
from_utf8_unchecked-quoted-requires c = front_utf8 c.args.text.now c.in_ok-end.end (sym c.text_end.ensures ∙ c.in_ok-end.was)

pub returns : goal.returns
returns c =
    let text = c.args.text.now in
    let end = c.in_ok-end.end in
    let behind = take (length text - end) (drop end text) in
    let first : get_or behind 0 0 ≡ 34 = omega arith in
    let closes : drop end text ≡ 34 ∷ take (length behind - 1) (drop 1 behind) = sym (take_rest text end) ∙ uncons behind 34 (omega arith) first in
    rw c.from_utf8_unchecked-quoted.ensures (quoted_begins text _ end (sym c.text_end.ensures ∙ c.in_ok-end.was) closes)
