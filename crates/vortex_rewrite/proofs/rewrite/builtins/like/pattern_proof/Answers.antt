use Rattle.std.proofs.Common.{◌≡◌, Some, None, ap, sym, ◌∙◌, option_map}
use Rattle.std.specs.Prelude.{encode_utf8_all, option_copied, string_bytes}
use Rattle.std.specs.Str.{chars}
use Rattle.vortex_expr.specs.Patterns.Like.{items}
use Rattle.vortex_expr.specs.Patterns.Prefix.{exact_text, successor}
use Rattle.vortex_rewrite.proofs.Soundness.PatternProofs.{pattern_outside, pattern_open}
use Rattle.vortex_rewrite.proofs.rewrite.builtins.like.pattern_proof.Goals as goal
use Rattle.vortex_rewrite.proofs.Logic.{made_value}

pub returns-in-Some-2 : goal.returns-in-Some-2
returns-in-Some-2 c =
    let wild : None ≡ exact_text c.in_ok-pattern.pattern = ap option_copied (sym c.in_default.is) ∙ c.exact.ensures in
    let next : Some c.as_str.result.now ≡ option_map encode_utf8_all (successor (chars c.prefix-prefix.result.now)) = ap Some c.as_str.ensures.value ∙ ap (option_map string_bytes) (sym c.in-Some-2.is) ∙ c.in_ok-next.ensures.value in
    pattern_outside c.args.x.now c.in_ok-pattern.pattern (items (chars c.args.pattern.now)) c.prefix-prefix.result.now c.as_str.result.now _
    (made_value _ _ _ c.try_read.ensures.value c.in_ok-pattern.ensures) wild c.prefix-prefix.ensures c.prefix-prefix.utf8 next c.beyond-in-Some-2.ensures

pub returns : goal.returns
returns c =
    let wild : None ≡ exact_text c.in_ok-pattern.pattern = ap option_copied (sym c.in_default.is) ∙ c.exact.ensures in
    let next : None ≡ option_map encode_utf8_all (successor (chars c.prefix-prefix.result.now)) = ap (option_map string_bytes) (sym c.in-None.is) ∙ c.in_ok-next.ensures.value in
    pattern_open c.args.x.now c.in_ok-pattern.pattern (items (chars c.args.pattern.now)) c.prefix-prefix.result.now
    (made_value _ _ _ c.try_read.ensures.value c.in_ok-pattern.ensures) wild c.prefix-prefix.ensures c.prefix-prefix.utf8 next
