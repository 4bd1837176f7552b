use Rattle.std.proofs.Common.{Some, ap, sym, ◌∙◌, option_map}
use Rattle.std.specs.Prelude.{string_bytes}
use Rattle.std.specs.Str.{chars}
use Rattle.vortex_expr.specs.Patterns.Like.{items}
use Rattle.vortex_normal.proofs.Readings.{all_texts, no_end, not_beginning, not_raised, read_none, read_some, up_to}
use Rattle.vortex_normal.proofs.likes.begins.Goals as goal

pub returns-then-not-is_last_raised : goal.returns-then-not-is_last_raised
returns-then-not-is_last_raised c =
    not_raised c.args.wanted c.args.text.now (items (chars c.args.pattern.now)) c.requires.wildcard c.in-Some.read (read_some _ _ _ _ c.in-Some.is c.in_ok-read.ensures)
    c.prefix-from.result.now c.prefix-from.utf8 c.prefix-from.ensures (sym c.is_empty.ensures ∙ c.if-is_empty.false) (sym c.is_last_raised.ensures ∙ c.if-not-is_last_raised.true)

pub returns-in-Some-2 : goal.returns-in-Some-2
returns-in-Some-2 c =
    up_to c.args.wanted c.args.text.now (items (chars c.args.pattern.now)) c.requires.wildcard c.in-Some.read (read_some _ _ _ _ c.in-Some.is c.in_ok-read.ensures)
    c.prefix-from.result.now c.prefix-from.utf8 c.prefix-from.ensures (sym c.is_empty.ensures ∙ c.if-is_empty.false) c.as_str.result.now c.in_ok-text_range-in-Some-2.field-0 (sym c.is_last_raised.ensures ∙ c.if-not-is_last_raised.false)
    (ap Some c.as_str.ensures.value ∙ ap (option_map string_bytes) (sym c.in-Some-2.is) ∙ c.in_ok-below-in-Some.ensures.value)
    c.in_ok-text_range-in-Some-2.ensures

pub returns-in-Some : goal.returns-in-Some
returns-in-Some c =
    no_end c.args.wanted c.args.text.now (items (chars c.args.pattern.now)) c.requires.wildcard c.in-Some.read (read_some _ _ _ _ c.in-Some.is c.in_ok-read.ensures)
    c.prefix-from.result.now c.prefix-from.utf8 c.prefix-from.ensures (sym c.is_empty.ensures ∙ c.if-is_empty.false) (sym c.is_last_raised.ensures ∙ c.if-not-is_last_raised.false)
    (ap (option_map string_bytes) (sym c.in-None-2.is) ∙ c.in_ok-below-in-Some.ensures.value)

pub returns-then-is_empty : goal.returns-then-is_empty
returns-then-is_empty c =
    all_texts c.args.wanted c.args.text.now (items (chars c.args.pattern.now)) c.requires.wildcard c.in-Some.read (read_some _ _ _ _ c.in-Some.is c.in_ok-read.ensures)
    c.prefix-from.result.now c.prefix-from.utf8 c.prefix-from.ensures c.in_ok-any_text-in-Some.field-0 (sym c.is_empty.ensures ∙ c.if-is_empty.true)
    c.in_ok-any_text-in-Some.ensures

pub returns : goal.returns
returns c = not_beginning c.args.wanted c.args.text.now (items (chars c.args.pattern.now)) c.requires.wildcard (read_none _ _ _ c.in-None.is c.in_ok-read.ensures)
