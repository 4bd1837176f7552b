use Rattle.std.proofs.Common.{◌≡◌, ◌++◌, ◌+◌, ◌∷◌, [], Some, ap, sym, ◌∙◌, is_some}
use Rattle.std.specs.Prelude.{encode_utf8_all, string_bytes, option_map, OnErr, Result, Ok, Err}
use Rattle.std.specs.Char.{encode_utf8}
use Rattle.std.specs.Str.{chars}
use Rattle.vortex_expr.specs.Patterns.Prefix.{successor}
use Rattle.vortex_expr.proofs.Patterns.PatternLemmas.{raised_text, successor_passes, successor_raises}
use Rattle.vortex_expr.proofs.like_pattern.successor.Goals as goal

pub returns-in-Some-next_char-clause-value : goal.returns-in-Some-next_char-clause-value
returns-in-Some-next_char-clause-value c =
    let raises : successor (chars c.loop-last.rest.now) ≡ Some (chars c.in-Some.before.now ++ (c.in-Some.last + 1) ∷ []) = successor_raises _ _ _ c.in-Some.ensures.split c.in-Some-next_char.ensures.0 in
    let pushed : string_bytes c.push.new.self ≡ c.in-Some.before.now ++ encode_utf8 (c.in-Some.last + 1) =
    c.in_ok-push.ensures.bytes ∙ ap (λ x. x ++ encode_utf8 c.in-Some-next_char.next) c.in_ok-raised.ensures.ok ∙ ap (λ n. c.in-Some.before.now ++ encode_utf8 n) c.in-Some-next_char.ensures.1 in
    raised_text _ _ _ c.in-Some.ensures.utf8 pushed ∙ ap (option_map encode_utf8_all) (sym raises ∙ c.loop-last.invariant.same)

-- what holds anyhow holds where a call was refused
on_err : {T E P : Type 0} (r : Result T E) → P → OnErr r P
on_err (Ok v) h = tt
on_err (Err e) h = h

-- the text that was to be raised has a successor
pub returns-in_err-raised-clause-memory : goal.returns-in_err-raised-clause-memory
returns-in_err-raised-clause-memory c = on_err _ (ap is_some (sym c.loop-last.invariant.same ∙ successor_raises _ _ _ c.in-Some.ensures.split c.in-Some-next_char.ensures.0))

pub returns-in_err-push-clause-memory : goal.returns-in_err-push-clause-memory
returns-in_err-push-clause-memory c = on_err _ (ap is_some (sym c.loop-last.invariant.same ∙ successor_raises _ _ _ c.in-Some.ensures.split c.in-Some-next_char.ensures.0))

pub loop-last-preserved : goal.loop-last-preserved
loop-last-preserved c = record {
  text = c.in-Some.ensures.utf8;
  same = successor_passes _ _ _ c.in-Some.ensures.split c.in_default-next_char.ensures ∙ c.loop-last.invariant.same;
}
