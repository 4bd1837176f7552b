use Rattle.std.proofs.Common.{◌≡◌, true, refl, ap, ◌∙◌}
use Rattle.std.proofs.lemmas.Bool.{false_from_ne_true}
use Rattle.std.proofs.lemmas.Str.{IsUtf8-from_is_utf8}
use Rattle.std.specs.Str.{is_utf8}
use Rattle.vortex_syntax.proofs.value.text_of.Goals as goal

pub returns-in-Ok : goal.returns-in-Ok
returns-in-Ok c =
    let same : c.new-text.result ≡ c.args.bytes.items = c.new-text.ensures ∙ ap (λ v. v.items) c.in-Ok.ensures.ok in
    let utf8 : is_utf8 c.args.bytes.items ≡ true = rw same at c.as_str-text.ensures.utf8 in
    rw (same, utf8) refl

pub returns : goal.returns
returns c = rw (false_from_ne_true (is_utf8 c.args.bytes.items) (λ e. let h = c.in-Err.ensures.succeeds (IsUtf8-from_is_utf8 _ e) in cc)) refl
