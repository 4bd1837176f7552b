use Rattle.std.proofs.Common.{◌∙◌, ap, sym}
use Rattle.std.proofs.lemmas.Str.{is_utf8-from_IsUtf8}
use Rattle.std.specs.Str.{is_utf8}
use Rattle.vortex_base.proofs.value_ref.ValueRef.fits.Goals as goal

pub returns-in-Utf8-Utf8 : goal.returns-in-Utf8-Utf8
returns-in-Utf8-Utf8 c =
    rw (c.in-Utf8-Utf8.is-0, c.in-Utf8-Utf8.is-1) (sym (ap is_utf8 (sym c.as_str-text.ensures) ∙ is_utf8-from_IsUtf8 c.as_str-text.result.now c.as_str-text.utf8))
