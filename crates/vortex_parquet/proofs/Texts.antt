-- Bytes that are a text, and bytes that are none.
use Rattle.std.proofs.Common.{◌≡◌, ℕ, Bool, true, false, cond, List, Some, None, refl, ap, ◌∙◌}
use Rattle.std.specs.Str.{IsUtf8, is_utf8}
use Rattle.std.proofs.lemmas.Str.{IsUtf8-from_is_utf8, is_utf8-from_IsUtf8}
use Rattle.vortex_base.specs.declared.scalar_value.ScalarValue.{ScalarValue}
use Rattle.vortex_base.specs.declared.scalar_value.ScalarValue.TheVariants as value
use Rattle.vortex_parquet.specs.Stats.{text_value}

pub text_here : (bytes text : List ℕ) → IsUtf8 bytes → text ≡ bytes → Some (value.Utf8 text) ≡ text_value bytes
text_here bytes text h e =
    let t : is_utf8 bytes ≡ true = is_utf8-from_IsUtf8 bytes h in
    ap (λ (x : List ℕ). Some (value.Utf8 x)) e ∙ rw t refl

none_if : (b : Bool) (v : ScalarValue) → (b ≡ true → ⊥) → None ≡ cond b (Some v) None
none_if true v h = absurd (h refl)
none_if false v h = refl

pub text_none : (bytes : List ℕ) → (IsUtf8 bytes → ⊥) → None ≡ text_value bytes
text_none bytes h = none_if (is_utf8 bytes) (value.Utf8 bytes) (λ t. h (IsUtf8-from_is_utf8 bytes t))
