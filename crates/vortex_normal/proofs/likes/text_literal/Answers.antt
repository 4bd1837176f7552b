use Rattle.std.proofs.Common.{sym, ◌∙◌, subst}
use Rattle.std.specs.Prelude.{IsTrue}
use Rattle.std.specs.Str.{is_utf8}
use Rattle.std.proofs.lemmas.Str.{is_utf8-from_IsUtf8}
use Rattle.vortex_normal.proofs.likes.text_literal.Goals as goal

pub utf8_literal-requires : goal.utf8_literal-requires
utf8_literal-requires c = subst (λ bs. IsTrue (is_utf8 bs)) (sym (c.new-value.ensures ∙ c.in_ok-from_str.ensures.ok)) (is_utf8-from_IsUtf8 _ c.utf8.text)
