use Rattle.std.proofs.Common.{Some}
use Rattle.std.proofs.lemmas.Str.{is_utf8-from_IsUtf8}
use Rattle.vortex_base.proofs.Data.TextLemmas.{texts-push}
use Rattle.vortex_base.proofs.utf8_array.Utf8Array.push.Goals as goal

pub invariant_of-self : goal.invariant_of-self
invariant_of-self c = texts-push c.push.result (Some c.as_bytes.result.now) c.self.inside.blobs c.push.new.self c.self.invariant (is_utf8-from_IsUtf8 c.as_bytes.result.now c.as_bytes.ensures.utf8) c.push.ensures.pushed c.push.ensures.refused
