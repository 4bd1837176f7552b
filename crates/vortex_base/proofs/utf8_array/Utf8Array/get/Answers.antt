use Rattle.std.proofs.lemmas.Str.{IsUtf8-from_is_utf8}
use Rattle.vortex_base.proofs.Data.TextLemmas.{text-at}
use Rattle.vortex_base.proofs.utf8_array.Utf8Array.get.Goals as goal

pub from_utf8_unchecked-requires : goal.from_utf8_unchecked-requires
from_utf8_unchecked-requires c = IsUtf8-from_is_utf8 c.in-Some.bytes.now (text-at c.self.inside.blobs c.args.i c.in-Some.bytes.now c.self.invariant c.in-Some.ensures)
