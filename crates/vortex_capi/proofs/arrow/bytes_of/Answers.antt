use Rattle.vortex_capi.specs.ArrowArrays.{byte_of}
use Rattle.vortex_capi.proofs.ArrowLemmas.{one_more}
use Rattle.vortex_capi.proofs.arrow.bytes_of.Goals as goal

pub loop-i-preserved : goal.loop-i-preserved
loop-i-preserved c =
    let a = c.args in
    one_more (byte_of a.set a.clear a.bits.now) a.from c.loop-i.i c.loop-i.bytes.items c.push.new.self.items c.byte_of.result c.loop-i.invariant c.byte_of.ensures c.in_ok-push.ensures.items
