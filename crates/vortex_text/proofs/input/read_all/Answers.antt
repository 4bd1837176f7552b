use Rattle.std.proofs.Common.{◌<◌, ◌++◌, refl, ap, length, take, arith}
use Rattle.std.proofs.KnownBytes.{Consumes-trans}
use Rattle.vortex_text.proofs.InputLemmas.{all_read, piece_past}
use Rattle.vortex_text.proofs.StreamLemmas.{unfailed_more}
use Rattle.vortex_text.specs.Progress.{Progress}
use Rattle.vortex_text.proofs.input.read_all.Goals as goal

pub returns-then-count-eq0-clause-whole : goal.returns-then-count-eq0-clause-whole
returns-then-count-eq0-clause-whole g c =
    let (text, pushed, lost, same) = c.reads.invariant in
    let taken = ap (λ (p : Progress). p.taken) c.text.view_is in
    let room : 0 < length c.read_once.new.buf = omega (arith, c.read_once.auto.buf) in (
      text,
      record {
        pushed = pushed;
        short = omega (arith, pushed.taken, taken, c.text.invariant.short);
        whole = all_read _ _ _ text c.read_once.new.buf c.in-Ok.count c.if-count-eq0.true lost c.in-Ok.ensures.bytes.0 (c.in-Ok.ensures.bytes.1 c.if-count-eq0.true room);
      },
    )

pub reads-preserved : goal.reads-preserved
reads-preserved g c =
    let (text, pushed, lost, same) = c.reads.invariant in
    (text ++ take c.in-Ok.count c.read_once.new.buf, c.in-Ok-push.ensures.read text pushed, Consumes-trans _ _ _ _ _ lost c.in-Ok.ensures.bytes.0, unfailed_more _ _ _ same c.in-Ok.ensures.told)

pub returns-in-Err-TooLong-clause-too_long : goal.returns-in-Err-TooLong-clause-too_long
returns-in-Err-TooLong-clause-too_long g c = λ _.
    let (text, pushed, lost, same) = c.reads.invariant in
    let long = c.push.ensures.too_long.0 (rw (c.in-Err-TooLong.is, c.in-Err-TooLong.field-0-is) refl) in
    piece_past _ _ _ text (take c.in-Ok.count c.read_once.new.buf) lost c.in-Ok.ensures.bytes.0 (omega (arith, pushed.taken, long))
