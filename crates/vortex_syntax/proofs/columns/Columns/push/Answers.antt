use Rattle.std.proofs.Common.{ap, length, sym, ◌∙◌}
use Rattle.vortex_syntax.proofs.PlaceLemmas.{distinct_more, one_more}
use Rattle.vortex_syntax.proofs.columns.Columns.push.Goals as goal

pub invariant_of-self-in-Ok : goal.invariant_of-self-in-Ok
invariant_of-self-in-Ok c =
    let held = c.self.inside.named.items in
    rw c.in_ok-push.ensures.items (record {
      index = one_more held c.args.name c.args.dtype (length c.as_slice-place.result.now) c.self.inside.places c.insert.new.self c.self.invariant.index (rw c.self.view_is c.requires)
          (ap length (c.as_slice-place.ensures ∙ sym c.self.view_is)) c.in_ok-key.key.items (c.in_ok-key.ensures.items ∙ c.as_bytes.ensures.value) c.in-Ok.ensures.updates;
      distinct = distinct_more held c.args.name c.args.dtype c.self.invariant.distinct (rw c.self.view_is c.requires);
    })
