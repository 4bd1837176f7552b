use Rattle.std.proofs.Common.{ℕ, length-drop, sym, ◌∙◌, inl, inr, arith}
use Rattle.vortex_syntax.proofs.PairLemmas.{pairs_push, pairs_stop}
use Rattle.vortex_syntax.proofs.value.read_pairs.Goals as goal

pub pairs-preserved : goal.pairs-preserved
pairs-preserved c =
    record {
      pairs = rw c.in_ok-push.ensures.items (pairs_push c.args.text.now c.pairs.bytes.items c.pairs.rest.now c.in-Some.byte c.pairs.invariant.pairs (omega arith) (sym c.byte_of.ensures ∙ c.in-Some.is));
      shorter = omega (arith, length-drop {A = ℕ});
    }

pub returns-in_default-byte_of-clause-stops : goal.returns-in_default-byte_of-clause-stops
returns-in_default-byte_of-clause-stops c some =
    pairs_stop c.args.text.now c.pairs.bytes.items c.pairs.rest.now c.pairs.invariant.pairs (inr (sym c.byte_of.ensures ∙ c.in_default-byte_of.is)) some

pub returns-clause-stops : goal.returns-clause-stops
returns-clause-stops c some =
    pairs_stop c.args.text.now c.pairs.bytes.items c.pairs.rest.now c.pairs.invariant.pairs (inl (omega arith)) some
