use Rattle.std.proofs.Common.{ap, map}
use Rattle.std.proofs.lemmas.Result.{IfOk-weaker}
use Rattle.vortex_examples.proofs.known.scan_by_known.Goals as goal
use Rattle.vortex_examples.specs.KnownParts.{known_faithful, known_faultless, known_honest}

pub returns : goal.returns
returns g c = record {
  selected = λ known.
      IfOk-weaker c.scan.result _ _ (λ scan h. h (known_faithful c.args.parts.now c.args.told.now) (known_honest c.args.parts.now c.args.told.now known)) c.scan.ensures.selected;
  memory = λ p none. c.scan.ensures.refused.memory p (ap (map _) none) (known_faithful c.args.parts.now c.args.told.now) (known_faultless c.args.told.now);
  not_predicate = c.scan.ensures.refused.not_predicate;
}
