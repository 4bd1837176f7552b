use Rattle.std.proofs.Common.{length, Some, None, sym, arith}
use Rattle.std.proofs.Math.Seq.{drop-length}
use Rattle.std.proofs.lemmas.Str.{IsCharBoundary-end}
use Rattle.memchr.specs.Find.{FindsNeedle}
use Rattle.vortex_expr.proofs.Patterns.ChanceLemmas.{FindsNeedle-same, OccursAt-boundary}
use Rattle.vortex_expr.proofs.like.chance.from_run.Goals as goal

pub range_from-requires : goal.range_from-requires
range_from-requires c =
    let found : FindsNeedle c.args.text.now c.args.run.now 0 (Some c.in-Some.place) =
    FindsNeedle-same _ _ _ _ _ _ c.as_bytes.ensures.value c.as_bytes-2.ensures.value c.in-Some.is c.find.ensures in
    λ _. OccursAt-boundary _ _ _ c.utf8.run c.requires found.1

pub returns-in-Some : goal.returns-in-Some
returns-in-Some c =
    let found : FindsNeedle c.args.text.now c.args.run.now 0 (Some c.in-Some.place) =
    FindsNeedle-same _ _ _ _ _ _ c.as_bytes.ensures.value c.as_bytes-2.ensures.value c.in-Some.is c.find.ensures in
    record {
      text = c.utf8.text;
      place = c.in-Some.place;
      is = c.range_from.ensures.value;
      boundary = OccursAt-boundary _ _ _ c.utf8.run c.requires found.1;
      none = found.0.before;
    }

pub returns-in-None : goal.returns-in-None
returns-in-None c =
    let found : FindsNeedle c.args.text.now c.args.run.now 0 None =
    FindsNeedle-same _ _ _ _ _ _ c.as_bytes.ensures.value c.as_bytes-2.ensures.value c.in-None.is c.find.ensures in
    record {
      text = c.utf8.text;
      place = length c.args.text.now;
      is = sym (drop-length c.args.text.now);
      boundary = IsCharBoundary-end c.args.text.now;
      none = λ k a b. found k a (omega arith);
    }
