use Rattle.std.proofs.Common.{◌≡◌, ◌+◌, ◌∷◌, ◌++◌, [], ap, arith, length, length-append}
use Rattle.std.specs.Str.{chars}
use Rattle.vortex_normal.proofs.Readings.{signs_begin, signs_go_on}
use Rattle.vortex_normal.proofs.likes.split_signs.Goals as goal

pub loop-before-init : goal.loop-before-init
loop-before-init c =
    (c.utf8.pattern, c.in_ok-front.ensures.utf8, signs_begin (chars c.args.pattern.now) (chars c.in_ok-front.front.now) c.in_ok-front.ensures.split)

pub loop-before-preserved : goal.loop-before-preserved
loop-before-preserved c = (
  c.loop-before.invariant.1,
  c.in-Some.ensures.utf8,
  signs_go_on (chars c.args.pattern.now) (chars c.loop-before.front.now) (chars c.loop-before.first.now) (chars c.in-Some.before.now) c.loop-before.invariant.2 c.in-Some.ensures.split,
)

pub loop-before-smaller : goal.loop-before-smaller
loop-before-smaller c =
    let whole : length (chars c.loop-before.front.now) ≡ length (chars c.in-Some.before.now ++ 37 ∷ []) = ap length c.in-Some.ensures.split in
    let parts : length (chars c.in-Some.before.now ++ 37 ∷ []) ≡ length (chars c.in-Some.before.now) + 1 = length-append (chars c.in-Some.before.now) (37 ∷ []) in
    omega arith
