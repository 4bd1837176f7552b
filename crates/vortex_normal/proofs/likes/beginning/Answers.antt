use Rattle.std.proofs.Common.{◌≡◌, true}
use Rattle.std.specs.Prelude.{encode_utf8_all}
use Rattle.std.specs.Str.{chars}
use Rattle.vortex_expr.specs.Patterns.Like.{items}
use Rattle.vortex_expr.specs.Patterns.Prefix.{PatternData, literal_prefix}
use Rattle.vortex_normal.specs.Pushed.{is_beginning}
use Rattle.vortex_normal.proofs.Readings.{IsRead, from_first, from_front, from_neither, no_signs_read, ok_option, read_none, read_some}
use Rattle.vortex_normal.proofs.likes.beginning.Goals as goal

pub returns-in-Some-2 : goal.returns-in-Some-2
returns-in-Some-2 c =
    from_first (chars c.args.pattern.now) (chars c.in-Some.front.now) (chars c.in-Some.first.now) c.in-Some.ensures.split c.in-Some-2.escaped c.requires
    (read_some _ _ _ _ c.in-Some-2.is c.in_ok-escaped-in-Some.ensures)

pub returns-in-None-2 : goal.returns-in-None-2
returns-in-None-2 c =
    let cs = chars c.args.pattern.now in
    let front = chars c.in-Some.front.now in
    let first = chars c.in-Some.first.now in
    let wild = read_none _ _ _ c.in-None-2.is c.in_ok-escaped-in-Some.ensures in
    ok_option c.read_exact-in-None-2.result _ _ (λ (p : PatternData). IsRead p (items front)) (λ (p : PatternData). (is_beginning (items cs) ≡ true) × (p.prefix ≡ encode_utf8_all (literal_prefix (items cs))))
    (from_neither cs front first c.in-Some.ensures.split wild)
    (λ p h. from_front cs front first c.in-Some.ensures.split p c.requires wild h)
    c.read_exact-in-None-2.ensures

pub returns-in-None : goal.returns-in-None
returns-in-None c = no_signs_read (chars c.args.pattern.now) c.in-None.ensures.split
