use Rattle.std.proofs.Common.{suc, drop, sym, ap, ◌∙◌}
use Rattle.std.specs.Prelude.{Ok, option_map}
use Rattle.vortex_sql.specs.Readings as spec
use Rattle.vortex_sql.proofs.Members.{member_fails, next_member}
use Rattle.vortex_sql.proofs.reading.members.Goals as goal

pub returns-in-Err : goal.returns-in-Err
returns-in-Err c = λ q.
    let s = c.args.schema.now in
    let x = c.args.x.now in
    let before = option_map (λ v. v.items) c.loop-y.members in
    let rest = drop (suc c.loop-y.y-index) c.args.among.now in
    member_fails s x c.y-item.result before rest c.in-Err.e (c.in-Err.ensures q)
    ∙ ap (λ zs. spec.members_from s x (Ok before) zs) (sym (next_member c.args.among.now c.loop-y.y-index c.y-item.result c.loop-y-test.true c.y-item.is))
    ∙ c.loop-y.invariant
