use Rattle.std.proofs.Common.{◌≡◌, ◌<◌, ◌≤◌, arith, length, subst, take}
use Rattle.std.proofs.lemmas.List.{take_all, take_more_set}
use Rattle.vortex_capi.specs.MapCells.{TellsValues}
use Rattle.vortex_capi.proofs.NumberLemmas.{cells_of, number_more}
use Rattle.vortex_capi.proofs.numbers.put_exactly.Goals as goal

pub loop-place-preserved : goal.loop-place-preserved
loop-place-preserved g c =
    let l = c.loop-place in
    let n = c.standing.result in
    let room : l.place < length l.numbers = omega arith in
    let at : l.place < length c.args.numbers.now = omega arith in
    number_more g.N.Native.scalar c.args.source.now c.args.from l.place (take l.place l.numbers) _ n (g.N.Number.pvalue n) (take_more_set l.numbers l.place n room) (g.met.N.Number.kept n)
    (c.requires.exact l.place at) c.standing.ensures l.invariant

pub returns : goal.returns
returns g c =
    let l = c.loop-place in
    let all : length l.numbers ≤ l.place = omega arith in
    let end : l.place ≡ length c.args.numbers.now = omega arith in
    subst (λ n. TellsValues c.args.source.now c.args.from n (cells_of g.N.Native.scalar l.numbers)) end
    (subst (λ ns. TellsValues c.args.source.now c.args.from l.place (cells_of g.N.Native.scalar ns)) (take_all l.place l.numbers all) l.invariant)
