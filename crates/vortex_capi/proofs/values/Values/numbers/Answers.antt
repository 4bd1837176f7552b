use Rattle.std.proofs.Common.{◌≡◌, ◌++◌, ◌∷◌, [], Err, Ok, map, sym, ap, ◌∙◌}
use Rattle.std.proofs.lemmas.List.{map-append}
use Rattle.std.specs.Prelude.{option_map}
use Rattle.vortex_base.specs.declared.dtype.DType.TheVariants as types
use Rattle.vortex_capi.specs.Statuses.{at_row}
use Rattle.vortex_capi.specs.Values.{cell}
use Rattle.vortex_capi.proofs.ReadLemmas.{reads_on, stops}
use Rattle.vortex_capi.proofs.values.Values.numbers.Goals as goal

pub returns-in-Err : goal.returns-in-Err
returns-in-Err g c = λ not_memory.
    let v = c.args.self.now in
    let read = cell (types.Primitive g.N.Number.PTYPE c.args.nullability) v.values.now v.start v.ends.now v.nulls.now in
    stops at_row read c.loop-row.row v.rows (map (option_map g.N.Native.scalar) c.loop-row.numbers) c.in-Err.status c.loop-row.invariant c.in-Err.ensures c.loop-row-test.true
    ∙ ap Err (sym c.at_row.ensures)

pub loop-row-preserved : goal.loop-row-preserved
loop-row-preserved g c =
    let v = c.args.self.now in
    let optional = option_map g.N.Native.scalar in
    let read = cell (types.Primitive g.N.Number.PTYPE c.args.nullability) v.values.now v.start v.ends.now v.nulls.now in
    let more : map optional c.push.new.self ≡ map optional c.loop-row.numbers ++ optional c.in-Ok.number ∷ [] = ap (map optional) c.in_ok-push-in-Ok.ensures.pushed ∙ map-append optional c.loop-row.numbers (c.in-Ok.number ∷ []) in
    reads_on at_row read c.loop-row.row (map optional c.loop-row.numbers) (optional c.in-Ok.number) c.loop-row.invariant c.in-Ok.ensures
    ∙ ap Ok (sym more)
