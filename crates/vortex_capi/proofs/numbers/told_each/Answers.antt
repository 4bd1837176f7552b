use Rattle.std.proofs.Common.{◌≡◌, ◌+◌, ◌++◌, [], ◌∷◌, Ok, Some, ap, ap₂, arith, length, map, subst, sym, ◌∙◌}
use Rattle.std.specs.Prelude.{option_map, slice_index}
use Rattle.vortex_base.proofs.Data.NativeLemmas.{optionals-append}
use Rattle.vortex_base.specs.Data.ArrayData.{cell_values}
use Rattle.vortex_base.specs.Data.PrimitiveArray.{optionals}
use Rattle.vortex_capi.specs.MapCells.{seen, told_cells}
use Rattle.vortex_capi.proofs.NumberLemmas.{told_on}
use Rattle.vortex_capi.proofs.numbers.told_each.Goals as goal

pub loop-place-preserved : goal.loop-place-preserved
loop-place-preserved g c =
    let l = c.loop-place in
    let number = seen g.N.Number.pvalue c.in_ok-number.number in
    let told = c.kept-told.result in
    let long : length l.numbers.items ≡ length l.validity.items = omega (arith, l.numbers.ok.0, l.validity.ok.0, l.invariant.len, l.invariant.validity_len) in
    let more : optionals c.push_reserved.new.self.items c.push_reserved-in-loop-place.new.self.items ≡ optionals l.numbers.items l.validity.items ++ c.told_number.result ∷ [] =
    ap₂ optionals c.push_reserved.ensures.items c.push_reserved-in-loop-place.ensures.items ∙ optionals-append l.numbers.items (told.0 ∷ []) l.validity.items (told.1 ∷ []) long ∙ ap (λ o. optionals l.numbers.items l.validity.items ++ o ∷ []) c.kept-told.ensures in
    record {
      told = λ rows. told_on g.N.Native.scalar c.args.aggregate c.args.source.now rows c.args.from l.place (optionals l.numbers.items l.validity.items) (optionals c.push_reserved.new.self.items c.push_reserved-in-loop-place.new.self.items) c.told_number.result number more
          c.in_ok-number.ensures.read (c.told_number.ensures (slice_index rows (c.args.from + l.place))) (l.invariant.told rows);
      len = omega (arith, c.push_reserved.ensures.len, l.invariant.len);
      room = c.push_reserved.ensures.capacity ∙ l.invariant.room;
      validity_len = omega (arith, c.push_reserved-in-loop-place.ensures.len, l.invariant.validity_len);
      validity_room = c.push_reserved-in-loop-place.ensures.capacity ∙ l.invariant.validity_room;
    }

pub from_vecs-requires : goal.from_vecs-requires
from_vecs-requires g c = c.loop-place.invariant.len ∙ sym c.loop-place.invariant.validity_len

pub returns : goal.returns
returns g c = λ rows.
    let l = c.loop-place in
    let cells = cell_values c.into_cells.result in
    let all : map (option_map g.N.Native.scalar) (optionals l.numbers.items l.validity.items) ≡ cells =
    sym (c.into_cells.ensures.values ∙ ap (map (option_map g.N.Native.scalar)) c.from_vecs.ensures) in
    let end : l.place ≡ c.args.count = omega arith in
    subst (λ n. told_cells c.args.aggregate (Some c.args.source.now) rows c.args.from n ≡ Ok cells) end (l.invariant.told rows ∙ ap Ok all)
