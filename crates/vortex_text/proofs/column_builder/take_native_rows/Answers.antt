use Rattle.std.proofs.Common.{◌≡◌, ◌++◌, ◌∷◌, [], ◌∙◌, ap, arith, map, option_map}
use Rattle.std.proofs.lemmas.List.{map-append}
use Rattle.vortex_base.specs.Data.ArrayData.{short_value}
use Rattle.vortex_text.proofs.ManyRows.{only_one_more}
use Rattle.vortex_text.proofs.column_builder.take_native_rows.Goals as goal

pub loop-cell-preserved : goal.loop-cell-preserved
loop-cell-preserved g c =
    let f = option_map g.T.Native.scalar in
    let was = c.loop-cell.natives in
    let made : map f c.push.new.self ≡ map f was ++ short_value c.in-Some.cell ∷ [] = ap (map f) c.in-Ok.ensures.pushed ∙ map-append f was (c.in-Some-of_cell.native ∷ []) ∙ ap (λ v. map f was ++ v ∷ []) c.in-Some-of_cell.ensures in
    record {
      rows = only_one_more c.args.dtype (map f c.args.natives.now) (map f was) (map f c.push.new.self) (short_value c.in-Some.cell) c.args.text.now c.loop-cell.rest.now c.in-Some.after.now c.loop-cell.count c.loop-cell.invariant.rows c.in-Some.ensures.value made;
      bytes = omega (arith, c.in-Some.ensures.shorter, c.loop-cell.invariant.bytes);
    }
