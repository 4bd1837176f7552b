use Rattle.std.proofs.Common.{None, refl}
use Rattle.vortex_base.specs.Data.ArrayData.{cell_values}
use Rattle.vortex_text.proofs.FirstRows.{taken_of, value_leaves}
use Rattle.vortex_text.proofs.column_builder.ColumnBuilder.take_null.Goals as goal

pub returns : goal.returns
returns c =
    let text = c.args.text.now in
    let rest = c.in_ok-rest.rest.now in
    let t = c.self.inside.dtype in
    let begins = c.in_ok-rest.ensures.value in
    record {
      taken = (c.in_ok-rest.ensures.shorter, rw (value_leaves t text rest None begins) (taken_of _ _ t (cell_values c.self.inside.cells) (cell_values c.push.new.self) text rest c.self.view_is refl (None, begins, c.in-Ok.ensures.pushed)));
    }
