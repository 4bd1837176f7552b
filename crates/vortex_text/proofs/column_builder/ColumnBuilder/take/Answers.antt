use Rattle.std.proofs.Common.{◌≡◌, ap, get_or, subst}
use Rattle.vortex_base.specs.Data.ArrayData.{short_value}
use Rattle.vortex_base.specs.Data.Columns.{ColumnData}
use Rattle.vortex_base.specs.declared.dtype.DType.{DType}
use Rattle.vortex_syntax.specs.Plain.{BeginsValue}
use Rattle.vortex_text.proofs.FirstRows.{taken_as}
use Rattle.vortex_text.proofs.column_builder.ColumnBuilder.take.Goals as goal

pub returns-in-32 : goal.returns-in-32
returns-in-32 c =
    let line = c.args.line.now in
    let rest = c.in-Some.rest.now in
    let value = short_value c.in-Some.cell in
    let space : get_or rest 0 0 ≡ 32 = search in
    let begins : BeginsValue c.args.self.now.dtype line value rest = subst (λ (t : DType). BeginsValue t line value rest) (ap (λ (k : ColumnData). k.dtype) c.self.view_is) c.in-Some.ensures.value in
    taken_as c.args.self.now c.push_cell.new.self line rest value begins space c.in_ok-push_cell.ensures
