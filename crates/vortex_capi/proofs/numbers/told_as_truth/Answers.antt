use Rattle.std.proofs.Common.{ap, sym, ◌∙◌}
use Rattle.vortex_base.specs.declared.scalar_value.ScalarValue.TheVariants as value
use Rattle.vortex_capi.proofs.NumberTold.{tells_no_number}
use Rattle.vortex_zone_map.specs.Told.{told_cell}
use Rattle.vortex_capi.proofs.numbers.told_as_truth.Goals as goal

pub returns-in-Value : goal.returns-in-Value
returns-in-Value c =
    let v = value.Primitive c.args.number in
    absurd (tells_no_number c.args.aggregate c.args.is_exact c.args.number c.args.rows c.requires (ap (told_cell v) (sym c.in-Value.is) ∙ c.told_of.ensures))
