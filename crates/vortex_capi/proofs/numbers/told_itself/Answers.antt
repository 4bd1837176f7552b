use Rattle.std.proofs.Common.{Some, ap, sym, ◌∙◌}
use Rattle.vortex_base.specs.declared.scalar_value.ScalarValue.TheVariants as value
use Rattle.vortex_capi.proofs.NumberTold.{rows_aside, tells_no_truth}
use Rattle.vortex_zone_map.specs.StatValues.{told_value}
use Rattle.vortex_zone_map.specs.Told.{known_as, told_cell}
use Rattle.vortex_capi.proofs.numbers.told_itself.Goals as goal

pub returns-in-Value : goal.returns-in-Value
returns-in-Value g c = λ rows.
    let f = c.args.aggregate in
    let b = c.args.is_exact in
    let v = value.Primitive c.value.result in
    ap Some (g.met.N.Number.kept c.args.number) ∙ ap (λ p. Some (value.Primitive p)) (sym c.value.ensures) ∙ ap (told_cell v) (sym c.in-Value.is) ∙ c.told_of.ensures ∙
    rows_aside f (known_as b v) 0 rows c.requires ∙ ap (λ p. told_value f (known_as b (value.Primitive p)) rows) c.value.ensures

pub returns-in-Truth : goal.returns-in-Truth
returns-in-Truth g c = λ rows.
    let v = value.Primitive c.value.result in
    absurd (tells_no_truth c.args.aggregate c.args.is_exact c.value.result 0 c.in-Truth._truth c.requires (ap (told_cell v) (sym c.in-Truth.is) ∙ c.told_of.ensures))

pub returns-in-Nothing : goal.returns-in-Nothing
returns-in-Nothing g c = λ rows.
    let f = c.args.aggregate in
    let b = c.args.is_exact in
    let v = value.Primitive c.value.result in
    ap (told_cell v) (sym c.in-Nothing.is) ∙ c.told_of.ensures ∙ rows_aside f (known_as b v) 0 rows c.requires ∙ ap (λ p. told_value f (known_as b (value.Primitive p)) rows) c.value.ensures
