use Rattle.std.proofs.Common.{◌≡◌, Bool, true, false, List, ap, sym, ◌∙◌}
use Rattle.vortex_base.specs.Data.ArrayData.{short_value}
use Rattle.vortex_base.specs.declared.array_data.PrimitiveScalar.{PrimitiveScalar}
use Rattle.vortex_base.specs.declared.scalar_value.ScalarValue.{ScalarValue}
use Rattle.vortex_zone_map.proofs.ShortLemmas.{kept_as, truth_told, value_told}
use Rattle.vortex_zone_map.specs.Kept.{formed}
use Rattle.vortex_zone_map.specs.StatValues.{told_value}
use Rattle.vortex_zone_map.specs.declared.stored_value.ValueTag.{ValueTag}
use Rattle.vortex_zone_map.specs.declared.stored_value.ValueTag.TheVariants as form
use Rattle.vortex_zone_map.proofs.short.short_told.Goals as goal
use Rattle.vortex_zone_map.proofs.short.short_told.Goals.{in-Exact, in-Inexact}

exactly : (var_len_values : List ScalarValue) (b : Bool) (f : ValueTag) (cell : PrimitiveScalar) → b ≡ true → f ≡ form.Exact → kept_as b (short_value cell) ≡ formed var_len_values f cell
exactly var_len_values b f cell e is = ap (λ x. kept_as x (short_value cell)) e ∙ sym (ap (λ x. formed var_len_values x cell) is)

inexactly : (var_len_values : List ScalarValue) (b : Bool) (f : ValueTag) (cell : PrimitiveScalar) → b ≡ false → f ≡ form.Inexact → kept_as b (short_value cell) ≡ formed var_len_values f cell
inexactly var_len_values b f cell e is = ap (λ x. kept_as x (short_value cell)) e ∙ sym (ap (λ x. formed var_len_values x cell) is)

pub returns-in-Value : goal.returns-in-Value
returns-in-Value c = λ var_len_values.
    let b = c.match-kept.is_exact in
    let cell = c.args.kept.cell in
    let same : kept_as b (short_value cell) ≡ formed var_len_values c.args.kept.form cell =
    elim c.match-kept.branch [ in-Exact w ↦ exactly var_len_values b c.args.kept.form cell w.is_exact-is w.in-Exact.is | in-Inexact w ↦ inexactly var_len_values b c.args.kept.form cell w.is_exact-is w.in-Inexact.is ] in
    value_told c.args.aggregate b c.count_in.result c.args.rows c.of.result c.of.ensures (short_value cell) c.count_in.ensures.value c.in-Value.is ∙
    ap (λ p. told_value c.args.aggregate p c.args.rows) same

pub returns-in-Truth : goal.returns-in-Truth
returns-in-Truth c = λ var_len_values.
    let b = c.match-kept.is_exact in
    let cell = c.args.kept.cell in
    let same : kept_as b (short_value cell) ≡ formed var_len_values c.args.kept.form cell =
    elim c.match-kept.branch [ in-Exact w ↦ exactly var_len_values b c.args.kept.form cell w.is_exact-is w.in-Exact.is | in-Inexact w ↦ inexactly var_len_values b c.args.kept.form cell w.is_exact-is w.in-Inexact.is ] in
    truth_told c.args.aggregate b c.count_in.result c.args.rows c.of.result c.of.ensures (short_value cell) c.in-Truth.truth c.count_in.ensures.value c.count_in.ensures.null c.in-Truth.is ∙
    ap (λ p. told_value c.args.aggregate p c.args.rows) same
