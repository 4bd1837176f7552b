use Rattle.std.proofs.Common.{◌∷◌, [], Some, ◌∙◌, ap, map}
use Rattle.std.proofs.lemmas.List.{map-append}
use Rattle.vortex_base.specs.Data.ArrayData.{text_value}
use Rattle.vortex_base.specs.declared.scalar_value.ScalarValue.TheVariants as value
use Rattle.vortex_text.proofs.FirstRows.{value_leaves}
use Rattle.vortex_text.proofs.column_builder.take_text.Goals as goal

pub returns-in-Ok : goal.returns-in-Ok
returns-in-Ok c =
    let quoted = c.in_ok-quoted.quoted.now in
    let begins = c.in_ok-quoted.ensures.value in
    record {
      taken = (c.in_ok-quoted.ensures.shorter, (Some (value.Utf8 quoted), rw (value_leaves c.args.dtype c.args.text.now c.in_ok-quoted.rest.now (Some (value.Utf8 quoted)) begins) begins, ap (map text_value) c.in-Ok.ensures.pushed ∙ map-append text_value c.args.texts.now (Some quoted ∷ [])));
    }
