use Rattle.std.proofs.Common.{◌++◌, ◌∷◌, [], Some, ◌∙◌, ap, map}
use Rattle.std.proofs.lemmas.List.{map-append}
use Rattle.vortex_base.specs.Data.ArrayData.{bytes_value}
use Rattle.vortex_base.specs.declared.scalar_value.ScalarValue.TheVariants as value
use Rattle.vortex_text.proofs.FirstRows.{value_leaves}
use Rattle.vortex_text.proofs.column_builder.take_bytes.Goals as goal

pub returns-in-Ok : goal.returns-in-Ok
returns-in-Ok c =
    let bytes = c.plain_bytes.new.bytes.items in
    let old = c.args.blobs.now in
    let begins = rw c.in-Ok-Some.field-0-is at c.in-Ok-Some.ensures.value in
    let shorter = rw c.in-Ok-Some.field-0-is at c.in-Ok-Some.ensures.shorter in
    record {
      taken = (
        shorter,
        (
          Some (value.Binary bytes),
          rw (value_leaves c.args.dtype c.args.text.now c.in-Ok-Some.rest.now (Some (value.Binary bytes)) begins) begins,
          ap (map bytes_value) c.in-Ok.ensures.pushed ∙ map-append bytes_value old (Some c.as_slice.result.now ∷ []) ∙ ap (λ b. map bytes_value old ++ Some (value.Binary b) ∷ []) c.as_slice.ensures.value,
        ),
      );
    }
