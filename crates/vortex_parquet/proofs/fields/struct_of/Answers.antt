use Rattle.std.proofs.Common.{◌≡◌, ◌++◌, ◌∷◌, ◌∙◌, [], length, refl, Ok, Some, None}
use Rattle.std.proofs.lemmas.Result.{err_from_is_err_and}
use Rattle.std.proofs.lemmas.List.{map_push}
use Rattle.vortex_parquet.specs.Compact.{head_at}
use Rattle.vortex_parquet.specs.Fields.{depth, field_view, field_views, struct_of}
use Rattle.vortex_parquet.specs.Skip.{field_data, skip_at, struct_at}
use Rattle.vortex_parquet.proofs.Loops.{fields_start, fields_goes, fields_stop, fields_bad_head, fields_bad, fields_short}
use Rattle.vortex_parquet.proofs.fields.struct_of.Goals as goal

pub loop-init : goal.loop-init
loop-init c = rw c.new-fields.ensures.items (fields_start (skip_at depth) c.args.bytes.now)

pub returns-in_err-head : goal.returns-in_err-head
unfolding struct_of
returns-in_err-head c =
    let p = err_from_is_err_and c.from_residual.result c.from_residual.ensures.1 in
    let s = skip_at depth in
    let e = c.in_err-head.field-0.0 in
    rw (p.1, p.2) (fields_bad_head e s (field_views c.loop.fields.items) (length c.args.bytes.now) c.loop.counter c.loop.last c.loop.rest.now (struct_at s c.args.bytes.now) c.loop-test.true c.in_err-head.ensures c.loop.invariant)

pub returns-in_default : goal.returns-in_default
unfolding struct_of
returns-in_default c =
    let s = skip_at depth in
    let h : head_at c.loop.last c.loop.rest.now ≡ Ok (None, c.in_ok-head.from.now) = c.in_ok-head.ensures ∙ rw c.in_default.is refl in
    fields_stop s (field_views c.loop.fields.items) (length c.args.bytes.now) c.loop.counter c.loop.last c.loop.rest.now c.in_ok-head.from.now (struct_at s c.args.bytes.now) c.loop-test.true h c.loop.invariant

pub returns-in_err-rest : goal.returns-in_err-rest
unfolding struct_of
returns-in_err-rest c =
    let p = err_from_is_err_and c.from_residual-in_err-rest.result c.from_residual-in_err-rest.ensures.1 in
    let s = skip_at depth in
    let e = c.in_err-rest.field-0.0 in
    let h : head_at c.loop.last c.loop.rest.now ≡ Ok (Some c.in-Some.head, c.in_ok-head.from.now) = c.in_ok-head.ensures ∙ rw c.in-Some.is refl in
    rw (p.1, p.2) (fields_bad e s (field_views c.loop.fields.items) (length c.args.bytes.now) c.loop.counter c.loop.last c.loop.rest.now c.in-Some.head c.in_ok-head.from.now (struct_at s c.args.bytes.now) c.loop-test.true h c.in_err-rest.ensures c.loop.invariant)

pub loop-preserved : goal.loop-preserved
loop-preserved c =
    let s = skip_at depth in
    let h : head_at c.loop.last c.loop.rest.now ≡ Ok (Some c.in-Some.head, c.in_ok-head.from.now) = c.in_ok-head.ensures ∙ rw c.in-Some.is refl in
    let e : field_views c.push.new.self.items ≡ field_views c.loop.fields.items ++ field_data c.in-Some.head c.in_ok-head.from.now ∷ [] = rw c.in_ok-push.ensures.items (map_push field_view c.loop.fields.items (record { id = c.in-Some.head.id; kind = c.in-Some.head.kind; from = c.in_ok-head.from })) in
    rw e (fields_goes s (field_views c.loop.fields.items) (length c.args.bytes.now) c.loop.counter c.loop.last c.loop.rest.now c.in-Some.head c.in_ok-head.from.now c.in_ok-rest.rest.now (struct_at s c.args.bytes.now) c.loop-test.true h c.in_ok-rest.ensures c.loop.invariant)

pub returns : goal.returns
unfolding struct_of
returns c = fields_short (skip_at depth) (field_views c.loop.fields.items) (length c.args.bytes.now) c.loop.counter c.loop.last c.loop.rest.now (struct_at (skip_at depth) c.args.bytes.now) c.loop-test.false c.loop.invariant
