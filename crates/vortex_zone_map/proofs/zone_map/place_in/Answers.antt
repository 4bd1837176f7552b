use Rattle.std.proofs.Common.{◌+◌, Some, ap, arith, length, sym, ◌∙◌}
use Rattle.std.specs.Prelude.{slice_get}
use Rattle.vortex_zone_map.proofs.ZoneMaps.ZonePlaces.{none_offset, none_past, none_typed, place_within, read_past, read_start, some_place, start_within}
use Rattle.vortex_zone_map.proofs.zone_map.place_in.Goals as goal

pub dtype-declared-requires : goal.dtype-declared-requires
dtype-declared-requires c = start_within c.args.scope.now c.args.starts.now c.args.place c.in-Some.start.now c.requires.started (read_start c.args.starts.now c.args.place c.in-Some.start.now _ c.in-Some.ensures.lookup.0 c.in-Some.ensures.lookup.1)

pub returns-in-None : goal.returns-in-None
returns-in-None c = none_past c.args.scope.now c.args.place c.args.aggregate c.args.dtype (read_past c.args.scope.now c.args.starts.now c.args.place c.requires.started c.in-None.ensures.lookup.0)

pub returns-then-not-eq_ignore_nullability : goal.returns-then-not-eq_ignore_nullability
returns-then-not-eq_ignore_nullability c =
    none_typed c.args.scope.now c.args.place c.dtype-declared.result c.in-Some.start.now c.args.aggregate c.args.dtype c.dtype-declared.ensures
    (ap (λ l. slice_get l c.args.place) (sym c.requires.started) ∙ read_start c.args.starts.now c.args.place c.in-Some.start.now _ c.in-Some.ensures.lookup.0 c.in-Some.ensures.lookup.1)
    (sym c.eq_ignore_nullability.ensures ∙ c.if-not-eq_ignore_nullability.true)

pub returns-in-None-offset : goal.returns-in-None-offset
returns-in-None-offset c =
    none_offset c.args.scope.now c.args.place c.dtype-declared.result c.in-Some.start.now c.args.aggregate c.args.dtype c.dtype-declared.ensures
    (ap (λ l. slice_get l c.args.place) (sym c.requires.started) ∙ read_start c.args.starts.now c.args.place c.in-Some.start.now _ c.in-Some.ensures.lookup.0 c.in-Some.ensures.lookup.1)
    (sym c.eq_ignore_nullability.ensures ∙ c.if-not-eq_ignore_nullability.false) (sym c.in-None-offset.ensures)

pub overflow_add-result : goal.overflow_add-result
overflow_add-result c =
    let within = place_within c.args.scope.now c.args.place c.dtype-declared.result c.in-Some.start.now c.args.aggregate c.args.dtype c.dtype-declared.ensures
    (ap (λ l. slice_get l c.args.place) (sym c.requires.started) ∙ read_start c.args.starts.now c.args.place c.in-Some.start.now _ c.in-Some.ensures.lookup.0 c.in-Some.ensures.lookup.1)
    c.in-Some-offset.offset (sym c.eq_ignore_nullability.ensures ∙ c.if-not-eq_ignore_nullability.false) (sym c.in-Some-offset.ensures) in
    let long = c.len-columns.ensures.value ∙ ap length (c.scope.ensures.value ∙ c.requires.tabled) in
    let fits = c.len-columns.type_inv in
    omega (arith, within, long, fits)

pub returns-in-Some-offset : goal.returns-in-Some-offset
returns-in-Some-offset c =
    ap (λ t. Some (c.in-Some.start.now + c.in-Some-offset.offset, t)) c.zone_dtype.ensures ∙
    some_place c.args.scope.now c.args.place c.dtype-declared.result c.in-Some.start.now c.args.aggregate c.args.dtype c.dtype-declared.ensures
    (ap (λ l. slice_get l c.args.place) (sym c.requires.started) ∙ read_start c.args.starts.now c.args.place c.in-Some.start.now _ c.in-Some.ensures.lookup.0 c.in-Some.ensures.lookup.1)
    c.in-Some-offset.offset (sym c.eq_ignore_nullability.ensures ∙ c.if-not-eq_ignore_nullability.false) (sym c.in-Some-offset.ensures)
