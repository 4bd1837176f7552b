use Rattle.std.proofs.Common.{◌≡◌, Some, ap, arith, length, sym, ◌∙◌}
use Rattle.vortex_prune.proofs.ZoneMaps.ZoneMarks.{marked-told, marked_unset, written_back}
use Rattle.vortex_prune.specs.Scanning.Marks.{is_told, is_true_at, marked}
use Rattle.vortex_prune.proofs.scan.marks.block_passing.Goals as goal

pub keep_true-requires : goal.keep_true-requires
keep_true-requires c =
    let long : length c.deref_mut.result.now ≡ length c.args.marks.now = ap length (c.deref_mut.ensures.value ∙ c.in_ok-told.ensures.items) in
    omega (arith, long, c.requires, c.zones_of.ensures.counted)

pub returns-then-not-is_any-clause-told : goal.returns-then-not-is_any-clause-told
returns-then-not-is_any-clause-told c = c.in_ok-told.ensures.items ∙ marked_unset (is_told (Some c.args.bound.now) c.args.map.now) c.args.from c.args.marks.now (sym c.is_any.ensures ∙ c.if-not-is_any.true)

pub returns-clause-told : goal.returns-clause-told
returns-clause-told c =
    let m = c.args.map.now in
    let e = c.args.bound.now in
    let from = c.args.from in
    let xs = c.deref_mut.result.now in
    let zones = c.zones_of.result in
    let told : c.keep_true.new.marks ≡ marked (is_told (Some e) m) from xs =
    c.keep_true.ensures ∙ ap (λ k. marked (is_true_at e k.columns zones.counts) from xs) c.zones_of.ensures.chunk ∙ marked-told m e zones.counts from xs c.zones_of.ensures.counts in
    written_back (is_told (Some e) m) from _ xs c.keep_true.new.marks c.args.marks.now _ told (c.deref_mut.ensures.value ∙ c.in_ok-told.ensures.items) c.in_ok-told.ensures.len
