use Rattle.std.proofs.Common.{◌≡◌, ◌<◌, Some, ap, arith, length, refl, sym, ◌∙◌}
use Rattle.std.proofs.lemmas.Option.{slice_get-get_or}
use Rattle.std.specs.Prelude.{slice_get, slice_set}
use Rattle.vortex_zone_map.proofs.LinkLemmas.{column_left_out, linked_before, none_left_out, slot_there}
use Rattle.vortex_zone_map.specs.StatValues.{read_stat}
use Rattle.vortex_zone_map.specs.Tables.{slot}
use Rattle.vortex_zone_map.proofs.links.Links.link.Goals as goal

pub returns-in-Some-clause-linked : goal.returns-in-Some-clause-linked
returns-in-Some-clause-linked c = λ heads at is.
    let l = c.args.self.now in
    let h = c.args.head.now in
    let t = c.in-Some.stat in
    let first = c.index.result.now in
    let tells : read_stat h.aggregate ≡ Some t = ap read_stat (sym c.aggregate.ensures) ∙ sym c.in-Some.ensures in
    let own : c.slot-own.result ≡ slot h.source t = c.slot-own.ensures ∙ ap (λ i. slot i t) c.source-in-Some.ensures in
    let source = c.source.ensures in
    let there = slot_there h.source c.args.columns t (omega (arith, source, c.if-source-columns.false)) in
    let within : c.slot-own.result < length l.firsts.items = omega (arith, own, there, c.requires.wide) in
    let was : slice_get l.firsts.items (slot h.source t) ≡ Some first = ap (slice_get l.firsts.items) (sym own) ∙ slice_get-get_or l.firsts.items c.slot-own.result first within ∙ ap Some (sym c.index.ensures) in
    linked_before heads c.args.place h t first l _ at tells was refl (ap (λ k. slice_set l.firsts.items k c.args.place) own) is

pub returns-in_default-clause-linked : goal.returns-in_default-clause-linked
returns-in_default-clause-linked c = λ heads at is. none_left_out heads c.args.place c.args.head.now c.args.self.now at (ap read_stat (sym c.aggregate.ensures) ∙ sym c.in_default.ensures) is

pub returns-then-source-columns-clause-linked : goal.returns-then-source-columns-clause-linked
returns-then-source-columns-clause-linked c = λ heads at is.
    let source = c.source.ensures in
    column_left_out heads c.args.place c.args.columns c.args.head.now c.args.self.now at (omega (arith, source, c.if-source-columns.true)) c.requires.wide is
