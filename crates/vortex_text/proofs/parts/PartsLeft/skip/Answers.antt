use Rattle.std.proofs.Common.{◌≡◌, ◌<◌, ◌+◌, ◌^◌, ap, drop, sym, ◌∙◌, arith}
use Rattle.std.proofs.lemmas.List.{drop-drop}
use Rattle.std.specs.Prelude.{sum}
use Rattle.vortex_prune.specs.Scanning.RangeScans.{counts_of, range_parts}
use Rattle.vortex_text.proofs.LeftLemmas.{counts_take, left_long, ranges_drop}
use Rattle.vortex_text.proofs.parts.PartsLeft.skip.Goals as goal

pub rows_from-requires-clause-within : goal.rows_from-requires-clause-within
rows_from-requires-clause-within c =
    let s = c.self.inside in
    omega (arith, c.requires, c.self.invariant.there, left_long s.chunk.now s.log.now.zones s.place s.row c.args.self.now c.self.view_is)

pub rows_from-requires-clause-ends : goal.rows_from-requires-clause-ends
rows_from-requires-clause-ends c =
    let s = c.self.inside in
    let small : c.len-zones.result < 2 ^ 64 = search in
    omega (arith, small, c.len-zones.ensures, c.requires, c.self.invariant.there, left_long s.chunk.now s.log.now.zones s.place s.row c.args.self.now c.self.view_is)

pub rows_from-requires-clause-few : goal.rows_from-requires-clause-few
rows_from-requires-clause-few c =
    let s = c.self.inside in
    let small : c.rows-rows.result < 2 ^ 64 = search in
    omega (arith, small, c.rows-rows.ensures.value, c.self.invariant.within, counts_take c.args.count (drop s.place s.log.now.zones))

pub overflow_add-self : goal.overflow_add-self
overflow_add-self c =
    let s = c.self.inside in
    let small : c.rows-rows.result < 2 ^ 64 = search in
    omega (arith, small, c.rows-rows.ensures.value, c.rows_from.ensures, c.self.invariant.within, counts_take c.args.count (drop s.place s.log.now.zones))

pub overflow_add-self-2 : goal.overflow_add-self-2
overflow_add-self-2 c =
    let s = c.self.inside in
    let small : c.len-zones.result < 2 ^ 64 = search in
    omega (arith, small, c.len-zones.ensures, c.requires, c.self.invariant.there, left_long s.chunk.now s.log.now.zones s.place s.row c.args.self.now c.self.view_is)

pub invariant_of-self : goal.invariant_of-self
invariant_of-self c =
    let s = c.self.inside in
    let zones = s.log.now.zones in
    let left = counts_take c.args.count (drop s.place zones) in
    let behind : drop c.args.count (drop s.place zones) ≡ drop (s.place + c.args.count) zones = drop-drop c.args.count s.place zones in
    record {
      there = omega (arith, c.requires, c.self.invariant.there, left_long s.chunk.now zones s.place s.row c.args.self.now c.self.view_is);
      within = omega (arith, left, ap (λ zs. sum (counts_of zs)) behind, c.rows_from.ensures, c.self.invariant.within);
    }

pub returns : goal.returns
returns c =
    let s = c.self.inside in
    let zones = s.log.now.zones in
    let k = s.chunk.now in
    ap (λ zs. range_parts k (s.row + c.rows_from.result) zs) (sym (drop-drop c.args.count s.place zones))
    ∙ ap (λ n. range_parts k (s.row + n) (drop c.args.count (drop s.place zones))) c.rows_from.ensures
    ∙ sym (ranges_drop k s.row c.args.count (drop s.place zones))
    ∙ ap (drop c.args.count) c.self.view_is
