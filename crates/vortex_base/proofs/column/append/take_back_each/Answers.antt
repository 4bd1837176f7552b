use Rattle.std.proofs.Common.{◌≡◌, ◌∙◌, ◌+◌, ◌-◌, ◌<◌, ap, sym, arith, length, get_or, set, take}
use Rattle.std.proofs.lemmas.List.{length-set}
use Rattle.vortex_base.proofs.Data.AppendLemmas.{last_appended, last_taken_back, length-all_appended, none_appended}
use Rattle.vortex_base.specs.Data.Columns.{all_appended, appended}
use Rattle.vortex_base.proofs.column.append.take_back_each.Goals as goal

-- the column before the place is one to which the one beside it was appended
pub take_back-requires : goal.take_back-requires
take_back-requires c =
    let cs = c.requires.added.0 in
    let ds = c.args.others.now in
    let i = c.loop-place.place - 1 in
    let d = c.index-columns-place.result in
    let whole = c.loop-place.invariant.added cs c.requires.added.1 in
    let next : i + 1 ≡ c.loop-place.place = omega (arith, c.loop-place-test.true) in
    let long = length-all_appended cs (take c.args.count ds) in
    let same = ap length c.requires.added.1 in
    let within : i < length cs = omega (arith, next, long, same, c.requires.columns, c.loop-place.auto.place) in
    let beside : i < length ds = omega (arith, next, c.requires.others, c.loop-place.auto.place) in (
      get_or cs i d,
      ap (λ o. appended (get_or cs i d) o) c.index-others-place.is ∙ sym (last_appended cs ds i d c.index-others-place.result within beside)
          ∙ ap (λ n. get_or (all_appended cs (take n ds)) i d) next ∙ ap (λ zs. get_or zs i d) whole,
    )

pub loop-place-preserved : goal.loop-place-preserved
loop-place-preserved c =
    let ds = c.args.others.now in
    let i = c.loop-place.place - 1 in
    let d = c.index-columns-place.result in
    let o = c.index-others-place.result in
    let next : i + 1 ≡ c.loop-place.place = omega (arith, c.loop-place-test.true) in record {
      added = λ cs e.
          let whole = ap (λ n. all_appended cs (take n ds)) next ∙ c.loop-place.invariant.added cs e in
          let long = length-all_appended cs (take c.args.count ds) in
          let same = ap length e in
          let within : i < length cs = omega (arith, next, long, same, c.requires.columns, c.loop-place.auto.place) in
          let beside : i < length ds = omega (arith, next, c.requires.others, c.loop-place.auto.place) in
          let was = ap (λ x. appended (get_or cs i d) x) c.index-others-place.is ∙ sym (last_appended cs ds i d o within beside) ∙ ap (λ zs. get_or zs i d) whole in
          sym (last_taken_back cs ds i d o within beside) ∙ ap (λ zs. set zs i (get_or cs i d)) whole
          ∙ ap (λ x. set c.loop-place.columns i x) (sym (c.take_back.ensures (get_or cs i d) was));
      long = length-set c.loop-place.columns i c.take_back.new.self ∙ c.loop-place.invariant.long;
    }

pub returns : goal.returns
returns c cs e =
    let none : c.loop-place.place ≡ 0 = omega (arith, c.loop-place-test.false) in
    sym (c.loop-place.invariant.added cs e) ∙ ap (λ n. all_appended cs (take n c.args.others.now)) none ∙ none_appended cs
