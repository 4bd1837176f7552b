use Rattle.std.proofs.Common.{rules, arith, ap, sym, ◌∙◌, ◌^◌, ◌-◌, ◌≤◌, pos, FitsSigned, ℤ}
use Rattle.std.specs.Int.{w128}
use Rattle.std.specs.Prelude.{◌*ℤ◌}
use Rattle.std.proofs.lemmas.Int.{ints, to_z-of_z}
use Rattle.vortex_logical.specs.Points.{point_of, point_cmp}
use Rattle.vortex_logical.proofs.Placing.{finer, coarser, too_low, too_high, multiple_pos}
use Rattle.vortex_logical.proofs.place.place.Goals as goal

pub divided-requires : goal.divided-requires
divided-requires c =
    let f : FitsSigned w128 c.multiple-divisor.result = record { sfits = c.multiple-divisor.type_inv } in
    let p = multiple_pos (c.args.number.scale - c.args.step.scale) c.args.step.each c.requires.positive in
    let e = c.multiple-divisor.ensures in
    omega (arith, ints)

pub returns-then-number-step-clause-placed : goal.returns-then-number-step-clause-placed
returns-then-number-step-clause-placed c = λ n short.
    let f : FitsSigned w128 c.multiple-divisor.result = record { sfits = c.multiple-divisor.type_inv } in
    let g : FitsSigned w128 c.args.number.top = search rules in
    let e = simp to_z-of_z at c.divided.ensures in
    finer n c.args.number.top c.args.step.each c.args.number.scale c.args.step.scale c.if-number-step.true c.requires.positive
    ∙ sym (ap (point_cmp n) (e ∙ ap (point_of c.args.number.top) c.multiple-divisor.ensures))

pub returns-in-Some-clause-placed : goal.returns-in-Some-clause-placed
returns-in-Some-clause-placed c = λ n short.
    let f : FitsSigned w128 c.power_of_ten-factor.result = record { sfits = c.power_of_ten-factor.type_inv } in
    let g : FitsSigned w128 c.args.number.top = search rules in
    let h : FitsSigned w128 c.from.result = record { sfits = c.from.type_inv } in
    let i : FitsSigned w128 c.in-Some.scaled = search rules in
    let p = simp to_z-of_z at (c.in-Some.ensures.1) in
    let e = simp to_z-of_z at c.divided-in-Some.ensures in
    let l : c.args.number.scale ≤ c.args.step.scale = omega arith in
    coarser n c.args.number.top c.args.step.each c.args.number.scale c.args.step.scale l c.requires.positive
    ∙ sym (ap (point_cmp n) (e ∙ ap (λ (x : ℤ). point_of x c.from.result) (p ∙ ap (λ (x : ℤ). c.args.number.top *ℤ x) c.power_of_ten-factor.ensures)
    ∙ ap (point_of (c.args.number.top *ℤ pos (10 ^ (c.args.step.scale - c.args.number.scale)))) c.from.ensures))

pub returns-in-None-clause-placed : goal.returns-in-None-clause-placed
returns-in-None-clause-placed c = λ n short.
    let f : FitsSigned w128 c.power_of_ten-factor.result = record { sfits = c.power_of_ten-factor.type_inv } in
    let g : FitsSigned w128 c.args.number.top = search rules in
    let p = simp to_z-of_z at c.in-None.ensures in
    let q = simp c.power_of_ten-factor.ensures at p in
    let l : c.args.number.scale ≤ c.args.step.scale = omega arith in
    let t = simp to_z-of_z at c.if-number-lt0.true in
    too_low n c.args.number.top c.args.step.each c.args.number.scale c.args.step.scale l c.requires.positive short (grind (arith, ints)) q

pub returns-in-None-2-clause-placed : goal.returns-in-None-2-clause-placed
returns-in-None-2-clause-placed c = λ n short.
    let f : FitsSigned w128 c.power_of_ten-factor.result = record { sfits = c.power_of_ten-factor.type_inv } in
    let g : FitsSigned w128 c.args.number.top = search rules in
    let p = simp to_z-of_z at c.in-None.ensures in
    let q = simp c.power_of_ten-factor.ensures at p in
    let l : c.args.number.scale ≤ c.args.step.scale = omega arith in
    let t = simp to_z-of_z at c.if-number-lt0.false in
    too_high n c.args.number.top c.args.step.each c.args.number.scale c.args.step.scale l c.requires.positive short (grind (arith, ints)) q
