use Rattle.std.proofs.Common.{◌≡◌, ◌<◌, ◌∙◌, false, true, ap, sym, arith, length, map, option_map, slice_get}
use Rattle.std.proofs.lemmas.List.{length-map}
use Rattle.vortex_base.proofs.Data.CellLemmas.{fit_more, fit_not}
use Rattle.vortex_base.specs.Data.Columns.{value_at}
use Rattle.vortex_base.specs.Data.Scalars.{is_optional_value}
use Rattle.vortex_base.proofs.array_data.all_natives_fit.Goals as goal

pub returns-then-not-fits : goal.returns-then-not-fits
returns-then-not-fits g c =
    let f = option_map g.T.Native.scalar in
    let vs = map f c.args.natives.now in
    let within : c.loop-i.i < length vs = omega (arith, c.loop-i-test.true, c.len-i-end.ensures, length-map c.args.natives.now f) in
    let here : is_optional_value (value_at (slice_get vs c.loop-i.i)) c.args.dtype.now ≡ false =
    ap (λ v. is_optional_value v c.args.dtype.now) (sym c.lend_native.ensures) ∙ sym c.if-not-fits.ensures in
    sym (fit_not c.args.dtype.now vs c.loop-i.i within here)

pub loop-i-preserved : goal.loop-i-preserved
loop-i-preserved g c =
    let f = option_map g.T.Native.scalar in
    let vs = map f c.args.natives.now in
    let within : c.loop-i.i < length vs = omega (arith, c.loop-i-test.true, c.len-i-end.ensures, length-map c.args.natives.now f) in
    let here : is_optional_value (value_at (slice_get vs c.loop-i.i)) c.args.dtype.now ≡ true =
    ap (λ v. is_optional_value v c.args.dtype.now) (sym c.lend_native.ensures) ∙ sym c.if-not-fits.ensures in
    fit_more c.args.dtype.now vs c.loop-i.i within c.loop-i.invariant here
