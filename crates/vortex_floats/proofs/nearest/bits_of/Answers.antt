use Rattle.std.proofs.Common.{rules, T, ◌≡◌, arith, sym, ◌∙◌, true, refl, ap}
use Rattle.std.specs.Float.Ieee.{Float, binary32, is_nan, fits, nan, inf, fin, of_bits}
use lib.Ieee.Bits.{of_bits-to_bits}
use Rattle.vortex_logical.proofs.FloatKeys.{nan_is}
use Rattle.vortex_floats.proofs.nearest.bits_of.Goals as goal

one_nan : (x : Float) → is_nan x ≡ true → nan ≡ x
unfolding is_nan
one_nan nan h = refl
one_nan (inf s) h = cc
one_nan (fin s m e) h = cc

pub returns-then-is_nan-clause-float : goal.returns-then-is_nan-clause-float
returns-then-is_nan-clause-float c = nan_is binary32 0x7FC0_0000 (omega arith) ∙ one_nan c.args.number (sym c.is_nan.ensures.value ∙ c.if-is_nan.true)

pub returns-clause-float : goal.returns-clause-float
returns-clause-float c = let f : T (fits binary32 c.args.number) = search rules in ap (of_bits binary32) c.from.ensures ∙ of_bits-to_bits binary32 c.args.number f
