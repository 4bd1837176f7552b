use Rattle.std.proofs.Common.{rules, T, ◌≡◌, arith, sym, ◌∙◌, true, refl}
use Rattle.std.specs.Float.Ieee.{Float, binary64, is_nan, fits, nan, inf, fin}
use lib.Ieee.Bits.{of_bits-to_bits}
use Rattle.vortex_logical.proofs.FloatKeys.{nan_is}
use Rattle.vortex_literals.proofs.floats.bits_of.Goals as goal

one_nan : (x : Float) → is_nan x ≡ true → nan ≡ x
unfolding is_nan
one_nan nan h = refl
one_nan (inf s) h = cc
one_nan (fin s m e) h = cc

pub returns-then-is_nan-clause-float : goal.returns-then-is_nan-clause-float
returns-then-is_nan-clause-float c = nan_is binary64 0x7FF8_0000_0000_0000 (omega arith) ∙ one_nan c.args.number (sym c.is_nan.ensures.value ∙ c.if-is_nan.true)

pub returns-clause-float : goal.returns-clause-float
returns-clause-float c = let f : T (fits binary64 c.args.number) = search rules in of_bits-to_bits binary64 c.args.number f
