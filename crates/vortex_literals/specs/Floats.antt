-- The bits of floats.
use Rattle.std.specs.Prelude.{ℕ, to_bits, if◌then◌else◌}
use Rattle.std.specs.Float.Ieee.{Float, Format, is_nan}

-- the bits of a float, and of NaN those of one
abbrev pub float_bits : Format → (nan : ℕ) → Float → ℕ
float_bits f nan x = if is_nan x then nan else to_bits f x

-- the NaN of 64 bits that stands for all
abbrev pub nan64 : ℕ
nan64 = 9_221_120_237_041_090_560
