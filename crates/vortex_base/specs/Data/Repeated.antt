-- A value, or null, that stands at every place of an array.
use Rattle.std.specs.Prelude.{ℕ}
use Rattle.vortex_base.specs.Data.Scalars.{Constant}

pub record Repeated : Type 0 where
  pub scalar : Constant
  pub len : ℕ
