-- The expression that a text is, its chains joined in halves.
use Rattle.std.specs.Prelude.{◌≡◌, ◌<◌, ℕ, Option, Some}
use Rattle.vortex_expr.specs.Trees.Tree.{Tree, Place}
use Rattle.vortex_normal.specs.Balanced.{depth}
use Rattle.vortex_capi.specs.Nesting.Halves.{halved}

-- the expression that was wanted, its chains joined in halves
abbrev pub IsHalvedOf : Option (Tree Place) → Tree Place → Type 0
IsHalvedOf wanted b = (e : Tree Place) × (wanted ≡ Some e) × (b ≡ halved e)

-- its chains joined in halves, it has more levels than these
abbrev pub IsDeeper : (levels : ℕ) → Option (Tree Place) → Type 0
IsDeeper levels wanted = (e : Tree Place) → wanted ≡ Some e → levels < depth (halved e)
