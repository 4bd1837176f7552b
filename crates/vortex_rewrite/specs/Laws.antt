-- What makes rewriting right, over the definitions alone.
use Rattle.std.specs.Prelude.{◌≡◌, Some, List, IsTrue}
use Rattle.vortex_expr.specs.Trees.Tree.{Tree, Place}
use Rattle.vortex_rewrite.specs.Rewriting.Lawful.{IsSoundFalsifier, IsSoundSatisfier, OwnRule}
use Rattle.vortex_rewrite.specs.Rewriting.Falsifiers.{falsifier, satisfier}
use Rattle.vortex_rewrite.specs.Rewriting.ReadOnce.{has_disjoint_ands, is_read_once}

-- a true falsifier under facts means that no row satisfies the predicate, whichever lawful rules a user adds
abbrev pub FalsifiersAreSound : Type 0
FalsifiersAreSound = (rules : List OwnRule) (p e : Tree Place) → falsifier rules p ≡ Some e → IsSoundFalsifier p e

-- and a true satisfier that every row does
abbrev pub SatisfiersAreSound : Type 0
SatisfiersAreSound = (rules : List OwnRule) (p e : Tree Place) → satisfier rules p ≡ Some e → IsSoundSatisfier p e

-- where no column occurs twice, none stands on both sides of an AND
abbrev pub ReadOnceIsApart : Type 0
ReadOnceIsApart = (p : Tree Place) → IsTrue (is_read_once p) → IsTrue (has_disjoint_ands p)
