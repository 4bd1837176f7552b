-- A code of a pruning predicate's value, by which proofs tell values apart.
use Rattle.std.specs.Coded.{Coded, code_by, coded_option, coded×}
use Rattle.std.specs.Prelude.{Option, refl}
use Rattle.vortex_expr.specs.Trees.Tree.{Tree, Place}
use Rattle.vortex_expr.specs.Trees.TreeCode.{place_code, tree_code}
use Rattle.vortex_predicates.specs.Pruning.{Pruning}

abbrev pub pruning_code : Coded Pruning
pruning_code =
    code_by ((Tree Place × Option (Tree Place)) × Option (Tree Place)) (coded× (coded× (tree_code place_code) (coded_option (tree_code place_code))) (coded_option (tree_code place_code)))
    (λ x. ((x.predicate, x.falsifier), x.satisfier)) (λ p. record { predicate = p.0.0; falsifier = p.0.1; satisfier = p.1 }) (λ _. refl)
