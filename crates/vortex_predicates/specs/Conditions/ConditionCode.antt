-- A code of a proved condition's value, by which proofs tell values apart.
use Rattle.std.specs.Coded.{Coded, code_by, coded_list, coded_option, coded_ℕ, coded×}
use Rattle.std.specs.Prelude.{List, Option, refl}
use Rattle.vortex_base.specs.Data.Scopes.{Named}
use Rattle.vortex_base.specs.contracts.dtype.DType as dtype
use Rattle.vortex_expr.specs.Trees.Tree.{Tree, Place}
use Rattle.vortex_expr.specs.Trees.TreeCode.{place_code, tree_code}
use Rattle.vortex_sql.specs.contracts.syntax.tree.Condition as condition
use Rattle.vortex_sql.specs.declared.syntax.tree.Condition.{Condition}
use Rattle.vortex_sql.specs.contracts.cells.Cells as cells
use Rattle.vortex_sql.specs.declared.cells.Cells.{Cells}
use Rattle.vortex_predicates.specs.Conditions.Conditions.{ProvedCondition}

abbrev scope_code : Coded (List Named)
scope_code = coded_list (coded× (coded_list coded_ℕ) dtype.the_row.coded)

abbrev cells_code : Coded (List Cells)
cells_code = coded_list cells.the_row.coded

abbrev proof_code : Coded (Option (Tree Place))
proof_code = coded_option (tree_code place_code)

abbrev pub condition_code : Coded ProvedCondition
condition_code =
    code_by ((((List Named × List Cells) × Condition) × Tree Place) × (Option (Tree Place) × Option (Tree Place))) (coded× (coded× (coded× (coded× scope_code cells_code) condition.the_row.coded) (tree_code place_code)) (coded× proof_code proof_code))
    (λ x. ((((x.scope, x.cells), x.condition), x.predicate), (x.falsifier, x.satisfier)))
    (λ p. record { scope = p.0.0.0.0; cells = p.0.0.0.1; condition = p.0.0.1; predicate = p.0.1; falsifier = p.1.0; satisfier = p.1.1 }) (λ _. refl)
