-- What the rules of a user have to keep, and such a rule as plain data.
use Rattle.std.specs.Prelude.{◌≡◌, ◌<◌, ℕ, Bool, true, false, not as not_b, ◌&&◌, List, Option, Some, IsOk, IsTrue}
use Rattle.vortex_expr.specs.declared.scalar_fn.ScalarFnId.{ScalarFnId}
use Rattle.vortex_base.specs.Data.Columns.{ChunkData, IsChunk, row_of, row_count as rows_of}
use Rattle.vortex_expr.specs.Meanings.Fitting.{fits_scope}
use Rattle.vortex_expr.specs.Meanings.Meaning.{satisfies}
use Rattle.vortex_base.specs.Data.Scopes.{Named}
use Rattle.vortex_expr.specs.Trees.Tree.{Tree, Place, has_placeholder}
use Rattle.vortex_expr.specs.Meanings.Typing.{type_of}
use Rattle.vortex_rewrite.specs.Facts.{IsHonest}
use Rattle.vortex_rewrite.specs.Rewriting.Proof.{Assignment, proves}

-- the expression has no placeholder, and each column's place and type are the scope's
abbrev pub is_of_scope : Tree Place → List Named → Bool
is_of_scope p scope = not_b (has_placeholder p) && fits_scope p scope

-- the expression has a type, and can be read on the chunk's rows: its columns are those of the chunk's scope, of the very types
pub record IsOver (p : Tree Place) (k : ChunkData) : Type 0 where
  pub typed : IsOk (type_of p)
  pub over : IsTrue (is_of_scope p k.scope)

abbrev pub NoRowSatisfies : Tree Place → ChunkData → Type 0
NoRowSatisfies p k = (i : ℕ) → i < rows_of k.columns → satisfies p (row_of i k.columns) (rows_of k.columns) ≡ false

abbrev pub EveryRowSatisfies : Tree Place → ChunkData → Type 0
EveryRowSatisfies p k = (i : ℕ) → i < rows_of k.columns → satisfies p (row_of i k.columns) (rows_of k.columns) ≡ true

-- a proof that is true under an assignment that is honest for a chunk means that no row satisfies the expression
abbrev pub IsSoundFalsifier : (p proof : Tree Place) → Type 0
IsSoundFalsifier p e = (k : ChunkData) (A : Assignment) → IsChunk k → IsOver p k → IsHonest A k.columns → IsTrue (proves e A (rows_of k.columns)) → NoRowSatisfies p k

-- and that every row does
abbrev pub IsSoundSatisfier : (p proof : Tree Place) → Type 0
IsSoundSatisfier p e = (k : ChunkData) (A : Assignment) → IsChunk k → IsOver p k → IsHonest A k.columns → IsTrue (proves e A (rows_of k.columns)) → EveryRowSatisfies p k

-- the proofs that a rule has are right
pub record IsLawful (falsifier satisfier : Tree Place → Option (Tree Place)) : Type 0 where
  pub falsifies : (p e : Tree Place) → falsifier p ≡ Some e → IsSoundFalsifier p e
  pub satisfies : (p e : Tree Place) → satisfier p ≡ Some e → IsSoundSatisfier p e

-- a rule of a user, as its interface names it: the function that it is asked for, its proofs, and the numbers of its faults
pub record OwnRule : Type 0 where
  pub id : ScalarFnId
  pub falsifier : Tree Place → Option (Tree Place)
  pub satisfier : Tree Place → Option (Tree Place)
  pub can_fault : ℕ → Bool
  pub is_lawful : IsLawful falsifier satisfier
