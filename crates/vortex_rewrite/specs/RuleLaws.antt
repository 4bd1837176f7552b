-- What an author of a rule may rest on: what facts say of a row, when a proof is true, and when an expression is over a chunk.
use Rattle.std.specs.Prelude.{◌≡◌, ◌<◌, ◌⊎◌, ℕ, true, false, List, Some, IsOk, IsTrue, Ok, is_none}
use Rattle.std.specs.List.{AllByRecursion}
use Rattle.vortex_base.specs.declared.aggregate.AggregateFnRef.{AggregateFnRef}
use Rattle.vortex_base.specs.declared.aggregate.AggregateFnRef.TheVariants.{Max, Min, NullCount, AllNull, AllNonNull}
use Rattle.vortex_base.specs.declared.dtype.DType.{DType}
use Rattle.vortex_expr.specs.declared.like.LikeOptions.{LikeOptions}
use Rattle.vortex_base.specs.declared.scalar_value.ScalarValue.{ScalarValue}
use Rattle.vortex_base.specs.declared.scalar_value.ScalarValue.TheVariants as value
use Rattle.vortex_expr.specs.declared.scalar_fn.BetweenOptions.{BetweenOptions}
use Rattle.vortex_expr.specs.declared.scalar_fn.Operator.{Operator}
use Rattle.vortex_expr.specs.declared.scalar_fn.Operator.TheVariants.{And, Or}
use Rattle.vortex_base.specs.Data.Columns.{ChunkData, ColumnData, row_count as rows_of, row_of}
use Rattle.vortex_base.specs.Data.Types.{as_nullable}
use Rattle.vortex_base.specs.Data.Values.{value_cmp}
use Rattle.vortex_expr.specs.Meanings.Meaning.{meaning}
use Rattle.vortex_expr.specs.Meanings.Typing.{type_of}
use Rattle.vortex_expr.specs.Trees.Tree.{Tree, Place, binary, between, like, stat}
use Rattle.vortex_stats.specs.Bounds.Order.{AtMost}
use Rattle.vortex_stats.specs.Sets.Claims.{count_value}
use Rattle.vortex_rewrite.specs.Facts.{IsHonest}
use Rattle.vortex_rewrite.specs.Rewriting.Falsifiers.{comparison_falsifier, comparison_satisfier, halves, table_falsifiers, table_satisfiers}
use Rattle.vortex_rewrite.specs.Rewriting.Lawful.{IsOver, IsSoundFalsifier, IsSoundSatisfier}
use Rattle.vortex_rewrite.specs.Rewriting.Proof.{Assignment, proves}

-- what the answers to placeholders say of the value of an input on one row
pub record HoldAt (A : Assignment) (cs : List ColumnData) (i : ℕ) : Type 0 where
  pub greatest : (x : Tree Place) (v w : ScalarValue) → A Max x ≡ Some v → meaning x (row_of i cs) (rows_of cs) ≡ Some w → AtMost value_cmp w v
  pub least : (x : Tree Place) (v w : ScalarValue) → A Min x ≡ Some v → meaning x (row_of i cs) (rows_of cs) ≡ Some w → AtMost value_cmp v w
  pub no_nulls : (x : Tree Place) → A NullCount x ≡ Some (count_value 0) → is_none (meaning x (row_of i cs) (rows_of cs)) ≡ false
  pub only_nulls : (x : Tree Place) → A NullCount x ≡ Some (count_value (rows_of cs)) → is_none (meaning x (row_of i cs) (rows_of cs)) ≡ true
  pub none_null : (x : Tree Place) → A AllNonNull x ≡ Some (value.Bool true) → is_none (meaning x (row_of i cs) (rows_of cs)) ≡ false
  pub every_null : (x : Tree Place) → A AllNull x ≡ Some (value.Bool true) → is_none (meaning x (row_of i cs) (rows_of cs)) ≡ true

-- honest answers say what is so of each row
abbrev pub FactsHoldAtRows : Type 0
FactsHoldAtRows = (A : Assignment) (cs : List ColumnData) (i : ℕ) → IsHonest A cs → i < rows_of cs → HoldAt A cs i

-- of two proofs joined by OR one is true where they are
abbrev pub OneOfProofsIsTrue : Type 0
OneOfProofsIsTrue = (a b : Tree Place) (A : Assignment) (n : ℕ) → IsTrue (proves (binary Or a b) A n) → IsTrue (proves a A n) ⊎ IsTrue (proves b A n)

-- and of two joined by AND both
abbrev pub BothProofsAreTrue : Type 0
BothProofsAreTrue = (a b : Tree Place) (A : Assignment) (n : ℕ) → IsTrue (proves (binary And a b) A n) → IsTrue (proves a A n) × IsTrue (proves b A n)

-- what the built-in tables have for a comparison is right
abbrev pub ComparisonsAreSound : Type 0
ComparisonsAreSound = (o : Operator) (x y e : Tree Place) →
    (comparison_falsifier o x y ≡ Some e → IsSoundFalsifier (binary o x y) e) × (comparison_satisfier o x y ≡ Some e → IsSoundSatisfier (binary o x y) e)

-- and so is each proof that they have for another node
abbrev pub TablesAreSound : Type 0
TablesAreSound = (p : Tree Place) → AllByRecursion (IsSoundFalsifier p) (table_falsifiers p) × AllByRecursion (IsSoundSatisfier p) (table_satisfiers p)

-- the operands of a node over a chunk are over it, and so are the comparisons that a BETWEEN stands for
pub record PartsAreOver : Type 0 where
  pub operands : (o : Operator) (x y : Tree Place) (k : ChunkData) → IsOver (binary o x y) k → IsOver x k × IsOver y k
  pub text : (o : LikeOptions) (x y : Tree Place) (k : ChunkData) → IsOver (like o x y) k → IsOver x k
  pub halves : (o : BetweenOptions) (x l u : Tree Place) (k : ChunkData) → IsOver (between o x l u) k → IsOver (halves o x l u) k

-- a node that has a type is over a chunk where its operands are
abbrev pub WholesAreOver : Type 0
WholesAreOver = (o : Operator) (x y : Tree Place) (k : ChunkData) → IsOk (type_of (binary o x y)) → IsOver x k → IsOver y k → IsOver (binary o x y) k

-- the type of a placeholder has null
abbrev pub PlaceholdersAreNullable : Type 0
PlaceholdersAreNullable = (f : AggregateFnRef) (x : Tree Place) (t : DType) → type_of (stat f x) ≡ Ok t → as_nullable t ≡ t
