-- What joining in halves keeps.
use Rattle.std.specs.Prelude.{◌≡◌, ◌≤◌, ◌+◌, ◌^◌, ℕ, Bool, List, Option, Some, None, Result, Ok, Err, length}
use Rattle.std.specs.List.{AllByRecursion}
use Rattle.vortex_normal.specs.Balanced.{depth}
use Rattle.vortex_base.specs.Data.Scalars.{Constant}
use Rattle.vortex_base.specs.Data.Scopes.{Named}
use Rattle.vortex_base.specs.declared.dtype.DType.{DType}
use Rattle.vortex_base.specs.declared.error.BaseError.{BaseError}
use Rattle.vortex_expr.specs.Meanings.Fitting.{fits_scope}
use Rattle.vortex_expr.specs.Meanings.Meaning.{can_evaluate, meaning}
use Rattle.vortex_expr.specs.Meanings.Typing.{type_of}
use Rattle.vortex_expr.specs.Trees.Tree.{Tree, Place, all_columns, is_plain}
use Rattle.vortex_rewrite.specs.Rewriting.Predicates.{is_predicate}
use Rattle.vortex_rewrite.specs.Rewriting.ReadOnce.{columns_of, has_disjoint_ands}
use Rattle.vortex_capi.specs.Nesting.Halves.{halved, joined}

-- the same value or null on every row
abbrev pub MeansTheSame : Type 0
MeansTheSame = (e : Tree Place) (row : List Constant) (n : ℕ) → meaning (halved e) row n ≡ meaning e row n

-- it evaluates where the expression does, and else has the same fault
abbrev pub EvaluatesTheSame : Type 0
EvaluatesTheSame = (e : Tree Place) (row : List Constant) → can_evaluate (halved e) row ≡ can_evaluate e row

-- the type, where the typing table has one
abbrev pub typing : Result DType BaseError → Option DType
typing (Ok t) = Some t
typing (Err fault) = None

-- the same type, or none where the expression has none; which fault is told first may differ
abbrev pub HasTheSameType : Type 0
HasTheSameType = (e : Tree Place) → typing (type_of (halved e)) ≡ typing (type_of e)

abbrev pub KeepsItsType : Type 0
KeepsItsType = (e : Tree Place) (t : DType) → type_of e ≡ Ok t → type_of (halved e) ≡ Ok t

abbrev pub IsTheSamePredicate : Type 0
IsTheSamePredicate = (e : Tree Place) → is_predicate (halved e) ≡ is_predicate e

-- a test passes at each column where it does at each of the expression
abbrev pub HasTheSameColumns : Type 0
HasTheSameColumns = (e : Tree Place) (test : Place → Bool) → all_columns test (halved e) ≡ all_columns test e

abbrev pub FitsTheSameScopes : Type 0
FitsTheSameScopes = (e : Tree Place) (scope : List Named) → fits_scope (halved e) scope ≡ fits_scope e scope

abbrev pub IsAsPlain : Type 0
IsAsPlain = (e : Tree Place) → is_plain (halved e) ≡ is_plain e

-- the same columns in the same order
abbrev pub HasTheSameColumnsInOrder : Type 0
HasTheSameColumnsInOrder = (e : Tree Place) → columns_of (halved e) ≡ columns_of e

-- bounds decide it exactly where they decide the expression
abbrev pub IsAsDecided : Type 0
IsAsDecided = (e : Tree Place) → has_disjoint_ands (halved e) ≡ has_disjoint_ands e

abbrev pub IsShallow : ℕ → Tree Place → Type 0
IsShallow d e = depth e ≤ d

-- a chain is deeper than its items by no more than the logarithm of their number, rounded up
abbrev pub ChainsAreShallow : Type 0
ChainsAreShallow = (w : Bool) (es : List (Tree Place)) (d k : ℕ) → length es ≤ 2 ^ k → AllByRecursion (IsShallow d) es → IsShallow (d + k) (joined w es)
