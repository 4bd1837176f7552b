-- Witnesses of the clauses of the reader of nested expressions.
use Rattle.std.proofs.Common.{◌≡◌, ◌+◌, ◌<◌, ◌≤◌, ℕ, List, [], ◌∷◌, Result, Err, Ok, codes, length, refl, arith}
use Rattle.std.specs.List.{AllByRecursion}
use Rattle.std.specs.Prelude.{◌^◌, IsErrOf, None}
use Rattle.vortex_base.specs.Data.Scopes.{Named}
use Rattle.vortex_base.specs.declared.dtype.DType.{DType}
use Rattle.vortex_base.specs.declared.dtype.DType.TheVariants as dtype
use Rattle.vortex_base.specs.declared.error.BaseError.{BaseError}
use Rattle.vortex_base.specs.declared.types.Nullability.TheVariants.{Nullable}
use Rattle.vortex_base.specs.declared.types.PType.TheVariants as ptype
use Rattle.vortex_capi.proofs.Nesting.WorkedRows.{a}
use Rattle.vortex_capi.specs.Nesting.Laws.{IsShallow}
use Rattle.vortex_capi.specs.Nesting.Texts.{IsDeeper}
use Rattle.vortex_capi.specs.declared.nested.error.NestedError.{NestedError}
use Rattle.vortex_capi.specs.declared.nested.error.NestedError.TheVariants as error
use Rattle.vortex_expr.specs.Meanings.Typing.{type_of}
use Rattle.vortex_expr.specs.Trees.Tree.{Tree, Place, column, not}
use Rattle.vortex_zone_map.proofs.WorkedRows.Witnesses.{IsWitness}
use Rattle.vortex_syntax.specs.Expressions.{expression_of}
use Rattle.vortex_syntax.specs.Words.{words}

abbrev refused_as : NestedError → Result (Tree Place) NestedError
refused_as e = Err e

abbrev truths : List Named
truths = (codes "t", dtype.Bool Nullable) ∷ []

-- a text that is an expression is no bad one
pub nested_expression_bad : IsWitness (IsErrOf (refused_as error.Bad) error.Bad) (λ (text : List ℕ). expression_of truths (words text) ≡ None) (codes "col t")
nested_expression_bad = record { met = refl; refuted = λ h. absurd cc }

-- a NOT over a column has one level, so it isn't deeper than one
pub nested_expression_too_deep : IsWitness (IsErrOf (refused_as error.TooDeep) error.TooDeep) (λ (levels : ℕ). IsDeeper levels (expression_of truths (words (codes "not col t")))) 1
nested_expression_too_deep = record { met = refl; refuted = λ h. let deeper : 1 < 1 = h (not a) refl in absurd (omega (arith, deeper)) }

-- ---- chains that are joined in halves

abbrev typed : DType → Result DType BaseError
typed t = Ok t

number_is_no_truth : typed (dtype.Primitive ptype.I64 Nullable) ≡ typed (dtype.Bool Nullable) → ⊥
number_is_no_truth h = cc

-- a column of numbers has another type than one of truths
pub keeps_its_type : IsWitness (type_of a ≡ typed (dtype.Bool Nullable)) (λ (halves : Tree Place). type_of halves ≡ typed (dtype.Bool Nullable)) (column (record { index = 0; dtype = dtype.Primitive ptype.I64 Nullable }))
keeps_its_type = record { met = refl; refuted = number_is_no_truth }

-- two items are joined by one level, and not by two
pub chains_are_shallow : IsWitness ((length (a ∷ a ∷ []) ≤ 2 ^ 1) × AllByRecursion (IsShallow 0) (a ∷ a ∷ [])) (λ (chain : Tree Place). IsShallow (0 + 1) chain) (not (not a))
chains_are_shallow = record {
  met = (let two : 2 ≤ 2 = omega arith in two, (let none : 0 ≤ 0 = omega arith in none, (let none : 0 ≤ 0 = omega arith in none, tt)));
  refuted = λ h. let below : 2 ≤ 1 = h in absurd (omega (arith, below));
}
