-- What binding makes of an expression.
use Rattle.std.specs.Prelude.{◌≡◌, ◌⊎◌, ℕ, Bool, false, List, [], Option, Some, None, Result, Ok, IsTrue}
use Rattle.vortex_base.specs.declared.aggregate.AggregateFnRef.{AggregateFnRef}
use Rattle.vortex_base.specs.declared.dtype.DType.{DType}
use Rattle.vortex_base.specs.declared.error.BaseError.{BaseError}
use Rattle.vortex_base.specs.Data.Scalars.{Constant}
use Rattle.vortex_expr.specs.Trees.Tree.{Tree, Place, column, literal, binary, between, is_null, is_not_null, not, like, stat, row_count, has_bare_column, is_closed}
use Rattle.vortex_base.specs.Data.Types.{as_nullable, eq_ignore_nullability}
use Rattle.vortex_expr.specs.Meanings.Typing.{type_of, with_type}
use Rattle.vortex_stats.specs.declared.error.BinderFault.TheVariants.{Own}
use Rattle.vortex_stats.specs.declared.error.StatsError.{StatsError}
use Rattle.vortex_stats.specs.declared.error.StatsError.TheVariants.{Memory, Binder}
use Rattle.vortex_rewrite.specs.declared.hook_fault.HookFault.{HookFault}
use Rattle.vortex_rewrite.specs.declared.hook_fault.HookFault.TheVariants as fault
use Rattle.vortex_prune.specs.Binding.Binders.{BinderAnswer}
use Rattle.vortex_rewrite.specs.Causes.{Causes, no_causes}

-- the type, null being made one of its values
abbrev pub base_type : Tree Place → Result DType BaseError
base_type e = with_type (λ t. Ok (as_nullable t)) (type_of e)

-- the answer, or else something that may stand for a missing one
abbrev pub IsReplacement : (answer : Option (Tree Place)) → (IsMissing : Tree Place → Type 0) → Tree Place → Type 0
IsReplacement None IsMissing r = IsMissing r
IsReplacement (Some a) IsMissing r = r ≡ a

module _ (answer : BinderAnswer) (IsMissing : DType → Tree Place → Type 0) where
  -- what may stand for a placeholder: the answer to it, or else what may stand for a missing one, of the placeholder's type, nullability aside
  abbrev pub Replaces : AggregateFnRef → Tree Place → Tree Place → Type 0
  Replaces f x r = ((t : DType) → type_of (stat f x) ≡ Ok t → IsReplacement (answer f x t) (IsMissing t) r) × (base_type r ≡ base_type (stat f x))

  -- the answer to a placeholder, or what may stand for a missing one, is of another type, nullability aside
  abbrev pub IsWrong : AggregateFnRef → Tree Place → Type 0
  IsWrong f x =
      (t : DType) × (s : DType) × (r : Tree Place) ×
      (type_of (stat f x) ≡ Ok t) × IsReplacement (answer f x t) (IsMissing t) r × (type_of r ≡ Ok s) × (eq_ignore_nullability s t ≡ false)

-- each placeholder that is met from the top is replaced, and everything else is kept
module _ (R : AggregateFnRef → Tree Place → Tree Place → Type 0) where
  abbrev pub IsBinding : Tree Place → Tree Place → Type 0
  IsBinding (column c) e = e ≡ column c
  IsBinding (literal c) e = e ≡ literal c
  IsBinding (binary o l r) e = (l' : Tree Place) × (r' : Tree Place) × (e ≡ binary o l' r') × IsBinding l l' × IsBinding r r'
  IsBinding (between o x l u) e = (x' : Tree Place) × (l' : Tree Place) × (u' : Tree Place) × (e ≡ between o x' l' u') × IsBinding x x' × IsBinding l l' × IsBinding u u'
  IsBinding (is_null x) e = (x' : Tree Place) × (e ≡ is_null x') × IsBinding x x'
  IsBinding (is_not_null x) e = (x' : Tree Place) × (e ≡ is_not_null x') × IsBinding x x'
  IsBinding (not x) e = (x' : Tree Place) × (e ≡ not x') × IsBinding x x'
  IsBinding (like o x p) e = (x' : Tree Place) × (p' : Tree Place) × (e ≡ like o x' p') × IsBinding x x' × IsBinding p p'
  IsBinding (stat f x) e = R f x e
  IsBinding row_count e = e ≡ row_count

-- it is so of some placeholder that is met from the top
module _ (P : AggregateFnRef → Tree Place → Type 0) where
  abbrev pub SomeMet : Tree Place → Type 0
  SomeMet (column c) = ⊥
  SomeMet (literal c) = ⊥
  SomeMet (binary o l r) = SomeMet l ⊎ SomeMet r
  SomeMet (between o x l u) = SomeMet x ⊎ (SomeMet l ⊎ SomeMet u)
  SomeMet (is_null x) = SomeMet x
  SomeMet (is_not_null x) = SomeMet x
  SomeMet (not x) = SomeMet x
  SomeMet (like o x p) = SomeMet x ⊎ SomeMet p
  SomeMet (stat f x) = P f x
  SomeMet row_count = ⊥

-- what a binder may cause that is asked once: a fault that it names
abbrev pub hook_causes : (can_fault : ℕ → Bool) → Causes
hook_causes can_fault = record no_causes { binder = λ k. IsTrue (can_fault k) }

module _ (answer : BinderAnswer) (IsMissing : DType → Tree Place → Type 0) where
  -- what binding an expression may cause: at a placeholder that is met the binder faults with a number that it names, or answers by a wrong type
  abbrev pub binding_causes : (can_fault : ℕ → Bool) → Tree Place → Causes
  binding_causes can_fault e = record no_causes {
    binder = λ k. SomeMet (λ f x. IsTrue (can_fault k)) e;
    wrong_type = SomeMet (IsWrong answer IsMissing) e;
  }

  -- the expression is bound to one that is closed, or to one that isn't
  abbrev pub IsBoundTo : Tree Place → (closed : Bool) → Type 0
  IsBoundTo e closed = (r : Tree Place) × IsBinding (Replaces answer IsMissing) e r × (is_closed r ≡ closed)

-- a fault of a binder, as binding tells it
abbrev pub binder_error : HookFault → StatsError
binder_error (fault.Memory e) = Memory e
binder_error (fault.Own k) = Binder (Own k)

-- it is so over each row of statistics and each row count over which the binder is faithful
abbrev pub WhereFaithful : (is_faithful_over : List Constant → ℕ → Bool) → (List Constant → ℕ → Type 0) → Type 0
WhereFaithful is_faithful_over P = (row : List Constant) (n : ℕ) → IsTrue (is_faithful_over row n) → P row n

-- no column of the expression outside its placeholders has a value on the row: there is none, or the row is empty
abbrev pub HasNoColumnOn : Tree Place → List Constant → Type 0
HasNoColumnOn e row = (has_bare_column e ≡ false) ⊎ (row ≡ [])
