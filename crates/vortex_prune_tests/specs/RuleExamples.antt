-- The proofs of a rule of the tests that rests on the type that a column is declared of, and that it is lawful.
use Rattle.std.specs.Prelude.{◌≡◌, ℕ, zero, suc, Bool, true, false, List, [], ◌∷◌, Option, Some, None, is_none, if◌then◌else◌, slice_get, refl}
use Rattle.std.proofs.Common.{ap, sym, ◌∙◌}
use Rattle.vortex_base.proofs.Data.RowLemmas.{row_of-IsRow}
use Rattle.vortex_base.specs.declared.dtype.DType.{DType}
use Rattle.vortex_base.specs.declared.scalar_value.ScalarValue.{ScalarValue}
use Rattle.vortex_base.specs.Data.Columns.{ColumnData, cell_value, has_types, is_row, row_of, value_at}
use Rattle.vortex_base.specs.Data.Exact.{both_true}
use Rattle.vortex_expr.specs.Meanings.Fitting.{is_of_type}
use Rattle.vortex_base.specs.Data.Scalars.{is_optional_value}
use Rattle.vortex_base.specs.Data.Scopes.{Named}
use Rattle.vortex_expr.specs.Trees.Tree.{Tree, Place, column, is_null}
use Rattle.vortex_base.specs.Data.Types.{dtype_eq_is_exact, is_nullable}
use Rattle.vortex_rewrite.specs.Rewriting.Lawful.{IsLawful, IsSoundFalsifier}
use Rattle.vortex_rewrite.specs.Rewriting.Falsifiers.{bool_literal}

-- no proof
abbrev pub no_proof : Tree Place → Option (Tree Place)
no_proof p = None

-- of a column that has no null no row is null
abbrev pub at_column : Tree Place → Option (Tree Place)
at_column (column c) = if is_nullable c.dtype then None else Some (bool_literal true)
at_column e = None

abbrev pub at_null_test : Tree Place → Option (Tree Place)
at_null_test (is_null x) = at_column x
at_null_test e = None

no_null : (v : Option ScalarValue) (s t : DType) → is_nullable t ≡ false → s ≡ t → is_optional_value v s ≡ true → is_none v ≡ false
no_null None s t h e k = let own : is_nullable s ≡ is_nullable t = ap is_nullable e in cc
no_null (Some v) s t h e k = refl

-- in a row of columns of the scope's types, a place whose type has no null holds a value
no_null_at : (t : DType) (ss : List Named) (cs : List ColumnData) (i j : ℕ) → is_nullable t ≡ false → has_types ss cs ≡ true → is_row (row_of i cs) ≡ true → is_of_type t (slice_get ss j) ≡ true
    → is_none (cell_value (slice_get (row_of i cs) j)) ≡ false
no_null_at t [] cs i j h typed row k = absurd cc
no_null_at t (s ∷ ss) [] i j h typed row k = absurd cc
no_null_at t (s ∷ ss) (c ∷ cs) i zero h typed row k =
    let same : c.dtype ≡ t = sym ((dtype_eq_is_exact s.1 c.dtype).0 (both_true _ _ typed).0) ∙ (dtype_eq_is_exact s.1 t).0 k in
    no_null (value_at (slice_get c.values i)) c.dtype t h same (both_true _ _ row).0
no_null_at t (s ∷ ss) (c ∷ cs) i (suc j) h typed row k = no_null_at t ss cs i j h (both_true _ _ typed).1 (both_true _ _ row).1 k

column_falsifies : (c : Place) (e : Tree Place) → is_nullable c.dtype ≡ false → IsSoundFalsifier (is_null (column c)) e
column_falsifies c e h k A chunk over honest t i within =
    let typed = (both_true _ _ (both_true _ _ (both_true _ _ chunk).1).1).0 in
    no_null_at c.dtype k.scope k.columns i c.index h typed (row_of-IsRow k i chunk within) over.over

declared_falsifies : (c : Place) (e : Tree Place) (b : Bool) → is_nullable c.dtype ≡ b → (if b then None else Some (bool_literal true)) ≡ Some e → IsSoundFalsifier (is_null (column c)) e
declared_falsifies c e true h is = absurd cc
declared_falsifies c e false h is = column_falsifies c e h

test_falsifies : (x e : Tree Place) → at_column x ≡ Some e → IsSoundFalsifier (is_null x) e
test_falsifies (column c) e h = declared_falsifies c e (is_nullable c.dtype) refl h
test_falsifies x e h = absurd cc

null_test_falsifies : (p e : Tree Place) → at_null_test p ≡ Some e → IsSoundFalsifier p e
null_test_falsifies (is_null x) e h = test_falsifies x e h
null_test_falsifies p e h = absurd cc

pub null_test_is_lawful : IsLawful at_null_test no_proof
null_test_is_lawful = record { falsifies = null_test_falsifies; satisfies = λ p e h. absurd cc }
