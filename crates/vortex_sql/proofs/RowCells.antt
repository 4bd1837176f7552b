-- What stands in the cells of a row with what is told of the leaves that aren't read.
use Rattle.std.proofs.Common.{◌≡◌, ℕ, zero, suc, ◌+◌, Bool, true, List, [], ◌∷◌, ◌++◌, length, refl, ◌∙◌, ap, subst, arith, append_assoc, length-append}
use Rattle.std.specs.Prelude.{Option, Some, None, map, slice_get}
use Rattle.vortex_base.specs.declared.dtype.DType.{DType}
use Rattle.vortex_base.specs.declared.scalar_value.ScalarValue.{ScalarValue}
use Rattle.vortex_base.specs.Data.Exact.{both_true}
use Rattle.vortex_base.specs.Data.Scalars.{Constant, is_optional_value}
use Rattle.vortex_base.specs.Data.Scopes.{Named, place_of}
use Rattle.vortex_base.specs.Data.Columns.{cell_value}
use Rattle.vortex_expr.specs.Meanings.Binding.{find_column, found, place_at}
use Rattle.vortex_expr.specs.Trees.Tree.{Place}
use Rattle.vortex_sql.specs.declared.syntax.tree.Leaf.{Leaf}
use Rattle.vortex_sql.specs.Lowering.{IsRowOf, told_cell, with_told}

-- ---- what is told stands behind the row, in order

abbrev pub Told : List Constant → ℕ → (Leaf → Option Bool) → List Leaf → Type 0
Told row k f [] = Unit {0}
Told row k f (l ∷ ls) = (slice_get row k ≡ Some (told_cell (f l))) × Told row (suc k) f ls

told-along : (row : List Constant) (f : Leaf → Option Bool) (ls : List Leaf) (j k : ℕ) → j ≡ k → Told row j f ls → Told row k f ls
told-along row f ls j k e h = let P : ℕ → Type 0 = λ n. Told row n f ls in subst P e h

pub told-left : (row : List Constant) (k : ℕ) (f : Leaf → Option Bool) (ls ms : List Leaf) → Told row k f (ls ++ ms) → Told row k f ls
told-left row k f [] ms h = tt
told-left row k f (l ∷ ls) ms h = (h.0, told-left row (suc k) f ls ms h.1)

pub told-right : (row : List Constant) (k : ℕ) (f : Leaf → Option Bool) (ls ms : List Leaf) → Told row k f (ls ++ ms) → Told row (k + length ls) f ms
told-right row k f [] ms h = told-along row f ms k (k + 0) (omega arith) h
told-right row k f (l ∷ ls) ms h = told-along row f ms (suc k + length ls) (k + suc (length ls)) (omega arith) (told-right row (suc k) f ls ms h.1)

get-at : (row : List Constant) (c : Constant) (cs : List Constant) → slice_get (row ++ c ∷ cs) (length row) ≡ Some c
get-at [] c cs = refl
get-at (r ∷ row) c cs = get-at row c cs

abbrev cells_of : (Leaf → Option Bool) → List Leaf → List Constant
cells_of f ls = map (λ l. told_cell (f l)) ls

told-behind : (row : List Constant) (k : ℕ) (f : Leaf → Option Bool) (ls : List Leaf) → k ≡ length row → Told (row ++ cells_of f ls) k f ls
told-behind row k f [] e = tt
told-behind row k f (l ∷ ls) e =
    let c = told_cell (f l) in
    let whole = row ++ c ∷ cells_of f ls in
    let here : slice_get whole k ≡ Some c = ap (slice_get whole) e ∙ get-at row c (cells_of f ls) in
    let long : suc k ≡ length (row ++ c ∷ []) = omega (arith, length-append row (c ∷ [])) in
    let more = told-behind (row ++ c ∷ []) (suc k) f ls long in
    let P : List Constant → Type 0 = λ r. Told r (suc k) f ls in
    (here, subst P (append_assoc row (c ∷ []) (cells_of f ls)) more)

pub told : (row : List Constant) (f : Leaf → Option Bool) (ls : List Leaf) → Told (with_told row f ls) (length row) f ls
told row f ls = told-behind row (length row) f ls refl

-- ---- the row itself stands before that

get-left : (xs ys : List Constant) (i : ℕ) (x : Constant) → slice_get xs i ≡ Some x → slice_get (xs ++ ys) i ≡ Some x
get-left [] ys i x h = cc
get-left (a ∷ xs) ys zero x h = h
get-left (a ∷ xs) ys (suc i) x h = get-left xs ys i x h

pub same_length : (scope : List Named) (row : List Constant) → IsRowOf scope row → length scope ≡ length row
same_length [] [] h = refl
same_length [] (c ∷ cs) h = cc
same_length (s ∷ ss) [] h = cc
same_length (s ∷ ss) (c ∷ cs) h = ap suc (same_length ss cs (both_true _ _ h).1)

cell_typed : (scope : List Named) (row : List Constant) → IsRowOf scope row → (i : ℕ) (s : Named) → slice_get scope i ≡ Some s
    → (c : Constant) × (slice_get row i ≡ Some c) × (is_optional_value c.value s.1 ≡ true)
cell_typed [] row h i s e = cc
cell_typed (s ∷ ss) [] h i t e = cc
cell_typed (s ∷ ss) (c ∷ cs) h zero t e =
    let same : s ≡ t = cc in
    let P : Named → Type 0 = λ x. is_optional_value c.value x.1 ≡ true in
    (c, refl, subst P same (both_true _ _ h).0)
cell_typed (s ∷ ss) (c ∷ cs) h (suc i) t e = cell_typed ss cs (both_true _ _ h).1 i t e

-- ---- the columns of a scope

-- the column has an optional value of its type, the same on either row
pub record Holds (row whole : List Constant) (p : Place) : Type 0 where
  pub value : Option ScalarValue
  pub on_row : cell_value (slice_get row p.index) ≡ value
  pub on_whole : cell_value (slice_get whole p.index) ≡ value
  pub typed : is_optional_value value p.dtype ≡ true

abbrev placed : Place → Option Place
placed p = Some p

same_place : (p q : Place) → placed p ≡ placed q → p ≡ q
same_place p q h = cc

found_is : (scope : List Named) (i : ℕ) (o : Option Named) (p : Place) → slice_get scope i ≡ o → place_at i o ≡ Some p
    → (s : Named) × (slice_get scope p.index ≡ Some s) × (s.1 ≡ p.dtype)
found_is scope i None p e h = cc
found_is scope i (Some s) p e h =
    let same : record { index = i; dtype = s.1 } ≡ p = same_place (record { index = i; dtype = s.1 }) p h in
    let P : Place → Type 0 = λ q. (t : Named) × (slice_get scope q.index ≡ Some t) × (t.1 ≡ q.dtype) in
    subst P same (s, e, refl)

found_at : (scope : List Named) (o : Option ℕ) (p : Place) → found scope o ≡ Some p
    → (s : Named) × (slice_get scope p.index ≡ Some s) × (s.1 ≡ p.dtype)
found_at scope None p h = cc
found_at scope (Some i) p h = found_is scope i (slice_get scope i) p refl h

pub column_holds : (scope : List Named) (row more : List Constant) (name : List ℕ) (p : Place) → IsRowOf scope row → find_column scope name ≡ Some p
    → Holds row (row ++ more) p
column_holds scope row more name p h e =
    let at = found_at scope (place_of name scope) p e in
    let cell = cell_typed scope row h p.index at.0 at.1 in
    let P : DType → Type 0 = λ t. is_optional_value cell.0.value t ≡ true in
    record {
      value = cell.0.value;
      on_row = ap cell_value cell.1;
      on_whole = ap cell_value (get-left row more p.index cell.0 cell.1);
      typed = subst P at.2 cell.2;
    }
