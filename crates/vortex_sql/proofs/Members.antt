-- A member of a list that isn't said for its types fails the whole list.
use Rattle.std.proofs.Common.{◌≡◌, ◌<◌, ℕ, suc, List, [], ◌∷◌, length, get_or, drop, drop-cons, refl, sym, ap, ◌∙◌}
use Rattle.std.specs.Prelude.{Option, Ok, Err}
use Rattle.vortex_expr.specs.Trees.Tree.{Tree, Place}
use Rattle.vortex_sql.specs.declared.fault.Fault.{Fault}
use Rattle.vortex_logical.specs.declared.comparison.Comparison.TheVariants as comparison
use Rattle.vortex_sql.specs.declared.syntax.tree.Operand.{Operand}
use Rattle.vortex_sql.specs.Schemas.{SchemaData}
use Rattle.vortex_sql.specs.Readings.{Reading, Members, compare, with_member, members_from}

abbrev failed : Fault → Members
failed f = Err f

abbrev misread : Fault → Reading
misread f = Err f

still_failed : (s : SchemaData) (x : Operand) (f : Fault) (ys : List Operand) → members_from s x (failed f) ys ≡ failed f
still_failed s x f [] = refl
still_failed s x f (y ∷ ys) = still_failed s x f ys

pub member_fails : (s : SchemaData) (x y : Operand) (m : Option (List (Tree Place))) (ys : List Operand) (f : Fault)
    → misread f ≡ compare s comparison.Eq x y → failed f ≡ members_from s x (Ok m) (y ∷ ys)
member_fails s x y m ys f h =
    sym (still_failed s x f ys) ∙ ap (λ r. members_from s x (with_member (Ok m) r) ys) h

pub next_member : (ys : List Operand) (i : ℕ) (y : Operand) → i < length ys → y ≡ get_or ys i y → drop i ys ≡ y ∷ drop (suc i) ys
next_member ys i y within is = drop-cons ys i y within ∙ ap (λ z. z ∷ drop (suc i) ys) (sym is)
