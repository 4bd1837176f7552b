-- Leaves with what joins them, put together.
use Rattle.std.proofs.Common.{◌≡◌, ℕ, Bool, List, [], ◌∷◌, ◌++◌, refl, subst, subst₂, sym}
use Rattle.vortex_sql.specs.declared.syntax.tree.Condition.{Condition}
use Rattle.vortex_sql.specs.declared.syntax.tree.Leaf.{Leaf}
use Rattle.vortex_sql.specs.Parsing.Joining.{Joins, ands, end_behind}
use Rattle.vortex_sql.specs.Parsing.Places.{leaves}

along : (text : List ℕ) (from : ℕ) (xs ys : List Leaf) (as' bs : List Bool) → Joins text from xs as' → Joins text (end_behind from xs) ys bs → Joins text from (xs ++ ys) (as' ++ bs)
along text from [] ys as' bs h k = subst (λ (cs : List Bool). Joins text from ys (cs ++ bs)) (sym h) k
along text from (l ∷ ls) ys [] bs h k = absurd h
along text from (l ∷ ls) ys (a ∷ as') bs h k = (h.0, along text l.end ls ys as' bs h.1 k)

pub ends : (from : ℕ) (xs ys : List Leaf) → end_behind from (xs ++ ys) ≡ end_behind (end_behind from xs) ys
ends from [] ys = refl
ends from (l ∷ ls) ys = ends l.end ls ys

-- two parts, of which the second begins behind the first
pub of_pair : (text : List ℕ) (from middle : ℕ) (before between : Bool) (x y left right : Condition) → x ≡ left → y ≡ right → Joins text from (leaves x) (before ∷ ands x) → middle ≡ end_behind from (leaves x)
    → Joins text middle (leaves y) (between ∷ ands y) → Joins text from (leaves left ++ leaves right) (before ∷ (ands left ++ between ∷ ands right))
of_pair text from middle before between x y left right p q h at k =
    subst₂ (λ (a b : Condition). Joins text from (leaves a ++ leaves b) (before ∷ (ands a ++ between ∷ ands b))) p q
    (along text from (leaves x) (leaves y) (before ∷ ands x) (between ∷ ands y) h (subst (λ (m : ℕ). Joins text m (leaves y) (between ∷ ands y)) at k))
