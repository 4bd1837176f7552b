-- What a refusal tells of what is made next.
use Rattle.std.proofs.Common.{◌≡◌, ◌≤◌, ◌⊎◌, ℕ, Bool, List, ◌∷◌, ◌++◌, ⊎_elim, subst, arith}
use Rattle.vortex_expr.specs.Trees.Tree.{Tree, Place, binary}
use Rattle.vortex_normal.specs.Balanced.{depth}
use Rattle.vortex_expr.specs.Trees.Connectives.{operator_of}
use Rattle.vortex_capi.specs.Nesting.Nodes.{IsDeep, deepest}
use Rattle.vortex_capi.specs.declared.nested.error.NestedError.{NestedError}
use Rattle.vortex_capi.specs.declared.nested.error.NestedError.TheVariants as errors
use Rattle.vortex_capi.proofs.Nesting.Depths.{deepest_append}

pub still_deep : (deep wide : Type 0) (e : NestedError) → IsDeep deep e → (deep → wide) → IsDeep wide e
still_deep deep wide errors.Memory h f = tt
still_deep deep wide errors.Bad h f = absurd h
still_deep deep wide errors.TooDeep h f = f h

-- a pair of which one is too deep makes the list of pairs too deep
pub pair_deep : (w : Bool) (below : ℕ) (a b : Tree Place) (pairs rest whole : List (Tree Place)) → pairs ++ (binary (operator_of w) a b ∷ rest) ≡ whole
    → (below ≤ depth a) ⊎ (below ≤ depth b) → below ≤ deepest whole
pair_deep w below a b pairs rest whole same deep =
    let appended = deepest_append pairs (binary (operator_of w) a b ∷ rest) in
    let P : List (Tree Place) → Type 0 = λ es. below ≤ deepest es in
    subst P same (⊎_elim {B = below ≤ depth b} (λ h. omega (arith, appended, h)) (λ h. omega (arith, appended, h)) deep)
