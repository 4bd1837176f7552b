-- The names of operands, as a loop finds them.
use Rattle.std.proofs.Common.{◌≡◌, ℕ, ◌+◌, ◌≤◌, ◌<◌, List, [], ◌∷◌, ◌++◌, length, sym, ap, ◌∙◌, drop, drop-cons, get_or, append_assoc, add-one}
use Rattle.std.proofs.lemmas.List.{append-nil, drop_all}
use Rattle.vortex_sql.specs.declared.syntax.tree.Leaf.{Leaf}
use Rattle.vortex_sql.specs.declared.syntax.tree.Operand.{Operand}
use Rattle.vortex_predicates.specs.Footers.Mentions.{MentionData, of_operand, of_operands}

pub mentions_go : (l : Leaf) (xs : List Operand) (front new total : List MentionData) (i : ℕ) (x : Operand) → i < length xs → x ≡ get_or xs i x → new ≡ front ++ of_operand l x
    → front ++ of_operands l (drop i xs) ≡ total → new ++ of_operands l (drop (i + 1) xs) ≡ total
mentions_go l xs front new total i x lt e h so_far =
    let others : List MentionData = of_operands l (drop (i + 1) xs) in
    let one : of_operands l (drop i xs) ≡ of_operand l x ++ others =
    ap (of_operands l) (drop-cons xs i x lt ∙ ap (λ (n : ℕ). get_or xs i x ∷ drop n xs) (sym (add-one i)))
    ∙ ap (λ (y : Operand). of_operand l y ++ others) (sym e) in
    ap (λ (ys : List MentionData). ys ++ others) h ∙ append_assoc front (of_operand l x) others ∙ ap (λ (ys : List MentionData). front ++ ys) (sym one) ∙ so_far

pub mentions_done : (l : Leaf) (xs : List Operand) (front total : List MentionData) (i : ℕ) → length xs ≤ i → front ++ of_operands l (drop i xs) ≡ total → front ≡ total
mentions_done l xs front total i le so_far =
    let none : of_operands l (drop i xs) ≡ [] = ap (of_operands l) (drop_all i xs le) in
    sym (append-nil front) ∙ ap (λ (ys : List MentionData). front ++ ys) (sym none) ∙ so_far
