-- The falsifiers and the satisfiers of predicates are right, with any rules of a user that are.
use Rattle.std.proofs.Common.{◌∷◌, ◌≡◌, ℕ, ◌<◌, Bool, true, false, not, ◌&&◌, ◌||◌, ◌⊎◌, inl, inr, ⊎_elim, List, [], Option, Some, None, refl, sym, ap, ap₂, ◌∙◌, option_to_list}
use Rattle.std.specs.List.{AllByRecursion}
use Rattle.std.proofs.lemmas.Bool.{and_left, and_right, or_left, or_right}
use Rattle.std.proofs.lemmas.Option.{same_Some, none-some}
use Rattle.vortex_expr.specs.Trees.Between.{to_operator}
use Rattle.vortex_base.specs.Data.Columns.{ChunkData, IsChunk, row_count as rows_of, row_of}
use Rattle.vortex_expr.specs.Meanings.Meaning.{meaning, satisfies}
use Rattle.vortex_base.specs.Data.Scalars.{Constant}
use Rattle.vortex_expr.specs.Trees.Tree.{Tree, Place, column, literal, binary, between, is_null, is_not_null, not as not_tree, like, stat, row_count}
use Rattle.vortex_expr.specs.declared.scalar_fn.BetweenOptions.{BetweenOptions}
use Rattle.vortex_expr.specs.declared.like.LikeOptions.{LikeOptions}
use Rattle.vortex_expr.specs.declared.scalar_fn.Operator.{Operator}
use Rattle.vortex_expr.specs.declared.scalar_fn.Operator.TheVariants.{Eq, NotEq, Gt, Gte, Lt, Lte, And, Or}
use Rattle.vortex_rewrite.proofs.Soundness.LikeRows.{like_right}
use Rattle.vortex_rewrite.proofs.Soundness.MovedEnds.{Rewritten, between_is, rewritten}
use Rattle.vortex_rewrite.proofs.Rewriting.OverParts.{binary_parts, halves_over, like_text_over, means_text}
use Rattle.vortex_rewrite.proofs.Soundness.RowFacts.{right_at}
use Rattle.vortex_rewrite.proofs.Soundness.RowRules.{IsRight, comparison_right, every_null_right, literal_false, literal_true, none_null_right}
use Rattle.vortex_rewrite.proofs.Soundness.RowSatisfiers.{comparison_shown}
use Rattle.vortex_rewrite.proofs.Soundness.TruthLogic.{Gives, all_option, node_gives, proves_and, proves_or, proves_value, true_and, true_or}
use Rattle.vortex_rewrite.specs.Facts.{IsHonest}
use Rattle.vortex_rewrite.specs.Rewriting.Lawful.{IsOver, IsSoundFalsifier, IsSoundSatisfier, OwnRule}
use Rattle.vortex_rewrite.specs.Rewriting.Proof.{Assignment, proves}
use Rattle.vortex_rewrite.specs.Rewriting.Sides.{proof_of}
use Rattle.vortex_rewrite.specs.declared.rewrite.side.Side.{Side}
use Rattle.vortex_rewrite.specs.declared.rewrite.side.Side.TheVariants.{Falsify, Satisfy}
use Rattle.std.specs.Prelude.{is_ok}
use Rattle.vortex_rewrite.specs.Rewriting.Falsifiers.{Ends, and_proof, binary_node, both_of, comparison_proof, either_of, ends, ends_node, falsifier, halves, halves_node, like_falsifier, of_sides, or_proof, proved, rewriting, satisfier, table_falsifiers, table_proofs, table_satisfiers}
use Rattle.vortex_rewrite.specs.RuleLaws.{ComparisonsAreSound, TablesAreSound}

module _ (row : List Constant) (n : ℕ) where
  and_false : (x y : Tree Place) → (satisfies x row n ≡ false) ⊎ (satisfies y row n ≡ false) → satisfies (binary And x y) row n ≡ false
  and_false x y h = true_and (meaning x row n) (meaning y row n) ∙ ⊎_elim (and_left _ _) (and_right (satisfies x row n) (satisfies y row n)) h

  or_false : (x y : Tree Place) → satisfies x row n ≡ false → satisfies y row n ≡ false → satisfies (binary Or x y) row n ≡ false
  or_false x y h k = true_or (meaning x row n) (meaning y row n) ∙ ap₂ ◌||◌ h k

  and_true : (x y : Tree Place) → satisfies x row n ≡ true → satisfies y row n ≡ true → satisfies (binary And x y) row n ≡ true
  and_true x y h k = true_and (meaning x row n) (meaning y row n) ∙ ap₂ ◌&&◌ h k

  or_true : (x y : Tree Place) → (satisfies x row n ≡ true) ⊎ (satisfies y row n ≡ true) → satisfies (binary Or x y) row n ≡ true
  or_true x y h = true_or (meaning x row n) (meaning y row n) ∙ ⊎_elim (or_left (satisfies x row n) (satisfies y row n)) (or_right (satisfies x row n) (satisfies y row n)) h

-- what a true proof says of a row: that it doesn't satisfy the predicate, or that it does
abbrev verdict : Side → Bool
verdict Falsify = false
verdict Satisfy = true

-- what follows from a proof, if there is one
module _ (A : Assignment) (n : ℕ) where
  abbrev Each : Type 0 → Option (Tree Place) → Type 0
  Each P o = (e : Tree Place) → o ≡ Some e → Gives A n P e

  none_there : (P : Type 0) → Each P None
  none_there P e h = absurd (none-some e h)

  either_there : (P Q R : Type 0) → (P → R) → (Q → R) → (a b : Option (Tree Place)) → Each P a → Each Q b → Each R (either_of (binary Or) a b)
  either_there P Q R p q (Some a) (Some b) f g e is t = ⊎_elim (λ r. p (f a refl r)) (λ r. q (g b refl r)) (proves_or a b A n (ap (λ d. proves d A n) (same_Some _ _ is) ∙ t))
  either_there P Q R p q (Some a) None f g e is t = p (f e is t)
  either_there P Q R p q None b f g e is t = q (g e is t)

  both_there : (P Q R : Type 0) → (P → Q → R) → (a b : Option (Tree Place)) → Each P a → Each Q b → Each R (both_of (binary And) a b)
  both_there P Q R p (Some a) (Some b) f g e is t =
      let r = proves_and a b A n (ap (λ d. proves d A n) (same_Some _ _ is) ∙ t) in
      p (f a refl r.0) (g b refl r.1)
  both_there P Q R p (Some a) None f g e is t = absurd (none-some e is)
  both_there P Q R p None b f g e is t = absurd (none-some e is)

module _ (k : ChunkData) (A : Assignment) (chunk : IsChunk k) (honest : IsHonest A k.columns) (i : ℕ) (here : i < rows_of k.columns) where
  abbrev row : List Constant
  row = row_of i k.columns

  abbrev n : ℕ
  n = rows_of k.columns

  right : IsRight A (row_of i k.columns) (rows_of k.columns)
  right = right_at A k.columns honest i here

  -- what a true proof of p says of the row is so
  abbrev Says : Side → Tree Place → Type 0
  Says side p = satisfies p (row_of i k.columns) (rows_of k.columns) ≡ verdict side

  abbrev AllRight : Side → Tree Place → List (Tree Place) → Type 0
  AllRight side p es = AllByRecursion (Gives A (rows_of k.columns) (satisfies p (row_of i k.columns) (rows_of k.columns) ≡ verdict side)) es

  -- the proof is right, where there is one
  abbrev IsRightFor : Side → Tree Place → Option (Tree Place) → Type 0
  IsRightFor side p o = Each A (rows_of k.columns) (satisfies p (row_of i k.columns) (rows_of k.columns) ≡ verdict side) o

  own_right : (side : Side) (p : Tree Place) → IsOver p k → (rule : OwnRule) → IsRightFor side p (proof_of side rule p)
  own_right Falsify p over rule e is t = rule.is_lawful.falsifies p e is k A chunk over honest t i here
  own_right Satisfy p over rule e is t = rule.is_lawful.satisfies p e is k A chunk over honest t i here

  node_right : (side : Side) (rules : List OwnRule) (p : Tree Place) → IsOver p k → (built_in : List (Tree Place)) → AllRight side p built_in → IsRightFor side p (proved side rules p built_in)
  node_right side rules p over built_in h = node_gives A (rows_of k.columns) (Says side p) (proof_of side) p (own_right side p over) rules built_in h

  option_right : (side : Side) (rules : List OwnRule) (p : Tree Place) → IsOver p k → (o : Option (Tree Place)) → IsRightFor side p o → IsRightFor side p (proved side rules p (option_to_list o))
  option_right side rules p over o f = node_right side rules p over (option_to_list o) (all_option (Gives A (rows_of k.columns) (Says side p)) o f)

  and_right_for : (side : Side) (x y : Tree Place) (a b : Option (Tree Place)) → IsRightFor side x a → IsRightFor side y b → IsRightFor side (binary And x y) (and_proof side a b)
  and_right_for Falsify x y a b =
      either_there A n (Says Falsify x) (Says Falsify y) (Says Falsify (binary And x y)) (λ h. and_false row n x y (inl h)) (λ h. and_false row n x y (inr h)) a b
  and_right_for Satisfy x y a b = both_there A n (Says Satisfy x) (Says Satisfy y) (Says Satisfy (binary And x y)) (and_true row n x y) a b

  or_right_for : (side : Side) (x y : Tree Place) (a b : Option (Tree Place)) → IsRightFor side x a → IsRightFor side y b → IsRightFor side (binary Or x y) (or_proof side a b)
  or_right_for Falsify x y a b = both_there A n (Says Falsify x) (Says Falsify y) (Says Falsify (binary Or x y)) (or_false row n x y) a b
  or_right_for Satisfy x y a b =
      either_there A n (Says Satisfy x) (Says Satisfy y) (Says Satisfy (binary Or x y)) (λ h. or_true row n x y (inl h)) (λ h. or_true row n x y (inr h)) a b

  comparison_right_for : (side : Side) (o : Operator) (x y : Tree Place) → IsRightFor side (binary o x y) (comparison_proof side o x y)
  comparison_right_for Falsify o x y e h t = comparison_right A row n right o x y e h (proves_value e A n t)
  comparison_right_for Satisfy o x y e h t = comparison_shown A row n right o x y e h (proves_value e A n t)

  sides_right : (side : Side) (o : Operator) (x y : Tree Place) (a b : Option (Tree Place)) → IsRightFor side x a → IsRightFor side y b → IsRightFor side (binary o x y) (of_sides side o x y a b)
  sides_right side And x y a b f g = and_right_for side x y a b f g
  sides_right side Or x y a b f g = or_right_for side x y a b f g
  sides_right side Eq x y a b f g = comparison_right_for side Eq x y
  sides_right side NotEq x y a b f g = comparison_right_for side NotEq x y
  sides_right side Gt x y a b f g = comparison_right_for side Gt x y
  sides_right side Gte x y a b f g = comparison_right_for side Gte x y
  sides_right side Lt x y a b f g = comparison_right_for side Lt x y
  sides_right side Lte x y a b f g = comparison_right_for side Lte x y

  binary_right : (side : Side) (rules : List OwnRule) (o : Operator) (x y : Tree Place) (a b : Option (Tree Place)) → IsOver (binary o x y) k → IsRightFor side x a → IsRightFor side y b
      → IsRightFor side (binary o x y) (binary_node side rules o x y a b)
  binary_right side rules o x y a b over f g = option_right side rules (binary o x y) over (of_sides side o x y a b) (sides_right side o x y a b f g)

  -- of a predicate that has no proof there is nothing to show
  none_right : (side : Side) (p : Tree Place) → IsRightFor side p None
  none_right side p = none_there A n (Says side p)

  halves_right : (side : Side) (rules : List OwnRule) (o : BetweenOptions) (x l u : Tree Place) → IsOver (halves o x l u) k → IsRightFor side (halves o x l u) (halves_node side rules o x l u)
  halves_right side rules o x l u over =
      let parts = binary_parts And (binary (to_operator o.lower_strict) l x) (binary (to_operator o.upper_strict) x u) k over in
      binary_right side rules And (binary (to_operator o.lower_strict) l x) (binary (to_operator o.upper_strict) x u)
      (binary_node side rules (to_operator o.lower_strict) l x None None)
      (binary_node side rules (to_operator o.upper_strict) x u None None)
      over
      (binary_right side rules (to_operator o.lower_strict) l x None None parts.0 (none_right side l) (none_right side x))
      (binary_right side rules (to_operator o.upper_strict) x u None None parts.1 (none_right side x) (none_right side u))

  -- by its ends a BETWEEN means the same, and without ends no row satisfies it
  ends_right : (side : Side) (rules : List OwnRule) (o : BetweenOptions) (x l u : Tree Place) → IsOver (between o x l u) k → (es : Option Ends) → Rewritten o x l u es
      → IsRightFor side (between o x l u) (ends_node side rules x es)
  ends_right Falsify rules o x l u over None never = λ e is t. never row n
  ends_right Satisfy rules o x l u over None never = none_right Satisfy (between o x l u)
  ends_right side rules o x l u over (Some f) moved =
      let inner : IsOver (between f.options x f.lower f.upper) k = record { typed = ap is_ok moved.typed ∙ over.typed; over = moved.over k.scope ∙ over.over } in
      λ e is t. sym (moved.same row n) ∙ sym (between_is row n f.options x f.lower f.upper)
      ∙ halves_right side rules f.options x f.lower f.upper (halves_over f.options x f.lower f.upper k inner) e is t

  literal_right : (side : Side) (c : Constant) → AllRight side (literal c) (table_proofs side (literal c))
  literal_right Falsify c = literal_false A n c.value
  literal_right Satisfy c = literal_true A n c.value

  null_right : (side : Side) (x : Tree Place) → AllRight side (is_null x) (table_proofs side (is_null x))
  null_right Falsify x = none_null_right A row n right (Says Falsify (is_null x)) x (λ h. h)
  null_right Satisfy x = every_null_right A row n right (Says Satisfy (is_null x)) x (λ h. h)

  not_null_right : (side : Side) (x : Tree Place) → AllRight side (is_not_null x) (table_proofs side (is_not_null x))
  not_null_right Falsify x = every_null_right A row n right (Says Falsify (is_not_null x)) x (λ h. ap not h)
  not_null_right Satisfy x = none_null_right A row n right (Says Satisfy (is_not_null x)) x (λ h. ap not h)

  like_right_for : (side : Side) (o : LikeOptions) (x y : Tree Place) → IsOver (like o x y) k → AllRight side (like o x y) (table_proofs side (like o x y))
  like_right_for Falsify o x y over =
      all_option (Gives A (rows_of k.columns) (Says Falsify (like o x y))) (like_falsifier o x y)
      (λ e is t. like_right A row n right x o y e (means_text x k i chunk here (like_text_over o x y k over)) is (proves_value e A n t))
  like_right_for Satisfy o x y over = tt

  -- a node that the tables say nothing of
  no_table : (side : Side) (p : Tree Place) → table_proofs Falsify p ≡ [] → table_proofs Satisfy p ≡ [] → AllRight side p (table_proofs side p)
  no_table Falsify p f g = rw f tt
  no_table Satisfy p f g = rw g tt

  rewriting_right : (side : Side) (rules : List OwnRule) (p : Tree Place) → IsOver p k → IsRightFor side p (rewriting side rules p)
  rewriting_right side rules (column c) over = none_right side (column c)
  rewriting_right side rules (literal c) over = node_right side rules (literal c) over (table_proofs side (literal c)) (literal_right side c)
  rewriting_right side rules (binary o x y) over =
      let parts = binary_parts o x y k over in
      binary_right side rules o x y (rewriting side rules x) (rewriting side rules y) over (rewriting_right side rules x parts.0) (rewriting_right side rules y parts.1)
  rewriting_right side rules (between o x l u) over =
      option_right side rules (between o x l u) over (ends_node side rules x (ends o l u)) (ends_right side rules o x l u over (ends o l u) (rewritten o x l u over.typed))
  rewriting_right side rules (is_null x) over = node_right side rules (is_null x) over (table_proofs side (is_null x)) (null_right side x)
  rewriting_right side rules (is_not_null x) over = node_right side rules (is_not_null x) over (table_proofs side (is_not_null x)) (not_null_right side x)
  rewriting_right side rules (not_tree x) over = node_right side rules (not_tree x) over (table_proofs side (not_tree x)) (no_table side (not_tree x) refl refl)
  rewriting_right side rules (like o x y) over = node_right side rules (like o x y) over (table_proofs side (like o x y)) (like_right_for side o x y over)
  rewriting_right side rules (stat f x) over = node_right side rules (stat f x) over (table_proofs side (stat f x)) (no_table side (stat f x) refl refl)
  rewriting_right side rules row_count over = node_right side rules row_count over (table_proofs side row_count) (no_table side row_count refl refl)

  tables_right : (side : Side) (p : Tree Place) → IsOver p k → AllRight side p (table_proofs side p)
  tables_right side (literal c) over = literal_right side c
  tables_right side (is_null x) over = null_right side x
  tables_right side (is_not_null x) over = not_null_right side x
  tables_right side (like o x y) over = like_right_for side o x y over
  tables_right side (column c) over = no_table side (column c) refl refl
  tables_right side (binary o x y) over = no_table side (binary o x y) refl refl
  tables_right side (between o x l u) over = no_table side (between o x l u) refl refl
  tables_right side (not_tree x) over = no_table side (not_tree x) refl refl
  tables_right side (stat f x) over = no_table side (stat f x) refl refl
  tables_right side row_count over = no_table side row_count refl refl

-- ---- the tables

all_falsify : (p : Tree Place) (es : List (Tree Place))
    → ((k : ChunkData) (A : Assignment) → IsChunk k → IsOver p k → IsHonest A k.columns → (i : ℕ) → i < rows_of k.columns → AllByRecursion (Gives A (rows_of k.columns) (satisfies p (row_of i k.columns) (rows_of k.columns) ≡ false)) es)
    → AllByRecursion (IsSoundFalsifier p) es
all_falsify p [] f = tt
all_falsify p (e ∷ es) f = (λ k A chunk over honest t i here. (f k A chunk over honest i here).0 t, all_falsify p es (λ k A chunk over honest i here. (f k A chunk over honest i here).1))

all_satisfy : (p : Tree Place) (es : List (Tree Place))
    → ((k : ChunkData) (A : Assignment) → IsChunk k → IsOver p k → IsHonest A k.columns → (i : ℕ) → i < rows_of k.columns → AllByRecursion (Gives A (rows_of k.columns) (satisfies p (row_of i k.columns) (rows_of k.columns) ≡ true)) es)
    → AllByRecursion (IsSoundSatisfier p) es
all_satisfy p [] f = tt
all_satisfy p (e ∷ es) f = (λ k A chunk over honest t i here. (f k A chunk over honest i here).0 t, all_satisfy p es (λ k A chunk over honest i here. (f k A chunk over honest i here).1))

pub tables_sound : TablesAreSound
tables_sound p = (
  all_falsify p (table_falsifiers p) (λ k A chunk over honest i here. tables_right k A chunk honest i here Falsify p over),
  all_satisfy p (table_satisfiers p) (λ k A chunk over honest i here. tables_right k A chunk honest i here Satisfy p over),
)

pub comparisons_sound : ComparisonsAreSound
comparisons_sound o x y e = (
  λ is k A chunk over honest t i here. comparison_right_for k A chunk honest i here Falsify o x y e is t,
  λ is k A chunk over honest t i here. comparison_right_for k A chunk honest i here Satisfy o x y e is t,
)

-- ---- the theorems

pub falsifiers_sound : (rules : List OwnRule) (p e : Tree Place) → falsifier rules p ≡ Some e → IsSoundFalsifier p e
falsifiers_sound rules p e is k A chunk over honest t i here = rewriting_right k A chunk honest i here Falsify rules p over e is t

pub satisfiers_sound : (rules : List OwnRule) (p e : Tree Place) → satisfier rules p ≡ Some e → IsSoundSatisfier p e
satisfiers_sound rules p e is k A chunk over honest t i here = rewriting_right k A chunk honest i here Satisfy rules p over e is t
