-- When the connectives and the joined proofs are true.
use Rattle.std.proofs.Common.{◌≡◌, ℕ, zero, suc, Bool, true, false, ◌&&◌, ◌||◌, ◌⊎◌, ⊎_elim, List, [], ◌∷◌, ◌++◌, length, Option, Some, None, refl, sym, ap, ap₂, ◌∙◌, option_to_list, if◌then◌else◌}
use Rattle.std.specs.List.{AllByRecursion, cons_option}
use Rattle.std.proofs.lemmas.Bool.{and_parts, or_cases}
use Rattle.std.proofs.lemmas.Option.{same_Some, none-some}
use Rattle.vortex_expr.specs.Meanings.Meaning.{both, either, is_true, truth, truth_value}
use Rattle.vortex_expr.specs.Trees.Tree.{Tree, Place, binary, has_bare_column, scalar_fn_of}
use Rattle.vortex_expr.specs.declared.scalar_fn.Operator.TheVariants.{And, Or}
use Rattle.vortex_base.specs.declared.scalar_value.ScalarValue.{ScalarValue}
use Rattle.vortex_base.specs.declared.scalar_value.ScalarValue.TheVariants as value
use Rattle.vortex_rewrite.specs.Rewriting.Lawful.{OwnRule}
use Rattle.vortex_rewrite.specs.Rewriting.Proof.{Assignment, proves, value_under}
use Rattle.vortex_rewrite.specs.Rewriting.Falsifiers.{asked, both_of, is_function, reduce_balanced, node, own_proofs, round, rounds}
use Rattle.vortex_rewrite.proofs.Logic.{all_append}

pub clash : {P : Type 0} {b : Bool} → b ≡ true → b ≡ false → P
clash {b = true} h k = cc
clash {b = false} h k = cc

-- a test that cannot be true is false
pub refuted : (b : Bool) → (b ≡ true → ⊥) → b ≡ false
refuted true f = absurd (f refl)
refuted false f = refl

-- ---- true, at an optional truth and at an optional value

abbrev is_yes : Option Bool → Bool
is_yes None = false
is_yes (Some b) = b

yes_value : (o : Option Bool) → is_true (truth_value o) ≡ is_yes o
yes_value None = refl
yes_value (Some b) = refl

yes_truth : (v : Option ScalarValue) → is_yes (truth v) ≡ is_true v
yes_truth None = refl
yes_truth (Some (value.Bool b)) = refl
yes_truth (Some (value.Primitive p)) = refl
yes_truth (Some (value.Utf8 bs)) = refl
yes_truth (Some (value.Binary bs)) = refl

yes_both : (a b : Option Bool) → is_yes (both a b) ≡ (is_yes a && is_yes b)
yes_both (Some false) b = refl
yes_both (Some true) b = refl
yes_both None (Some false) = refl
yes_both None (Some true) = refl
yes_both None None = refl

yes_either : (a b : Option Bool) → is_yes (either a b) ≡ (is_yes a || is_yes b)
yes_either (Some false) b = refl
yes_either (Some true) b = refl
yes_either None (Some false) = refl
yes_either None (Some true) = refl
yes_either None None = refl

pub true_and : (u v : Option ScalarValue) → is_true (truth_value (both (truth u) (truth v))) ≡ (is_true u && is_true v)
true_and u v = yes_value (both (truth u) (truth v)) ∙ yes_both (truth u) (truth v) ∙ ap₂ ◌&&◌ (yes_truth u) (yes_truth v)

pub true_or : (u v : Option ScalarValue) → is_true (truth_value (either (truth u) (truth v))) ≡ (is_true u || is_true v)
true_or u v = yes_value (either (truth u) (truth v)) ∙ yes_either (truth u) (truth v) ∙ ap₂ ◌||◌ (yes_truth u) (yes_truth v)

-- a truth as a value is that truth
pub truth_back : (o : Option Bool) → truth (truth_value o) ≡ o
truth_back None = refl
truth_back (Some b) = refl

-- ---- true proofs

no_bare : (b : Bool) (v : Option ScalarValue) → is_true (if b then None else v) ≡ true → is_true v ≡ true
no_bare true v h = cc
no_bare false v h = h

-- one of two joined by OR is true where they are, and each of two joined by AND
part_true : (b c : Bool) (u v w : Option ScalarValue) → is_true w ≡ (is_true u || is_true v) → is_true (if b || c then None else w) ≡ true
    → (is_true (if b then None else u) ≡ true) ⊎ (is_true (if c then None else v) ≡ true)
part_true true c u v w e h = cc
part_true false true u v w e h = cc
part_true false false u v w e h = or_cases _ _ (sym e ∙ h)

parts_true : (b c : Bool) (u v w : Option ScalarValue) → is_true w ≡ (is_true u && is_true v) → is_true (if b || c then None else w) ≡ true
    → (is_true (if b then None else u) ≡ true) × (is_true (if c then None else v) ≡ true)
parts_true true c u v w e h = cc
parts_true false true u v w e h = cc
parts_true false false u v w e h = and_parts _ _ (sym e ∙ h)

pub proves_or : (a b : Tree Place) (A : Assignment) (n : ℕ) → proves (binary Or a b) A n ≡ true → (proves a A n ≡ true) ⊎ (proves b A n ≡ true)
proves_or a b A n h = part_true (has_bare_column a) (has_bare_column b) _ _ _ (true_or (value_under A n a) (value_under A n b)) h

pub proves_and : (a b : Tree Place) (A : Assignment) (n : ℕ) → proves (binary And a b) A n ≡ true → (proves a A n ≡ true) × (proves b A n ≡ true)
proves_and a b A n h = parts_true (has_bare_column a) (has_bare_column b) _ _ _ (true_and (value_under A n a) (value_under A n b)) h

pub proves_value : (e : Tree Place) (A : Assignment) (n : ℕ) → proves e A n ≡ true → is_true (value_under A n e) ≡ true
proves_value e A n h = no_bare (has_bare_column e) (value_under A n e) h

-- ---- two proofs

-- the two that a joined one is made of
pub record AreBoth (join : Tree Place → Tree Place → Tree Place) (o p : Option (Tree Place)) (e : Tree Place) : Type 0 where
  pub left : Tree Place
  pub right : Tree Place
  pub left_is : o ≡ Some left
  pub right_is : p ≡ Some right
  pub is : join left right ≡ e

pub both_some : (join : Tree Place → Tree Place → Tree Place) (o p : Option (Tree Place)) (e : Tree Place) → both_of join o p ≡ Some e → AreBoth join o p e
both_some join (Some a) (Some b) e h = record { left = a; right = b; left_is = refl; right_is = refl; is = same_Some _ _ h }
both_some join (Some a) None e h = absurd (none-some e h)
both_some join None p e h = absurd (none-some e h)

-- ---- all of a list

pub all_option : {X : Type 0} (P : X → Type 0) (o : Option X) → ((x : X) → o ≡ Some x → P x) → AllByRecursion P (option_to_list o)
all_option P None f = tt
all_option P (Some x) f = (f x refl, tt)

cons_all : {X : Type 0} (P : X → Type 0) (o : Option X) (xs : List X) → ((x : X) → o ≡ Some x → P x) → AllByRecursion P xs → AllByRecursion P (cons_option o xs)
cons_all P None xs f h = h
cons_all P (Some x) xs f h = (f x refl, h)

if_some : (b : Bool) (o : Option (Tree Place)) (e : Tree Place) → (if b then o else None) ≡ Some e → o ≡ Some e
if_some true o e h = h
if_some false o e h = absurd (none-some e h)

-- ---- what follows from each of the proofs of a node follows from them joined

module _ (A : Assignment) (n : ℕ) (G : Type 0) where
  abbrev pub Gives : Tree Place → Type 0
  Gives e = proves e A n ≡ true → G

  round_gives : (ps : List (Tree Place)) → AllByRecursion Gives ps → AllByRecursion Gives (round ps)
  round_gives [] h = tt
  round_gives (p ∷ []) h = h
  round_gives (p ∷ q ∷ ps) h = (λ t. ⊎_elim h.0 h.1.0 (proves_or p q A n t), round_gives ps h.1.1)

  rounds_give : (m : ℕ) (ps : List (Tree Place)) (e : Tree Place) → AllByRecursion Gives ps → rounds m ps ≡ Some e → Gives e
  rounds_give m [] e h is = absurd (none-some e is)
  rounds_give m (p ∷ []) e h is = λ t. h.0 (ap (λ x. proves x A n) (same_Some _ _ is) ∙ t)
  rounds_give zero (p ∷ q ∷ ps) e h is = absurd (none-some e is)
  rounds_give (suc m) (p ∷ q ∷ ps) e h is = rounds_give m (round (p ∷ q ∷ ps)) e (round_gives (p ∷ q ∷ ps) h) is

  joined_gives : (ps : List (Tree Place)) (e : Tree Place) → AllByRecursion Gives ps → reduce_balanced ps ≡ Some e → Gives e
  unfolding reduce_balanced
  joined_gives ps e h is = rounds_give (length ps) ps e h is

  module _ (prove : OwnRule → Tree Place → Option (Tree Place)) (p : Tree Place) (own : (rule : OwnRule) (e : Tree Place) → prove rule p ≡ Some e → Gives e) where
    own_give : (rules : List OwnRule) → AllByRecursion Gives (own_proofs prove rules p)
    own_give [] = tt
    own_give (rule ∷ rules) =
        cons_all Gives (asked prove p rule) (own_proofs prove rules p)
        (λ e h. own rule e (if_some (is_function (scalar_fn_of p) rule.id) (prove rule p) e h))
        (own_give rules)

    pub node_gives : (rules : List OwnRule) (built_in : List (Tree Place)) → AllByRecursion Gives built_in → (e : Tree Place) → node prove rules p built_in ≡ Some e → Gives e
    unfolding node
    node_gives rules built_in h e is = joined_gives (built_in ++ own_proofs prove rules p) e (all_append Gives built_in (own_proofs prove rules p) h (own_give rules)) is
