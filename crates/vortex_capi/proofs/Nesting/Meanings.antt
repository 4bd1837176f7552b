-- Joining in halves keeps what an expression means.
use Rattle.std.proofs.Common.{◌≡◌, ℕ, Bool, true, false, List, Option, Some, None, is_none, not as not_b, refl, ap, ap₂, ◌∙◌}
use Rattle.vortex_base.specs.Data.Scalars.{Constant}
use Rattle.vortex_base.specs.declared.scalar_value.ScalarValue.{ScalarValue}
use Rattle.vortex_base.specs.declared.scalar_value.ScalarValue.TheVariants as value
use Rattle.vortex_expr.specs.Meanings.Meaning.{applied, both, either, liked, meaning, opposite, truth, truth_value, within}
use Rattle.vortex_expr.specs.Trees.Tree.{Tree, Place, binary}
use Rattle.vortex_expr.specs.Trees.Connectives.{operator_of}
use Rattle.vortex_capi.specs.Nesting.Halves.{halved}
use Rattle.vortex_capi.proofs.Nesting.Values.{kept}

-- what a chain makes of two truths
abbrev op : Bool → Option Bool → Option Bool → Option Bool
op true a b = both a b
op false a b = either a b

both_assoc : (a b c : Option Bool) → both (both a b) c ≡ both a (both b c)
both_assoc (Some false) b c = refl
both_assoc (Some true) b c = refl
both_assoc None (Some false) c = refl
both_assoc None (Some true) c = refl
both_assoc None None (Some false) = refl
both_assoc None None (Some true) = refl
both_assoc None None None = refl

either_assoc : (a b c : Option Bool) → either (either a b) c ≡ either a (either b c)
either_assoc (Some true) b c = refl
either_assoc (Some false) b c = refl
either_assoc None (Some true) c = refl
either_assoc None (Some false) c = refl
either_assoc None None (Some true) = refl
either_assoc None None (Some false) = refl
either_assoc None None None = refl

op_assoc : (w : Bool) (a b c : Option Bool) → op w (op w a b) c ≡ op w a (op w b c)
op_assoc true a b c = both_assoc a b c
op_assoc false a b c = either_assoc a b c

op_left : (w : Bool) (a : Option Bool) → op w (Some w) a ≡ a
op_left true a = refl
op_left false a = refl

op_right : (w : Bool) (a : Option Bool) → op w a (Some w) ≡ a
op_right true (Some true) = refl
op_right true (Some false) = refl
op_right true None = refl
op_right false (Some true) = refl
op_right false (Some false) = refl
op_right false None = refl

seen : (a : Option Bool) → truth (truth_value a) ≡ a
seen (Some b) = refl
seen None = refl

module _ (row : List Constant) (n : ℕ) where
  joins : (w : Bool) (a b : Tree Place) → meaning (binary (operator_of w) a b) row n ≡ truth_value (op w (truth (meaning a row n)) (truth (meaning b row n)))
  joins true a b = refl
  joins false a b = refl

  pub same_meaning : (e : Tree Place) → meaning (halved e) row n ≡ meaning e row n
  same_meaning e =
      kept (λ x. meaning x row n) truth truth_value op Some op_assoc op_left op_right seen joins
      (λ o l r m s h k. ap₂ (λ a b. truth_value (applied o a b)) h k)
      (λ o x l u y m v h i j. ap₂ (λ a (f : Option ScalarValue → Option ScalarValue → Option Bool). truth_value (f a (meaning v row n))) i (ap (within o) h) ∙ ap (λ c. truth_value (within o (meaning x row n) (meaning l row n) c)) j)
      (λ x y h. ap (λ a. Some (value.Bool (is_none a))) h)
      (λ x y h. ap (λ a. Some (value.Bool (not_b (is_none a)))) h)
      (λ x y h. ap (λ a. truth_value (opposite (truth a))) h)
      (λ o x p y q h k. ap₂ (λ a b. truth_value (liked o a b)) h k)
      (λ f x y h. refl)
      e
