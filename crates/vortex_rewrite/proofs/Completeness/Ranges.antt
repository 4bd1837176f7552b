-- A column between two literals, over a known box in order: from what its two comparisons find, one value for both.
use Rattle.std.proofs.Common.{◌≡◌, ℕ, Bool, true, false, ◌&&◌, ◌||◌, List, ◌∷◌, [], Option, Some, None, refl, sym, ap, ap₂, ◌∙◌, ⊎_elim, option_to_list}
use Rattle.std.specs.Prelude.{slice_get}
use Rattle.std.specs.List.{AllByRecursion}
use Rattle.std.proofs.lemmas.Bool.{and_left, and_right, not-false, or_cases, or_parts}
use Rattle.vortex_expr.specs.Trees.Between.{to_operator}
use Rattle.vortex_base.specs.Data.Columns.{cell_value}
use Rattle.vortex_expr.specs.Meanings.Meaning.{compared, either, holds, is_true, meaning, satisfies, truth, truth_value}
use Rattle.vortex_base.specs.Data.Scalars.{Constant}
use Rattle.vortex_expr.specs.Trees.Tree.{Tree, Place, column, literal, binary, between, has_bare_column}
use Rattle.vortex_base.specs.Data.Values.{is_value, value_cmp}
use Rattle.vortex_expr.specs.declared.scalar_fn.BetweenOptions.{BetweenOptions}
use Rattle.vortex_expr.specs.declared.scalar_fn.StrictComparison.{StrictComparison}
use Rattle.vortex_expr.specs.declared.scalar_fn.StrictComparison.TheVariants.{Strict, NonStrict}
use Rattle.vortex_expr.specs.declared.scalar_fn.Operator.TheVariants.{Lt, And, Or}
use Rattle.vortex_base.specs.declared.scalar_value.ScalarValue.{ScalarValue}
use Rattle.vortex_base.specs.declared.scalar_value.ScalarValue.TheVariants as value
use Rattle.vortex_rewrite.proofs.Completeness.Choices.{Choice, IsBetween, cell_with, row_with}
use Rattle.vortex_rewrite.proofs.Completeness.Decided.{Decided, either_known, one_proof}
use Rattle.vortex_rewrite.proofs.Soundness.MovedEnds.{IsMoved, between_is, end_compares, end_le}
use Rattle.vortex_rewrite.proofs.Completeness.Operands.{IsInterval}
use Rattle.vortex_rewrite.proofs.Soundness.TruthLogic.{true_and}
use Rattle.vortex_rewrite.proofs.Soundness.ValueTests.{holds_by_le, le_refl, le_total, le_trans, value_le}
use Rattle.vortex_rewrite.specs.Rewriting.ReadOnce.{Box, IsWithin, has_closed_end}
use Rattle.vortex_rewrite.specs.Rewriting.Proof.{Assignment, value_under}
use Rattle.vortex_rewrite.specs.Rewriting.Falsifiers.{binary_node, bool_literal, either_of, ends, ends_node, falsifier, halves_node, is_closed_end, proved}
use Rattle.vortex_rewrite.specs.declared.rewrite.side.Side.TheVariants.{Falsify}

-- a comparison at an end doesn't ask what its sides' falsifiers are
end_node : (s : StrictComparison) (l r : Tree Place) (f g : Option (Tree Place)) → binary_node Falsify [] (to_operator s) l r None None ≡ binary_node Falsify [] (to_operator s) l r f g
end_node Strict l r f g = refl
end_node NonStrict l r f g = refl

-- where such a comparison fails, the second is at most the first
end_back : (s : StrictComparison) (a b : ScalarValue) → holds (to_operator s) (value_cmp a b) ≡ false → value_le b a ≡ true
end_back Strict a b h = not-false (value_le b a) (sym (holds_by_le Lt a b) ∙ h)
end_back NonStrict a b h = le_total a b h

closed_self : (s : StrictComparison) (v : ScalarValue) → is_closed_end s ≡ true → holds (to_operator s) (value_cmp v v) ≡ true
closed_self Strict v h = cc
closed_self NonStrict v h = le_refl v

module _ (box : Box) (A : Assignment) (m n : ℕ) (c : Place) (known : IsInterval box A m n c) where
  abbrev between_of : BetweenOptions → (d e : Constant) → Tree Place
  between_of o d e = between o (column c) (literal d) (literal e)

  -- what the AND of a BETWEEN's two comparisons proves, and that it is right both ways
  pub record Halved (o : BetweenOptions) (d e : Constant) : Type 0 where
    pub proof : Tree Place
    pub proof_is : halves_node Falsify [] o (column c) (literal d) (literal e) ≡ Some proof
    pub closed : has_bare_column proof ≡ false
    pub says : Bool
    pub proof_told : value_under A n proof ≡ Some (value.Bool says)
    pub refutes : says ≡ true → (row : List Constant) → AllByRecursion (IsWithin box row) (c ∷ []) → satisfies (between_of o d e) row n ≡ false
    pub finds : says ≡ false → (f : Choice) × AllByRecursion (IsBetween box f) (c ∷ []) × (satisfies (between_of o d e) (row_with f m) n ≡ true)

  module _ (o : BetweenOptions) (d e : Constant) (l u : ScalarValue) (l_is : d.value ≡ Some l) (u_is : e.value ≡ Some u)
      (l_fits : is_value l c.dtype ≡ true) (u_fits : is_value u c.dtype ≡ true) where
    abbrev low_test : ScalarValue → Bool
    low_test z = holds (to_operator o.lower_strict) (value_cmp l z)

    abbrev high_test : ScalarValue → Bool
    high_test z = holds (to_operator o.upper_strict) (value_cmp z u)

    abbrev lower : Tree Place
    lower = binary (to_operator o.lower_strict) (literal d) (column c)

    abbrev upper : Tree Place
    upper = binary (to_operator o.upper_strict) (column c) (literal e)

    lower_says : (row : List Constant) (z : ScalarValue) → cell_value (slice_get row c.index) ≡ Some z → satisfies lower row n ≡ low_test z
    lower_says row z is =
        ap (λ b. is_true (truth_value b)) (end_compares o.lower_strict d.value (cell_value (slice_get row c.index)))
        ∙ (λ i. is_true (truth_value (compared (to_operator o.lower_strict) (l_is i) (is i))))

    upper_says : (row : List Constant) (z : ScalarValue) → cell_value (slice_get row c.index) ≡ Some z → satisfies upper row n ≡ high_test z
    upper_says row z is =
        ap (λ b. is_true (truth_value b)) (end_compares o.upper_strict (cell_value (slice_get row c.index)) e.value)
        ∙ (λ i. is_true (truth_value (compared (to_operator o.upper_strict) (is i) (u_is i))))

    both_say : (row : List Constant) → satisfies (between_of o d e) row n ≡ (satisfies lower row n && satisfies upper row n)
    both_say row = sym (between_is row n o (column c) (literal d) (literal e)) ∙ true_and (meaning lower row n) (meaning upper row n)

    -- a choice within the box that lies between
    abbrev Chosen : Type 0
    Chosen = (f : Choice) × AllByRecursion (IsBetween box f) (c ∷ []) × (satisfies (between_of o d e) (row_with f m) n ≡ true)

    record Candidate (z : ScalarValue) : Type 0 where
      fits : is_value z c.dtype ≡ true
      low_z : value_le (box.low c.index) z ≡ true
      z_high : value_le z (box.high c.index) ≡ true

    chosen : (z : ScalarValue) → Candidate z → low_test z ≡ true → high_test z ≡ true → Chosen
    chosen z k h g =
        let row = row_with (λ i. z) m in
        let cell = cell_with (λ i. z) m c.index known.inside in (
          (λ i. z),
          (record { of_type = k.fits; above_low = k.low_z; below_high = k.z_high }, tt),
          both_say row ∙ ap₂ ◌&&◌ (lower_says row z cell ∙ h) (upper_says row z cell ∙ g),
        )

    module _ (meets_low : holds (to_operator o.lower_strict) (value_cmp l u) ≡ true) (meets_high : holds (to_operator o.upper_strict) (value_cmp l u) ≡ true) (one : has_closed_end o ≡ true) where
      -- of two values in the box, one above the lower end and one below the upper one, or else of the ends, one lies between
      of_two : (v w : ScalarValue) → Candidate v → Candidate w → low_test v ≡ true → high_test w ≡ true → (s t : Bool) → high_test v ≡ s → low_test w ≡ t → Chosen
      of_two v w kv kw above below true t e f = chosen v kv above e
      of_two v w kv kw above below false true e f = chosen w kw f below
      of_two v w kv kw above below false false e f =
          let l_u = end_le o.lower_strict l u meets_low in
          let low_l = le_trans (box.low c.index) w l kw.low_z (end_back o.lower_strict l w f) in
          let u_high = le_trans u v (box.high c.index) (end_back o.upper_strict v u e) kv.z_high in
          ⊎_elim
          (λ h. chosen l (record { fits = l_fits; low_z = low_l; z_high = le_trans l u (box.high c.index) l_u u_high }) (closed_self o.lower_strict l h) meets_high)
          (λ h. chosen u (record { fits = u_fits; low_z = le_trans (box.low c.index) l u low_l l_u; z_high = u_high }) meets_low (closed_self o.upper_strict u h))
          (or_cases (is_closed_end o.lower_strict) (is_closed_end o.upper_strict) one)

      module _ (below : Decided box A m n lower) (above : Decided box A m n upper) where
        candidate : (f : Choice) → AllByRecursion (IsBetween box f) (c ∷ []) → Candidate (f c.index)
        candidate f k = record { fits = k.0.of_type; low_z = k.0.above_low; z_high = k.0.below_high }

        found : below.says ≡ false → above.says ≡ false → Chosen
        found h g =
            let v = below.finds h in
            let w = above.finds g in
            let z = v.0 c.index in
            let y = w.0 c.index in
            of_two z y (candidate v.0 v.1) (candidate w.0 w.1)
            (sym (lower_says (row_with v.0 m) z (cell_with v.0 m c.index known.inside)) ∙ v.2)
            (sym (upper_says (row_with w.0 m) y (cell_with w.0 m c.index known.inside)) ∙ w.2)
            (high_test z) (low_test y) refl refl

        pub halved : Halved o d e
        halved = record {
          proof = binary Or below.proof above.proof;
          proof_is =
              (λ i. proved Falsify [] (binary And lower upper) (option_to_list (either_of (binary Or)
              ((end_node o.lower_strict (literal d) (column c) (falsifier [] (literal d)) None ∙ below.proof_is) i)
              ((end_node o.upper_strict (column c) (literal e) None (falsifier [] (literal e)) ∙ above.proof_is) i))))
              ∙ one_proof (binary And lower upper) (binary Or below.proof above.proof);
          closed = λ i. below.closed i || above.closed i;
          says = below.says || above.says;
          proof_told = (λ i. truth_value (either (truth (below.proof_told i)) (truth (above.proof_told i)))) ∙ ap truth_value (either_known below.says above.says);
          refutes = λ h row within.
              both_say row
              ∙ ⊎_elim
              (λ k. and_left (satisfies lower row n) (satisfies upper row n) (below.refutes k row within))
              (λ k. and_right (satisfies lower row n) (satisfies upper row n) (above.refutes k row within))
              (or_cases below.says above.says h);
          finds = λ h. let k = or_parts below.says above.says h in found k.0 k.1;
        }

  -- a BETWEEN that is rewritten by such ends is decided by them
  pub moved_decided : (o q : BetweenOptions) (d e a b : Constant) → ends o (literal d) (literal e) ≡ Some (record { options = q; lower = literal a; upper = literal b })
      → IsMoved o (column c) (literal d) (literal e) (record { options = q; lower = literal a; upper = literal b }) → Halved q a b → Decided box A m n (between_of o d e)
  moved_decided o q d e a b is moved h = record {
    proof = h.proof;
    proof_is = (λ i. proved Falsify [] (between_of o d e) (option_to_list (ends_node Falsify [] (column c) (is i)))) ∙ ap (λ p. proved Falsify [] (between_of o d e) (option_to_list p)) h.proof_is ∙ one_proof (between_of o d e) h.proof;
    closed = h.closed;
    says = h.says;
    proof_told = h.proof_told;
    refutes = λ s row within. sym (moved.same row n) ∙ h.refutes s row within;
    finds = λ s. let f = h.finds s in (f.0, f.1, sym (moved.same (row_with f.0 m) n) ∙ f.2);
  }

  -- and one between whose ends no value lies is always false
  pub never_decided : (o : BetweenOptions) (d e : Constant) → ends o (literal d) (literal e) ≡ None → ((row : List Constant) (n : ℕ) → satisfies (between_of o d e) row n ≡ false) → Decided box A m n (between_of o d e)
  never_decided o d e is never = record {
    proof = bool_literal true;
    proof_is = (λ i. proved Falsify [] (between_of o d e) (option_to_list (ends_node Falsify [] (column c) (is i)))) ∙ one_proof (between_of o d e) (bool_literal true);
    closed = refl;
    says = true;
    proof_told = refl;
    refutes = λ s row within. never row n;
    finds = λ s. cc;
  }
