-- The marks of what proofs name.
use Rattle.std.proofs.Common.{◌≡◌, ◌==◌, ◌<◌, ◌≤◌, ◌*◌, ◌||◌, ℕ, zero, suc, Bool, true, false, List, ap, arith, eq-eqb, eqb-true, inl, inr, length, refl, sym, ◌∙◌}
use Rattle.std.proofs.lemmas.Option.{same_Some, slice_get-get_or, slice_get_within}
use Rattle.std.specs.Prelude.{replicate, slice_get, slice_set}
use Rattle.vortex_base.specs.Data.Exact.{both_hold, both_true}
use Rattle.vortex_base.specs.declared.aggregate.AggregateFnRef.{AggregateFnRef}
use Rattle.vortex_base.specs.declared.aggregate.AggregateFnRef.TheVariants as aggregate
use Rattle.vortex_expr.specs.Trees.Tree.{Place, column}
use Rattle.vortex_expr.specs.Trees.TreeEq.{aggregate_eq}
use Rattle.vortex_zone_map.proofs.TableLemmas.{set_elsewhere, set_there}
use Rattle.vortex_zone_map.proofs.ZoneMaps.HeadPlaces.{aggregate_eq_is_exact}
use Rattle.vortex_capi.specs.NamedStats.{AreMarks, asks, code, mark_place}
use Rattle.vortex_capi.proofs.PlaceLemmas.{column_within, own_place, replicated, same_or_not, untrue}

-- ---- the number of an aggregate

pub code_below : (f : AggregateFnRef) → code f < 9
code_below aggregate.Max = omega arith
code_below aggregate.Min = omega arith
code_below aggregate.Sum = omega arith
code_below aggregate.NullCount = omega arith
code_below aggregate.NanCount = omega arith
code_below aggregate.UncompressedSizeInBytes = omega arith
code_below aggregate.AllNull = omega arith
code_below aggregate.AllNonNull = omega arith
code_below aggregate.MinMax = omega arith

abbrev coded : ℕ → AggregateFnRef
coded zero = aggregate.Max
coded (suc zero) = aggregate.Min
coded (suc (suc zero)) = aggregate.Sum
coded (suc (suc (suc zero))) = aggregate.NullCount
coded (suc (suc (suc (suc zero)))) = aggregate.NanCount
coded (suc (suc (suc (suc (suc zero))))) = aggregate.UncompressedSizeInBytes
coded (suc (suc (suc (suc (suc (suc zero)))))) = aggregate.AllNull
coded (suc (suc (suc (suc (suc (suc (suc zero))))))) = aggregate.AllNonNull
coded (suc (suc (suc (suc (suc (suc (suc (suc n)))))))) = aggregate.MinMax

coded_is : (f : AggregateFnRef) → coded (code f) ≡ f
coded_is aggregate.Max = refl
coded_is aggregate.Min = refl
coded_is aggregate.Sum = refl
coded_is aggregate.NullCount = refl
coded_is aggregate.NanCount = refl
coded_is aggregate.UncompressedSizeInBytes = refl
coded_is aggregate.AllNull = refl
coded_is aggregate.AllNonNull = refl
coded_is aggregate.MinMax = refl

same_code : (f g : AggregateFnRef) → code f ≡ code g → f ≡ g
same_code f g same = sym (coded_is f) ∙ ap coded same ∙ coded_is g

-- ---- one more mark

or_false : (b : Bool) → (b || false) ≡ b
or_false true = refl
or_false false = refl

or_true : (b : Bool) → (b || true) ≡ true
or_true true = refl
or_true false = refl

module _ (f : AggregateFnRef) (c : Place) (i : ℕ) (g : AggregateFnRef) where
  -- what is asked for has its own mark
  place_of : asks f (column c) i g ≡ true → mark_place i g ≡ mark_place c.index f
  place_of is =
      let both = both_true (c.index == i) (aggregate_eq f g) is in
      let at = eqb-true c.index i both.0 in
      let number = ap code ((aggregate_eq_is_exact f g).0 both.1) in
      omega (arith, at, number)

  of_place : mark_place i g ≡ mark_place c.index f → asks f (column c) i g ≡ true
  of_place same =
      let both = own_place i c.index (code g) (code f) (code_below g) (code_below f) same in
      both_hold _ _ (eq-eqb c.index i (sym both.0)) ((aggregate_eq_is_exact f g).1 (same_code f g (sym both.1)))

module _ (asked : ℕ → AggregateFnRef → Bool) where
  module _ (f : AggregateFnRef) (c : Place) (marks : List Bool) (are : AreMarks asked marks) where
    abbrev more : ℕ → AggregateFnRef → Bool
    more i g = asked i g || asks f (column c) i g

    -- an aggregate of a column that has a place
    pub one_more_mark : mark_place c.index f < length marks → AreMarks more (slice_set marks (mark_place c.index f) true)
    one_more_mark within =
        let own = mark_place c.index f in
        record {
          told = λ i g b at. elim (same_or_not (mark_place i g) own) [
            | inl same ↦
                let here : true ≡ b = same_Some true b (sym (set_there marks own _ true (slice_get-get_or marks own false within)) ∙ ap (slice_get (slice_set marks own true)) (sym same) ∙ at) in
                sym here ∙ sym (ap (λ a. asked i g || a) (of_place f c i g same) ∙ or_true (asked i g))
            | inr different ↦
                let not = untrue (asks f (column c) i g) (λ is. different (place_of f c i g is)) in
                are.told i g b (sym (set_elsewhere marks own (mark_place i g) true (λ e. different (sym e))) ∙ at)
                ∙ sym (ap (λ a. asked i g || a) not ∙ or_false (asked i g))
          ];
        }

    -- one of a column that has none
    pub mark_passed : (columns : ℕ) → length marks ≡ columns * 9 → columns ≤ c.index → AreMarks more marks
    mark_passed columns wide past = record {
      told = λ i g b at.
          let not = untrue (asks f (column c) i g) (λ is.
          let column = eqb-true c.index i (both_true (c.index == i) (aggregate_eq f g) is).0 in
          let within = slice_get_within marks (mark_place i g) b at in
          let less = column_within i columns (code g) (omega (arith, within, wide)) in
          omega (arith, column, less, past)) in
          are.told i g b at ∙ sym (ap (λ a. asked i g || a) not ∙ or_false (asked i g));
    }

-- none yet
pub no_marks : (m : ℕ) (marks : List Bool) → marks ≡ replicate m false → AreMarks (λ i g. false) marks
no_marks m marks none = record { told = λ i g b at. sym (replicated m false (mark_place i g) b (ap (λ l. slice_get l (mark_place i g)) (sym none) ∙ at)) }
