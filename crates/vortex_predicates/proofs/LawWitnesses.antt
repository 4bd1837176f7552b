-- Witnesses of the laws of pruning by normal forms and of boxes that go far enough, whose premises stand in their definitions.
use Rattle.std.specs.Prelude.{◌≡◌, ◌↔◌, ℕ, false, true, codes, IsTrue, List, [], Some, None, refl}
use Rattle.std.specs.List.{AllByRecursion}
use Rattle.std.specs.Str.{chars}
use Rattle.vortex_base.specs.Data.Scalars.{Constant}
use Rattle.vortex_base.specs.declared.aggregate.AggregateFnRef.TheVariants.{Max, Min}
use Rattle.vortex_base.specs.declared.dtype.DType.TheVariants as dtype
use Rattle.vortex_base.specs.declared.scalar_value.ScalarValue.TheVariants as value
use Rattle.vortex_base.specs.declared.types.Nullability.TheVariants.{NonNullable, Nullable}
use Rattle.vortex_expr.specs.Meanings.Fitting.{fits_scope}
use Rattle.vortex_expr.specs.Patterns.Like.{matches, plain}
use Rattle.vortex_expr.specs.Trees.Tree.{Place, Tree, column, is_plain, like, literal}
use Rattle.vortex_normal.specs.Groups.{normal}
use Rattle.vortex_normal.specs.Pushed.{all_of, any_of, comparison, comparison_of, folded, settled}
use Rattle.vortex_normal.specs.Same.{HasNoOther, Same, StaysPlain}
use Rattle.vortex_predicates.proofs.PredicateWitnesses.{low_box, low_box_known, low_box_ordered, none_above, same_form}
use Rattle.vortex_predicates.specs.Beyond.{IsBeyond, IsBounded, operands_of}
use Rattle.vortex_predicates.specs.EqualBounds.{form_proof}
use Rattle.vortex_predicates.specs.Full.{IsFitted}
use Rattle.vortex_predicates.specs.NullBoxes.{NullBox, goes_far, is_null_apart}
use Rattle.vortex_predicates.specs.WorkedNulls.{above, least_alone, other, sides, three_rows, with_bounds}
use Rattle.vortex_prune.proofs.WorkedRows.Witnesses.Parts.{above_ten, high_is_part, low, low_is_part, mixed_is_part, parts}
use Rattle.vortex_prune.proofs.WorkedRows.Witnesses.Pruning.{shut}
use Rattle.vortex_prune.proofs.WorkedRows.Witnesses.Ranges.{Rows, lossy, lossy_is_not_all}
use Rattle.vortex_prune.specs.Part.{zone_of}
use Rattle.vortex_prune.specs.Scanning.Complete.{IsBoxIn}
use Rattle.vortex_prune.specs.Scanning.Selection.{full, proves_of}
use Rattle.vortex_rewrite.specs.Rewriting.Falsifiers.{bool_literal, node, reduce_balanced}
use Rattle.vortex_rewrite.specs.Rewriting.Proof.{Assignment}
use Rattle.vortex_rewrite.specs.Rewriting.ReadOnce.{IsInOrder, IsSatisfiable, columns_of}
use Rattle.vortex_zone_map.proofs.WorkedRows.Witnesses.{IsWitness, scope}
use Rattle.vortex_zone_map.specs.Zone.{IsZone, ZoneData}

-- ---- normal forms

-- a row is lost of those that the predicate selects
same_selects_the_same : IsWitness
    (IsTrue (is_plain above_ten) × IsTrue (is_plain (normal above_ten)) × Same above_ten (normal above_ten) × AllByRecursion (IsFitted above_ten) parts)
    (λ (selected : Rows). selected ≡ full above_ten parts) lossy
unfolding all_of any_of comparison comparison_of folded settled
same_selects_the_same = record {
  met = (refl, refl, same_form.same, ((low_is_part, refl), ((mixed_is_part, refl), ((high_is_part, refl), tt))));
  refuted = lossy_is_not_all;
}

-- a predicate that is always true is satisfied where the given one isn't
satisfiability_is_carried : IsWitness
    (IsTrue (is_plain above_ten) × Same above_ten (normal above_ten) × HasNoOther above_ten (normal above_ten) × StaysPlain above_ten (normal above_ten) × IsZone scope (zone_of low)
    × IsTrue (fits_scope above_ten scope) × IsBoxIn (zone_of low).stats above_ten low_box × IsInOrder above_ten low_box)
    (λ (form : Tree Place). IsSatisfiable form low_box 2 ↔ IsSatisfiable above_ten low_box 2) (bool_literal true)
satisfiability_is_carried = record {
  met = (refl, same_form.same, same_form.columns, same_form.plain, refl, refl, low_box_known, low_box_ordered);
  refuted = λ h. none_above (h.0 ([], tt, refl));
}

-- ---- boxes: of a column whose greatest value isn't known one up to 6 goes far enough for `a > 5`, and one up to 5 doesn't

abbrev without_greatest : ZoneData
without_greatest = three_rows (least_alone 2 0) other

beyond : IsBeyond without_greatest (sides 2 6 0 9) (operands_of above)
beyond = ((λ differ. absurd (differ refl), (λ differ. refl, tt)), ((λ differ. refl, (λ differ. absurd (differ refl), tt)), tt))

beyond_goes_far : IsWitness (IsTrue (is_null_apart above) × IsBeyond without_greatest (sides 2 6 0 9) (operands_of above)) (λ (box : NullBox). IsTrue (goes_far without_greatest box above))
    (sides 2 5 0 9)
beyond_goes_far = record { met = (refl, beyond); refuted = shut }

-- of known bounds one up to 5 does
bounded_goes_far : IsWitness (AllByRecursion (IsBounded (three_rows (with_bounds 2 5 0) other) (sides 2 5 0 9)) (columns_of above)) (λ (zone : ZoneData). IsTrue (goes_far zone (sides 2 5 0 9) above))
    without_greatest
bounded_goes_far = record { met = (λ some. (refl, refl), tt); refuted = shut }

-- ---- one text: it doesn't end in c, and where the greatest text is another nothing is proved

abbrev of_texts : (least greatest : List ℕ) → Assignment
of_texts least greatest Min x = Some (value.Utf8 least)
of_texts least greatest Max x = Some (value.Utf8 greatest)
of_texts least greatest f x = None

abbrev texts : Place
texts = record { index = 3; dtype = dtype.Utf8 Nullable }

abbrev pattern : Constant
pattern = record { dtype = dtype.Utf8 NonNullable; value = Some (value.Utf8 (codes "%c")) }

one_text_is_told : IsWitness
    ((of_texts (codes "ab") (codes "ab") Min (column texts) ≡ Some (value.Utf8 (codes "ab"))) × (of_texts (codes "ab") (codes "ab") Max (column texts) ≡ Some (value.Utf8 (codes "ab")))
    × (pattern.value ≡ Some (value.Utf8 (codes "%c"))) × (matches plain (codes "%c") (codes "ab") ≡ false))
    (λ (A : Assignment). IsTrue (proves_of (form_proof [] (like plain (column texts) (literal pattern))) 2 A)) (of_texts (codes "ab") (codes "ac"))
unfolding node reduce_balanced chars lib.Utf8.encode
one_text_is_told = record { met = (refl, refl, refl, refl); refuted = shut }
