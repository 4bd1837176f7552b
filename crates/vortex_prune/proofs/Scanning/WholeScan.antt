-- A scan with honest binders selects what the full scan does, and one by the parts' own statistics skips exactly what they rule out.
use Rattle.std.proofs.Common.{◌≡◌, ◌↔◌, ℕ, zero, suc, true, List, [], ◌∷◌, Ok, Err, Some, Result, IsTrue, IsOk, IfOk, All, map, length, refl, sym, ap, subst, ◌∙◌, arith}
use Rattle.std.specs.List.{AllByRecursion}
use Rattle.std.specs.Prelude.{Contains, option_map, slice_get}
use Rattle.std.proofs.lemmas.List.{length-map}
use Rattle.std.proofs.lemmas.List.Elements.{recursion_from_All}
use Rattle.std.proofs.lemmas.Option.{same_Some, slice_get-map, slice_get_within}
use Rattle.vortex_base.specs.Data.Columns.{row_count as rows_of}
use Rattle.vortex_expr.specs.Meanings.Fitting.{fits_scope}
use Rattle.vortex_base.specs.Data.Scalars.{Constant}
use Rattle.vortex_expr.specs.Trees.Tree.{Place, Tree, is_plain}
use Rattle.vortex_expr.specs.Meanings.Typing.{is_bool, type_of}
use Rattle.vortex_base.specs.declared.dtype.DType.{DType}
use Rattle.vortex_base.specs.declared.error.BaseError.{BaseError}
use Rattle.vortex_prune.proofs.Binding.BoundValues.{has_a_type}
use Rattle.vortex_prune.proofs.Scanning.BinderScan.{element_there}
use Rattle.vortex_prune.proofs.Scanning.Lossless.{IsAnswered, selected_full}
use Rattle.vortex_prune.proofs.Scanning.SkippedParts.{scans_skip_exactly}
use Rattle.vortex_rewrite.specs.Rewriting.ReadOnce.{IsSatisfiable, has_disjoint_ands}
use Rattle.vortex_prune.specs.Scanning.Complete.{IsBoxIn, SkipsExactly, by_own_statistics}
use Rattle.vortex_rewrite.specs.Rewriting.Lawful.{OwnRule}
use Rattle.vortex_prune.specs.Part.{AreParts, IsPart, PartData, zone_of}
use Rattle.vortex_zone_map.specs.Zone.{ZoneData}
use Rattle.vortex_prune.specs.Zones.{zones_of}
use Rattle.vortex_prune.specs.Binding.PartAnswers.{part_values}
use Rattle.vortex_rewrite.specs.Rewriting.Predicates.{has_type, is_predicate}
use Rattle.vortex_rewrite.specs.Rewriting.Proof.{Assignment}
use Rattle.vortex_rewrite.specs.Rewriting.Falsifiers.{falsifier, satisfier}
use Rattle.vortex_prune.specs.Scanning.Selection.{AreByStatistics, AreHonest, answered, full, selected_rows, skipped_parts}

abbrev Fits : Tree Place → PartData → Type 0
Fits p part = IsTrue (fits_scope p part.chunk.scope)

pub parts_by_recursion : (parts : List PartData) → AreParts parts → AllByRecursion IsPart parts
parts_by_recursion [] h = tt
parts_by_recursion (p ∷ parts) h = (h 0 p refl, parts_by_recursion parts (λ i part e. h (suc i) part e))

pub all_at : (P : PartData → Type 0) (parts : List PartData) (i : ℕ) (part : PartData) → AllByRecursion P parts → slice_get parts i ≡ Some part → P part
all_at P [] i part h e = absurd cc
all_at P (q ∷ parts) zero part h e = subst P (same_Some q part e) h.0
all_at P (q ∷ parts) (suc i) part h e = all_at P parts i part h.1 e

pub predicate_typed : (t : Result DType BaseError) → has_type is_bool t ≡ true → IsOk t
predicate_typed (Ok t) h = has_a_type (Ok t) t refl
predicate_typed (Err f) h = absurd cc

pub typed_bool : (p : Tree Place) (r : Result DType BaseError) → type_of p ≡ r → has_type is_bool r ≡ true → (t : DType) × (type_of p ≡ Ok t) × IsTrue (is_bool t)
typed_bool p (Ok t) e h = (t, e, h)
typed_bool p (Err f) e h = absurd cc

-- what follows from two things that are so of an answer is so of it
pub of_two : {X E : Type 0} (r : Result X E) (P Q T : X → Type 0) → ((x : X) → P x → Q x → T x) → IfOk r P → IfOk r Q → IfOk r T
of_two (Ok x) P Q T f p q = f x p q
of_two (Err e) P Q T f p q = tt

module _ {S : Type 0} (value : S → List Constant → ℕ → Assignment) where
  all_answered : (p : Tree Place) (parts : List PartData) (binders : List S) → length binders ≡ length parts → AllByRecursion (Fits p) parts → AllByRecursion IsPart parts → AreHonest value parts binders
      → AllByRecursion (IsAnswered p) (answered value parts binders)
  all_answered p [] binders long fits are honest = tt
  all_answered p (q ∷ parts) [] long fits are honest = tt
  all_answered p (q ∷ parts) (b ∷ binders) long fits are honest =
      (record { chunk = are.0.0; fits = fits.0; honest = honest.0 }, all_answered p parts binders (omega (arith, long)) fits.1 are.1 honest.1)

  same_parts : (parts : List PartData) (binders : List S) → length binders ≡ length parts → map (λ q. q.0) (answered value parts binders) ≡ parts
  same_parts [] binders long = refl
  same_parts (q ∷ parts) [] long = absurd (omega (arith, long))
  same_parts (q ∷ parts) (b ∷ binders) long = ap (λ l. q ∷ l) (same_parts parts binders (omega (arith, long)))

  -- with honest binders what is kept is what the full scan selects
  pub kept_is_full : (rules : List OwnRule) (p : Tree Place) (parts : List PartData) (binders : List S) → length binders ≡ length parts → IsTrue (is_predicate p) → IsTrue (is_plain p)
      → All (Fits p) parts → AreParts parts → AreHonest value parts binders → selected_rows (falsifier rules p) (satisfier rules p) p (answered value parts binders) ≡ full p parts
  kept_is_full rules p parts binders long predicate plain fits are honest =
      selected_full rules p (predicate_typed (type_of p) predicate) plain (falsifier rules p) (satisfier rules p) (answered value parts binders) refl refl
      (all_answered p parts binders long (recursion_from_All (Fits p) parts fits) (parts_by_recursion parts are) honest)
      ∙ ap (full p) (same_parts parts binders long)

  by_statistics : (parts : List PartData) (binders : List S) → length binders ≡ length parts → AreByStatistics value parts binders → answered value parts binders ≡ by_own_statistics parts
  by_statistics [] binders long own = refl
  by_statistics (q ∷ parts) [] long own = absurd (omega (arith, long))
  by_statistics (q ∷ parts) (b ∷ binders) long own =
      ap (λ (a : Assignment). (q, a) ∷ answered value parts binders) own.0 ∙ ap (λ l. (q, part_values q) ∷ l) (by_statistics parts binders (omega (arith, long)) own.1)

  -- by built-in rules and the parts' own statistics a predicate whose ANDs are apart skips exactly what its bounds rule out
  pub skips_exactly : (p : Tree Place) (parts : List PartData) (binders : List S) (skipped : List ℕ) → length binders ≡ length parts → IsTrue (is_predicate p) → All (Fits p) parts → AreParts parts
      → AreByStatistics value parts binders → IsTrue (has_disjoint_ands p) → skipped ≡ skipped_parts (falsifier [] p) (answered value parts binders) → SkipsExactly p parts skipped
  skips_exactly p parts binders skipped long predicate fits are own once is i zone box there is_box order =
      let t = typed_bool p (type_of p) refl predicate in
      let same : skipped ≡ skipped_parts (falsifier [] p) (by_own_statistics parts) = is ∙ ap (skipped_parts (falsifier [] p)) (by_statistics parts binders long own) in
      let q = element_there parts i (omega (arith, slice_get_within (zones_of parts) i zone there, length-map parts zone_of)) in
      let stands : zone_of q.0 ≡ zone = same_Some (zone_of q.0) zone (sym (slice_get-map zone_of parts i ∙ ap (option_map zone_of) q.1) ∙ there) in
      subst (λ (z : ZoneData). IsBoxIn z.stats p box → Contains skipped i ↔ ¬ IsSatisfiable p box z.rows) stands
      (λ known.
      subst (λ (l : List ℕ). Contains l i ↔ ¬ IsSatisfiable p box (rows_of q.0.chunk.columns)) (sym same)
      (scans_skip_exactly p t.0 parts i q.0 box t.1 t.2 q.1 (are i q.0 q.1) (all_at (Fits p) parts i q.0 (recursion_from_All (Fits p) parts fits) q.1) once known order))
      is_box
