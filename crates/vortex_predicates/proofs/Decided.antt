-- Pruning is complete for the predicates that bounds decide.
use Rattle.std.proofs.Common.{◌&&◌, ℕ, List, [], Option, IsTrue, ⊎_elim, refl}
use Rattle.std.proofs.lemmas.Bool.{and_parts, or_cases}
use Rattle.vortex_base.specs.Data.Scopes.{Named}
use Rattle.vortex_expr.specs.Meanings.Fitting.{fits_scope}
use Rattle.vortex_expr.specs.Meanings.Typing.{type_of}
use Rattle.vortex_expr.specs.Trees.Tree.{Tree, Place}
use Rattle.vortex_normal.specs.Groups.{normal}
use Rattle.vortex_predicates.specs.Complete.{is_decided}
use Rattle.vortex_predicates.specs.Pruning.{SkipsNoFewer, SkipsUnsatisfiable, is_within}
use Rattle.vortex_prune.proofs.Scanning.Boxes.{skipping_is_complete}
use Rattle.vortex_prune.proofs.Scanning.SkippedParts.{place_listed}
use Rattle.vortex_prune.proofs.Scanning.WholeScan.{typed_bool}
use Rattle.vortex_prune.specs.Binding.PartAnswers.{told_values}
use Rattle.vortex_zone_map.specs.Zone.{AreZonesOf, ZoneData}
use Rattle.vortex_prune.specs.Scanning.Selection.{proves_of}
use Rattle.vortex_rewrite.specs.Rewriting.Falsifiers.{falsifier}
use Rattle.vortex_rewrite.specs.Rewriting.Predicates.{is_predicate}
use Rattle.vortex_rewrite.specs.Rewriting.ReadOnce.{has_disjoint_ands}

-- the zones that a predicate's own falsifier skips are all that have to be, where its ANDs are apart
own_complete : (p : Tree Place) (scope : List Named) (zones : List ZoneData) (skipped : List ℕ) → SkipsNoFewer [] p scope zones skipped → IsTrue (is_predicate p) → IsTrue (fits_scope p scope) → AreZonesOf scope zones → IsTrue (has_disjoint_ands p)
    → SkipsUnsatisfiable p zones skipped
own_complete p scope zones skipped no_fewer predicate fits are apart i zone box there is_box order none =
    let t = typed_bool p (type_of p) refl predicate in
    let found = skipping_is_complete p t.0 scope zone box t.1 t.2 (are i zone there) fits apart is_box order in
    no_fewer i zone there ((place_listed (λ (z : ZoneData). proves_of (falsifier [] p) z.rows (told_values scope z)) zones i zone there).1 (found.1 none))

-- by the predicate as it is, or by its normal form
pub decided_complete : (levels : Option ℕ) (p : Tree Place) (scope : List Named) (zones : List ZoneData) (skipped : List ℕ) → SkipsNoFewer [] p scope zones skipped → IsTrue (is_predicate p) → IsTrue (fits_scope p scope) → AreZonesOf scope zones
    → (IsTrue (is_within levels (normal p)) → IsTrue (has_disjoint_ands (normal p)) → SkipsUnsatisfiable p zones skipped) → IsTrue (is_decided levels p) → SkipsUnsatisfiable p zones skipped
decided_complete levels p scope zones skipped no_fewer predicate fits are by_form decided =
    ⊎_elim {B = IsTrue (is_within levels (normal p) && has_disjoint_ands (normal p))} (λ apart. own_complete p scope zones skipped no_fewer predicate fits are apart)
    (λ form. let both = and_parts (is_within levels (normal p)) (has_disjoint_ands (normal p)) form in by_form both.0 both.1)
    (or_cases (has_disjoint_ands p) (is_within levels (normal p) && has_disjoint_ands (normal p)) decided)
