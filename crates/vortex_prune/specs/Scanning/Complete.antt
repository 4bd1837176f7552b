-- Which parts the bounds of their columns decide: predicates whose ANDs are apart, over the box that a part's statistics know.
use Rattle.std.specs.Prelude.{◌≡◌, ◌↔◌, ℕ, List, [], Some, Ok, IsTrue, MatchOption, slice_get, map, Contains}
use Rattle.std.specs.List.{AllByRecursion}
use Rattle.vortex_base.specs.declared.dtype.DType.{DType}
use Rattle.vortex_base.specs.Data.Columns.{row_count as rows_of}
use Rattle.vortex_base.specs.Data.Scopes.{Named}
use Rattle.vortex_expr.specs.Meanings.Fitting.{fits_scope}
use Rattle.vortex_expr.specs.Trees.Tree.{Tree, Place}
use Rattle.vortex_expr.specs.Meanings.Typing.{is_bool, type_of}
use Rattle.vortex_stats.specs.Sets.Entries.{entry_value}
use Rattle.vortex_stats.specs.Precision.{present_value}
use Rattle.vortex_stats.specs.declared.stat.Stat.TheVariants.{Max, Min}
use Rattle.vortex_prune.specs.Part.{IsPart, PartData}
use Rattle.vortex_zone_map.specs.Zone.{Entries, IsZone, ZoneData}
use Rattle.vortex_prune.specs.Binding.PartAnswers.{part_values, told_values}
use Rattle.vortex_prune.specs.Zones.{zones_of}
use Rattle.vortex_rewrite.specs.Rewriting.Proof.{proves}
use Rattle.vortex_rewrite.specs.Rewriting.Falsifiers.{falsifier}
use Rattle.vortex_prune.specs.Scanning.Selection.{Answered, proves_of, skipped_parts}
use Rattle.vortex_rewrite.specs.Rewriting.ReadOnce.{Box, IsInOrder, IsSatisfiable, columns_of, has_disjoint_ands}

-- ---- the boxes of parts

-- the least and the greatest value that a set knows, at either precision, are the box's
abbrev pub IsKnownBy : Box → ℕ → Entries → Type 0
IsKnownBy box i es = (present_value (entry_value Min es) ≡ Some (box.low i)) × (present_value (entry_value Max es) ≡ Some (box.high i))

-- the box of some sets: for each column of the predicate both are known
abbrev pub IsBoxIn : List Entries → Tree Place → Box → Type 0
IsBoxIn sets p box = AllByRecursion (λ c. MatchOption (slice_get sets c.index) ⊥ (IsKnownBy box c.index)) (columns_of p)

-- the box of a part
abbrev pub IsBoxOf : PartData → Tree Place → Box → Type 0
IsBoxOf part p box = IsBoxIn part.stats p box

-- ---- the theorems

-- over the sets of a zone that know a box in order, a predicate whose ANDs are apart has a falsifier, and that is true exactly if no choice within the box satisfies the predicate
abbrev pub FalsifiersAreComplete : Type 0
FalsifiersAreComplete =
    (p : Tree Place) (t : DType) (scope : List Named) (zone : ZoneData) (box : Box) → type_of p ≡ Ok t → IsTrue (is_bool t) → IsZone scope zone → IsTrue (fits_scope p scope) →
    IsTrue (has_disjoint_ands p) → IsBoxIn zone.stats p box → IsInOrder p box →
    (e : Tree Place) × (falsifier [] p ≡ Some e) × (IsTrue (proves e (told_values scope zone) zone.rows) ↔ ¬ IsSatisfiable p box zone.rows)

-- so a zone is skipped under a predicate whose ANDs are apart exactly if no choice within its box satisfies the predicate
abbrev pub SkippingIsComplete : Type 0
SkippingIsComplete =
    (p : Tree Place) (t : DType) (scope : List Named) (zone : ZoneData) (box : Box) → type_of p ≡ Ok t → IsTrue (is_bool t) → IsZone scope zone → IsTrue (fits_scope p scope) →
    IsTrue (has_disjoint_ands p) → IsBoxIn zone.stats p box → IsInOrder p box →
    IsTrue (proves_of (falsifier [] p) zone.rows (told_values scope zone)) ↔ ¬ IsSatisfiable p box zone.rows

-- the parts, each with the answers of its own statistics
abbrev pub by_own_statistics : List PartData → List Answered
by_own_statistics parts = map (λ part. (part, part_values part)) parts

-- in a scan by built-in rules and each part's own statistics, a part's place is among the skipped ones exactly if no choice within its box satisfies the predicate
abbrev pub ScansSkipExactly : Type 0
ScansSkipExactly =
    (p : Tree Place) (t : DType) (parts : List PartData) (i : ℕ) (part : PartData) (box : Box) → type_of p ≡ Ok t → IsTrue (is_bool t) →
    slice_get parts i ≡ Some part → IsPart part → IsTrue (fits_scope p part.chunk.scope) → IsTrue (has_disjoint_ands p) → IsBoxOf part p box → IsInOrder p box →
    Contains (skipped_parts (falsifier [] p) (by_own_statistics parts)) i ↔ ¬ IsSatisfiable p box (rows_of part.chunk.columns)

-- the skipped zones are those for which no choice within the box satisfies the predicate, wherever the box is known and in order
abbrev pub ZonesSkipExactly : Tree Place → List ZoneData → (skipped : List ℕ) → Type 0
ZonesSkipExactly p zones skipped =
    (i : ℕ) (zone : ZoneData) (box : Box) → slice_get zones i ≡ Some zone → IsBoxIn zone.stats p box → IsInOrder p box →
    Contains skipped i ↔ ¬ IsSatisfiable p box zone.rows

-- the skipped parts are: those of the zones that they stand for
abbrev pub SkipsExactly : Tree Place → List PartData → (skipped : List ℕ) → Type 0
SkipsExactly p parts skipped = ZonesSkipExactly p (zones_of parts) skipped
