-- The proofs by which a predicate prunes zones, and what they find.
use Rattle.std.specs.Prelude.{◌≡◌, ◌⊎◌, ℕ, Bool, true, false, ◌&&◌, List, Option, None, Some, IsTrue, Contains, if◌then◌else◌, nat_le, slice_get}
use Rattle.vortex_base.specs.Data.Columns.{ChunkData, IsChunk, row_count as rows_of}
use Rattle.vortex_base.specs.Data.Scopes.{Named}
use Rattle.vortex_expr.specs.Trees.Tree.{Tree, Place, is_plain}
use Rattle.vortex_normal.specs.Balanced.{depth}
use Rattle.vortex_normal.specs.Groups.{normal}
use Rattle.vortex_normal.specs.Same.{HasNoOther, Same, StaysPlain}
use Rattle.vortex_normal.specs.Strict.{narrow_test, normal_test, strict_test}
use Rattle.vortex_normal.specs.Tested.{IsTestOf}
use Rattle.vortex_predicates.specs.EqualBounds.{form_proof}
use Rattle.vortex_predicates.specs.Joint.{joint}
use Rattle.vortex_zone_map.specs.Zone.{ZoneData}
use Rattle.vortex_prune.specs.Scanning.Complete.{IsBoxIn}
use Rattle.vortex_prune.specs.Scanning.Selection.{is_skipped, is_whole, places_where, proves_of}
use Rattle.vortex_prune.specs.Scanning.ZoneScans.{skipped_zones, whole_zones}
use Rattle.vortex_prune.specs.declared.scan.verdict.Verdict.{Verdict}
use Rattle.vortex_rewrite.specs.Causes.{Causes, either_causes}
use Rattle.vortex_rewrite.specs.Facts.{IsHonest}
use Rattle.vortex_rewrite.specs.Rewriting.Falsifiers.{falsifier, satisfier}
use Rattle.vortex_rewrite.specs.Rewriting.Lawful.{EveryRowSatisfies, IsOver, NoRowSatisfies, OwnRule}
use Rattle.vortex_rewrite.specs.Rewriting.Predicates.{is_predicate}
use Rattle.vortex_rewrite.specs.Rewriting.Proof.{Assignment}
use Rattle.vortex_rewrite.specs.Rewriting.ReadOnce.{Box, IsInOrder, IsSatisfiable}
use Rattle.vortex_rewrite.specs.Rewriting.RuleRefusals.{rule_causes}
use Rattle.vortex_rewrite.specs.Rewriting.Visited.{visited}

-- ---- the proofs

-- a form has no more than so many levels, if they are limited
abbrev pub is_within : (levels : Option ℕ) → Tree Place → Bool
is_within None e = true
is_within (Some n) e = nat_le (depth e) n

-- what a form proves, unless it is deeper
abbrev pub unless_deep : (levels : Option ℕ) → (form : Tree Place) → Option (Tree Place) → Option (Tree Place)
unless_deep levels form proof = if is_within levels form then proof else None

-- the normal form of a test of the predicate's truth has no more than so many levels, nor has the narrowed one
abbrev pub is_test_within : (levels : Option ℕ) → (wanted with_null : Bool) → Tree Place → Bool
is_test_within levels w m p = is_within levels (normal_test w m p) && is_within levels (narrow_test w m p)

-- that no row satisfies such a test, by its strict form, with what LIKEs say of a column that has one value alone
abbrev pub test_proof : List OwnRule → (levels : Option ℕ) → (wanted with_null : Bool) → Tree Place → Option (Tree Place)
test_proof own levels w m p = if is_test_within levels w m p then form_proof own (strict_test w m p) else None

-- that no row satisfies a predicate: by the predicate as it is, by its normal form and by the strict one
abbrev pub skip_proof : List OwnRule → (levels : Option ℕ) → Tree Place → Option (Tree Place)
skip_proof own levels p = joint (falsifier own p) (joint (unless_deep levels (normal p) (falsifier own (normal p))) (test_proof own levels true false p))

-- that every row does: by the predicate as it is and by its normal form, or since no row satisfies that it isn't true
abbrev pub whole_proof : List OwnRule → (levels : Option ℕ) → Tree Place → Option (Tree Place)
whole_proof own levels p = joint (satisfier own p) (joint (unless_deep levels (normal p) (satisfier own (normal p))) (test_proof own levels false true p))

-- a predicate beside a proof that no row satisfies it and one that every row does, where there are such
pub record Pruning : Type 0 where
  pub predicate : Tree Place
  pub falsifier : Option (Tree Place)
  pub satisfier : Option (Tree Place)

-- ---- what they prove

-- the proof, if there is one and it is true of a chunk by honest answers, means that no row satisfies the predicate
abbrev pub Falsifies : (proof : Option (Tree Place)) → (p : Tree Place) → Type 0
Falsifies proof p = (k : ChunkData) (A : Assignment) → IsChunk k → IsOver p k → IsHonest A k.columns → IsTrue (proves_of proof (rows_of k.columns) A) → NoRowSatisfies p k

-- and that every row does
abbrev pub Satisfies : (proof : Option (Tree Place)) → (p : Tree Place) → Type 0
Satisfies proof p = (k : ChunkData) (A : Assignment) → IsChunk k → IsOver p k → IsHonest A k.columns → IsTrue (proves_of proof (rows_of k.columns) A) → EveryRowSatisfies p k

-- another form of a predicate: a predicate of no other column that the same rows satisfy
pub record HasRowsOf (p q : Tree Place) : Type 0 where
  pub predicate : IsTrue (is_predicate q)
  pub same : Same p q
  pub columns : HasNoOther p q
  pub plain : StaysPlain p q

-- a form of a test of its truth
pub record IsTestForm (wanted with_null : Bool) (p q : Tree Place) : Type 0 where
  pub predicate : IsTrue (is_predicate q)
  pub test : IsTestOf wanted with_null p q
  pub columns : HasNoOther p q
  pub plain : StaysPlain p q

-- the proofs are right, of a predicate that may be asked on rows
pub record IsRight (x : Pruning) : Type 0 where
  pub predicate : IsTrue (is_predicate x.predicate)
  pub plain : IsTrue (is_plain x.predicate)
  pub form : HasRowsOf x.predicate (normal x.predicate)
  pub falsifies : Falsifies x.falsifier x.predicate
  pub satisfies : Satisfies x.satisfier x.predicate

-- they are those that the built-in rules and these have, by forms of so many levels
pub record IsMadeBy (own : List OwnRule) (levels : Option ℕ) (x : Pruning) : Type 0 where
  pub falsifier : x.falsifier ≡ skip_proof own levels x.predicate
  pub satisfier : x.satisfier ≡ whole_proof own levels x.predicate

-- ---- what they find

abbrev pub skipped_places : List Verdict → List ℕ
skipped_places vs = places_where is_skipped vs

abbrev pub whole_places : List Verdict → List ℕ
whole_places vs = places_where is_whole vs

-- each zone is skipped of which the predicate's own falsifier is true
abbrev pub SkipsNoFewer : List OwnRule → Tree Place → List Named → List ZoneData → (skipped : List ℕ) → Type 0
SkipsNoFewer own p scope zones skipped = (i : ℕ) (zone : ZoneData) → slice_get zones i ≡ Some zone → Contains (skipped_zones (falsifier own p) scope zones) i → Contains skipped i

-- and each is whole, or even skipped, that is whole by the predicate's own proofs
abbrev pub FindsNoFewerWhole : List OwnRule → Tree Place → List Named → List ZoneData → (skipped whole : List ℕ) → Type 0
FindsNoFewerWhole own p scope zones skipped whole =
    (i : ℕ) (zone : ZoneData) → slice_get zones i ≡ Some zone → Contains (whole_zones (falsifier own p) (satisfier own p) scope zones) i → Contains skipped i ⊎ Contains whole i

-- a zone is skipped if no values within its bounds satisfy the predicate, wherever these are known and in order
abbrev pub SkipsUnsatisfiable : Tree Place → List ZoneData → (skipped : List ℕ) → Type 0
SkipsUnsatisfiable p zones skipped =
    (i : ℕ) (zone : ZoneData) (box : Box) → slice_get zones i ≡ Some zone → IsBoxIn zone.stats p box → IsInOrder p box → ¬ IsSatisfiable p box zone.rows → Contains skipped i

-- ---- refusals

-- what the rules cause that are asked for a falsifier of a predicate, and for a satisfier
abbrev pub falsifying_causes : List OwnRule → Tree Place → Causes
falsifying_causes own p = rule_causes (λ rule. rule.falsifier) own (visited p)

abbrev pub satisfying_causes : List OwnRule → Tree Place → Causes
satisfying_causes own p = rule_causes (λ rule. rule.satisfier) own (visited p)

-- at the nodes of a predicate as it is, of its normal form and of a strict one
abbrev pub skip_causes : List OwnRule → Tree Place → Causes
skip_causes own p = either_causes (falsifying_causes own p) (either_causes (falsifying_causes own (normal p)) (falsifying_causes own (strict_test true false p)))

abbrev pub whole_causes : List OwnRule → Tree Place → Causes
whole_causes own p = either_causes (satisfying_causes own p) (either_causes (satisfying_causes own (normal p)) (falsifying_causes own (strict_test false true p)))

-- what making the proofs may be refused for
abbrev pub making_causes : List OwnRule → Tree Place → Causes
making_causes own p = either_causes (skip_causes own p) (whole_causes own p)
