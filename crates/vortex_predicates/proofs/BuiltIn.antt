-- By built-in rules, the proofs of a predicate find at least what the predicate's own proofs find and those of its normal form.
use Rattle.std.proofs.Common.{◌≡◌, ℕ, [], Bool, false, true, None, Option, IsTrue, ap, ◌∙◌, if◌then◌else◌}
use Rattle.vortex_expr.specs.Trees.Tree.{Tree, Place}
use Rattle.vortex_normal.specs.Groups.{normal}
use Rattle.vortex_predicates.proofs.Found.{skip_closed, whole_closed}
use Rattle.vortex_predicates.proofs.JointTrue.{joint_first, joint_rest, joint_second}
use Rattle.vortex_predicates.specs.Joint.{joint}
use Rattle.vortex_predicates.specs.Pruning.{is_within, skip_proof, test_proof, unless_deep, whole_proof}
use Rattle.vortex_prune.specs.Scanning.Selection.{proves_of}
use Rattle.vortex_rewrite.specs.Rewriting.Falsifiers.{falsifier, satisfier}
use Rattle.vortex_rewrite.specs.Rewriting.Proof.{Assignment}

module _ (levels : Option ℕ) (p : Tree Place) (n : ℕ) (A : Assignment) where
  abbrev skip_forms : Option (Tree Place)
  skip_forms = joint (unless_deep levels (normal p) (falsifier [] (normal p))) (test_proof [] levels true false p)

  abbrev whole_forms : Option (Tree Place)
  whole_forms = joint (unless_deep levels (normal p) (satisfier [] (normal p))) (test_proof [] levels false true p)

  pub own_skips : proves_of (falsifier [] p) n A ≡ true → proves_of (skip_proof [] levels p) n A ≡ true
  own_skips h = joint_first A n (falsifier [] p) skip_forms (skip_closed levels p) h

  pub normal_skips : IsTrue (is_within levels (normal p)) → proves_of (falsifier [] (normal p)) n A ≡ true → proves_of (skip_proof [] levels p) n A ≡ true
  normal_skips within h =
      joint_second A n (falsifier [] p) skip_forms (skip_closed levels p)
      (joint_first A n (unless_deep levels (normal p) (falsifier [] (normal p))) (test_proof [] levels true false p) (joint_rest (falsifier [] p) skip_forms (skip_closed levels p))
      (ap (λ (b : Bool). proves_of (if b then falsifier [] (normal p) else None) n A) within ∙ h))

  pub own_finds : proves_of (satisfier [] p) n A ≡ true → proves_of (whole_proof [] levels p) n A ≡ true
  own_finds h = joint_first A n (satisfier [] p) whole_forms (whole_closed levels p) h

  pub normal_finds : IsTrue (is_within levels (normal p)) → proves_of (satisfier [] (normal p)) n A ≡ true → proves_of (whole_proof [] levels p) n A ≡ true
  normal_finds within h =
      joint_second A n (satisfier [] p) whole_forms (whole_closed levels p)
      (joint_first A n (unless_deep levels (normal p) (satisfier [] (normal p))) (test_proof [] levels false true p) (joint_rest (satisfier [] p) whole_forms (whole_closed levels p))
      (ap (λ (b : Bool). proves_of (if b then satisfier [] (normal p) else None) n A) within ∙ h))
