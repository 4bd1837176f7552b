-- The proofs that rules have of a predicate are right, and so are two proofs as one.
use Rattle.std.proofs.Common.{◌≡◌, ⊎_elim, List, Option, Some, None, refl}
use Rattle.vortex_base.specs.Data.Columns.{row_count as rows_of}
use Rattle.vortex_expr.specs.Trees.Tree.{Tree, Place}
use Rattle.vortex_predicates.proofs.JointTrue.{joint_back}
use Rattle.vortex_predicates.specs.Joint.{joint}
use Rattle.vortex_predicates.specs.Pruning.{Falsifies, Satisfies}
use Rattle.vortex_rewrite.proofs.Soundness.SoundRules.{falsifiers_sound, satisfiers_sound}
use Rattle.vortex_rewrite.specs.Rewriting.Falsifiers.{falsifier, satisfier}
use Rattle.vortex_rewrite.specs.Rewriting.Lawful.{OwnRule}

-- ---- the proofs of a predicate itself

some_falsifies : (own : List OwnRule) (p : Tree Place) (o : Option (Tree Place)) → falsifier own p ≡ o → Falsifies o p
some_falsifies own p None is k A chunk over honest t = cc
some_falsifies own p (Some e) is k A chunk over honest t = falsifiers_sound own p e is k A chunk over honest t

pub own_falsifies : (own : List OwnRule) (p : Tree Place) → Falsifies (falsifier own p) p
own_falsifies own p = some_falsifies own p (falsifier own p) refl

some_satisfies : (own : List OwnRule) (p : Tree Place) (o : Option (Tree Place)) → satisfier own p ≡ o → Satisfies o p
some_satisfies own p None is k A chunk over honest t = cc
some_satisfies own p (Some e) is k A chunk over honest t = satisfiers_sound own p e is k A chunk over honest t

pub own_satisfies : (own : List OwnRule) (p : Tree Place) → Satisfies (satisfier own p) p
own_satisfies own p = some_satisfies own p (satisfier own p) refl

-- ---- two proofs as one

pub joint_falsifies : (f g : Option (Tree Place)) (p : Tree Place) → Falsifies f p → Falsifies g p → Falsifies (joint f g) p
joint_falsifies f g p left right k A chunk over honest t =
    ⊎_elim (λ h. left k A chunk over honest h) (λ h. right k A chunk over honest h) (joint_back A (rows_of k.columns) f g t)

pub joint_satisfies : (f g : Option (Tree Place)) (p : Tree Place) → Satisfies f p → Satisfies g p → Satisfies (joint f g) p
joint_satisfies f g p left right k A chunk over honest t =
    ⊎_elim (λ h. left k A chunk over honest h) (λ h. right k A chunk over honest h) (joint_back A (rows_of k.columns) f g t)
