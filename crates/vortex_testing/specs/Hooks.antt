-- What the rules of the tests claim that answer alike wherever they are asked, and that they are lawful: none of their proofs is ever true.
use Rattle.std.specs.Prelude.{◌≡◌, ℕ, false, true, Option, Some, None, IsTrue}
use Rattle.std.proofs.Common.{subst}
use Rattle.vortex_base.specs.declared.dtype.DType.TheVariants as dtype
use Rattle.vortex_base.specs.declared.types.Nullability.TheVariants.{NonNullable, Nullable}
use Rattle.vortex_base.specs.declared.types.PType.TheVariants.{I32}
use Rattle.vortex_expr.specs.Trees.Tree.{Tree, Place, column, is_null}
use Rattle.vortex_rewrite.specs.Rewriting.Falsifiers.{bool_literal, count_literal}
use Rattle.vortex_rewrite.specs.Rewriting.Lawful.{IsLawful}
use Rattle.vortex_rewrite.specs.Rewriting.Proof.{Assignment, proves}
use Rattle.vortex_testing.specs.declared.hooks.Claim.{Claim}
use Rattle.vortex_testing.specs.declared.hooks.Claim.TheVariants as claim

-- what a rule proves an expression by
abbrev pub claimed : Claim → Option (Tree Place)
claimed claim.False = Some (bool_literal false)
claimed claim.Number = Some (count_literal 7)
claimed claim.NullTest = Some (is_null (column (record { index = 0; dtype = dtype.Primitive I32 Nullable })))
claimed (claim.Column place) = Some (column (record { index = place; dtype = dtype.Bool NonNullable }))
claimed c = None

-- none of it is ever true
abbrev IsNever : Tree Place → Type 0
IsNever e = (A : Assignment) (n : ℕ) → proves e A n ≡ false

never_false : IsNever (bool_literal false)
never_false A n = cc

never_number : IsNever (count_literal 7)
never_number A n = cc

never_null_test : IsNever (is_null (column (record { index = 0; dtype = dtype.Primitive I32 Nullable })))
never_null_test A n = cc

never_column : (place : ℕ) → IsNever (column (record { index = place; dtype = dtype.Bool NonNullable }))
never_column place A n = cc

same : (found e : Tree Place) → IsNever found → Some found ≡ Some e → IsNever e
same found e never h A n = let is : found ≡ e = cc in subst (λ (x : Tree Place). proves x A n ≡ false) is (never A n)

never : (c : Claim) (e : Tree Place) → claimed c ≡ Some e → IsNever e
never claim.Nothing e h = absurd cc
never claim.False e h = same _ e never_false h
never claim.Number e h = same _ e never_number h
never claim.NullTest e h = same _ e never_null_test h
never (claim.Column place) e h = same _ e (never_column place) h
never claim.Fault e h = absurd cc
never claim.Memory e h = absurd cc

untrue : (c : Claim) (e : Tree Place) (A : Assignment) (n : ℕ) → claimed c ≡ Some e → IsTrue (proves e A n) → ⊥
untrue c e A n h t = let told : proves e A n ≡ false = never c e h A n in cc

pub claims_are_lawful : (falsifier satisfier : Claim) → IsLawful (λ p. claimed falsifier) (λ p. claimed satisfier)
claims_are_lawful f s = record {
  falsifies = λ p e h k A chunk over honest t. absurd (untrue f e A _ h t);
  satisfies = λ p e h k A chunk over honest t. absurd (untrue s e A _ h t);
}
