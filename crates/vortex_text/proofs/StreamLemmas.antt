-- What streams tell of their failures, call by call.
use Rattle.std.proofs.Common.{◌≡◌, ◌==◌, ◌<◌, ℕ, Bool, true, false, Option, None, Some, subst, ◌∙◌, arith}
use Rattle.std.proofs.lemmas.Bool.Decides.{nat_tests}
use Rattle.vortex_text.specs.Streams.{HasNotFailed, MayHaveFailed, TellsFailure}

-- a call that didn't fail leaves what was told
unfailed_told : (before after : Option Bool) → TellsFailure before after false → HasNotFailed before after
unfailed_told None after told = told
unfailed_told (Some b) after told = told

-- so does one more of them
pub unfailed_more : (before mid after : Option Bool) → HasNotFailed before mid → TellsFailure mid after false → HasNotFailed before after
unfailed_more before mid after same told = unfailed_told mid after told ∙ same

-- and a write that takes some bytes
pub unfailed_taken : (before mid after : Option Bool) (n : ℕ) → 0 < n → HasNotFailed before mid → TellsFailure mid after (n == 0) → HasNotFailed before after
unfailed_taken before mid after n some same told =
    let some_taken : (n == 0) ≡ false = grind (arith, nat_tests, some) in
    unfailed_more before mid after same (subst (TellsFailure mid after) some_taken told)

-- a call that failed leaves a stream that may have failed
pub may_have_failed : (before after : Option Bool) → TellsFailure before after true → MayHaveFailed after
may_have_failed None after told = λ fine. cc
may_have_failed (Some b) after told = λ fine. cc
