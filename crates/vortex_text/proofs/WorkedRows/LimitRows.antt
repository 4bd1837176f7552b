-- Worked rows: a text has 16,777,216 bytes at the most, and a predicate 4,096 words, at the limit and one past it.
use Rattle.std.proofs.Common.{◌≡◌, ◌≤◌, ◌++◌, ℕ, false, List, [], ◌∷◌, Some, codes, inl, inr, length, refl, arith, lit≤}
use Rattle.vortex_text.specs.Program.{IsReason}
use Rattle.vortex_text.specs.Progress.{Progress, ProgressFits}
use Rattle.vortex_text.specs.declared.open_text.State.TheVariants.{Refused}
use Rattle.vortex_text.specs.declared.streams.TheConstants.{INPUT_LIMIT}

most_bytes : INPUT_LIMIT ≡ 16777216
most_bytes = refl

-- as many bytes can be taken, and one more can't
abbrev taken : ℕ → Progress
taken n = record { taken = n; state = Refused }

all_taken : ProgressFits (taken 16777216)
all_taken = record { short = lit≤ tt; fits = tt }

one_more : ProgressFits (taken 16777217) → ⊥
one_more h = omega (arith, h.short)

-- the length is a reason to answer `input` where it is past the limit alone
abbrev said : List ℕ
said = codes "input" ++ 10 ∷ []

too_long : (input : List ℕ) → length input ≡ 16777217 → IsReason input (Some false) said
too_long input long = inr (inr (omega (arith, long), refl))

not_too_long : (input : List ℕ) → length input ≡ 16777216 → IsReason input (Some false) said → ⊥
not_too_long input long (inl h) = cc
not_too_long input long (inr (inl h)) = cc
not_too_long input long (inr (inr h)) = omega (arith, long, h.0)
