-- The program's answer in an array of the caller's.
use Rattle.std.specs.Prelude.{◌≡◌, ◌≤◌, ◌<◌, ◌⊎◌, ℕ, List, [], ◌++◌, None, Some, drop, length}
use Rattle.vortex_text.specs.Program.{Answers, Stops}

-- An answer of the program to a text, with its status: the reply to the text, or with status 1 a word why there is none. Where memory was refused either may be cut off.
abbrev pub IsReply : List ℕ → ℕ → List ℕ → Type 0
IsReply input status answer = Answers input status (Some []) (Some answer) ⊎ ((status ≡ 1) × Stops input None None (Some []) (Some answer))

-- the answer stands at the front of an array, or the array is as it was and 3 says that it is too short
pub record IsDelivered (status : ℕ) (answer old : List ℕ) (result : ℕ) (new : List ℕ) (len : ℕ) : Type 0 where
  pub told_len : len ≡ length answer
  pub whole : length answer ≤ length old → (result ≡ status) × (new ≡ answer ++ drop (length answer) old)
  pub short : length old < length answer → (result ≡ 3) × (new ≡ old)

-- an answer to the text was delivered
abbrev pub Replies : List ℕ → List ℕ → ℕ → List ℕ → ℕ → Type 0
Replies input old result new len = (status : ℕ) × (answer : List ℕ) × IsReply input status answer × IsDelivered status answer old result new len
