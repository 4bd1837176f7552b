-- Worked rows of what the calls of `Precision` answer.
use Rattle.std.proofs.Common.{refl}
use Rattle.std.specs.Prelude.{◌≡◌, ℕ, List, [], ◌∷◌, Result, Ok, Err, map}
use Rattle.vortex_stats.specs.declared.precision.Precision.{Precision}
use Rattle.vortex_stats.specs.declared.precision.Precision.TheVariants.{Exact, Inexact, Absent}
use Rattle.vortex_stats.specs.Precision.{precision_zip, transposed}

-- exact and inexact, with a value and with an error; and absent
abbrev answers : List (Precision (Result ℕ ℕ))
answers = Exact (Ok 3) ∷ Inexact (Ok 3) ∷ Exact (Err 4) ∷ Inexact (Err 4) ∷ Absent ∷ []

transposed_row : map transposed answers ≡ Ok (Exact 3) ∷ Ok (Inexact 3) ∷ Err 4 ∷ Err 4 ∷ Ok Absent ∷ []
transposed_row = refl

-- exact, inexact, absent
abbrev three : ℕ → List (Precision ℕ)
three n = Exact n ∷ Inexact n ∷ Absent ∷ []

zipped_with_exact : map (λ p. precision_zip {U = ℕ} p (Exact 2)) (three 1) ≡ Exact (1, 2) ∷ Inexact (1, 2) ∷ Absent ∷ []
zipped_with_exact = refl

zipped_with_inexact : map (λ p. precision_zip {U = ℕ} p (Inexact 2)) (three 1) ≡ Inexact (1, 2) ∷ Inexact (1, 2) ∷ Absent ∷ []
zipped_with_inexact = refl
