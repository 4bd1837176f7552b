-- Witnesses of the clauses of the program that explains: those of the program.
use Rattle.std.specs.Prelude.{◌≡◌, ◌≢◌, ◌⊎◌, ℕ, false, IfSome, IsTrue, List, [], Some}
use Rattle.std.specs.List.{AllByRecursion}
use Rattle.vortex_prune.proofs.WorkedRows.Witnesses.Parts.{above_ten}
use Rattle.vortex_zone_map.proofs.WorkedRows.Witnesses.{IsWitness}
use Rattle.vortex_prune.specs.Part.{IsTruePart}
use Rattle.vortex_rewrite.specs.Rewriting.Predicates.{is_predicate}
use Rattle.vortex_text.proofs.WorkedRows.Witnesses.{Held, lossy, named_parts, other_word, query, run_answered, run_lossless, run_refused, run_some_input, run_some_refused, two_parts}
use Rattle.vortex_text.specs.Naming.{named}
use Rattle.vortex_text.specs.Program.{Answers, Stops, WritesFullScan}

answered : IsWitness (◌≢◌ {A = ℕ} 0 1) (λ (new : Held). IfSome (Some two_parts) (λ text. Answers text 0 (Some []) new)) (Some lossy)
answered = run_answered

some_input : IsWitness (◌≢◌ {A = ℕ} 3 1) (λ (status : ℕ). (text : List ℕ) × Answers text status (Some []) (Some lossy)) 3
some_input = run_some_input

refused : IsWitness (◌≡◌ {A = ℕ} 1 1) (λ (new : Held). IfSome (Some two_parts) (λ text. Answers text 1 (Some []) new ⊎ Stops text (Some false) (Some false) (Some []) new)) (Some other_word)
refused = run_refused

some_refused : IsWitness (◌≡◌ {A = ℕ} 1 1) (λ (new : Held). (text : List ℕ) × (Answers text 1 (Some []) new ⊎ Stops text (Some false) (Some false) (Some []) new)) (Some other_word)
some_refused = run_some_refused

lossless : IsWitness ((◌≡◌ {A = ℕ} 0 0) × (named two_parts ≡ query named_parts above_ten) × IsTrue (is_predicate above_ten) × AllByRecursion IsTruePart named_parts)
    (λ (new : Held). IfSome (Some two_parts) (λ text. WritesFullScan text (Some []) new)) (Some lossy)
lossless = run_lossless
