-- Worked rows: what streams tell of a call that failed, and what a run then has written.
use Rattle.std.proofs.Common.{◌≡◌, ◌+◌, ℕ, true, false, [], None, Some, Ok, Err, codes, refl, inl, inr, ap, ◌∙◌, lit<, length, length-append, arith}
use Rattle.std.specs.Str.{chars, is_utf8}
use Rattle.std.specs.Fmt.{digits}
use Rattle.vortex_rewrite.specs.Rewriting.Falsifiers as rewriting
use Rattle.vortex_text.specs.Inputs.{read_failed}
use Rattle.vortex_text.specs.Program.{IsSaid, ReadsOnce, WritesOnce}
use Rattle.vortex_text.specs.Streams.{AppendsProperFront, CutsWhereFailed, HasNotFailed, TellsFailure, takes_none}
use Rattle.vortex_text.specs.declared.input.ReadError.TheVariants as error

-- ---- a call

took_three : takes_none {E = ℕ} (Ok 3) ≡ false
took_three = refl

took_nothing : takes_none {E = ℕ} (Ok 0) ≡ true
took_nothing = refl

write_failed : takes_none {E = ℕ} (Err 4) ≡ true
write_failed = refl

failed_first : TellsFailure (Some false) (Some true) true
failed_first = refl

failed_untold : TellsFailure (Some false) (Some false) true → ⊥
failed_untold = λ told. cc

fine_told : TellsFailure (Some false) (Some true) false → ⊥
fine_told = λ told. cc

failed_stays : TellsFailure (Some true) (Some false) false → ⊥
failed_stays = λ told. cc

-- ---- calls since

none_failed : HasNotFailed (Some false) (Some false)
none_failed = refl

one_failed : HasNotFailed (Some false) (Some true) → ⊥
one_failed = λ same. cc

forgotten : HasNotFailed (Some false) None → ⊥
forgotten = λ same. cc

-- ---- a reading

read_of_all : read_failed {X = ℕ} (Ok 7) ≡ false
read_of_all = refl

read_cut : read_failed {X = ℕ} (Err error.Failed) ≡ true
read_cut = refl

read_out_of_memory : read_failed {X = ℕ} (Err error.Memory) ≡ false
read_out_of_memory = refl

read_too_long : read_failed {X = ℕ} (Err error.TooLong) ≡ false
read_too_long = refl

-- ---- a front of the bytes

cut_front : AppendsProperFront (Some []) (Some (codes "re")) (codes "read")
cut_front = (codes "re", codes "ad", refl, lit< tt, refl)

-- the whole is no front that is cut off
cut_whole : AppendsProperFront (Some []) (Some (codes "read")) (codes "read") → ⊥
cut_whole (front, rest, same, some, written) =
    let split : length (codes "read") ≡ length front + length rest = ap length same ∙ length-append front rest in
    let all : length (codes "read") ≡ length front = ap length written in
    absurd (omega (arith, split, all, some))

-- ---- a writing

wrote_all : CutsWhereFailed (Some false) (Some false) (Some []) (Some (codes "read")) (codes "read")
wrote_all = inl refl

wrote_front : CutsWhereFailed (Some false) (Some true) (Some []) (Some (codes "re")) (codes "read")
wrote_front = inr cut_front

-- where a write has failed the whole isn't written by a later one
wrote_on : CutsWhereFailed (Some false) (Some true) (Some []) (Some (codes "read")) (codes "read") → ⊥
wrote_on (inl same) = cc
wrote_on (inr cut) = cut_whole cut

-- ---- a run whose reader fails

answered : ReadsOnce (Some false) (Some false) 0 (Some false) (Some []) (Some (codes "skipped\nrows\n"))
answered = inl refl

told : ReadsOnce (Some false) (Some true) 1 (Some false) (Some []) (Some (codes "read\n"))
told = inr (refl, refl)

answered_on : ReadsOnce (Some false) (Some true) 0 (Some false) (Some []) (Some (codes "skipped\nrows\n")) → ⊥
answered_on (inl same) = cc
answered_on (inr (status, written)) = cc

told_of_the_predicate : ReadsOnce (Some false) (Some true) 1 (Some false) (Some []) (Some (codes "predicate\n")) → ⊥
told_of_the_predicate (inl same) = cc
told_of_the_predicate (inr (status, written)) = cc

-- ---- a run whose writer fails

said_memory : IsSaid [] None (codes "memory\n")
said_memory = inl (inl refl)

said_bad_line : IsSaid [] None (codes "line 1: bad\n")
unfolding is_utf8 chars lib.Utf8.encode digits rewriting.node rewriting.reduce_balanced
said_bad_line = inr refl

wrote_line : WritesOnce [] None (Some false) (Some false) 2 (Some []) (Some (codes "line 1: bad\n"))
wrote_line = inl refl

wrote_front_of_line : WritesOnce [] None (Some false) (Some true) 1 (Some []) (Some (codes "lin"))
wrote_front_of_line = inr (refl, (codes "line 1: bad\n", said_bad_line, (codes "lin", codes "e 1: bad\n", refl, lit< tt, refl)))

wrote_line_on : WritesOnce [] None (Some false) (Some true) 2 (Some []) (Some (codes "line 1: bad\n")) → ⊥
wrote_line_on (inl same) = cc
wrote_line_on (inr (status, cut)) = cc
