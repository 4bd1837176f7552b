-- A run that ends without an answer, and one whose answer has the rows of the full scan.
use Rattle.std.proofs.Common.{◌≡◌, ◌<◌, ◌+◌, ℕ, zero, suc, Bool, true, false, List, [], ◌∷◌, Option, None, Some, IfSome, length, ◌⊎◌, inl, inr, ap, sym, subst, refl, append-nil, arith}
use Rattle.std.specs.Io.KnownBytes.{Appends}
use Rattle.vortex_text.specs.declared.streams.TheConstants.{INPUT_LIMIT}
use Rattle.vortex_text.specs.Program.{Answers, IsFullScan, IsReason, Stops, WritesFullScan, WritesOnce, reply_to}
use Rattle.vortex_text.specs.Streams.{AppendsProperFront, AppendsUnlessFailed, CutsWhereFailed, MayHaveFailed}

-- all bytes were written
pub whole_appended : (failed : Option Bool) (old new : Option (List ℕ)) (bytes : List ℕ) → Appends old new bytes → AppendsUnlessFailed failed old new bytes
whole_appended None old new bytes written = (bytes, [], sym (append-nil bytes), written)
whole_appended (Some true) old new bytes written = (bytes, [], sym (append-nil bytes), written)
whole_appended (Some false) old new bytes written = written

-- a front of the bytes was written, and a write failed
pub front_appended : (failed : Option Bool) (old new : Option (List ℕ)) (bytes : List ℕ) → MayHaveFailed failed → AppendsProperFront old new bytes → AppendsUnlessFailed failed old new bytes
front_appended None old new bytes may (front, rest, same, some, written) = (front, rest, same, written)
front_appended (Some true) old new bytes may (front, rest, same, some, written) = (front, rest, same, written)
front_appended (Some false) old new bytes may cut = absurd (may refl)

-- the word says why, whatever the input
pub stops_at_word : (known old new : Option (List ℕ)) (read_failed write_failed : Option Bool) (word : List ℕ) → ((input : List ℕ) → IsReason input read_failed word)
    → AppendsUnlessFailed write_failed old new word → IfSome known (λ input. Answers input 1 old new ⊎ Stops input read_failed write_failed old new)
stops_at_word None old new read_failed write_failed word is written = tt
stops_at_word (Some input) old new read_failed write_failed word is written = inr (inl (word, is input, written))

-- the word says so of an input that is too long
pub stops_too_long : (known old new : Option (List ℕ)) (read_failed write_failed : Option Bool) (word : List ℕ) → ((input : List ℕ) → INPUT_LIMIT < length input → IsReason input read_failed word)
    → IfSome known (λ input. INPUT_LIMIT < length input) → AppendsUnlessFailed write_failed old new word
    → IfSome known (λ input. Answers input 1 old new ⊎ Stops input read_failed write_failed old new)
stops_too_long None old new read_failed write_failed word is long written = tt
stops_too_long (Some input) old new read_failed write_failed word is long written = inr (inl (word, is input long, written))

-- the reply to all bytes that were read was cut off
pub stops_cut : (known old new : Option (List ℕ)) (read_failed write_failed : Option Bool) (read bytes : List ℕ) → IfSome known (λ input. read ≡ input) → bytes ≡ (reply_to read).1
    → MayHaveFailed write_failed → AppendsProperFront old new bytes
    → IfSome known (λ input. Answers input 1 old new ⊎ Stops input read_failed write_failed old new)
stops_cut None old new read_failed write_failed read bytes all same failed cut = tt
stops_cut (Some input) old new read_failed write_failed read bytes all same failed cut =
    inr (inr (failed, subst (λ t. AppendsProperFront old new (reply_to t).1) all (subst (AppendsProperFront old new) same cut)))

-- a word was written, or a write that failed cut it off
pub word_once : (input : List ℕ) (read_failed before after : Option Bool) (status : ℕ) (old new : Option (List ℕ)) (word : List ℕ) → status ≡ 1 → IsReason input read_failed word
    → CutsWhereFailed before after old new word → WritesOnce input read_failed before after status old new
word_once input read_failed before after status old new word one is (inl same) = inl same
word_once input read_failed before after status old new word one is (inr cut) = inr (one, (word, inl is, cut))

-- so was the word that says why, whatever the input
pub stops_once : (known old new : Option (List ℕ)) (read_failed before after : Option Bool) (status : ℕ) (word : List ℕ) → status ≡ 1 → ((input : List ℕ) → IsReason input read_failed word)
    → CutsWhereFailed before after old new word → IfSome known (λ input. WritesOnce input read_failed before after status old new)
stops_once None old new read_failed before after status word one is written = tt
stops_once (Some input) old new read_failed before after status word one is written = word_once input read_failed before after status old new word one (is input) written

-- and the word that says so of an input that is too long
pub too_long_once : (known old new : Option (List ℕ)) (read_failed before after : Option Bool) (status : ℕ) (word : List ℕ) → status ≡ 1
    → ((input : List ℕ) → INPUT_LIMIT < length input → IsReason input read_failed word) → IfSome known (λ input. INPUT_LIMIT < length input) → CutsWhereFailed before after old new word
    → IfSome known (λ input. WritesOnce input read_failed before after status old new)
too_long_once None old new read_failed before after status word one is long written = tt
too_long_once (Some input) old new read_failed before after status word one is long written =
    word_once input read_failed before after status old new word one (is input long) written

-- the reply to what was read was cut off
pub cut_once : (read bytes : List ℕ) (read_failed before after : Option Bool) (old new : Option (List ℕ)) → bytes ≡ (reply_to read).1 → AppendsProperFront old new bytes
    → WritesOnce read read_failed before after 1 old new
cut_once read bytes read_failed before after old new same cut = inr (refl, (bytes, inr same, cut))

-- and that was all bytes of the input
pub reply_cut_once : (known old new : Option (List ℕ)) (read_failed before after : Option Bool) (read bytes : List ℕ) → IfSome known (λ input. read ≡ input) → bytes ≡ (reply_to read).1
    → AppendsProperFront old new bytes → IfSome known (λ input. WritesOnce input read_failed before after 1 old new)
reply_cut_once None old new read_failed before after read bytes all same cut = tt
reply_cut_once (Some input) old new read_failed before after read bytes all same cut =
    subst (λ i. WritesOnce i read_failed before after 1 old new) all (cut_once read bytes read_failed before after old new same cut)

-- an input of any length
zeros : ℕ → List ℕ
zeros zero = []
zeros (suc n) = 0 ∷ zeros n

zeros_length : (n : ℕ) → length (zeros n) ≡ n
unfolding zeros
zeros_length zero = refl
zeros_length (suc n) = ap suc (zeros_length n)

-- some input is too long
pub too_long : (input : List ℕ) × (INPUT_LIMIT < length input)
too_long = (zeros (INPUT_LIMIT + 1), subst (λ (n : ℕ). INPUT_LIMIT < n) (sym (zeros_length (INPUT_LIMIT + 1))) (omega arith))

-- what was printed of all bytes that were read
pub writes_full_scan : (known old new : Option (List ℕ)) (read printed bytes : List ℕ) → IfSome known (λ input. read ≡ input) → bytes ≡ printed → IsFullScan read printed → Appends old new bytes
    → IfSome known (λ input. WritesFullScan input old new)
writes_full_scan None old new read printed bytes all same found written = tt
writes_full_scan (Some input) old new read printed bytes all same found written = (printed, subst (Appends old new) same written, subst (λ t. IsFullScan t printed) all found)
