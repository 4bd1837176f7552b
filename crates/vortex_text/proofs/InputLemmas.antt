-- A reader's bytes, pushed piece by piece to its end.
use Rattle.std.proofs.Common.{◌≡◌, ◌<◌, ◌+◌, ℕ, List, [], ◌++◌, Option, None, Some, IfSome, length, take, append-nil, length-append, sym, subst, arith}
use Rattle.std.proofs.KnownBytes.{Consumes-all, Consumes-trans}
use Rattle.std.specs.Io.KnownBytes.{Consumes, IsAtEnd}
use Rattle.vortex_text.specs.declared.streams.TheConstants.{INPUT_LIMIT}

-- what a reader lost until its end, where a read gave nothing more, is all that it had
pub all_read : (known mid left : Option (List ℕ)) (text buf : List ℕ) (n : ℕ) → n ≡ 0 → Consumes known mid text → Consumes mid left (take n buf) → IsAtEnd left
    → IfSome known (λ bytes. text ≡ bytes)
all_read known mid left text buf n none lost last end =
    Consumes-all known left (text ++ []) [] text (Consumes-trans known mid left text [] lost (subst (λ k. Consumes mid left (take k buf)) none last)) end (sym (append-nil text))

-- what goes past the limit is of an input that does
goes_past : (known left : Option (List ℕ)) (text : List ℕ) → Consumes known left text → INPUT_LIMIT < length text → IfSome known (λ bytes. INPUT_LIMIT < length bytes)
goes_past None left text lost long = tt
goes_past (Some bytes) None text lost long = absurd lost
goes_past (Some bytes) (Some rest) text lost long = subst (λ l. INPUT_LIMIT < length l) (sym lost) (omega (arith, long, length-append text rest))

-- a piece behind the text goes past it
pub piece_past : (known mid left : Option (List ℕ)) (text piece : List ℕ) → Consumes known mid text → Consumes mid left piece → INPUT_LIMIT < length text + length piece
    → IfSome known (λ bytes. INPUT_LIMIT < length bytes)
piece_past known mid left text piece lost last long =
    goes_past known left (text ++ piece) (Consumes-trans known mid left text piece lost last) (omega (arith, long, length-append text piece))
