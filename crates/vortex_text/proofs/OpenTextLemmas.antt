-- A text that comes in piece by piece says the same at each cut.
use Rattle.std.proofs.Common.{◌≡◌, ◌<◌, ◌+◌, ◌==◌, ℕ, suc, true, List, [], ◌∷◌, ◌++◌, Result, Ok, Err, get_or, length, take, append_assoc, append-nil, ap, sym, ◌∙◌, arith}
use Rattle.std.proofs.Math.Seq.{take-suc}
use Rattle.std.proofs.lemmas.Bool.Decides.{nat_tests}
use Rattle.std.specs.Str.Lines.{lines}
use Rattle.vortex_text.proofs.OpenLineLemmas.{lines_behind_block}
use Rattle.vortex_text.specs.Blocks.{EndsLine}
use Rattle.vortex_text.specs.Drafts.{reading_of}
use Rattle.vortex_text.specs.Lines.{Reading}
use Rattle.vortex_text.specs.Naming.{IsNamed, Query, named, named_from}
use Rattle.vortex_text.specs.OpenTexts.{GoesOn, HasRead, KeepsError, TakesBytes, Tells, named_behind}
use Rattle.vortex_text.specs.declared.bad_line.BadInput.{BadInput}
use Rattle.vortex_text.specs.declared.bad_line.TextError.{TextError}
use Rattle.vortex_text.specs.declared.bad_line.TextError.TheVariants as kept
use Rattle.vortex_text.specs.declared.naming.InputError.{InputError}
use Rattle.vortex_text.specs.declared.naming.InputError.TheVariants as errors
use Rattle.vortex_text.specs.declared.open_line.OpenLine.{OpenLine}
use Rattle.vortex_text.specs.declared.open_text.State.TheVariants as state

-- bytes up to a line feed
pub ends_at : (bytes : List ℕ) (k : ℕ) → k < length bytes → (get_or bytes k 0 == 10) ≡ true → take (k + 1) bytes ≡ take k bytes ++ 10 ∷ []
ends_at bytes k within is =
    let feed : get_or bytes k 0 ≡ 10 = grind (arith, nat_tests, is) in
    let next : k + 1 ≡ suc k = omega arith in
    ap (λ n. take n bytes) next ∙ take-suc bytes k 0 within ∙ ap (λ b. take k bytes ++ b ∷ []) feed

-- ---- pieces of an open line

-- lines that end in the bytes, behind the open one
pub block_takes : (n m : ℕ) (r s : Reading) (line bytes : List ℕ) → EndsLine (line ++ bytes) → GoesOn n r (lines (line ++ bytes)) (Ok m) s
    → (more : List ℕ) → named_from n r (lines (line ++ (bytes ++ more))) ≡ named_from m s (lines more)
block_takes n m r s line bytes ended goes more = ap (named_from n r) (lines_behind_block line bytes more ended) ∙ goes (lines more)

pub block_stops : (old : OpenLine) (bytes : List ℕ) (s : Reading) (e : TextError) → EndsLine (old.line.items ++ bytes)
    → GoesOn old.number (reading_of old.draft) (lines (old.line.items ++ bytes)) (Err e) s → TakesBytes old bytes (Err e)
block_stops old bytes s kept.Memory ended stop = tt
block_stops old bytes s (kept.BadLine bad) ended stop =
    λ more. ap (named_from old.number (reading_of old.draft)) (lines_behind_block old.line.items bytes more ended) ∙ stop (lines more)

-- one piece behind another
pub takes_more : (a b : OpenLine) (x y : List ℕ) (r : Result OpenLine TextError) → TakesBytes a x (Ok b) → TakesBytes b y r → TakesBytes a (x ++ y) r
takes_more a b x y (Ok c) first second = λ more. ap (named_behind a) (append_assoc x y more) ∙ first (y ++ more) ∙ second more
takes_more a b x y (Err kept.Memory) first second = tt
takes_more a b x y (Err (kept.BadLine bad)) first second = λ more. ap (named_behind a) (append_assoc x y more) ∙ first (y ++ more) ∙ second more

-- what stands behind a bad line changes nothing
pub stops_before : (a : OpenLine) (x y : List ℕ) (e : TextError) → TakesBytes a x (Err e) → TakesBytes a (x ++ y) (Err e)
stops_before a x y kept.Memory stop = tt
stops_before a x y (kept.BadLine bad) stop = λ more. ap (named_behind a) (append_assoc x y more) ∙ stop (y ++ more)

pub takes_line : (n : ℕ) (r : Reading) (line bytes more : List ℕ) → named_from n r (lines (line ++ (bytes ++ more))) ≡ named_from n r (lines ((line ++ bytes) ++ more))
takes_line n r line bytes more = ap (λ l. named_from n r (lines l)) (sym (append_assoc line bytes more))

-- ---- the end of a text

pub ends_line : (n : ℕ) (r : Reading) (line : List ℕ) → named_from n r (lines (line ++ [])) ≡ named_from n r (lines line)
ends_line n r line = ap (λ l. named_from n r (lines l)) (append-nil line)

pub tells_kept : {X : Type 0} (view : X → Query) (says : Result Query ℕ) (e : InputError) (copy : TextError) → IsNamed view (Err e) says → KeepsError e copy → Tells view (Err copy) says
tells_kept view says e kept.Memory is keeps = tt
tells_kept view says errors.Memory (kept.BadLine copy) is keeps = absurd keeps
tells_kept view says (errors.BadLine bad) (kept.BadLine copy) is keeps = is ∙ ap Err (sym keeps)

-- ---- the whole text

pub open_read : (text bytes : List ℕ) (old new : OpenLine) → TakesBytes old bytes (Ok new) → HasRead text (state.Open old) → HasRead (text ++ bytes) (state.Open new)
open_read text bytes old new takes has = λ more. ap named (append_assoc text bytes more) ∙ has (bytes ++ more) ∙ takes more

pub bad_found : (text bytes : List ℕ) (old : OpenLine) (bad : BadInput) → TakesBytes old bytes (Err (kept.BadLine bad)) → HasRead text (state.Open old) → HasRead (text ++ bytes) (state.Bad bad)
bad_found text bytes old bad takes has = λ more. ap named (append_assoc text bytes more) ∙ has (bytes ++ more) ∙ takes more

pub bad_stays : (text bytes : List ℕ) (bad : BadInput) → HasRead text (state.Bad bad) → HasRead (text ++ bytes) (state.Bad bad)
bad_stays text bytes bad has = λ more. ap named (append_assoc text bytes more) ∙ has (bytes ++ more)

-- what is told of a text that ends
pub open_closed : (text : List ℕ) (o : OpenLine) → HasRead text (state.Open o) → named text ≡ named_behind o []
open_closed text o has = ap named (sym (append-nil text)) ∙ has []

pub bad_closed : (text : List ℕ) (bad : BadInput) → HasRead text (state.Bad bad) → named text ≡ Err bad.number
bad_closed text bad has = ap named (sym (append-nil text)) ∙ has []
