-- Bytes that go out a page at a time.
use Rattle.std.proofs.Common.{◌≡◌, ◌<◌, ◌≤◌, ◌+◌, ◌/◌, ◌^◌, ℕ, Bool, List, codes, decimal, [], ◌∷◌, ◌++◌, Option, Result, Ok, Err, OnErr, OnOk, length, length-append, append_assoc, append-nil, take, drop, get_or, ap, sym, subst, ◌∙◌, refl, arith, take-append-drop}
use Rattle.std.specs.Io.KnownBytes.{Appends}
use Rattle.std.specs.List.{flat_map}
use Rattle.std.proofs.KnownBytes.{Appends-trans}
use Rattle.std.proofs.lemmas.Grind.{flat_map-append}
use Rattle.std.proofs.lemmas.Fmt.{length-decimal-le}
use Rattle.std.proofs.lemmas.List.{take_more}
use Rattle.itoa.proofs.Decimal.{length_one, length_pair, length_two}
use Rattle.vortex_text.specs.Printing.{line_of, part_text, row_begin, row_text, scan_text, whole_text}
use Rattle.vortex_text.specs.Streams.{IsCutOff, Passes}

-- what follows from what a call that was answered gives
pub ok_then : {T E P Q : Type 0} (r : Result T E) → (P → Q) → OnOk r P → OnOk r Q
ok_then (Ok v) so h = so h
ok_then (Err e) so h = tt

-- and from what one that was refused gives
pub err_then : {T E P Q : Type 0} (r : Result T E) → (P → Q) → OnErr r P → OnErr r Q
err_then (Ok v) so h = tt
err_then (Err e) so h = so h

-- what holds anyhow holds where a call was refused
pub on_err : {T E P : Type 0} (r : Result T E) → P → OnErr r P
on_err (Ok v) h = tt
on_err (Err e) h = h

-- the bytes went behind those that wait
pub passes_at_once : (old : Option (List ℕ)) (waited waits bytes : List ℕ) → Appends old old [] → waits ≡ waited ++ bytes → Passes old old waited waits bytes
passes_at_once old waited waits bytes nothing same = ([], sym same, nothing)

-- more bytes went behind the others
pub passes_more : (old mid new : Option (List ℕ)) (waited between waits bytes more all : List ℕ) → Passes old mid waited between bytes → Passes mid new between waits more → all ≡ bytes ++ more
    → Passes old new waited waits all
passes_more old mid new waited between waits bytes more all (out, same, written) (next, next_same, next_written) is = (
  out ++ next,
  ap (λ l. waited ++ l) is ∙ sym (append_assoc waited bytes more) ∙ ap (λ l. l ++ more) same ∙ append_assoc out between more ∙ ap (λ l. out ++ l) next_same ∙ sym (append_assoc out next waits),
  Appends-trans _ _ _ _ _ written next_written,
)

-- bytes that are cut off are so with more behind them
pub cut_longer : (failed : Option Bool) (old new : Option (List ℕ)) (bytes more all : List ℕ) → IsCutOff failed old new bytes → all ≡ bytes ++ more → IsCutOff failed old new all
cut_longer failed old new bytes more all (may, (front, rest, same, some, written)) is =
    (may, (front, rest ++ more, is ∙ ap (λ l. l ++ more) same ∙ append_assoc front rest more, omega (arith, some, length-append rest more), written))

-- bytes were cut off behind others, maybe with more behind them
pub cut_after : (failed : Option Bool) (old mid new : Option (List ℕ)) (waited between bytes next more all : List ℕ) → Passes old mid waited between bytes → IsCutOff failed mid new (between ++ next)
    → all ≡ bytes ++ (next ++ more) → IsCutOff failed old new (waited ++ all)
cut_after failed old mid new waited between bytes next more all (out, same, written) (may, (front, rest, next_same, some, next_written)) is =
    let split : waited ++ all ≡ out ++ (front ++ (rest ++ more)) =
    ap (λ l. waited ++ l) is ∙ sym (append_assoc waited bytes (next ++ more)) ∙ ap (λ l. l ++ (next ++ more)) same ∙ append_assoc out between (next ++ more) ∙ ap (λ l. out ++ l) (sym (append_assoc between next more) ∙ ap (λ l. l ++ more) next_same ∙ append_assoc front rest more) in
    (may, (out ++ front, rest ++ more, split ∙ sym (append_assoc out front (rest ++ more)), omega (arith, some, length-append rest more), Appends-trans _ _ _ _ _ written next_written))

-- what was cut off behind no bytes
pub cut_off : (failed : Option Bool) (old new : Option (List ℕ)) (waited all : List ℕ) → waited ≡ [] → IsCutOff failed old new (waited ++ all) → IsCutOff failed old new all
cut_off failed old new waited all none cut = subst (λ l. IsCutOff failed old new (l ++ all)) none cut

-- all went behind no bytes, and what waited was written
pub passes_out : (old mid new : Option (List ℕ)) (waited waits all : List ℕ) → waited ≡ [] → Passes old mid waited waits all → Appends mid new waits → Appends old new all
passes_out old mid new waited waits all none (out, same, written) rest =
    subst (Appends old new) (sym same ∙ ap (λ l. l ++ all) none) (Appends-trans _ _ _ _ _ written rest)

-- or was cut off
pub cut_out : (failed : Option Bool) (old mid new : Option (List ℕ)) (waited waits all : List ℕ) → waited ≡ [] → Passes old mid waited waits all → IsCutOff failed mid new waits → IsCutOff failed old new all
cut_out failed old mid new waited waits all none (out, same, written) (may, (front, rest, split, some, next)) =
    (may, (out ++ front, rest, ap (λ l. l ++ all) (sym none) ∙ same ∙ ap (λ l. out ++ l) split ∙ sym (append_assoc out front rest), some, Appends-trans _ _ _ _ _ written next))

-- a page was written, and then bytes that are more than one
pub passes_beside : (old mid new : Option (List ℕ)) (waited waits bytes : List ℕ) → Appends old mid waited → waits ≡ [] → Appends mid new bytes → Passes old new waited waits bytes
passes_beside old mid new waited waits bytes written none more =
    (waited ++ bytes, sym (append-nil (waited ++ bytes)) ∙ ap (λ l. (waited ++ bytes) ++ l) (sym none), Appends-trans _ _ _ _ _ written more)

-- or they were cut off
pub cut_beside : (failed : Option Bool) (old mid new : Option (List ℕ)) (waited bytes : List ℕ) → Appends old mid waited → IsCutOff failed mid new bytes → IsCutOff failed old new (waited ++ bytes)
cut_beside failed old mid new waited bytes written (may, (front, rest, split, some, next)) =
    (may, (waited ++ front, rest, ap (λ l. waited ++ l) split ∙ sym (append_assoc waited front rest), some, Appends-trans _ _ _ _ _ written next))

-- what is made of the elements up to a place, and of that one
pub flat_map_next : {X : Type 0} (f : X → List ℕ) (xs : List X) (i : ℕ) (d : X) → i < length xs → flat_map f (take (i + 1) xs) ≡ flat_map f (take i xs) ++ f (get_or xs i d)
flat_map_next f xs i d within =
    ap (flat_map f) (take_more xs i d within) ∙ flat_map-append f (take i xs) (get_or xs i d ∷ []) ∙ ap (λ l. flat_map f (take i xs) ++ l) (append-nil (f (get_or xs i d)))

-- and of those behind it
pub flat_map_parted : {X : Type 0} (f : X → List ℕ) (xs : List X) (i : ℕ) (d : X) → i < length xs → flat_map f xs ≡ flat_map f (take i xs) ++ (f (get_or xs i d) ++ flat_map f (drop (i + 1) xs))
flat_map_parted f xs i d within =
    ap (flat_map f) (sym (take-append-drop (i + 1) xs)) ∙ flat_map-append f (take (i + 1) xs) (drop (i + 1) xs) ∙ ap (λ l. l ++ flat_map f (drop (i + 1) xs)) (flat_map_next f xs i d within)
    ∙ append_assoc (flat_map f (take i xs)) (f (get_or xs i d)) (flat_map f (drop (i + 1) xs))

-- what is made of elements that are gone through: of those so far, of the next one and of the others
pub flat_map_left : {X : Type 0} (f : X → List ℕ) (xs ys zs : List X) (x : X) → xs ≡ ys ++ x ∷ zs → flat_map f xs ≡ flat_map f ys ++ (f x ++ flat_map f zs)
flat_map_left f xs ys zs x is = ap (flat_map f) is ∙ flat_map-append f ys (x ∷ zs)

-- and of one more of them
pub flat_map_one_more : {X : Type 0} (f : X → List ℕ) (ys : List X) (x : X) → flat_map f (ys ++ x ∷ []) ≡ flat_map f ys ++ f x
flat_map_one_more f ys x = flat_map-append f ys (x ∷ []) ∙ ap (λ l. flat_map f ys ++ l) (append-nil (f x))

-- a part's number behind its space
pub part_parted : (part : ℕ) (space : List ℕ) → space ≡ 32 ∷ [] → part_text part ≡ space ++ decimal part
part_parted part space is = ap (λ l. l ++ decimal part) (sym is)

-- a row behind what the rows of its part begin with
pub row_parted : (x : ℕ × ℕ) (begin : List ℕ) → begin ≡ row_begin x.0 → row_text x ≡ begin ++ decimal x.1
row_parted x begin is = sym (append_assoc (32 ∷ decimal x.0) (58 ∷ []) (decimal x.1)) ∙ ap (λ l. l ++ decimal x.1) (sym is)

-- a line that goes out as its word, what it says and its end
module _ (word said : List ℕ) where
  -- the word was cut off
  pub word_cut : (failed : Option Bool) (old new : Option (List ℕ)) (waited : List ℕ) → IsCutOff failed old new (waited ++ word) → IsCutOff failed old new (waited ++ line_of word said)
  word_cut failed old new waited cut = cut_longer failed old new (waited ++ word) (said ++ 10 ∷ []) (waited ++ line_of word said) cut (sym (append_assoc waited word (said ++ 10 ∷ [])))

  module _ (old mid : Option (List ℕ)) (waited between : List ℕ) (begun : Passes old mid waited between word) where
    -- what it says was
    pub said_cut : (failed : Option Bool) (new : Option (List ℕ)) → IsCutOff failed mid new (between ++ said) → IsCutOff failed old new (waited ++ line_of word said)
    said_cut failed new cut = cut_after failed old mid new waited between word said (10 ∷ []) (line_of word said) begun cut refl

    module _ (late : Option (List ℕ)) (behind : List ℕ) (told : Passes mid late between behind said) where
      front : Passes old late waited behind (word ++ said)
      front = passes_more old mid late waited between behind word said (word ++ said) begun told refl

      -- its end was
      pub end_cut : (failed : Option Bool) (new : Option (List ℕ)) → IsCutOff failed late new (behind ++ 10 ∷ []) → IsCutOff failed old new (waited ++ line_of word said)
      end_cut failed new cut = cut_after failed old late new waited behind (word ++ said) (10 ∷ []) [] (line_of word said) front cut (sym (append_assoc word said (10 ∷ [])))

      -- all went out
      pub passes_line : (new : Option (List ℕ)) (waits : List ℕ) → Passes late new behind waits (10 ∷ []) → Passes old new waited waits (line_of word said)
      passes_line new waits ended = passes_more old late new waited behind waits (word ++ said) (10 ∷ []) (line_of word said) front ended (sym (append_assoc word said (10 ∷ [])))

-- the line of the parts that are whole, where there are any
pub whole_line : (parts : List ℕ) → 0 < length parts → whole_text parts ≡ line_of (codes "whole") (flat_map part_text parts)
whole_line [] some = absurd (omega arith)
whole_line (part ∷ parts) some = refl

-- what is printed of a scan, line by line
pub scan_lines : (skipped : List ℕ) (selected : List (ℕ × ℕ)) (whole : List ℕ)
    → scan_text skipped selected whole ≡ line_of (codes "skipped") (flat_map part_text skipped) ++ (line_of (codes "rows") (flat_map row_text selected) ++ whole_text whole)
scan_lines skipped selected whole =
    let S : List ℕ = codes "skipped" in
    let P : List ℕ = flat_map part_text skipped in
    let Q : List ℕ = codes "rows" in
    let R : List ℕ = flat_map row_text selected in
    let L : List ℕ = 10 ∷ [] in
    let W : List ℕ = whole_text whole in
    append_assoc ((S ++ P) ++ (L ++ Q)) R (L ++ W) ∙ append_assoc (S ++ P) (L ++ Q) (R ++ (L ++ W))
    ∙ sym (ap (λ l. l ++ (line_of Q R ++ W)) (sym (append_assoc S P L)) ∙ append_assoc (S ++ P) L (line_of Q R ++ W) ∙ ap (λ l. (S ++ P) ++ (L ++ l)) (append_assoc Q (R ++ L) W ∙ ap (λ l. Q ++ l) (append_assoc R L W)))

-- how many digits a number of three or four takes
pub digits_three : (n : ℕ) → 100 ≤ n → n < 1000 → length (decimal n) ≡ 3
digits_three n low high = length_pair n low (omega arith) ∙ ap (λ k. k + 2) (length_one (n / 100) (omega arith))

pub digits_four : (n : ℕ) → 1000 ≤ n → n < 10000 → length (decimal n) ≡ 4
digits_four n low high = length_pair n (omega arith) (omega arith) ∙ ap (λ k. k + 2) (length_two (n / 100) (omega arith) (omega arith))

-- and one of 64 bits takes 20 at the most
pub few_decimals : (n : ℕ) → n < 2 ^ 64 → length (decimal n) ≤ 20
few_decimals n fits = length-decimal-le 20 n (omega arith) (omega arith) fits
