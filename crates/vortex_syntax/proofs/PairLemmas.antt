-- Pairs of hexadecimal digits, one after another.
use Rattle.std.proofs.Common.{◌≡◌, ◌<◌, ◌≤◌, ◌-◌, ◌⊎◌, ℕ, true, List, [], ◌∷◌, ◌++◌, Option, None, Some, length, option_map, append_assoc, take, drop, get_or, refl, ap, sym, ◌∙◌, inl, inr, arith}
use Rattle.std.proofs.lemmas.Bool.{and_from, cases_Bool}
use Rattle.std.proofs.lemmas.Bool.Decides.{nat_tests}
use Rattle.std.proofs.lemmas.List.{take_rest}
use Rattle.std.proofs.lemmas.List.Folds.{list_all-append}
use Rattle.std.specs.Char.{is_ascii_hexdigit}
use Rattle.std.specs.List.{list_all}
use Rattle.vortex_syntax.specs.Numbers.{byte_of, bytes_of, hexadecimal_of, in_front}
use Rattle.vortex_syntax.specs.Plain.{BeginsBytes, is_word_byte}

-- bytes in front of those to come
abbrev pub with_front : List ℕ → Option (List ℕ) → Option (List ℕ)
with_front front read = option_map (λ more. front ++ more) read

front_none : (read : Option (List ℕ)) → read ≡ with_front [] read
front_none None = refl
front_none (Some more) = refl

front_more : (front : List ℕ) (b : ℕ) (read : Option (List ℕ)) → in_front (Some b) (with_front front read) ≡ with_front (b ∷ front) read
front_more front b None = refl
front_more front b (Some more) = refl

pub bytes_append : (digits rest bytes : List ℕ) → bytes_of digits ≡ Some bytes → bytes_of (digits ++ rest) ≡ with_front bytes (bytes_of rest)
bytes_append [] rest bytes h = let none : bytes ≡ [] = cc in rw none (front_none (bytes_of rest))
bytes_append (x ∷ []) rest bytes h = cc
bytes_append (x ∷ y ∷ digits) rest bytes h = by (byte_of x y) (bytes_of digits) refl refl (λ front are. bytes_append digits rest front are)
  where
    by : (b : Option ℕ) (more : Option (List ℕ)) → byte_of x y ≡ b → bytes_of digits ≡ more
        → ((front : List ℕ) → bytes_of digits ≡ Some front → bytes_of (digits ++ rest) ≡ with_front front (bytes_of rest))
        → bytes_of (x ∷ y ∷ digits ++ rest) ≡ with_front bytes (bytes_of rest)
    by None more pair are behind = let bad = rw pair at h in cc
    by (Some b) None pair are behind = let bad = rw (pair, are) at h in cc
    by (Some b) (Some front) pair are behind =
        let whole : bytes ≡ b ∷ front = (let same = rw (pair, are) at h in cc) in
        rw (pair, whole) (ap (in_front (Some b)) (behind front are) ∙ front_more front b (bytes_of rest))

digit_in_word : (d n : ℕ) → hexadecimal_of d ≡ Some n → is_word_byte d ≡ true
digit_in_word d n h = elim (cases_Bool (is_ascii_hexdigit d)) [
  | inl is ↦ grind (arith, nat_tests, is)
  | inr isnt ↦ (let bad = rw isnt at h in cc)
]

pair_in_word : (high low b : ℕ) → byte_of high low ≡ Some b → list_all is_word_byte (high ∷ low ∷ []) ≡ true
pair_in_word high low b h = by (hexadecimal_of high) (hexadecimal_of low) refl refl
  where
    by : (x y : Option ℕ) → hexadecimal_of high ≡ x → hexadecimal_of low ≡ y → list_all is_word_byte (high ∷ low ∷ []) ≡ true
    by None y first second = let bad = rw first at h in cc
    by (Some x) None first second = let bad = rw (first, second) at h in cc
    by (Some x) (Some y) first second = and_from _ _ (digit_in_word high x first) (and_from _ _ (digit_in_word low y second) refl)

-- no pair so far
pub pairs_none : (text bytes : List ℕ) → bytes ≡ [] → BeginsBytes text bytes text
pairs_none text bytes none = record { digits = []; split = refl; is_plain = refl; value = ap Some (sym none) }

-- one more pair
pub pairs_push : (text bytes rest : List ℕ) (b : ℕ) → BeginsBytes text bytes rest → 2 ≤ length rest → byte_of (get_or rest 0 0) (get_or rest 1 0) ≡ Some b
    → BeginsBytes text (bytes ++ b ∷ []) (take (length rest - 2) (drop 2 rest))
pairs_push text bytes [] b so_far long pair = absurd (omega arith)
pairs_push text bytes (x ∷ []) b so_far long pair = absurd (omega arith)
pairs_push text bytes (high ∷ low ∷ rest) b so_far long pair =
    let one : bytes_of (high ∷ low ∷ []) ≡ Some (b ∷ []) = ap (λ o. in_front o (Some [])) pair in
    rw (take_rest (high ∷ low ∷ rest) 2) (record {
      digits = so_far.digits ++ high ∷ low ∷ [];
      split = so_far.split ∙ sym (append_assoc so_far.digits (high ∷ low ∷ []) rest);
      is_plain = list_all-append is_word_byte so_far.digits (high ∷ low ∷ []) ∙ and_from _ _ so_far.is_plain (pair_in_word high low b pair);
      value = bytes_append so_far.digits (high ∷ low ∷ []) bytes so_far.value ∙ ap (with_front bytes) one;
    })

-- what isn't a pair behind them
rest_none : (rest : List ℕ) → 0 < length rest → (length rest < 2) ⊎ (byte_of (get_or rest 0 0) (get_or rest 1 0) ≡ None) → bytes_of rest ≡ None
rest_none [] some stops = absurd (omega arith)
rest_none (x ∷ []) some stops = refl
rest_none (high ∷ low ∷ rest) some (inl short) = absurd (omega arith)
rest_none (high ∷ low ∷ rest) some (inr none) = ap (λ o. in_front o (bytes_of rest)) none

pub pairs_stop : (text bytes rest : List ℕ) → BeginsBytes text bytes rest → (length rest < 2) ⊎ (byte_of (get_or rest 0 0) (get_or rest 1 0) ≡ None) → 0 < length rest → bytes_of text ≡ None
pairs_stop text bytes rest so_far stops some =
    ap bytes_of so_far.split ∙ bytes_append so_far.digits rest bytes so_far.value ∙ ap (with_front bytes) (rest_none rest some stops)
