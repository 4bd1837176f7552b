-- Lists of optional texts.
use Rattle.std.proofs.Common.{◌≡◌, ℕ, zero, suc, true, IsTrue, List, [], ◌∷◌, ◌++◌, Option, Result, Some, Ok, Err, OnOk, OnErr, take, slice_get, refl, ap, subst, sym, ◌∙◌}
use Rattle.std.specs.Str.{is_utf8}
use Rattle.std.proofs.lemmas.Bool.{and_from, and_parts}
use Rattle.vortex_base.specs.Data.VarBinArray.{blob_at}
use Rattle.vortex_base.specs.Data.Utf8Array.{are_texts, is_text}

-- a text that is there is UTF-8
pub text-at : (ts : List (Option (List ℕ))) (i : ℕ) (b : List ℕ) → IsTrue (are_texts ts) → Some b ≡ blob_at (slice_get ts i) → is_utf8 b ≡ true
text-at [] i b h is = absurd cc
text-at (t ∷ ts) zero b h is = ap is_text is ∙ (and_parts (is_text t) (are_texts ts) h).0
text-at (t ∷ ts) (suc i) b h is = text-at ts i b (and_parts (is_text t) (are_texts ts) h).1 is

pub texts-take : (n : ℕ) (ts : List (Option (List ℕ))) → IsTrue (are_texts ts) → IsTrue (are_texts (take n ts))
texts-take zero ts h = refl
texts-take (suc n) [] h = refl
texts-take (suc n) (t ∷ ts) h =
    let both = and_parts (is_text t) (are_texts ts) h in
    and_from (is_text t) (are_texts (take n ts)) both.0 (texts-take n ts both.1)

pub texts-append : (ts us : List (Option (List ℕ))) → IsTrue (are_texts ts) → IsTrue (are_texts us) → IsTrue (are_texts (ts ++ us))
texts-append [] us h g = g
texts-append (t ∷ ts) us h g =
    let both = and_parts (is_text t) (are_texts ts) h in
    and_from (is_text t) (are_texts (ts ++ us)) both.0 (texts-append ts us both.1 g)

-- one more, unless it is refused
pub texts-push : {T E : Type 0} (r : Result T E) (t : Option (List ℕ)) (ts us : List (Option (List ℕ))) → IsTrue (are_texts ts) → IsTrue (is_text t) → OnOk r (us ≡ ts ++ t ∷ []) → OnErr r (us ≡ ts) → IsTrue (are_texts us)
texts-push (Ok x) t ts us h g pushed refused = subst (λ (l : List (Option (List ℕ))). IsTrue (are_texts l)) (sym pushed) (texts-append ts (t ∷ []) h (and_from (is_text t) true g refl))
texts-push (Err e) t ts us h g pushed refused = subst (λ (l : List (Option (List ℕ))). IsTrue (are_texts l)) (sym refused) h
