-- A text is below the successor of its beginning.
use Rattle.std.proofs.Common.{◌≡◌, ℕ, ◌+◌, Bool, true, false, List, [], ◌∷◌, ◌++◌, Option, Some, None, refl, subst, ◌∙◌, arith, Less, if◌then◌else◌}
use Rattle.std.specs.Prelude.{encode_utf8_all}
use Rattle.std.proofs.lemmas.Option.{same_Some, none-some}
use Rattle.vortex_expr.specs.Patterns.Prefix.{AreBelowSuccessor, has_next, next_after, successor}
use Rattle.vortex_base.proofs.Data.TextOrder.{bytes_cmp, same_front, encode_less}
use lib.Utf8.{encode}

pub below_successor : (p q rest : List ℕ) → successor p ≡ Some q → bytes_cmp (encode_utf8_all (p ++ rest)) (encode_utf8_all q) ≡ Less
below_successor [] q rest h = absurd (none-some q h)
below_successor (c ∷ cs) q rest h = go (λ ds e. below_successor cs ds rest e) (successor cs) refl h
  where
    last : (b : Bool) → (if b then Some ((c + 1) ∷ []) else None) ≡ Some q → bytes_cmp (encode c ++ encode_utf8_all (cs ++ rest)) (encode_utf8_all q) ≡ Less
    last true k =
        subst (λ s. bytes_cmp (encode c ++ encode_utf8_all (cs ++ rest)) (encode_utf8_all s) ≡ Less) (same_Some _ _ k)
        (encode_less c (c + 1) (encode_utf8_all (cs ++ rest)) [] (omega arith))
    last false k = absurd (none-some q k)

    go : ((ds : List ℕ) → successor cs ≡ Some ds → bytes_cmp (encode_utf8_all (cs ++ rest)) (encode_utf8_all ds) ≡ Less)
        → (o : Option (List ℕ)) → successor cs ≡ o → next_after c o ≡ Some q → bytes_cmp (encode c ++ encode_utf8_all (cs ++ rest)) (encode_utf8_all q) ≡ Less
    go ih (Some ds) e k =
        subst (λ s. bytes_cmp (encode c ++ encode_utf8_all (cs ++ rest)) (encode_utf8_all s) ≡ Less) (same_Some _ _ k)
        (same_front (encode c) (encode_utf8_all (cs ++ rest)) (encode_utf8_all ds) ∙ ih ds e)
    go ih None e k = last (has_next c) k

pub are-below-successor : (p : List ℕ) → AreBelowSuccessor p
are-below-successor p q rest h = below_successor p q rest h
