-- Worked rows of the beginnings of patterns and of the texts above those that begin so.
use Rattle.std.proofs.Common.{refl}
use Rattle.std.specs.Prelude.{◌≡◌, ℕ, true, false, List, [], ◌∷◌, Some, None, codes, map}
use Rattle.vortex_expr.specs.Patterns.Like.{items}
use Rattle.vortex_expr.specs.Patterns.Prefix.{exact_text, literal_prefix, pattern_of, is_exact, successor}

-- without wildcards; a run, one character, both; an escaped run; a last lone escape
abbrev patterns : List (List ℕ)
patterns = codes "exact" ∷ codes "pre%fix" ∷ codes "pre_x%" ∷ codes "%suffix" ∷ (92 ∷ 37 ∷ 37 ∷ []) ∷ (97 ∷ 92 ∷ []) ∷ [] ∷ []

beginnings : map (λ p. literal_prefix (items p)) patterns ≡ codes "exact" ∷ codes "pre" ∷ codes "pre" ∷ [] ∷ codes "%" ∷ (97 ∷ 92 ∷ []) ∷ [] ∷ []
beginnings = refl

exact_row : map (λ p. is_exact (items p)) patterns ≡ true ∷ false ∷ false ∷ false ∷ false ∷ true ∷ true ∷ []
exact_row = refl

exact_texts : map (λ p. exact_text (pattern_of (items p))) (codes "ab" ∷ codes "a%" ∷ [] ∷ []) ≡ Some (codes "ab") ∷ None ∷ Some [] ∷ []
unfolding lib.Utf8.encode
exact_texts = refl

-- ---- the last character that has a next one is raised, and what follows it is dropped

raised : map successor (codes "a" ∷ codes "az" ∷ codes "prefix" ∷ []) ≡ Some (codes "b") ∷ Some (codes "a{") ∷ Some (codes "prefiy") ∷ []
raised = refl

-- no character follows the one before the surrogates, nor the last
dropped : map successor ((98 ∷ 55295 ∷ []) ∷ (97 ∷ 1114111 ∷ []) ∷ (97 ∷ 1114111 ∷ 55295 ∷ []) ∷ []) ≡ Some (codes "c") ∷ Some (codes "b") ∷ Some (codes "b") ∷ []
dropped = refl

none_above : map successor ([] ∷ (55295 ∷ []) ∷ (1114111 ∷ []) ∷ (1114111 ∷ 55295 ∷ []) ∷ []) ≡ None ∷ None ∷ None ∷ None ∷ []
none_above = refl

-- up to the ends of the characters
at_the_ends : map successor ((55294 ∷ []) ∷ (57344 ∷ []) ∷ (65535 ∷ []) ∷ (1114110 ∷ []) ∷ []) ≡ Some (55295 ∷ []) ∷ Some (57345 ∷ []) ∷ Some (65536 ∷ []) ∷ Some (1114111 ∷ []) ∷ []
at_the_ends = refl
