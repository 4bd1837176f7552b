-- Worked rows of LIKE: one text under many patterns, one pattern over many texts, and null at each place.
use Rattle.std.proofs.Common.{refl}
use Rattle.std.specs.Prelude.{◌≡◌, ℕ, Bool, true, false, List, [], ◌∷◌, Option, Some, None, codes, map}
use Rattle.std.specs.Str.{chars}
use Rattle.vortex_base.specs.declared.scalar_value.ScalarValue.{ScalarValue}
use Rattle.vortex_base.specs.declared.scalar_value.ScalarValue.TheVariants as value
use Rattle.vortex_expr.specs.declared.like.LikeOptions.{LikeOptions}
use Rattle.vortex_expr.specs.Meanings.Meaning.{liked}
use Rattle.vortex_expr.specs.Patterns.Like.{like_text, matches, plain}

abbrev abc_under : List (List ℕ) → List Bool
abc_under ps = map (λ p. like_text false p (codes "abc")) ps

-- as many characters as the text, one fewer, one more
any_one : abc_under (codes "___" ∷ codes "__" ∷ codes "____" ∷ codes "a__" ∷ codes "a_" ∷ codes "a___" ∷ []) ≡ true ∷ false ∷ false ∷ true ∷ false ∷ false ∷ []
unfolding chars
any_one = refl

-- the any one character first, in the middle, last, beside letters that match and that don't
any_one_place : abc_under (codes "_bc" ∷ codes "a_c" ∷ codes "ab_" ∷ codes "_bd" ∷ codes "x_c" ∷ codes "xb_" ∷ []) ≡ true ∷ true ∷ true ∷ false ∷ false ∷ false ∷ []
unfolding chars
any_one_place = refl

-- letters alone: the text, a beginning, an end, longer, another letter at each place
letters_alone : abc_under (codes "abc" ∷ codes "ab" ∷ codes "bc" ∷ codes "abcd" ∷ codes "xbc" ∷ codes "axc" ∷ codes "abx" ∷ [] ∷ []) ≡ true ∷ false ∷ false ∷ false ∷ false ∷ false ∷ false ∷ false ∷ []
unfolding chars
letters_alone = refl

-- a run first, in the middle, last, that is empty, of one and of all
any_run : abc_under (codes "%c" ∷ codes "a%c" ∷ codes "a%" ∷ codes "%abc" ∷ codes "abc%" ∷ codes "a%bc" ∷ codes "%" ∷ codes "%%" ∷ []) ≡ true ∷ true ∷ true ∷ true ∷ true ∷ true ∷ true ∷ true ∷ []
unfolding chars
any_run = refl

no_run : abc_under (codes "%b" ∷ codes "b%" ∷ codes "a%b" ∷ codes "%abcd" ∷ codes "c%a" ∷ codes "%d%" ∷ []) ≡ false ∷ false ∷ false ∷ false ∷ false ∷ false ∷ []
unfolding chars
no_run = refl

-- a run and any one character take one character at the least
run_and_one : map (like_text false (codes "%_")) ([] ∷ codes "a" ∷ codes "ab" ∷ []) ≡ false ∷ true ∷ true ∷ []
unfolding chars
run_and_one = refl

one_and_run : map (like_text false (codes "a_%")) (codes "a" ∷ codes "ab" ∷ codes "abc" ∷ codes "b" ∷ []) ≡ false ∷ true ∷ true ∷ false ∷ []
unfolding chars
one_and_run = refl

-- turned round where the test is negated, in either case
abbrev under : (negated ignore_case : Bool) → List Bool
under n i = map (λ p. matches (record { negated = n; case_insensitive = i }) p (codes "abc")) (codes "a%" ∷ codes "A%" ∷ codes "b%" ∷ [])

options_row : under false false ∷ under true false ∷ under false true ∷ under true true ∷ []
    ≡ (true ∷ false ∷ false ∷ []) ∷ (false ∷ true ∷ true ∷ []) ∷ (true ∷ true ∷ false ∷ []) ∷ (false ∷ false ∷ true ∷ []) ∷ []
unfolding chars
options_row = refl

-- ---- null for the text, for the pattern and for both is null under each option, and a value of another kind matches nothing

abbrev a_text : Option ScalarValue
a_text = Some (value.Utf8 (codes "abc"))

abbrev negated : LikeOptions
negated = record { negated = true; case_insensitive = false }

abbrev caseless : LikeOptions
caseless = record { negated = false; case_insensitive = true }

null_text : map (λ o. liked o None a_text) (plain ∷ negated ∷ caseless ∷ []) ≡ None ∷ None ∷ None ∷ []
null_text = refl

null_pattern : map (λ o. liked o a_text None) (plain ∷ negated ∷ caseless ∷ []) ≡ None ∷ None ∷ None ∷ []
null_pattern = refl

both_null : map (λ o. liked o None None) (plain ∷ negated ∷ caseless ∷ []) ≡ None ∷ None ∷ None ∷ []
both_null = refl

bytes_match_nothing : liked plain (Some (value.Binary (codes "abc"))) a_text ∷ liked plain a_text (Some (value.Binary (codes "abc"))) ∷ [] ≡ Some false ∷ Some false ∷ []
bytes_match_nothing = refl
