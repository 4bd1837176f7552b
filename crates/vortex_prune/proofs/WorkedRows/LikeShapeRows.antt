-- Worked rows of LIKE of a column of texts, found by computation alone.
use Rattle.std.proofs.Common.{Bor, refl}
use Rattle.std.specs.Prelude.{◌≡◌, ℕ, Bool, true, false, List, [], ◌∷◌, Option, Some, None, codes, map, pos}
use Rattle.std.specs.Str.{chars}
use Rattle.vortex_base.specs.declared.pvalue.PValue.TheVariants as number
use Rattle.vortex_base.specs.declared.scalar_value.ScalarValue.{ScalarValue}
use Rattle.vortex_base.specs.declared.scalar_value.ScalarValue.TheVariants as value
use Rattle.vortex_expr.specs.Patterns.Like.{items, like}
use Rattle.vortex_expr.specs.declared.like.LikeOptions.{LikeOptions}
use Rattle.vortex_prune.specs.Scanning.Leaves.{likes, passes, passes_at}
use Rattle.vortex_prune.specs.Scanning.Likes.{ends_in, is_liked, is_liked_at, letters, passes_items, passes_items_at, rest_items, within}
use Rattle.vortex_prune.specs.declared.scan.leaf.Test.TheVariants.{Like}
use Rattle.vortex_prune.specs.declared.scan.pattern.Rest.{Rest}
use Rattle.vortex_prune.specs.declared.scan.pattern.Rest.TheVariants.{Nothing, Ends, Within, Other}

abbrev lent : List ℕ → Bor (List ℕ)
lent xs = record { ref_ptr = (0, 0); now = xs }

abbrev under : (negated ignore_case : Bool) → LikeOptions
under n i = record { negated = n; case_insensitive = i }

abbrev text : List ℕ → Option ScalarValue
text cs = Some (value.Utf8 cs)

-- ---- the leaf

-- the text first and then the pattern, turned round where negated, in either case where case is ignored
options_row : map (λ o. likes o (text (codes "abc")) (text (codes "A%"))) (under false false ∷ under true false ∷ under false true ∷ under true true ∷ []) ≡ false ∷ true ∷ true ∷ false ∷ []
unfolding chars
options_row = refl

operands_row : likes (under false false) (text (codes "ab")) (text (codes "a%")) ∷ likes (under false false) (text (codes "a%")) (text (codes "ab")) ∷ [] ≡ true ∷ false ∷ []
unfolding chars
operands_row = refl

-- null on either side passes under no options
null_row : likes (under true false) None (text (codes "a")) ∷ likes (under true false) (text (codes "a")) None ∷ [] ≡ false ∷ false ∷ []
null_row = refl

-- a value of another kind is like nothing, nor unlike it
other_row : likes (under true false) (Some (value.Binary (codes "b"))) (text (codes "a")) ≡ false
other_row = refl

abbrev values : List (Option ScalarValue)
values = text (codes "abc") ∷ None ∷ text (codes "b") ∷ Some (value.Primitive (number.I64 (pos 5))) ∷ []

passed : map (passes_at (Like (under false false) (lent (codes "a%"))) values) (0 ∷ 1 ∷ 2 ∷ 3 ∷ 4 ∷ []) ≡ true ∷ false ∷ false ∷ false ∷ false ∷ []
unfolding chars
passed = refl

passed_negated : map (passes_at (Like (under true false) (lent (codes "a%"))) values) (0 ∷ 1 ∷ 2 ∷ 3 ∷ 4 ∷ []) ≡ false ∷ false ∷ true ∷ false ∷ false ∷ []
unfolding chars
passed_negated = refl

passes_alone : passes (Like (under false true) (lent (codes "AB_"))) (text (codes "abc")) ≡ true
unfolding chars
passes_alone = refl

-- ---- the same of optional texts

abbrev texts : List (Option (List ℕ))
texts = Some (codes "abc") ∷ None ∷ Some (codes "b") ∷ []

liked_row : map (is_liked_at (under false false) (codes "a%") texts) (0 ∷ 1 ∷ 2 ∷ 3 ∷ []) ≡ true ∷ false ∷ false ∷ false ∷ []
unfolding chars
liked_row = refl

unliked_row : map (is_liked_at (under true false) (codes "a%") texts) (0 ∷ 1 ∷ 2 ∷ 3 ∷ []) ≡ false ∷ false ∷ true ∷ false ∷ []
unfolding chars
unliked_row = refl

pattern_behind : is_liked (under false false) (codes "a%") (Some (codes "ab")) ∷ is_liked (under false false) (codes "ab") (Some (codes "a%")) ∷ [] ≡ true ∷ false ∷ []
unfolding chars
pattern_behind = refl

items_row : map (passes_items_at false (letters (codes "abc")) texts) (0 ∷ 1 ∷ 2 ∷ 3 ∷ []) ≡ true ∷ false ∷ false ∷ false ∷ []
unfolding chars
items_row = refl

not_items_row : map (passes_items_at true (letters (codes "abc")) texts) (0 ∷ 1 ∷ 2 ∷ 3 ∷ []) ≡ false ∷ false ∷ true ∷ false ∷ []
unfolding chars
not_items_row = refl

items_alone : passes_items false (ends_in (codes "c")) (Some (codes "abc")) ≡ true
unfolding chars
items_alone = refl

-- ---- what a pattern is read as

letters_read : letters (codes "a%b") ≡ items (codes "a\\%b")
letters_read = refl

end_read : ends_in (codes "bc") ≡ items (codes "%bc")
end_read = refl

within_read : within (codes "bc") ≡ items (codes "%bc%")
within_read = refl

rests_read : map rest_items (Nothing ∷ Ends (lent (codes "bc")) ∷ Within (lent (codes "bc")) ∷ Other (lent (codes "_b%")) ∷ []) ≡ [] ∷ items (codes "%bc") ∷ items (codes "%bc%") ∷ items (codes "_b%") ∷ []
unfolding chars
rests_read = refl

-- each of them on texts that end, begin and hold so
ends : map (like (ends_in (codes "bc"))) (codes "bc" ∷ codes "abc" ∷ codes "bcd" ∷ codes "c" ∷ []) ≡ true ∷ true ∷ false ∷ false ∷ []
ends = refl

holds : map (like (within (codes "bc"))) (codes "bc" ∷ codes "abc" ∷ codes "bcd" ∷ codes "bdc" ∷ []) ≡ true ∷ true ∷ true ∷ false ∷ []
holds = refl
