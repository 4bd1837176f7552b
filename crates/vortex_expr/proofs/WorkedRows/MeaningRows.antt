-- Worked rows of the meaning of each operator, at each place of its operands.
use Rattle.std.proofs.Common.{refl}
use Rattle.std.specs.Prelude.{◌≡◌, ℕ, true, false, List, [], ◌∷◌, Option, Some, None, codes, map}
use Rattle.std.specs.Str.{chars}
use Rattle.vortex_base.specs.declared.types.Nullability.TheVariants.{Nullable}
use Rattle.vortex_base.specs.declared.dtype.DType.TheVariants as dtype
use Rattle.vortex_base.specs.declared.scalar_value.ScalarValue.{ScalarValue}
use Rattle.vortex_base.specs.declared.scalar_value.ScalarValue.TheVariants as value
use Rattle.vortex_expr.specs.declared.scalar_fn.Operator.{Operator}
use Rattle.vortex_expr.specs.declared.scalar_fn.Operator.TheVariants as operator
use Rattle.vortex_expr.specs.declared.scalar_fn.BetweenOptions.{BetweenOptions}
use Rattle.vortex_expr.specs.declared.scalar_fn.StrictComparison.TheVariants.{Strict}
use Rattle.vortex_expr.specs.declared.like.LikeOptions.{LikeOptions}
use Rattle.vortex_expr.specs.Patterns.Like.{plain}
use Rattle.vortex_base.specs.Data.Scalars.{is_long}
use Rattle.vortex_expr.specs.Meanings.Meaning.{satisfies}
use Rattle.vortex_expr.specs.Trees.Tree.{Tree, Place, literal, binary, between, is_null, is_not_null, not, like, row_count}
use Rattle.vortex_base.specs.Worked.Examples.{i32_value}
use Rattle.vortex_expr.specs.Worked.ExpressionExamples.{closed_ends, int, no_value, null_int, on_empty, open_lower, open_upper, truth, yes_value}

abbrev yes : Option ScalarValue
yes = yes_value

abbrev no : Option ScalarValue
no = no_value

abbrev null : Option ScalarValue
null = None

-- ---- comparisons: less, equal, greater; null on the left, on the right, on both sides

abbrev compared : Operator → List (Option ScalarValue)
compared o = map on_empty (binary o (int 1) (int 2) ∷ binary o (int 2) (int 2) ∷ binary o (int 3) (int 2)
    ∷ binary o null_int (int 2) ∷ binary o (int 2) null_int ∷ binary o null_int null_int ∷ [])

eq_row : compared operator.Eq ≡ no ∷ yes ∷ no ∷ null ∷ null ∷ null ∷ []
eq_row = refl

not_eq_row : compared operator.NotEq ≡ yes ∷ no ∷ yes ∷ null ∷ null ∷ null ∷ []
not_eq_row = refl

gt_row : compared operator.Gt ≡ no ∷ no ∷ yes ∷ null ∷ null ∷ null ∷ []
gt_row = refl

gt_eq_row : compared operator.Gte ≡ no ∷ yes ∷ yes ∷ null ∷ null ∷ null ∷ []
gt_eq_row = refl

lt_row : compared operator.Lt ≡ yes ∷ no ∷ no ∷ null ∷ null ∷ null ∷ []
lt_row = refl

lt_eq_row : compared operator.Lte ≡ yes ∷ yes ∷ no ∷ null ∷ null ∷ null ∷ []
lt_eq_row = refl

-- ---- connectives: false, null and true on the right of false, then of null, then of true

abbrev f : Tree Place
f = truth (Some false)

abbrev u : Tree Place
u = truth None

abbrev t : Tree Place
t = truth (Some true)

abbrev joined : Operator → List (Option ScalarValue)
joined o = map on_empty (binary o f f ∷ binary o f u ∷ binary o f t ∷ binary o u f ∷ binary o u u ∷ binary o u t ∷ binary o t f ∷ binary o t u ∷ binary o t t ∷ [])

and_table : joined operator.And ≡ no ∷ no ∷ no ∷ no ∷ null ∷ null ∷ no ∷ null ∷ yes ∷ []
and_table = refl

or_table : joined operator.Or ≡ no ∷ null ∷ yes ∷ null ∷ null ∷ yes ∷ yes ∷ yes ∷ yes ∷ []
or_table = refl

-- ---- false, null, true

not_row : map (λ x. on_empty (not x)) (f ∷ u ∷ t ∷ []) ≡ yes ∷ null ∷ no ∷ []
not_row = refl

is_null_row : map (λ x. on_empty (is_null x)) (f ∷ u ∷ t ∷ []) ≡ no ∷ yes ∷ no ∷ []
is_null_row = refl

is_not_null_row : map (λ x. on_empty (is_not_null x)) (f ∷ u ∷ t ∷ []) ≡ yes ∷ no ∷ yes ∷ []
is_not_null_row = refl

-- only true satisfies
satisfied_row : map (λ x. satisfies x [] 3) (f ∷ u ∷ t ∷ int 1 ∷ row_count ∷ []) ≡ false ∷ false ∷ true ∷ false ∷ false ∷ []
satisfied_row = refl

-- ---- ranges from 1 to 5: below, at the lower end, inside, at the upper end, above

abbrev ranged : BetweenOptions → List (Option ScalarValue)
ranged o = map (λ x. on_empty (between o x (int 1) (int 5))) (int 0 ∷ int 1 ∷ int 3 ∷ int 5 ∷ int 6 ∷ [])

closed_row : ranged closed_ends ≡ no ∷ yes ∷ yes ∷ yes ∷ no ∷ []
closed_row = refl

open_lower_row : ranged open_lower ≡ no ∷ no ∷ yes ∷ yes ∷ no ∷ []
open_lower_row = refl

open_upper_row : ranged open_upper ≡ no ∷ yes ∷ yes ∷ no ∷ no ∷ []
open_upper_row = refl

open_row : ranged (record { lower_strict = Strict; upper_strict = Strict }) ≡ no ∷ no ∷ yes ∷ no ∷ no ∷ []
open_row = refl

-- null for the operand; for the lower end, with the upper met and missed; for the upper end, with the lower met and missed
range_with_null : map on_empty (between closed_ends null_int (int 1) (int 5) ∷ between closed_ends (int 3) null_int (int 5) ∷ between closed_ends (int 6) null_int (int 5)
    ∷ between closed_ends (int 3) (int 1) null_int ∷ between closed_ends (int 0) (int 1) null_int ∷ []) ≡ null ∷ null ∷ no ∷ null ∷ no ∷ []
range_with_null = refl

-- ---- patterns: a match, the same turned round, null for the text, null for the pattern

abbrev text : List ℕ → Tree Place
text bs = literal (record { dtype = dtype.Utf8 Nullable; value = Some (value.Utf8 bs) })

abbrev null_text : Tree Place
null_text = literal (record { dtype = dtype.Utf8 Nullable; value = None })

abbrev liked : LikeOptions → List (Option ScalarValue)
liked o = map on_empty (like o (text (codes "ab")) (text (codes "a_")) ∷ like o (text (codes "a_")) (text (codes "ab"))
    ∷ like o null_text (text (codes "a_")) ∷ like o (text (codes "ab")) null_text ∷ [])

like_row : liked plain ≡ yes ∷ no ∷ null ∷ null ∷ []
unfolding chars
like_row = refl

not_like_row : liked (record { negated = true; case_insensitive = false }) ≡ no ∷ yes ∷ null ∷ null ∷ []
unfolding chars
not_like_row = refl

-- ---- the values of which a copy takes memory: texts and bytes, empty ones too

long_row : map is_long (null ∷ yes ∷ Some (i32_value 5) ∷ Some (value.Utf8 []) ∷ Some (value.Utf8 (codes "ab")) ∷ Some (value.Binary []) ∷ Some (value.Binary (codes "ab")) ∷ [])
    ≡ false ∷ false ∷ false ∷ true ∷ true ∷ true ∷ true ∷ []
long_row = refl
