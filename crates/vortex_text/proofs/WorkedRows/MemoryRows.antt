-- Worked rows: which lines take memory, computed.
use Rattle.std.proofs.Common.{◌≡◌, true, false, [], ◌∷◌, Some, codes, refl}
use Rattle.std.specs.Str.{chars, is_utf8}
use Rattle.vortex_base.specs.declared.dtype.DType.TheVariants as dtype
use Rattle.vortex_base.specs.declared.scalar_value.ScalarValue.TheVariants as value
use Rattle.vortex_expr.specs.Trees.Tree.{literal}
use Rattle.vortex_base.specs.declared.types.Nullability.TheVariants.{NonNullable}
use Rattle.vortex_base.specs.declared.types.PType.TheVariants as ptype
use Rattle.vortex_text.specs.Lines.{Reading, nothing_read}
use Rattle.vortex_text.specs.MemoryTaken.{TakesMemory, line_takes}
use Rattle.vortex_text.specs.Rows.{empty_part}

-- a column of numbers, one of texts and one of bytes
abbrev three_columns : Reading
three_columns = record nothing_read { scope = (codes "a", dtype.Primitive ptype.I64 NonNullable) ∷ (codes "s", dtype.Utf8 NonNullable) ∷ (codes "x", dtype.Binary NonNullable) ∷ [] }

-- with a part that has no rows yet
abbrev one_part : Reading
one_part = record three_columns { current = Some (empty_part three_columns.scope) }

-- with a predicate
abbrev finished : Reading
finished = record one_part { predicate = Some (literal (record { dtype = dtype.Bool NonNullable; value = Some (value.Bool true) })) }

column : line_takes nothing_read (codes "column a i64") ≡ true
unfolding is_utf8 chars lib.Utf8.encode
column = refl

column_of_no_type : line_takes nothing_read (codes "column a i128") ≡ false
unfolding is_utf8 chars lib.Utf8.encode
column_of_no_type = refl

column_again : line_takes three_columns (codes "column a i64") ≡ false
unfolding is_utf8 chars lib.Utf8.encode
column_again = refl

column_after_a_part : line_takes one_part (codes "column b i64") ≡ false
unfolding is_utf8 chars lib.Utf8.encode
column_after_a_part = refl

part : line_takes three_columns (codes "part") ≡ true
unfolding is_utf8 chars lib.Utf8.encode
part = refl

part_without_columns : line_takes nothing_read (codes "part") ≡ false
unfolding is_utf8 chars lib.Utf8.encode
part_without_columns = refl

part_with_more : line_takes three_columns (codes "part 1") ≡ false
unfolding is_utf8 chars lib.Utf8.encode
part_with_more = refl

number_claimed : line_takes one_part (codes "stat a max exact 1") ≡ true
unfolding is_utf8 chars lib.Utf8.encode
number_claimed = refl

text_claimed : line_takes one_part (codes "stat s max exact \"a\"") ≡ true
unfolding is_utf8 chars lib.Utf8.encode
text_claimed = refl

empty_text_claimed : line_takes one_part (codes "stat s max exact \"\"") ≡ true
unfolding is_utf8 chars lib.Utf8.encode
empty_text_claimed = refl

bytes_claimed : line_takes one_part (codes "stat x max exact x00") ≡ true
unfolding is_utf8 chars lib.Utf8.encode
bytes_claimed = refl

count_claimed : line_takes one_part (codes "stat x null_count exact 0") ≡ true
unfolding is_utf8 chars lib.Utf8.encode
count_claimed = refl

number_claimed_without_a_part : line_takes three_columns (codes "stat a max exact 1") ≡ false
unfolding is_utf8 chars lib.Utf8.encode
number_claimed_without_a_part = refl

empty_text_claimed_without_a_part : line_takes three_columns (codes "stat s max exact \"\"") ≡ false
unfolding is_utf8 chars lib.Utf8.encode
empty_text_claimed_without_a_part = refl

text_claimed_without_a_part : line_takes three_columns (codes "stat s max exact \"a\"") ≡ true
unfolding is_utf8 chars lib.Utf8.encode
text_claimed_without_a_part = refl

no_number_claimed : line_takes one_part (codes "stat a max exact x") ≡ false
unfolding is_utf8 chars lib.Utf8.encode
no_number_claimed = refl

nothing_claimed : line_takes one_part (codes "stat y max exact \"a\"") ≡ false
unfolding is_utf8 chars lib.Utf8.encode
nothing_claimed = refl

row : line_takes one_part (codes "row 1 \"a\" x") ≡ true
unfolding is_utf8 chars lib.Utf8.encode
row = refl

row_without_a_part : line_takes three_columns (codes "row 1 \"a\" x") ≡ false
unfolding is_utf8 chars lib.Utf8.encode
row_without_a_part = refl

join_that_ends_a_part : line_takes one_part (codes "join 0") ≡ true
unfolding is_utf8 chars lib.Utf8.encode
join_that_ends_a_part = refl

join_of_no_parts : line_takes three_columns (codes "join 0") ≡ false
unfolding is_utf8 chars lib.Utf8.encode
join_of_no_parts = refl

join_of_no_number : line_takes one_part (codes "join x") ≡ false
unfolding is_utf8 chars lib.Utf8.encode
join_of_no_number = refl

predicate : line_takes three_columns (codes "where lit bool true") ≡ true
unfolding is_utf8 chars lib.Utf8.encode
predicate = refl

predicate_in_quotes : line_takes three_columns (codes "where \"a\"") ≡ true
unfolding is_utf8 chars lib.Utf8.encode
predicate_in_quotes = refl

no_expression : line_takes three_columns (codes "where a") ≡ false
unfolding is_utf8 chars lib.Utf8.encode
no_expression = refl

no_words : line_takes one_part (codes "  ") ≡ false
unfolding is_utf8 chars lib.Utf8.encode
no_words = refl

other_first_word : line_takes one_part (codes "rows 1") ≡ false
unfolding is_utf8 chars lib.Utf8.encode
other_first_word = refl

first_word_in_quotes : line_takes one_part (codes "\"row\" 1") ≡ false
unfolding is_utf8 chars lib.Utf8.encode
first_word_in_quotes = refl

after_the_predicate : line_takes finished (codes "row 1") ≡ false
unfolding is_utf8 chars lib.Utf8.encode
after_the_predicate = refl

-- no text but bytes that aren't UTF-8
no_text : line_takes one_part (255 ∷ codes "row 1") ≡ false
unfolding is_utf8 chars lib.Utf8.encode
no_text = refl

-- a text with a line that takes memory, behind one without words
some_line_takes : TakesMemory (codes "\ncolumn a i64\nx\n")
unfolding is_utf8 chars lib.Utf8.encode
some_line_takes = ([] ∷ [], codes "column a i64", codes "x" ∷ [], nothing_read, refl, (nothing_read, refl, refl), refl)
