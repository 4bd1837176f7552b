-- Worked rows: what the program replies to whole texts, computed.
use Rattle.std.proofs.Common.{◌≡◌, ℕ, List, ◌++◌, codes, refl}
use Rattle.std.specs.Str.{chars, is_utf8}
use Rattle.std.specs.Fmt.{digits}
use Rattle.vortex_rewrite.specs.Rewriting.Falsifiers as rewriting
use Rattle.vortex_text.specs.Program.{reply_to}

-- two parts: 1, 5, 10 with exact bounds, and 8, null, 20 of which the greatest is known to be at most 25
abbrev pub two_parts : List ℕ
two_parts = codes "column a i64?\npart\nstat a min exact 1\nstat a max exact 10\nrow 1\nrow 5\nrow 10\npart\nstat a min exact 8\nstat a max inexact 25\nrow 8\nrow null\nrow 20\n"

above_ten : reply_to (two_parts ++ codes "where gt col a lit i64 10\n") ≡ (0, codes "skipped 0\nrows 1:2\n")
unfolding is_utf8 chars lib.Utf8.encode digits rewriting.node rewriting.reduce_balanced
above_ten = refl

above_nine : reply_to (two_parts ++ codes "where gt col a lit i64 9\n") ≡ (0, codes "skipped\nrows 0:2 1:2\n")
unfolding is_utf8 chars lib.Utf8.encode digits rewriting.node rewriting.reduce_balanced
above_nine = refl

above_twenty_five : reply_to (two_parts ++ codes "where gt col a lit i64 25\n") ≡ (0, codes "skipped 0 1\nrows\n")
unfolding is_utf8 chars lib.Utf8.encode digits rewriting.node rewriting.reduce_balanced
above_twenty_five = refl

joined_above_ten : reply_to (two_parts ++ codes "join 0\nwhere gt col a lit i64 10\n") ≡ (0, codes "skipped\nrows 0:5\n")
unfolding is_utf8 chars lib.Utf8.encode digits rewriting.node rewriting.reduce_balanced
joined_above_ten = refl

joined_above_twenty_five : reply_to (two_parts ++ codes "join 00\nwhere gt col a lit i64 25") ≡ (0, codes "skipped 0\nrows\n")
unfolding is_utf8 chars lib.Utf8.encode digits rewriting.node rewriting.reduce_balanced
joined_above_twenty_five = refl

past_the_type : reply_to (two_parts ++ codes "where gt col a lit i64 9223372036854775808") ≡ (2, codes "line 14: bad\n")
unfolding is_utf8 chars lib.Utf8.encode digits rewriting.node rewriting.reduce_balanced
past_the_type = refl

-- a text, its bounds and null counts; the first part is kept, the second skipped
text_and_nulls : reply_to (codes "column s utf8\ncolumn n u8?\npart\nstat s min exact \"apple\"\nstat s max exact \"pear\"\nrow \"apple\" 3\nrow \"pear\" null\npart\nstat s min inexact \"q\"\nstat s max exact \"rose\"\nstat n null_count exact 0\nrow \"rose\" 7\nwhere or like col s lit utf8 \"pre%\" isnull col n\n") ≡ (0, codes "skipped 1\nrows 0:1\n")
unfolding is_utf8 chars lib.Utf8.encode digits rewriting.node rewriting.reduce_balanced
text_and_nulls = refl

null_test_without_bounds : reply_to (codes "column a i32\npart\nstat a null_count exact 0\nwhere isnull col a\n") ≡ (0, codes "skipped 0\nrows\n")
unfolding is_utf8 chars lib.Utf8.encode digits rewriting.node rewriting.reduce_balanced
null_test_without_bounds = refl

no_parts : reply_to (codes "column a i64\nwhere lit bool true\n") ≡ (0, codes "skipped\nrows\n")
unfolding is_utf8 chars lib.Utf8.encode digits rewriting.node rewriting.reduce_balanced
no_parts = refl

later_statistic_wins : reply_to (codes "column a i64\npart\nstat a max exact 5\nstat a max inexact 30\nrow 20\nwhere gt col a lit i64 10\n") ≡ (0, codes "skipped\nrows 0:0\n")
unfolding is_utf8 chars lib.Utf8.encode digits rewriting.node rewriting.reduce_balanced
later_statistic_wins = refl

-- the row that an untrue bound rules out is lost
untrue_statistic : reply_to (codes "column a i64\npart\nstat a max exact 5\nrow 20\nwhere gt col a lit i64 10\n") ≡ (0, codes "skipped 0\nrows\n")
unfolding is_utf8 chars lib.Utf8.encode digits rewriting.node rewriting.reduce_balanced
untrue_statistic = refl

spaces_at_both_ends : reply_to (codes " column a i64 \n   \n\npart\n  row   1 \nwhere  lit bool true ") ≡ (0, codes "skipped\nrows 0:0\nwhole 0\n")
unfolding is_utf8 chars lib.Utf8.encode digits rewriting.node rewriting.reduce_balanced
spaces_at_both_ends = refl

returns_before_line_ends : reply_to (codes "column a i64\r\npart\r\nrow 1\r\nwhere lit bool true\r\n") ≡ (0, codes "skipped\nrows 0:0\nwhole 0\n")
unfolding is_utf8 chars lib.Utf8.encode digits rewriting.node rewriting.reduce_balanced
returns_before_line_ends = refl

-- the types, each with a value
all_columns_of_a_row : reply_to (codes "column z null\ncolumn b bool\ncolumn u u16\ncolumn i i8\ncolumn t utf8?\ncolumn x binary\npart\nrow null true 65535 -128 \"a b\" x00fF\nrow null false 007 -0 null x\nwhere and col b and eq col u lit u16 65535 and eq col i lit i8 -128 and eq col t lit utf8 \"a b\" eq col x lit binary x00Ff\n") ≡ (0, codes "skipped\nrows 0:0\n")
unfolding is_utf8 chars lib.Utf8.encode digits rewriting.node rewriting.reduce_balanced
all_columns_of_a_row = refl

minus_zero_is_zero : reply_to (codes "column a i8\npart\nrow -0\nwhere eq col a lit i8 0\n") ≡ (0, codes "skipped\nrows 0:0\n")
unfolding is_utf8 chars lib.Utf8.encode digits rewriting.node rewriting.reduce_balanced
minus_zero_is_zero = refl

quotes_and_backslashes : reply_to (codes "column s utf8\npart\nrow \"\\\"\\\\\"\nwhere eq col s lit utf8 \"\\\"\\\\\"\n") ≡ (0, codes "skipped\nrows 0:0\n")
unfolding is_utf8 chars lib.Utf8.encode digits rewriting.node rewriting.reduce_balanced
quotes_and_backslashes = refl

text_null_is_no_null : reply_to (codes "column s utf8?\npart\nrow \"null\"\nrow null\nwhere isnull col s\n") ≡ (0, codes "skipped\nrows 0:1\n")
unfolding is_utf8 chars lib.Utf8.encode digits rewriting.node rewriting.reduce_balanced
text_null_is_no_null = refl

-- the first two become part 0, and the last part 1
joined_neighbours : reply_to (codes "column a i64\npart\nrow 1\npart\nrow 2\npart\nrow 3\njoin 0\nwhere ge col a lit i64 2\n") ≡ (0, codes "skipped\nrows 0:1 1:0\n")
unfolding is_utf8 chars lib.Utf8.encode digits rewriting.node rewriting.reduce_balanced
joined_neighbours = refl

join_of_joined : reply_to (codes "column a i64\npart\nrow 1\npart\nrow 2\npart\nrow 3\njoin 1\njoin 0\nwhere ge col a lit i64 2\n") ≡ (0, codes "skipped\nrows 0:1 0:2\n")
unfolding is_utf8 chars lib.Utf8.encode digits rewriting.node rewriting.reduce_balanced
join_of_joined = refl

part_after_join : reply_to (codes "column a i64\npart\npart\njoin 0\npart\nrow 9\nwhere lit bool true\n") ≡ (0, codes "skipped\nrows 1:0\nwhole 0 1\n")
unfolding is_utf8 chars lib.Utf8.encode digits rewriting.node rewriting.reduce_balanced
part_after_join = refl

every_operator : reply_to (codes "column a i64\npart\nrow 1\nrow 2\nrow 3\nwhere and and ne col a lit i64 1 le col a lit i64 3 or lt col a lit i64 3 not gt col a lit i64 9\n") ≡ (0, codes "skipped\nrows 0:1 0:2\n")
unfolding is_utf8 chars lib.Utf8.encode digits rewriting.node rewriting.reduce_balanced
every_operator = refl

between_with_strict_end : reply_to (codes "column a i64\npart\nrow 1\nrow 2\nrow 3\nwhere between < <= col a lit i64 1 lit i64 3\n") ≡ (0, codes "skipped\nrows 0:1 0:2\n")
unfolding is_utf8 chars lib.Utf8.encode digits rewriting.node rewriting.reduce_balanced
between_with_strict_end = refl

crossed_between : reply_to (codes "column a i64\npart\nrow 60\nwhere between <= <= col a lit i64 50 lit i64 10\n") ≡ (0, codes "skipped 0\nrows\n")
unfolding is_utf8 chars lib.Utf8.encode digits rewriting.node rewriting.reduce_balanced
crossed_between = refl

likes : reply_to (codes "column s utf8\npart\nrow \"ab\"\nrow \"Ab\"\nrow \"b\"\nwhere and ilike col s lit utf8 \"a%\" notlike col s lit utf8 \"A_\"\n") ≡ (0, codes "skipped\nrows 0:0\n")
unfolding is_utf8 chars lib.Utf8.encode digits rewriting.node rewriting.reduce_balanced
likes = refl

like_turned_round : reply_to (codes "column s utf8\npart\nrow \"Ab\"\nrow \"b\"\nwhere notilike col s lit utf8 \"a%\"\n") ≡ (0, codes "skipped\nrows 0:1\n")
unfolding is_utf8 chars lib.Utf8.encode digits rewriting.node rewriting.reduce_balanced
like_turned_round = refl

null_tests_of_literals : reply_to (codes "column a i64\npart\nrow 1\npart\nrow 2\nrow 3\nwhere notnull lit i64? null\n") ≡ (0, codes "skipped 0\nrows\n")
unfolding is_utf8 chars lib.Utf8.encode digits rewriting.node rewriting.reduce_balanced
null_tests_of_literals = refl

comparison_of_nulls : reply_to (codes "column a null\npart\nrow null\nwhere eq col a lit null null\n") ≡ (0, codes "skipped\nrows\n")
unfolding is_utf8 chars lib.Utf8.encode digits rewriting.node rewriting.reduce_balanced
comparison_of_nulls = refl

names_like_keywords : reply_to (codes "column null i64\ncolumn col i64\npart\nrow 1 2\nwhere lt col null col col\n") ≡ (0, codes "skipped\nrows 0:0\n")
unfolding is_utf8 chars lib.Utf8.encode digits rewriting.node rewriting.reduce_balanced
names_like_keywords = refl

statistics_of_each_name : reply_to (codes "column a i8\npart\nstat a sum exact 300\nstat a is_constant exact false\nstat a is_sorted inexact true\nstat a is_strict_sorted exact true\nstat a uncompressed_size_in_bytes inexact 2\nrow 1\nrow 2\nwhere lit bool true\n") ≡ (0, codes "skipped\nrows 0:0 0:1\nwhole 0\n")
unfolding is_utf8 chars lib.Utf8.encode digits rewriting.node rewriting.reduce_balanced
statistics_of_each_name = refl

-- a predicate that isn't of type Bool
no_truth : reply_to (codes "column a i64\nwhere lit i64 7\n") ≡ (1, codes "predicate\n")
unfolding is_utf8 chars lib.Utf8.encode digits rewriting.node rewriting.reduce_balanced
no_truth = refl

cut_short : reply_to (codes "column a i64\npart\nrow 1\nwhere gt col a") ≡ (2, codes "line 4: bad\n")
unfolding is_utf8 chars lib.Utf8.encode digits rewriting.node rewriting.reduce_balanced
cut_short = refl

below_five : reply_to (codes "column a i32?\npart\nrow 4\nrow 5\nrow 6\nwhere lt col a lit i32 5\n") ≡ (0, codes "skipped\nrows 0:0\n")
unfolding is_utf8 chars lib.Utf8.encode digits rewriting.node rewriting.reduce_balanced
below_five = refl

at_most_five : reply_to (codes "column a i32?\npart\nrow 4\nrow 5\nrow 6\nwhere le col a lit i32? 5\n") ≡ (0, codes "skipped\nrows 0:0 0:1\n")
unfolding is_utf8 chars lib.Utf8.encode digits rewriting.node rewriting.reduce_balanced
at_most_five = refl

below_the_least : reply_to (codes "column a i32?\npart\nrow 4\nrow 5\nrow 6\nstat a min exact 4\nwhere lt col a lit i32 4\n") ≡ (0, codes "skipped 0\nrows\n")
unfolding is_utf8 chars lib.Utf8.encode digits rewriting.node rewriting.reduce_balanced
below_the_least = refl

exact_count_of_nulls : reply_to (codes "column a i32?\npart\nrow null\nrow null\nstat a null_count exact 2\nwhere notnull col a\n") ≡ (0, codes "skipped 0\nrows\n")
unfolding is_utf8 chars lib.Utf8.encode digits rewriting.node rewriting.reduce_balanced
exact_count_of_nulls = refl

inexact_count_of_nulls : reply_to (codes "column a i32?\npart\nrow null\nrow null\nstat a null_count inexact 2\nwhere notnull col a\n") ≡ (0, codes "skipped\nrows\n")
unfolding is_utf8 chars lib.Utf8.encode digits rewriting.node rewriting.reduce_balanced
inexact_count_of_nulls = refl

inexact_count_after_an_exact_one : reply_to (codes "column a i32?\npart\nrow null\nrow null\nstat a null_count exact 2\nstat a null_count inexact 2\nwhere isnull col a\n") ≡ (0, codes "skipped\nrows 0:0 0:1\n")
unfolding is_utf8 chars lib.Utf8.encode digits rewriting.node rewriting.reduce_balanced
inexact_count_after_an_exact_one = refl

null_literal_is_null : reply_to (codes "column a i64\npart\nrow 1\npart\nrow 2\nrow 3\nwhere isnull lit i64? null\n") ≡ (0, codes "skipped\nrows 0:0 1:0 1:1\nwhole 0\n")
unfolding is_utf8 chars lib.Utf8.encode digits rewriting.node rewriting.reduce_balanced
null_literal_is_null = refl

literal_is_not_null : reply_to (codes "column a i64\npart\nrow 1\npart\nrow 2\nrow 3\nwhere notnull lit i64 7\n") ≡ (0, codes "skipped\nrows 0:0 1:0 1:1\nwhole 0 1\n")
unfolding is_utf8 chars lib.Utf8.encode digits rewriting.node rewriting.reduce_balanced
literal_is_not_null = refl
