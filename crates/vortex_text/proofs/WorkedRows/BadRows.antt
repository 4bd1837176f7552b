-- Worked rows: the first bad line of texts, computed.
use Rattle.std.proofs.Common.{◌≡◌, [], ◌∷◌, ◌++◌, Err, codes, refl}
use Rattle.std.specs.Str.{chars, is_utf8}
use Rattle.vortex_text.specs.Naming.{named}

no_text : named [] ≡ Err 1
no_text = refl

other_first_word : named (codes "x\n") ≡ Err 1
unfolding is_utf8 chars lib.Utf8.encode
other_first_word = refl

quoted_first_word : named (codes "\"column\" a i64\n") ≡ Err 1
unfolding is_utf8 chars lib.Utf8.encode
quoted_first_word = refl

byte_order_mark : named (239 ∷ 187 ∷ 191 ∷ codes "column a i64\n") ≡ Err 1
unfolding is_utf8 chars lib.Utf8.encode
byte_order_mark = refl

column_without_type : named (codes "column a\n") ≡ Err 1
unfolding is_utf8 chars lib.Utf8.encode
column_without_type = refl

column_with_more : named (codes "column a i64 i64\n") ≡ Err 1
unfolding is_utf8 chars lib.Utf8.encode
column_with_more = refl

column_of_other_type : named (codes "column a i128\n") ≡ Err 1
unfolding is_utf8 chars lib.Utf8.encode
column_of_other_type = refl

column_name_by_digit : named (codes "column 1a i64\n") ≡ Err 1
unfolding is_utf8 chars lib.Utf8.encode
column_name_by_digit = refl

quoted_name : named (codes "column \"a\" i64\n") ≡ Err 1
unfolding is_utf8 chars lib.Utf8.encode
quoted_name = refl

repeated_column : named (codes "column a i64\ncolumn a u8\n") ≡ Err 2
unfolding is_utf8 chars lib.Utf8.encode
repeated_column = refl

column_after_part : named (codes "column a i64\npart\ncolumn b i64\n") ≡ Err 3
unfolding is_utf8 chars lib.Utf8.encode
column_after_part = refl

longer_name : named (codes "column aaaaaaaaaaaaaaaaaaaaaaaaaaaaaaaaaaaaaaaaaaaaaaaaaaaaaaaaaaaaaaaaa i64\n") ≡ Err 1
unfolding is_utf8 chars lib.Utf8.encode
longer_name = refl

part_before_column : named (codes "part\n") ≡ Err 1
unfolding is_utf8 chars lib.Utf8.encode
part_before_column = refl

part_with_more : named (codes "column a i64\npart 1\n") ≡ Err 2
unfolding is_utf8 chars lib.Utf8.encode
part_with_more = refl

where_before_column : named (codes "where lit bool true\n") ≡ Err 1
unfolding is_utf8 chars lib.Utf8.encode
where_before_column = refl

row_without_part : named (codes "column a i64\nrow 1\n") ≡ Err 2
unfolding is_utf8 chars lib.Utf8.encode
row_without_part = refl

stat_without_part : named (codes "column a i64\nstat a min exact 1\n") ≡ Err 2
unfolding is_utf8 chars lib.Utf8.encode
stat_without_part = refl

row_too_short : named (codes "column a i64\ncolumn b i64\npart\nrow 1\n") ≡ Err 4
unfolding is_utf8 chars lib.Utf8.encode
row_too_short = refl

row_too_long : named (codes "column a i64\npart\nrow 1\nrow 1 2\n") ≡ Err 4
unfolding is_utf8 chars lib.Utf8.encode
row_too_long = refl

row_without_values : named (codes "column a i64\npart\nrow 1\nrow\n") ≡ Err 4
unfolding is_utf8 chars lib.Utf8.encode
row_without_values = refl

row_of_null : named (codes "column a i64\npart\nrow 1\nrow null\n") ≡ Err 4
unfolding is_utf8 chars lib.Utf8.encode
row_of_null = refl

row_past_range : named (codes "column a u8\npart\nrow 256\n") ≡ Err 3
unfolding is_utf8 chars lib.Utf8.encode
row_past_range = refl

row_of_minus_zero : named (codes "column a u8\npart\nrow -0\n") ≡ Err 3
unfolding is_utf8 chars lib.Utf8.encode
row_of_minus_zero = refl

row_with_plus : named (codes "column a i64\npart\nrow 1\nrow +1\n") ≡ Err 4
unfolding is_utf8 chars lib.Utf8.encode
row_with_plus = refl

row_of_quoted_number : named (codes "column a i64\npart\nrow 1\nrow \"1\"\n") ≡ Err 4
unfolding is_utf8 chars lib.Utf8.encode
row_of_quoted_number = refl

row_of_plain_text : named (codes "column s utf8\npart\nrow a\n") ≡ Err 3
unfolding is_utf8 chars lib.Utf8.encode
row_of_plain_text = refl

row_of_other_escape : named (codes "column s utf8\npart\nrow \"a\\n\"\n") ≡ Err 3
unfolding is_utf8 chars lib.Utf8.encode
row_of_other_escape = refl

row_of_open_quote : named (codes "column s utf8\npart\nrow \"a\n") ≡ Err 3
unfolding is_utf8 chars lib.Utf8.encode
row_of_open_quote = refl

row_of_touching_quote : named (codes "column s utf8\npart\nrow \"a\"b\n") ≡ Err 3
unfolding is_utf8 chars lib.Utf8.encode
row_of_touching_quote = refl

row_of_odd_digits : named (codes "column x binary\npart\nrow xabc\n") ≡ Err 3
unfolding is_utf8 chars lib.Utf8.encode
row_of_odd_digits = refl

row_of_capital_x : named (codes "column x binary\npart\nrow X00\n") ≡ Err 3
unfolding is_utf8 chars lib.Utf8.encode
row_of_capital_x = refl

row_of_other_truth : named (codes "column b bool\npart\nrow True\n") ≡ Err 3
unfolding is_utf8 chars lib.Utf8.encode
row_of_other_truth = refl

stat_of_other_column : named (codes "column a i64\npart\nrow 1\nstat b min exact 1\n") ≡ Err 4
unfolding is_utf8 chars lib.Utf8.encode
stat_of_other_column = refl

stat_of_other_name : named (codes "column a i64\npart\nrow 1\nstat a least exact 1\n") ≡ Err 4
unfolding is_utf8 chars lib.Utf8.encode
stat_of_other_name = refl

stat_of_other_precision : named (codes "column a i64\npart\nrow 1\nstat a min about 1\n") ≡ Err 4
unfolding is_utf8 chars lib.Utf8.encode
stat_of_other_precision = refl

stat_of_null : named (codes "column a i64?\npart\nstat a min exact null\n") ≡ Err 3
unfolding is_utf8 chars lib.Utf8.encode
stat_of_null = refl

stat_without_value : named (codes "column a i64\npart\nrow 1\nstat a min exact\n") ≡ Err 4
unfolding is_utf8 chars lib.Utf8.encode
stat_without_value = refl

stat_with_more : named (codes "column a i64\npart\nrow 1\nstat a min exact 1 2\n") ≡ Err 4
unfolding is_utf8 chars lib.Utf8.encode
stat_with_more = refl

stat_past_range : named (codes "column a u8\npart\nstat a max exact 256\n") ≡ Err 3
unfolding is_utf8 chars lib.Utf8.encode
stat_past_range = refl

sum_below_zero : named (codes "column a u8\npart\nstat a sum exact -1\n") ≡ Err 3
unfolding is_utf8 chars lib.Utf8.encode
sum_below_zero = refl

bound_of_null_type : named (codes "column z null\npart\nstat z max exact null\n") ≡ Err 3
unfolding is_utf8 chars lib.Utf8.encode
bound_of_null_type = refl

count_of_no_numbers : named (codes "column a i64\npart\nrow 1\nstat a nan_count exact 0\n") ≡ Err 4
unfolding is_utf8 chars lib.Utf8.encode
count_of_no_numbers = refl

sum_of_texts : named (codes "column s utf8\npart\nstat s sum exact 0\n") ≡ Err 3
unfolding is_utf8 chars lib.Utf8.encode
sum_of_texts = refl

row_after_join : named (codes "column a i64\npart\npart\njoin 0\nrow 1\n") ≡ Err 5
unfolding is_utf8 chars lib.Utf8.encode
row_after_join = refl

stat_after_join : named (codes "column a i64\npart\npart\njoin 0\nstat a min exact 1\n") ≡ Err 5
unfolding is_utf8 chars lib.Utf8.encode
stat_after_join = refl

join_of_one_part : named (codes "column a i64\npart\nrow 1\njoin 0\n") ≡ Err 4
unfolding is_utf8 chars lib.Utf8.encode
join_of_one_part = refl

join_past_the_last : named (codes "column a i64\npart\npart\njoin 1\n") ≡ Err 4
unfolding is_utf8 chars lib.Utf8.encode
join_past_the_last = refl

join_with_sign : named (codes "column a i64\npart\npart\njoin -0\n") ≡ Err 4
unfolding is_utf8 chars lib.Utf8.encode
join_with_sign = refl

join_with_plus : named (codes "column a i64\npart\npart\njoin +0\n") ≡ Err 4
unfolding is_utf8 chars lib.Utf8.encode
join_with_plus = refl

join_in_hexadecimal : named (codes "column a i64\npart\npart\njoin 0x0\n") ≡ Err 4
unfolding is_utf8 chars lib.Utf8.encode
join_in_hexadecimal = refl

join_of_long_number : named (codes "column a i64\npart\npart\njoin 18446744073709551616\n") ≡ Err 4
unfolding is_utf8 chars lib.Utf8.encode
join_of_long_number = refl

join_with_more : named (codes "column a i64\npart\npart\njoin 0 1\n") ≡ Err 4
unfolding is_utf8 chars lib.Utf8.encode
join_with_more = refl

where_of_other_column : named (codes "column a i64\nwhere isnull col b\n") ≡ Err 2
unfolding is_utf8 chars lib.Utf8.encode
where_of_other_column = refl

where_of_quoted_column : named (codes "column a i64\nwhere isnull col \"a\"\n") ≡ Err 2
unfolding is_utf8 chars lib.Utf8.encode
where_of_quoted_column = refl

where_of_other_word : named (codes "column a i64\nwhere xor col a col a\n") ≡ Err 2
unfolding is_utf8 chars lib.Utf8.encode
where_of_other_word = refl

where_of_two_types : named (codes "column a i64\nwhere eq col a lit i32 1\n") ≡ Err 2
unfolding is_utf8 chars lib.Utf8.encode
where_of_two_types = refl

where_of_bad_literal : named (codes "column a i64\nwhere eq col a lit i64 x\n") ≡ Err 2
unfolding is_utf8 chars lib.Utf8.encode
where_of_bad_literal = refl

where_of_null_literal : named (codes "column a i64\nwhere eq col a lit i64 null\n") ≡ Err 2
unfolding is_utf8 chars lib.Utf8.encode
where_of_null_literal = refl

where_of_other_end : named (codes "column a i64\nwhere between = <= col a lit i64 1 lit i64 2\n") ≡ Err 2
unfolding is_utf8 chars lib.Utf8.encode
where_of_other_end = refl

where_with_more : named (codes "column a i64\nwhere lit bool true true\n") ≡ Err 2
unfolding is_utf8 chars lib.Utf8.encode
where_with_more = refl

where_without_words : named (codes "column a i64\nwhere\n") ≡ Err 2
unfolding is_utf8 chars lib.Utf8.encode
where_without_words = refl

where_cut_short : named (codes "column a i64\nwhere and lit bool true\n") ≡ Err 2
unfolding is_utf8 chars lib.Utf8.encode
where_cut_short = refl

line_after_where : named (codes "column a i64\nwhere lit bool true\npart\n") ≡ Err 3
unfolding is_utf8 chars lib.Utf8.encode
line_after_where = refl

second_where : named (codes "column a i64\nwhere lit bool true\nwhere lit bool true\n") ≡ Err 3
unfolding is_utf8 chars lib.Utf8.encode
second_where = refl

bad_line_after_no_truth : named (codes "column a i64\nwhere lit i64 7\nx\n") ≡ Err 3
unfolding is_utf8 chars lib.Utf8.encode
bad_line_after_no_truth = refl

return_at_the_end : named (codes "column a i64\nwhere lit bool true\r") ≡ Err 2
unfolding is_utf8 chars lib.Utf8.encode
return_at_the_end = refl

two_returns : named (codes "column a i64\r\r\nwhere lit bool true\n") ≡ Err 1
unfolding is_utf8 chars lib.Utf8.encode
two_returns = refl

return_alone : named (codes "\r") ≡ Err 1
unfolding is_utf8 chars lib.Utf8.encode
return_alone = refl

no_predicate_with_end : named (codes "column a i64\n") ≡ Err 2
unfolding is_utf8 chars lib.Utf8.encode
no_predicate_with_end = refl

line_end_alone : named (codes "\n") ≡ Err 2
unfolding is_utf8 chars lib.Utf8.encode
line_end_alone = refl

empty_lines_count : named (codes "\n\nx\n") ≡ Err 3
unfolding is_utf8 chars lib.Utf8.encode
empty_lines_count = refl

overlong_bytes : named (codes "column s utf8\npart\nrow \"" ++ 192 ∷ 128 ∷ codes "\"\n") ≡ Err 3
unfolding is_utf8 chars lib.Utf8.encode
overlong_bytes = refl

half_of_a_pair : named (codes "column s utf8\npart\nrow \"" ++ 237 ∷ 160 ∷ 128 ∷ codes "\"\n") ≡ Err 3
unfolding is_utf8 chars lib.Utf8.encode
half_of_a_pair = refl

past_the_last_character : named (codes "column s utf8\npart\nrow \"" ++ 244 ∷ 144 ∷ 128 ∷ 128 ∷ codes "\"\n") ≡ Err 3
unfolding is_utf8 chars lib.Utf8.encode
past_the_last_character = refl

name_with_a_dot : named (codes "column a.b i64\n") ≡ Err 1
unfolding is_utf8 chars lib.Utf8.encode
name_with_a_dot = refl

bytes_in_quotes : named (codes "column x binary\npart\nrow \"x00\"\n") ≡ Err 3
unfolding is_utf8 chars lib.Utf8.encode
bytes_in_quotes = refl

claimed_bytes_in_quotes : named (codes "column x binary?\npart\nstat x min exact \"x00\"\n") ≡ Err 3
unfolding is_utf8 chars lib.Utf8.encode
claimed_bytes_in_quotes = refl

tab_between_words : named (codes "column\ta i64\n") ≡ Err 1
unfolding is_utf8 chars lib.Utf8.encode
tab_between_words = refl

escaped_n : named (codes "column s utf8\npart\nrow \"a\\n\"\n") ≡ Err 3
unfolding is_utf8 chars lib.Utf8.encode
escaped_n = refl

column_after_a_join : named (codes "column a i64\npart\npart\njoin 0\ncolumn b i64\n") ≡ Err 5
unfolding is_utf8 chars lib.Utf8.encode
column_after_a_join = refl

literal_of_another_type : named (codes "column a i32\nwhere eq col a lit i64 1\n") ≡ Err 2
unfolding is_utf8 chars lib.Utf8.encode
literal_of_another_type = refl
