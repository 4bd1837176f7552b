-- Worked rows: the first lines of texts and values in plain form, computed.
use Rattle.std.proofs.Common.{◌≡◌, ℕ, true, false, List, [], ◌∷◌, ◌++◌, None, Some, ap, arith, codes, get_or, inl, inr, refl, ◌∙◌, ◌⊎◌}
use Rattle.std.specs.Str.{chars, is_utf8}
use Rattle.std.specs.Str.Lines.{lines}
use Rattle.vortex_base.specs.Data.Columns.{ColumnData}
use Rattle.vortex_base.specs.declared.dtype.DType.TheVariants as dtype
use Rattle.vortex_base.specs.declared.pvalue.PValue.TheVariants as number
use Rattle.vortex_base.specs.declared.scalar_value.ScalarValue.TheVariants as value
use Rattle.vortex_base.specs.declared.types.Nullability.TheVariants.{NonNullable, Nullable}
use Rattle.vortex_base.specs.declared.types.PType.TheVariants as ptype
use Rattle.vortex_text.specs.FirstLines.{TakesRows, first_read, first_row, first_values, may_take, open_column}
use Rattle.vortex_text.specs.Lines.{Reading, nothing_read}
use Rattle.vortex_text.specs.Rows.{empty_part}

-- two columns of numbers without values
abbrev two : List ColumnData
two = record { dtype = dtype.Primitive ptype.U8 NonNullable; values = []; size = 0 } ∷ record { dtype = dtype.Primitive ptype.I8 Nullable; values = []; size = 0 } ∷ []

-- the same with a row
abbrev one_row : List ColumnData
one_row =
    record { dtype = dtype.Primitive ptype.U8 NonNullable; values = Some (value.Primitive (number.U8 7)) ∷ []; size = 0 }
    ∷ record { dtype = dtype.Primitive ptype.I8 Nullable; values = None ∷ []; size = 0 } ∷ []

row_and_later_lines : first_row two (lines (codes " 7 null\npart\nx")) ≡ Some (one_row, codes "part" ∷ codes "x" ∷ [])
unfolding is_utf8 chars lib.Utf8.encode
row_and_later_lines = refl

row_with_a_carriage_return : first_row two (lines (codes "  7  null \r\n")) ≡ Some (one_row, [])
unfolding is_utf8 chars lib.Utf8.encode
row_with_a_carriage_return = refl

row_of_one_value_too_few : first_row two (lines (codes " 7\n null\n")) ≡ None
unfolding is_utf8 chars lib.Utf8.encode
row_of_one_value_too_few = refl

row_of_one_value_too_many : first_row two (lines (codes " 7 null null\n")) ≡ None
unfolding is_utf8 chars lib.Utf8.encode
row_of_one_value_too_many = refl

row_not_utf8 : first_row two (lines (codes " 7 null" ++ 255 ∷ codes "\n")) ≡ None
unfolding is_utf8 chars lib.Utf8.encode
row_not_utf8 = refl

row_of_no_line : first_row two [] ≡ None
row_of_no_line = refl

column_line : first_read nothing_read (lines (codes "column a i64\npart\n")) ≡ Some (record nothing_read { scope = (codes "a", dtype.Primitive ptype.I64 NonNullable) ∷ [] }, codes "part" ∷ [])
unfolding is_utf8 chars lib.Utf8.encode
column_line = refl

bad_first_line : first_read nothing_read (lines (codes "x\ncolumn a i64\n")) ≡ None
unfolding is_utf8 chars lib.Utf8.encode
bad_first_line = refl

no_part_takes_values : first_values nothing_read (lines (codes " 7\n")) ≡ None
no_part_takes_values = refl

-- with a part that has no rows yet
abbrev one_part : Reading
one_part = record nothing_read { scope = (codes "a", dtype.Primitive ptype.U8 NonNullable) ∷ []; current = Some (empty_part ((codes "a", dtype.Primitive ptype.U8 NonNullable) ∷ [])) }

part_takes_no_column_line : may_take one_part (lines (codes "x\n")) ≡ true
part_takes_no_column_line = refl

column_line_takes : may_take nothing_read (lines (codes "column a i64\n")) ≡ true
unfolding is_utf8 chars lib.Utf8.encode
column_line_takes = refl

bad_line_takes_none : may_take nothing_read (lines (codes "x\n")) ≡ false
unfolding is_utf8 chars lib.Utf8.encode
bad_line_takes_none = refl

-- a column of numbers with these
abbrev one : List ℕ → List ColumnData
one [] = open_column (dtype.Primitive ptype.U8 NonNullable) [] ∷ []
one (n ∷ []) = open_column (dtype.Primitive ptype.U8 NonNullable) (Some (value.Primitive (number.U8 n)) ∷ []) ∷ []
one (n ∷ m ∷ ns) = open_column (dtype.Primitive ptype.U8 NonNullable) (Some (value.Primitive (number.U8 n)) ∷ Some (value.Primitive (number.U8 m)) ∷ []) ∷ []

no_rows_taken : TakesRows first_row 0 (one []) (codes "part\n") (one []) (codes "part\n")
no_rows_taken = (refl, refl)

two_rows_taken : TakesRows first_row 2 (one []) (codes "row 7\nrow 8\npart\n") (one (7 ∷ 8 ∷ [])) (codes "part\n")
unfolding is_utf8 chars lib.Utf8.encode
two_rows_taken = (one (7 ∷ []), codes "row 8\npart\n", codes " 8\npart\n", (one [], codes "row 7\nrow 8\npart\n", codes " 7\nrow 8\npart\n", (refl, refl), refl, inl refl, refl), refl, inl refl, refl)

-- a line behind another word is no row, and neither is one in which a letter follows the word
other_word_no_row : (cs ds : List ColumnData) (rest : List ℕ) → TakesRows first_row 1 cs (codes "raw 7\n") ds rest → ⊥
other_word_no_row cs ds rest (before, row, values, (same, is), split, ends, read) = apart refl refl (ap (λ l. get_or l 1 0) (is ∙ split))
  where
    apart : {a b : ℕ} → a ≡ 97 → b ≡ 111 → a ≡ b → ⊥
    apart is_a is_o same = absurd (omega (arith, is_a, is_o, same))

longer_word_no_row : (cs ds : List ColumnData) (rest : List ℕ) → TakesRows first_row 1 cs (codes "rows\n") ds rest → ⊥
longer_word_no_row cs ds rest (before, row, [], (same, is), split, ends, read) = ends
longer_word_no_row cs ds rest (before, row, v ∷ values, (same, is), split, ends, read) = apart refl ends (ap (λ l. get_or l 3 0) (is ∙ split))
  where
    apart : {s v : ℕ} → s ≡ 115 → (v ≡ 32) ⊎ (v ≡ 10) → s ≡ v → ⊥
    apart is_s (inl space) same = absurd (omega (arith, is_s, space, same))
    apart is_s (inr feed) same = absurd (omega (arith, is_s, feed, same))
