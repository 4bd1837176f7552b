-- Worked rows: some lines of a text after those before them, computed.
use Rattle.std.proofs.Common.{◌≡◌, [], ◌∷◌, Some, Ok, Err, codes, refl, inl, inr}
use Rattle.std.specs.Str.{chars, is_utf8}
use Rattle.vortex_base.specs.declared.dtype.DType.TheVariants as dtype
use Rattle.vortex_base.specs.declared.types.Nullability.TheVariants.{NonNullable}
use Rattle.vortex_base.specs.declared.types.PType.TheVariants as ptype
use Rattle.vortex_text.specs.Blocks.{BeginsBad, EndsLine, MayRefuse, ReadsTo}
use Rattle.vortex_text.specs.Lines.{Reading, nothing_read}
use Rattle.vortex_text.specs.Rows.{empty_part}
use Rattle.vortex_text.specs.declared.bad_line.BadLine.{BadLine}
use Rattle.vortex_text.specs.declared.naming.InputError.TheVariants as errors

-- a column of numbers
abbrev one_column : Reading
one_column = record nothing_read { scope = (codes "a", dtype.Primitive ptype.I64 NonNullable) ∷ [] }

-- with a part that has no rows yet
abbrev one_part : Reading
one_part = record one_column { current = Some (empty_part one_column.scope) }

-- ---- bytes that end a line

no_bytes : EndsLine []
no_bytes = inl refl

a_feed : EndsLine (10 ∷ [])
a_feed = inr ([], refl)

a_line : EndsLine (112 ∷ 10 ∷ [])
a_line = inr (112 ∷ [], refl)

a_byte_behind_a_feed : EndsLine (10 ∷ 112 ∷ []) → ⊥
a_byte_behind_a_feed (inl same) = absurd (cc)
a_byte_behind_a_feed (inr ([], same)) = absurd (cc)
a_byte_behind_a_feed (inr (b ∷ [], same)) = absurd (cc)
a_byte_behind_a_feed (inr (b ∷ c ∷ [], same)) = absurd (cc)
a_byte_behind_a_feed (inr (b ∷ c ∷ d ∷ front, same)) = absurd (cc)

-- ---- the first line

a_part_before_columns : BeginsBad nothing_read (codes "part" ∷ [])
unfolding is_utf8 chars lib.Utf8.encode
a_part_before_columns = refl

a_column_at_first : BeginsBad nothing_read (codes "column a i64" ∷ []) → ⊥
unfolding is_utf8 chars lib.Utf8.encode
a_column_at_first bad = absurd (cc)

no_line : BeginsBad nothing_read [] → ⊥
no_line bad = bad

-- ---- what a call answers

two_lines : ReadsTo 5 nothing_read (codes "column a i64" ∷ codes "part" ∷ []) (Ok 7) one_part
unfolding is_utf8 chars lib.Utf8.encode
two_lines = ((one_column, refl, (one_part, refl, refl)), refl)

a_number_too_few : ReadsTo 5 nothing_read (codes "column a i64" ∷ codes "part" ∷ []) (Ok 6) one_part → ⊥
a_number_too_few (reads, counted) = absurd (cc)

no_lines : ReadsTo 5 nothing_read [] (Ok 5) nothing_read
no_lines = (refl, refl)

the_second_is_bad : (bad : BadLine) → bad.number ≡ 6 → ReadsTo 5 nothing_read (codes "column a i64" ∷ codes "row 1" ∷ codes "part" ∷ []) (Err (errors.BadLine bad)) one_column
unfolding is_utf8 chars lib.Utf8.encode
the_second_is_bad bad number = (codes "column a i64" ∷ [], codes "row 1" ∷ codes "part" ∷ [], one_column, refl, (one_column, refl, refl), (refl, number))

-- ---- refused memory

to_a_line_that_takes_some : ReadsTo 5 nothing_read (codes "column a i64" ∷ []) (Err errors.Memory) nothing_read
unfolding is_utf8 chars lib.Utf8.encode
to_a_line_that_takes_some = ([], codes "column a i64" ∷ [], nothing_read, refl, refl, refl)

while_a_part_takes_rows : MayRefuse one_part (codes "#" ∷ [])
unfolding is_utf8 chars lib.Utf8.encode
while_a_part_takes_rows = ([], codes "#" ∷ [], one_part, refl, refl, refl)
