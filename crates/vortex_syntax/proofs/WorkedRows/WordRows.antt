-- Worked rows: the words of lines, computed.
use Rattle.std.proofs.Common.{◌≡◌, true, false, [], ◌∷◌, Some, None, codes, map, refl}
use Rattle.std.specs.Prelude.{nat_le}
use Rattle.vortex_syntax.specs.LineKinds.{kind_of}
use Rattle.vortex_syntax.specs.Spelling.{IsLineOf, spelled}
use Rattle.vortex_syntax.specs.Words.{Plain, Quoted, Broken, first_word, no_word, plain_word, word_limit, words}
use Rattle.vortex_syntax.specs.declared.line_kind.LineKind.TheVariants as kind

words_of_line : words (codes "  row  -5 ") ≡ Plain (codes "row") ∷ Plain (codes "-5") ∷ []
words_of_line = refl

no_words : words (codes "   ") ≡ []
no_words = refl

quoted_word : words (codes "row \"a b\" 3") ≡ Plain (codes "row") ∷ Quoted (codes "a b") ∷ Plain (codes "3") ∷ []
quoted_word = refl

escaped_word : words (codes "\"a\\\"b\\\\\"") ≡ Quoted (codes "a\"b\\") ∷ []
escaped_word = refl

empty_text : words (codes "\"\" x") ≡ Quoted [] ∷ Plain (codes "x") ∷ []
empty_text = refl

-- a quote within a word is a byte like others
quote_within : words (codes "a\"b c") ≡ Plain (codes "a\"b") ∷ Plain (codes "c") ∷ []
quote_within = refl

not_closed : words (codes "row \"a b") ≡ Plain (codes "row") ∷ Broken ∷ []
not_closed = refl

other_escape : words (codes "\"a\\n\"") ≡ Broken ∷ []
other_escape = refl

not_parted : words (codes "\"a\"b") ≡ Broken ∷ []
not_parted = refl

-- 9 is a tab: a byte like others, which parts no words
tab_within : words (97 ∷ 9 ∷ 98 ∷ 32 ∷ 99 ∷ []) ≡ Plain (97 ∷ 9 ∷ 98 ∷ []) ∷ Plain (99 ∷ []) ∷ []
tab_within = refl

tab_alone : words (9 ∷ []) ≡ Plain (9 ∷ []) ∷ []
tab_alone = refl

tab_in_quotes : words (34 ∷ 9 ∷ 34 ∷ []) ≡ Quoted (9 ∷ []) ∷ []
tab_in_quotes = refl

tab_behind_quotes : words (34 ∷ 34 ∷ 9 ∷ []) ≡ Broken ∷ []
tab_behind_quotes = refl

escaped_space : words (codes "\"a\\ b\"") ≡ Broken ∷ []
escaped_space = refl

escape_at_the_end : words (codes "\"a\\") ≡ Broken ∷ []
escape_at_the_end = refl

-- what follows a broken word is no word
broken_ends : words (codes "\"a\"b c") ≡ Broken ∷ []
broken_ends = refl

two_quoted : words (codes "\"a\" \"b\"") ≡ Quoted (codes "a") ∷ Quoted (codes "b") ∷ []
two_quoted = refl

first_plain : first_word (Plain (codes "a") ∷ Quoted [] ∷ []) ≡ Some (Plain (codes "a"), Quoted [] ∷ [])
first_plain = refl

first_quoted : first_word (Quoted (codes "a") ∷ []) ≡ Some (Quoted (codes "a"), [])
first_quoted = refl

first_broken : first_word (Broken ∷ Plain (codes "a") ∷ []) ≡ None
first_broken = refl

plain_is_plain : plain_word (Plain (codes "a") ∷ Broken ∷ []) ≡ Some (codes "a", Broken ∷ [])
plain_is_plain = refl

quoted_is_not_plain : plain_word (Quoted (codes "a") ∷ []) ≡ None
quoted_is_not_plain = refl

broken_is_a_word : no_word (Broken ∷ []) ≡ None
broken_is_a_word = refl

none_is_none : no_word [] ≡ Some tt
none_is_none = refl

-- ---- a predicate has 4,096 words at the most

most_words : word_limit ≡ 4096
most_words = refl

few_words : map (λ n. nat_le n word_limit) (0 ∷ 4095 ∷ 4096 ∷ 4097 ∷ []) ≡ true ∷ true ∷ true ∷ false ∷ []
few_words = refl

-- ---- how words are written

spelled_text : spelled (Quoted (codes "a \"b\\")) ≡ codes "\"a \\\"b\\\\\""
spelled_text = refl

spelled_empty_text : spelled (Quoted []) ≡ 34 ∷ 34 ∷ []
spelled_empty_text = refl

spelled_plain : spelled (Plain (codes "a\"")) ≡ codes "a\""
spelled_plain = refl

-- a line of two words, with spaces on all sides
written_line : IsLineOf (Plain (codes "ab") ∷ Quoted (codes "c") ∷ []) (codes "  ab \"c\" ")
written_line = (
  32 ∷ 32 ∷ [],
  codes " \"c\" ",
  refl,
  (refl, (refl, tt)),
  ((λ e. absurd (cc)), ((λ e. absurd (cc)), ((λ e. absurd (cc)), tt))),
  refl,
  (32 ∷ [], codes " ", refl, (refl, tt), tt, refl, (refl, tt)),
)

-- ---- the kinds of lines

row_line : kind_of (codes "row") ≡ Some kind.Row
row_line = refl

stat_line : kind_of (codes "stat") ≡ Some kind.Stat
stat_line = refl

part_line : kind_of (codes "part") ≡ Some kind.Part
part_line = refl

join_line : kind_of (codes "join") ≡ Some kind.Join
join_line = refl

column_line : kind_of (codes "column") ≡ Some kind.Column
column_line = refl

where_line : kind_of (codes "where") ≡ Some kind.Where
where_line = refl

other_line : kind_of (codes "rows") ≡ None
other_line = refl
