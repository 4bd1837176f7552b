-- How a name of several parts is read, as t.a.
use Rattle.std.specs.Prelude.{◌≡◌, ◌==◌, ◌||◌, ◌&&◌, ◌-◌, ℕ, Bool, true, not, nat_eq, nat_le, codes, All, IfSome, List, [], ◌∷◌, Option, Some, None, drop, take, length, slice_range, if◌then◌else◌}
use Rattle.std.specs.Char.{is_ascii_alphanumeric, is_ascii_digit}
use Rattle.std.specs.List.{after_last, ends_with, list_any, prefix_len, starts_with, suffix_len}
use Rattle.vortex_sql.specs.declared.syntax.cursor.Names.{Names}
use Rattle.vortex_sql.specs.declared.syntax.cursor.Names.TheVariants.{Last, Plain}
use Rattle.vortex_sql.specs.declared.syntax.tree.Condition.{Condition}
use Rattle.vortex_sql.specs.declared.syntax.tree.Leaf.{Leaf}
use Rattle.vortex_sql.specs.declared.syntax.tree.Operand.{Operand}
use Rattle.vortex_sql.specs.declared.syntax.tree.Operand.TheVariants.{Column, Other}
use Rattle.vortex_sql.specs.declared.syntax.tree.Test.{Test}
use Rattle.vortex_sql.specs.declared.syntax.tree.Test.TheVariants as test
use Rattle.vortex_sql.specs.Parsing.Places.{leaves}

-- ---- bytes

-- a letter, a digit, an underscore, or a byte of a character past ASCII
abbrev pub is_word : ℕ → Bool
is_word b = is_ascii_alphanumeric b || (b == 95) || nat_le 128 b

abbrev pub is_blank : ℕ → Bool
is_blank b = (b == 32) || (b == 9) || (b == 10) || (b == 13)

abbrev pub is_dot : ℕ → Bool
is_dot b = b == 46

-- a byte of a name of one part or of several
abbrev pub is_of_name : ℕ → Bool
is_of_name b = is_word b || is_dot b

-- ---- a name of several parts at the front of bytes and at their back

abbrev pub begins_number : List ℕ → Bool
begins_number [] = true
begins_number (b ∷ bs) = is_ascii_digit b || is_dot b

-- the last part of a name of several parts; a number with a point is no name
abbrev pub last_part : List ℕ → Option (List ℕ)
last_part name = if begins_number name then None else (if list_any is_dot name then Some (after_last is_dot name) else None)

-- the bytes of a name at the front, and what stands behind them but for blanks
abbrev pub front : List ℕ → List ℕ
front bs = take (prefix_len is_of_name bs) bs

abbrev pub without_blanks : List ℕ → List ℕ
without_blanks bs = drop (prefix_len is_blank bs) bs

abbrev pub behind : List ℕ → List ℕ
behind bs = without_blanks (drop (prefix_len is_of_name bs) bs)

-- the bytes of a name at the back, and what stands before them but for blanks
abbrev pub back : List ℕ → List ℕ
back bs = drop (length bs - suffix_len is_of_name bs) bs

abbrev pub without_last_blanks : List ℕ → List ℕ
without_last_blanks bs = take (length bs - suffix_len is_blank bs) bs

abbrev pub before : List ℕ → List ℕ
before bs = without_last_blanks (take (length bs - suffix_len is_of_name bs) bs)

-- nothing, or a word
abbrev pub begins_word : List ℕ → Bool
begins_word [] = true
begins_word (b ∷ bs) = is_word b

-- the sign of a comparison, and not << or >>
abbrev pub begins_comparison : List ℕ → Bool
begins_comparison bs =
    starts_with nat_eq bs (codes "=") || starts_with nat_eq bs (codes "!=") || (starts_with nat_eq bs (codes "<") && not (starts_with nat_eq bs (codes "<<")))
    || (starts_with nat_eq bs (codes ">") && not (starts_with nat_eq bs (codes ">>")))

-- the sign of a comparison, and not <<, >>, -> or ->>
abbrev pub ends_comparison : List ℕ → Bool
ends_comparison bs =
    ends_with nat_eq bs (codes "=") || (ends_with nat_eq bs (codes "<") && not (ends_with nat_eq bs (codes "<<")))
    || (ends_with nat_eq bs (codes ">") && not (ends_with nat_eq bs (codes ">>") || ends_with nat_eq bs (codes "->")))

-- ---- how it is read

-- as the column of its last part where that is wanted, and else as an operand that isn't read
abbrev pub read_as : Names → Operand → Operand
read_as Plain last = Other
read_as Last last = last

-- if bytes are a name of several parts, the operand is what it is read as
abbrev pub IsNamed : Names → List ℕ → Operand → Type 0
IsNamed names bs x = IfSome (last_part bs) (λ part. x ≡ read_as names (Column part))

-- a name at the front of a test, with a word behind it or nothing, is its first operand
abbrev pub IsNamedAtFront : Names → List ℕ → Operand → Type 0
IsNamedAtFront names bs x = begins_word (behind bs) ≡ true → IsNamed names (front bs) x

-- a name at the front with the sign of a comparison behind it is its left side, and one at the back with the sign before it its right side
pub record IsComparisonNamed (names : Names) (bs : List ℕ) (x y : Operand) : Type 0 where
  pub left : begins_comparison (behind bs) ≡ true → IsNamed names (front bs) x
  pub right : ends_comparison (before bs) ≡ true → IsNamed names (back bs) y

abbrev pub IsTestNamed : Names → List ℕ → Test → Type 0
IsTestNamed names bs (test.Truth x) = IsNamedAtFront names bs x
IsTestNamed names bs (test.Compare c x y) = IsComparisonNamed names bs x y
IsTestNamed names bs (test.Distinct x y) = Unit {0}
IsTestNamed names bs (test.IsNull x) = IsNamedAtFront names bs x
IsTestNamed names bs (test.Between x y z) = IsNamedAtFront names bs x
IsTestNamed names bs (test.BetweenSymmetric x y z) = IsNamedAtFront names bs x
IsTestNamed names bs (test.In x ys) = IsNamedAtFront names bs x
IsTestNamed names bs (test.Like x p e) = IsNamedAtFront names bs x
IsTestNamed names bs test.Other = Unit {0}

abbrev pub IsLeafNamed : List ℕ → Names → Leaf → Type 0
IsLeafNamed text names l = IsTestNamed names (slice_range text l.start l.end) l.test

-- each leaf of a condition reads the names in its part of the text so
abbrev pub AreNamed : List ℕ → Names → Condition → Type 0
AreNamed text names c = All (IsLeafNamed text names) (leaves c)
