-- Worked rows of names of several parts.
use Rattle.std.specs.Prelude.{◌≡◌, true, false, Some, None, [], codes, pos}
use Rattle.vortex_sql.specs.Parsing.Naming.{IsTestNamed, back, before, begins_comparison, begins_word, behind, ends_comparison, front, last_part}
use Rattle.vortex_sql.specs.declared.syntax.cursor.Names.TheVariants.{Last, Plain}
use Rattle.vortex_logical.specs.declared.comparison.Comparison.TheVariants.{Eq}
use Rattle.vortex_logical.specs.declared.logical_type.ExactKind.TheVariants.{Number}
use Rattle.vortex_sql.specs.declared.syntax.tree.Operand.{Operand}
use Rattle.vortex_sql.specs.declared.syntax.tree.Operand.TheVariants.{Column, Exact, Null, Other}
use Rattle.vortex_sql.specs.declared.syntax.tree.Test.{Test}
use Rattle.vortex_sql.specs.declared.syntax.tree.Test.TheVariants as test

-- ---- names at the front and at the back

pub record NameExamples : Type 0 where
  pub two_parts : last_part (front (codes "t.a = 1")) ≡ Some (codes "a")
  pub three_parts : last_part (codes "s.t.a") ≡ Some (codes "a")
  pub one_part : last_part (codes "a") ≡ None
  pub number : last_part (codes "1.5") ≡ None
  pub point_first : last_part (codes ".5") ≡ None
  pub none : last_part (front (codes "'t.a' = x")) ≡ None
  pub at_back : last_part (back (codes "1 <= t.a")) ≡ Some (codes "a")
  pub number_at_back : last_part (back (codes "a = 1.5")) ≡ None
  pub text_at_back : last_part (back (codes "a = 't.b'")) ≡ None

-- what may stand behind a name or before it
pub record NeighbourExamples : Type 0 where
  pub eq : begins_comparison (behind (codes "t.a=1")) ≡ true
  pub not_eq : begins_comparison (behind (codes "t.a != 1")) ≡ true
  pub other_not_eq : begins_comparison (behind (codes "t.a <> 1")) ≡ true
  pub lt : begins_comparison (behind (codes "t.a  < 1")) ≡ true
  pub lte : begins_comparison (behind (codes "t.a <= 1")) ≡ true
  pub gt : begins_comparison (behind (codes "t.a >1")) ≡ true
  pub gte : begins_comparison (behind (codes "t.a>=1")) ≡ true
  pub shift_left : begins_comparison (behind (codes "t.a << 1")) ≡ false
  pub shift_right : begins_comparison (behind (codes "t.a >> 1")) ≡ false
  pub other_operator : begins_comparison (behind (codes "t.a !~ 'x'")) ≡ false
  pub sum : begins_comparison (behind (codes "t.a + 1 = 2")) ≡ false
  pub call : begins_comparison (behind (codes "t.f(1) = 2")) ≡ false
  pub cast : begins_comparison (behind (codes "t.a::int = 2")) ≡ false
  pub alone : begins_word (behind (codes "t.a")) ≡ true
  pub keyword : begins_word (behind (codes "t.a IN (1)")) ≡ true
  pub no_keyword : begins_word (behind (codes "t.a || 'x'")) ≡ false
  pub behind_eq : ends_comparison (before (codes "1 = t.a")) ≡ true
  pub behind_gte : ends_comparison (before (codes "1>=t.a")) ≡ true
  pub behind_lt : ends_comparison (before (codes "1 < t.a")) ≡ true
  pub behind_gt : ends_comparison (before (codes "1 > t.a")) ≡ true
  pub behind_arrow : ends_comparison (before (codes "1 = x -> t.a")) ≡ false
  pub behind_long_arrow : ends_comparison (before (codes "1 = x ->> t.a")) ≡ false
  pub behind_shift_left : ends_comparison (before (codes "1 = x << t.a")) ≡ false
  pub behind_minus : ends_comparison (before (codes "1 = -t.a")) ≡ false
  pub behind_keyword : ends_comparison (before (codes "x BETWEEN 1 AND t.a")) ≡ false

-- ---- how they are read

abbrev pub a : Operand
a = Column (codes "a")

abbrev pub t : Operand
t = Column (codes "t")

abbrev pub one : Operand
one = Exact (record { kind = Number; top = pos 1; scale = 0 })

abbrev pub eq_one : Operand → Test
eq_one x = test.Compare Eq x one

abbrev pub one_eq : Operand → Test
one_eq x = test.Compare Eq one x

abbrev pub is_null : Operand → Test
is_null x = test.IsNull x

pub record NamedExamples : Type 0 where
  pub last : IsTestNamed Last (codes "t.a = 1") (eq_one a)
  pub last_unread : ¬ (IsTestNamed Last (codes "t.a = 1") (eq_one Other))
  pub last_first : ¬ (IsTestNamed Last (codes "t.a = 1") (eq_one t))
  pub plain : IsTestNamed Plain (codes "t.a = 1") (eq_one Other)
  pub plain_last : ¬ (IsTestNamed Plain (codes "t.a = 1") (eq_one a))
  pub plain_first : ¬ (IsTestNamed Plain (codes "t.a = 1") (eq_one t))
  pub right : IsTestNamed Last (codes "1 = t.a") (one_eq a)
  pub right_unread : ¬ (IsTestNamed Last (codes "1 = t.a") (one_eq Other))
  pub right_plain : ¬ (IsTestNamed Plain (codes "1 = t.a") (one_eq a))
  pub right_first : ¬ (IsTestNamed Plain (codes "1 = t.a") (one_eq t))
  pub tested : IsTestNamed Last (codes "t.a IS NULL") (is_null a)
  pub tested_unread : ¬ (IsTestNamed Last (codes "t.a IS NULL") (is_null Other))
  pub tested_plain : ¬ (IsTestNamed Plain (codes "t.a IS NULL") (is_null a))
  pub truth : ¬ (IsTestNamed Last (codes "t.a") (test.Truth Other))
  pub between : ¬ (IsTestNamed Last (codes "t.a BETWEEN 1 AND 2") (test.Between Other Null Null))
  pub symmetric : ¬ (IsTestNamed Plain (codes "t.a BETWEEN SYMMETRIC 1 AND 2") (test.BetweenSymmetric a Null Null))
  pub member : ¬ (IsTestNamed Last (codes "t.a IN (1)") (test.In t []))
