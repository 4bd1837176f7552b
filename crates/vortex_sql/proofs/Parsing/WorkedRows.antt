-- The worked rows, by computing.
use Rattle.std.proofs.Common.{refl}
use Rattle.vortex_sql.specs.Parsing.Worked.{NameExamples, NamedExamples, NeighbourExamples}

pub names : NameExamples
names = record {
  two_parts = refl;
  three_parts = refl;
  one_part = refl;
  number = refl;
  point_first = refl;
  none = refl;
  at_back = refl;
  number_at_back = refl;
  text_at_back = refl;
}

pub neighbours : NeighbourExamples
neighbours = record {
  eq = refl;
  not_eq = refl;
  other_not_eq = refl;
  lt = refl;
  lte = refl;
  gt = refl;
  gte = refl;
  shift_left = refl;
  shift_right = refl;
  other_operator = refl;
  sum = refl;
  call = refl;
  cast = refl;
  alone = refl;
  keyword = refl;
  no_keyword = refl;
  behind_eq = refl;
  behind_gte = refl;
  behind_lt = refl;
  behind_gt = refl;
  behind_arrow = refl;
  behind_long_arrow = refl;
  behind_shift_left = refl;
  behind_minus = refl;
  behind_keyword = refl;
}

pub named : NamedExamples
named = record {
  last = record { left = λ _. refl; right = λ _. tt };
  last_unread = λ h. let q = h.left refl in cc;
  last_first = λ h. let q = h.left refl in cc;
  plain = record { left = λ _. refl; right = λ _. tt };
  plain_last = λ h. let q = h.left refl in cc;
  plain_first = λ h. let q = h.left refl in cc;
  right = record { left = λ _. tt; right = λ _. refl };
  right_unread = λ h. let q = h.right refl in cc;
  right_plain = λ h. let q = h.right refl in cc;
  right_first = λ h. let q = h.right refl in cc;
  tested = λ _. refl;
  tested_unread = λ h. let q = h refl in cc;
  tested_plain = λ h. let q = h refl in cc;
  truth = λ h. let q = h refl in cc;
  between = λ h. let q = h refl in cc;
  symmetric = λ h. let q = h refl in cc;
  member = λ h. let q = h refl in cc;
}
