-- Worked rows of marks, found by computation alone.
use Rattle.std.specs.Prelude.{◌≡◌, ℕ, Bool, true, false, List, [], ◌∷◌, Option, Some, None, nat_le, pos, refl}
use Rattle.vortex_base.specs.Data.Columns.{ColumnData}
use Rattle.vortex_expr.specs.Trees.Tree.{Tree, Place, binary, column, literal, row_count}
use Rattle.vortex_base.specs.declared.dtype.DType.TheVariants as dtype
use Rattle.vortex_base.specs.declared.pvalue.PValue.TheVariants as number
use Rattle.vortex_base.specs.declared.scalar_value.ScalarValue.{ScalarValue}
use Rattle.vortex_base.specs.declared.scalar_value.ScalarValue.TheVariants as value
use Rattle.vortex_base.specs.declared.types.Nullability.TheVariants as nullability
use Rattle.vortex_expr.specs.declared.scalar_fn.Operator.TheVariants.{Eq, Gt}
use Rattle.vortex_base.specs.declared.types.PType.TheVariants as width
use Rattle.vortex_prune.specs.Scanning.Marks.{count_at, either_marked, is_true_at, left_marked, marked, marked_rows, marked_verdicts}
use Rattle.vortex_prune.specs.declared.scan.marks.Counts.TheVariants.{Same}
use Rattle.vortex_prune.specs.declared.scan.verdict.Verdict.TheVariants.{Skipped, Whole, Tested}

abbrev num : ℕ → Option ScalarValue
num n = Some (value.Primitive (number.I64 (pos n)))

-- ---- marks that stay

-- the test holds from 3 on
abbrev late : ℕ → Bool
late n = nat_le 3 n

from_two : marked late 2 (true ∷ true ∷ false ∷ true ∷ []) ≡ false ∷ true ∷ false ∷ true ∷ []
from_two = refl

no_marks : marked late 2 [] ≡ []
no_marks = refl

in_either : either_marked (true ∷ true ∷ false ∷ false ∷ []) (true ∷ false ∷ true ∷ false ∷ []) ≡ true ∷ true ∷ true ∷ false ∷ []
in_either = refl

in_left : left_marked (true ∷ true ∷ false ∷ false ∷ []) (true ∷ false ∷ true ∷ false ∷ []) ≡ false ∷ true ∷ false ∷ false ∷ []
in_left = refl

of_shorter : either_marked (true ∷ true ∷ []) (false ∷ []) ≡ true ∷ []
of_shorter = refl

as_rows : marked_rows 7 3 (true ∷ false ∷ true ∷ []) ≡ (7, 3) ∷ (7, 5) ∷ []
as_rows = refl

same_count : count_at (Same 9) 4 ≡ 9
same_count = refl

-- ---- truths on rows

abbrev columns : List ColumnData
columns = record { dtype = dtype.Primitive width.I64 nullability.Nullable; values = num 3 ∷ None ∷ []; size = 0 } ∷ []

abbrev above_count : Tree Place
above_count = binary Gt (column (record { index = 0; dtype = dtype.Primitive width.I64 nullability.Nullable })) (literal (record { dtype = dtype.Primitive width.I64 nullability.NonNullable; value = num 2 }))

true_there : is_true_at above_count columns (Same 2) 0 ≡ true
true_there = refl

null_there : is_true_at above_count columns (Same 2) 1 ≡ false
null_there = refl

the_count : is_true_at (binary Eq row_count (literal (record { dtype = dtype.Primitive width.U64 nullability.NonNullable; value = Some (value.Primitive (number.U64 2)) }))) columns (Same 2) 1 ≡ true
the_count = refl

-- ---- verdicts

of_marks : marked_verdicts (true ∷ true ∷ false ∷ false ∷ []) (true ∷ false ∷ true ∷ false ∷ []) ≡ Skipped ∷ Skipped ∷ Whole ∷ Tested ∷ []
of_marks = refl
