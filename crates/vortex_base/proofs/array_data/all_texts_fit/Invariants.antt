use Rattle.std.proofs.Common.{◌≡◌, map, take, true}
use Rattle.vortex_base.specs.Data.ArrayData.{text_value}
use Rattle.vortex_base.specs.Data.Columns.{all_fit}
use Rattle.vortex_base.proofs.array_data.all_texts_fit.Given as goal

-- the values so far fit
abbrev pub invariant-loop-i : goal.invariant-loop-i
invariant-loop-i l = all_fit l.dtype (take l.i (map text_value l.texts)) ≡ true
