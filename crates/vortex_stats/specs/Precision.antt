-- What the calls of `Precision` answer.
use Rattle.std.specs.Prelude.{ℕ, Bool, true, false, List, Option, Some, None, Result, Ok, Err, ⊤, codes}
use Rattle.std.specs.Fmt.{◌++?◌}
use Rattle.vortex_stats.specs.declared.precision.Precision.{Precision}
use Rattle.vortex_stats.specs.declared.precision.Precision.TheVariants.{Exact, Inexact, Absent}

module _ {T : Type 0} where
  -- the value of Exact alone
  abbrev pub exact_value : Precision T → Option T
  exact_value (Exact v) = Some v
  exact_value (Inexact v) = None
  exact_value Absent = None

  -- the value of Inexact alone
  abbrev pub inexact_value : Precision T → Option T
  inexact_value (Exact v) = None
  inexact_value (Inexact v) = Some v
  inexact_value Absent = None

  -- the value of either
  abbrev pub present_value : Precision T → Option T
  present_value (Exact v) = Some v
  present_value (Inexact v) = Some v
  present_value Absent = None

  abbrev pub is_exact : Precision T → Bool
  is_exact (Exact v) = true
  is_exact (Inexact v) = false
  is_exact Absent = false

  abbrev pub is_absent : Precision T → Bool
  is_absent (Exact v) = false
  is_absent (Inexact v) = false
  is_absent Absent = true

  abbrev pub is_present : Precision T → Bool
  is_present (Exact v) = true
  is_present (Inexact v) = true
  is_present Absent = false

  -- Inexact of the value; Absent stays
  abbrev pub inexact_of : Precision T → Precision T
  inexact_of (Exact v) = Inexact v
  inexact_of (Inexact v) = Inexact v
  inexact_of Absent = Absent

  -- nothing for Absent, else the precision itself
  abbrev pub present_only : Precision T → Option (Precision T)
  present_only (Exact v) = Some (Exact v)
  present_only (Inexact v) = Some (Inexact v)
  present_only Absent = None

  -- Exact of a value that equals w
  abbrev pub is_exactly : (T → T → Bool) → Precision T → T → Bool
  is_exactly eq (Exact v) w = eq v w
  is_exactly eq (Inexact v) w = false
  is_exactly eq Absent w = false

  -- Exact, and its value has P
  abbrev pub IsExactAnd : Precision T → (T → Type 0) → Type 0
  IsExactAnd (Exact v) P = P v
  IsExactAnd (Inexact v) P = ⊥
  IsExactAnd Absent P = ⊥

  -- Inexact, and its value has P
  abbrev pub IsInexactAnd : Precision T → (T → Type 0) → Type 0
  IsInexactAnd (Exact v) P = ⊥
  IsInexactAnd (Inexact v) P = P v
  IsInexactAnd Absent P = ⊥

  -- the value, if there is one, has P
  abbrev pub IfPresent : Precision T → (T → Type 0) → Type 0
  IfPresent (Exact v) P = P v
  IfPresent (Inexact v) P = P v
  IfPresent Absent P = ⊤

  -- there is a value, and it has P
  abbrev pub IsPresentAnd : Precision T → (T → Type 0) → Type 0
  IsPresentAnd (Exact v) P = P v
  IsPresentAnd (Inexact v) P = P v
  IsPresentAnd Absent P = ⊥

module _ {T U : Type 0} where
  abbrev pub precision_map : (T → U) → Precision T → Precision U
  precision_map f (Exact v) = Exact (f v)
  precision_map f (Inexact v) = Inexact (f v)
  precision_map f Absent = Absent

  -- the case is kept around an answer of the closure
  abbrev pub IsMapped : (T → U → Type 0) → Precision T → Precision U → Type 0
  IsMapped answers (Exact v) (Exact u) = answers v u
  IsMapped answers (Inexact v) (Inexact u) = answers v u
  IsMapped answers Absent Absent = ⊤
  IsMapped answers p q = ⊥

  -- the same, and Absent where the closure answers None
  abbrev pub IsMappedOrAbsent : (T → Option U → Type 0) → Precision T → Precision U → Type 0
  IsMappedOrAbsent answers (Exact v) (Exact u) = answers v (Some u)
  IsMappedOrAbsent answers (Exact v) Absent = answers v None
  IsMappedOrAbsent answers (Inexact v) (Inexact u) = answers v (Some u)
  IsMappedOrAbsent answers (Inexact v) Absent = answers v None
  IsMappedOrAbsent answers Absent Absent = ⊤
  IsMappedOrAbsent answers p q = ⊥

  -- Absent if either is; Exact of two Exact; else Inexact
  abbrev pub precision_zip : Precision T → Precision U → Precision (T × U)
  precision_zip (Exact a) (Exact b) = Exact (a, b)
  precision_zip (Exact a) (Inexact b) = Inexact (a, b)
  precision_zip (Exact a) Absent = Absent
  precision_zip (Inexact a) (Exact b) = Inexact (a, b)
  precision_zip (Inexact a) (Inexact b) = Inexact (a, b)
  precision_zip (Inexact a) Absent = Absent
  precision_zip Absent q = Absent

-- the error that a present case holds, else the case around the value
abbrev pub transposed : {T E : Type 0} → Precision (Result T E) → Result (Precision T) E
transposed (Exact (Ok v)) = Ok (Exact v)
transposed (Exact (Err e)) = Err e
transposed (Inexact (Ok v)) = Ok (Inexact v)
transposed (Inexact (Err e)) = Err e
transposed Absent = Ok Absent

-- `v`, `~v` and `{empty}`, where the text of a value is stated
abbrev pub precision_text : {T : Type 0} → (T → Option (List ℕ)) → Precision T → Option (List ℕ)
precision_text text (Exact v) = text v
precision_text text (Inexact v) = Some (codes "~") ++? text v
precision_text text Absent = Some (codes "{empty}")
