-- On batches that are written one behind another.
use Rattle.std.proofs.Common.{◌≡◌, ◌<◌, ◌+◌, ◌++◌, ℕ, All, List, [], ◌∷◌, ap, get_or, length, refl, sym, take, ◌∙◌}
use Rattle.std.proofs.lemmas.List.{take_more}
use Rattle.vortex_base.specs.Data.Columns.{ColumnData, appended}
use Rattle.vortex_base_tests.specs.StatisticsRows.Writing.{written}

written_type : (c : ColumnData) (ds : List ColumnData) → (written c ds).dtype ≡ c.dtype
written_type c [] = refl
written_type c (d ∷ ds) = written_type (appended c d) ds

written_more : (c : ColumnData) (ds : List ColumnData) (d : ColumnData) → written c (ds ++ d ∷ []) ≡ appended (written c ds) d
written_more c [] d = refl
written_more c (e ∷ es) d = written_more (appended c e) es d

module _ (c : ColumnData) (ds : List ColumnData) (i : ℕ) (d : ColumnData) (types : All (λ b. b.dtype ≡ c.dtype) ds) (within : i < length ds) (is : d ≡ get_or ds i d) where
  -- what was written before a batch is of its type
  pub type_so_far : (written c (take i ds)).dtype ≡ d.dtype
  type_so_far = written_type c (take i ds) ∙ sym (ap (λ (b : ColumnData). b.dtype) is ∙ types i d within)

  -- and with it that is what was written up to the next
  pub written_next : appended (written c (take i ds)) d ≡ written c (take (i + 1) ds)
  written_next = sym (ap (written c) (take_more ds i d within ∙ ap (λ b. take i ds ++ b ∷ []) (sym is)) ∙ written_more c (take i ds) d)

  -- the batches up to the next are those before this one, and it
  pub taken_next : take (i + 1) ds ≡ take i ds ++ d ∷ []
  taken_next = take_more ds i d within ∙ ap (λ b. take i ds ++ b ∷ []) (sym is)
