use Rattle.std.proofs.Common.{◌≡◌, ◌∙◌, ◌≢◌, ◌&&◌, Bool, None, ℕ, true, false, refl, replicate, sym, zero, suc}
use Rattle.vortex_base.proofs.Data.CellLemmas.{fit_nulls}
use Rattle.vortex_base.specs.Data.Columns.{all_fit}
use Rattle.vortex_base.specs.Data.Types.{is_nullable}
use Rattle.vortex_base.specs.declared.dtype.DType.{DType}
use Rattle.vortex_base.proofs.array_data.ArrayData.fits.Goals as goal

only_where : (b rest : Bool) → (b ≡ true → rest ≡ true) → b ≡ (b && rest)
only_where true rest h = sym (h refl)
only_where false rest h = refl

-- some nulls fit where null does
some_nulls : (t : DType) (n : ℕ) → n ≢ 0 → is_nullable t ≡ all_fit t (replicate n None)
some_nulls t zero some = absurd (some refl)
some_nulls t (suc n) some = only_where (is_nullable t) (all_fit t (replicate n None)) (fit_nulls t n)

pub returns-else-count-eq0 : goal.returns-else-count-eq0
returns-else-count-eq0 c = rw c.in-Nulls.is (c.is_nullable.ensures ∙ some_nulls c.args.dtype.now c.in-Nulls.nulls (λ none. c.if-count-eq0.false (c.count.ensures ∙ none)))
