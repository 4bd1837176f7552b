use Rattle.std.proofs.Common.{◌≡◌, ◌++◌, ◌∷◌, [], ℕ, List, Bool, Option, Some, None, Bor, length, refl, ap, ap₂, sym, ◌∙◌}
use Rattle.std.specs.Option.{is_some, option_copied, unwrap_or}
use Rattle.vortex_base.specs.Data.VarBinArray.{AreBlobs, blob, blobs}
use Rattle.vortex_base.proofs.Data.BlobLemmas.{AreBlobs-push, blobs-push}
use Rattle.vortex_base.proofs.Data.OffsetLemmas.{unless_refused}
use Rattle.vortex_base.proofs.var_bin_array.VarBinArray.push.Goals as goal

-- what is added, whatever stands in the place of bytes that aren't there
added : (value : Option (Bor (List ℕ))) (other : Bor (List ℕ)) → blob (is_some value) (unwrap_or value other).now ≡ option_copied value
added None other = refl
added (Some bytes) other = refl

-- the fields behind which one more is put
more : (ends heap bytes ends' heap' : List ℕ) (validity validity' was_there : List Bool) (t : Bool) (end : ℕ) → AreBlobs ends heap validity → was_there ≡ validity → heap' ≡ heap ++ bytes → end ≡ length heap' → ends' ≡ ends ++ end ∷ [] → validity' ≡ was_there ++ t ∷ [] → AreBlobs ends' heap' validity' × (blobs ends' heap' validity' ≡ blobs ends heap validity ++ blob t bytes ∷ [])
more ends heap bytes ends' heap' validity validity' was_there t end h b c d e f =
    let first : ends' ≡ ends ++ length (heap ++ bytes) ∷ [] = e ∙ ap (λ (k : ℕ). ends ++ k ∷ []) (d ∙ ap length c) in
    let third : validity' ≡ validity ++ t ∷ [] = f ∙ ap (λ (l : List Bool). l ++ t ∷ []) b in
    rw (first, c, third) (AreBlobs-push ends heap bytes validity t h, blobs-push ends heap bytes validity t h)

pub invariant_of-self-2 : goal.invariant_of-self-2
invariant_of-self-2 c =
    let inside = c.self.inside in
    let pushed = unless_refused (c.push.new.self ≡ inside.ends ++ c.len.result ∷ []) c.push.result (sym c.is_err.ensures.value ∙ c.if-is_err.false) c.push.ensures.pushed in
    (more inside.ends inside.heap.items c.unwrap_or.result.now c.push.new.self c.extend_from_slice.new.self.items inside.validity.items c.push_reserved.new.self.items c.reserve.new.self.items c.is_some.result c.len.result c.self.invariant c.in_ok-reserve.ensures.items c.in_ok-extend_from_slice.ensures.items (c.len.ensures ∙ c.extend_from_slice.new.self.ok.0) pushed c.push_reserved.ensures.items).0

pub returns-clause-pushed : goal.returns-clause-pushed
returns-clause-pushed c =
    let inside = c.self.inside in
    let pushed = unless_refused (c.push.new.self ≡ inside.ends ++ c.len.result ∷ []) c.push.result (sym c.is_err.ensures.value ∙ c.if-is_err.false) c.push.ensures.pushed in
    (more inside.ends inside.heap.items c.unwrap_or.result.now c.push.new.self c.extend_from_slice.new.self.items inside.validity.items c.push_reserved.new.self.items c.reserve.new.self.items c.is_some.result c.len.result c.self.invariant c.in_ok-reserve.ensures.items c.in_ok-extend_from_slice.ensures.items (c.len.ensures ∙ c.extend_from_slice.new.self.ok.0) pushed c.push_reserved.ensures.items).1
    ∙ ap₂ (λ bs b. bs ++ b ∷ []) c.self.view_is (ap₂ (λ t (r : Bor (List ℕ)). blob t r.now) c.is_some.ensures c.unwrap_or.ensures ∙ added c.args.value _)
