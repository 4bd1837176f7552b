use Rattle.std.proofs.Common.{◌≡◌, ◌<◌, ◌++◌, ◌∷◌, ◌∙◌, ℕ, [], List, length, map, sym, ap, subst, get_or, arith}
use Rattle.std.proofs.lemmas.Result.{err_from_is_err_and}
use Rattle.std.proofs.lemmas.List.{map_push}
use Rattle.std.proofs.lemmas.List.FromFn.{get_or-range_with_len, length-range_with_len}
use Rattle.std.proofs.Math.Nat.{zero-add}
use Rattle.std.specs.List.{range_with_len}
use Rattle.vortex_parquet.specs.PageIndex.{index_view}
use Rattle.vortex_parquet.specs.Pages.{page_at, page_view, pages_in}
use Rattle.vortex_parquet.specs.Reading.{Fails}
use Rattle.vortex_parquet.proofs.Alls.{all_goes, all_fails, all_done}
use Rattle.vortex_parquet.proofs.pages.pages_in.Goals as goal

pub returns-in_err-page : goal.returns-in_err-page
returns-in_err-page c =
    let p = err_from_is_err_and c.from_residual.result c.from_residual.ensures.1 in
    let n = length c.args.locations.now in
    let one = page_at c.args.rows c.args.nullability (index_view c.args.index.now) c.args.locations.now in
    let at : get_or (range_with_len 0 n) c.loop-place.place 0 ≡ c.loop-place.place = get_or-range_with_len 0 n c.loop-place.place 0 c.loop-place-test.true ∙ zero-add c.loop-place.place in
    let lt : c.loop-place.place < length (range_with_len 0 n) = omega (arith, length-range_with_len 0 n) in
    rw (p.1, p.2) (all_fails c.in_err-page.field-0.0 one (range_with_len 0 n) (map page_view c.loop-place.pages.items) c.loop-place.place 0 (pages_in c.args.rows c.args.nullability (index_view c.args.index.now) c.args.locations.now) lt (subst (λ (i : ℕ). Fails c.in_err-page.field-0.0 (one i)) (sym at) c.in_err-page.ensures) c.loop-place.invariant)

pub loop-place-preserved : goal.loop-place-preserved
loop-place-preserved c =
    let n = length c.args.locations.now in
    let one = page_at c.args.rows c.args.nullability (index_view c.args.index.now) c.args.locations.now in
    let at : get_or (range_with_len 0 n) c.loop-place.place 0 ≡ c.loop-place.place = get_or-range_with_len 0 n c.loop-place.place 0 c.loop-place-test.true ∙ zero-add c.loop-place.place in
    let lt : c.loop-place.place < length (range_with_len 0 n) = omega (arith, length-range_with_len 0 n) in
    let e : map page_view c.push.new.self.items ≡ map page_view c.loop-place.pages.items ++ page_view c.in_ok-page.page ∷ [] = rw c.in_ok-push.ensures.items (map_push page_view c.loop-place.pages.items c.in_ok-page.page) in
    rw e (all_goes one (range_with_len 0 n) (map page_view c.loop-place.pages.items) c.loop-place.place 0 (page_view c.in_ok-page.page) (pages_in c.args.rows c.args.nullability (index_view c.args.index.now) c.args.locations.now) lt (ap one at ∙ c.in_ok-page.ensures) c.loop-place.invariant)

pub returns : goal.returns
returns c =
    let n = length c.args.locations.now in
    let one = page_at c.args.rows c.args.nullability (index_view c.args.index.now) c.args.locations.now in
    all_done one (range_with_len 0 n) (map page_view c.loop-place.pages.items) c.loop-place.place (pages_in c.args.rows c.args.nullability (index_view c.args.index.now) c.args.locations.now) (omega (arith, length-range_with_len 0 n)) c.loop-place.invariant
