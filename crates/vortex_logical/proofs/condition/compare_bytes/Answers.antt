use Rattle.std.proofs.Common.{sym, ◌∙◌, ap, FitsSigned}
use Rattle.std.specs.Int.{w128}
use Rattle.std.proofs.lemmas.Int.{to_z-of_z}
use Rattle.std.specs.Ordering.{nat_cmp}
use Rattle.std.specs.Cmp.Lexicographic.{slice_cmp}
use Rattle.vortex_logical.specs.Meaning.{holds}
use Rattle.vortex_logical.specs.Sortable.{sortable_bytes}
use Rattle.vortex_logical.proofs.ByteOrder.{bytes_cmp}
use Rattle.vortex_logical.proofs.Conditioned.{fits_cell}
use Rattle.vortex_logical.proofs.condition.compare_bytes.Goals as goal

pub returns : goal.returns
returns c = λ n h.
    let f : FitsSigned w128 c.compare-test.result.number = fits_cell c.args.logical c.compare-test.result.number c.compare-test.ensures.inside in
    let e = simp to_z-of_z at c.sortable-bytes.ensures in
    c.compare-test.ensures.same n h
    ∙ ap (holds c.compare-test.result.comparison)
    (sym (bytes_cmp n c.compare-test.result.number (fits_cell c.args.logical n h) (fits_cell c.args.logical c.compare-test.result.number c.compare-test.ensures.inside))
    ∙ ap (slice_cmp nat_cmp (sortable_bytes n)) (sym e))
