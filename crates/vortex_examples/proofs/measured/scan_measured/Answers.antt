use Rattle.vortex_examples.proofs.MeasuredScans.{measured_fit, measured_rows}
use Rattle.vortex_examples.proofs.measured.scan_measured.Goals as goal

pub scan_by_statistics-requires-clause-fits : goal.scan_by_statistics-requires-clause-fits
scan_by_statistics-requires-clause-fits c =
    rw (c.deref.ensures.value, c.in_ok-parts.ensures.measured) (measured_fit c.args.predicate.now c.args.chunks.items c.requires.fits)

pub returns-clause-rows : goal.returns-clause-rows
returns-clause-rows c =
    measured_rows c.args.predicate.now c.args.chunks.items _ _ c.in_ok-parts.ensures.measured c.in_ok-parts.ensures.truth (rw c.deref.ensures.value at c.scan_by_statistics.ensures.full)
