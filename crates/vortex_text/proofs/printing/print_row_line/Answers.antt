use Rattle.std.specs.List.{flat_map}
use Rattle.vortex_text.proofs.PageLemmas.{end_cut, err_then, ok_then, on_err, passes_line, said_cut, word_cut}
use Rattle.vortex_text.specs.Printing.{row_text}
use Rattle.vortex_text.proofs.printing.print_row_line.Goals as goal

pub returns-in_err-put-clause-cut : goal.returns-in_err-put-clause-cut
returns-in_err-put-clause-cut g c = on_err _ (word_cut _ (flat_map row_text c.args.rows.now) _ _ _ _ c.in_err-put.ensures.cut)

pub returns-in_err-print_rows-clause-cut : goal.returns-in_err-print_rows-clause-cut
returns-in_err-print_rows-clause-cut g c = on_err _ (said_cut _ _ _ _ _ _ c.in_ok-put.ensures.put _ _ c.in_err-print_rows.ensures.cut)

pub returns-clause-printed : goal.returns-clause-printed
returns-clause-printed g c =
    ok_then c.put-2.result (λ ended. passes_line _ _ _ _ _ _ c.in_ok-put.ensures.put _ _ c.in_ok-print_rows.ensures.printed _ _ ended) c.put-2.ensures.put

pub returns-clause-cut : goal.returns-clause-cut
returns-clause-cut g c =
    err_then c.put-2.result (λ cut. end_cut _ _ _ _ _ _ c.in_ok-put.ensures.put _ _ c.in_ok-print_rows.ensures.printed _ _ cut) c.put-2.ensures.cut
