use Rattle.std.proofs.Common.{◌≡◌, ◌++◌, ℕ, List, [], codes, sym, ◌∙◌, append_assoc, append-nil, ap, refl}
use Rattle.std.specs.List.{flat_map}
use Rattle.vortex_text.proofs.PageLemmas.{cut_after, cut_longer, cut_off, cut_out, err_then, ok_then, on_err, passes_more, passes_out, scan_lines}
use Rattle.vortex_text.specs.Printing.{line_of, part_text, row_text, scan_text, whole_text}
use Rattle.vortex_text.proofs.printing.print_scan.Goals as goal

-- the three lines of a scan, and all of them
module _ (skipped : List ℕ) (selected : List (ℕ × ℕ)) (whole : List ℕ) where
  abbrev A : List ℕ
  A = line_of (codes "skipped") (flat_map part_text skipped)

  abbrev B : List ℕ
  B = line_of (codes "rows") (flat_map row_text selected)

  abbrev W : List ℕ
  W = whole_text whole

  abbrev all : List ℕ
  all = scan_text skipped selected whole

  -- they are A ++ (B ++ W)
  apart : all ≡ (A ++ B) ++ W
  apart = scan_lines skipped selected whole ∙ sym (append_assoc A B W)

pub returns-in_err-print_part_line-clause-cut : goal.returns-in_err-print_part_line-clause-cut
returns-in_err-print_part_line-clause-cut g c =
    let s = c.args.scan.now.skipped.items in
    let r = c.args.scan.now.selected in
    let w = c.args.scan.now.whole.items in
    let page = c.new-page.result in
    let cut = rw c.deref.ensures.value at c.in_err-print_part_line.ensures.cut in
    on_err _ (cut_off _ _ _ page (all s r w) c.new-page.ensures (cut_longer _ _ _ _ (B s r w ++ W s r w) _ cut (ap (λ l. page ++ l) (scan_lines s r w) ∙ sym (append_assoc page (A s r w) (B s r w ++ W s r w)))))

pub returns-in_err-print_row_line-clause-cut : goal.returns-in_err-print_row_line-clause-cut
returns-in_err-print_row_line-clause-cut g c =
    let s = c.args.scan.now.skipped.items in
    let r = c.args.scan.now.selected in
    let w = c.args.scan.now.whole.items in
    let first = rw c.deref.ensures.value at c.in_ok-print_part_line.ensures.printed in
    let cut = c.in_err-print_row_line.ensures.cut in
    on_err _ (cut_off _ _ _ _ (all s r w) c.new-page.ensures (cut_after _ _ _ _ _ _ (A s r w) (B s r w) (W s r w) _ first cut (scan_lines s r w)))

pub returns-in_err-print_whole-clause-cut : goal.returns-in_err-print_whole-clause-cut
returns-in_err-print_whole-clause-cut g c =
    let s = c.args.scan.now.skipped.items in
    let r = c.args.scan.now.selected in
    let w = c.args.scan.now.whole.items in
    let first = rw c.deref.ensures.value at c.in_ok-print_part_line.ensures.printed in
    let both = passes_more _ _ _ _ _ _ (A s r w) (B s r w) _ first c.in_ok-print_row_line.ensures.printed refl in
    let cut = rw c.deref-2.ensures.value at c.in_err-print_whole.ensures.cut in
    on_err _ (cut_off _ _ _ _ (all s r w) c.new-page.ensures (cut_after _ _ _ _ _ _ (A s r w ++ B s r w) (W s r w) [] _ both cut (apart s r w ∙ ap (λ l. (A s r w ++ B s r w) ++ l) (sym (append-nil (W s r w))))))

pub returns-clause-printed : goal.returns-clause-printed
returns-clause-printed g c =
    let s = c.args.scan.now.skipped.items in
    let r = c.args.scan.now.selected in
    let w = c.args.scan.now.whole.items in
    let first = rw c.deref.ensures.value at c.in_ok-print_part_line.ensures.printed in
    let both = passes_more _ _ _ _ _ _ (A s r w) (B s r w) _ first c.in_ok-print_row_line.ensures.printed refl in
    let printed = passes_more _ _ _ _ _ _ (A s r w ++ B s r w) (W s r w) _ both (rw c.deref-2.ensures.value at c.in_ok-print_whole.ensures.printed) (apart s r w) in
    ok_then c.flush.result (λ rest. passes_out _ _ _ _ _ (all s r w) c.new-page.ensures printed rest) c.flush.ensures.written

pub returns-clause-cut : goal.returns-clause-cut
returns-clause-cut g c =
    let s = c.args.scan.now.skipped.items in
    let r = c.args.scan.now.selected in
    let w = c.args.scan.now.whole.items in
    let first = rw c.deref.ensures.value at c.in_ok-print_part_line.ensures.printed in
    let both = passes_more _ _ _ _ _ _ (A s r w) (B s r w) _ first c.in_ok-print_row_line.ensures.printed refl in
    let printed = passes_more _ _ _ _ _ _ (A s r w ++ B s r w) (W s r w) _ both (rw c.deref-2.ensures.value at c.in_ok-print_whole.ensures.printed) (apart s r w) in
    err_then c.flush.result (λ cut. cut_out _ _ _ _ _ _ (all s r w) c.new-page.ensures printed cut) c.flush.ensures.cut
