use Rattle.std.proofs.Common.{rules, ◌≡◌, ◌<◌, [], ◌∷◌, None, Some, length, take, sym, ap, ◌∙◌, arith}
use Rattle.vortex_syntax.specs.QuotedSteps.{step_of}
use Rattle.vortex_syntax.specs.Words.{Broken, quoted, words_from}
use Rattle.vortex_syntax.proofs.WordLemmas.{bytes_from, quoted_broken, quoted_closed, quoted_copied, quoted_more, run_broken, run_copied, run_read}
use Rattle.vortex_syntax.proofs.word.quoted_at.Goals.{in-Some+in_ok-extend_from_slice+in_default-step_of, in_default}
use Rattle.vortex_syntax.proofs.word.quoted_at.Goals as goal

pub returns-in_err-extend_from_slice-clause-memory : goal.returns-in_err-extend_from_slice-clause-memory
returns-in_err-extend_from_slice-clause-memory c =
    let some : 0 < length (take c.in-Some.run' c.runs.rest.now) = omega (arith, c.in_err-extend_from_slice.ensures.full, c.runs.text.ok) in
    λ _. run_copied c.args.bytes.now c.runs.rest.now c.runs.text.items c.in-Some.run' c.in-Some.ensures c.runs.invariant.same some

pub returns-in_default-byte-clause-text : goal.returns-in_default-byte-clause-text
returns-in_default-byte-clause-text c =
    let rest = bytes_from c.in-Some.run' c.runs.rest.now in
    let text = c.extend_from_slice.new.self.items in
    let same = run_read c.args.bytes.now c.runs.rest.now c.runs.text.items text c.in-Some.run' c.in-Some.ensures c.in_ok-extend_from_slice.ensures.items c.runs.invariant.same in
    let step : step_of rest ≡ Some (None, c.in-Some-step_of.after.now) = sym c.in-Some-step_of.ensures.step ∙ ap (λ b. Some (b, c.in-Some-step_of.after.now)) c.in_default-byte.is in
    quoted_closed c.args.bytes.now rest c.in-Some-step_of.after.now text step same

pub returns-in_err-push-clause-memory : goal.returns-in_err-push-clause-memory
returns-in_err-push-clause-memory c =
    let rest = bytes_from c.in-Some.run' c.runs.rest.now in
    let text = c.extend_from_slice.new.self.items in
    let same = run_read c.args.bytes.now c.runs.rest.now c.runs.text.items text c.in-Some.run' c.in-Some.ensures c.in_ok-extend_from_slice.ensures.items c.runs.invariant.same in
    let step : step_of rest ≡ Some (Some c.in-Some-byte.byte, c.in-Some-step_of.after.now) = sym c.in-Some-step_of.ensures.step ∙ ap (λ b. Some (b, c.in-Some-step_of.after.now)) c.in-Some-byte.is in
    λ _. quoted_copied c.args.bytes.now rest c.in-Some-step_of.after.now text c.in-Some-byte.byte step same

pub runs-preserved : goal.runs-preserved
runs-preserved c =
    let rest = bytes_from c.in-Some.run' c.runs.rest.now in
    let after = c.in-Some-step_of.after.now in
    let text = c.extend_from_slice.new.self.items in
    let same = run_read c.args.bytes.now c.runs.rest.now c.runs.text.items text c.in-Some.run' c.in-Some.ensures c.in_ok-extend_from_slice.ensures.items c.runs.invariant.same in
    let step : step_of rest ≡ Some (Some c.in-Some-byte.byte, after) = sym c.in-Some-step_of.ensures.step ∙ ap (λ b. Some (b, after)) c.in-Some-byte.is in
    record {
      same = quoted_more c.args.bytes.now rest after text c.in-Some-byte.byte step same ∙ ap (λ w. words_from after (quoted w)) (sym c.in_ok-push.ensures.items);
      shorter = omega (arith, c.in-Some-step_of.ensures.shorter, c.runs.invariant.shorter);
    }

pub returns-clause-text : goal.returns-clause-text
returns-clause-text c =
    let broken : words_from c.args.bytes.now (quoted []) ≡ Broken ∷ [] = elim c.match-memchr2.branch [
      | in-Some+in_ok-extend_from_slice+in_default-step_of w ↦ (
          let rest = bytes_from w.in-Some.run' c.runs.rest.now in
          let text = w.extend_from_slice.new.self.items in
          let same = run_read c.args.bytes.now c.runs.rest.now c.runs.text.items text w.in-Some.run' w.in-Some.ensures w.in_ok-extend_from_slice.ensures.items c.runs.invariant.same in
          quoted_broken c.args.bytes.now rest text (sym w.in_default-step_of.ensures.step) same)
      | in_default w ↦ run_broken c.args.bytes.now c.runs.rest.now c.runs.text.items w.in_default.ensures c.runs.invariant.same
    ] in
    search rules
