use Rattle.std.proofs.Common.{ap, length-append, subst, sym, ◌∙◌, arith}
use Rattle.vortex_text.specs.OpenTexts.{HasRead}
use Rattle.vortex_text.specs.Progress.{Progress, StateFits}
use Rattle.vortex_text.proofs.open_text.OpenText.push.Goals as goal

pub invariant_of-self-2 : goal.invariant_of-self-2
invariant_of-self-2 c =
    let taken = c.self.inside.taken in
    record {
      short = omega (arith, c.self.invariant.short, c.if-bytes-self.false);
      fits = c.in_ok-self-inside.ensures.fits taken (subst (StateFits taken) (sym c.replace-state.ensures.value) c.self.invariant.fits);
    }

pub returns-clause-read : goal.returns-clause-read
returns-clause-read c = λ text is.
    let taken = ap (λ (p : Progress). p.taken) c.self.view_is in
    let held = sym (c.replace-state.ensures.value ∙ ap (λ (p : Progress). p.state) c.self.view_is) in
    record {
      taken = omega (arith, is.taken, taken, length-append text c.args.bytes.now);
      read = c.in_ok-self-inside.ensures.takes text (subst (HasRead text) held is.read);
    }
