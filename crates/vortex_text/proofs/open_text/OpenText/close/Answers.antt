use Rattle.std.proofs.Common.{ap, subst, sym, ◌∙◌}
use Rattle.vortex_text.proofs.OpenTextLemmas.{bad_closed}
use Rattle.vortex_text.specs.OpenTexts.{HasRead}
use Rattle.vortex_text.specs.Progress.{Progress}
use Rattle.vortex_text.proofs.open_text.OpenText.close.Goals as goal

pub returns-in-Bad-clause-named : goal.returns-in-Bad-clause-named
returns-in-Bad-clause-named c = λ text is.
    let held = sym (ap (λ (p : Progress). p.state) c.self.view_is) ∙ c.in-Bad.is in
    bad_closed text c.in-Bad.bad (subst (HasRead text) held is.read)
