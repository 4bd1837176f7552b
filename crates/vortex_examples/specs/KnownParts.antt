-- Parts with binders of entries: where the entries are facts of the parts, the binders are honest.
use Rattle.std.specs.Prelude.{◌≡◌, ℕ, false, true, List, [], ◌∷◌, ⊤, refl}
use Rattle.std.specs.List.{AllByRecursion}
use Rattle.vortex_examples.specs.declared.known.Known.{Known}
use Rattle.vortex_examples.specs.Known.{IsKnownOf, known_values}
use Rattle.vortex_examples.specs.KnownFaithful.{known_facts_are_honest}
use Rattle.vortex_prune.specs.Part.{PartData}
use Rattle.vortex_prune.specs.Scanning.Selection.{AreFaithful, AreHonest, any_binder}

-- each binder's entries are facts of its part
abbrev pub AreKnown : List PartData → List Known → Type 0
AreKnown (part ∷ parts) (binder ∷ binders) = AllByRecursion (IsKnownOf part.chunk.columns) binder.entries.items × AreKnown parts binders
AreKnown parts binders = ⊤

pub known_faithful : (parts : List PartData) (binders : List Known) → AreFaithful (λ (binder : Known) row n. true) parts binders
known_faithful [] binders = tt
known_faithful (part ∷ parts) [] = tt
known_faithful (part ∷ parts) (binder ∷ binders) = (refl, known_faithful parts binders)

pub known_honest : (parts : List PartData) (binders : List Known) → AreKnown parts binders → AreHonest (λ (binder : Known) row n. known_values binder.entries.items) parts binders
known_honest [] binders h = tt
known_honest (part ∷ parts) [] h = tt
known_honest (part ∷ parts) (binder ∷ binders) h = (known_facts_are_honest binder.entries.items part.chunk.columns h.0, known_honest parts binders h.1)

-- none of them has a fault of its own
pub known_faultless : (binders : List Known) (k : ℕ) → any_binder (λ (binder : Known) kind. false) binders k ≡ false
known_faultless [] k = refl
known_faultless (binder ∷ binders) k = known_faultless binders k
