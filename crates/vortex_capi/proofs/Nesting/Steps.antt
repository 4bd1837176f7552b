-- Steps of a reader, one after the other.
use Rattle.std.proofs.Common.{◌≡◌, ◌<◌, ◌+◌, ℕ, List, Option, Some, None, is_ok, option_and_then, Err, refl, ap, sym, subst, ◌∙◌, inl, inr, arith}
use Rattle.std.proofs.lemmas.Bool.{cases_Bool}
use Rattle.vortex_expr.specs.Trees.Tree.{Tree, Place}
use Rattle.vortex_expr.specs.Meanings.Typing.{type_of}
use Rattle.vortex_normal.specs.Balanced.{depth}
use Rattle.vortex_syntax.specs.Expressions.{Read, followed, typed}
use Rattle.vortex_syntax.specs.Words.{Token}
use Rattle.vortex_capi.specs.Nesting.Halves.{halved}
use Rattle.vortex_capi.specs.Nesting.Nodes.{Builds}
use Rattle.vortex_capi.specs.Nesting.Reads.{Fails, halved_pair, halved_read}
use Rattle.vortex_capi.specs.declared.nested.error.NestedError.{NestedError}
use Rattle.vortex_capi.specs.declared.nested.error.NestedError.TheVariants as errors
use Rattle.vortex_capi.proofs.Nesting.Types.{same_typed}

-- ---- a step that was made, and what follows it

pub record Step {A B : Type 0} (o : Option A) (f : A → Option B) (y : B) : Type 0 where
  pub at : A
  pub made : o ≡ Some at
  pub then : f at ≡ Some y

pub step_of : {A B : Type 0} (o : Option A) (f : A → Option B) (y : B) → option_and_then f o ≡ Some y → Step o f y
step_of None f y h = cc
step_of (Some x) f y h = record { at = x; made = refl; then = h }

-- an expression that was typed is the one that was made
pub followed_is : (e : Tree Place) (ws : List Token) (x : Tree Place × List Token) → followed (typed e) ws ≡ Some x → e ≡ x.0
followed_is e ws x h = elim (cases_Bool (is_ok (type_of e))) [
  | inl is ↦ (let same = rw is at h in let pair : (e, ws) ≡ x = cc in ap (λ (p : Tree Place × List Token). p.0) pair)
  | inr isnt ↦ (let same = rw isnt at h in cc)
]

pub typed_is : (e d : Tree Place) → typed e ≡ Some d → e ≡ d
typed_is e d h = elim (cases_Bool (is_ok (type_of e))) [
  | inl is ↦ (let same = rw is at h in cc)
  | inr isnt ↦ (let same = rw isnt at h in cc)
]

-- ---- what is read, its chains joined in halves

pub halved_after : {A : Type 0} (o : Option A) (f g : A → Read) → ((a : A) → halved_read (f a) ≡ g a) → halved_read (option_and_then f o) ≡ option_and_then g o
halved_after None f g h = refl
halved_after (Some a) f g h = h a

pub halved_operand : (o : Read) (f g : Tree Place × List Token → Read) → ((x : Tree Place × List Token) → halved_read (f x) ≡ g (halved_pair x))
    → halved_read (option_and_then f o) ≡ option_and_then g (halved_read o)
halved_operand None f g h = refl
halved_operand (Some x) f g h = h x

pub halved_followed : (e d : Tree Place) (ws : List Token) → halved e ≡ d → halved_read (followed (typed e) ws) ≡ followed (typed d) ws
halved_followed e d ws same = by_type ∙ ap (λ x. followed (typed x) ws) same
  where
    by_type : halved_read (followed (typed e) ws) ≡ followed (typed (halved e)) ws
    by_type = elim (cases_Bool (is_ok (type_of e))) [
      | inl is ↦ (let there = same_typed e ∙ is in rw (is, there) refl)
      | inr isnt ↦ (let there = same_typed e ∙ isnt in rw (isnt, there) refl)
    ]

-- ---- refusals

-- where the first step fails, so does the whole; what is read is deeper than what it is made of
pub first_fails : (o : Read) (f : Tree Place × List Token → Read) (under : ℕ) (e : NestedError) → Fails under e o
    → ((x y : Tree Place × List Token) → f x ≡ Some y → depth x.0 < depth y.0) → Fails (under + 1) e (option_and_then f o)
first_fails o f under errors.Memory h deeper = tt
first_fails o f under errors.Bad h deeper = rw h refl
first_fails o f under errors.TooDeep h deeper = λ y k.
    let s = step_of o f y k in
    let deep = h s.at s.made in
    let more = deeper s.at y s.then in
    omega (arith, deep, more)

pub next_fails : {A : Type 0} (o : Option A) (a : A) (f : A → Read) (below : ℕ) (e : NestedError) → o ≡ Some a → Fails below e (f a) → Fails below e (option_and_then f o)
next_fails o a f below e is h = let P : Read → Type 0 = Fails below e in subst P (sym (ap (option_and_then f) is)) h

pub build_fails : (e : Tree Place) (ws : List Token) (below : ℕ) (fault : NestedError) → Builds (typed e) (Err fault) → Fails below fault (followed (typed e) ws)
build_fails e ws below errors.Memory h = tt
build_fails e ws below errors.Bad h = rw h refl
build_fails e ws below errors.TooDeep h = absurd h

-- ---- what was read, and what it is joined of

pub read_back : (o : Read) (y : Tree Place × List Token) → halved_read o ≡ Some y → (x : Tree Place × List Token) × (o ≡ Some x) × (halved_pair x ≡ y)
read_back None y h = cc
read_back (Some x) y h = (x, refl, cc)

pub read_none : (o : Read) → halved_read o ≡ None → o ≡ None
read_none None h = refl
read_none (Some x) h = cc
