-- Plain logic that several proofs need: of tests, of answers and of lists.
use Rattle.std.proofs.Common.{◌≡◌, ◌||◌, Bool, true, false, List, [], ◌∷◌, ◌++◌, Result, Ok, Err, IfErr, alloc_error, zero, suc, refl, subst, arith}
use Rattle.std.proofs.lemmas.Bool.{or_left, or_right}
use Rattle.std.specs.List.{AllByRecursion}
use Rattle.std.specs.Prelude.{Contains, IfOk}
use Rattle.vortex_base.specs.Answer.{Makes}
use Rattle.vortex_base.specs.declared.dtype.DType.{DType}
use Rattle.vortex_base.specs.declared.error.BaseError.{BaseError}
use Rattle.vortex_base.specs.declared.error.BaseError.TheVariants.{Memory}
use Rattle.vortex_rewrite.specs.Answers.{OkOrMemory}
use Rattle.vortex_stats.specs.declared.error.StatsError.{StatsError}

-- ---- tests

pub or_more : (a b c d : Bool) → (a ≡ true → c ≡ true) → (b ≡ true → d ≡ true) → (a || b) ≡ true → (c || d) ≡ true
or_more true b c d f g h = or_left c d (f refl)
or_more false b c d f g h = or_right c d (g h)

-- ---- answers

-- a type, where there might be none
abbrev pub ok : DType → Result DType BaseError
ok t = Ok t

pub same_ok : (s t : DType) → ok s ≡ ok t → s ≡ t
same_ok s t h = cc

-- what holds of what is answered may be weakened
pub ok-weaker : {A E : Type 0} (P Q : A → Type 0) (r : Result A E) → ((x : A) → P x → Q x) → IfOk r P → IfOk r Q
ok-weaker P Q (Ok x) f h = f x h
ok-weaker P Q (Err e) f h = tt

-- what is so of what is answered, where memory may be refused
pub answer_is : {A : Type 0} (P : A → Type 0) (r : Result A StatsError) → OkOrMemory r P → IfOk r P
answer_is P (Ok x) h = h
answer_is P (Err e) h = tt

pub made-weaker : {A : Type 0} (P Q : A → Type 0) (r : Result A StatsError) → ((x : A) → P x → Q x) → OkOrMemory r P → OkOrMemory r Q
made-weaker P Q (Ok x) f h = f x h
made-weaker P Q (Err e) f h = h

-- ---- lists

pub all_append : {X : Type 0} (P : X → Type 0) (xs ys : List X) → AllByRecursion P xs → AllByRecursion P ys → AllByRecursion P (xs ++ ys)
all_append P [] ys h k = k
all_append P (x ∷ xs) ys h k = (h.0, all_append P xs ys h.1 k)

pub only_one : {X : Type 0} (x y : X) → Contains (x ∷ []) y → x ≡ y
only_one x y (zero, h, e) = e
only_one x y (suc k, h, e) = absurd (omega (arith, h))

-- ---- refusals

-- what makes a value is refused for memory alone
pub memory_alone : {A : Type 0} (v : A) (r : Result A BaseError) → Makes v r → IfErr r (λ fault. fault ≡ Memory alloc_error)
memory_alone v (Ok x) m = tt
memory_alone v (Err f) m = m

-- and what it answers is the value
pub made_value : {A : Type 0} (v x : A) (r : Result A BaseError) → Makes v r → r ≡ Ok x → x ≡ v
made_value v x r m e = subst (λ s. Makes v s) e m
