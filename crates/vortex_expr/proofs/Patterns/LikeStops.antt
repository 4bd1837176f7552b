-- What the stop of the items before the first run says of the whole match, and of a match at some end.
use Rattle.std.proofs.Common.{◌≡◌, ◌==◌, ℕ, ◌<◌, ◌≤◌, Bool, true, false, ◌&&◌, ◌||◌, List, [], ◌∷◌, length, refl, sym, ◌∙◌, ap, arith, cond}
use Rattle.vortex_expr.specs.declared.like.Item.{Item}
use Rattle.vortex_expr.specs.declared.like.Item.TheVariants.{Char, AnyChar, AnyRun}
use Rattle.vortex_expr.specs.Patterns.Like.{like, some_end}
use Rattle.vortex_expr.specs.Patterns.LikeSearch.{Stop, Mismatch, Whole, BeforeRun, stop}

-- what a stop says of the match
abbrev pub outcome : Stop → Bool
outcome Mismatch = false
outcome Whole = true
outcome (BeforeRun is cs) = some_end (like is) cs

pub like-stop : (is : List Item) (cs : List ℕ) → like is cs ≡ outcome (stop is cs)
like-stop [] [] = refl
like-stop [] (c ∷ cs) = refl
like-stop (Char d ∷ is) [] = refl
like-stop (Char d ∷ is) (c ∷ cs) =
    elim (d == c) as (λ b. (b && like is cs) ≡ outcome (cond b (stop is cs) Mismatch)) [ true ↦ like-stop is cs | false ↦ refl ]
like-stop (AnyChar ∷ is) [] = refl
like-stop (AnyChar ∷ is) (c ∷ cs) = like-stop is cs
like-stop (AnyRun ∷ is) cs = refl

-- a test that passes at the whole text passes at some end
some_end-whole : (f : List ℕ → Bool) (cs : List ℕ) → f cs ≡ true → some_end f cs ≡ true
some_end-whole f [] h = h
some_end-whole f (c ∷ cs) h = ap (λ b. b || some_end f cs) h

or-right : (a b : Bool) → b ≡ true → (a || b) ≡ true
or-right true b h = refl
or-right false b h = h

-- either side of an or that holds gives the conclusion
or-cases : (a b c : Bool) → (a || b) ≡ true → (a ≡ true → c ≡ true) → (b ≡ true → c ≡ true) → c ≡ true
or-cases true b c h f g = f refl
or-cases false b c h f g = g h

some_end-tail : (f : List ℕ → Bool) (c : ℕ) (cs : List ℕ) → some_end f cs ≡ true → some_end f (c ∷ cs) ≡ true
some_end-tail f c cs h = or-right (f (c ∷ cs)) (some_end f cs) h

and-right : (a b : Bool) → (a && b) ≡ true → b ≡ true
and-right true b h = h
and-right false b h = cc

-- what matches one character and then the rest at some end has the rest at some end
some_end-char : (d : ℕ) (is : List Item) (cs : List ℕ) → some_end (like (Char d ∷ is)) cs ≡ true → some_end (like is) cs ≡ true
some_end-char d is [] h = cc
some_end-char d is (c ∷ cs) h =
    or-cases _ _ _ h
    (λ m. some_end-tail (like is) c cs (some_end-whole (like is) cs (and-right _ _ m)))
    (λ m. some_end-tail (like is) c cs (some_end-char d is cs m))

some_end-any_char : (is : List Item) (cs : List ℕ) → some_end (like (AnyChar ∷ is)) cs ≡ true → some_end (like is) cs ≡ true
some_end-any_char is [] h = cc
some_end-any_char is (c ∷ cs) h =
    or-cases _ _ _ h
    (λ m. some_end-tail (like is) c cs (some_end-whole (like is) cs m))
    (λ m. some_end-tail (like is) c cs (some_end-any_char is cs m))

-- an end of an end is an end
some_end-some_end : (f : List ℕ → Bool) (cs : List ℕ) → some_end (some_end f) cs ≡ true → some_end f cs ≡ true
some_end-some_end f [] h = h
some_end-some_end f (c ∷ cs) h =
    or-cases _ _ _ h (λ m. m) (λ m. some_end-tail f c cs (some_end-some_end f cs m))

-- a character that matches leaves the stop of the rest
past_match : (b : Bool) (s : Stop) (js : List Item) (ds : List ℕ) → cond b s Mismatch ≡ BeforeRun js ds → s ≡ BeforeRun js ds
past_match true s js ds e = e
past_match false s js ds e = cc

-- where the items match at some end, those after the first run match at some end of what this attempt has left
some_end-before_run : (is : List Item) (cs : List ℕ) (js : List Item) (ds : List ℕ) → stop is cs ≡ BeforeRun js ds → some_end (like is) cs ≡ true → some_end (like js) ds ≡ true
some_end-before_run [] [] js ds e h = cc
some_end-before_run [] (c ∷ cs) js ds e h = cc
some_end-before_run (Char d ∷ is) [] js ds e h = cc
some_end-before_run (Char d ∷ is) (c ∷ cs) js ds e h =
    some_end-before_run is cs js ds (past_match (d == c) _ _ _ e)
    (or-cases _ _ _ h (λ m. some_end-whole (like is) cs (and-right _ _ m)) (some_end-char d is cs))
some_end-before_run (AnyChar ∷ is) [] js ds e h = cc
some_end-before_run (AnyChar ∷ is) (c ∷ cs) js ds e h =
    some_end-before_run is cs js ds e (or-cases _ _ _ h (some_end-whole (like is) cs) (some_end-any_char is cs))
some_end-before_run (AnyRun ∷ is) cs js ds e h =
    let f : some_end (like is) cs ≡ true = some_end-some_end (like is) cs h in
    let p : is ≡ js = cc in
    let q : cs ≡ ds = cc in
    sym (λ k. some_end (like (p k)) (q k)) ∙ f

same_truth : (a b : Bool) → (a ≡ true → b ≡ true) → (b ≡ true → a ≡ true) → a ≡ b
same_truth true b f g = sym (f refl)
same_truth false true f g = g refl
same_truth false false f g = refl

-- at a run the attempts before it need not be made again
pub some_end-at_run : (is js : List Item) (cs ds : List ℕ) → stop is cs ≡ BeforeRun js ds → some_end (like is) cs ≡ some_end (like js) ds
some_end-at_run is js cs ds e =
    same_truth _ _ (some_end-before_run is cs js ds e)
    (λ h. some_end-whole (like is) cs (like-stop is cs ∙ ap outcome e ∙ h))

pub some_end-at_whole : (is : List Item) (cs : List ℕ) → stop is cs ≡ Whole → some_end (like is) cs ≡ true
some_end-at_whole is cs e = some_end-whole (like is) cs (like-stop is cs ∙ ap outcome e)

-- after a mismatch the next end is tried
pub some_end-at_mismatch : (is : List Item) (c : ℕ) (cs : List ℕ) → stop is (c ∷ cs) ≡ Mismatch → some_end (like is) (c ∷ cs) ≡ some_end (like is) cs
some_end-at_mismatch is c cs e = ap (λ b. b || some_end (like is) cs) (like-stop is (c ∷ cs) ∙ ap outcome e)

pub some_end-at_end : (is : List Item) → stop is [] ≡ Mismatch → some_end (like is) [] ≡ false
some_end-at_end is e = like-stop is [] ∙ ap outcome e

-- at a run there are fewer items left, and no more characters
pub length-at_run : (is js : List Item) (cs ds : List ℕ) → stop is cs ≡ BeforeRun js ds → (length js < length is) × (length ds ≤ length cs)
length-at_run [] js [] ds e = cc
length-at_run [] js (c ∷ cs) ds e = cc
length-at_run (Char d ∷ is) js [] ds e = cc
length-at_run (Char d ∷ is) js (c ∷ cs) ds e =
    let w = length-at_run is js cs ds (past_match (d == c) _ _ _ e) in (omega arith, omega arith)
length-at_run (AnyChar ∷ is) js [] ds e = cc
length-at_run (AnyChar ∷ is) js (c ∷ cs) ds e =
    let w = length-at_run is js cs ds e in (omega arith, omega arith)
length-at_run (AnyRun ∷ is) js cs ds e =
    let p : is ≡ js = cc in
    let q : cs ≡ ds = cc in
    let m : length is ≡ length js = ap length p in
    let n : length cs ≡ length ds = ap length q in
    (omega arith, omega arith)
