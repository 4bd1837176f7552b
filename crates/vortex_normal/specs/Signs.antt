-- How the characters of a pattern end in percent signs.
use Rattle.std.specs.Prelude.{◌≡◌, ℕ, Bool, true, false, ◌&&◌, ◌==◌, List, [], ◌∷◌, ◌++◌}

abbrev pub are_signs : List ℕ → Bool
are_signs [] = true
are_signs (c ∷ cs) = (c == 37) && are_signs cs

abbrev pub ends_in_sign : List ℕ → Bool
ends_in_sign [] = false
ends_in_sign (c ∷ []) = c == 37
ends_in_sign (c ∷ d ∷ cs) = ends_in_sign (d ∷ cs)

-- percent signs stand at the end: what is before them, and with the first
pub record HasSigns (pattern front first : List ℕ) : Type 0 where
  pub more : List ℕ
  pub signs : are_signs more ≡ true
  pub first_sign : first ≡ front ++ 37 ∷ []
  pub whole : pattern ≡ first ++ more

-- and no other stands before them
pub record IsBeforeSigns (pattern front first : List ℕ) : Type 0 where
  pub split : HasSigns pattern front first
  pub no_sign_before : ends_in_sign front ≡ false
