-- The whole number and the bytes of a value, by which values of one type are compared.
use Rattle.std.specs.Prelude.{◌≡◌, ℕ, ℤ, pos, List, [], refl}
use Rattle.std.proofs.Common.{◌∙◌, arith}
use Rattle.std.proofs.lemmas.Bool.Decides.{nat_tests}
use Rattle.std.specs.declared.cmp.Ordering.TheVariants.{Less, Equal, Greater}
use Rattle.std.specs.Ordering.{ordering_then}
use Rattle.std.specs.declared.cmp.Ordering.{Ordering}
use Rattle.std.specs.Ordering.{nat_cmp, int_cmp, on, then_cmp}
use Rattle.std.specs.Cmp.Lexicographic.{slice_cmp}
use Rattle.vortex_base.specs.declared.scalar_value.ScalarValue.{ScalarValue}
use Rattle.vortex_base.specs.Data.Values.{bytes_of, whole}

abbrev pub Code : Type 0
Code = ℤ × List ℕ

abbrev pub code_of : ScalarValue → Code
code_of v = (whole v, bytes_of v)

-- the codes of whole numbers, and of texts and bytes
abbrev pub signed_code : ℤ → Code
signed_code n = (n, [])

abbrev pub unsigned_code : ℕ → Code
unsigned_code n = (pos n, [])

abbrev pub bytes_code : List ℕ → Code
bytes_code bs = (pos 0, bs)

-- by the number and then by the bytes
abbrev pub code_cmp : Code → Code → Ordering
code_cmp = then_cmp (on (λ c. c.0) int_cmp) (on (λ c. c.1) (slice_cmp nat_cmp))

-- ---- keys that are whole numbers or bytes alone

then_nothing : (o : Ordering) → o ≡ ordering_then o Equal
then_nothing Less = refl
then_nothing Equal = refl
then_nothing Greater = refl

pub signed_ordered : (a b : ℤ) → int_cmp a b ≡ code_cmp (signed_code a) (signed_code b)
signed_ordered a b = then_nothing (int_cmp a b)

nat_as_int : (a b : ℕ) → nat_cmp a b ≡ int_cmp (pos a) (pos b)
nat_as_int a b = grind (arith, nat_tests)

pub unsigned_ordered : (a b : ℕ) → nat_cmp a b ≡ code_cmp (unsigned_code a) (unsigned_code b)
unsigned_ordered a b = nat_as_int a b ∙ then_nothing (int_cmp (pos a) (pos b))

pub bytes_ordered : (s t : List ℕ) → slice_cmp nat_cmp s t ≡ code_cmp (bytes_code s) (bytes_code t)
bytes_ordered s t = refl
