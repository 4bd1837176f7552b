-- The highest byte first: such bytes compare as the numbers.
use Rattle.std.proofs.Common.{◌≡◌, ℕ, zero, suc, ◌+◌, ◌*◌, ◌/◌, ◌%◌, ◌^◌, ◌<◌, refl, sym, ◌∙◌, ap, arith, FitsSigned}
use Rattle.std.specs.Prelude.{ℤ, pos, negsuc, ◌<ℤ◌}
use Rattle.std.specs.Int.{w128, byte_at, bytes_high_first}
use Rattle.std.specs.Ordering.{nat_cmp, int_cmp, ordering_then, MatchOrdering}
use Rattle.std.specs.Cmp.Lexicographic.{slice_cmp}
use Rattle.std.specs.declared.cmp.Ordering.{Ordering}
use Rattle.std.specs.declared.cmp.Ordering.TheVariants.{Less, Equal, Greater}
use Rattle.std.proofs.lemmas.Cmp.{ranked}
use Rattle.std.proofs.lemmas.Int.{ints}
use Rattle.std.proofs.Math.Arith.{mod-mul}
use Rattle.std.proofs.Math.Nat.{mod-lt, mod-eq_of_lt, one-le-pow, mul-le-mul_right, pow-succ', div-one}
use Rattle.vortex_logical.specs.Sortable.{raised, sortable_bytes}
use Rattle.vortex_logical.proofs.Orders.{is_less, is_greater, is_equal, cases_int}

-- ---- the order of naturals from facts

nat_less_by : (o : Ordering) (x y : ℕ) → MatchOrdering o (x < y) (x ≡ y) (y < x) → x < y → o ≡ Less
nat_less_by Less x y h k = refl
nat_less_by Equal x y h k = absurd (omega arith)
nat_less_by Greater x y h k = absurd (omega arith)

nat_greater_by : (o : Ordering) (x y : ℕ) → MatchOrdering o (x < y) (x ≡ y) (y < x) → y < x → o ≡ Greater
nat_greater_by Less x y h k = absurd (omega arith)
nat_greater_by Equal x y h k = absurd (omega arith)
nat_greater_by Greater x y h k = refl

pub nat_is_less : (x y : ℕ) → x < y → nat_cmp x y ≡ Less
nat_is_less x y h = nat_less_by (nat_cmp x y) x y (ranked x y (nat_cmp x y) refl) h

pub nat_is_greater : (x y : ℕ) → y < x → nat_cmp x y ≡ Greater
nat_is_greater x y h = nat_greater_by (nat_cmp x y) x y (ranked x y (nat_cmp x y) refl) h

nat_equal_by : (o : Ordering) (x y : ℕ) → MatchOrdering o (x < y) (x ≡ y) (y < x) → x ≡ y → o ≡ Equal
nat_equal_by Less x y h k = absurd (omega arith)
nat_equal_by Equal x y h k = refl
nat_equal_by Greater x y h k = absurd (omega arith)

pub nat_is_equal : (x y : ℕ) → x ≡ y → nat_cmp x y ≡ Equal
nat_is_equal x y h = nat_equal_by (nat_cmp x y) x y (ranked x y (nat_cmp x y) refl) h

nat_by_order : {P : Type 0} (o : Ordering) (x y : ℕ) → MatchOrdering o (x < y) (x ≡ y) (y < x) → (x < y → P) → (x ≡ y → P) → (y < x → P) → P
nat_by_order Less x y h l e g = l h
nat_by_order Equal x y h l e g = e h
nat_by_order Greater x y h l e g = g h

pub cases_nat : {P : Type 0} (x y : ℕ) → (x < y → P) → (x ≡ y → P) → (y < x → P) → P
cases_nat x y l e g = nat_by_order (nat_cmp x y) x y (ranked x y (nat_cmp x y) refl) l e g

-- ---- two digits

shifted_cmp : (a b u v : ℕ) → a ≡ b → nat_cmp u v ≡ nat_cmp (a + u) (b + v)
shifted_cmp a b u v h =
    cases_nat u v
    (λ l. nat_is_less u v l ∙ sym (nat_is_less (a + u) (b + v) (omega arith)))
    (λ e. nat_is_equal u v e ∙ sym (nat_is_equal (a + u) (b + v) (omega arith)))
    (λ g. nat_is_greater u v g ∙ sym (nat_is_greater (a + u) (b + v) (omega arith)))

then_by : (m x y u v : ℕ) → u < m → v < m → (o : Ordering) → nat_cmp x y ≡ o → MatchOrdering o (x < y) (x ≡ y) (y < x) → ordering_then o (nat_cmp u v) ≡ nat_cmp (x * m + u) (y * m + v)
then_by m x y u v p q Less e h = let l = mul-le-mul_right {m = suc x} {n = y} m h in sym (nat_is_less (x * m + u) (y * m + v) (omega arith))
then_by m x y u v p q Equal e h = shifted_cmp (x * m) (y * m) u v (ap (λ (z : ℕ). z * m) h)
then_by m x y u v p q Greater e h = let l = mul-le-mul_right {m = suc y} {n = x} m h in sym (nat_is_greater (x * m + u) (y * m + v) (omega arith))

digits_cmp : (m x y u v : ℕ) → u < m → v < m → ordering_then (nat_cmp x y) (nat_cmp u v) ≡ nat_cmp (x * m + u) (y * m + v)
digits_cmp m x y u v p q = then_by m x y u v p q (nat_cmp x y) refl (ranked x y (nat_cmp x y) refl)

power_pos : (k : ℕ) → 0 < 256 ^ k
power_pos k = let h = one-le-pow k 256 (omega arith) in omega arith

byte_is : (k n : ℕ) → byte_at k n ≡ n / 256 ^ k % 256
byte_is zero n = ap (λ (x : ℕ). x % 256) (sym (div-one n))
byte_is (suc k) n = refl

split : (k n : ℕ) → n % 256 ^ suc k ≡ byte_at k n * 256 ^ k + n % 256 ^ k
split k n = ap (λ (x : ℕ). n % x) (pow-succ' 256 k) ∙ mod-mul n (omega arith) (power_pos k) ∙ ap (λ (x : ℕ). x * 256 ^ k + n % 256 ^ k) (sym (byte_is k n))

high_first_cmp : (k a b : ℕ) → slice_cmp nat_cmp (bytes_high_first k a) (bytes_high_first k b) ≡ nat_cmp (a % 256 ^ k) (b % 256 ^ k)
high_first_cmp zero a b = sym (nat_is_equal (a % 1) (b % 1) (omega arith))
high_first_cmp (suc k) a b =
    ap (ordering_then (nat_cmp (byte_at k a) (byte_at k b))) (high_first_cmp k a b)
    ∙ digits_cmp (256 ^ k) (byte_at k a) (byte_at k b) (a % 256 ^ k) (b % 256 ^ k) (mod-lt a (power_pos k)) (mod-lt b (power_pos k))
    ∙ ap (λ (x : ℕ). nat_cmp x (byte_at k b * 256 ^ k + b % 256 ^ k)) (sym (split k a))
    ∙ ap (nat_cmp (a % 256 ^ suc k)) (sym (split k b))

-- ---- the numbers from 0

raised_short : (z : ℤ) → FitsSigned w128 z → raised z < 2 ^ 128
raised_short (pos n) h = let f = h.sfits in omega arith
raised_short (negsuc n) h = omega arith

raised_less : (a b : ℤ) → FitsSigned w128 a → a <ℤ b → raised a < raised b
raised_less (pos m) (pos n) f h = omega (arith, ints)
raised_less (pos m) (negsuc n) f h = absurd (omega (arith, ints))
raised_less (negsuc m) (pos n) f h = omega arith
raised_less (negsuc m) (negsuc n) f h = let g : m < 2 ^ 127 = f.sfits in omega (arith, ints)

raised_cmp : (a b : ℤ) → FitsSigned w128 a → FitsSigned w128 b → nat_cmp (raised a) (raised b) ≡ int_cmp a b
raised_cmp a b h k =
    cases_int a b
    (λ l. nat_is_less (raised a) (raised b) (raised_less a b h l) ∙ sym (is_less a b l))
    (λ e. nat_is_equal (raised a) (raised b) (ap raised e) ∙ sym (is_equal a b e))
    (λ g. nat_is_greater (raised a) (raised b) (raised_less b a k g) ∙ sym (is_greater a b g))

pub bytes_cmp : (a b : ℤ) → FitsSigned w128 a → FitsSigned w128 b → slice_cmp nat_cmp (sortable_bytes a) (sortable_bytes b) ≡ int_cmp a b
bytes_cmp a b h k =
    high_first_cmp 16 (raised a) (raised b)
    ∙ ap (λ (x : ℕ). nat_cmp x (raised b % 256 ^ 16)) (mod-eq_of_lt (raised_short a h))
    ∙ ap (nat_cmp (raised a)) (mod-eq_of_lt (raised_short b k))
    ∙ raised_cmp a b h k
