-- What stands at a place of a column that keeps its values beside which of them are there.
use Rattle.std.proofs.Common.{◌≡◌, ℕ, ◌+◌, ◌<◌, Bool, true, false, List, [], ◌∷◌, Option, Some, None, arith, get_or, length, map, replicate, refl, sym, ap, ◌∙◌, zero, suc, ◌⊎◌, inl, inr}
use Rattle.std.specs.Prelude.{◌&&◌, is_none, not, option_map, slice_get}
use Rattle.std.specs.declared.cmp.Ordering.{Ordering}
use Rattle.vortex_base.specs.Data.VarBinArray.{blob_at}
use Rattle.vortex_base.specs.Data.Columns.{value_at}
use Rattle.vortex_base.specs.Data.PrimitiveArray.{optional, optionals}
use Rattle.vortex_base.specs.Data.Values.{value_cmp}
use Rattle.vortex_expr.specs.Meanings.Meaning.{holds}
use Rattle.vortex_base.specs.declared.scalar_value.ScalarValue.{ScalarValue}
use Rattle.vortex_expr.specs.declared.scalar_fn.Operator.{Operator}
use Rattle.vortex_expr.specs.declared.scalar_fn.Operator.TheVariants as operator
use Rattle.vortex_prune.proofs.ZoneMaps.ZoneMarks.{marked-same}
use Rattle.vortex_prune.specs.Scanning.Leaves.{compares, compares_at, passes, passes_at}
use Rattle.vortex_prune.specs.Scanning.Marks.{marked}
use Rattle.vortex_prune.specs.declared.scan.leaf.Test.{Test}
use Rattle.vortex_prune.specs.declared.scan.leaf.Test.TheVariants.{Null, NotNull}

-- an operator holds of an order, if there is one
abbrev pub holds_if : Operator → Option Ordering → Bool
holds_if o None = false
holds_if o (Some r) = holds o r

-- the value at a place, if it is there
pub value_there : {X : Type 0} (f : X → ScalarValue) (xs : List X) (ts : List Bool) (i : ℕ) (d : X) (b : Bool) → length xs ≡ length ts → i < length ts
    → value_at (slice_get (map (option_map f) (optionals xs ts)) i) ≡ option_map f (optional (get_or ts i b) (get_or xs i d))
value_there f xs [] i d b h low = absurd (omega arith)
value_there f [] (t ∷ ts) i d b h low = absurd (omega arith)
value_there f (x ∷ xs) (t ∷ ts) zero d b h low = refl
value_there f (x ∷ xs) (t ∷ ts) (suc i) d b h low = value_there f xs ts i d b (omega arith) (omega arith)

-- the comparison of one that may be there
compares_there : {X : Type 0} (f : X → ScalarValue) (o : Operator) (v : ScalarValue) (t : Bool) (x : X) → compares o (option_map f (optional t x)) (Some v) ≡ (t && holds o (value_cmp (f x) v))
compares_there f o v true x = refl
compares_there f o v false x = refl

pub so_there : {X : Type 0} (f : X → ScalarValue) (o : Operator) (v : ScalarValue) (xs : List X) (ts : List Bool) (i : ℕ) (d : X) (b : Bool) → length xs ≡ length ts → i < length ts
    → compares_at o v (map (option_map f) (optionals xs ts)) i ≡ (get_or ts i b && holds o (value_cmp (f (get_or xs i d)) v))
so_there f o v xs ts i d b h low = ap (λ x. compares o x (Some v)) (value_there f xs ts i d b h low) ∙ compares_there f o v (get_or ts i b) (get_or xs i d)

-- the string at a place, as a value
pub strings_at : (f : List ℕ → ScalarValue) (xs : List (Option (List ℕ))) (i : ℕ) → value_at (slice_get (map (option_map f) xs) i) ≡ option_map f (blob_at (slice_get xs i))
strings_at f [] i = refl
strings_at f (x ∷ xs) zero = refl
strings_at f (x ∷ xs) (suc i) = strings_at f xs i

-- the comparison of one that may be there, by how it compares
by_order : (f : List ℕ → ScalarValue) (o : Operator) (v : ScalarValue) (x : Option (List ℕ)) → compares o (option_map f x) (Some v) ≡ holds_if o (option_map (λ bytes. value_cmp (f bytes) v) x)
by_order f o v None = refl
by_order f o v (Some x) = refl

pub so_lent : (f : List ℕ → ScalarValue) (o : Operator) (v : ScalarValue) (xs : List (Option (List ℕ))) (i : ℕ) (r : Option Ordering) → r ≡ option_map (λ bytes. value_cmp (f bytes) v) (blob_at (slice_get xs i))
    → compares_at o v (map (option_map f) xs) i ≡ holds_if o r
so_lent f o v xs i r h = ap (λ x. compares o x (Some v)) (strings_at f xs i) ∙ by_order f o v (blob_at (slice_get xs i)) ∙ ap (holds_if o) (sym h)

-- none stays at a null that doesn't pass, and each at one that does
null_at : (n i : ℕ) → value_at (slice_get (replicate n None) i) ≡ None
null_at zero i = refl
null_at (suc n) zero = refl
null_at (suc n) (suc i) = null_at n i

none_stays : (b : Bool) → false ≡ (b && false)
none_stays true = refl
none_stays false = refl

each_stays : (b : Bool) → b ≡ (b && true)
each_stays true = refl
each_stays false = refl

pub marked_by_none : (t : ℕ → Bool) → ((i : ℕ) → t i ≡ false) → (i : ℕ) (bs : List Bool) → replicate (length bs) false ≡ marked t i bs
marked_by_none t h i [] = refl
marked_by_none t h i (b ∷ bs) = ap (λ x. x ∷ replicate (length bs) false) (none_stays b ∙ ap (λ x. b && x) (sym (h i))) ∙ ap (λ l. (b && t i) ∷ l) (marked_by_none t h (i + 1) bs)

pub marked_by_each : (t : ℕ → Bool) → ((i : ℕ) → t i ≡ true) → (i : ℕ) (bs : List Bool) → bs ≡ marked t i bs
marked_by_each t h i [] = refl
marked_by_each t h i (b ∷ bs) = ap (λ x. x ∷ bs) (each_stays b ∙ ap (λ x. b && x) (sym (h i))) ∙ ap (λ l. (b && t i) ∷ l) (marked_by_each t h (i + 1) bs)

pub marked_at_no_nulls : (t : Test) (n i : ℕ) (bs : List Bool) → passes t None ≡ false → replicate (length bs) false ≡ marked (passes_at t (replicate n None)) i bs
marked_at_no_nulls t n i bs h = marked_by_none (passes_at t (replicate n None)) (λ k. ap (passes t) (null_at n k) ∙ h) i bs

pub marked_at_nulls : (t : Test) (n i : ℕ) (bs : List Bool) → passes t None ≡ true → bs ≡ marked (passes_at t (replicate n None)) i bs
marked_at_nulls t n i bs h = marked_by_each (passes_at t (replicate n None)) (λ k. ap (passes t) (null_at n k) ∙ h) i bs

-- by nulls, and by values that are there
null_there : {X : Type 0} (f : X → ScalarValue) (xs : List X) (ts : List Bool) (i : ℕ) → length xs ≡ length ts → not (get_or ts i false) ≡ is_none (value_at (slice_get (map (option_map f) (optionals xs ts)) i))
null_there f [] [] i h = refl
null_there f [] (t ∷ ts) i h = absurd (omega arith)
null_there f (x ∷ xs) [] i h = absurd (omega arith)
null_there f (x ∷ xs) (true ∷ ts) zero h = refl
null_there f (x ∷ xs) (false ∷ ts) zero h = refl
null_there f (x ∷ xs) (t ∷ ts) (suc i) h = null_there f xs ts i (omega arith)

not_not : (b : Bool) → b ≡ not (not b)
not_not true = refl
not_not false = refl

pub marked_nulls : {X : Type 0} (f : X → ScalarValue) (xs : List X) (ts : List Bool) (ns : List (Option X)) (vs : List (Option ScalarValue)) (i : ℕ) (bs : List Bool) → vs ≡ map (option_map f) ns → ns ≡ optionals xs ts → length xs ≡ length ts
    → marked (λ k. not (get_or ts k false)) i bs ≡ marked (passes_at Null vs) i bs
marked_nulls f xs ts ns vs i bs e is h =
    marked-same (λ k. not (get_or ts k false)) (passes_at Null vs) (λ k. null_there f xs ts k h ∙ ap (λ l. is_none (value_at (slice_get l k))) (sym (e ∙ ap (map (option_map f)) is))) i bs

pub marked_there : {X : Type 0} (f : X → ScalarValue) (xs : List X) (ts : List Bool) (ns : List (Option X)) (vs : List (Option ScalarValue)) (i : ℕ) (bs : List Bool) → vs ≡ map (option_map f) ns → ns ≡ optionals xs ts → length xs ≡ length ts
    → marked (λ k. get_or ts k false) i bs ≡ marked (passes_at NotNull vs) i bs
marked_there f xs ts ns vs i bs e is h =
    marked-same (λ k. get_or ts k false) (passes_at NotNull vs) (λ k. not_not (get_or ts k false) ∙ ap not (null_there f xs ts k h ∙ ap (λ l. is_none (value_at (slice_get l k))) (sym (e ∙ ap (map (option_map f)) is)))) i bs

-- AND and OR compare nothing
by_and : (v : ScalarValue) (x : Option ScalarValue) → compares operator.And x (Some v) ≡ false
by_and v None = refl
by_and v (Some x) = refl

by_or : (v : ScalarValue) (x : Option ScalarValue) → compares operator.Or x (Some v) ≡ false
by_or v None = refl
by_or v (Some x) = refl

compares_nothing : (o : Operator) (v : ScalarValue) (x : Option ScalarValue) → (o ≡ operator.And) ⊎ (o ≡ operator.Or) → compares o x (Some v) ≡ false
compares_nothing o v x (inl h) = ap (λ p. compares p x (Some v)) h ∙ by_and v x
compares_nothing o v x (inr h) = ap (λ p. compares p x (Some v)) h ∙ by_or v x

pub marked_by_no_comparison : (o : Operator) (v : ScalarValue) (xs : List (Option ScalarValue)) (i : ℕ) (bs : List Bool) → (o ≡ operator.And) ⊎ (o ≡ operator.Or) → replicate (length bs) false ≡ marked (compares_at o v xs) i bs
marked_by_no_comparison o v xs i bs h = marked_by_none (compares_at o v xs) (λ k. compares_nothing o v (value_at (slice_get xs k)) h) i bs
