-- A tree is stored as the list of its nodes, the children before their parent.
use Rattle.std.specs.Prelude.{◌≡◌, ℕ, List, [], ◌∷◌, refl, ◌⊎◌}
use Rattle.std.proofs.Common.{◌∙◌, ap, inl, inr, zero, suc}
use Rattle.std.specs.Coded.{Coded, code_by, coded×, coded⊎, coded_ℕ, coded_list}
use Rattle.vortex_base.specs.declared.dtype.DType.{DType}
use Rattle.vortex_base.specs.contracts.dtype.DType as dtype
use Rattle.vortex_base.specs.declared.scalar.Scalar as scalar
use Rattle.vortex_base.specs.Data.Scalars.{Constant}
use Rattle.vortex_expr.specs.declared.scalar_fn.Operator.{Operator}
use Rattle.vortex_expr.specs.declared.scalar_fn.BetweenOptions.{BetweenOptions}
use Rattle.vortex_expr.specs.declared.like.LikeOptions.{LikeOptions}
use Rattle.vortex_base.specs.declared.aggregate.AggregateFnRef.{AggregateFnRef}
use Rattle.vortex_expr.specs.contracts.scalar_fn.Operator as operator
use Rattle.vortex_expr.specs.contracts.scalar_fn.BetweenOptions as between_options
use Rattle.vortex_expr.specs.contracts.like.LikeOptions as like_options
use Rattle.vortex_base.specs.contracts.aggregate.AggregateFnRef as aggregate
use Rattle.vortex_expr.specs.Trees.Tree.{Tree, Place, column, literal, binary, between, is_null, is_not_null, not, like, stat, row_count}

-- a node without its children; the number tells the nodes that hold nothing
abbrev Head : Type 0 → Type 0
Head C = C ⊎ (Constant ⊎ (Operator ⊎ (BetweenOptions ⊎ (LikeOptions ⊎ (AggregateFnRef ⊎ ℕ)))))

abbrev head_code : {C : Type 0} → Coded C → Coded (Head C)
head_code c =
    coded⊎ c (coded⊎ scalar.the_code (coded⊎ operator.the_row.coded (coded⊎ between_options.the_row.coded (coded⊎ like_options.the_row.coded (coded⊎ aggregate.the_row.coded coded_ℕ)))))

abbrev flatten : {C : Type 0} → Tree C → List (Head C) → List (Head C)
flatten (column c) rest = inl c ∷ rest
flatten (literal c) rest = inr (inl c) ∷ rest
flatten (binary o l r) rest = flatten l (flatten r (inr (inr (inl o)) ∷ rest))
flatten (between o x l u) rest = flatten x (flatten l (flatten u (inr (inr (inr (inl o))) ∷ rest)))
flatten (like o x p) rest = flatten x (flatten p (inr (inr (inr (inr (inl o)))) ∷ rest))
flatten (stat f x) rest = flatten x (inr (inr (inr (inr (inr (inl f))))) ∷ rest)
flatten (is_null x) rest = flatten x (inr (inr (inr (inr (inr (inr 0))))) ∷ rest)
flatten (is_not_null x) rest = flatten x (inr (inr (inr (inr (inr (inr 1))))) ∷ rest)
flatten (not x) rest = flatten x (inr (inr (inr (inr (inr (inr 2))))) ∷ rest)
flatten row_count rest = inr (inr (inr (inr (inr (inr 3))))) ∷ rest

-- one node on a stack of trees, whose top is its last child
abbrev put_plain : {C : Type 0} → ℕ → List (Tree C) → List (Tree C)
put_plain zero (x ∷ s) = is_null x ∷ s
put_plain (suc zero) (x ∷ s) = is_not_null x ∷ s
put_plain (suc (suc zero)) (x ∷ s) = not x ∷ s
put_plain n s = row_count ∷ s

abbrev put : {C : Type 0} → Head C → List (Tree C) → List (Tree C)
put (inl c) s = column c ∷ s
put (inr (inl c)) s = literal c ∷ s
put (inr (inr (inl o))) (r ∷ l ∷ s) = binary o l r ∷ s
put (inr (inr (inr (inl o)))) (u ∷ l ∷ x ∷ s) = between o x l u ∷ s
put (inr (inr (inr (inr (inl o))))) (p ∷ x ∷ s) = like o x p ∷ s
put (inr (inr (inr (inr (inr (inl f)))))) (x ∷ s) = stat f x ∷ s
put (inr (inr (inr (inr (inr (inr n)))))) s = put_plain n s
put h s = s

abbrev build : {C : Type 0} → List (Head C) → List (Tree C) → List (Tree C)
build [] s = s
build (h ∷ hs) s = build hs (put h s)

build-flatten : {C : Type 0} (e : Tree C) (rest : List (Head C)) (s : List (Tree C)) → build (flatten e rest) s ≡ build rest (e ∷ s)
build-flatten (column c) rest s = refl
build-flatten (literal c) rest s = refl
build-flatten (binary o l r) rest s = build-flatten l _ s ∙ build-flatten r _ (l ∷ s)
build-flatten (between o x l u) rest s = build-flatten x _ s ∙ build-flatten l _ (x ∷ s) ∙ build-flatten u _ (l ∷ x ∷ s)
build-flatten (is_null x) rest s = build-flatten x _ s
build-flatten (is_not_null x) rest s = build-flatten x _ s
build-flatten (not x) rest s = build-flatten x _ s
build-flatten (like o x p) rest s = build-flatten x _ s ∙ build-flatten p _ (x ∷ s)
build-flatten (stat f x) rest s = build-flatten x _ s
build-flatten row_count rest s = refl

abbrev top : {C : Type 0} → List (Tree C) → Tree C
top [] = row_count
top (e ∷ s) = e

pub top-build-flatten : {C : Type 0} (e : Tree C) → top (build (flatten e []) []) ≡ e
top-build-flatten e = ap top (build-flatten e [] [])

abbrev pub tree_code : {C : Type 0} → Coded C → Coded (Tree C)
tree_code {C} c = code_by (List (Head C)) (coded_list (head_code c)) (λ e. flatten e []) (λ hs. top (build hs [])) top-build-flatten

-- a place is stored as its number and its type
abbrev pub place_code : Coded Place
place_code =
    code_by (ℕ × DType) (coded× coded_ℕ dtype.the_row.coded) (λ p. (p.index, p.dtype)) (λ p. record { index = p.0; dtype = p.1 }) (λ _. refl)
