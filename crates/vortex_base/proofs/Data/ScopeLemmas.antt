-- What the tests of a scope's columns tell of the scope.
use Rattle.std.specs.Prelude.{◌≡◌, ℕ, Bool, true, false, ◌||◌, List, [], ◌∷◌, ◌++◌, bytes_eq, Some, Ok, Err, String, refl, length, slice_get, option_map, ◌<◌}
use Rattle.std.specs.declared.alloc.Global.{Global}
use Rattle.std.specs.List.{list_any}
use Rattle.std.proofs.Common.{ap, arith, sym, ◌∙◌, get_or}
use Rattle.std.proofs.lemmas.List.{length-map}
use Rattle.std.proofs.lemmas.Option.{slice_get-map, slice_get_read}
use Rattle.vortex_base.specs.declared.dtype.DType.{DType}
use Rattle.vortex_base.specs.declared.error.BaseError.TheVariants.{TypeFault}
use Rattle.vortex_base.specs.Data.Exact.{exact_equivalence}
use Rattle.vortex_base.specs.Data.Scopes.{Named, named, named_columns, is_named, is_state_column, has_duplicate, is_empty, IsScope, bytes_eq_is_exact, scope_of}
use Rattle.vortex_base.proofs.Data.MapLemmas.{list_any-map}

abbrev pub Columns : Type 0
Columns = List (String Global × DType)

-- one step of the search for a repeated name; b tells whether the first name stands again
duplicate_step : (cs : Columns) (first : String Global × DType) (rest : Columns) (b : Bool) → cs ≡ first ∷ rest → b ≡ list_any (λ c. is_named (named first).0 (named c)) rest → has_duplicate (named_columns cs) ≡ (b || has_duplicate (named_columns rest))
duplicate_step cs first rest b e h = rw e (ap (λ k. k || has_duplicate (named_columns rest)) (list_any-map (is_named (named first).0) named rest ∙ sym h))

pub duplicate_here : (cs : Columns) (first : String Global × DType) (rest : Columns) (b : Bool) → cs ≡ first ∷ rest → b ≡ list_any (λ c. is_named (named first).0 (named c)) rest → b ≡ true → true ≡ has_duplicate (named_columns cs)
duplicate_here cs first rest b e h t = sym (duplicate_step cs first rest b e h ∙ ap (λ k. k || has_duplicate (named_columns rest)) t)

pub duplicate_later : (cs : Columns) (first : String Global × DType) (rest : Columns) (b : Bool) → cs ≡ first ∷ rest → b ≡ list_any (λ c. is_named (named first).0 (named c)) rest → b ≡ false → has_duplicate (named_columns rest) ≡ has_duplicate (named_columns cs)
duplicate_later cs first rest b e h t = sym (duplicate_step cs first rest b e h ∙ ap (λ k. k || has_duplicate (named_columns rest)) t)

or_false : (b : Bool) → (b || false) ≡ b
or_false true = refl
or_false false = refl

pub any_last : (name : List ℕ) (cs : List Named) (c : Named) → list_any (is_named name) (cs ++ c ∷ []) ≡ (bytes_eq c.0 name || list_any (is_named name) cs)
any_last name [] c = refl
any_last name (x ∷ cs) c = ap (λ b. is_named name x || b) (any_last name cs c) ∙ swapped (is_named name x) (bytes_eq c.0 name) (list_any (is_named name) cs)
  where
    swapped : (a b d : Bool) → (a || (b || d)) ≡ (b || (a || d))
    swapped true true d = refl
    swapped true false d = refl
    swapped false b d = refl

bytes_eq_turned : (xs ys : List ℕ) → bytes_eq xs ys ≡ bytes_eq ys xs
bytes_eq_turned = (exact_equivalence bytes_eq bytes_eq_is_exact).symm

-- a last name stands twice if it is one of those before it
pub has_duplicate_last : (cs : List Named) (c : Named) → has_duplicate (cs ++ c ∷ []) ≡ (list_any (is_named c.0) cs || has_duplicate cs)
has_duplicate_last [] c = refl
has_duplicate_last (x ∷ cs) c =
    ap (λ b. b || has_duplicate (cs ++ c ∷ [])) (any_last x.0 cs c) ∙ ap (λ b. (bytes_eq c.0 x.0 || list_any (is_named x.0) cs) || b) (has_duplicate_last cs c)
    ∙ ap (λ e. (e || list_any (is_named x.0) cs) || (list_any (is_named c.0) cs || has_duplicate cs)) (bytes_eq_turned c.0 x.0)
    ∙ ordered (bytes_eq x.0 c.0) (list_any (is_named x.0) cs) (list_any (is_named c.0) cs) (has_duplicate cs)
  where
    ordered : (e a b d : Bool) → ((e || a) || (b || d)) ≡ ((e || b) || (a || d))
    ordered true a b d = refl
    ordered false true true d = refl
    ordered false true false d = refl
    ordered false false true d = refl
    ordered false false false d = refl

-- a name that stands twice at the beginning stands twice
pub has_duplicate_front : (cs ds : List Named) → has_duplicate cs ≡ true → has_duplicate (cs ++ ds) ≡ true
has_duplicate_front [] ds h = cc
has_duplicate_front (c ∷ cs) ds h = go (list_any (is_named c.0) cs) (has_duplicate cs) h (any_front cs) (has_duplicate_front cs ds)
  where
    any_front : (xs : List Named) → list_any (is_named c.0) xs ≡ true → list_any (is_named c.0) (xs ++ ds) ≡ true
    any_front [] k = cc
    any_front (x ∷ xs) k = elim (is_named c.0 x) as (λ b. (b || list_any (is_named c.0) xs) ≡ true → (b || list_any (is_named c.0) (xs ++ ds)) ≡ true) [ true ↦ λ _. refl | false ↦ λ l. any_front xs l ] k

    go : (a b : Bool) → (a || b) ≡ true → (a ≡ true → list_any (is_named c.0) (cs ++ ds) ≡ true) → (b ≡ true → has_duplicate (cs ++ ds) ≡ true)
        → (list_any (is_named c.0) (cs ++ ds) || has_duplicate (cs ++ ds)) ≡ true
    go true b k f g = ap (λ x. x || has_duplicate (cs ++ ds)) (f refl)
    go false b k f g = ap (λ x. list_any (is_named c.0) (cs ++ ds) || x) (g k) ∙ or_true (list_any (is_named c.0) (cs ++ ds))
      where
        or_true : (b : Bool) → (b || true) ≡ true
        or_true true = refl
        or_true false = refl

pub none_is_empty : (cs : Columns) → length cs ≡ 0 → true ≡ is_empty (named_columns cs)
none_is_empty [] h = refl
none_is_empty (x ∷ cs) h = absurd (omega arith)

pub some_is_not_empty : (cs : Columns) (first : String Global × DType) (rest : Columns) → cs ≡ first ∷ rest → false ≡ is_empty (named_columns cs)
some_is_not_empty cs first rest e = rw e refl

-- columns with none of the three faults make a scope
pub faultless_scope : (cs : Columns) (a b c : Bool) → a ≡ is_empty (named_columns cs) → b ≡ has_duplicate (named_columns cs) → c ≡ list_any (λ x. is_state_column (named x)) cs → a ≡ false → b ≡ false → c ≡ false → (scope_of (named_columns cs) ≡ Ok (named_columns cs)) × IsScope (named_columns cs)
faultless_scope cs a b c p q r u v w =
    let x : is_empty (named_columns cs) ≡ false = sym p ∙ u in
    let y : has_duplicate (named_columns cs) ≡ false = sym q ∙ v in
    let z : list_any is_state_column (named_columns cs) ≡ false = list_any-map is_state_column named cs ∙ sym r ∙ w in
    (rw (x, y, z) refl, rw (x, y, z) refl)

-- columns of which one has a type that no column may have, and no other fault
pub state_fault : (cs : Columns) (a b c : Bool) → a ≡ is_empty (named_columns cs) → b ≡ has_duplicate (named_columns cs) → c ≡ list_any (λ x. is_state_column (named x)) cs → a ≡ false → b ≡ false → c ≡ true → Err TypeFault ≡ scope_of (named_columns cs)
state_fault cs a b c p q r u v w =
    let x : is_empty (named_columns cs) ≡ false = sym p ∙ u in
    let y : has_duplicate (named_columns cs) ≡ false = sym q ∙ v in
    let z : list_any is_state_column (named_columns cs) ≡ true = list_any-map is_state_column named cs ∙ sym r ∙ w in
    rw (x, y, z) refl

-- a column that was read stands at its place
pub column_at : (cs : Columns) (i : ℕ) (x : String Global × DType) → i < length (named_columns cs) → x ≡ get_or cs i x → slice_get (named_columns cs) i ≡ Some (named x)
column_at cs i x h e = slice_get-map {B = Named} named cs i ∙ ap (option_map named) (slice_get_read cs (length cs) i x refl (rw (length-map cs named) at h) e)
