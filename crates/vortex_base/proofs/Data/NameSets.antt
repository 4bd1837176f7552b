-- The names of the columns so far, as a set.
use Rattle.std.proofs.Common.{◌≡◌, ℕ, ◌+◌, ◌<◌, Bool, true, false, not, ◌||◌, cond, List, [], ◌∷◌, ◌++◌, length, get_or, take, drop, refl, sym, ap, ◌∙◌}
use denote.Bor.{Bor}
use Rattle.std.specs.Prelude.{String, string_bytes, bytes_eq}
use Rattle.std.specs.Ordering.{nat_cmp}
use Rattle.std.specs.BTreeSet.{BTreeSet, UpdatesBy, contains_by}
use Rattle.std.specs.Cmp.Lexicographic.{slice_cmp}
use Rattle.std.specs.List.{list_any}
use Rattle.std.specs.declared.alloc.Global.{Global}
use Rattle.std.proofs.lemmas.List.{map-append, take-append-drop, take_more}
use Rattle.std.proofs.lemmas.Map.Text.{is_eq-slice_cmp}
use Rattle.vortex_base.proofs.Data.ScopeLemmas.{Columns, any_last, has_duplicate_front, has_duplicate_last}
use Rattle.vortex_base.specs.Data.Scopes.{Named, has_duplicate, is_named, named, named_columns}
use Rattle.vortex_base.specs.declared.dtype.DType.{DType}

abbrev pub Name : Type 0
Name = Bor (List ℕ)

abbrev pub has : BTreeSet Name → Name → Bool
has s q = contains_by (λ k. slice_cmp nat_cmp q.now k.now) s

abbrev pub HasNames : BTreeSet Name → List Named → Type 0
HasNames s cs = (q : Name) → has s q ≡ list_any (is_named q.now) cs

one_more : (cs : Columns) (i : ℕ) (x : String Global × DType) → i < length cs → x ≡ get_or cs i x → named_columns (take (i + 1) cs) ≡ named_columns (take i cs) ++ named x ∷ []
one_more cs i x inside is =
    ap named_columns (take_more cs i x inside ∙ ap (λ y. take i cs ++ y ∷ []) (sym is)) ∙ map-append named (take i cs) (x ∷ [])

-- the set with one more name has the names of one more column
pub has_one_more : (s n : BTreeSet Name) (key : Name) (cs : Columns) (i : ℕ) (x : String Global × DType) → i < length cs → x ≡ get_or cs i x → key.now ≡ string_bytes x.0
    → UpdatesBy (λ k q. slice_cmp nat_cmp k.now q.now) (λ q. slice_cmp nat_cmp key.now q.now) s n true → HasNames s (named_columns (take i cs)) → HasNames n (named_columns (take (i + 1) cs))
has_one_more s n key cs i x inside is named_so updates all q =
    updates.0 q ∙ ap (λ b. cond b true (has s q)) (is_eq-slice_cmp key.now q.now ∙ ap (λ bs. bytes_eq bs q.now) named_so)
    ∙ joined (bytes_eq (string_bytes x.0) q.now) (has s q) ∙ ap (λ b. bytes_eq (string_bytes x.0) q.now || b) (all q)
    ∙ sym (any_last q.now (named_columns (take i cs)) (named x)) ∙ ap (list_any (is_named q.now)) (sym (one_more cs i x inside is))
  where
    joined : (a b : Bool) → cond a true b ≡ (a || b)
    joined true b = refl
    joined false b = refl

-- a last name stands twice if the set has it
repeated : (s : BTreeSet Name) (key : Name) (cs : Columns) (i : ℕ) (x : String Global × DType) → i < length cs → x ≡ get_or cs i x → key.now ≡ string_bytes x.0
    → HasNames s (named_columns (take i cs)) → has_duplicate (named_columns (take (i + 1) cs)) ≡ (has s key || has_duplicate (named_columns (take i cs)))
repeated s key cs i x inside is named_so all =
    ap has_duplicate (one_more cs i x inside is) ∙ has_duplicate_last (named_columns (take i cs)) (named x)
    ∙ ap (λ b. b || has_duplicate (named_columns (take i cs))) (ap (λ bs. list_any (is_named bs) (named_columns (take i cs))) (sym named_so) ∙ sym (all key))

pub stays_distinct : (s : BTreeSet Name) (key : Name) (cs : Columns) (i : ℕ) (x : String Global × DType) (added : Bool) → i < length cs → x ≡ get_or cs i x → key.now ≡ string_bytes x.0
    → HasNames s (named_columns (take i cs)) → has_duplicate (named_columns (take i cs)) ≡ false → added ≡ not (has s key) → added ≡ true → has_duplicate (named_columns (take (i + 1) cs)) ≡ false
stays_distinct s key cs i x added inside is named_so all distinct was new =
    repeated s key cs i x inside is named_so all ∙ neither (has s key) (has_duplicate (named_columns (take i cs))) (sym was ∙ new) distinct
  where
    neither : (a b : Bool) → not a ≡ true → b ≡ false → (a || b) ≡ false
    neither true b h k = cc
    neither false b h k = k

pub is_repeated : (s : BTreeSet Name) (key : Name) (cs : Columns) (i : ℕ) (x : String Global × DType) (added : Bool) → i < length cs → x ≡ get_or cs i x → key.now ≡ string_bytes x.0
    → HasNames s (named_columns (take i cs)) → added ≡ not (has s key) → added ≡ false → true ≡ has_duplicate (named_columns cs)
is_repeated s key cs i x added inside is named_so all was new =
    sym (ap has_duplicate (whole cs) ∙ has_duplicate_front (named_columns (take (i + 1) cs)) (named_columns (drop (i + 1) cs))
    (repeated s key cs i x inside is named_so all ∙ either (has s key) (has_duplicate (named_columns (take i cs))) (sym was ∙ new)))
  where
    either : (a b : Bool) → not a ≡ false → (a || b) ≡ true
    either true b h = refl
    either false b h = cc

    whole : (ds : Columns) → named_columns ds ≡ named_columns (take (i + 1) ds) ++ named_columns (drop (i + 1) ds)
    whole ds = ap named_columns (sym (take-append-drop (i + 1) ds)) ∙ map-append named (take (i + 1) ds) (drop (i + 1) ds)
