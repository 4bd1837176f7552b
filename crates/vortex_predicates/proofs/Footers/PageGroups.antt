-- The pages of row groups, as they are read.
use Rattle.std.proofs.Common.{◌≡◌, ℕ, zero, suc, Bool, true, false, cond, eqb, List, [], ◌∷◌, length, Option, Some, None, Result, Ok, Err, refl, sym, ap, subst, ◌∙◌, arith}
use Rattle.std.specs.Prelude.{slice_get}
use Rattle.std.proofs.lemmas.Bool.{eq-eqb, eqb-true, lt-ltb}
use Rattle.vortex_base.specs.Data.Exact.{both_hold}
use Rattle.vortex_base.specs.declared.types.Nullability.{Nullability}
use Rattle.vortex_parquet.specs.declared.columns.Leaf.{Leaf}
use Rattle.vortex_parquet.specs.declared.fault.Fault.{Fault}
use Rattle.vortex_parquet.specs.declared.fault.Fault.TheVariants as fault
use Rattle.vortex_parquet.specs.declared.fault.ReadError.{ReadError}
use Rattle.vortex_parquet.specs.declared.fault.ReadError.TheVariants as errors
use Rattle.vortex_parquet.specs.Fields.{many}
use Rattle.vortex_parquet.specs.GroupPages.{TailData, bytes_at, indexed, leaf_pages, pages_by}
use Rattle.vortex_parquet.specs.PageIndex.{column_index_of, offset_index_of, places_of}
use Rattle.vortex_parquet.specs.Pages.{PageData, one_page, or_nothing, pages_of}
use Rattle.vortex_parquet.specs.Reading.{◌>>=◌, Fails, Read}
use Rattle.vortex_parquet.specs.Records.{FileData, RowGroupData, StatisticsData, chunk_of, is_number, row_group_of, row_groups_of}
use Rattle.vortex_parquet.specs.Stats.{all_of, or_false, statistics_by}
use Rattle.vortex_parquet.specs.Stretches.{PagedData, PagesFollow, all_follow, follow}
use Rattle.vortex_parquet.proofs.Sound.{bind_ok, one_ok}
use Rattle.vortex_predicates.specs.Footers.PagedGroups.{PagedGroup, all_groups_follow, chunk_pages, leaf_column, paged_at, paged_groups, paged_of}

-- ---- one row group after the other

pub no_row_group : (e : ReadError) (t : TailData) (ls : List Leaf) (count : ℕ) (orders : List Bool) (bytes : List ℕ) → Fails e (row_group_of bytes) → Fails e (paged_at t ls count orders bytes)
unfolding paged_at
no_row_group errors.Memory t ls count orders bytes h = tt
no_row_group (errors.Fault d) t ls count orders bytes h = rw h refl

pub not_paged : (e : ReadError) (t : TailData) (ls : List Leaf) (count : ℕ) (orders : List Bool) (bytes : List ℕ) (g : RowGroupData) (next : List ℕ) → row_group_of bytes ≡ Ok (g, next) → Fails e (paged_of t ls count orders g)
    → Fails e (paged_at t ls count orders bytes)
unfolding paged_at
not_paged errors.Memory t ls count orders bytes g next r h = tt
not_paged (errors.Fault d) t ls count orders bytes g next r h = rw (r, h) refl

pub is_paged : (t : TailData) (ls : List Leaf) (count : ℕ) (orders : List Bool) (bytes : List ℕ) (g : RowGroupData) (next : List ℕ) (p : PagedGroup) → row_group_of bytes ≡ Ok (g, next) → paged_of t ls count orders g ≡ Ok p
    → paged_at t ls count orders bytes ≡ Ok (p, next)
unfolding paged_at
is_paged t ls count orders bytes g next p r h = rw (r, h) refl

-- ---- what is read of one of them

guard_not : {A : Type 0} (b : Bool) (d : Fault) (r : Result A Fault) (y : A) → cond b r (Err d) ≡ Ok y → (b ≡ true) × (r ≡ Ok y)
guard_not true d r y e = (refl, e)
guard_not false d r y e = absurd cc

pub group_is : (t : TailData) (ls : List Leaf) (count : ℕ) (orders : List Bool) (g : RowGroupData) (p : PagedGroup) → paged_of t ls count orders g ≡ Ok p
    → (cs : List PagedData) × (all_of (leaf_column t orders g) ls ≡ Ok cs) × (p ≡ record { rows = g.rows; columns = cs })
unfolding paged_of
group_is t ls count orders g p e =
    let u = guard_not (eqb (length g.columns) count) fault.Columns (all_of (leaf_column t orders g) ls >>= λ cs. Ok (record { rows = g.rows; columns = cs })) p e in
    let b = bind_ok (all_of (leaf_column t orders g) ls) (λ cs. Ok (record { rows = g.rows; columns = cs })) p u.1 in
    (b.0, b.1, sym (one_ok (record { rows = g.rows; columns = b.0 }) p b.2))

pub column_is : (t : TailData) (orders : List Bool) (g : RowGroupData) (l : Leaf) (c : PagedData) → leaf_column t orders g l ≡ Ok c
    → (ps : List PageData) × (chunk_pages t g.rows l (slice_get g.columns l.place) ≡ Ok ps) × (c ≡ record { form = l.form; ordered = or_false (slice_get orders l.place); pages = ps })
unfolding leaf_column
column_is t orders g l c e =
    let b = bind_ok (chunk_pages t g.rows l (slice_get g.columns l.place)) (λ ps. Ok (record { form = l.form; ordered = or_false (slice_get orders l.place); pages = ps })) c e in
    (b.0, b.1, sym (one_ok (record { form = l.form; ordered = or_false (slice_get orders l.place); pages = b.0 }) c b.2))

-- the first of what is read of a list, and the others
pub all_split : {A B : Type 0} (one : B → Result A Fault) (x : B) (xs : List B) (ys : List A) → all_of one (x ∷ xs) ≡ Ok ys → (y : A) × (others : List A) × (one x ≡ Ok y) × (all_of one xs ≡ Ok others) × (ys ≡ y ∷ others)
unfolding all_of
all_split {A} {B} one x xs ys e =
    let a = bind_ok (one x) (λ y. all_of one xs >>= λ zs. Ok (y ∷ zs)) ys e in
    let b = bind_ok (all_of one xs) (λ zs. Ok (a.0 ∷ zs)) ys a.2 in
    (a.0, b.0, a.1, b.1, sym (one_ok (a.0 ∷ b.0) ys b.2))

pub all_none : {A B : Type 0} (one : B → Result A Fault) (ys : List A) → all_of one [] ≡ Ok ys → ys ≡ []
unfolding all_of
all_none {A} {B} one ys e = sym (one_ok [] ys e)

-- ---- the pages stand one behind the other

whole_follows : (rows : ℕ) (s : StatisticsData) (b : Bool) → eqb rows 0 ≡ b → follow 0 rows (cond b [] (record { first = 0; end = rows; statistics = s } ∷ [])) ≡ true
whole_follows rows s true e = eq-eqb 0 rows (sym (eqb-true rows 0 e))
whole_follows zero s false e = absurd cc
whole_follows (suc n) s false e = both_hold _ _ (lt-ltb 0 (suc n) (omega arith)) (eq-eqb (suc n) (suc n) refl)

one_follows : (rows : ℕ) (s : Option StatisticsData) → follow 0 rows (one_page rows s) ≡ true
one_follows rows s = whole_follows rows (or_nothing s) (eqb rows 0) refl

module _ (they : PagesFollow) (t : TailData) where
  indexed_follow : (rows : ℕ) (n : Nullability) (s : Option StatisticsData) (x o : Option (List ℕ)) (ps : List PageData) → indexed rows n s x o ≡ Ok ps → follow 0 rows ps ≡ true
  unfolding indexed
  indexed_follow rows n s None o ps e = subst (λ (qs : List PageData). follow 0 rows qs ≡ true) (one_ok (one_page rows s) ps e) (one_follows rows s)
  indexed_follow rows n s (Some index) None ps e = subst (λ (qs : List PageData). follow 0 rows qs ≡ true) (one_ok (one_page rows s) ps e) (one_follows rows s)
  indexed_follow rows n s (Some index) (Some offsets) ps e =
      let a = bind_ok (column_index_of index) (λ x. offset_index_of offsets >>= λ ls. pages_of rows n x ls) ps e in
      let b = bind_ok (offset_index_of offsets) (λ ls. pages_of rows n a.0 ls) ps a.2 in
      they rows n a.0 b.0 ps b.2

  by_follow : (rows : ℕ) (n : Nullability) (b : Bool) (s : Option StatisticsData) (x o : Option (List ℕ)) (ps : List PageData) → cond b (indexed rows n s x o) (Ok (one_page rows None)) ≡ Ok ps → follow 0 rows ps ≡ true
  by_follow rows n true s x o ps e = indexed_follow rows n s x o ps e
  by_follow rows n false s x o ps e = subst (λ (qs : List PageData). follow 0 rows qs ≡ true) (one_ok (one_page rows None) ps e) (one_follows rows None)

  chunk_follows : (rows : ℕ) (l : Leaf) (o : Option (List ℕ)) (ps : List PageData) → chunk_pages t rows l o ≡ Ok ps → follow 0 rows ps ≡ true
  unfolding chunk_pages leaf_pages
  chunk_follows rows l None ps e = subst (λ (qs : List PageData). follow 0 rows qs ≡ true) (one_ok (one_page rows None) ps e) (one_follows rows None)
  chunk_follows rows l (Some bytes) ps e =
      let a = bind_ok (places_of bytes) (λ places. chunk_of bytes >>= λ chunk. pages_by t rows l places chunk) ps e in
      let b = bind_ok (chunk_of bytes) (λ chunk. pages_by t rows l a.0 chunk) ps a.2 in
      by_follow rows l.nullability (is_number l.physical b.0.physical) (statistics_by l.nullability b.0.statistics) (bytes_at t a.0.column_index a.0.column_index_length) (bytes_at t a.0.offset_index a.0.offset_index_length) ps b.2

  columns_follow : (orders : List Bool) (g : RowGroupData) (ls : List Leaf) (cs : List PagedData) → all_of (leaf_column t orders g) ls ≡ Ok cs → all_follow g.rows cs ≡ true
  columns_follow orders g [] cs e = ap (all_follow g.rows) (all_none (leaf_column t orders g) cs e)
  columns_follow orders g (l ∷ ls) cs e =
      let (c, others, first, rest, is) = all_split (leaf_column t orders g) l ls cs e in
      let (ps, pages, made) = column_is t orders g l c first in
      let here : follow 0 g.rows c.pages ≡ true = ap (λ (x : PagedData). follow 0 g.rows x.pages) made ∙ chunk_follows g.rows l (slice_get g.columns l.place) ps pages in
      ap (all_follow g.rows) is ∙ both_hold _ _ here (columns_follow orders g ls others rest)

  group_follows : (ls : List Leaf) (count : ℕ) (orders : List Bool) (g : RowGroupData) (p : PagedGroup) → paged_of t ls count orders g ≡ Ok p → all_follow p.rows p.columns ≡ true
  group_follows ls count orders g p e =
      let (cs, all, is) = group_is t ls count orders g p e in
      ap (λ (x : PagedGroup). all_follow x.rows x.columns) is ∙ columns_follow orders g ls cs all

  at_follows : (ls : List Leaf) (count : ℕ) (orders : List Bool) (bytes : List ℕ) (x : PagedGroup × List ℕ) → paged_at t ls count orders bytes ≡ Ok x → all_follow x.0.rows x.0.columns ≡ true
  unfolding paged_at
  at_follows ls count orders bytes x e =
      let a = bind_ok (row_group_of bytes) (λ g. paged_of t ls count orders g.0 >>= λ p. Ok (p, g.1)) x e in
      let b = bind_ok (paged_of t ls count orders a.0.0) (λ p. Ok (p, a.0.1)) x a.2 in
      ap (λ (y : PagedGroup × List ℕ). all_follow y.0.rows y.0.columns) (sym (one_ok (b.0, a.0.1) x b.2)) ∙ group_follows ls count orders a.0.0 b.0 b.1

  many_follow : (ls : List Leaf) (count : ℕ) (orders : List Bool) (n : ℕ) (bytes : List ℕ) (gs : List PagedGroup) → many (paged_at t ls count orders) n bytes ≡ Ok gs → all_groups_follow gs ≡ true
  unfolding many
  many_follow ls count orders zero bytes gs e = ap all_groups_follow (sym (one_ok [] gs e))
  many_follow ls count orders (suc n) bytes gs e =
      let one = paged_at t ls count orders in
      let a = bind_ok (one bytes) (λ x. many one n x.1 >>= λ xs. Ok (x.0 ∷ xs)) gs e in
      let b = bind_ok (many one n a.0.1) (λ xs. Ok (a.0.0 ∷ xs)) gs a.2 in
      ap all_groups_follow (sym (one_ok (a.0.0 ∷ b.0) gs b.2)) ∙ both_hold _ _ (at_follows ls count orders bytes a.0 a.1) (many_follow ls count orders n a.0.1 b.0 b.1)

  pub groups_follow : (ls : List Leaf) (count : ℕ) (file : FileData) (gs : List PagedGroup) → paged_groups t ls count file ≡ Ok gs → all_groups_follow gs ≡ true
  unfolding paged_groups
  groups_follow ls count file gs e = many_follow ls count file.orders file.groups.count file.groups.from gs e

-- ---- each row group is paged

-- a thing with what is known of it, and the bytes behind it
both : {A B : Type 0} → (List ℕ → Read A) → (A → Result B Fault) → List ℕ → Read B
both one tell bytes = one bytes >>= λ g. tell g.0 >>= λ k. Ok (k, g.1)

first_known : {A B : Type 0} (one : List ℕ → Read A) (tell : A → Result B Fault) (bytes : List ℕ) (g : A × List ℕ) (k : B × List ℕ) → one bytes ≡ Ok g → both one tell bytes ≡ Ok k → (tell g.0 ≡ Ok k.0) × (g.1 ≡ k.1)
unfolding both
first_known {A} {B} one tell bytes g k e f =
    let p = bind_ok (one bytes) (λ g. tell g.0 >>= λ k. Ok (k, g.1)) k f in
    let q = bind_ok (tell p.0.0) (λ k. Ok (k, p.0.1)) k p.2 in
    let same : p.0 ≡ g = one_ok p.0 g (sym p.1 ∙ e) in
    let pair : (q.0, p.0.1) ≡ k = one_ok (q.0, p.0.1) k q.2 in
    (ap (λ (x : A × List ℕ). tell x.0) (sym same) ∙ q.1 ∙ ap (λ (x : B × List ℕ). Ok x.0) pair, ap (λ (x : A × List ℕ). x.1) (sym same) ∙ ap (λ (x : B × List ℕ). x.1) pair)

no_element : {A : Type 0} (i : ℕ) (g : A) → (let xs : List A = [] in slice_get xs i) ≡ Some g → ⊥
no_element zero g e = absurd cc
no_element (suc i) g e = absurd cc

many_known : {A B : Type 0} (one : List ℕ → Read A) (tell : A → Result B Fault) (n : ℕ) (bytes : List ℕ) (known : List B) (groups : List A)
    → many (both one tell) n bytes ≡ Ok known → many one n bytes ≡ Ok groups
    → (i : ℕ) (g : A) → slice_get groups i ≡ Some g → (k : B) × (slice_get known i ≡ Some k) × (tell g ≡ Ok k)
unfolding many
many_known {A} {B} one tell zero bytes known groups e f i g there =
    let none : [] ≡ groups = one_ok [] groups f in
    let absent = subst (λ (xs : List A). slice_get xs i ≡ Some g) (sym none) there in
    absurd (no_element i g absent)
many_known {A} {B} one tell (suc n) bytes known groups e f zero g there =
    let a = bind_ok (both one tell bytes) (λ x. many (both one tell) n x.1 >>= λ xs. Ok (x.0 ∷ xs)) known e in
    let b = bind_ok (many (both one tell) n a.0.1) (λ xs. Ok (a.0.0 ∷ xs)) known a.2 in
    let c = bind_ok (one bytes) (λ x. many one n x.1 >>= λ xs. Ok (x.0 ∷ xs)) groups f in
    let d = bind_ok (many one n c.0.1) (λ xs. Ok (c.0.0 ∷ xs)) groups c.2 in
    let h = first_known one tell bytes c.0 a.0 c.1 a.1 in
    let front : c.0.0 ∷ d.0 ≡ groups = one_ok (c.0.0 ∷ d.0) groups d.2 in
    let some : Some c.0.0 ≡ Some g = ap (λ (xs : List A). slice_get xs 0) front ∙ there in
    let same : c.0.0 ≡ g = cc in
    (a.0.0, ap (λ (xs : List B). slice_get xs 0) (sym (one_ok (a.0.0 ∷ b.0) known b.2)), ap tell (sym same) ∙ h.0)
many_known {A} {B} one tell (suc n) bytes known groups e f (suc i) g there =
    let a = bind_ok (both one tell bytes) (λ x. many (both one tell) n x.1 >>= λ xs. Ok (x.0 ∷ xs)) known e in
    let b = bind_ok (many (both one tell) n a.0.1) (λ xs. Ok (a.0.0 ∷ xs)) known a.2 in
    let c = bind_ok (one bytes) (λ x. many one n x.1 >>= λ xs. Ok (x.0 ∷ xs)) groups f in
    let d = bind_ok (many one n c.0.1) (λ xs. Ok (c.0.0 ∷ xs)) groups c.2 in
    let h = first_known one tell bytes c.0 a.0 c.1 a.1 in
    let front : c.0.0 ∷ d.0 ≡ groups = one_ok (c.0.0 ∷ d.0) groups d.2 in
    let later : slice_get d.0 i ≡ Some g = ap (λ (xs : List A). slice_get xs (suc i)) front ∙ there in
    let more = many_known one tell n a.0.1 b.0 d.0 b.1 (ap (many one n) (sym h.1) ∙ d.1) i g later in
    (more.0, ap (λ (xs : List B). slice_get xs (suc i)) (sym (one_ok (a.0.0 ∷ b.0) known b.2)) ∙ more.1, more.2)

pub groups_paged : (t : TailData) (ls : List Leaf) (count : ℕ) (file : FileData) (paged : List PagedGroup) (groups : List RowGroupData) → paged_groups t ls count file ≡ Ok paged → row_groups_of file ≡ Ok groups
    → (i : ℕ) (g : RowGroupData) → slice_get groups i ≡ Some g → (p : PagedGroup) × (slice_get paged i ≡ Some p) × (paged_of t ls count file.orders g ≡ Ok p)
unfolding paged_groups row_groups_of paged_at both
groups_paged t ls count file paged groups e f i g there = many_known row_group_of (paged_of t ls count file.orders) file.groups.count file.groups.from paged groups e f i g there
