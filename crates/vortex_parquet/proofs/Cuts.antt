-- Stretches are cut where pages end, and have the sets of the pages in which they lie.
use Rattle.std.proofs.Common.{◌≡◌, ◌≢◌, ℕ, ◌+◌, ◌-◌, ◌≤◌, ◌<◌, ◌⊎◌, inl, inr, Bool, true, false, cond, eqb, ltb, List, [], ◌∷◌, ◌++◌, Option, refl, sym, ap, subst, ◌∙◌, map, arith, Contains}
use Rattle.std.specs.Prelude.{⊤}
use Rattle.std.proofs.lemmas.Bool.{eqb-true, eqb-false, ltb-false}
use Rattle.std.proofs.lemmas.List.Elements.{Contains-append_left, Contains-append_right, Contains-push}
use borrow.Author.Tests.{ltb-true}
use Rattle.vortex_base.specs.Data.Exact.{both_true}
use Rattle.vortex_parquet.specs.declared.columns.Form.{Form}
use Rattle.vortex_parquet.specs.Pages.{PageData}
use Rattle.vortex_parquet.specs.Stats.{Entries, GroupData, set_of}
use Rattle.vortex_parquet.specs.Stretches.{AreSetsIn, AreStretches, EndsAt, IsCut, IsSetIn, PagedData, all_follow, begins_at, behind, first_set, follow, head_set, next_end, pages_behind, sooner, within}

-- ---- columns without the pages that end before a row or at it

-- the row stands in the first page, and the others follow it; behind the last page stands the last row
abbrev pub Reaches : (row to : ℕ) → List PageData → Type 0
Reaches row to [] = row ≡ to
Reaches row to (p ∷ ps) = (p.first ≤ row) × (row < p.end) × (follow p.end to ps ≡ true)

pub record IsAt (row to : ℕ) (c d : PagedData) : Type 0 where
  pub form : d.form ≡ c.form
  pub ordered : d.ordered ≡ c.ordered
  pub pages : (p : PageData) → Contains d.pages p → Contains c.pages p
  pub reaches : Reaches row to d.pages

abbrev pub AreAt : (row to : ℕ) → List PagedData → List PagedData → Type 0
AreAt row to [] [] = ⊤
AreAt row to (c ∷ cs) (d ∷ ds) = IsAt row to c d × AreAt row to cs ds
AreAt row to cs ds = ⊥

follow_first : (from to : ℕ) (p : PageData) (ps : List PageData) → follow from to (p ∷ ps) ≡ true → (p.first ≡ from) × (from < p.end) × (follow p.end to ps ≡ true)
follow_first from to p ps h =
    let a = both_true (begins_at from p) (follow p.end to ps) h in
    let b = both_true (eqb p.first from) (ltb from p.end) a.0 in
    (eqb-true p.first from b.0, ltb-true from p.end b.1, a.1)

follow_le : (from to : ℕ) (ps : List PageData) → follow from to ps ≡ true → from ≤ to
follow_le from to [] h = let e : from ≡ to = eqb-true from to h in omega arith
follow_le from to (p ∷ ps) h =
    let a = follow_first from to p ps h in
    let more = follow_le p.end to ps a.2 in
    omega (arith, a.1, more)

follow_reaches : (from to : ℕ) (ps : List PageData) → follow from to ps ≡ true → Reaches from to ps
follow_reaches from to [] h = eqb-true from to h
follow_reaches from to (p ∷ ps) h = let a = follow_first from to p ps h in (omega (arith, a.0), a.1, a.2)

pub at_start : (rows : ℕ) (cs : List PagedData) → all_follow rows cs ≡ true → AreAt 0 rows cs cs
at_start rows [] h = tt
at_start rows (c ∷ cs) h =
    let a = both_true (follow 0 rows c.pages) (all_follow rows cs) h in
    (record { form = refl; ordered = refl; pages = λ p k. k; reaches = follow_reaches 0 rows c.pages a.0 }, at_start rows cs a.1)

-- ---- where the first page ends that ends first

pick : (b : Bool) (x end : ℕ) → ltb x end ≡ b → (cond b x end ≤ end) × (cond b x end ≤ x) × ((cond b x end ≡ x) ⊎ (cond b x end ≡ end))
pick true x end e = (omega (arith, ltb-true x end e), omega arith, inl refl)
pick false x end e = (omega arith, omega (arith, ltb-false x end e), inr refl)

sooner_le : (end : ℕ) (ps : List PageData) → sooner end ps ≤ end
sooner_le end [] = omega arith
sooner_le end (p ∷ ps) = (pick (ltb p.end end) p.end end refl).0

pub next_le : (end : ℕ) (ds : List PagedData) → next_end end ds ≤ end
next_le end [] = omega arith
next_le end (d ∷ ds) = omega (arith, next_le (sooner end d.pages) ds, sooner_le end d.pages)

above : (b : Bool) (row x end : ℕ) → row < x → row < end → row < cond b x end
above true row x end h k = h
above false row x end h k = k

sooner_above : (row to end : ℕ) (ps : List PageData) → Reaches row to ps → row < end → row < sooner end ps
sooner_above row to end [] h lt = lt
sooner_above row to end (p ∷ ps) h lt = above (ltb p.end end) row p.end end h.1 lt

pub next_above : (row to end : ℕ) (cs ds : List PagedData) → AreAt row to cs ds → row < end → row < next_end end ds
next_above row to end [] [] h lt = lt
next_above row to end (c ∷ cs) (d ∷ ds) h lt = next_above row to (sooner end d.pages) cs ds h.1 (sooner_above row to end d.pages h.0.reaches lt)
next_above row to end [] (d ∷ ds) h lt = absurd h
next_above row to end (c ∷ cs) [] h lt = absurd h

-- a row stands before the end of the first page, or at it
abbrev pub EndsLater : ℕ → List PageData → Type 0
EndsLater row [] = ⊤
EndsLater row (p ∷ ps) = row ≤ p.end

abbrev pub AllEndLater : ℕ → List PagedData → Type 0
AllEndLater row [] = ⊤
AllEndLater row (d ∷ ds) = EndsLater row d.pages × AllEndLater row ds

sooner_ends : (row end : ℕ) (ps : List PageData) → row ≤ sooner end ps → EndsLater row ps
sooner_ends row end [] h = tt
sooner_ends row end (p ∷ ps) h = omega (arith, h, (pick (ltb p.end end) p.end end refl).1)

pub next_ends : (end : ℕ) (ds : List PagedData) → AllEndLater (next_end end ds) ds
next_ends end [] = tt
next_ends end (d ∷ ds) = (sooner_ends (next_end (sooner end d.pages) ds) end d.pages (next_le (sooner end d.pages) ds), next_ends (sooner end d.pages) ds)

first_in : {X : Type 0} (x : X) (xs : List X) → Contains (x ∷ xs) x
first_in x xs = Contains-append_left (x ∷ []) xs x (Contains-push [] x)

later_in : {X : Type 0} (x y : X) (xs : List X) → Contains xs y → Contains (x ∷ xs) y
later_in x y xs h = Contains-append_right (x ∷ []) xs y h

more_ends : (c : PagedData) (cs : List PagedData) (row : ℕ) → EndsAt cs row → EndsAt (c ∷ cs) row
more_ends c cs row e = record { column = e.column; there = later_in c e.column cs e.there; page = e.page; here = e.here; ends = e.ends }

sooner_is : (end : ℕ) (c : PagedData) (cs : List PagedData) (ps : List PageData) → ((p : PageData) → Contains ps p → Contains c.pages p) → (sooner end ps ≡ end) ⊎ EndsAt (c ∷ cs) (sooner end ps)
sooner_is end c cs [] within = inl refl
sooner_is end c cs (p ∷ ps) within = elim (pick (ltb p.end end) p.end end refl).2 [
  | inl e ↦ inr (record { column = c; there = first_in c cs; page = p; here = within p (first_in p ps); ends = sym e })
  | inr e ↦ inl e
]

pub next_is : (row to end : ℕ) (cs ds : List PagedData) → AreAt row to cs ds → EndsAt cs (next_end end ds) ⊎ (next_end end ds ≡ end)
next_is row to end [] [] h = inr refl
next_is row to end (c ∷ cs) (d ∷ ds) h = elim (next_is row to (sooner end d.pages) cs ds h.1) [
  | inl e ↦ inl (more_ends c cs (next_end (sooner end d.pages) ds) e)
  | inr e ↦ elim (sooner_is end c cs d.pages h.0.pages) [
    | inl k ↦ inr (e ∙ k)
    | inr k ↦ inl (subst (λ (n : ℕ). EndsAt (c ∷ cs) n) (sym e) k)
  ]
]
next_is row to end [] (d ∷ ds) h = absurd h
next_is row to end (c ∷ cs) [] h = absurd h

-- ---- the sets of a stretch

set_is : (row to stop : ℕ) (c : PagedData) (f : Form) (o : Bool) (ps : List PageData) → f ≡ c.form → o ≡ c.ordered → ((p : PageData) → Contains ps p → Contains c.pages p)
    → Reaches row to ps → EndsLater stop ps → row < stop → stop ≤ to → IsSetIn c row (stop - row) (first_set f o (stop - row) ps)
set_is row to stop c f o [] form ordered pages reaches later lt le = let e : row ≡ to = reaches in absurd (omega arith)
set_is row to stop c f o (p ∷ ps) form ordered pages reaches later lt le = record {
  page = p;
  here = pages p (first_in p ps);
  begins = reaches.0;
  ends = omega (arith, later, lt);
  made = ap (λ (g : Form). set_of g o (within (p.end - p.first) (stop - row) p.statistics)) form ∙ ap (λ (b : Bool). set_of c.form b (within (p.end - p.first) (stop - row) p.statistics)) ordered;
}

pub sets_are : (row to stop : ℕ) (cs ds : List PagedData) → AreAt row to cs ds → AllEndLater stop ds → row < stop → stop ≤ to → AreSetsIn cs row (stop - row) (map (head_set (stop - row)) ds)
sets_are row to stop [] [] h later lt le = tt
sets_are row to stop (c ∷ cs) (d ∷ ds) h later lt le = (
  set_is row to stop c d.form d.ordered d.pages h.0.form h.0.ordered h.0.pages h.0.reaches later.0 lt le,
  sets_are row to stop cs ds h.1 later.1 lt le,
)
sets_are row to stop [] (d ∷ ds) h later lt le = absurd h
sets_are row to stop (c ∷ cs) [] h later lt le = absurd h

-- ---- the columns behind it

cond_reaches : (b : Bool) (row to stop : ℕ) (p : PageData) (ps : List PageData) → eqb p.end stop ≡ b → Reaches row to (p ∷ ps) → stop ≤ p.end → row < stop → Reaches stop to (cond b ps (p ∷ ps))
cond_reaches true row to stop p ps e h later lt = follow_reaches stop to ps (subst (λ (n : ℕ). follow n to ps ≡ true) (eqb-true p.end stop e) h.2)
cond_reaches false row to stop p ps e h later lt = let ne : p.end ≢ stop = eqb-false p.end stop e in (omega (arith, h.0, lt), omega (arith, later, ne), h.2)

reaches_behind : (row to stop : ℕ) (ps : List PageData) → Reaches row to ps → EndsLater stop ps → row < stop → stop ≤ to → Reaches stop to (pages_behind stop ps)
reaches_behind row to stop [] h later lt le = let e : row ≡ to = h in absurd (omega arith)
reaches_behind row to stop (p ∷ ps) h later lt le = cond_reaches (eqb p.end stop) row to stop p ps refl h later lt

cond_in : (b : Bool) (p q : PageData) (ps : List PageData) → Contains (cond b ps (p ∷ ps)) q → Contains (p ∷ ps) q
cond_in true p q ps h = later_in p q ps h
cond_in false p q ps h = h

in_behind : (stop : ℕ) (ps : List PageData) (q : PageData) → Contains (pages_behind stop ps) q → Contains ps q
in_behind stop [] q h = h
in_behind stop (p ∷ ps) q h = cond_in (eqb p.end stop) p q ps h

pub at_next : (row to stop : ℕ) (cs ds : List PagedData) → AreAt row to cs ds → AllEndLater stop ds → row < stop → stop ≤ to → AreAt stop to cs (map (behind stop) ds)
at_next row to stop [] [] h later lt le = tt
at_next row to stop (c ∷ cs) (d ∷ ds) h later lt le = (
  record {
    form = h.0.form;
    ordered = h.0.ordered;
    pages = λ p k. h.0.pages p (in_behind stop d.pages p k);
    reaches = reaches_behind row to stop d.pages h.0.reaches later.0 lt le;
  },
  at_next row to stop cs ds h.1 later.1 lt le,
)
at_next row to stop [] (d ∷ ds) h later lt le = absurd h
at_next row to stop (c ∷ cs) [] h later lt le = absurd h

-- ---- one stretch more

pub one_more : (cs : List PagedData) (rows from mid to n : ℕ) (size : Option ℕ) (sets : List Entries) (ss : List GroupData) → AreStretches cs rows from mid ss → 0 < n → AreSetsIn cs mid n sets → IsCut cs rows (mid + n) → mid + n ≡ to
    → AreStretches cs rows from to (ss ++ record { rows = n; size = size; stats = sets } ∷ [])
one_more cs rows from mid to n size sets [] e some there cut same = subst (λ (k : ℕ). AreStretches cs rows k to (record { rows = n; size = size; stats = sets } ∷ [])) (sym e) (some, there, cut, same)
one_more cs rows from mid to n size sets (s ∷ ss) h some there cut same = (h.0, h.1, h.2, one_more cs rows (from + s.rows) mid to n size sets ss h.3 some there cut same)

-- ---- what one step of the loop needs

pub record Step (cs ds : List PagedData) (rows row stop : ℕ) : Type 0 where
  pub above : row < stop
  pub below : stop ≤ rows
  pub sets : AreSetsIn cs row (stop - row) (map (head_set (stop - row)) ds)
  pub cut : IsCut cs rows (row + (stop - row))
  pub next : AreAt stop rows cs (map (behind stop) ds)

pub step : (cs ds : List PagedData) (rows row stop : ℕ) → row < rows → AreAt row rows cs ds → stop ≡ next_end rows ds → Step cs ds rows row stop
step cs ds rows row stop lt h is =
    let above : row < stop = omega (arith, is, next_above row rows rows cs ds h lt) in
    let below : stop ≤ rows = omega (arith, is, next_le rows ds) in
    let later : AllEndLater stop ds = subst (λ (n : ℕ). AllEndLater n ds) (sym is) (next_ends rows ds) in
    let there : row + (stop - row) ≡ stop = omega arith in
    let here : IsCut cs rows stop = subst (λ (n : ℕ). IsCut cs rows n) (sym is) (next_is row rows rows cs ds h) in
    record {
      above = above;
      below = below;
      sets = sets_are row rows stop cs ds h later above below;
      cut = subst (λ (n : ℕ). IsCut cs rows n) (sym there) here;
      next = at_next row rows stop cs ds h later above below;
    }
