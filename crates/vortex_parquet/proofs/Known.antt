-- What is known of the row groups of a file tells of each what is known of it.
use Rattle.std.proofs.Common.{◌≡◌, ℕ, zero, suc, List, [], ◌∷◌, Some, Result, Ok, sym, ap, subst, ◌∙◌}
use Rattle.std.specs.Prelude.{slice_get}
use Rattle.vortex_parquet.specs.declared.fault.Fault.{Fault}
use Rattle.vortex_parquet.specs.Reading.{◌>>=◌, Read}
use Rattle.vortex_parquet.specs.Fields.{many}
use Rattle.vortex_parquet.specs.Records.{row_group_of, row_groups_of}
use Rattle.vortex_parquet.specs.Stats.{group_at, group_of, groups_of}
use Rattle.vortex_parquet.specs.Truth.{KnownGroups}
use Rattle.vortex_parquet.proofs.Sound.{bind_ok, one_ok}

-- a thing with what is known of it, and the bytes behind it
both : {A B : Type 0} → (List ℕ → Read A) → (A → Result B Fault) → List ℕ → Read B
both one tell bytes = one bytes >>= λ g. tell g.0 >>= λ k. Ok (k, g.1)

first_known : {A B : Type 0} (one : List ℕ → Read A) (tell : A → Result B Fault) (bytes : List ℕ) (g : A × List ℕ) (k : B × List ℕ) → one bytes ≡ Ok g → both one tell bytes ≡ Ok k → (tell g.0 ≡ Ok k.0) × (g.1 ≡ k.1)
unfolding both
first_known {A} {B} one tell bytes g k e f =
    let p = bind_ok (one bytes) (λ g. tell g.0 >>= λ k. Ok (k, g.1)) k f in
    let q = bind_ok (tell p.0.0) (λ k. Ok (k, p.0.1)) k p.2 in
    let same : p.0 ≡ g = one_ok p.0 g (sym p.1 ∙ e) in
    let pair : (q.0, p.0.1) ≡ k = one_ok (q.0, p.0.1) k q.2 in
    (ap (λ (x : A × List ℕ). tell x.0) (sym same) ∙ q.1 ∙ ap (λ (x : B × List ℕ). Ok x.0) pair, ap (λ (x : A × List ℕ). x.1) (sym same) ∙ ap (λ (x : B × List ℕ). x.1) pair)

no_element : {A : Type 0} (i : ℕ) (g : A) → (let xs : List A = [] in slice_get xs i) ≡ Some g → ⊥
no_element zero g e = absurd cc
no_element (suc i) g e = absurd cc

-- one thing behind the other, and beside each what is known of it
many_known : {A B : Type 0} (one : List ℕ → Read A) (tell : A → Result B Fault) (n : ℕ) (bytes : List ℕ) (known : List B) (groups : List A)
    → many (both one tell) n bytes ≡ Ok known → many one n bytes ≡ Ok groups
    → (i : ℕ) (g : A) → slice_get groups i ≡ Some g → (k : B) × (slice_get known i ≡ Some k) × (tell g ≡ Ok k)
unfolding many
many_known {A} {B} one tell zero bytes known groups e f i g there =
    let none : [] ≡ groups = one_ok [] groups f in
    let absent = subst (λ (xs : List A). slice_get xs i ≡ Some g) (sym none) there in
    absurd (no_element i g absent)
many_known {A} {B} one tell (suc n) bytes known groups e f zero g there =
    let a = bind_ok (both one tell bytes) (λ x. many (both one tell) n x.1 >>= λ xs. Ok (x.0 ∷ xs)) known e in
    let b = bind_ok (many (both one tell) n a.0.1) (λ xs. Ok (a.0.0 ∷ xs)) known a.2 in
    let c = bind_ok (one bytes) (λ x. many one n x.1 >>= λ xs. Ok (x.0 ∷ xs)) groups f in
    let d = bind_ok (many one n c.0.1) (λ xs. Ok (c.0.0 ∷ xs)) groups c.2 in
    let h = first_known one tell bytes c.0 a.0 c.1 a.1 in
    let front : c.0.0 ∷ d.0 ≡ groups = one_ok (c.0.0 ∷ d.0) groups d.2 in
    let some : Some c.0.0 ≡ Some g = ap (λ (xs : List A). slice_get xs 0) front ∙ there in
    let same : c.0.0 ≡ g = cc in
    (a.0.0, ap (λ (xs : List B). slice_get xs 0) (sym (one_ok (a.0.0 ∷ b.0) known b.2)), ap tell (sym same) ∙ h.0)
many_known {A} {B} one tell (suc n) bytes known groups e f (suc i) g there =
    let a = bind_ok (both one tell bytes) (λ x. many (both one tell) n x.1 >>= λ xs. Ok (x.0 ∷ xs)) known e in
    let b = bind_ok (many (both one tell) n a.0.1) (λ xs. Ok (a.0.0 ∷ xs)) known a.2 in
    let c = bind_ok (one bytes) (λ x. many one n x.1 >>= λ xs. Ok (x.0 ∷ xs)) groups f in
    let d = bind_ok (many one n c.0.1) (λ xs. Ok (c.0.0 ∷ xs)) groups c.2 in
    let h = first_known one tell bytes c.0 a.0 c.1 a.1 in
    let front : c.0.0 ∷ d.0 ≡ groups = one_ok (c.0.0 ∷ d.0) groups d.2 in
    let later : slice_get d.0 i ≡ Some g = ap (λ (xs : List A). slice_get xs (suc i)) front ∙ there in
    let more = many_known one tell n a.0.1 b.0 d.0 b.1 (ap (many one n) (sym h.1) ∙ d.1) i g later in
    (more.0, ap (λ (xs : List B). slice_get xs (suc i)) (sym (one_ok (a.0.0 ∷ b.0) known b.2)) ∙ more.1, more.2)

pub groups_known : KnownGroups
unfolding groups_of row_groups_of group_at both
groups_known ls count file known groups e f i g there = many_known row_group_of (group_of ls count file.orders) file.groups.count file.groups.from known groups e f i g there
