-- What a scan has found after some parts, from what it had found before the last of them.
use Rattle.std.proofs.Common.{◌≡◌, ◌<◌, ◌≤◌, ◌+◌, ℕ, zero, suc, Bool, true, false, List, [], ◌∷◌, ◌++◌, Option, Some, IsTrue, cond, map, length, get_or, take, refl, sym, ap, subst, ◌∙◌, append_assoc, append-nil, inl, inr, arith}
use Rattle.std.proofs.Math.Nat.{eq-or-lt_of_le}
use Rattle.std.proofs.lemmas.Option.{same_Some, slice_get_read, slice_get_within}
use Rattle.std.specs.List.{enumerate_from, filter, flat_map}
use Rattle.std.specs.Prelude.{if◌then◌else◌, slice_get}
use Rattle.vortex_base.specs.Data.Columns.{row_count as rows_of}
use Rattle.vortex_base.specs.Data.Scalars.{Constant}
use Rattle.vortex_expr.specs.Trees.Tree.{Place, Tree}
use Rattle.vortex_prune.specs.Part.{AreParts, IsPart, PartData}
use Rattle.vortex_rewrite.specs.Rewriting.Proof.{Assignment}
use Rattle.vortex_prune.specs.Binding.Binders.{BinderAnswer}
use Rattle.vortex_rewrite.specs.Causes.{Causes, IsRefusal}
use Rattle.vortex_prune.specs.Scanning.ScanRefusals.{asking_causes, binder_causes, causes_if, if_faithful, kept_binders, proof_causes}
use Rattle.vortex_rewrite.proofs.Rewriting.CauseLemmas.{BringAbout, refusal-more}
use Rattle.vortex_base.specs.declared.dtype.DType.{DType}
use Rattle.vortex_prune.specs.Scanning.Selection.{Answered, AreFaithful, answered, answers_for, any_binder, is_proved, is_whole, place_if, rows_by, rows_tested, selected_rows, skipped_parts, tested_rows, verdict, whole_parts}
use Rattle.vortex_stats.specs.declared.error.StatsError.{StatsError}
use Rattle.std.proofs.lemmas.Bool.{or_from, or_left, or_parts, or_right}

-- ---- lists made of the elements of a list and their places

module _ {X Y : Type 0} (f : ℕ → X → List Y) where
  abbrev pub collected : ℕ → List X → List Y
  collected m xs = flat_map (λ e. f e.0 e.1) (enumerate_from m xs)

  one_more : (m n k : ℕ) (xs : List X) (d : X) → m + n ≡ k → n < length xs → collected m (take (suc n) xs) ≡ collected m (take n xs) ++ f k (get_or xs n d)
  one_more m n k [] d e h = absurd (omega arith)
  one_more m zero k (x ∷ xs) d e h = append-nil (f m x) ∙ ap (λ i. f i x) (omega (arith, e))
  one_more m (suc n) k (x ∷ xs) d e h =
      ap (λ l. f m x ++ l) (one_more (m + 1) n k xs d (omega (arith, e)) (omega arith)) ∙ sym (append_assoc (f m x) (collected (m + 1) (take n xs)) (f k (get_or xs n d)))

  pub collected_more : (n : ℕ) (xs : List X) (d : X) → n < length xs → collected 0 (take (n + 1) xs) ≡ collected 0 (take n xs) ++ f n (get_or xs n d)
  collected_more n xs d h =
      let next : n + 1 ≡ suc n = omega arith in
      ap (λ k. collected 0 (take k xs)) next ∙ one_more 0 n n xs d (omega arith) h

module _ {X : Type 0} (test : X → Bool) where
  listed_if : (b : Bool) (m : ℕ) (x : X) (rest : List (ℕ × X)) → map (λ e. e.0) (cond b ((m, x) ∷ rest) rest) ≡ place_if b m ++ map (λ e. e.0) rest
  listed_if true m x rest = refl
  listed_if false m x rest = refl

  pub passing_collected : (m : ℕ) (xs : List X) → map (λ e. e.0) (filter (λ e. test e.1) (enumerate_from m xs)) ≡ flat_map (λ e. place_if (test e.1) e.0) (enumerate_from m xs)
  passing_collected m [] = refl
  passing_collected m (x ∷ xs) = listed_if (test x) m x (filter (λ e. test e.1) (enumerate_from (m + 1) xs)) ∙ ap (λ l. place_if (test x) m ++ l) (passing_collected (m + 1) xs)

pub skipped_more : (proof : Option (Tree Place)) (parts : List Answered) (n : ℕ) (d : Answered) → n < length parts
    → skipped_parts proof (take (n + 1) parts) ≡ skipped_parts proof (take n parts) ++ place_if (is_proved proof (get_or parts n d).0 (get_or parts n d).1) n
skipped_more proof parts n d h =
    passing_collected (λ e. is_proved proof e.0 e.1) 0 (take (n + 1) parts)
    ∙ collected_more (λ i e. place_if (is_proved proof e.0 e.1) i) n parts d h
    ∙ ap (λ l. l ++ place_if (is_proved proof (get_or parts n d).0 (get_or parts n d).1) n) (sym (passing_collected (λ e. is_proved proof e.0 e.1) 0 (take n parts)))

module _ (falsifier satisfier : Option (Tree Place)) where
  pub whole_more : (parts : List Answered) (n : ℕ) (d : Answered) → n < length parts
      → whole_parts falsifier satisfier (take (n + 1) parts) ≡ whole_parts falsifier satisfier (take n parts) ++ place_if (is_whole (verdict falsifier satisfier (get_or parts n d).0 (get_or parts n d).1)) n
  whole_more parts n d h =
      let test : Answered → Bool = λ e. is_whole (verdict falsifier satisfier e.0 e.1) in
      passing_collected test 0 (take (n + 1) parts)
      ∙ collected_more (λ i e. place_if (test e) i) n parts d h
      ∙ ap (λ l. l ++ place_if (test (get_or parts n d)) n) (sym (passing_collected test 0 (take n parts)))

  pub selected_more : (p : Tree Place) (parts : List Answered) (n : ℕ) (d : Answered) → n < length parts
      → selected_rows falsifier satisfier p (take (n + 1) parts)
      ≡ selected_rows falsifier satisfier p (take n parts) ++ rows_by (verdict falsifier satisfier (get_or parts n d).0 (get_or parts n d).1) p n (get_or parts n d).0.chunk
  selected_more p parts n d h = collected_more (λ i e. rows_by (verdict falsifier satisfier e.0 e.1) p i e.0.chunk) n parts d h

  pub tested_more : (parts : List Answered) (n : ℕ) (d : Answered) → n < length parts
      → tested_rows falsifier satisfier (take (n + 1) parts)
      ≡ tested_rows falsifier satisfier (take n parts) + rows_tested (verdict falsifier satisfier (get_or parts n d).0 (get_or parts n d).1) (get_or parts n d).0.chunk
  tested_more [] n d h = absurd (omega arith)
  tested_more (part ∷ parts) zero d h = omega arith
  tested_more (part ∷ parts) (suc n) d h =
      let more = tested_more parts n d (omega arith) in
      let next : suc n + 1 ≡ suc (n + 1) = omega arith in
      ap (λ k. tested_rows falsifier satisfier (take k (part ∷ parts))) next ∙ omega (arith, more)

-- ---- the parts that were looked at are parts

abbrev pub AreBelow : ℕ → List PartData → Type 0
AreBelow n parts = (i : ℕ) (part : PartData) → i < n → slice_get parts i ≡ Some part → IsPart part

pub below_more : (n : ℕ) (parts : List PartData) (part : PartData) → n < length parts → part ≡ get_or parts n part → IsPart part → AreBelow n parts → AreBelow (n + 1) parts
below_more n parts part h is own below i other less there =
    let place : i ≤ n = omega (arith, less) in
    elim (eq-or-lt_of_le place) [
      | inl here ↦ (let read : Some part ≡ Some other = sym (slice_get_read parts (length parts) n part refl h is) ∙ ap (slice_get parts) (sym here) ∙ there in subst IsPart (same_Some part other read) own)
      | inr before ↦ below i other before there
    ]

-- ---- the parts

pub all_below : (n : ℕ) (parts : List PartData) → length parts ≤ n → AreBelow n parts → AreParts parts
all_below n parts h below i part there = below i part (omega (arith, slice_get_within parts i part there, h)) there

-- ---- parts with their binders

module _ {S : Type 0} where
  pub answered_long : (value : S → List Constant → ℕ → Assignment) (parts : List PartData) (binders : List S) → length binders ≡ length parts → length (answered value parts binders) ≡ length parts
  answered_long value [] binders h = refl
  answered_long value (p ∷ parts) [] h = absurd (omega (arith, h))
  answered_long value (p ∷ parts) (b ∷ binders) h = ap suc (answered_long value parts binders (omega (arith, h)))

  pub faithful_at : (is_faithful_over : S → List Constant → ℕ → Bool) (parts : List PartData) (binders : List S) (n : ℕ) (p : PartData) (b : S) → length binders ≡ length parts → n < length parts
      → AreFaithful is_faithful_over parts binders → IsTrue (is_faithful_over (get_or binders n b) [] (rows_of (get_or parts n p).chunk.columns))
  faithful_at over [] binders n p b long h f = absurd (omega arith)
  faithful_at over (q ∷ parts) [] n p b long h f = absurd (omega (arith, long))
  faithful_at over (q ∷ parts) (c ∷ binders) zero p b long h f = f.0
  faithful_at over (q ∷ parts) (c ∷ binders) (suc n) p b long h f = faithful_at over parts binders n p b (omega (arith, long)) (omega arith) f.1

  -- so the binder of a part is faithful for it
  pub faithful_one : (over : S → List Constant → ℕ → Bool) (parts : List PartData) (binders : List S) (n : ℕ) (part : PartData) (b : S) → length binders ≡ length parts → n < length parts → part ≡ get_or parts n part → b ≡ get_or binders n b
      → AreFaithful over parts binders → IsTrue (over b [] (rows_of part.chunk.columns))
  faithful_one over parts binders n part b long h is is_b faithful =
      let here = faithful_at over parts binders n part b long h faithful in
      subst (λ c. IsTrue (over c [] (rows_of part.chunk.columns))) (sym is_b) (subst (λ q. IsTrue (over (get_or binders n b) [] (rows_of q.chunk.columns))) (sym is) here)

  pub any_at : (can_fault : S → ℕ → Bool) (binders : List S) (n : ℕ) (b : S) (k : ℕ) → n < length binders → can_fault (get_or binders n b) k ≡ true → any_binder can_fault binders k ≡ true
  any_at can_fault [] n b k h t = absurd (omega arith)
  any_at can_fault (c ∷ binders) zero b k h t = or_left (can_fault c k) (any_binder can_fault binders k) t
  any_at can_fault (c ∷ binders) (suc n) b k h t = or_right (can_fault c k) (any_binder can_fault binders k) (any_at can_fault binders n b k (omega arith) t)

  -- what one binder may cause, the list may
  module _ (answer : S → BinderAnswer) (IsMissing : S → DType → Tree Place → Type 0) (can_fault : S → ℕ → Bool) (proof : Option (Tree Place)) where
    pub refusal_in : (binders : List S) (n : ℕ) (b : S) (f : StatsError) → n < length binders → b ≡ get_or binders n b
        → IsRefusal (proof_causes (answer b) (IsMissing b) (can_fault b) proof) f → IsRefusal (binder_causes answer IsMissing can_fault proof binders) f
    refusal_in binders n b f h is r =
        refusal-more _ (binder_causes answer IsMissing can_fault proof binders) f (record {
          rule = λ k x. x;
          not_bool = λ x. x;
          binder = λ k x. (n, b, h, sym is, x);
          wrong_type = λ x. (n, b, h, sym is, x);
          open_proof = λ x. (n, b, h, sym is, x);
        }) r

    -- and so with faithful binders
    pub asking_in : (binders : List S) (n : ℕ) (b : S) → n < length binders → b ≡ get_or binders n b
        → BringAbout (if_faithful proof (proof_causes (answer b) (IsMissing b) (can_fault b) proof)) (asking_causes answer IsMissing can_fault proof binders)
    asking_in binders n b h is = record {
      rule = λ k x. x;
      not_bool = λ x. x;
      binder = λ k x. (n, b, h, sym is, x);
      wrong_type = λ x. x;
      open_proof = λ x. (x.0, (n, b, h, sym is, x.1));
    }

-- what is refused for causes that are there if something is so, is refused for what they bring about then
pub refused-if : (P : Type 0) (c d : Causes) (f : StatsError) → (P → BringAbout c d) → IsRefusal (causes_if P c) f → IsRefusal d f
refused-if P c d f more =
    refusal-more (causes_if P c) d f (record {
      rule = λ k x. (more x.0).rule k x.1;
      not_bool = λ x. (more x.0).not_bool x.1;
      binder = λ k x. (more x.0).binder k x.1;
      wrong_type = λ x. (more x.0).wrong_type x.1;
      open_proof = λ x. (more x.0).open_proof x.1;
    })

-- ---- the binders of the parts that aren't skipped

module _ {S : Type 0} (value : S → List Constant → ℕ → Assignment) (falsifier : Option (Tree Place)) where
  IsIn : S → List S → Type 0
  IsIn s binders = (n : ℕ) × (n < length binders) × (s ≡ get_or binders n s)

  in_later : (t : Bool) (b s : S) (rest : List S) → IsIn s rest → IsIn s (if t then rest else b ∷ rest)
  unfolding IsIn
  in_later true b s rest h = h
  in_later false b s rest h = (suc h.0, omega (arith, h.1), h.2)

  in_now : (t : Bool) (b s : S) (rest : List S) → t ≡ false → b ≡ s → IsIn s (if t then rest else b ∷ rest)
  unfolding IsIn
  in_now true b s rest kept same = absurd cc
  in_now false b s rest kept same = (0, omega arith, sym same)

  -- of a part of which the falsifier isn't true the binder is among them
  pub kept_there : (parts : List PartData) (binders : List S) (i : ℕ) (part : PartData) (s : S) → slice_get parts i ≡ Some part → slice_get binders i ≡ Some s
      → is_proved falsifier part (answers_for (value s) part) ≡ false
      → (n : ℕ) × (n < length (kept_binders value falsifier parts binders)) × (s ≡ get_or (kept_binders value falsifier parts binders) n s)
  unfolding IsIn
  kept_there [] binders i part s e k untrue = absurd cc
  kept_there (p ∷ parts) [] i part s e k untrue = absurd cc
  kept_there (p ∷ parts) (b ∷ binders) zero part s e k untrue =
      in_now (is_proved falsifier p (answers_for (value b) p)) b s (kept_binders value falsifier parts binders)
      (subst (λ (t : S). is_proved falsifier p (answers_for (value t) p) ≡ false) (sym (same_Some b s k)) (subst (λ (q : PartData). is_proved falsifier q (answers_for (value s) q) ≡ false) (sym (same_Some p part e)) untrue))
      (same_Some b s k)
  kept_there (p ∷ parts) (b ∷ binders) (suc i) part s e k untrue =
      in_later (is_proved falsifier p (answers_for (value b) p)) b s (kept_binders value falsifier parts binders) (kept_there parts binders i part s e k untrue)

  quiet_if : (can_fault : S → ℕ → Bool) (k : ℕ) (t : Bool) (b : S) (rest : List S) → can_fault b k ≡ false → any_binder can_fault rest k ≡ false → any_binder can_fault (if t then rest else b ∷ rest) k ≡ false
  quiet_if can_fault k true b rest own more = more
  quiet_if can_fault k false b rest own more = or_from (can_fault b k) (any_binder can_fault rest k) own more

  -- and where no binder names a fault none of them does
  pub kept_quiet : (can_fault : S → ℕ → Bool) (k : ℕ) (parts : List PartData) (binders : List S) → any_binder can_fault binders k ≡ false
      → any_binder can_fault (kept_binders value falsifier parts binders) k ≡ false
  kept_quiet can_fault k [] binders h = refl
  kept_quiet can_fault k (p ∷ parts) [] h = refl
  kept_quiet can_fault k (p ∷ parts) (b ∷ binders) h =
      let both = or_parts (can_fault b k) (any_binder can_fault binders k) h in
      quiet_if can_fault k (is_proved falsifier p (answers_for (value b) p)) b (kept_binders value falsifier parts binders) both.0 (kept_quiet can_fault k parts binders both.1)
