-- What a scan part by part has found after some parts, from what it had found before the last of them.
use Rattle.std.proofs.Common.{◌≡◌, ◌<◌, ◌≤◌, ◌+◌, ◌++◌, ℕ, Bool, true, false, List, Option, Some, arith, get_or, inl, inr, length, refl, sym, ap, subst, take, take_all, ◌∙◌, if◌then◌else◌}
use Rattle.std.proofs.Math.Nat.{eq-or-lt_of_le}
use Rattle.std.proofs.lemmas.List.Elements.{Contains-append_left, Contains-push}
use Rattle.std.proofs.lemmas.Option.{same_Some, slice_get_read, slice_get_within, slice_get-get_or}
use Rattle.std.specs.Prelude.{min, slice_get}
use Rattle.vortex_expr.specs.Trees.Tree.{Place, Tree}
use Rattle.vortex_prune.proofs.Scanning.ScanLemmas.{selected_more, skipped_more, tested_more, whole_more}
use Rattle.vortex_prune.specs.Part.{IsPart, PartData}
use Rattle.vortex_prune.specs.Scanning.PartScans.{AreTold, IsListed, IsSameTest, TellsOf}
use Rattle.vortex_prune.specs.Scanning.Selection.{Answered, is_proved, is_skipped, is_whole, place_if, rows_by, rows_tested, selected_rows, skipped_parts, tested_rows, verdict, whole_parts}
use Rattle.vortex_prune.specs.declared.scan.verdict.Verdict.{Verdict}
use Rattle.vortex_prune.specs.declared.scan.verdict.Verdict.TheVariants.{Skipped, Whole, Tested}
use Rattle.vortex_stats.specs.declared.error.StatsError.{StatsError}

-- something was told of each part before this one, and those that it skips are listed
abbrev pub AreToldBelow : (tells : ℕ → PartData → Verdict → Type 0) → ℕ → List PartData → (skipped : List ℕ) → Type 0
AreToldBelow tells n parts skipped = (i : ℕ) (part : PartData) → i < n → slice_get parts i ≡ Some part → (v : Verdict) × tells i part v × IsListed v skipped i

-- ---- a test goes on as it began

module _ (able able' able'' : ℕ → Type 0) (tells tells' tells'' : ℕ → PartData → Verdict → Type 0) (refuses refuses' refuses'' : ℕ → PartData → StatsError → Type 0) where
  pub same_again : IsSameTest able able' tells tells' refuses refuses' → IsSameTest able' able'' tells' tells'' refuses' refuses'' → IsSameTest able able'' tells tells'' refuses refuses''
  same_again s t = record {
    is_able = λ i h. t.is_able i (s.is_able i h);
    is_told = λ i part v h. s.is_told i part v (t.is_told i part v h);
    is_refused = λ i part f h. s.is_refused i part f (t.is_refused i part f h);
  }

pub same_at_first : (able : ℕ → Type 0) (tells : ℕ → PartData → Verdict → Type 0) (refuses : ℕ → PartData → StatsError → Type 0) → IsSameTest able able tells tells refuses refuses
same_at_first able tells refuses = record { is_able = λ i h. h; is_told = λ i part v h. h; is_refused = λ i part f h. h }

-- ---- those that are skipped are listed

listed_later : (v : Verdict) (xs ys : List ℕ) (i : ℕ) → IsListed v xs i → IsListed v (xs ++ ys) i
listed_later Skipped xs ys i h = Contains-append_left xs ys i h
listed_later Whole xs ys i h = tt
listed_later Tested xs ys i h = tt

listed_now : (v : Verdict) (xs : List ℕ) (i : ℕ) → IsListed v (xs ++ place_if (is_skipped v) i) i
listed_now Skipped xs i = Contains-push xs i
listed_now Whole xs i = tt
listed_now Tested xs i = tt

pub skipped_by : (b w : Bool) → is_skipped (if b then Skipped else if w then Whole else Tested) ≡ b
skipped_by true w = refl
skipped_by false true = refl
skipped_by false false = refl

least_again : (a b most : ℕ) → min (min a most + b) most ≡ min (a + b) most
least_again a b most = omega arith

module _ (tells : ℕ → PartData → Verdict → Type 0) (parts : List PartData) where
  pub told_more : (n : ℕ) (part : PartData) (v : Verdict) (old new : List ℕ) → n < length parts → part ≡ get_or parts n part → tells n part v → new ≡ old ++ place_if (is_skipped v) n
      → AreToldBelow tells n parts old → AreToldBelow tells (n + 1) parts new
  told_more n part v old new h is own pushed below i other less there =
      let place : i ≤ n = omega (arith, less) in
      elim (eq-or-lt_of_le place) [
        | inl here ↦ (let read : Some part ≡ Some other = sym (slice_get_read parts (length parts) n part refl h is) ∙ ap (slice_get parts) (sym here) ∙ there in (
          v,
          subst (λ (k : ℕ). tells k other v) (sym here) (subst (λ (p : PartData). tells n p v) (same_Some part other read) own),
          subst (λ (k : ℕ). IsListed v new k) (sym here) (subst (λ (l : List ℕ). IsListed v l n) (sym pushed) (listed_now v old n)),
        ))
        | inr before ↦ (let b = below i other before there in
            (b.0, b.1, subst (λ (l : List ℕ). IsListed b.0 l i) (sym pushed) (listed_later b.0 old (place_if (is_skipped v) n) i b.2)))
      ]

  pub told_all : (n : ℕ) (skipped : List ℕ) → length parts ≤ n → AreToldBelow tells n parts skipped → AreTold tells parts skipped
  told_all n skipped h below i part there = below i part (omega (arith, slice_get_within parts i part there, h)) there

  module _ (f s : Option (Tree Place)) (answers : List Answered) (told : TellsOf tells f s parts answers) (n : ℕ) (part : PartData) (v : Verdict) (h : n < length parts) (is : part ≡ get_or parts n part) (is_part : IsPart part) (at : tells n part v) where
    -- the part with its answers, and what was told of it
    answer_there : (d : Answered) × (d ≡ get_or answers n d) × (d.0 ≡ part) × (v ≡ verdict f s d.0 d.1)
    answer_there =
        let t = told.there n part (slice_get_read parts (length parts) n part refl h is) in
        let within = slice_get_within answers n t.0 t.1 in (
          t.0,
          same_Some t.0 (get_or answers n t.0) (sym t.1 ∙ slice_get-get_or answers n t.0 within),
          t.2,
          told.same n t.0 v t.1 (subst IsPart (sym t.2) is_part) (subst (λ (p : PartData). tells n p v) (sym t.2) at),
        )

    long : n < length answers
    long = omega (arith, h, told.long)

    -- so one more part was looked at
    pub skipped_next : (old new : List ℕ) → new ≡ old ++ place_if (is_skipped v) n → old ≡ skipped_parts f (take n answers) → new ≡ skipped_parts f (take (n + 1) answers)
    skipped_next old new pushed before =
        let t = answer_there in
        pushed ∙ ap (λ c. old ++ place_if (is_skipped c) n) t.3
        ∙ ap (λ c. old ++ place_if c n) (skipped_by (is_proved f t.0.0 t.0.1) (is_proved s t.0.0 t.0.1))
        ∙ ap (λ l. l ++ place_if (is_proved f t.0.0 t.0.1) n) before
        ∙ ap (λ (d : Answered). skipped_parts f (take n answers) ++ place_if (is_proved f d.0 d.1) n) t.1
        ∙ sym (skipped_more f answers n t.0 long)

    pub whole_next : (old new : List ℕ) → new ≡ old ++ place_if (is_whole v) n → old ≡ whole_parts f s (take n answers) → new ≡ whole_parts f s (take (n + 1) answers)
    whole_next old new pushed before =
        let t = answer_there in
        pushed ∙ ap (λ c. old ++ place_if (is_whole c) n) t.3
        ∙ ap (λ l. l ++ place_if (is_whole (verdict f s t.0.0 t.0.1)) n) before
        ∙ ap (λ (d : Answered). whole_parts f s (take n answers) ++ place_if (is_whole (verdict f s d.0 d.1)) n) t.1
        ∙ sym (whole_more f s answers n t.0 long)

    pub selected_next : (p : Tree Place) (old new : List (ℕ × ℕ)) → new ≡ old ++ rows_by v p n part.chunk → old ≡ selected_rows f s p (take n answers) → new ≡ selected_rows f s p (take (n + 1) answers)
    selected_next p old new pushed before =
        let t = answer_there in
        pushed ∙ ap (λ c. old ++ rows_by c p n part.chunk) t.3 ∙ ap (λ (q : PartData). old ++ rows_by (verdict f s t.0.0 t.0.1) p n q.chunk) (sym t.2)
        ∙ ap (λ l. l ++ rows_by (verdict f s t.0.0 t.0.1) p n t.0.0.chunk) before
        ∙ ap (λ (d : Answered). selected_rows f s p (take n answers) ++ rows_by (verdict f s d.0 d.1) p n d.0.chunk) t.1
        ∙ sym (selected_more f s p answers n t.0 long)

    pub tested_next : (old new most : ℕ) → new ≡ min (old + rows_tested v part.chunk) most → old ≡ min (tested_rows f s (take n answers)) most → new ≡ min (tested_rows f s (take (n + 1) answers)) most
    tested_next old new most raised before =
        let t = answer_there in
        let same : rows_tested v part.chunk ≡ rows_tested (verdict f s (get_or answers n t.0).0 (get_or answers n t.0).1) (get_or answers n t.0).0.chunk =
        ap (λ c. rows_tested c part.chunk) t.3 ∙ ap (λ (q : PartData). rows_tested (verdict f s t.0.0 t.0.1) q.chunk) (sym t.2)
        ∙ ap (λ (d : Answered). rows_tested (verdict f s d.0 d.1) d.0.chunk) t.1 in
        let more = tested_more f s answers n t.0 long in
        raised ∙ ap (λ k. min (k + rows_tested v part.chunk) most) before ∙ ap (λ k. min (min (tested_rows f s (take n answers)) most + k) most) same
        ∙ least_again (tested_rows f s (take n answers)) (rows_tested (verdict f s (get_or answers n t.0).0 (get_or answers n t.0).1) (get_or answers n t.0).0.chunk) most
        ∙ ap (λ k. min k most) (sym more)

  -- all parts were looked at
  pub all_answered : (f s : Option (Tree Place)) (answers : List Answered) (n : ℕ) → TellsOf tells f s parts answers → length parts ≤ n → take n answers ≡ answers
  all_answered f s answers n told h = take_all n answers (omega (arith, told.long, h))
