-- Statistics of a page that are true of its rows say true things of some of them.
use Rattle.std.proofs.Common.{◌≡◌, ℕ, ◌+◌, ◌-◌, ◌≤◌, Bool, true, false, cond, eqb, List, [], ◌∷◌, ◌++◌, length, take, drop, Option, Some, None, refl, sym, ap, subst, ◌∙◌, arith, length-append, length-drop, Contains}
use Rattle.std.specs.Prelude.{is_none, ◌||◌}
use Rattle.std.proofs.lemmas.Bool.{eqb-true}
use Rattle.std.proofs.lemmas.List.{drop-drop, length-take}
use Rattle.std.proofs.lemmas.List.Elements.{Contains-append_left, Contains-append_right}
use Rattle.std.proofs.lemmas.List.Sums.{count_by-le-length}
use Rattle.std.proofs.Math.Seq.{take-add}
use Rattle.vortex_base.specs.declared.scalar_value.ScalarValue.{ScalarValue}
use Rattle.vortex_base.specs.Data.Columns.{ColumnData}
use Rattle.vortex_base.specs.Data.Exact.{both_true}
use Rattle.vortex_stats.specs.declared.stat.Stat.{Stat}
use Rattle.vortex_stats.specs.Sets.Claims.{Claims, null_count}
use Rattle.vortex_stats.specs.Sets.Entries.{entry_value}
use Rattle.vortex_stats.proofs.Merging.Counts.{null_count-append}
use Rattle.vortex_parquet.specs.declared.columns.Form.{Form}
use Rattle.vortex_parquet.specs.Pages.{ArePagesTrue, PageData, values_of}
use Rattle.vortex_parquet.specs.Records.{StatisticsData}
use Rattle.vortex_parquet.specs.Stats.{Entries}
use Rattle.vortex_parquet.specs.Stretches.{IsSetIn, PagedData, TrueStretches, column_of_rows, nulls_within, within}
use Rattle.vortex_parquet.specs.Truth.{AreTrue}
use Rattle.vortex_parquet.proofs.True.{set_claims}

-- ---- some rows of a page

module _ (front ys back : List (Option ScalarValue)) where
  in_whole : (x : Option ScalarValue) → Contains ys x → Contains (front ++ (ys ++ back)) x
  in_whole x h = Contains-append_right front (ys ++ back) x (Contains-append_left ys back x h)

  -- how many are null, where none of the page's rows is, and where each is
  counted : null_count (front ++ (ys ++ back)) ≡ null_count front + (null_count ys + null_count back)
  counted = null_count-append front (ys ++ back) ∙ ap (λ (n : ℕ). null_count front + n) (null_count-append ys back)

  long : length (front ++ (ys ++ back)) ≡ length front + (length ys + length back)
  long = simp length-append

  none_null : null_count (front ++ (ys ++ back)) ≡ 0 → null_count ys ≡ 0
  none_null e = omega (arith, counted, e)

  each_null : null_count (front ++ (ys ++ back)) ≡ length (front ++ (ys ++ back)) → null_count ys ≡ length ys
  each_null e = omega (arith, counted, long, e, count_by-le-length is_none front, count_by-le-length is_none ys, count_by-le-length is_none back)

  all_rows : length (front ++ (ys ++ back)) ≡ length ys → null_count ys ≡ null_count (front ++ (ys ++ back))
  all_rows e =
      let f : length front ≡ 0 = omega (arith, long, e) in
      let b : length back ≡ 0 = omega (arith, long, e) in
      omega (arith, counted, count_by-le-length is_none front, count_by-le-length is_none back)

some_is : (m n : ℕ) → Some m ≡ Some n → m ≡ n
some_is m n e = cc

module _ (front ys back : List (Option ScalarValue)) (m n k : ℕ) (few : length (front ++ (ys ++ back)) ≤ m) (many : length ys ≡ n) (known : null_count (front ++ (ys ++ back)) ≡ k) where
  nulls_by : (a b c : Bool) (j : ℕ) → eqb k 0 ≡ a → eqb m n ≡ b → eqb k m ≡ c → cond (a || b) (Some k) (cond c (Some n) None) ≡ Some j → null_count ys ≡ j
  nulls_by true b c j ea eb ec e = none_null front ys back (known ∙ eqb-true k 0 ea) ∙ sym (eqb-true k 0 ea) ∙ some_is k j e
  nulls_by false true c j ea eb ec e = all_rows front ys back (omega (arith, eqb-true m n eb, few, many, long front ys back)) ∙ known ∙ some_is k j e
  nulls_by false false true j ea eb ec e = each_null front ys back (omega (arith, eqb-true k m ec, few, known, count_by-le-length is_none (front ++ (ys ++ back)))) ∙ many ∙ some_is n j e
  nulls_by false false false j ea eb ec e = absurd cc

nulls_true : (m n : ℕ) (o : Option ℕ) (front ys back : List (Option ScalarValue)) → length (front ++ (ys ++ back)) ≤ m → length ys ≡ n → ((k : ℕ) → o ≡ Some k → null_count (front ++ (ys ++ back)) ≡ k)
    → (j : ℕ) → nulls_within m n o ≡ Some j → null_count ys ≡ j
nulls_true m n None front ys back few many known j e = absurd cc
nulls_true m n (Some k) front ys back few many known j e = nulls_by front ys back m n k few many (known k refl) (eqb k 0) (eqb m n) (eqb k m) j refl refl refl e

part_true : (f : Form) (o : Bool) (s : StatisticsData) (m n : ℕ) (front ys back : List (Option ScalarValue)) → length (front ++ (ys ++ back)) ≤ m → length ys ≡ n → AreTrue f o s (front ++ (ys ++ back)) → AreTrue f o (within m n s) ys
part_true f o s m n front ys back few many h = record {
  max = λ t b v e k. (λ w i. (h.max t b v e k).0 w (in_whole front ys back (Some w) i), λ x. absurd cc);
  min = λ t b v e k. (λ w i. (h.min t b v e k).0 w (in_whole front ys back (Some w) i), λ x. absurd cc);
  old_max = λ t b v e k w i. h.old_max t b v e k w (in_whole front ys back (Some w) i);
  old_min = λ t b v e k w i. h.old_min t b v e k w (in_whole front ys back (Some w) i);
  null_count = λ j e. nulls_true m n s.null_count front ys back few many h.null_count j e;
}

-- ---- rows of a page by their places

values_are : (a k n r : ℕ) (xs : List (Option ScalarValue)) → values_of a (k + (n + r)) xs ≡ take k (drop a xs) ++ (values_of (a + k) n xs ++ take r (drop n (drop k (drop a xs))))
values_are a k n r xs =
    let ys : List (Option ScalarValue) = drop a xs in
    take-add k (n + r) ys
    ∙ ap (λ (zs : List (Option ScalarValue)). take k ys ++ zs) (take-add n r (drop k ys) ∙ ap (λ (zs : List (Option ScalarValue)). take n zs ++ take r (drop n (drop k ys))) (drop-drop k a xs))

page_part : (f : Form) (o : Bool) (p : PageData) (from n : ℕ) (xs : List (Option ScalarValue)) → p.first ≤ from → from + n ≤ p.end → from + n ≤ length xs
    → AreTrue f o p.statistics (values_of p.first (p.end - p.first) xs) → AreTrue f o (within (p.end - p.first) n p.statistics) (values_of from n xs)
page_part f o p from n xs begins ends inside h =
    let k : ℕ = from - p.first in
    let r : ℕ = p.end - (from + n) in
    let all : k + (n + r) ≡ p.end - p.first = omega arith in
    let at : p.first + k ≡ from = omega arith in
    let front : List (Option ScalarValue) = take k (drop p.first xs) in
    let back : List (Option ScalarValue) = take r (drop n (drop k (drop p.first xs))) in
    let split : values_of p.first (p.end - p.first) xs ≡ front ++ (values_of (p.first + k) n xs ++ back) = ap (λ (m : ℕ). values_of p.first m xs) (sym all) ∙ values_are p.first k n r xs in
    let few : length (front ++ (values_of (p.first + k) n xs ++ back)) ≤ p.end - p.first = omega (arith, ap length split, length-take (p.end - p.first) (drop p.first xs)) in
    let many : length (values_of (p.first + k) n xs) ≡ n = omega (arith, length-take n (drop (p.first + k) xs), length-drop (p.first + k) xs) in
    let whole : AreTrue f o p.statistics (front ++ (values_of (p.first + k) n xs ++ back)) = subst (λ (ys : List (Option ScalarValue)). AreTrue f o p.statistics ys) split h in
    subst (λ (a : ℕ). AreTrue f o (within (p.end - p.first) n p.statistics) (values_of a n xs)) at (part_true f o p.statistics (p.end - p.first) n front (values_of (p.first + k) n xs) back few many whole)

-- ---- the sets of a stretch

set_true : (c : PagedData) (k : ColumnData) (rows from n : ℕ) (es : Entries) → IsSetIn c from n es → from + n ≤ rows → length k.values ≡ rows → ArePagesTrue c.form c.ordered c.pages k.values
    → (stat : Stat) → Claims stat (entry_value stat es) (column_of_rows from n k)
set_true c k rows from n es h inside long true_pages stat =
    let p = h.page in
    let part = page_part c.form c.ordered p from n k.values h.begins h.ends (omega (arith, inside, long)) (true_pages p h.here) in
    subst (λ (xs : Entries). Claims stat (entry_value stat xs) (column_of_rows from n k)) (sym h.made) (set_claims c.form c.ordered (within (p.end - p.first) n p.statistics) (column_of_rows from n k) part stat)

pub stretches_true : TrueStretches
stretches_true [] [] rows from n [] sets inside long pages fit = tt
stretches_true (c ∷ cs) (k ∷ ks) rows from n (es ∷ ss) sets inside long pages fit =
    let l = both_true (eqb (length k.values) rows) _ long in (
      record { fits = fit.0; claims = set_true c k rows from n es sets.0 inside (eqb-true (length k.values) rows l.0) pages.0 },
      stretches_true cs ks rows from n ss sets.1 inside l.1 pages.1 fit.1,
    )
stretches_true [] (k ∷ ks) rows from n sets h inside long pages fit = absurd pages
stretches_true (c ∷ cs) [] rows from n sets h inside long pages fit = absurd pages
stretches_true [] [] rows from n (es ∷ ss) h inside long pages fit = absurd h
stretches_true (c ∷ cs) (k ∷ ks) rows from n [] h inside long pages fit = absurd h
