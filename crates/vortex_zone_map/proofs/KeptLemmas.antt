-- What is told says the same when texts are added behind the others.
use Rattle.std.proofs.Common.{◌≡◌, ◌≤◌, ◌<◌, ◌++◌, ◌∙◌, ℕ, zero, suc, List, [], ◌∷◌, ap, ap₂, arith, length, refl, subst, sym}
use Rattle.std.proofs.lemmas.List.{append-nil, append_assoc, length-append, map_push}
use Rattle.std.specs.Prelude.{slice_get}
use Rattle.vortex_base.specs.declared.array_data.PrimitiveScalar.{PrimitiveScalar}
use Rattle.vortex_base.specs.declared.array_data.PrimitiveScalar.TheVariants as cell
use Rattle.vortex_base.specs.declared.scalar_value.ScalarValue.{ScalarValue}
use Rattle.vortex_rewrite.proofs.Logic.{all_append}
use Rattle.vortex_zone_map.specs.Kept.{AreKept, IsFormed, IsLonger, IsPlace, Saying, exact, formed, inexact, long_value, said, saying}
use Rattle.vortex_zone_map.specs.declared.stored_value.ValueTag.{ValueTag}
use Rattle.vortex_zone_map.specs.declared.stored_value.ValueTag.TheVariants as form
use Rattle.vortex_zone_map.specs.declared.stat_entry.StatEntry.{StatEntry}

in_front : {X : Type 0} (xs ys : List X) (k : ℕ) → k < length xs → slice_get (xs ++ ys) k ≡ slice_get xs k
in_front [] ys k h = absurd (omega (arith, h))
in_front (x ∷ xs) ys zero h = refl
in_front (x ∷ xs) ys (suc k) h = in_front xs ys k (omega (arith, h))

place_grows : (var_len_values more : List ScalarValue) (c : PrimitiveScalar) → IsPlace (length var_len_values) c → long_value (var_len_values ++ more) c ≡ long_value var_len_values c
place_grows var_len_values more (cell.U64 k) h = in_front var_len_values more k h
place_grows var_len_values more _ h = refl

formed_grows : (var_len_values more : List ScalarValue) (f : ValueTag) (c : PrimitiveScalar) → IsFormed (length var_len_values) f c → formed (var_len_values ++ more) f c ≡ formed var_len_values f c
formed_grows var_len_values more form.LongExact c h = ap exact (place_grows var_len_values more c h)
formed_grows var_len_values more form.LongInexact c h = ap inexact (place_grows var_len_values more c h)
formed_grows var_len_values more form.Absent c h = refl
formed_grows var_len_values more form.Exact c h = refl
formed_grows var_len_values more form.Inexact c h = refl

stays_place : (m n : ℕ) (c : PrimitiveScalar) → m ≤ n → IsPlace m c → IsPlace n c
stays_place m n (cell.U64 k) le h = omega (arith, le, h)
stays_place m n _ le h = tt

stays_formed : (m n : ℕ) (f : ValueTag) (c : PrimitiveScalar) → m ≤ n → IsFormed m f c → IsFormed n f c
stays_formed m n form.LongExact c le h = stays_place m n c le h
stays_formed m n form.LongInexact c le h = stays_place m n c le h
stays_formed m n form.Absent c le h = tt
stays_formed m n form.Exact c le h = tt
stays_formed m n form.Inexact c le h = tt

said_grows : (var_len_values more : List ScalarValue) (ts : List StatEntry) → AreKept (length var_len_values) ts → said (var_len_values ++ more) ts ≡ said var_len_values ts
said_grows var_len_values more [] all = refl
said_grows var_len_values more (t ∷ ts) (is, all) =
    ap₂ (λ v (l : List Saying). let s : Saying = record { column = t.column; stat = t.stat; value = v } in s ∷ l) (formed_grows var_len_values more t.form t.cell is) (said_grows var_len_values more ts all)

stays_kept : (m n : ℕ) (ts : List StatEntry) → m ≤ n → AreKept m ts → AreKept n ts
stays_kept m n [] le all = tt
stays_kept m n (t ∷ ts) le (is, all) = (stays_formed m n t.form t.cell le is, stays_kept m n ts le all)

-- ---- texts behind others

pub longer_same : (var_len_values : List ScalarValue) → IsLonger var_len_values var_len_values
longer_same var_len_values = record { more = []; same = sym (append-nil var_len_values) }

pub longer_on : (a b c : List ScalarValue) → IsLonger a b → IsLonger b c → IsLonger a c
longer_on a b c first second = record {
  more = first.more ++ second.more;
  same = second.same ∙ ap (λ l. l ++ second.more) first.same ∙ append_assoc a first.more second.more;
}

pub one_longer : (old new : List ScalarValue) (v : ScalarValue) → new ≡ old ++ v ∷ [] → IsLonger old new
one_longer old new v pushed = record { more = v ∷ []; same = pushed }

module _ (old new : List ScalarValue) (longer : IsLonger old new) (ts : List StatEntry) (kept : AreKept (length old) ts) where
  pub said_longer : said new ts ≡ said old ts
  said_longer = ap (λ l. said l ts) longer.same ∙ said_grows old longer.more ts kept

  pub kept_longer : AreKept (length new) ts
  kept_longer =
      let long = length-append old longer.more in
      let le : length old ≤ length (old ++ longer.more) = omega (arith, long) in
      subst (λ l. AreKept (length l) ts) (sym longer.same) (stays_kept (length old) (length (old ++ longer.more)) ts le kept)

  -- one more statistic is told
  pub one_more_said : (more : List StatEntry) (t : StatEntry) (s : Saying) → more ≡ ts ++ t ∷ [] → saying new t ≡ s → said new more ≡ said old ts ++ s ∷ []
  one_more_said more t s pushed says = ap (said new) pushed ∙ map_push (saying new) ts t ∙ ap₂ (λ (l : List Saying) (x : Saying). l ++ x ∷ []) said_longer says

  pub one_more_kept : (more : List StatEntry) (t : StatEntry) → more ≡ ts ++ t ∷ [] → IsFormed (length new) t.form t.cell → AreKept (length new) more
  one_more_kept more t pushed is = subst (AreKept (length new)) (sym pushed) (all_append (λ (x : StatEntry). IsFormed (length new) x.form x.cell) ts (t ∷ []) kept_longer (is, tt))
