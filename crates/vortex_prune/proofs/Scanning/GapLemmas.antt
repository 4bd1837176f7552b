-- Expressions as gaps, gaps of the same operands, and what gathering them keeps.
use Rattle.std.proofs.Common.{◌≡◌, ◌⊎◌, inl, inr, ◌+◌, ◌≤◌, ◌<◌, ℕ, zero, suc, Bool, true, false, not, ◌&&◌, ◌||◌, List, [], ◌∷◌, ◌++◌, Option, Some, None, refl, sym, ap, ◌∙◌, subst, arith, length, length-append, get_or}
use Rattle.std.specs.List.{All, list_all}
use Rattle.std.specs.List.Sorted.{IsPermutation}
use Rattle.std.specs.Prelude.{slice_get, IfSome}
use Rattle.std.proofs.lemmas.List.Sorted.{All-permutation, IsPermutation-sym}
use Rattle.std.proofs.lemmas.Option.{same_Some}
use Rattle.std.proofs.lemmas.Bool.{cases_lt}
use Rattle.vortex_base.specs.Data.Columns.{ColumnData, row_of, value_at}
use Rattle.vortex_base.specs.Data.Scalars.{Constant}
use Rattle.vortex_expr.specs.Meanings.Meaning.{is_true, meaning, satisfies}
use Rattle.vortex_expr.specs.Trees.Tree.{Tree, Place, binary}
use Rattle.vortex_expr.specs.declared.scalar_fn.Operator.TheVariants.{And, Or}
use Rattle.vortex_rewrite.proofs.Soundness.TruthLogic.{true_and, true_or}
use Rattle.vortex_prune.proofs.Scanning.GapOrder.{all_by, sure_flagged, sure_open}
use Rattle.vortex_prune.proofs.ZoneMaps.ZoneMarks.{marked-marked, marked-same}
use Rattle.vortex_prune.specs.Scanning.Gaps.{AreAlike, GoesWith, IsAlike, IsBesideEnds, IsBesideSpan, IsFlagOf, IsGapOf, IsGathered, IsOn, IsOnItsOwn, IsPut, IsSideOf, IsSure, are_passed_at, are_true_at, flag_tree, gap_passes, is_end, is_gap_true, is_untrue_at, passes_by, side_passes, worth}
use Rattle.vortex_prune.specs.Scanning.Leaves.{IsColumnOf}
use Rattle.vortex_prune.specs.Scanning.Marks.{count_at, is_true_at, left_marked, marked}
use Rattle.vortex_prune.specs.declared.scan.gaps.Gap.{Gap}
use Rattle.vortex_prune.specs.declared.scan.sides.Flag.{Flag}
use Rattle.vortex_prune.specs.declared.scan.sides.Side.{Side}
use Rattle.vortex_prune.specs.declared.scan.marks.Counts.{Counts}

-- ---- expressions as gaps

or_turned : (x y : Bool) → (x || y) ≡ (y || x)
or_turned true true = refl
or_turned true false = refl
or_turned false true = refl
or_turned false false = refl

not_turned : (x y s : Bool) → not (x && (y && s)) ≡ not (y && (x && s))
not_turned true true s = refl
not_turned true false s = refl
not_turned false true s = refl
not_turned false false s = refl

open_on : (cs : List ColumnData) (l r : Tree Place) (a b : Side) → IsSideOf cs l a → IsSideOf cs r b → IsOnItsOwn cs (record { above = a; below = b; flag = None })
open_on cs l r a b h k = record {
  above = refl;
  below = refl;
  flag = refl;
  above_column = h.column;
  below_column = k.column;
  flag_column = tt;
  sure = sure_open a b;
}

pub gap_made : (cs : List ColumnData) (l r : Tree Place) (a b : Side) → IsSideOf cs l a → IsSideOf cs r b → IsGapOf cs l r (record { above = a; below = b; flag = None })
gap_made cs l r a b h k = record { told = λ row n. (λ i. h.told row n i || k.told row n i); on = open_on cs l r a b h k }

-- two sides in the other order
pub gap_turned : (cs : List ColumnData) (l r : Tree Place) (a b : Side) → IsSideOf cs l a → IsSideOf cs r b → IsGapOf cs l r (record { above = b; below = a; flag = None })
gap_turned cs l r a b h k = record {
  told = λ row n. (λ i. h.told row n i || k.told row n i) ∙ or_turned (side_passes a (meaning a.operand.now row n)) (side_passes b (meaning b.operand.now row n));
  on = open_on cs r l b a k h;
}

module _ (cs : List ColumnData) (l r f : Tree Place) (a b : Side) (c : Flag) (h : IsSideOf cs l a) (k : IsSideOf cs r b) (m : IsFlagOf cs f c) where
  set_told : (row : List Constant) (n : ℕ) → satisfies f row n ≡ is_true (meaning c.operand.now row n)
  set_told row n = ap (λ (e : Tree Place). satisfies e row n) (sym m.is)

  pub ends_made : is_end a.operator ≡ true → IsBesideEnds cs l r f (record { above = a; below = b; flag = Some c })
  ends_made e = record {
    told = λ row n. (λ i. not (h.told row n i && (k.told row n i && set_told row n i)));
    on = record {
      above = refl;
      below = refl;
      flag = refl;
      above_column = h.column;
      below_column = k.column;
      flag_column = m.column;
      sure = sure_flagged a b c e;
    };
  }

  pub ends_turned : is_end b.operator ≡ true → IsBesideEnds cs l r f (record { above = b; below = a; flag = Some c })
  ends_turned e = record {
    told = λ row n.
        (λ i. not (h.told row n i && (k.told row n i && set_told row n i)))
        ∙ not_turned (side_passes a (meaning a.operand.now row n)) (side_passes b (meaning b.operand.now row n)) (is_true (meaning c.operand.now row n));
    on = record {
      above = refl;
      below = refl;
      flag = refl;
      above_column = k.column;
      below_column = h.column;
      flag_column = m.column;
      sure = sure_flagged b a c e;
    };
  }

and_again : (x y z : Bool) → ((x && y) && z) ≡ (x && (y && z))
and_again true y z = refl
and_again false y z = refl

and_twice : (x y z : Bool) → ((x && y) && (z && y)) ≡ (x && (z && y))
and_twice true true z = refl
and_twice true false true = refl
and_twice true false false = refl
and_twice false y z = refl

-- a flag beside both ends of a span
pub span_of_ends : (cs : List ColumnData) (l r a b : Tree Place) (o : Option Gap) → l ≡ binary And a b → IfSome o (IsBesideEnds cs a b r) → IfSome o (IsBesideSpan cs l r)
span_of_ends cs l r a b None is h = tt
span_of_ends cs l r a b (Some g) is h = record {
  told = λ row n.
      ap (λ p. not (p && satisfies r row n)) (ap (λ (e : Tree Place). satisfies e row n) is ∙ true_and (meaning a row n) (meaning b row n))
      ∙ ap not (and_again (satisfies a row n) (satisfies b row n) (satisfies r row n))
      ∙ h.told row n;
  on = h.on;
}

-- or beside each
pub span_of_both : (cs : List ColumnData) (l r a b c d : Tree Place) (o : Option Gap) → l ≡ binary And a b → r ≡ binary And c d → b ≡ d → IfSome o (IsBesideEnds cs a c b) → IfSome o (IsBesideSpan cs l r)
span_of_both cs l r a b c d None is so same h = tt
span_of_both cs l r a b c d (Some g) is so same h = record {
  told = λ row n.
      ap (λ p. not (p && satisfies r row n)) (ap (λ (e : Tree Place). satisfies e row n) is ∙ true_and (meaning a row n) (meaning b row n))
      ∙ ap (λ p. not ((satisfies a row n && satisfies b row n) && p)) (ap (λ (e : Tree Place). satisfies e row n) so ∙ true_and (meaning c row n) (meaning d row n))
      ∙ ap (λ (e : Tree Place). not ((satisfies a row n && satisfies b row n) && (satisfies c row n && satisfies e row n))) (sym same)
      ∙ ap not (and_twice (satisfies a row n) (satisfies b row n) (satisfies c row n))
      ∙ h.told row n;
  on = h.on;
}

-- ---- gaps of the same operands

pub some_at : (gs : List Gap) (k : ℕ) (g : Gap) → slice_get gs k ≡ Some g → (k < length gs) × ((d : Gap) → get_or gs k d ≡ g)
some_at [] k g h = absurd cc
some_at (f ∷ gs) zero g h = (omega arith, λ d. same_Some _ _ h)
some_at (f ∷ gs) (suc k) g h = let e = some_at gs k g h in (omega (arith, e.0), e.1)

on_alike : (cs : List ColumnData) (x y : Tree Place) (z : Option (Tree Place)) (f g : Gap) → IsOn cs x y z f → IsAlike f g → IsOnItsOwn cs g → IsOn cs x y z g
on_alike cs x y z f g h k own = record {
  above = sym k.above ∙ h.above;
  below = sym k.below ∙ h.below;
  flag = sym k.flag ∙ h.flag;
  above_column = own.above_column;
  below_column = own.below_column;
  flag_column = own.flag_column;
  sure = own.sure;
}

get_before : (gs : List Gap) (g d : Gap) (k : ℕ) → k < length gs → get_or (gs ++ g ∷ []) k d ≡ get_or gs k d
get_before [] g d k h = absurd (omega (arith, h))
get_before (f ∷ gs) g d zero h = refl
get_before (f ∷ gs) g d (suc k) h = get_before gs g d k (omega (arith, h))

get_behind : (gs : List Gap) (g d : Gap) → get_or (gs ++ g ∷ []) (length gs) d ≡ g
get_behind [] g d = refl
get_behind (f ∷ gs) g d = get_behind gs g d

-- what is so of each gap and of one more is so of each with it
all_more : (P : Gap → Type 0) (gs : List Gap) (g : Gap) → All P gs → P g → All P (gs ++ g ∷ [])
all_more P gs g f p k d h = by (cases_lt k (length gs))
  where
    by : (k < length gs) ⊎ (length gs ≤ k) → P (get_or (gs ++ g ∷ []) k d)
    by (inl l) = subst P (sym (get_before gs g d k l)) (f k d l)
    by (inr l) =
        let long : length (gs ++ g ∷ []) ≡ length gs + 1 = length-append gs (g ∷ []) in
        let e : length gs ≡ k = omega (arith, h, long, l) in
        subst (λ n. P (get_or (gs ++ g ∷ []) n d)) e (subst P (sym (get_behind gs g d)) p)

alike_more : (cs : List ColumnData) (gs : List Gap) (g : Gap) → AreAlike cs gs → GoesWith gs g → IsOnItsOwn cs g → AreAlike cs (gs ++ g ∷ [])
alike_more cs [] g h goes own = record {
  x = g.above.operand.now;
  y = g.below.operand.now;
  z = flag_tree g.flag;
  on = all_more (IsOn cs g.above.operand.now g.below.operand.now (flag_tree g.flag)) [] g (λ k d l. absurd (omega (arith, l))) own;
}
alike_more cs (f ∷ gs) g h goes own = record {
  x = h.x;
  y = h.y;
  z = h.z;
  on = all_more (IsOn cs h.x h.y h.z) (f ∷ gs) g h.on (on_alike cs h.x h.y h.z f g (h.on 0 f (omega arith)) (goes f (omega arith)) own);
}

-- whether it was put behind the others or not
pub alike_if : (b : Bool) (cs : List ColumnData) (gs new : List Gap) (g : Gap) → (b ≡ true → new ≡ gs ++ g ∷ []) → (b ≡ false → new ≡ gs) → (b ≡ true → GoesWith gs g) → IsOnItsOwn cs g → AreAlike cs gs → AreAlike cs new
alike_if true cs gs new g t f goes own h = subst (AreAlike cs) (sym (t refl)) (alike_more cs gs g h (goes refl) own)
alike_if false cs gs new g t f goes own h = subst (AreAlike cs) (sym (f refl)) h

pub none_alike : (cs : List ColumnData) (gs : List Gap) (e : Tree Place) → gs ≡ [] → AreAlike cs gs
none_alike cs gs e is = subst (AreAlike cs) (sym is) (record { x = e; y = e; z = None; on = λ k d l. absurd (omega (arith, l)) })

pub alike_moved : (cs : List ColumnData) (gs hs : List Gap) → IsPermutation gs hs → AreAlike cs gs → AreAlike cs hs
alike_moved cs gs hs p h = record { x = h.x; y = h.y; z = h.z; on = All-permutation (IsOn cs h.x h.y h.z) gs hs p h.on }

pub alike_sure : (cs : List ColumnData) (gs : List Gap) → AreAlike cs gs → All IsSure gs
alike_sure cs gs h k d l = (h.on k d l).sure

-- ---- the values of their columns on a row

first_of : (a b : Bool) → (a && b) ≡ true → a ≡ true
first_of true b h = refl
first_of false b h = absurd cc

rest_of : (a b : Bool) → (a && b) ≡ true → b ≡ true
rest_of true b h = h
rest_of false b h = absurd cc

pass_all_of : (p : Gap → Bool) (gs : List Gap) → list_all p gs ≡ true → All (λ g. p g ≡ true) gs
pass_all_of p [] h k d l = absurd (omega (arith, l))
pass_all_of p (g ∷ gs) h zero d l = first_of (p g) (list_all p gs) h
pass_all_of p (g ∷ gs) h (suc k) d l = pass_all_of p gs (rest_of (p g) (list_all p gs) h) k d (omega (arith, l))

either_way : (a b : Bool) → (a ≡ true → b ≡ true) → (b ≡ true → a ≡ true) → a ≡ b
either_way true true f g = refl
either_way true false f g = sym (f refl)
either_way false true f g = g refl
either_way false false f g = refl

all_moved : (p : Gap → Bool) (gs hs : List Gap) → IsPermutation gs hs → list_all p gs ≡ list_all p hs
all_moved p gs hs m =
    either_way (list_all p gs) (list_all p hs)
    (λ h. all_by p hs (All-permutation (λ g. p g ≡ true) gs hs m (pass_all_of p gs h)))
    (λ h. all_by p gs (All-permutation (λ g. p g ≡ true) hs gs (IsPermutation-sym gs hs m) (pass_all_of p hs h)))

all_same : (p q : Gap → Bool) (gs : List Gap) → ((k : ℕ) (d : Gap) → k < length gs → p (get_or gs k d) ≡ q (get_or gs k d)) → list_all p gs ≡ list_all q gs
all_same p q [] h = refl
all_same p q (g ∷ gs) h = ap (λ b. b && list_all p gs) (h 0 g (omega arith)) ∙ ap (λ b. q g && b) (all_same p q gs (λ k d l. h (suc k) d (omega (arith, l))))

-- a flag is read in the column of another that is the same, and none is read where there is none
flag_read : (cs : List ColumnData) (p q : Option Flag) (col : ColumnData) (a b : Bool) (r n : ℕ) → flag_tree p ≡ flag_tree q → IfSome q (λ e. IsColumnOf cs e.operand.now e.column.now) → IfSome q (λ e. col ≡ e.column.now)
    → passes_by p a b (is_true (value_at (slice_get col.values r))) ≡ passes_by p a b (is_true (worth (flag_tree p) (row_of r cs) n))
flag_read cs None q col a b r n e h k = refl
flag_read cs (Some f) None col a b r n e h k = absurd cc
flag_read cs (Some f) (Some g) col a b r n e h k =
    ap (λ (c : ColumnData). not (a && (b && is_true (value_at (slice_get c.values r))))) k
    ∙ ap (λ v. not (a && (b && is_true v))) (sym (h r n))
    ∙ ap (λ (t : Tree Place). not (a && (b && is_true (meaning t (row_of r cs) n)))) (sym (same_Some _ _ e))

pub marked_by_columns : (cs : List ColumnData) (counts : Counts) (old gs : List Gap) (f : Gap) (x y z : ColumnData) (i : ℕ) (bs : List Bool) → AreAlike cs gs → IsPermutation old gs → 0 < length gs → ((d : Gap) → f ≡ get_or gs 0 d)
    → x ≡ f.above.column.now → y ≡ f.below.column.now → IfSome f.flag (λ e. z ≡ e.column.now) → marked (are_passed_at gs x y z) i bs ≡ marked (are_true_at old cs counts) i bs
marked_by_columns cs counts old gs f x y z i bs h moved some is ex ey ez =
    marked-same (are_passed_at gs x y z) (are_true_at old cs counts)
    (λ r. all_same (λ g. gap_passes g (value_at (slice_get x.values r)) (value_at (slice_get y.values r)) (value_at (slice_get z.values r))) (is_gap_true (row_of r cs) (count_at counts r)) gs
    (λ k d l.
    let row = row_of r cs in
    let n = count_at counts r in
    let g = get_or gs k d in
    let on = h.on k d l in
    let first : IsOn cs h.x h.y h.z f = subst (IsOn cs h.x h.y h.z) (sym (is d)) (h.on 0 d some) in
    let vx : value_at (slice_get x.values r) ≡ meaning g.above.operand.now row n =
    ap (λ (c : ColumnData). value_at (slice_get c.values r)) ex ∙ sym (first.above_column r n) ∙ ap (λ (e : Tree Place). meaning e row n) (first.above ∙ sym on.above) in
    let vy : value_at (slice_get y.values r) ≡ meaning g.below.operand.now row n =
    ap (λ (c : ColumnData). value_at (slice_get c.values r)) ey ∙ sym (first.below_column r n) ∙ ap (λ (e : Tree Place). meaning e row n) (first.below ∙ sym on.below) in
    (λ j. passes_by g.flag (side_passes g.above (vx j)) (side_passes g.below (vy j)) (is_true (value_at (slice_get z.values r))))
    ∙ flag_read cs g.flag f.flag z (side_passes g.above (meaning g.above.operand.now row n)) (side_passes g.below (meaning g.below.operand.now row n)) r n (on.flag ∙ sym first.flag) first.flag_column ez)
    ∙ sym (all_moved (is_gap_true (row_of r cs) (count_at counts r)) old gs moved))
    i bs

-- ---- gathering

pub marked_true : (i : ℕ) (bs : List Bool) → bs ≡ marked (λ _. true) i bs
marked_true i [] = refl
marked_true i (b ∷ bs) = ap (λ x. x ∷ bs) (stays b) ∙ ap (λ l. (b && true) ∷ l) (marked_true (i + 1) bs)
  where
    stays : (b : Bool) → b ≡ (b && true)
    stays true = refl
    stays false = refl

no_gaps : (cs : List ColumnData) (counts : Counts) (gs : List Gap) (i : ℕ) (bs : List Bool) → length gs ≤ 0 → bs ≡ marked (are_true_at gs cs counts) i bs
no_gaps cs counts [] i bs h = marked_true i bs
no_gaps cs counts (g ∷ gs) i bs h = absurd (omega (arith, h))

pub marked_no_gaps : (cs : List ColumnData) (counts : Counts) (old gs : List Gap) (i : ℕ) (bs : List Bool) → IsPermutation old gs → length gs ≤ 0 → bs ≡ marked (are_true_at old cs counts) i bs
marked_no_gaps cs counts old gs i bs moved h =
    no_gaps cs counts gs i bs h ∙ marked-same (are_true_at gs cs counts) (are_true_at old cs counts) (λ r. sym (all_moved (is_gap_true (row_of r cs) (count_at counts r)) old gs moved)) i bs

two_parts : (p q n m o a b : Bool) → (q && n) ≡ (b && m) → (p && m) ≡ (a && o) → ((p && q) && n) ≡ ((a && b) && o)
two_parts true q n m o a b h k = h ∙ turned b m ∙ ap (λ x. x && b) k ∙ last a o b
  where
    turned : (x y : Bool) → (x && y) ≡ (y && x)
    turned true true = refl
    turned true false = refl
    turned false true = refl
    turned false false = refl

    last : (a o b : Bool) → ((a && o) && b) ≡ ((a && b) && o)
    last true o b = turned o b
    last false o b = refl
two_parts false q n m o a b h k = nothing a o b k
  where
    nothing : (a o b : Bool) → false ≡ (a && o) → false ≡ ((a && b) && o)
    nothing true o true e = e
    nothing true o false e = refl
    nothing false o b e = refl

module _ (cs : List ColumnData) (counts : Counts) (from : ℕ) where
  -- by two tests, one after the other
  gathered_twice : (t u v : ℕ → Bool) (old mid new : List Gap) (before between after : List Bool) → ((i : ℕ) → (u i && v i) ≡ t i) → IsGathered cs counts u from old mid before between → IsGathered cs counts v from mid new between after
      → IsGathered cs counts t from old new before after
  gathered_twice t u v old mid new before between after is h k = record {
    part = λ i. h.part i && k.part i;
    taken = k.taken ∙ ap (marked k.part from) h.taken ∙ marked-marked h.part k.part from before;
    whole = λ i.
        two_parts (h.part i) (k.part i) (are_true_at new cs counts i) (are_true_at mid cs counts i) (are_true_at old cs counts i) (u i) (v i) (k.whole i) (h.whole i)
        ∙ ap (λ b. b && are_true_at old cs counts i) (is i);
  }

  not_either : (a b : Bool) → (not a && not b) ≡ not (a || b)
  not_either true b = refl
  not_either false b = refl

  pub gathered_and : (e l r : Tree Place) (old mid new : List Gap) (before between after : List Bool) → e ≡ binary And l r → IsGathered cs counts (is_true_at l cs counts) from old mid before between
      → IsGathered cs counts (is_true_at r cs counts) from mid new between after → IsGathered cs counts (is_true_at e cs counts) from old new before after
  gathered_and e l r old mid new before between after is h k =
      gathered_twice (is_true_at e cs counts) (is_true_at l cs counts) (is_true_at r cs counts) old mid new before between after
      (λ i. sym (true_and (meaning l (row_of i cs) (count_at counts i)) (meaning r (row_of i cs) (count_at counts i))) ∙ ap (λ (x : Tree Place). is_true_at x cs counts i) (sym is)) h k

  pub gathered_or : (e l r : Tree Place) (old mid new : List Gap) (before between after : List Bool) → e ≡ binary Or l r → IsGathered cs counts (is_untrue_at l cs counts) from old mid before between
      → IsGathered cs counts (is_untrue_at r cs counts) from mid new between after → IsGathered cs counts (is_untrue_at e cs counts) from old new before after
  gathered_or e l r old mid new before between after is h k =
      gathered_twice (is_untrue_at e cs counts) (is_untrue_at l cs counts) (is_untrue_at r cs counts) old mid new before between after
      (λ i.
      not_either (is_true_at l cs counts i) (is_true_at r cs counts i)
      ∙ ap not (sym (true_or (meaning l (row_of i cs) (count_at counts i)) (meaning r (row_of i cs) (count_at counts i))) ∙ ap (λ (x : Tree Place). is_true_at x cs counts i) (sym is))) h k

  pub gathered_by : (t : ℕ → Bool) (old new : List Gap) (before after : List Bool) → after ≡ marked t from before → new ≡ old → IsGathered cs counts t from old new before after
  gathered_by t old new before after h k = record { part = t; taken = h; whole = λ i. ap (λ gs. t i && are_true_at gs cs counts i) k }

  one_more : (p : Gap → Bool) (gs : List Gap) (g : Gap) → list_all p (gs ++ g ∷ []) ≡ (p g && list_all p gs)
  one_more p [] g = refl
  one_more p (f ∷ gs) g = ap (λ b. p f && b) (one_more p gs g) ∙ turned (p f) (p g) (list_all p gs)
    where
      turned : (a b c : Bool) → (a && (b && c)) ≡ (b && (a && c))
      turned true b c = refl
      turned false true c = refl
      turned false false c = refl

  put_more : (t : ℕ → Bool) (g : Gap) (old new : List Gap) (marks : List Bool) → ((i : ℕ) → is_gap_true (row_of i cs) (count_at counts i) g ≡ t i) → new ≡ old ++ g ∷ [] → IsGathered cs counts t from old new marks marks
  put_more t g old new marks told k = record {
    part = λ _. true;
    taken = marked_true from marks;
    whole = λ i. ap (λ gs. are_true_at gs cs counts i) k ∙ one_more (is_gap_true (row_of i cs) (count_at counts i)) old g ∙ ap (λ b. b && are_true_at old cs counts i) (told i);
  }

  pub gathered_put : (e l r : Tree Place) (old new : List Gap) (marks : List Bool) → e ≡ binary Or l r → IsPut (IsGapOf cs l r) old new → IsGathered cs counts (is_true_at e cs counts) from old new marks marks
  gathered_put e l r old new marks is h =
      put_more (is_true_at e cs counts) h.gap old new marks
      (λ i.
      sym (h.is.told (row_of i cs) (count_at counts i))
      ∙ sym (true_or (meaning l (row_of i cs) (count_at counts i)) (meaning r (row_of i cs) (count_at counts i)))
      ∙ ap (λ (x : Tree Place). satisfies x (row_of i cs) (count_at counts i)) (sym is)) h.behind

  pub sifted_put : (e l r : Tree Place) (old new : List Gap) (marks : List Bool) → e ≡ binary And l r → IsPut (IsBesideSpan cs l r) old new → IsGathered cs counts (is_untrue_at e cs counts) from old new marks marks
  sifted_put e l r old new marks is h =
      put_more (is_untrue_at e cs counts) h.gap old new marks
      (λ i.
      sym (h.is.told (row_of i cs) (count_at counts i))
      ∙ ap not (sym (true_and (meaning l (row_of i cs) (count_at counts i)) (meaning r (row_of i cs) (count_at counts i))) ∙ ap (λ (x : Tree Place). satisfies x (row_of i cs) (count_at counts i)) (sym is))) h.behind

  pub gathered_all : (t : ℕ → Bool) (gs : List Gap) (before after : List Bool) → IsGathered cs counts t from [] gs before after → marked (are_true_at gs cs counts) from after ≡ marked t from before
  gathered_all t gs before after h =
      ap (marked (are_true_at gs cs counts) from) h.taken
      ∙ marked-marked h.part (are_true_at gs cs counts) from before
      ∙ marked-same (λ i. h.part i && are_true_at gs cs counts i) t (λ i. h.whole i ∙ and_none (t i)) from before
    where
      and_none : (b : Bool) → (b && true) ≡ b
      and_none true = refl
      and_none false = refl

-- ---- what isn't left is true

and_unless : (b t : Bool) → (b && not (b && not t)) ≡ (b && t)
and_unless true true = refl
and_unless true false = refl
and_unless false t = refl

pub left_of_untrue : (t : ℕ → Bool) (i : ℕ) (bs : List Bool) → left_marked bs (marked (λ r. not (t r)) i bs) ≡ marked t i bs
left_of_untrue t i [] = refl
left_of_untrue t i (b ∷ bs) = ap (λ x. x ∷ left_marked bs (marked (λ r. not (t r)) (i + 1) bs)) (and_unless b (t i)) ∙ ap (λ l. (b && t i) ∷ l) (left_of_untrue t (i + 1) bs)

and_but : (b t : Bool) → (b && not (b && t)) ≡ (b && not t)
and_but true t = refl
and_but false t = refl

pub left_of_true : (t : ℕ → Bool) (i : ℕ) (bs : List Bool) → left_marked bs (marked t i bs) ≡ marked (λ r. not (t r)) i bs
left_of_true t i [] = refl
left_of_true t i (b ∷ bs) = ap (λ x. x ∷ left_marked bs (marked t (i + 1) bs)) (and_but b (t i)) ∙ ap (λ l. (b && not (t i)) ∷ l) (left_of_true t (i + 1) bs)
