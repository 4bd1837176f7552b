-- Marks of rows and of zones, as they are found a column at a time.
use Rattle.std.proofs.Common.{◌≡◌, ℕ, ◌+◌, ◌-◌, ◌<◌, ◌≤◌, zero, suc, Bool, true, false, List, [], ◌∷◌, ◌++◌, Option, Some, None, arith, get_or, length, refl, sym, ap, ◌∙◌, take, drop}
use Rattle.std.proofs.Math.ListN.{set}
use Rattle.std.proofs.lemmas.List.{length-drop, length-take, take_at}
use Rattle.std.specs.List.{list_any}
use Rattle.std.specs.Prelude.{◌&&◌, ◌||◌, not, option_map, replicate, slice_get}
use Rattle.vortex_base.specs.Data.Columns.{ColumnData, row_of}
use Rattle.vortex_expr.specs.Meanings.Meaning.{both, compared, either, is_true, meaning, truth, truth_value}
use Rattle.vortex_expr.specs.Trees.Between.{to_operator}
use Rattle.vortex_expr.specs.Trees.Tree.{Tree, Place, between, binary}
use Rattle.vortex_expr.specs.declared.scalar_fn.BetweenOptions.{BetweenOptions}
use Rattle.vortex_base.specs.declared.scalar_value.ScalarValue.{ScalarValue}
use Rattle.vortex_base.specs.declared.scalar_value.ScalarValue.TheVariants as value
use Rattle.vortex_expr.specs.declared.scalar_fn.Operator.TheVariants as operator
use Rattle.vortex_prune.specs.Scanning.Leaves.{IsComparison, IsLeaf, compares, passes_at}
use Rattle.vortex_prune.specs.Scanning.Marks.{HasCounts, count_at, either_marked, is_told, is_true_at, left_marked, marked, paired}
use Rattle.vortex_zone_map.specs.ZoneMaps.{MapData}
use Rattle.vortex_prune.specs.declared.scan.leaf.Test.{Test}
use Rattle.vortex_prune.specs.declared.scan.marks.Counts.{Counts}

-- ---- truths of three values

abbrev some_true : Option Bool → Bool
some_true None = false
some_true (Some b) = b

truth_is : (v : Option ScalarValue) → some_true (truth v) ≡ is_true v
truth_is None = refl
truth_is (Some (value.Bool b)) = refl
truth_is (Some (value.Primitive p)) = refl
truth_is (Some (value.Utf8 t)) = refl
truth_is (Some (value.Binary b)) = refl

value_is : (t : Option Bool) → is_true (truth_value t) ≡ some_true t
value_is None = refl
value_is (Some b) = refl

both_is : (s t : Option Bool) → some_true (both s t) ≡ (some_true s && some_true t)
both_is (Some false) t = refl
both_is (Some true) t = refl
both_is None (Some false) = refl
both_is None (Some true) = refl
both_is None None = refl

either_is : (s t : Option Bool) → some_true (either s t) ≡ (some_true s || some_true t)
either_is (Some false) t = refl
either_is (Some true) t = refl
either_is None (Some false) = refl
either_is None (Some true) = refl
either_is None None = refl

and_true : (a b : Option ScalarValue) → is_true (truth_value (both (truth a) (truth b))) ≡ (is_true a && is_true b)
and_true a b = value_is (both (truth a) (truth b)) ∙ both_is (truth a) (truth b) ∙ ap (λ x. x && some_true (truth b)) (truth_is a) ∙ ap (λ x. is_true a && x) (truth_is b)

pub both_true : (s t : Option Bool) → is_true (truth_value (both s t)) ≡ (is_true (truth_value s) && is_true (truth_value t))
both_true s t = value_is (both s t) ∙ both_is s t ∙ ap (λ x. x && some_true t) (sym (value_is s)) ∙ ap (λ x. is_true (truth_value s) && x) (sym (value_is t))

or_true : (a b : Option ScalarValue) → is_true (truth_value (either (truth a) (truth b))) ≡ (is_true a || is_true b)
or_true a b = value_is (either (truth a) (truth b)) ∙ either_is (truth a) (truth b) ∙ ap (λ x. x || some_true (truth b)) (truth_is a) ∙ ap (λ x. is_true a || x) (truth_is b)

-- ---- marks that stay

pub marked-same : (t u : ℕ → Bool) → ((r : ℕ) → t r ≡ u r) → (i : ℕ) (bs : List Bool) → marked t i bs ≡ marked u i bs
marked-same t u h i [] = refl
marked-same t u h i (b ∷ bs) = ap (λ x. (b && x) ∷ marked t (i + 1) bs) (h i) ∙ ap (λ l. (b && u i) ∷ l) (marked-same t u h (i + 1) bs)

and_again : (b x y : Bool) → ((b && x) && y) ≡ (b && (x && y))
and_again true x y = refl
and_again false x y = refl

and_either : (b x y : Bool) → ((b && x) || ((b && not (b && x)) && y)) ≡ (b && (x || y))
and_either true true y = refl
and_either true false y = refl
and_either false x y = refl

pub marked-marked : (t u : ℕ → Bool) (i : ℕ) (bs : List Bool) → marked u i (marked t i bs) ≡ marked (λ r. t r && u r) i bs
marked-marked t u i [] = refl
marked-marked t u i (b ∷ bs) = ap (λ x. x ∷ marked u (i + 1) (marked t (i + 1) bs)) (and_again b (t i) (u i)) ∙ ap (λ l. (b && (t i && u i)) ∷ l) (marked-marked t u (i + 1) bs)

either_marked-marked : (t u : ℕ → Bool) (i : ℕ) (bs : List Bool) → either_marked (marked t i bs) (marked u i (left_marked bs (marked t i bs))) ≡ marked (λ r. t r || u r) i bs
either_marked-marked t u i [] = refl
either_marked-marked t u i (b ∷ bs) =
    ap (λ x. x ∷ either_marked (marked t (i + 1) bs) (marked u (i + 1) (left_marked bs (marked t (i + 1) bs)))) (and_either b (t i) (u i))
    ∙ ap (λ l. (b && (t i || u i)) ∷ l) (either_marked-marked t u (i + 1) bs)

pub length-marked : (t : ℕ → Bool) (i : ℕ) (bs : List Bool) → length (marked t i bs) ≡ length bs
length-marked t i [] = refl
length-marked t i (b ∷ bs) = ap suc (length-marked t (i + 1) bs)

-- by AND, one side after the other
pub marked-and : (cs : List ColumnData) (counts : Counts) (e l r : Tree Place) (i : ℕ) (bs : List Bool) → e ≡ binary operator.And l r
    → marked (is_true_at r cs counts) i (marked (is_true_at l cs counts) i bs) ≡ marked (is_true_at e cs counts) i bs
marked-and cs counts e l r i bs is =
    marked-marked (is_true_at l cs counts) (is_true_at r cs counts) i bs
    ∙ marked-same (λ k. is_true_at l cs counts k && is_true_at r cs counts k) (is_true_at e cs counts) (λ k.
    sym (and_true (meaning l (row_of k cs) (count_at counts k)) (meaning r (row_of k cs) (count_at counts k)))
    ∙ ap (λ (x : Tree Place). is_true_at x cs counts k) (sym is)) i bs

-- by OR, those of the left side, and of the others those of the right one
pub marked-or : (cs : List ColumnData) (counts : Counts) (e l r : Tree Place) (i : ℕ) (bs : List Bool) → e ≡ binary operator.Or l r
    → either_marked (marked (is_true_at l cs counts) i bs) (marked (is_true_at r cs counts) i (left_marked bs (marked (is_true_at l cs counts) i bs))) ≡ marked (is_true_at e cs counts) i bs
marked-or cs counts e l r i bs is =
    either_marked-marked (is_true_at l cs counts) (is_true_at r cs counts) i bs
    ∙ marked-same (λ k. is_true_at l cs counts k || is_true_at r cs counts k) (is_true_at e cs counts) (λ k.
    sym (or_true (meaning l (row_of k cs) (count_at counts k)) (meaning r (row_of k cs) (count_at counts k)))
    ∙ ap (λ (x : Tree Place). is_true_at x cs counts k) (sym is)) i bs

-- by a leaf, those whose value passes
pub marked-leaf : (cs : List ColumnData) (counts : Counts) (e : Tree Place) (c : ColumnData) (t : Test) (i : ℕ) (bs : List Bool) → IsLeaf cs e c t → marked (passes_at t c.values) i bs ≡ marked (is_true_at e cs counts) i bs
marked-leaf cs counts e c t i bs h = marked-same (passes_at t c.values) (is_true_at e cs counts) (λ k. sym (h k (count_at counts k))) i bs

-- by BETWEEN, those that pass at the lower end and then at the upper one
pub marked-between : (cs : List ColumnData) (counts : Counts) (e x l u : Tree Place) (o : BetweenOptions) (a b : ColumnData) (s t : Test) (i : ℕ) (bs : List Bool) → e ≡ between o x l u
    → IsComparison cs (to_operator o.lower_strict) l x a s → IsComparison cs (to_operator o.upper_strict) x u b t
    → marked (passes_at t b.values) i (marked (passes_at s a.values) i bs) ≡ marked (is_true_at e cs counts) i bs
marked-between cs counts e x l u o a b s t i bs is h k =
    marked-marked (passes_at s a.values) (passes_at t b.values) i bs
    ∙ marked-same (λ r. passes_at s a.values r && passes_at t b.values r) (is_true_at e cs counts) (λ r.
    ap (λ y. y && passes_at t b.values r) (sym (h r (count_at counts r)))
    ∙ ap (λ y. compares (to_operator o.lower_strict) (meaning l (row_of r cs) (count_at counts r)) (meaning x (row_of r cs) (count_at counts r)) && y) (sym (k r (count_at counts r)))
    ∙ sym (both_true (compared (to_operator o.lower_strict) (meaning l (row_of r cs) (count_at counts r)) (meaning x (row_of r cs) (count_at counts r))) (compared (to_operator o.upper_strict) (meaning x (row_of r cs) (count_at counts r)) (meaning u (row_of r cs) (count_at counts r))))
    ∙ ap (λ (y : Tree Place). is_true_at y cs counts r) (sym is)) i bs

-- of the rows of a map's table, those of which a bound proof is true
pub marked-told : (m : MapData) (e : Tree Place) (counts : Counts) (i : ℕ) (bs : List Bool) → HasCounts counts m.rows → marked (is_true_at e m.table.columns counts) i bs ≡ marked (is_told (Some e) m) i bs
marked-told m e counts i bs h = marked-same (is_true_at e m.table.columns counts) (is_told (Some e) m) (λ r. ap (λ n. is_true (meaning e (row_of r m.table.columns) n)) (h r)) i bs

-- ---- one mark after another

-- one more mark was looked at
marked_next : (t : ℕ → Bool) (i k : ℕ) (bs : List Bool) (d : Bool) → k < length bs
    → set (marked t i (take k bs) ++ drop k bs) k (get_or (marked t i (take k bs) ++ drop k bs) k d && t (i + k)) ≡ marked t i (take (suc k) bs) ++ drop (suc k) bs
marked_next t i k [] d h = absurd (omega (arith, h))
marked_next t i zero (b ∷ bs) d h = ap (λ n. (b && t n) ∷ bs) (omega arith)
marked_next t i (suc k) (b ∷ bs) d h =
    ap (λ n. (b && t i) ∷ set (marked t (i + 1) (take k bs) ++ drop k bs) k (get_or (marked t (i + 1) (take k bs) ++ drop k bs) k d && t n)) (omega arith)
    ∙ ap (λ l. (b && t i) ∷ l) (marked_next t (i + 1) k bs d (omega (arith, h)))

pub marked_more : (t : ℕ → Bool) (i k : ℕ) (bs ms : List Bool) (y : Bool) → ms ≡ marked t i (take k bs) ++ drop k bs → k < length bs → y ≡ (get_or ms k false && t (i + k)) → set ms k y ≡ marked t i (take (k + 1) bs) ++ drop (k + 1) bs
marked_more t i k bs ms y is h e =
    let more : suc k ≡ k + 1 = omega arith in
    ap (set ms k) e ∙ ap (λ l. set l k (get_or l k false && t (i + k))) is ∙ marked_next t i k bs false h ∙ ap (λ n. marked t i (take n bs) ++ drop n bs) more

-- and all were
pub marked_all : (t : ℕ → Bool) (i k : ℕ) (bs : List Bool) → length bs ≤ k → marked t i (take k bs) ++ drop k bs ≡ marked t i bs
marked_all t i zero [] h = refl
marked_all t i (suc k) [] h = refl
marked_all t i zero (b ∷ bs) h = absurd (omega (arith, h))
marked_all t i (suc k) (b ∷ bs) h = ap (λ l. (b && t i) ∷ l) (marked_all t (i + 1) k bs (omega (arith, h)))

-- the same of two lists of marks
length-paired : (f : Bool → Bool → Bool) (as' bs : List Bool) → length as' ≡ length bs → length (paired f as' bs) ≡ length as'
length-paired f [] bs h = refl
length-paired f (a ∷ as') [] h = absurd (omega (arith, h))
length-paired f (a ∷ as') (b ∷ bs) h = ap suc (length-paired f as' bs (omega (arith, h)))

pub length-left_marked : (as' bs : List Bool) → length as' ≡ length bs → length (left_marked as' bs) ≡ length as'
length-left_marked as' bs h = length-paired (λ a b. a && not b) as' bs h

paired_next : (f : Bool → Bool → Bool) (k : ℕ) (as' bs : List Bool) (d e : Bool) → k < length as' → length as' ≡ length bs
    → set (paired f (take k as') (take k bs) ++ drop k as') k (f (get_or (paired f (take k as') (take k bs) ++ drop k as') k d) (get_or bs k e)) ≡ paired f (take (suc k) as') (take (suc k) bs) ++ drop (suc k) as'
paired_next f k [] bs d e h long = absurd (omega (arith, h))
paired_next f k (a ∷ as') [] d e h long = absurd (omega (arith, long))
paired_next f zero (a ∷ as') (b ∷ bs) d e h long = refl
paired_next f (suc k) (a ∷ as') (b ∷ bs) d e h long = ap (λ l. f a b ∷ l) (paired_next f k as' bs d e (omega (arith, h)) (omega (arith, long)))

pub paired_more : (f : Bool → Bool → Bool) (k : ℕ) (as' bs ms : List Bool) (y : Bool) → ms ≡ paired f (take k as') (take k bs) ++ drop k as' → k < length as' → length as' ≡ length bs → y ≡ f (get_or ms k false) (get_or bs k false)
    → set ms k y ≡ paired f (take (k + 1) as') (take (k + 1) bs) ++ drop (k + 1) as'
paired_more f k as' bs ms y is h long e =
    let more : suc k ≡ k + 1 = omega arith in
    ap (set ms k) e ∙ ap (λ l. set l k (f (get_or l k false) (get_or bs k false))) is ∙ paired_next f k as' bs false false h long
    ∙ ap (λ n. paired f (take n as') (take n bs) ++ drop n as') more

pub paired_all : (f : Bool → Bool → Bool) (k : ℕ) (as' bs : List Bool) → length as' ≤ k → length as' ≡ length bs → paired f (take k as') (take k bs) ++ drop k as' ≡ paired f as' bs
paired_all f zero [] bs h long = refl
paired_all f (suc k) [] bs h long = refl
paired_all f k (a ∷ as') [] h long = absurd (omega (arith, long))
paired_all f zero (a ∷ as') (b ∷ bs) h long = absurd (omega (arith, h))
paired_all f (suc k) (a ∷ as') (b ∷ bs) h long = ap (λ l. f a b ∷ l) (paired_all f k as' bs (omega (arith, h)) (omega (arith, long)))

-- those of one run of zones and of the next
pub marked-append : (t : ℕ → Bool) (i : ℕ) (bs cs : List Bool) → marked t i (bs ++ cs) ≡ marked t i bs ++ marked t (i + length bs) cs
marked-append t i [] cs = ap (λ n. marked t n cs) (omega arith)
marked-append t i (b ∷ bs) cs = ap (λ l. (b && t i) ∷ l) (marked-append t (i + 1) bs cs ∙ ap (λ n. marked t (i + 1) bs ++ marked t n cs) (omega arith))

-- what stays at a place
pub marked_at : (t : ℕ → Bool) (i k : ℕ) (bs : List Bool) → slice_get (marked t i bs) k ≡ option_map (λ b. b && t (i + k)) (slice_get bs k)
marked_at t i k [] = refl
marked_at t i zero (b ∷ bs) = ap (λ n. Some (b && t n)) (omega arith)
marked_at t i (suc k) (b ∷ bs) = marked_at t (i + 1) k bs ∙ ap (λ n. option_map (λ b. b && t n) (slice_get bs k)) (omega arith)

-- where there is no proof none stays
false_stays : (b : Bool) → false ≡ (b && false)
false_stays true = refl
false_stays false = refl

pub marked_none : (m : MapData) (i : ℕ) (bs : List Bool) → replicate (length bs) false ≡ marked (is_told None m) i bs
marked_none m i [] = refl
marked_none m i (b ∷ bs) = ap (λ x. x ∷ replicate (length bs) false) (false_stays b) ∙ ap (λ l. (b && false) ∷ l) (marked_none m (i + 1) bs)

-- where no mark is set none is taken away
pub marked_unset : (t : ℕ → Bool) (i : ℕ) (bs : List Bool) → list_any (λ b. b) bs ≡ false → bs ≡ marked t i bs
marked_unset t i [] h = refl
marked_unset t i (true ∷ bs) h = absurd cc
marked_unset t i (false ∷ bs) h = ap (λ l. false ∷ l) (marked_unset t (i + 1) bs h)

-- ---- marks that are written in a copy

-- a slice of a vector's elements is written, as long as they are
pub written_back : (t : ℕ → Bool) (i n : ℕ) (xs ys ms rest : List Bool) → ys ≡ marked t i xs → xs ≡ ms → n ≡ length ms → take n (ys ++ rest) ≡ marked t i ms
written_back t i n xs ys ms rest told copied long =
    let own : length ys ≡ n = ap length told ∙ length-marked t i xs ∙ ap length copied ∙ sym long in
    take_at ys rest n own ∙ told ∙ ap (marked t i) copied

-- a run of marks after those before it
pub marked_run : (t : ℕ → Bool) (i n k : ℕ) (ms : List Bool) → n ≤ length ms → marked t i (take n ms) ++ marked t (i + n) (take k (drop n ms)) ≡ marked t i (take (n + k) ms)
marked_run t i zero k ms h =
    let here : i + 0 ≡ i = omega arith in
    let more : k ≡ 0 + k = omega arith in
    ap (λ j. marked t j (take k ms)) here ∙ ap (λ j. marked t i (take j ms)) more
marked_run t i (suc n) k [] h = absurd (omega (arith, h))
marked_run t i (suc n) k (b ∷ bs) h =
    let moved : i + suc n ≡ (i + 1) + n = omega arith in
    let more : suc (n + k) ≡ suc n + k = omega arith in
    ap (λ j. ((b && t i) ∷ marked t (i + 1) (take n bs)) ++ marked t j (take k (drop n bs))) moved
    ∙ ap (λ l. (b && t i) ∷ l) (marked_run t (i + 1) n k bs (omega (arith, h)))
    ∙ ap (λ j. marked t i (take j (b ∷ bs))) more

-- how long the run is from a place to another
pub run_long : (from to : ℕ) (ms : List Bool) → from ≤ to → to ≤ length ms → length (take (to - from) (drop from ms)) ≡ to - from
run_long from to ms h l = simp (length-take, length-drop) (omega arith)

-- the marks up to a place, and then the run from there
pub marked_to : (t : ℕ → Bool) (n from to m : ℕ) (ms xs ys zs : List Bool) → n ≡ from → from ≤ to → to ≤ length ms → m ≡ to → zs ≡ xs ++ ys → xs ≡ marked t 0 (take n ms) → ys ≡ marked t from (take (to - from) (drop from ms)) → zs ≡ marked t 0 (take m ms)
marked_to t n from to m ms xs ys zs e h l end is told next =
    let here : from ≡ 0 + from = omega arith in
    let there : from + (to - from) ≡ m = omega arith in
    is ∙ ap (λ l. l ++ ys) (told ∙ ap (λ j. marked t 0 (take j ms)) e) ∙ ap (λ l. marked t 0 (take from ms) ++ l) (next ∙ ap (λ j. marked t j (take (to - from) (drop from ms))) here)
    ∙ marked_run t 0 from (to - from) ms (omega arith) ∙ ap (λ j. marked t 0 (take j ms)) there
