-- The proofs of LIKE, read off the bytes of the pattern's literal beginning.
use Rattle.std.proofs.Common.{◌≡◌, ℕ, Bool, true, false, List, Option, Some, None, Result, refl, sym, ap, ◌∙◌, option_map}
use Rattle.std.specs.Prelude.{encode_utf8_all, if◌then◌else◌}
use Rattle.std.specs.Str.{chars, IsUtf8}
use Rattle.std.proofs.lemmas.Str.{encodes-chars, encodes_same}
use Rattle.vortex_expr.specs.Patterns.Prefix.{PatternData, pattern_of, exact_text, literal_prefix, is_exact, successor}
use Rattle.vortex_expr.specs.Trees.Tree.{Tree, Place, binary}
use Rattle.vortex_base.specs.declared.aggregate.AggregateFnRef.TheVariants.{Max, Min}
use Rattle.vortex_expr.specs.declared.like.Item.{Item}
use Rattle.vortex_expr.specs.declared.scalar_fn.Operator.{Operator}
use Rattle.vortex_expr.specs.declared.scalar_fn.Operator.TheVariants.{Gte, Lt, Or}
use Rattle.vortex_rewrite.specs.Rewriting.Falsifiers.{beyond, both_of, bytes_literal, extreme, items_falsifier, other_than, outside}
use Rattle.vortex_rewrite.proofs.Logic.{made-weaker}
use Rattle.vortex_rewrite.specs.Answers.{Makes}
use Rattle.vortex_stats.specs.declared.error.StatsError.{StatsError}

-- the two comparisons with texts, joined
pub beyond_is : (x a b : Tree Place) (o : Operator) (above below : List ℕ) (p q : Option (Tree Place)) (r : Result (Option (Tree Place)) StatsError) → a ≡ bytes_literal above → b ≡ bytes_literal below
    → p ≡ both_of (binary o) (extreme Min x) (extreme Max a) → q ≡ both_of (binary Lt) (extreme Max x) (extreme Min b)
    → Makes (both_of (binary Or) p q) r → Makes (beyond x o above below) r
beyond_is x a b o above below p q r e f h k =
    let first : p ≡ both_of (binary o) (extreme Min x) (Some (bytes_literal above)) = h ∙ ap (λ y. both_of (binary o) (extreme Min x) (extreme Max y)) e in
    let second : q ≡ both_of (binary Lt) (extreme Max x) (Some (bytes_literal below)) = k ∙ ap (λ y. both_of (binary Lt) (extreme Max x) (extreme Min y)) f in
    made-weaker _ _ r (λ e' is. is ∙ ap (λ y. both_of (binary Or) y q) first ∙ ap (both_of (binary Or) (both_of (binary o) (extreme Min x) (Some (bytes_literal above)))) second)

not_exact : (b : Bool) (bs : List ℕ) → None ≡ (if b then Some bs else None) → b ≡ false
not_exact true bs h = cc
not_exact false bs h = refl

outside_next : (x : Tree Place) (cs next : List ℕ) (s : Option (List ℕ)) → Some next ≡ option_map encode_utf8_all s → outside x cs s ≡ beyond x Gte next (encode_utf8_all cs)
outside_next x cs next None h = cc
outside_next x cs next (Some ds) h = let same : next ≡ encode_utf8_all ds = cc in ap (λ bs. beyond x Gte bs (encode_utf8_all cs)) (sym same)

outside_none : (x : Tree Place) (cs : List ℕ) (s : Option (List ℕ)) → None ≡ option_map encode_utf8_all s → None ≡ outside x cs s
outside_none x cs None h = refl
outside_none x cs (Some ds) h = cc

prefix_chars : (bs cs : List ℕ) → IsUtf8 bs → bs ≡ encode_utf8_all cs → chars bs ≡ cs
prefix_chars bs cs text e = encodes_same (chars bs) cs (encodes-chars bs text ∙ e)

items_outside : (x : Tree Place) (is : List Item) → is_exact is ≡ false → items_falsifier x is ≡ outside x (literal_prefix is) (successor (literal_prefix is))
items_outside x is h = ap (λ (b : Bool). if b then other_than x (literal_prefix is) else outside x (literal_prefix is) (successor (literal_prefix is))) h

wild : (p : PatternData) (is : List Item) → p ≡ pattern_of is → None ≡ exact_text p → is_exact is ≡ false
wild p is e h = not_exact (is_exact is) (encode_utf8_all (literal_prefix is)) (h ∙ ap exact_text e)

-- a pattern with a wildcard whose prefix has a successor
pub pattern_outside : (x : Tree Place) (p : PatternData) (is : List Item) (prefix next : List ℕ) (r : Result (Option (Tree Place)) StatsError) → p ≡ pattern_of is → None ≡ exact_text p → prefix ≡ p.prefix → IsUtf8 prefix
    → Some next ≡ option_map encode_utf8_all (successor (chars prefix)) → Makes (beyond x Gte next prefix) r → Makes (items_falsifier x is) r
pattern_outside x p is prefix next r e h same text s =
    let bytes : prefix ≡ encode_utf8_all (literal_prefix is) = same ∙ ap (λ (q : PatternData). q.prefix) e in
    let read : Some next ≡ option_map encode_utf8_all (successor (literal_prefix is)) = s ∙ ap (λ cs. option_map encode_utf8_all (successor cs)) (prefix_chars prefix (literal_prefix is) text bytes) in
    made-weaker _ _ r (λ o is'. is' ∙ ap (beyond x Gte next) bytes ∙ sym (outside_next x (literal_prefix is) next (successor (literal_prefix is)) read) ∙ sym (items_outside x is (wild p is e h)))

-- and one whose prefix has none
pub pattern_open : (x : Tree Place) (p : PatternData) (is : List Item) (prefix : List ℕ) → p ≡ pattern_of is → None ≡ exact_text p → prefix ≡ p.prefix → IsUtf8 prefix
    → None ≡ option_map encode_utf8_all (successor (chars prefix)) → None ≡ items_falsifier x is
pattern_open x p is prefix e h same text s =
    let bytes : prefix ≡ encode_utf8_all (literal_prefix is) = same ∙ ap (λ (q : PatternData). q.prefix) e in
    let read : None ≡ option_map encode_utf8_all (successor (literal_prefix is)) = s ∙ ap (λ cs. option_map encode_utf8_all (successor cs)) (prefix_chars prefix (literal_prefix is) text bytes) in
    outside_none x (literal_prefix is) (successor (literal_prefix is)) read ∙ sym (items_outside x is (wild p is e h))
