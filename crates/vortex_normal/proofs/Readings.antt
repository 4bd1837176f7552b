-- How a pattern reads that has runs behind it, by the reading of what stands before them.
use Rattle.std.proofs.Common.{◌≡◌, ◌⊎◌, inl, inr, ℕ, Bool, true, false, List, [], ◌∷◌, ◌++◌, Option, Some, None, Result, Ok, Err, refl, sym, ap, ◌∙◌, ◌&&◌, subst, append-nil, append_assoc, arith, length, option_map, if◌then◌else◌}
use Rattle.std.specs.Prelude.{◌==◌, MatchOption, encode_utf8_all}
use Rattle.std.specs.Str.{chars, IsUtf8}
use Rattle.std.proofs.lemmas.Bool.{and_parts, eqb-true}
use Rattle.std.proofs.lemmas.Option.{none-some, same_Some}
use Rattle.std.proofs.lemmas.Str.{encodes-chars, encodes_same}
use Rattle.vortex_expr.specs.Patterns.Like.{Sign, Percent, Underscore, Backslash, Plain, items, items_after, items_from, sign_of}
use Rattle.vortex_expr.specs.Patterns.Prefix.{PatternData, exact_text, has_next, is_exact, literal_prefix, pattern_of, successor}
use Rattle.vortex_expr.specs.declared.like.Item.{Item}
use Rattle.vortex_expr.specs.declared.like.Item.TheVariants.{Char, AnyChar, AnyRun}
use Rattle.vortex_rewrite.proofs.Soundness.TruthLogic.{clash, refuted}
use Rattle.vortex_base.specs.Data.Exact.{both_hold}
use Rattle.vortex_rewrite.specs.Answers.{OkOrMemory}
use Rattle.vortex_stats.specs.declared.error.StatsError.{StatsError}
use Rattle.vortex_expr.specs.Trees.Tree.{Tree, Place}
use Rattle.vortex_normal.specs.Pushed.{any_text, are_runs, begins, is_beginning, is_last_raised, items_matched, same_text, text_range}
use Rattle.vortex_normal.specs.Signs.{HasSigns, IsBeforeSigns, are_signs, ends_in_sign}

-- ---- the last character

pub last_raised : (cs : List ℕ) (c : ℕ) → is_last_raised (cs ++ c ∷ []) ≡ has_next c
last_raised [] c = refl
last_raised (d ∷ []) c = refl
last_raised (d ∷ e ∷ cs) c = last_raised (e ∷ cs) c

-- ---- runs

pub runs_begin : (is : List Item) → is_exact is ≡ false → are_runs is ≡ true → is_beginning is ≡ true
runs_begin [] e h = cc
runs_begin (Char c ∷ is) e h = cc
runs_begin (AnyChar ∷ is) e h = cc
runs_begin (AnyRun ∷ is) e h = h

runs_have_no_prefix : (is : List Item) → are_runs is ≡ true → literal_prefix is ≡ []
runs_have_no_prefix [] h = refl
runs_have_no_prefix (Char c ∷ is) h = cc
runs_have_no_prefix (AnyChar ∷ is) h = refl
runs_have_no_prefix (AnyRun ∷ is) h = refl

-- a beginning without characters is runs alone
runs_by_prefix : (is : List Item) → is_beginning is ≡ true → literal_prefix is ≡ [] → are_runs is ≡ true
runs_by_prefix [] h e = cc
runs_by_prefix (Char c ∷ is) h e = cc
runs_by_prefix (AnyChar ∷ is) h e = cc
runs_by_prefix (AnyRun ∷ is) h e = h

-- ---- items with runs behind them

behind_begins : (is rs : List Item) → is_exact is ≡ true → are_runs rs ≡ true → is_exact (is ++ rs) ≡ false → is_beginning (is ++ rs) ≡ true
behind_begins [] rs e r h = runs_begin rs h r
behind_begins (Char c ∷ is) rs e r h = behind_begins is rs e r h
behind_begins (AnyChar ∷ is) rs e r h = cc
behind_begins (AnyRun ∷ is) rs e r h = cc

behind_prefix : (is rs : List Item) → is_exact is ≡ true → are_runs rs ≡ true → literal_prefix (is ++ rs) ≡ literal_prefix is
behind_prefix [] rs e r = runs_have_no_prefix rs r
behind_prefix (Char c ∷ is) rs e r = ap (λ cs. c ∷ cs) (behind_prefix is rs e r)
behind_prefix (AnyChar ∷ is) rs e r = cc
behind_prefix (AnyRun ∷ is) rs e r = cc

-- ---- percent signs

sign_by : (c : ℕ) → (c == 37) ≡ true → sign_of c ≡ Percent
sign_by c h = ap (λ (b : Bool). if b then Percent else (if c == 95 then Underscore else (if c == 92 then Backslash else Plain))) h

percent_by : (a b d : Bool) → (if a then Percent else (if b then Underscore else (if d then Backslash else Plain))) ≡ Percent → a ≡ true
percent_by true b d h = refl
percent_by false true d h = cc
percent_by false false true h = cc
percent_by false false false h = cc

percent_is : (c : ℕ) → sign_of c ≡ Percent → (c == 37) ≡ true
percent_is c h = percent_by (c == 37) (c == 95) (c == 92) h

signs_are_runs : (cs : List ℕ) → are_signs cs ≡ true → are_runs (items_after cs false) ≡ true
signs_are_runs [] h = refl
signs_are_runs (c ∷ cs) h =
    let k = and_parts (c == 37) (are_signs cs) h in
    ap (λ s. are_runs (items_from s c (items_after cs))) (sign_by c k.0) ∙ signs_are_runs cs k.1

escaped_are_none : (cs : List ℕ) → are_runs (items_after cs true) ≡ false
escaped_are_none [] = refl
escaped_are_none (c ∷ cs) = refl

runs_by_sign : (s : Sign) (c : ℕ) (cs : List ℕ) → sign_of c ≡ s → are_runs (items_from s c (items_after cs)) ≡ true → (are_runs (items_after cs false) ≡ true → are_signs cs ≡ true) → ((c == 37) && are_signs cs) ≡ true
runs_by_sign Percent c cs e h f = both_hold _ _ (percent_is c e) (f h)
runs_by_sign Underscore c cs e h f = cc
runs_by_sign Backslash c cs e h f = clash h (escaped_are_none cs)
runs_by_sign Plain c cs e h f = cc

runs_are_signs : (cs : List ℕ) → are_runs (items_after cs false) ≡ true → are_signs cs ≡ true
runs_are_signs [] h = refl
runs_are_signs (c ∷ cs) h = runs_by_sign (sign_of c) c cs refl h (λ k. runs_are_signs cs k)

-- ---- what stands before percent signs

later_end : (c : ℕ) (cs : List ℕ) → ends_in_sign (c ∷ cs) ≡ false → ends_in_sign cs ≡ false
later_end c [] h = refl
later_end c (d ∷ cs) h = h

signs_end : (c : ℕ) (cs : List ℕ) → (c == 37) ≡ true → are_signs cs ≡ true → ends_in_sign (c ∷ cs) ≡ true
signs_end c [] h k = h
signs_end c (d ∷ cs) h k = let m = and_parts (d == 37) (are_signs cs) k in signs_end d cs m.0 m.1

signs_before : (cs more : List ℕ) → are_signs (cs ++ more) ≡ true → are_signs cs ≡ true
signs_before [] more h = refl
signs_before (c ∷ cs) more h = let k = and_parts (c == 37) (are_signs (cs ++ more)) h in both_hold _ _ k.0 (signs_before cs more k.1)

-- the first sign is literal, or it is a run

literal_by_sign : (s : Sign) (c : ℕ) (cs more : List ℕ) → ((b : Bool) → is_exact (items_after (cs ++ 37 ∷ []) b) ≡ true → items_after ((cs ++ 37 ∷ []) ++ more) b ≡ items_after (cs ++ 37 ∷ []) b ++ items_after more false)
    → is_exact (items_from s c (items_after (cs ++ 37 ∷ []))) ≡ true → items_from s c (items_after ((cs ++ 37 ∷ []) ++ more)) ≡ items_from s c (items_after (cs ++ 37 ∷ [])) ++ items_after more false
literal_by_sign Percent c cs more f e = cc
literal_by_sign Underscore c cs more f e = cc
literal_by_sign Backslash c cs more f e = f true e
literal_by_sign Plain c cs more f e = ap (λ is. Char c ∷ is) (f false e)

literal_sign : (cs more : List ℕ) (b : Bool) → is_exact (items_after (cs ++ 37 ∷ []) b) ≡ true → items_after ((cs ++ 37 ∷ []) ++ more) b ≡ items_after (cs ++ 37 ∷ []) b ++ items_after more false
literal_sign [] more false e = cc
literal_sign [] more true e = refl
literal_sign (c ∷ cs) more true e = ap (λ is. Char c ∷ is) (literal_sign cs more false e)
literal_sign (c ∷ cs) more false e = literal_by_sign (sign_of c) c cs more (λ b. literal_sign cs more b) e

run_by_sign : (s : Sign) (c : ℕ) (cs more : List ℕ) → ((b : Bool) → is_exact (items_after cs b) ≡ true → is_exact (items_after (cs ++ 37 ∷ []) b) ≡ false → items_after ((cs ++ 37 ∷ []) ++ more) b ≡ items_after cs b ++ AnyRun ∷ items_after more false)
    → is_exact (items_from s c (items_after cs)) ≡ true → is_exact (items_from s c (items_after (cs ++ 37 ∷ []))) ≡ false → items_from s c (items_after ((cs ++ 37 ∷ []) ++ more)) ≡ items_from s c (items_after cs) ++ AnyRun ∷ items_after more false
run_by_sign Percent c cs more f e h = cc
run_by_sign Underscore c cs more f e h = cc
run_by_sign Backslash c cs more f e h = f true e h
run_by_sign Plain c cs more f e h = ap (λ is. Char c ∷ is) (f false e h)

run_sign : (cs more : List ℕ) (b : Bool) → is_exact (items_after cs b) ≡ true → is_exact (items_after (cs ++ 37 ∷ []) b) ≡ false → items_after ((cs ++ 37 ∷ []) ++ more) b ≡ items_after cs b ++ AnyRun ∷ items_after more false
run_sign [] more false e h = refl
run_sign [] more true e h = cc
run_sign (c ∷ cs) more true e h = ap (λ is. Char c ∷ is) (run_sign cs more false e h)
run_sign (c ∷ cs) more false e h = run_by_sign (sign_of c) c cs more (λ b. run_sign cs more b) e h

-- ---- what stands before the signs has no wildcard if the whole has none but runs at its end

abbrev IsOneExact : (cs : List ℕ) → Bool → Type 0
IsOneExact cs b = (is_exact (items_after cs b) ≡ true) ⊎ (is_exact (items_after (cs ++ 37 ∷ []) b) ≡ true)

abbrev IsOneExactBy : Sign → (c : ℕ) → (cs : List ℕ) → Type 0
IsOneExactBy s c cs = (is_exact (items_from s c (items_after cs)) ≡ true) ⊎ (is_exact (items_from s c (items_after (cs ++ 37 ∷ []))) ≡ true)

front_by_sign : (s : Sign) (c : ℕ) (cs more : List ℕ) → sign_of c ≡ s → ends_in_sign (c ∷ cs) ≡ false → ((b : Bool) → is_beginning (items_after ((cs ++ 37 ∷ []) ++ more) b) ≡ true → IsOneExact cs b)
    → is_beginning (items_from s c (items_after ((cs ++ 37 ∷ []) ++ more))) ≡ true → IsOneExactBy s c cs
front_by_sign Percent c cs more e n f h =
    clash (signs_end c cs (percent_is c e) (signs_before cs (37 ∷ []) (signs_before (cs ++ 37 ∷ []) more (runs_are_signs ((cs ++ 37 ∷ []) ++ more) h)))) n
front_by_sign Underscore c cs more e n f h = cc
front_by_sign Backslash c cs more e n f h = f true h
front_by_sign Plain c cs more e n f h = f false h

front_exact : (cs more : List ℕ) (b : Bool) → ends_in_sign cs ≡ false → is_beginning (items_after ((cs ++ 37 ∷ []) ++ more) b) ≡ true → IsOneExact cs b
front_exact [] more false n h = inl refl
front_exact [] more true n h = inr refl
front_exact (c ∷ cs) more true n h = front_exact cs more false (later_end c cs n) h
front_exact (c ∷ cs) more false n h = front_by_sign (sign_of c) c cs more refl n (λ b. front_exact cs more b (later_end c cs n)) h

-- ---- a pattern that doesn't end in a percent sign

no_run_by_sign : (s : Sign) (c : ℕ) (cs : List ℕ) → sign_of c ≡ s → ends_in_sign (c ∷ cs) ≡ false → ((b : Bool) → is_beginning (items_after cs b) ≡ false) → is_beginning (items_from s c (items_after cs)) ≡ false
no_run_by_sign Percent c cs e n f = refuted (are_runs (items_after cs false)) (λ h. clash (signs_end c cs (percent_is c e) (runs_are_signs cs h)) n)
no_run_by_sign Underscore c cs e n f = refl
no_run_by_sign Backslash c cs e n f = f true
no_run_by_sign Plain c cs e n f = f false

no_run_behind : (cs : List ℕ) (b : Bool) → ends_in_sign cs ≡ false → is_beginning (items_after cs b) ≡ false
no_run_behind [] false n = refl
no_run_behind [] true n = refl
no_run_behind (c ∷ cs) true n = no_run_behind cs false (later_end c cs n)
no_run_behind (c ∷ cs) false n = no_run_by_sign (sign_of c) c cs refl n (λ b. no_run_behind cs b (later_end c cs n))

-- ---- how a pattern's end is split off

pub ends_with : (cs : List ℕ) (c : ℕ) → ends_in_sign (cs ++ c ∷ []) ≡ (c == 37)
ends_with [] c = refl
ends_with (d ∷ []) c = refl
ends_with (d ∷ e ∷ cs) c = ends_with (e ∷ cs) c

pub no_sign_at_end : (cs front : List ℕ) (c : ℕ) → cs ≡ front ++ c ∷ [] → (c ≡ 37 → ⊥) → ends_in_sign cs ≡ false
no_sign_at_end cs front c split h = ap ends_in_sign split ∙ ends_with front c ∙ refuted (c == 37) (λ e. h (eqb-true c 37 e))

pub signs_begin : (cs front : List ℕ) → cs ≡ front ++ 37 ∷ [] → HasSigns cs front cs
signs_begin cs front h = record { more = []; signs = refl; first_sign = h; whole = sym (append-nil cs) }

pub signs_go_on : (cs front first before : List ℕ) → HasSigns cs front first → front ≡ before ++ 37 ∷ [] → HasSigns cs before front
signs_go_on cs front first before h e =
    record {
      more = 37 ∷ h.more;
      signs = h.signs;
      first_sign = e;
      whole = h.whole ∙ ap (λ x. x ++ h.more) h.first_sign ∙ append_assoc front (37 ∷ []) h.more;
    }

-- ---- the pattern's characters, and what was read of those before the last

some_exact : (p : PatternData) (is : List Item) (e : List ℕ) → p ≡ pattern_of is → Some e ≡ exact_text p → is_exact is ≡ true
some_exact p is e same h = by (is_exact is) (h ∙ ap exact_text same)
  where
    by : (b : Bool) → Some e ≡ (if b then Some (encode_utf8_all (literal_prefix is)) else None) → b ≡ true
    by true k = refl
    by false k = cc

no_exact : (p : PatternData) (is : List Item) → p ≡ pattern_of is → None ≡ exact_text p → is_exact is ≡ false
no_exact p is same h = by (is_exact is) (h ∙ ap exact_text same)
  where
    by : (b : Bool) → None ≡ (if b then Some (encode_utf8_all (literal_prefix is)) else None) → b ≡ false
    by true k = cc
    by false k = refl

-- the one text that a pattern matches
pub exact_is_prefix : (p : PatternData) (is : List Item) (e : List ℕ) → p ≡ pattern_of is → Some e ≡ exact_text p → (is_exact is ≡ true) × (e ≡ encode_utf8_all (literal_prefix is))
exact_is_prefix p is e same h = by (is_exact is) (h ∙ ap exact_text same)
  where
    by : (b : Bool) → Some e ≡ (if b then Some (encode_utf8_all (literal_prefix is)) else None) → (b ≡ true) × (e ≡ encode_utf8_all (literal_prefix is))
    by true k = (refl, cc)
    by false k = absurd cc

pub has_wildcard : (p : PatternData) (is : List Item) → p ≡ pattern_of is → None ≡ exact_text p → is_exact is ≡ false
has_wildcard p is same h = no_exact p is same h

abbrev pub IsRead : (p : PatternData) → List Item → Type 0
IsRead p is = (is_exact is ≡ true) × (p.prefix ≡ encode_utf8_all (literal_prefix is))

pub read_of : (p : PatternData) (is : List Item) (e : List ℕ) → p ≡ pattern_of is → Some e ≡ exact_text p → IsRead p is
read_of p is e same h = (some_exact p is e same h, ap (λ (q : PatternData). q.prefix) same)

module _ (cs front first : List ℕ) (split : IsBeforeSigns cs front first) where
  whole_is : cs ≡ (front ++ 37 ∷ []) ++ split.split.more
  whole_is = split.split.whole ∙ ap (λ x. x ++ split.split.more) split.split.first_sign

  -- the first sign is literal
  pub from_first : (p : PatternData) → is_exact (items cs) ≡ false → IsRead p (items first) → (is_beginning (items cs) ≡ true) × (p.prefix ≡ encode_utf8_all (literal_prefix (items cs)))
  from_first p wild h =
      let is = items (front ++ 37 ∷ []) in
      let rs = items_after split.split.more false in
      let exact : is_exact is ≡ true = sym (ap (λ x. is_exact (items x)) split.split.first_sign) ∙ h.0 in
      let runs : are_runs rs ≡ true = signs_are_runs split.split.more split.split.signs in
      let read : items cs ≡ is ++ rs = ap items whole_is ∙ literal_sign front split.split.more false exact in (
        ap is_beginning read ∙ behind_begins is rs exact runs (sym (ap is_exact read) ∙ wild),
        h.1 ∙ ap (λ x. encode_utf8_all (literal_prefix (items x))) split.split.first_sign ∙ sym (ap (λ is. encode_utf8_all (literal_prefix is)) read ∙ ap encode_utf8_all (behind_prefix is rs exact runs)),
      )

  -- it is a run
  pub from_front : (p : PatternData) → is_exact (items cs) ≡ false → is_exact (items first) ≡ false → IsRead p (items front) → (is_beginning (items cs) ≡ true) × (p.prefix ≡ encode_utf8_all (literal_prefix (items cs)))
  from_front p wild literal_no h =
      let is = items front in
      let rs = AnyRun ∷ items_after split.split.more false in
      let runs : are_runs rs ≡ true = signs_are_runs split.split.more split.split.signs in
      let read : items cs ≡ is ++ rs = ap items whole_is ∙ run_sign front split.split.more false h.0 (sym (ap (λ x. is_exact (items x)) split.split.first_sign) ∙ literal_no) in (
        ap is_beginning read ∙ behind_begins is rs h.0 runs (sym (ap is_exact read) ∙ wild),
        h.1 ∙ sym (ap (λ is. encode_utf8_all (literal_prefix is)) read ∙ ap encode_utf8_all (behind_prefix is rs h.0 runs)),
      )

  -- a wildcard stands before it
  pub from_neither : is_exact (items first) ≡ false → is_exact (items front) ≡ false → is_beginning (items cs) ≡ false
  from_neither literal_no none =
      refuted (is_beginning (items cs)) (λ h. by (front_exact front split.split.more false split.no_sign_before (sym (ap (λ x. is_beginning (items x)) whole_is) ∙ h)))
    where
      by : IsOneExact front false → ⊥
      by (inl e) = clash e none
      by (inr e) = clash e (sym (ap (λ x. is_exact (items x)) split.split.first_sign) ∙ literal_no)

pub no_signs_read : (cs : List ℕ) → ends_in_sign cs ≡ false → is_beginning (items cs) ≡ false
no_signs_read cs h = no_run_behind cs false h

-- ---- the comparisons of a pattern with a wildcard

pub read_some : {A : Type 0} (o : Option A) (x : A) (N : Type 0) (P : A → Type 0) → o ≡ Some x → MatchOption o N P → P x
read_some (Some y) x N P e h = subst P (same_Some _ _ e) h
read_some None x N P e h = absurd (none-some x e)

pub read_none : {A : Type 0} (o : Option A) (N : Type 0) (P : A → Type 0) → o ≡ None → MatchOption o N P → N
read_none (Some y) N P e h = absurd (none-some y (sym e))
read_none None N P e h = h

-- what is read holds in other words too
pub ok_option : {A : Type 0} (r : Result (Option A) StatsError) (M N : Type 0) (P Q : A → Type 0) → (M → N) → ((x : A) → P x → Q x)
    → OkOrMemory r (λ o. MatchOption o M P) → OkOrMemory r (λ o. MatchOption o N Q)
ok_option (Ok (Some x)) M N P Q f g h = g x h
ok_option (Ok None) M N P Q f g h = f h
ok_option (Err e) M N P Q f g h = h

prefix_chars : (bs cs : List ℕ) → IsUtf8 bs → bs ≡ encode_utf8_all cs → chars bs ≡ cs
prefix_chars bs cs text e = encodes_same (chars bs) cs (encodes-chars bs text ∙ e)

none_long : (bs : List ℕ) → (length bs == 0) ≡ true → bs ≡ []
none_long [] h = refl
none_long (b ∷ bs) h = let e : length (b ∷ bs) ≡ 0 = eqb-true (length (b ∷ bs)) 0 h in absurd (omega arith)

module _ (w : Bool) (x : Tree Place) (is : List Item) (wild : is_exact is ≡ false) where
  abbrev beginning_by : Bool → Option (Tree Place)
  beginning_by b = if b then begins w x (literal_prefix is) (successor (literal_prefix is)) else None

  abbrev runs_by : Bool → Option (Tree Place)
  runs_by b = if b then Some (any_text w x) else beginning_by (is_beginning is && is_last_raised (literal_prefix is))

  abbrev whole_by : Bool → Option (Tree Place)
  whole_by b = if b then Some (same_text w x (encode_utf8_all (literal_prefix is))) else runs_by (are_runs is)

  by_runs : items_matched w x is ≡ runs_by (are_runs is)
  by_runs = ap whole_by wild

  by_beginning : are_runs is ≡ false → items_matched w x is ≡ beginning_by (is_beginning is && is_last_raised (literal_prefix is))
  by_beginning none = by_runs ∙ ap runs_by none

  pub not_beginning : is_beginning is ≡ false → None ≡ items_matched w x is
  not_beginning b =
      let none : are_runs is ≡ false = refuted (are_runs is) (λ r. clash (runs_begin is wild r) b) in
      sym (by_beginning none ∙ ap (λ t. beginning_by (t && is_last_raised (literal_prefix is))) b)

  module _ (p : PatternData) (read : (is_beginning is ≡ true) × (p.prefix ≡ encode_utf8_all (literal_prefix is))) (from : List ℕ) (text : IsUtf8 from) (same : from ≡ p.prefix) where
    from_is : from ≡ encode_utf8_all (literal_prefix is)
    from_is = same ∙ read.1

    own_chars : chars from ≡ literal_prefix is
    own_chars = prefix_chars from (literal_prefix is) text from_is

    pub all_texts : (e : Tree Place) → (length from == 0) ≡ true → e ≡ any_text w x → Some e ≡ items_matched w x is
    all_texts e none h =
        let empty : literal_prefix is ≡ [] = encodes_same (literal_prefix is) [] (sym from_is ∙ none_long from none) in
        ap Some h ∙ sym (by_runs ∙ ap runs_by (runs_by_prefix is read.0 empty))

    module _ (some : (length from == 0) ≡ false) where
      no_runs : are_runs is ≡ false
      no_runs = refuted (are_runs is) (λ r. clash (ap (λ bs. length bs == 0) (from_is ∙ ap encode_utf8_all (runs_have_no_prefix is r))) some)

      by_last : items_matched w x is ≡ beginning_by (is_last_raised (literal_prefix is))
      by_last = by_beginning no_runs ∙ ap (λ t. beginning_by (t && is_last_raised (literal_prefix is))) read.0

      pub not_raised : is_last_raised (chars from) ≡ false → None ≡ items_matched w x is
      not_raised r =
          let last : is_last_raised (literal_prefix is) ≡ false = sym (ap is_last_raised own_chars) ∙ r in
          sym (by_last ∙ ap beginning_by last)

      raised_is : is_last_raised (chars from) ≡ true → items_matched w x is ≡ begins w x (literal_prefix is) (successor (literal_prefix is))
      raised_is r =
          let last : is_last_raised (literal_prefix is) ≡ true = sym (ap is_last_raised own_chars) ∙ r in
          by_last ∙ ap beginning_by last

      ends : (s : Option (List ℕ)) (t : Option (List ℕ)) → t ≡ option_map encode_utf8_all s → begins w x (literal_prefix is) s ≡ option_map (λ below. text_range w x from below) t
      ends None None h = refl
      ends None (Some b) h = cc
      ends (Some ds) None h = cc
      ends (Some ds) (Some b) h =
          let below : b ≡ encode_utf8_all ds = same_Some _ _ h in
          (λ i. Some (text_range w x (sym from_is i) (sym below i)))

      pub no_end : is_last_raised (chars from) ≡ true → None ≡ option_map encode_utf8_all (successor (chars from)) → None ≡ items_matched w x is
      no_end r h =
          sym (raised_is r ∙ ends (successor (literal_prefix is)) None (h ∙ ap (λ cs. option_map encode_utf8_all (successor cs)) own_chars))

      pub up_to : (below : List ℕ) (e : Tree Place) → is_last_raised (chars from) ≡ true → Some below ≡ option_map encode_utf8_all (successor (chars from)) → e ≡ text_range w x from below → Some e ≡ items_matched w x is
      up_to below e r h is_range =
          ap Some is_range ∙ sym (raised_is r ∙ ends (successor (literal_prefix is)) (Some below) (h ∙ ap (λ cs. option_map encode_utf8_all (successor cs)) own_chars))
