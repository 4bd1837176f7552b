-- The items of a chain that are read, and those that are still to come.
use Rattle.std.proofs.Common.{◌≡◌, ◌<◌, ◌≤◌, ◌+◌, ◌-◌, ℕ, zero, suc, Bool, true, false, List, [], ◌∷◌, ◌++◌, Option, Some, None, length, option_and_then, refl, ap, ap₂, sym, subst, ◌∙◌, arith, append_assoc, append-nil, length-append}
use Rattle.std.specs.List.{AllByRecursion}
use Rattle.vortex_base.specs.Data.Scalars.{Constant}
use Rattle.vortex_base.specs.Data.Scopes.{Named}
use Rattle.vortex_expr.specs.Meanings.Binding.{find_column}
use Rattle.vortex_expr.specs.Trees.Tree.{Tree, Place, column, literal, binary, between, is_null, is_not_null, not, like, stat, row_count}
use Rattle.vortex_expr.specs.declared.scalar_fn.BetweenOptions.{BetweenOptions}
use Rattle.vortex_expr.specs.declared.scalar_fn.Operator.TheVariants.{And, Or}
use Rattle.vortex_normal.specs.Balanced.{depth}
use Rattle.vortex_rewrite.specs.Rewriting.Predicates.{is_predicate}
use Rattle.vortex_syntax.specs.Expressions.{Read, expression_by, expression_within, followed, form_of, read_between, read_column, read_literal, read_one, read_options, read_two, typed}
use Rattle.vortex_syntax.specs.Fails.{when}
use Rattle.vortex_syntax.specs.Words.{Token, plain_word}
use Rattle.vortex_syntax.specs.declared.form.Form.{Form}
use Rattle.vortex_syntax.specs.declared.form.Form.TheVariants as form
use Rattle.vortex_expr.specs.Trees.Connectives.{operator_of}
use Rattle.vortex_capi.specs.Nesting.Halves.{halved, halves, items, joined}
use Rattle.vortex_capi.specs.Nesting.Nodes.{IsDeep, deepest}
use Rattle.vortex_capi.specs.Nesting.Reads.{Fails, behind, chain_within, halved_pair, halved_read, joined_read, nested_within, opens}
use Rattle.vortex_capi.specs.declared.nested.error.NestedError.{NestedError}
use Rattle.vortex_capi.specs.declared.nested.error.NestedError.TheVariants as errors
use Rattle.vortex_capi.proofs.Nesting.Chains.{Items, after, before, before_false, opened}
use Rattle.vortex_capi.proofs.Nesting.Depths.{deepest_append, items_deeper}
use Rattle.vortex_capi.proofs.Nesting.Shapes.{literal_of, step_is}
use Rattle.vortex_capi.proofs.Nesting.Steps.{followed_is, read_back, read_none, step_of}
use Rattle.vortex_capi.proofs.Nesting.Types.{same_predicate}

-- ---- every expression has an item

-- it has one as a chain of AND and as one of OR
pub some_parts : (e : Tree Place) → (0 < length (halves e).ands) × (0 < length (halves e).ors)
some_parts (binary And l r) = (omega (arith, length-append (halves l).ands (halves r).ands, (some_parts l).0), omega arith)
some_parts (binary Or l r) = (omega arith, omega (arith, length-append (halves l).ors (halves r).ors, (some_parts l).1))
some_parts (binary o l r) = (omega arith, omega arith)
some_parts (column c) = (omega arith, omega arith)
some_parts (literal c) = (omega arith, omega arith)
some_parts (between o x l u) = (omega arith, omega arith)
some_parts (is_null x) = (omega arith, omega arith)
some_parts (is_not_null x) = (omega arith, omega arith)
some_parts (not x) = (omega arith, omega arith)
some_parts (like o x p) = (omega arith, omega arith)
some_parts (stat f x) = (omega arith, omega arith)
some_parts row_count = (omega arith, omega arith)

some_items : (w : Bool) (e : Tree Place) → 0 < length (items w (halves e))
some_items true e = (some_parts e).0
some_items false e = (some_parts e).1

-- ---- what begins with no AND is its own only item of a chain of AND, and so with OR

abbrev IsOwn : Bool → Tree Place → Type 0
IsOwn w e = items w (halves e) ≡ halved e ∷ []

followed_own : (w : Bool) (e : Tree Place) (ws : List Token) (x : Tree Place × List Token) → IsOwn w e → followed (typed e) ws ≡ Some x → IsOwn w x.0
followed_own w e ws x own h = let P : Tree Place → Type 0 = IsOwn w in subst P (followed_is e ws x h) own

one_own : (w : Bool) (operand : List Token → Read) (made : Tree Place → Tree Place) → ((e : Tree Place) → IsOwn w (made e)) → (ws : List Token) (x : Tree Place × List Token) → read_one operand made ws ≡ Some x → IsOwn w x.0
one_own w operand made own ws x h =
    let a = step_of (operand ws) (λ (y : Tree Place × List Token). followed (typed (made y.0)) y.1) x h in
    followed_own w (made a.at.0) a.at.1 x (own a.at.0) a.then

two_own : (w : Bool) (operand : List Token → Read) (made : Tree Place → Tree Place → Tree Place) → ((d e : Tree Place) → IsOwn w (made d e)) → (ws : List Token) (x : Tree Place × List Token) → read_two operand made ws ≡ Some x → IsOwn w x.0
two_own w operand made own ws x h =
    let last = λ (l : Tree Place) (r : Tree Place × List Token). followed (typed (made l r.0)) r.1 in
    let a = step_of (operand ws) (λ (l : Tree Place × List Token). option_and_then (last l.0) (operand l.1)) x h in
    let b = step_of (operand a.at.1) (last a.at.0) x a.then in
    followed_own w (made a.at.0 b.at.0) b.at.1 x (own a.at.0 b.at.0) b.then

ends_own : (w : Bool) (operand : List Token → Read) → ((o : BetweenOptions) (d e f : Tree Place) → IsOwn w (between o d e f)) → (ws : List Token) (x : Tree Place × List Token) → read_between operand ws ≡ Some x → IsOwn w x.0
ends_own w operand own ws x h =
    let last = λ (o : BetweenOptions) (y l : Tree Place) (u : Tree Place × List Token). followed (typed (between o y l u.0)) u.1 in
    let third = λ (o : BetweenOptions) (y : Tree Place) (l : Tree Place × List Token). option_and_then (last o y l.0) (operand l.1) in
    let second = λ (o : BetweenOptions) (y : Tree Place × List Token). option_and_then (third o y.0) (operand y.1) in
    let o = step_of (read_options ws) (λ (p : BetweenOptions × List Token). option_and_then (second p.0) (operand p.1)) x h in
    let a = step_of (operand o.at.1) (second o.at.0) x o.then in
    let b = step_of (operand a.at.1) (third o.at.0 a.at.0) x a.then in
    let c = step_of (operand b.at.1) (last o.at.0 a.at.0 b.at.0) x b.then in
    followed_own w (between o.at.0 a.at.0 b.at.0 c.at.0) c.at.1 x (own o.at.0 a.at.0 b.at.0 c.at.0) c.then

column_own : (w : Bool) (scope : List Named) → ((c : Place) → IsOwn w (column c)) → (ws : List Token) (x : Tree Place × List Token) → read_column scope ws ≡ Some x → IsOwn w x.0
column_own w scope own ws x h =
    let a = step_of (plain_word ws) (λ (name : List ℕ × List Token). option_and_then (λ (p : Place). Some (column p, name.1)) (find_column scope name.0)) x h in
    let b = step_of (find_column scope a.at.0) (λ (p : Place). Some (column p, a.at.1)) x a.then in
    let last = b.then in
    let pair : (column b.at, a.at.1) ≡ x = cc in
    let P : Tree Place → Type 0 = IsOwn w in
    subst P (ap (λ (p : Tree Place × List Token). p.0) pair) (own b.at)

literal_own : (w : Bool) → ((c : Constant) → IsOwn w (literal c)) → (ws : List Token) (x : Tree Place × List Token) → read_literal ws ≡ Some x → IsOwn w x.0
literal_own w own ws x h = let c = literal_of ws x h in let P : Tree Place → Type 0 = IsOwn w in subst P c.1 (own c.0)

module _ (scope : List Named) (operand : List Token → Read) where
  own_and : (f : Form) (ws : List Token) (x : Tree Place × List Token) → opens true f ≡ false → expression_by scope operand f ws ≡ Some x → IsOwn true x.0
  own_and form.Column ws x n h = column_own true scope (λ c. refl) ws x h
  own_and form.Literal ws x n h = literal_own true (λ c. refl) ws x h
  own_and (form.Binary And) ws x n h = cc
  own_and (form.Binary o) ws x n h = two_own true operand (binary o) (λ d e. refl) ws x h
  own_and form.Between ws x n h = ends_own true operand (λ o d e f. refl) ws x h
  own_and form.IsNull ws x n h = one_own true operand is_null (λ e. refl) ws x h
  own_and form.IsNotNull ws x n h = one_own true operand is_not_null (λ e. refl) ws x h
  own_and form.Not ws x n h = one_own true operand not (λ e. refl) ws x h
  own_and (form.Like o) ws x n h = two_own true operand (like o) (λ d e. refl) ws x h

  own_or : (f : Form) (ws : List Token) (x : Tree Place × List Token) → opens false f ≡ false → expression_by scope operand f ws ≡ Some x → IsOwn false x.0
  own_or form.Column ws x n h = column_own false scope (λ c. refl) ws x h
  own_or form.Literal ws x n h = literal_own false (λ c. refl) ws x h
  own_or (form.Binary Or) ws x n h = cc
  own_or (form.Binary o) ws x n h = two_own false operand (binary o) (λ d e. refl) ws x h
  own_or form.Between ws x n h = ends_own false operand (λ o d e f. refl) ws x h
  own_or form.IsNull ws x n h = one_own false operand is_null (λ e. refl) ws x h
  own_or form.IsNotNull ws x n h = one_own false operand is_not_null (λ e. refl) ws x h
  own_or form.Not ws x n h = one_own false operand not (λ e. refl) ws x h
  own_or (form.Like o) ws x n h = two_own false operand (like o) (λ d e. refl) ws x h

  own : (w : Bool) (f : Form) (ws : List Token) (x : Tree Place × List Token) → opens w f ≡ false → expression_by scope operand f ws ≡ Some x → IsOwn w x.0
  own true f ws x n h = own_and f ws x n h
  own false f ws x n h = own_or f ws x n h

-- ---- the word of a connective

when_none : {X : Type 0} (b : Bool) (x : X) → when b x ≡ None → b ≡ false
when_none true x h = cc
when_none false x h = refl

when_some : {X : Type 0} (b : Bool) (x y : X) → when b x ≡ Some y → (b ≡ true) × (x ≡ y)
when_some true x y h = (refl, cc)
when_some false x y h = cc

opens_is : (w : Bool) (f : Form) → opens w f ≡ true → f ≡ form.Binary (operator_of w)
opens_is true (form.Binary And) h = refl
opens_is true f h = cc
opens_is false (form.Binary Or) h = refl
opens_is false f h = cc

abbrev form_behind : Bool → List ℕ × List Token → Option (List Token)
form_behind w word = option_and_then (λ (f : Form). when (opens w f) word.1) (form_of word.0)

module _ (scope : List Named) (w : Bool) where
  -- an expression that begins with no such word
  not_opened : (m : ℕ) (ws : List Token) (x : Tree Place × List Token) → behind w ws ≡ None → expression_within scope m ws ≡ Some x → IsOwn w x.0
  not_opened zero ws x none h = cc
  not_opened (suc m) ws x none h =
      let a = step_of (plain_word ws) (λ (word : List ℕ × List Token). option_and_then (λ (f : Form). expression_by scope (expression_within scope m) f word.1) (form_of word.0)) x h in
      let b = step_of (form_of a.at.0) (λ (f : Form). expression_by scope (expression_within scope m) f a.at.1) x a.then in
      let shut : when (opens w b.at) a.at.1 ≡ None =
      sym (ap (option_and_then (form_behind w)) a.made ∙ ap (option_and_then (λ (f : Form). when (opens w f) a.at.1)) b.made) ∙ none in
      own scope (expression_within scope m) w b.at a.at.1 x (when_none (opens w b.at) a.at.1 shut) b.then

  -- an expression that begins with one is read as two items
  opened_step : (m : ℕ) (ms : List ℕ) (ws rest : List Token) → behind w ws ≡ Some rest → chain_within scope w (suc m ∷ ms) ws ≡ chain_within scope w (m ∷ m ∷ ms) rest
  opened_step m ms ws rest h =
      let a = step_of (plain_word ws) (form_behind w) rest h in
      let b = step_of (form_of a.at.0) (λ (f : Form). when (opens w f) a.at.1) rest a.then in
      let c = when_some (opens w b.at) a.at.1 rest b.then in
      ap (option_and_then (after scope w ms))
      (step_is scope m ws a.at.1 a.at.0 b.at a.made b.made
      ∙ ap (λ f. expression_by scope (expression_within scope m) f a.at.1) (opens_is w b.at c.0)
      ∙ ap (read_two (expression_within scope m) (binary (operator_of w))) c.1)
      ∙ opened scope w ms m rest

-- ---- what is read, and what is to come

abbrev prefixed : List (Tree Place) → Items → Items
prefixed es o = option_and_then (λ (more : List (Tree Place) × List Token). Some (es ++ more.0, more.1)) o

prefixed_none : (o : Items) → prefixed [] o ≡ o
prefixed_none None = refl
prefixed_none (Some y) = refl

prefixed_twice : (es ds : List (Tree Place)) (o : Items) → prefixed es (prefixed ds o) ≡ prefixed (es ++ ds) o
prefixed_twice es ds None = refl
prefixed_twice es ds (Some y) = ap (λ (fs : List (Tree Place)). Some (fs, y.1)) (sym (append_assoc es ds y.0))

before_true : (scope : List Named) (w : Bool) (e : Tree Place) (o : Items) → is_predicate e ≡ true → before scope w e o ≡ prefixed (items w (halves e)) o
before_true scope w e o h = rw h refl

-- the items so far, and as many expressions to come as there are numbers, each of which has at most so many words
pub record Left (scope : List Named) (w : Bool) (whole : Items) (es : List (Tree Place)) (count : ℕ) (ws : List Token) : Type 0 where
  pub mosts : List ℕ
  pub counted : length mosts ≡ count
  pub enough : AllByRecursion (λ m. length ws ≤ m) mosts
  pub same : whole ≡ prefixed es (chain_within scope w mosts ws)

pub left_start : (scope : List Named) (w : Bool) (most : ℕ) (ws : List Token) → length ws ≤ most → Left scope w (chain_within scope w (most ∷ most ∷ []) ws) [] 2 ws
left_start scope w most ws h = record {
  mosts = most ∷ most ∷ [];
  counted = refl;
  enough = (h, (h, tt));
  same = sym (prefixed_none (chain_within scope w (most ∷ most ∷ []) ws));
}

pub left_done : (scope : List Named) (w : Bool) (whole : Items) (es : List (Tree Place)) (count : ℕ) (ws : List Token) → Left scope w whole es count ws → count ≡ 0 → whole ≡ Some (es, ws)
left_done scope w whole es count ws left none = done left.mosts (left.counted ∙ none) left.same
  where
    done : (mosts : List ℕ) → length mosts ≡ 0 → whole ≡ prefixed es (chain_within scope w mosts ws) → whole ≡ Some (es, ws)
    done [] e h = h ∙ ap (λ (fs : List (Tree Place)). Some (fs, ws)) (append-nil es)
    done (m ∷ ms) e h = absurd (omega (arith, e))

still_enough : (vs ws : List Token) → length vs ≤ length ws → (ms : List ℕ) → AllByRecursion (λ m. length ws ≤ m) ms → AllByRecursion (λ m. length vs ≤ m) ms
still_enough vs ws h [] k = tt
still_enough vs ws h (m ∷ ms) k = (omega (arith, h, k.0), still_enough vs ws h ms k.1)

joined_back : (w : Bool) (o : Items) (y : Tree Place × List Token) → joined_read w o ≡ Some y → (z : List (Tree Place) × List Token) × (o ≡ Some z) × ((joined w z.0, z.1) ≡ y)
joined_back w None y h = cc
joined_back w (Some z) y h = (z, refl, cc)

-- as many expressions have no fewer items
pub chain_long : (scope : List Named) (w : Bool) (ms : List ℕ) (ws : List Token) (z : List (Tree Place) × List Token) → chain_within scope w ms ws ≡ Some z → length ms ≤ length z.0
chain_long scope w [] ws z h = omega arith
chain_long scope w (m ∷ ms) ws z h =
    let b = step_of (expression_within scope m ws) (after scope w ms) z h in
    let c = step_of (when (is_predicate b.at.0) b.at.0) (λ (truth : Tree Place). option_and_then (λ (more : List (Tree Place) × List Token). Some (items w (halves truth) ++ more.0, more.1)) (chain_within scope w ms b.at.1)) z b.then in
    let d = step_of (chain_within scope w ms b.at.1) (λ (more : List (Tree Place) × List Token). Some (items w (halves c.at) ++ more.0, more.1)) z c.then in
    let last = d.then in
    let pair : (items w (halves c.at) ++ d.at.0, d.at.1) ≡ z = cc in
    let same = ap (λ (p : List (Tree Place) × List Token). length p.0) pair in
    omega (arith, same, length-append (items w (halves c.at)) d.at.0, some_items w c.at, chain_long scope w ms b.at.1 d.at d.made)

-- what its items make up
pub joined_ok : (w : Bool) (o : Items) (es : List (Tree Place)) (ws : List Token) (e : Tree Place) → o ≡ Some (es, ws) → e ≡ joined w es → joined_read w o ≡ Some (e, ws)
joined_ok w o es ws e h k = ap (joined_read w) h ∙ ap (λ (d : Tree Place). Some (d, ws)) (sym k)

pub joined_fails : (w : Bool) (o : Items) (es : List (Tree Place)) (ws : List Token) (below : ℕ) (fault : NestedError) → o ≡ Some (es, ws) → IsDeep (below ≤ depth (joined w es)) fault → Fails below fault (joined_read w o)
joined_fails w o es ws below errors.Memory h deep = tt
joined_fails w o es ws below errors.Bad h deep = absurd deep
joined_fails w o es ws below errors.TooDeep h deep = λ y k.
    let same : Some (joined w es, ws) ≡ Some y = sym (ap (joined_read w) h) ∙ k in
    let pair : (joined w es, ws) ≡ y = cc in
    let P : Tree Place → Type 0 = λ t. below ≤ depth t in
    subst P (ap (λ (p : Tree Place × List Token). p.0) pair) deep

module _ (scope : List Named) (w : Bool) (whole : Items) (es : List (Tree Place)) (count : ℕ) (ws : List Token) (left : Left scope w whole es count ws) (some : 0 < count) where
  -- the AND of a chain of AND stands for one more item, and so with OR
  pub left_opened : (rest : List Token) → behind w ws ≡ Some rest → length rest < length ws → Left scope w whole es (count + 1) rest
  left_opened rest opening fewer = by_mosts left.mosts left.counted left.enough left.same
    where
      by_mosts : (ms : List ℕ) → length ms ≡ count → AllByRecursion (λ m. length ws ≤ m) ms → whole ≡ prefixed es (chain_within scope w ms ws) → Left scope w whole es (count + 1) rest
      by_mosts [] counted enough same = absurd (omega (arith, counted, some))
      by_mosts (zero ∷ ms) counted enough same = absurd (omega (arith, enough.0, fewer))
      by_mosts (suc m ∷ ms) counted enough same =
          let fits : length rest ≤ m = omega (arith, enough.0, fewer) in
          record {
            mosts = m ∷ m ∷ ms;
            counted = omega (arith, counted);
            enough = (fits, (fits, still_enough rest ws (omega (arith, fewer)) ms enough.1));
            same = same ∙ ap (prefixed es) (opened_step scope w m ms ws rest opening);
          }

  -- another expression is an item
  module _ (shut : behind w ws ≡ None) where
    read_item : (m : ℕ) (ms : List ℕ) (e : Tree Place) (rest : List Token) → nested_within scope m ws ≡ Some (e, rest) → is_predicate e ≡ true → chain_within scope w (m ∷ ms) ws ≡ prefixed (e ∷ []) (chain_within scope w ms rest)
    read_item m ms e rest read truth =
        let x = read_back (expression_within scope m ws) (e, rest) read in
        let first : halved x.0.0 ≡ e = ap (λ (p : Tree Place × List Token). p.0) x.2 in
        let last : x.0.1 ≡ rest = ap (λ (p : Tree Place × List Token). p.1) x.2 in
        let holds : is_predicate x.0.0 ≡ true = sym (same_predicate x.0.0) ∙ ap is_predicate first ∙ truth in
        let own = not_opened scope w m ws x.0 shut x.1 ∙ ap (λ (d : Tree Place). d ∷ []) first in
        ap (option_and_then (after scope w ms)) x.1
        ∙ before_true scope w x.0.0 (chain_within scope w ms x.0.1) holds
        ∙ ap₂ (λ ds vs. prefixed ds (chain_within scope w ms vs)) own last

    pub left_item : (e : Tree Place) (rest : List Token) → ((m : ℕ) → length ws ≤ m → nested_within scope m ws ≡ Some (e, rest)) → is_predicate e ≡ true → length rest < length ws → Left scope w whole (es ++ e ∷ []) (count - 1) rest
    left_item e rest read truth fewer = by_mosts left.mosts left.counted left.enough left.same
      where
        by_mosts : (ms : List ℕ) → length ms ≡ count → AllByRecursion (λ m. length ws ≤ m) ms → whole ≡ prefixed es (chain_within scope w ms ws) → Left scope w whole (es ++ e ∷ []) (count - 1) rest
        by_mosts [] counted enough same = absurd (omega (arith, counted, some))
        by_mosts (m ∷ ms) counted enough same = record {
          mosts = ms;
          counted = omega (arith, counted);
          enough = still_enough rest ws (omega (arith, fewer)) ms enough.1;
          same = same ∙ ap (prefixed es) (read_item m ms e rest (read m enough.0) truth) ∙ prefixed_twice es (e ∷ []) (chain_within scope w ms rest);
        }

    -- one that is no truth is an item of no chain
    pub left_untrue : (e : Tree Place) (rest : List Token) → ((m : ℕ) → length ws ≤ m → nested_within scope m ws ≡ Some (e, rest)) → is_predicate e ≡ false → whole ≡ None
    left_untrue e rest read truth = by_mosts left.mosts left.counted left.enough left.same
      where
        by_mosts : (ms : List ℕ) → length ms ≡ count → AllByRecursion (λ m. length ws ≤ m) ms → whole ≡ prefixed es (chain_within scope w ms ws) → whole ≡ None
        by_mosts [] counted enough same = absurd (omega (arith, counted, some))
        by_mosts (m ∷ ms) counted enough same =
            let x = read_back (expression_within scope m ws) (e, rest) (read m enough.0) in
            let first : halved x.0.0 ≡ e = ap (λ (p : Tree Place × List Token). p.0) x.2 in
            let fails : is_predicate x.0.0 ≡ false = sym (same_predicate x.0.0) ∙ ap is_predicate first ∙ truth in
            same ∙ ap (prefixed es) (ap (option_and_then (after scope w ms)) x.1 ∙ before_false scope w x.0.0 (chain_within scope w ms x.0.1) fails)

    -- where an item can't be read, neither can the chain; an item that is too deep makes it too deep
    pub left_fails : ((z : List (Tree Place) × List Token) → whole ≡ Some z → 2 ≤ length z.0) → (under : ℕ) (fault : NestedError) → ((m : ℕ) → length ws ≤ m → Fails under fault (nested_within scope m ws)) → Fails (under + 1) fault (joined_read w whole)
    left_fails long under errors.Memory read = tt
    left_fails long under errors.Bad read = by_mosts left.mosts left.counted left.enough left.same
      where
        by_mosts : (ms : List ℕ) → length ms ≡ count → AllByRecursion (λ m. length ws ≤ m) ms → whole ≡ prefixed es (chain_within scope w ms ws) → joined_read w whole ≡ None
        by_mosts [] counted enough same = absurd (omega (arith, counted, some))
        by_mosts (m ∷ ms) counted enough same =
            ap (joined_read w) (same ∙ ap (λ o. prefixed es (option_and_then (after scope w ms) o)) (read_none (expression_within scope m ws) (read m enough.0)))
    left_fails long under errors.TooDeep read = λ y h. by_mosts y h left.mosts left.counted left.enough left.same
      where
        item_deep : (m : ℕ) (ms : List ℕ) (z : List (Tree Place) × List Token) → length ws ≤ m → whole ≡ Some z → prefixed es (chain_within scope w (m ∷ ms) ws) ≡ Some z → under ≤ deepest z.0
        item_deep m ms z enough is h =
            let a = step_of (chain_within scope w (m ∷ ms) ws) (λ (more : List (Tree Place) × List Token). Some (es ++ more.0, more.1)) z h in
            let b = step_of (expression_within scope m ws) (after scope w ms) a.at a.made in
            let c = step_of (when (is_predicate b.at.0) b.at.0) (λ (truth : Tree Place). option_and_then (λ (more : List (Tree Place) × List Token). Some (items w (halves truth) ++ more.0, more.1)) (chain_within scope w ms b.at.1)) a.at b.then in
            let d = step_of (chain_within scope w ms b.at.1) (λ (more : List (Tree Place) × List Token). Some (items w (halves c.at) ++ more.0, more.1)) a.at c.then in
            let e = (when_some (is_predicate b.at.0) b.at.0 c.at c.made).1 in
            let own = not_opened scope w m ws b.at shut b.made in
            let deep = read m enough (halved_pair b.at) (ap halved_read b.made) in
            let last = d.then in
            let outer = a.then in
            let inside : (items w (halves c.at) ++ d.at.0, d.at.1) ≡ a.at = cc in
            let outside : (es ++ a.at.0, a.at.1) ≡ z = cc in
            let all : es ++ (halved b.at.0 ∷ d.at.0) ≡ z.0 =
            ap (λ ds. es ++ (ds ++ d.at.0)) (sym own ∙ ap (λ t. items w (halves t)) e)
            ∙ ap (λ (p : List (Tree Place) × List Token). es ++ p.0) inside
            ∙ ap (λ (p : List (Tree Place) × List Token). p.0) outside in
            let appended = deepest_append es (halved b.at.0 ∷ d.at.0) in
            let P : List (Tree Place) → Type 0 = λ ds. under ≤ deepest ds in
            subst P all (omega (arith, appended, deep))

        by_mosts : (y : Tree Place × List Token) → joined_read w whole ≡ Some y → (ms : List ℕ) → length ms ≡ count → AllByRecursion (λ m. length ws ≤ m) ms → whole ≡ prefixed es (chain_within scope w ms ws) → under + 1 ≤ depth y.0
        by_mosts y h [] counted enough same = absurd (omega (arith, counted, some))
        by_mosts y h (m ∷ ms) counted enough same =
            let z = joined_back w whole y h in
            let deep = item_deep m ms z.0 enough.0 z.1 (sym same ∙ z.1) in
            let more = items_deeper w z.0.0 (long z.0 z.1) in
            let first : joined w z.0.0 ≡ y.0 = ap (λ (p : Tree Place × List Token). p.0) z.2 in
            let P : Tree Place → Type 0 = λ t. under + 1 ≤ depth t in
            subst P first (omega (arith, deep, more))
