-- Nodes of operands that are read one after the other.
use Rattle.std.proofs.Common.{◌≡◌, ◌<◌, ◌+◌, ℕ, List, Option, Some, Err, max, option_and_then, refl, ap, ◌∙◌, arith}
use Rattle.vortex_expr.specs.Trees.Tree.{Tree, Place, between}
use Rattle.vortex_expr.specs.declared.scalar_fn.BetweenOptions.{BetweenOptions}
use Rattle.vortex_normal.specs.Balanced.{depth}
use Rattle.vortex_syntax.specs.Expressions.{Read, followed, read_between, read_one, read_options, read_two, typed}
use Rattle.vortex_syntax.specs.Words.{Token}
use Rattle.vortex_capi.specs.Nesting.Nodes.{Builds, pair_of, unary_of}
use Rattle.vortex_capi.specs.Nesting.Reads.{Fails}
use Rattle.vortex_capi.specs.declared.nested.error.NestedError.{NestedError}
use Rattle.vortex_capi.specs.declared.nested.nested.Pair.{Pair}
use Rattle.vortex_capi.specs.declared.nested.nested.Pair.TheVariants as pair
use Rattle.vortex_capi.specs.declared.nested.nested.Unary.{Unary}
use Rattle.vortex_capi.specs.declared.nested.nested.Unary.TheVariants as unary
use Rattle.vortex_capi.proofs.Nesting.Steps.{build_fails, first_fails, followed_is, next_fails, step_of, typed_is}

unary_depth : (u : Unary) (e : Tree Place) → depth (unary_of u e) ≡ depth e + 1
unary_depth unary.Not e = refl
unary_depth unary.IsNull e = refl
unary_depth unary.IsNotNull e = refl

pair_depth : (p : Pair) (l r : Tree Place) → depth (pair_of p l r) ≡ max (depth l) (depth r) + 1
pair_depth (pair.Binary o) l r = refl
pair_depth (pair.Like o) l r = refl

followed_ok : (e d : Tree Place) (ws : List Token) → typed e ≡ Some d → followed (typed e) ws ≡ Some (d, ws)
followed_ok e d ws h = ap (λ (o : Option (Tree Place)). followed o ws) h

module _ (operand : List Token → Read) (ws : List Token) (under : ℕ) (fault : NestedError) where
  -- ---- one operand

  pub one_fails : (u : Unary) → Fails under fault (operand ws) → Fails (under + 1) fault (read_one operand (unary_of u) ws)
  one_fails u h =
      first_fails (operand ws) (λ (x : Tree Place × List Token). followed (typed (unary_of u x.0)) x.1) under fault h
      (λ x y k. let same = ap depth (followed_is (unary_of u x.0) x.1 y k) in omega (arith, same, unary_depth u x.0))

  -- ---- two

  module _ (p : Pair) where
    pub left_operand_fails : Fails under fault (operand ws) → Fails (under + 1) fault (read_two operand (pair_of p) ws)
    left_operand_fails h =
        let last = λ (l : Tree Place) (r : Tree Place × List Token). followed (typed (pair_of p l r.0)) r.1 in
        first_fails (operand ws) (λ (l : Tree Place × List Token). option_and_then (last l.0) (operand l.1)) under fault h
        (λ l y k.
        let a = step_of (operand l.1) (last l.0) y k in
        let same = ap depth (followed_is (pair_of p l.0 a.at.0) a.at.1 y a.then) in
        omega (arith, same, pair_depth p l.0 a.at.0))

    pub right_operand_fails : (l : Tree Place) (vs : List Token) → operand ws ≡ Some (l, vs) → Fails under fault (operand vs) → Fails (under + 1) fault (read_two operand (pair_of p) ws)
    right_operand_fails l vs is h =
        let last = λ (d : Tree Place) (r : Tree Place × List Token). followed (typed (pair_of p d r.0)) r.1 in
        next_fails (operand ws) (l, vs) (λ (d : Tree Place × List Token). option_and_then (last d.0) (operand d.1)) (under + 1) fault is
        (first_fails (operand vs) (last l) under fault h
        (λ r y k.
        let same = ap depth (followed_is (pair_of p l r.0) r.1 y k) in
        omega (arith, same, pair_depth p l r.0)))

  -- ---- three

  module _ (o : BetweenOptions) (vs : List Token) (options : read_options ws ≡ Some (o, vs)) where
    pub first_end_fails : Fails under fault (operand vs) → Fails (under + 1) fault (read_between operand ws)
    first_end_fails h =
        let last = λ (q : BetweenOptions) (y l : Tree Place) (u : Tree Place × List Token). followed (typed (between q y l u.0)) u.1 in
        let third = λ (q : BetweenOptions) (y : Tree Place) (l : Tree Place × List Token). option_and_then (last q y l.0) (operand l.1) in
        let second = λ (q : BetweenOptions) (y : Tree Place × List Token). option_and_then (third q y.0) (operand y.1) in
        next_fails (read_options ws) (o, vs) (λ (q : BetweenOptions × List Token). option_and_then (second q.0) (operand q.1)) (under + 1) fault options
        (first_fails (operand vs) (second o) under fault h
        (λ x y k.
        let b = step_of (operand x.1) (third o x.0) y k in
        let c = step_of (operand b.at.1) (last o x.0 b.at.0) y b.then in
        let same = ap depth (followed_is (between o x.0 b.at.0 c.at.0) c.at.1 y c.then) in
        omega (arith, same)))

    module _ (x : Tree Place) (us : List Token) (first : operand vs ≡ Some (x, us)) where
      pub second_end_fails : Fails under fault (operand us) → Fails (under + 1) fault (read_between operand ws)
      second_end_fails h =
          let last = λ (q : BetweenOptions) (y l : Tree Place) (u : Tree Place × List Token). followed (typed (between q y l u.0)) u.1 in
          let third = λ (q : BetweenOptions) (y : Tree Place) (l : Tree Place × List Token). option_and_then (last q y l.0) (operand l.1) in
          let second = λ (q : BetweenOptions) (y : Tree Place × List Token). option_and_then (third q y.0) (operand y.1) in
          next_fails (read_options ws) (o, vs) (λ (q : BetweenOptions × List Token). option_and_then (second q.0) (operand q.1)) (under + 1) fault options
          (next_fails (operand vs) (x, us) (second o) (under + 1) fault first
          (first_fails (operand us) (third o x) under fault h
          (λ l y k.
          let c = step_of (operand l.1) (last o x l.0) y k in
          let same = ap depth (followed_is (between o x l.0 c.at.0) c.at.1 y c.then) in
          omega (arith, same))))

      module _ (l : Tree Place) (ts : List Token) (next : operand us ≡ Some (l, ts)) where
        third_step : Fails (under + 1) fault (option_and_then (λ (u : Tree Place × List Token). followed (typed (between o x l u.0)) u.1) (operand ts)) → Fails (under + 1) fault (read_between operand ws)
        third_step h =
            let last = λ (q : BetweenOptions) (y l : Tree Place) (u : Tree Place × List Token). followed (typed (between q y l u.0)) u.1 in
            let third = λ (q : BetweenOptions) (y : Tree Place) (l : Tree Place × List Token). option_and_then (last q y l.0) (operand l.1) in
            let second = λ (q : BetweenOptions) (y : Tree Place × List Token). option_and_then (third q y.0) (operand y.1) in
            next_fails (read_options ws) (o, vs) (λ (q : BetweenOptions × List Token). option_and_then (second q.0) (operand q.1)) (under + 1) fault options
            (next_fails (operand vs) (x, us) (second o) (under + 1) fault first
            (next_fails (operand us) (l, ts) (third o x) (under + 1) fault next h))

        pub third_end_fails : Fails under fault (operand ts) → Fails (under + 1) fault (read_between operand ws)
        third_end_fails h =
            third_step (first_fails (operand ts) (λ (u : Tree Place × List Token). followed (typed (between o x l u.0)) u.1) under fault h
            (λ u y k. let same = ap depth (followed_is (between o x l u.0) u.1 y k) in omega (arith, same)))

        pub between_fails : (u : Tree Place) (rs : List Token) → operand ts ≡ Some (u, rs) → Builds (typed (between o x l u)) (Err fault) → Fails (under + 1) fault (read_between operand ws)
        between_fails u rs upper h =
            third_step (next_fails (operand ts) (u, rs) (λ (v : Tree Place × List Token). followed (typed (between o x l v.0)) v.1) (under + 1) fault upper
            (build_fails (between o x l u) rs (under + 1) fault h))

module _ (operand : List Token → Read) (ws : List Token) (under : ℕ) where
  pub two_ok : (p : Pair) (l r e : Tree Place) (vs us : List Token) → operand ws ≡ Some (l, vs) → depth l < under → operand vs ≡ Some (r, us) → depth r < under → typed (pair_of p l r) ≡ Some e
      → (read_two operand (pair_of p) ws ≡ Some (e, us)) × (depth e < under + 1)
  two_ok p l r e vs us is_l below_l is_r below_r made =
      let last = λ (d : Tree Place) (x : Tree Place × List Token). followed (typed (pair_of p d x.0)) x.1 in
      let same = ap depth (typed_is (pair_of p l r) e made) in (
        ap (option_and_then (λ (d : Tree Place × List Token). option_and_then (last d.0) (operand d.1))) is_l
            ∙ ap (option_and_then (last l)) is_r
            ∙ followed_ok (pair_of p l r) e us made,
        omega (arith, same, pair_depth p l r, below_l, below_r),
      )

  pub ends_ok : (o : BetweenOptions) (x l u e : Tree Place) (vs us ts rs : List Token) → read_options ws ≡ Some (o, vs) → operand vs ≡ Some (x, us) → depth x < under
      → operand us ≡ Some (l, ts) → depth l < under → operand ts ≡ Some (u, rs) → depth u < under → typed (between o x l u) ≡ Some e
      → (read_between operand ws ≡ Some (e, rs)) × (depth e < under + 1)
  ends_ok o x l u e vs us ts rs options is_x below_x is_l below_l is_u below_u made =
      let last = λ (q : BetweenOptions) (y l : Tree Place) (u : Tree Place × List Token). followed (typed (between q y l u.0)) u.1 in
      let third = λ (q : BetweenOptions) (y : Tree Place) (l : Tree Place × List Token). option_and_then (last q y l.0) (operand l.1) in
      let second = λ (q : BetweenOptions) (y : Tree Place × List Token). option_and_then (third q y.0) (operand y.1) in
      let same = ap depth (typed_is (between o x l u) e made) in (
        ap (option_and_then (λ (q : BetweenOptions × List Token). option_and_then (second q.0) (operand q.1))) options
            ∙ ap (option_and_then (second o)) is_x
            ∙ ap (option_and_then (third o x)) is_l
            ∙ ap (option_and_then (last o x l)) is_u
            ∙ followed_ok (between o x l u) e rs made,
        omega (arith, same, below_x, below_l, below_u),
      )
