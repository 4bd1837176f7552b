-- What a list of boxed rules proves, rule by rule; and what one of them may refuse, the list may.
use Rattle.std.proofs.Common.{◌≡◌, ℕ, zero, suc, ◌+◌, ◌<◌, Bool, true, false, ◌||◌, List, [], ◌∷◌, ◌++◌, append_assoc, length, get_or, take, Option, Some, None, option_to_list, subst, sym, ap, ◌∙◌, refl, arith}
use Rattle.std.specs.List.{cons_option, filter_map}
use Rattle.std.proofs.lemmas.Bool.{or_left, or_right}
use Rattle.std.proofs.lemmas.List.{map_more}
use Rattle.std.proofs.lemmas.List.Elements.{filter_map-append}
use Rattle.std.specs.Prelude.{Contains}
use Rattle.std.specs.declared.alloc.Global.{Global}
use Rattle.std.specs.declared.dyn_box.DynBox.{DynBox}
use Rattle.vortex_expr.specs.Trees.Tree.{Tree, Place, scalar_fn_of}
use Rattle.vortex_stats.specs.declared.error.StatsError.{StatsError}
use Rattle.vortex_rewrite.proofs.Rewriting.AskedNodes.{rules-more}
use Rattle.vortex_rewrite.proofs.Rewriting.CauseLemmas.{refusal-more}
use Rattle.vortex_rewrite.specs.Causes.{IsRefusal}
use Rattle.vortex_rewrite.specs.Rewriting.Lawful.{OwnRule}
use Rattle.vortex_rewrite.specs.Rewriting.Own.{own_rule, own_rules}
use Rattle.vortex_rewrite.specs.Rewriting.Falsifiers.{asked, is_asked, is_function, own_proofs}
use Rattle.vortex_rewrite.specs.Rewriting.RuleRefusals.{rule_causes}
use Rattle.vortex_rewrite.specs.declared.rewrite.rule.StatsRewriteRule.{Ghosts}
use Rattle.vortex_rewrite.proofs.Logic.{only_one}

one_or_none : (o : Option (Tree Place)) → cons_option o [] ≡ option_to_list o
one_or_none None = refl
one_or_none (Some p) = refl

asked_of_both : (p : Tree Place) (xs ys : List OwnRule) → is_asked xs p ≡ false → is_asked ys p ≡ false → is_asked (xs ++ ys) p ≡ false
asked_of_both p [] ys h k = k
asked_of_both p (x ∷ xs) ys h k =
    let w = neither (is_function (scalar_fn_of p) x.id) (is_asked xs p) h in
    both_false (is_function (scalar_fn_of p) x.id) (is_asked (xs ++ ys) p) w.0 (asked_of_both p xs ys w.1 k)
  where
    neither : (a b : Bool) → (a || b) ≡ false → (a ≡ false) × (b ≡ false)
    neither true b h = absurd cc
    neither false b h = (refl, h)

    both_false : (a b : Bool) → a ≡ false → b ≡ false → (a || b) ≡ false
    both_false true b h k = cc
    both_false false b h k = k

module _ {I : Type 0} {D : I → Type 0} (M : (b : DynBox I Global D) → Ghosts (D b.vtable)) (p : Tree Place) where
  -- a rule more that isn't asked
  pub unasked_more : (bs : List (DynBox I Global D)) (i : ℕ) (b : DynBox I Global D) → i < length bs → b ≡ get_or bs i b → is_asked (own_rules M (take i bs)) p ≡ false
      → is_function (scalar_fn_of p) (own_rule M b).id ≡ false → is_asked (own_rules M (take (i + 1) bs)) p ≡ false
  unasked_more bs i b h is none k =
      ap (λ rs. is_asked rs p) (map_more (own_rule M) bs i b h)
      ∙ asked_of_both p (own_rules M (take i bs)) (own_rule M (get_or bs i b) ∷ []) none (or_false_right (is_function (scalar_fn_of p) (own_rule M (get_or bs i b)).id) (ap (λ c. is_function (scalar_fn_of p) (own_rule M c).id) (sym is) ∙ k))
    where
      or_false_right : (a : Bool) → a ≡ false → (a || false) ≡ false
      or_false_right true h = cc
      or_false_right false h = refl

  asked_at : (bs : List (DynBox I Global D)) (i : ℕ) (b : DynBox I Global D) → i < length bs → is_function (scalar_fn_of p) (own_rule M (get_or bs i b)).id ≡ true → is_asked (own_rules M bs) p ≡ true
  asked_at [] i b h k = absurd (omega arith)
  asked_at (c ∷ bs) zero b h k = or_left (is_function (scalar_fn_of p) (own_rule M c).id) (is_asked (own_rules M bs) p) k
  asked_at (c ∷ bs) (suc i) b h k = or_right (is_function (scalar_fn_of p) (own_rule M c).id) (is_asked (own_rules M bs) p) (asked_at bs i b (omega arith) k)

  -- one that is asked
  pub asked_in : (bs cs : List (DynBox I Global D)) (i : ℕ) (b : DynBox I Global D) → i < length bs → b ≡ get_or bs i b → bs ≡ cs → is_function (scalar_fn_of p) (own_rule M b).id ≡ true → true ≡ is_asked (own_rules M cs) p
  asked_in bs cs i b h is same k = sym (ap (λ xs. is_asked (own_rules M xs) p) (sym same) ∙ asked_at bs i b h (ap (λ c. is_function (scalar_fn_of p) (own_rule M c).id) (sym is) ∙ k))

module _ {I : Type 0} {D : I → Type 0} (M : (b : DynBox I Global D) → Ghosts (D b.vtable)) (prove : OwnRule → Tree Place → Option (Tree Place)) where
  pub own_more : (p : Tree Place) (bs : List (DynBox I Global D)) (i : ℕ) (b : DynBox I Global D) (olds news step : List (Tree Place)) → i < length bs → b ≡ get_or bs i b
      → news ≡ olds ++ own_proofs prove (own_rules M (take i bs)) p → step ≡ option_to_list (asked prove p (own_rule M b)) → news ++ step ≡ olds ++ own_proofs prove (own_rules M (take (i + 1) bs)) p
  own_more p bs i b olds news step h is e s =
      let last : step ≡ filter_map (asked prove p) (own_rule M (get_or bs i b) ∷ []) = s ∙ ap (λ r. option_to_list (asked prove p (own_rule M r))) is ∙ sym (one_or_none (asked prove p (own_rule M (get_or bs i b)))) in
      ap (λ (n : List (Tree Place)). n ++ step) e ∙
      (ap (λ (x : List (Tree Place)). (olds ++ own_proofs prove (own_rules M (take i bs)) p) ++ x) last ∙
      (append_assoc olds (own_proofs prove (own_rules M (take i bs)) p) (filter_map (asked prove p) (own_rule M (get_or bs i b) ∷ [])) ∙
      ap (λ (x : List (Tree Place)). olds ++ x)
      (sym (filter_map-append (asked prove p) (own_rules M (take i bs)) (own_rule M (get_or bs i b) ∷ [])) ∙
      ap (filter_map (asked prove p)) (sym (map_more (own_rule M) bs i b h)))))

  -- a rule of the list is among those that it is read as
  read_at : (bs : List (DynBox I Global D)) (i : ℕ) (d : DynBox I Global D) (rule : OwnRule) → i < length bs → own_rule M (get_or bs i d) ≡ rule → Contains (own_rules M bs) rule
  read_at [] i d rule h e = absurd (omega arith)
  read_at (b ∷ bs) zero d rule h e = (0, omega arith, e)
  read_at (b ∷ bs) (suc i) d rule h e = let r = read_at bs i d rule (omega arith) e in (suc r.0, omega (arith, r.1), r.2)

  -- what one rule may cause, the list may
  pub refusal_in : (nodes : List (Tree Place)) (bs cs : List (DynBox I Global D)) (i : ℕ) (b : DynBox I Global D) (f : StatsError) → i < length bs → b ≡ get_or bs i b → bs ≡ cs
      → IsRefusal (rule_causes prove (own_rule M b ∷ []) nodes) f → IsRefusal (rule_causes prove (own_rules M cs) nodes) f
  refusal_in nodes bs cs i b f h is same r =
      subst (λ xs. IsRefusal (rule_causes prove (own_rules M xs) nodes) f) same
      (refusal-more _ (rule_causes prove (own_rules M bs) nodes) f
      (rules-more prove (own_rule M b ∷ []) (own_rules M bs) nodes (λ rule held. read_at bs i b rule h (ap (own_rule M) (sym is) ∙ only_one (own_rule M b) rule held)))
      r)
