-- What loops over links have found so far.
use Rattle.std.proofs.Common.{◌≡◌, ℕ, ◌+◌, ◌<◌, arith, true, List, [], ◌∷◌, ◌++◌, Option, Some, None, append_assoc, filter_map, get_or, length, map, option_to_list, refl, sym, ap, ap₂, take, ◌∙◌}
use Rattle.std.specs.List.{cons_option}
use Rattle.std.proofs.lemmas.List.{append-nil, map-append, take-map, take_more}
use Rattle.std.proofs.lemmas.List.Elements.{filter_map-append}
use Rattle.vortex_expr.specs.Trees.Tree.{Tree, Place, binary}
use Rattle.vortex_expr.specs.declared.scalar_fn.Operator.TheVariants.{And}
use Rattle.vortex_normal.specs.Balanced.{balanced}
use Rattle.vortex_normal.specs.Links.{Link, bound_links, column_links, consequence, consequences, crossed_links, paired_links, with_all}

one_or_none : (o : Option (Tree Place)) → cons_option o [] ≡ option_to_list o
one_or_none None = refl
one_or_none (Some t) = refl

filter_one : (k : Link) (ms : List Link) (m : Link) → filter_map (consequence k) (ms ++ m ∷ []) ≡ filter_map (consequence k) ms ++ option_to_list (consequence k m)
filter_one k ms m = filter_map-append (consequence k) ms (m ∷ []) ∙ ap (λ es. filter_map (consequence k) ms ++ es) (one_or_none (consequence k m))

crossed_one : (ks : List Link) (k : Link) (bs : List Link) → crossed_links (ks ++ k ∷ []) bs ≡ crossed_links ks bs ++ filter_map (consequence k) bs
crossed_one [] k bs = append-nil (filter_map (consequence k) bs)
crossed_one (m ∷ ks) k bs =
    ap (λ es. filter_map (consequence m) bs ++ es) (crossed_one ks k bs)
    ∙ sym (append_assoc (filter_map (consequence m) bs) (crossed_links ks bs) (filter_map (consequence k) bs))

module _ {A : Type 0} (v : A → Link) where
  lent_more : (xs : List A) (i : ℕ) (d : A) → i < length xs → d ≡ get_or xs i d → map v (take (i + 1) xs) ≡ map v (take i xs) ++ v d ∷ []
  lent_more xs i d less is =
      ap (map v) (take_more xs i d less ∙ ap (λ x. take i xs ++ x ∷ []) (sym is)) ∙ map-append v (take i xs) (d ∷ [])

  pub each_more : (k : Link) (xs : List A) (i : ℕ) (d : A) (old found new : List (Tree Place)) (o : Option (Tree Place)) → i < length xs → d ≡ get_or xs i d
      → found ≡ old ++ filter_map (consequence k) (map v (take i xs)) → o ≡ consequence k (v d) → new ≡ found ++ option_to_list o → new ≡ old ++ filter_map (consequence k) (map v (take (i + 1) xs))
  each_more k xs i d old found new o less is so_far what pushed =
      pushed
      ∙ ap (λ es. es ++ option_to_list o) so_far
      ∙ ap (λ p. (old ++ filter_map (consequence k) (map v (take i xs))) ++ option_to_list p) what
      ∙ append_assoc old (filter_map (consequence k) (map v (take i xs))) (option_to_list (consequence k (v d)))
      ∙ ap (λ es. old ++ es) (sym (filter_one k (map v (take i xs)) (v d)) ∙ ap (filter_map (consequence k)) (sym (lent_more xs i d less is)))

  pub cross_more : (bs : List Link) (xs : List A) (i : ℕ) (d : A) (old found new : List (Tree Place)) → i < length xs → d ≡ get_or xs i d
      → found ≡ old ++ crossed_links (map v (take i xs)) bs → new ≡ found ++ filter_map (consequence (v d)) bs → new ≡ old ++ crossed_links (map v (take (i + 1) xs)) bs
  cross_more bs xs i d old found new less is so_far pushed =
      pushed
      ∙ ap (λ es. es ++ filter_map (consequence (v d)) bs) so_far
      ∙ append_assoc old (crossed_links (map v (take i xs)) bs) (filter_map (consequence (v d)) bs)
      ∙ ap (λ es. old ++ es) (sym (crossed_one (map v (take i xs)) (v d) bs) ∙ ap (λ ks. crossed_links ks bs) (sym (lent_more xs i d less is)))

  first_lent : (n : ℕ) (none found first : List A) (ks : List Link) → none ≡ [] → map v found ≡ map v none ++ ks → first ≡ take n found → map v first ≡ take n ks
  first_lent n none found first ks is pushed taken =
      ap (map v) taken ∙ sym (take-map v n found) ∙ ap (take n) (pushed ∙ ap (λ ys. map v ys ++ ks) is)

  -- the links of a predicate, as they are lent twice, and what is found of them
  pub all_found : (e : Tree Place) (cs₀ cs cs₁ ds ds₁ : List A) (bs₀ bs bs₁ es : List A) (start paired crossed last : List (Tree Place))
      → cs₀ ≡ [] → map v cs ≡ map v cs₀ ++ column_links e → cs₁ ≡ take 16 cs → bs₀ ≡ [] → map v bs ≡ map v bs₀ ++ bound_links e → bs₁ ≡ take 32 bs → start ≡ []
      → ds ≡ cs₁ → ds₁ ≡ cs₁ → es ≡ bs₁ → paired ≡ start ++ paired_links (map v ds) → crossed ≡ paired ++ crossed_links (map v ds₁) (map v es) → last ≡ take 32 crossed → last ≡ consequences e
  all_found e cs₀ cs cs₁ ds ds₁ bs₀ bs bs₁ es start paired crossed last none_c pushed_c taken_c none_b pushed_b taken_b none lent_c lent_d lent_b pairs crosses taken =
      let columns = first_lent 16 cs₀ cs cs₁ (column_links e) none_c pushed_c taken_c in
      let bounds = first_lent 32 bs₀ bs bs₁ (bound_links e) none_b pushed_b taken_b in
      taken
      ∙ ap (take 32)
      (crosses
      ∙ ap₂ ◌++◌
      (pairs ∙ ap₂ ◌++◌ none (ap paired_links (ap (map v) lent_c ∙ columns)))
      (ap₂ crossed_links (ap (map v) lent_d ∙ columns) (ap (map v) lent_b ∙ bounds)))

pub joins_all : (q : Tree Place) (cs : List (Tree Place)) → 0 < length cs → binary And q (balanced true cs) ≡ with_all q cs
joins_all q [] h = absurd (omega (arith, h))
joins_all q (c ∷ cs) h = refl
