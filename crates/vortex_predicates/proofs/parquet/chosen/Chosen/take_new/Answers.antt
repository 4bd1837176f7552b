use Rattle.std.proofs.Common.{◌≡◌, ◌++◌, ◌∷◌, [], ℕ, List, ap, subst₂, sym, ◌∙◌}
use Rattle.vortex_base.specs.Data.Scopes.{Named, named_columns}
use Rattle.vortex_parquet.specs.Columns.{column_views, leaf_dtype, lookup}
use Rattle.vortex_parquet.specs.declared.columns.Leaf.{Leaf}
use Rattle.vortex_predicates.specs.Footers.Choosing.{AreChosen, leaf_in, reason}
use Rattle.vortex_predicates.specs.Footers.Mentions.{view}
use Rattle.vortex_predicates.proofs.Footers.Choices.{grows, stays_unread}
use Rattle.vortex_predicates.proofs.parquet.chosen.Chosen.take_new.Goals as goal

pub returns-in_ok-push-in-Some-leaf_in-clause-chosen : goal.returns-in_ok-push-in-Some-leaf_in-clause-chosen
returns-in_ok-push-in-Some-leaf_in-clause-chosen c = λ ms h.
    let cs = column_views c.args.columns.now in
    let m = view c.args.mention.now in
    let scope = named_columns c.args.self.now.columns in
    let leaf = c.in-Some-leaf_in.leaf in
    let found : c.lookup-found.result ≡ lookup m.name cs = c.lookup-found.ensures ∙ ap (λ (n : List ℕ). lookup n cs) (c.as_bytes.ensures.value ∙ c.as_str-name.ensures.value) in
    let columns : named_columns c.push.new.self.columns ≡ scope ++ (m.name, leaf_dtype leaf) ∷ [] =
    c.in_ok-push-in-Some-leaf_in.ensures.columns ∙ ap (λ (n : List ℕ). scope ++ (n, leaf_dtype leaf) ∷ []) c.as_str-name.ensures.value in
    subst₂ (λ (s : List Named) (ls : List Leaf). AreChosen cs (ms ++ m ∷ []) s ls) (sym columns) (sym c.in_ok-push-in-Some-leaf_in.ensures.leaves)
    (grows cs ms scope c.args.self.now.leaves.items m h leaf (ap leaf_in (sym found) ∙ sym c.in-Some-leaf_in.ensures) c.requires)

pub returns-in-None-leaf_in-clause-chosen : goal.returns-in-None-leaf_in-clause-chosen
returns-in-None-leaf_in-clause-chosen c = λ ms h.
    let cs = column_views c.args.columns.now in
    let m = view c.args.mention.now in
    let found : c.lookup-found.result ≡ lookup m.name cs = c.lookup-found.ensures ∙ ap (λ (n : List ℕ). lookup n cs) (c.as_bytes.ensures.value ∙ c.as_str-name.ensures.value) in
    stays_unread cs ms (named_columns c.args.self.now.columns) c.args.self.now.leaves.items m h (ap reason (sym found) ∙ sym c.in-None.ensures) (ap leaf_in (sym found) ∙ sym c.in-None-leaf_in.ensures)
