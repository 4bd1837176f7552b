use Rattle.std.proofs.Common.{length, rules, ap, sym, subst, ◌≡◌, Option, option_map, true, false}
use Rattle.std.specs.List.Sorted.{IsPartitionPoint}
use Rattle.std.proofs.lemmas.List.Sorted.{IsPartitionPoint-from_clause}
use Rattle.vortex_base.specs.Data.Values.{value_cmp}
use Rattle.vortex_base.specs.declared.scalar_value.ScalarValue.{ScalarValue}
use Rattle.vortex_prune.specs.Scanning.Gaps.{is_past}
use Rattle.vortex_expr.specs.Meanings.Meaning.{holds}
use Rattle.vortex_prune.specs.declared.scan.gaps.Gap.{Gap}
use Rattle.vortex_prune.proofs.Scanning.KeyLemmas.{all_at_null, gaps_by_keys, keys_partitioned, none_at_null}
use Rattle.vortex_prune.proofs.scan.search.count_past.Goals as goal

pub returns-in-None : goal.returns-in-None
returns-in-None g c =
    let gs = c.args.gaps.now in
    subst (λ (x : Option ScalarValue). IsPartitionPoint (λ (g : Gap). is_past g x ≡ true) (λ (g : Gap). is_past g x ≡ false) gs (length gs)) (sym (ap (option_map g.T.Native.scalar) c.in-None.is))
    (all_at_null g.C.Comparison.operator c.args.at_null g.T.Native.scalar c.args.keys.now gs c.requires.keys c.if-at_null.true)

pub returns-in-None-2 : goal.returns-in-None-2
returns-in-None-2 g c =
    let gs = c.args.gaps.now in
    subst (λ (x : Option ScalarValue). IsPartitionPoint (λ (g : Gap). is_past g x ≡ true) (λ (g : Gap). is_past g x ≡ false) gs 0) (sym (ap (option_map g.T.Native.scalar) c.in-None.is))
    (none_at_null g.C.Comparison.operator c.args.at_null g.T.Native.scalar c.args.keys.now gs c.requires.keys c.if-at_null.false)

pub returns-in-Some : goal.returns-in-Some
returns-in-Some g c =
    let gs = c.args.gaps.now in
    let o = g.C.Comparison.operator in
    let scalar = g.T.Native.scalar in
    let v = scalar c.in-Some.value in
    let keys = c.args.keys.now in
    let parted = keys_partitioned o c.args.at_null scalar keys gs v c.requires.keys c.requires.order in
    let point = IsPartitionPoint-from_clause (λ key. holds o (value_cmp v (scalar key))) keys c.partition_point.result c.partition_point.ensures.partitioned parted (λ a r f k. search rules) in
    subst (λ (x : Option ScalarValue). IsPartitionPoint (λ (g : Gap). is_past g x ≡ true) (λ (g : Gap). is_past g x ≡ false) gs c.partition_point.result) (sym (ap (option_map scalar) c.in-Some.is))
    (gaps_by_keys o c.args.at_null scalar keys gs v c.in-Some.value c.partition_point.result c.requires.keys c.partition_point.ensures.bound point)
