use Rattle.std.proofs.Common.{◌≡◌, ◌++◌, ◌∷◌, [], map}
use Rattle.std.proofs.lemmas.Result.{err_from_is_err_and}
use Rattle.std.proofs.lemmas.List.{map_push}
use Rattle.vortex_parquet.specs.Compact.{binary_at}
use Rattle.vortex_parquet.specs.Fields.{many}
use Rattle.vortex_parquet.proofs.Loops.{many_goes, many_fails, many_done}
use Rattle.vortex_parquet.proofs.column_index.strings_of.Goals as goal

pub returns-in_err-string : goal.returns-in_err-string
returns-in_err-string c =
    let p = err_from_is_err_and c.from_residual.result c.from_residual.ensures.1 in
    rw (p.1, p.2) (many_fails c.in_err-string.field-0.0 binary_at (map (λ s. s.now) c.loop.strings.items) c.args.count c.loop.counter c.loop.rest.now (many binary_at c.args.count c.args.bytes.now) c.loop-test.true c.in_err-string.ensures c.loop.invariant)

pub loop-preserved : goal.loop-preserved
loop-preserved c =
    let e : map (λ s. s.now) c.push.new.self.items ≡ map (λ s. s.now) c.loop.strings.items ++ c.in_ok-string.string.now ∷ [] = rw c.in_ok-push.ensures.items (map_push (λ s. s.now) c.loop.strings.items c.in_ok-string.string) in
    rw e (many_goes binary_at (map (λ s. s.now) c.loop.strings.items) c.args.count c.loop.counter c.loop.rest.now c.in_ok-string.string.now c.in_ok-string.after.now (many binary_at c.args.count c.args.bytes.now) c.loop-test.true c.in_ok-string.ensures c.loop.invariant)

pub returns : goal.returns
returns c = many_done binary_at (map (λ s. s.now) c.loop.strings.items) c.args.count c.loop.counter c.loop.rest.now (many binary_at c.args.count c.args.bytes.now) c.loop-test.false c.loop.invariant
