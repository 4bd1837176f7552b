use Rattle.std.proofs.Common.{ap, ◌∙◌, ◌≡◌, ◌++◌, Some, map}
use Rattle.std.proofs.lemmas.Result.{IfOk-weaker}
use Rattle.vortex_base.proofs.primitive_array.PrimitiveArray.from_slice.Goals as goal

pub returns : goal.returns
returns g c =
    let copied = c.in_ok-extend_from_slice.ensures.items ∙ ap (λ xs. xs ++ c.args.values.now) c.new-copies.ensures.items in
    IfOk-weaker c.from_vec.result (λ n. n ≡ map Some c.extend_from_slice.new.self.items) (λ n. n ≡ map Some c.args.values.now) (λ n same. same ∙ ap (map Some) copied) c.from_vec.ensures
