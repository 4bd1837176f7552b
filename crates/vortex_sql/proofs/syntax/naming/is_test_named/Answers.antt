use Rattle.std.proofs.Common.{IsTrue, inl, inr, subst, sym}
use Rattle.vortex_sql.specs.Parsing.Naming.{IsTestNamed}
use Rattle.vortex_sql.specs.declared.syntax.tree.Test.{Test}
use Rattle.vortex_sql.proofs.syntax.naming.is_test_named.Goals as goal

pub returns-in-Truth : goal.returns-in-Truth
returns-in-Truth c =
    let P : Test → Type 0 = λ t. IsTrue c.is_named_at_front.result → IsTestNamed c.args.names c.args.bytes.now t in
    let h = c.is_named_at_front.ensures in
    elim c.in-Truth.is [
      | inl truth ↦ subst P (sym truth) h
      | inr others ↦ elim others [
        | inl null ↦ subst P (sym null) h
        | inr others ↦ elim others [
          | inl between ↦ subst P (sym between.2) h
          | inr others ↦ elim others [
            | inl symmetric ↦ subst P (sym symmetric.2) h
            | inr others ↦ elim others [
              | inl among ↦ subst P (sym among.1) h
              | inr like ↦ subst P (sym like.2) h
            ]
          ]
        ]
      ]
    ]
