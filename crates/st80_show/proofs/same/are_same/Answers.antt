use Rattle.std.proofs.Common.{refl, sym, ◌∙◌, arith}
use Rattle.st80_show.proofs.SameLaws.{same_lists}
use Rattle.st80_show.proofs.same.are_same.Goals as goal

pub returns : goal.returns
returns c =
    let lens = sym c.len.ensures ∙ c.if-len.false ∙ c.len-2.ensures in
    (λ t. same_lists c.args.a.now c.args.b.now lens (λ k lt. c.loop-i.invariant k (omega (arith, lt))), λ e. refl)
