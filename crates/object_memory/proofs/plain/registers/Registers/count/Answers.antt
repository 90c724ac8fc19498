use Rattle.std.proofs.Common.{◌≡◌, ◌∙◌, ap, arith}
use Rattle.long_names.specs.Objects.{is_ref}
use Rattle.long_names.specs.Kept.{any_below}
use Rattle.object_memory.specs.Plain.{values_of}
use Rattle.object_memory.proofs.plain.registers.Registers.count.Goals as goal

pub returns-clause-roots : goal.returns-clause-roots
returns-clause-roots c = λ q.
    let all : c.loop-i.i ≡ 24 = omega arith in
    c.loop-i.invariant.roots q ∙ ap (λ n. any_below n (λ r. is_ref q (values_of c.args.self.now r))) all
