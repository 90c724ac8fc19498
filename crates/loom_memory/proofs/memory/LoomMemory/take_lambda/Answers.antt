use Rattle.loom_memory.specs.Memory.{word_in}
use Rattle.loom_memory.proofs.TimeLaws.{keeps-same, stays-on, word-same}
use Rattle.std.proofs.Common.{[], refl}
use Rattle.long_names.specs.Access.{Field}
use Rattle.core_view.specs.Words.{meant}
use Rattle.leaf_lambda.specs.Parts.{core_of}
use Rattle.loom_memory.specs.Memory.{loom_told}
use Rattle.loom_memory.proofs.FieldLaws.{told-bounds}
use Rattle.loom_memory.proofs.LambdaLaws.{taken-quiet}
use Rattle.loom_memory.proofs.GentleLaws.{peek-trans, steady-peek}
use Rattle.std.proofs.Common.{◌∙◌}
use Rattle.loom_memory.proofs.memory.LoomMemory.take_lambda.Goals as goal

pub returns-in-Ok-clause-taken : goal.returns-in-Ok-clause-taken
unfolding loom_told
returns-in-Ok-clause-taken g c =
    let n = c.lambda_word.new.self in
    let b = told-bounds g.H.Host n in
    taken-quiet (loom_told g.H.Host c.args.self.now) (loom_told g.H.Host n) (loom_told g.H.Host c.put_word.new.self) c.args.to c.args.of c.args.i (meant (core_of n.pager.levels.parts).entries [] 0 c.in-Ok.w) b.0 b.1 c.in-Ok.ensures.peeks.quiet c.put_word.ensures.told (λ told. c.in-Ok.ensures.means told)

pub returns-in-Err-clause-err : goal.returns-in-Err-clause-err
returns-in-Err-clause-err g c = c.in-Err.ensures.err (Field c.args.to c.args.of c.args.i) tt refl

pub returns-in-Ok-clause-peek : goal.returns-in-Ok-clause-peek
returns-in-Ok-clause-peek g c = peek-trans g.H.Host c.args.self.now c.lambda_word.new.self c.put_word.new.self c.in-Ok.ensures.peeks.peek (steady-peek g.H.Host c.lambda_word.new.self c.put_word.new.self c.put_word.ensures.steady)

pub returns-in-Ok-clause-leaves : goal.returns-in-Ok-clause-leaves
returns-in-Ok-clause-leaves g c = record {
  sound = c.put_word.ensures.leaves.sound;
  fetches = c.put_word.ensures.steady.idle.fetches ∙ c.lambda_word.ensures.leaves.fetches;
  lender = c.put_word.ensures.leaves.lender ∙ c.lambda_word.ensures.leaves.lender;
  outside = c.put_word.ensures.leaves.outside ∙ c.lambda_word.ensures.leaves.outside;
}

pub returns-in-Ok-clause-stays : goal.returns-in-Ok-clause-stays
returns-in-Ok-clause-stays g c = stays-on c.args.self.now c.lambda_word.new.self c.put_word.new.self (word_in c.args.self.now.regs c.args.to) (word_in c.lambda_word.new.self.regs c.args.to) (keeps-same c.args.self.now c.lambda_word.new.self c.in-Ok.ensures.peeks.flag) (word-same c.args.self.now c.lambda_word.new.self c.args.to c.in-Ok.ensures.peeks.regs) c.put_word.ensures.stays

pub returns-in-Ok-clause-due : goal.returns-in-Ok-clause-due
returns-in-Ok-clause-due g c = c.put_word.ensures.due ∙ c.in-Ok.ensures.peeks.due
