use Rattle.std.proofs.Common.{◌≡◌, ◌%◌, eqb, false, arith}
use Rattle.std.proofs.lemmas.Grind.{common_steps}
use Rattle.delta_counts.proofs.ShortLaws.{number-lowers, name-lowers}
use Rattle.delta_counts.proofs.shorts.lower_short.Goals as goal

pub returns-then-w-eq1-clause-lowered : goal.returns-then-w-eq1-clause-lowered
returns-then-w-eq1-clause-lowered c = number-lowers c.args.p.now c.args.w (let odd = c.if-w-eq1.true in grind (arith, common_steps, odd))

pub returns-clause-lowered : goal.returns-clause-lowered
returns-clause-lowered c =
    let even : eqb (c.args.w % 2) 1 ≡ false = (let no = c.if-w-eq1.false in grind (arith, common_steps, no)) in
    name-lowers c.args.p.now c.add_change.new.p c.args.w even (c.requires.used even) c.add_change.ensures.changed
