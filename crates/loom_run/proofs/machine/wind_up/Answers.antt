use Rattle.std.specs.Prelude.{◌%◌}
use Rattle.std.proofs.Common.{◌≡◌, ℕ, sym, subst, arith}
use Rattle.image_memory.proofs.EndLaws.{ended-is}
use Rattle.image_memory.proofs.KeptLaws.{image-kept}
use Rattle.loom_words.specs.Command.{row_for}
use Rattle.loom_run.specs.Meanings.{meanings}
use Rattle.loom_run.specs.Stages.{Finishing}
use Rattle.loom_run.specs.Steps.{IsRefusal}
use Rattle.loom_run.proofs.MachineLaws.{file-left, outside-leaves, refused-lost}
use Rattle.loom_memory.specs.Memory.{loom_now, loom_rest}
use Rattle.loom_run.proofs.machine.wind_up.Goals as goal

pub returns-in-Ok-clause-ended : goal.returns-in-Ok-clause-ended
returns-in-Ok-clause-ended g c = λ work.
    let n = c.wind_up.new.self in
    ended-is g.H.Host c.args.memory.now (loom_now n) (loom_rest n) c.in-Ok.next work c.requires.sound (c.in-Ok.ensures.kept work) c.in-Ok.ensures.next

pub returns-in-Ok-clause-image : goal.returns-in-Ok-clause-image
returns-in-Ok-clause-image g c = λ work.
    let m = c.args.memory.now in
    let n = c.wind_up.new.self in
    let ended = ended-is g.H.Host m (loom_now n) (loom_rest n) c.in-Ok.next work c.requires.sound (c.in-Ok.ensures.kept work) c.in-Ok.ensures.next in
    image-kept g.H.Host m (loom_now n) (loom_rest n) c.in-Ok.next work c.requires.sound ended (omega arith)

pub returns-in-Ok-clause-even : goal.returns-in-Ok-clause-even
returns-in-Ok-clause-even g c = subst (λ (n : ℕ). n % 2 ≡ 0) (sym c.in-Ok.ensures.next) c.requires.sound.over.based.even

pub returns-in-Ok-clause-file : goal.returns-in-Ok-clause-file
returns-in-Ok-clause-file g c = file-left g.H.Host c.args.memory.now c.wind_up.new.self c.wind_up.ensures.outside

pub returns-in-Err-clause-file : goal.returns-in-Err-clause-file
returns-in-Err-clause-file g c = file-left g.H.Host c.args.memory.now c.wind_up.new.self c.wind_up.ensures.outside

pub returns-in-Ok-clause-others : goal.returns-in-Ok-clause-others
returns-in-Ok-clause-others g c = outside-leaves g.H.Host c.args.memory.now c.wind_up.new.self c.wind_up.ensures.outside c.wind_up.ensures.bounds

pub returns-in-Err-clause-others : goal.returns-in-Err-clause-others
returns-in-Err-clause-others g c = outside-leaves g.H.Host c.args.memory.now c.wind_up.new.self c.wind_up.ensures.outside c.wind_up.ensures.bounds

pub returns-in-Err-clause-refused : goal.returns-in-Err-clause-refused
returns-in-Err-clause-refused g c =
    let m = c.args.memory.now in
    let n = c.wind_up.new.self in
    subst (λ status. IsRefusal g.H.Host.tells (meanings g.H.Host (loom_now m)) (meanings g.H.Host (loom_now n)) (row_for c.args.command.now) Finishing status) (sym c.status_of_fault.ensures)
    (refused-lost g.H.Host m n (row_for c.args.command.now) c.args.ran c.in-Err.fault c.in-Err.ensures.lost c.in-Err.ensures.cause)
