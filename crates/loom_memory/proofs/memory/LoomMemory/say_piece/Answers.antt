use Rattle.std.proofs.Common.{◌≡◌, ◌+◌, ◌≤◌, length, take, drop, sym, ◌∙◌, ap, subst}
use Rattle.long_names.specs.Counting.{counted}
use Rattle.long_names.specs.Access.{Say, said_by}
use Rattle.object_memory.specs.declared.fault.MemFault.{MemFault}
use Rattle.object_memory.specs.Told.{Told}
use Rattle.loom_memory.specs.Memory.{loom_told, IsRefused}
use Rattle.loom_memory.proofs.FieldLaws.{told-tells}
use Rattle.loom_memory.proofs.SayLaws.{said-more, said-refused, some-bytes, run-part, same-text}
use Rattle.loom_memory.specs.Damage.{IsUndamaged}
use Rattle.loom_memory.proofs.memory.LoomMemory.say_piece.Goals as goal

pub returns-in-Ok-clause-said : goal.returns-in-Ok-clause-said
returns-in-Ok-clause-said g c = λ t was.
    let u = loom_told g.H.Host c.args.self.now in
    said-more t u (loom_told g.H.Host c.put_run.new.self) c.args.of c.args.i c.args.run.now was c.in-Ok.ensures.put
    (λ told all e. let text = c.requires.text (told-tells g.H.Host c.args.self.now told) in same-text (said_by u.heap u.regs (Say c.args.of)) text.0 all c.args.run.now c.args.i text.1 text.2 e)

pub returns-in-Err-clause-err : goal.returns-in-Err-clause-err
returns-in-Err-clause-err g c = λ t ready was.
    let u = loom_told g.H.Host c.args.self.now in
    let w = loom_told g.H.Host c.put_run.new.self in
    let part = c.in-Err.ensures.part in
    let tells : u.tells ≡ t.tells = ap (λ (z : Told). z.tells) was.same in
    let said = said-more t u w c.args.of c.args.i (take part.0 c.args.run.now) was part.1
    (λ told all e. let text = c.requires.text (told-tells g.H.Host c.args.self.now told) in run-part part.0 c.args.run.now (drop c.args.i all) (same-text (said_by u.heap u.regs (Say c.args.of)) text.0 all c.args.run.now c.args.i text.1 text.2 e)) in
    subst (λ (f : MemFault). IsRefused t (loom_told g.H.Host c.refuse.new.self) (Say c.args.of) f) (sym c.refuse.ensures.result)
    (said-refused t u w (loom_told g.H.Host c.refuse.new.self) c.args.of (c.args.i + length (take part.0 c.args.run.now)) c.in-Err.count was.bounds said ready c.refuse.ensures.told
    (subst (λ (z : Told). z.refusals ≤ counted z.refusals) said.same c.refuse.ensures.later) c.in-Err.ensures.count c.in-Err.ensures.rose
    (λ told. let text = c.requires.text (told-tells g.H.Host c.args.self.now (tells ∙ told)) in (text.0, sym (ap (λ (z : Told). said_by z.heap z.regs (Say c.args.of)) was.same) ∙ text.1, some-bytes text.0 c.args.run.now c.args.i text.2 c.requires.some)))

pub returns-in-Err-clause-undamaged : goal.returns-in-Err-clause-undamaged
returns-in-Err-clause-undamaged g c = subst IsUndamaged (sym c.refuse.ensures.result) tt
