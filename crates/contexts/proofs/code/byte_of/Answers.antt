use Rattle.std.proofs.Common.{sym, ◌∙◌}
use Rattle.contexts.proofs.CodeLaws.{hand_serves}
use Rattle.contexts.proofs.code.byte_of.Goals as goal
use Rattle.contexts.proofs.code.byte_of.Goals.{in-Some+in_default-code_byte, in_default}

pub returns-in-Some-code_byte-clause-serves : goal.returns-in-Some-code_byte-clause-serves
returns-in-Some-code_byte-clause-serves g c = λ cpu ip place. hand_serves c.args.method ip c.in-Some.number c.in-Some-code_byte.byte c.requires.fit.ready place c.in-Some.is c.in-Some-code_byte.ensures

pub returns-clause-serves : goal.returns-clause-serves
returns-clause-serves g c = λ cpu ip place. elim c.match-place.branch [
  | in-Some+in_default-code_byte w ↦ c.load_byte.ensures.serves cpu ip (w.place-is ∙ sym w.in-Some.is ∙ place)
  | in_default w ↦ c.load_byte.ensures.serves cpu ip (w.place-is ∙ place)
]
