use Rattle.object_memory.proofs.plain.PlainMemory.make.Goals as goal

pub add-requires-clause-object : goal.add-requires-clause-object
add-requires-clause-object c = record { class = c.name-class.ensures.range; body = rw c.in-Ok-Some.is-0 at c.requires.body; range = rw c.in-Ok-Some.is-0 at c.requires.range }
