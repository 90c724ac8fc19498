use Rattle.std.proofs.Common.{◌∙◌, ap, arith}
use Rattle.core_segment.specs.Segment.{largest_of, size_of}
use Rattle.leaf_lambda.specs.Parts.{core_of}
use Rattle.loom_memory.proofs.NewLaws.{new-if, none-if, readied-if, sound-if}
use Rattle.loom_memory.proofs.new_object.make_object.Goals as goal

pub count_ahead-nil-requires-clause-spare : goal.count_ahead-nil-requires-clause-spare
count_ahead-nil-requires-clause-spare c = let some = c.requires.spare in omega (arith, some)

pub put_new-requires-clause-light : goal.put_new-requires-clause-light
put_new-requires-clause-light c = λ t. let same = (c.count_ahead-nil.ensures.readied.calm (record { a = 0; b = 0; d = 0 })).same_outside t in let few = c.requires.light t in omega (arith, same, few)

pub put_new-requires-clause-class : goal.put_new-requires-clause-class
put_new-requires-clause-class c = (c.count_ahead-nil.ensures.readied.live c.args.class.0 c.requires.class).0

pub put_new-requires-clause-room : goal.put_new-requires-clause-room
put_new-requires-clause-room c = let same = ap largest_of c.count_ahead-nil.ensures.segment in let room = c.requires.room in omega (arith, same, room)

pub put_new-requires-clause-spare : goal.put_new-requires-clause-spare
put_new-requires-clause-spare c = let less = c.count_ahead-nil.ensures.spare in let some = c.requires.spare in omega (arith, less, some)

pub returns-clause-made : goal.returns-clause-made
returns-clause-made c = new-if c.put_new.result (core_of c.args.p.now) (core_of c.count_ahead-nil.new.p) (core_of c.put_new.new.p) c.args.name c.args.class.0 c.args.kind c.args.len c.args.header c.requires.class c.count_ahead-nil.ensures.readied c.put_new.ensures.made

pub returns-clause-sound : goal.returns-clause-sound
returns-clause-sound c = sound-if c.put_new.result (core_of c.args.p.now) (core_of c.count_ahead-nil.new.p) (core_of c.put_new.new.p) c.args.name c.args.class.0 c.nils_of-n.result c.args.kind c.args.len c.args.header c.nils_of-n.ensures.count c.requires.class c.count_ahead-nil.ensures.readied c.count_ahead-nil.ensures.sound c.put_new.ensures.sound

pub returns-clause-none : goal.returns-clause-none
returns-clause-none c = none-if c.put_new.result (core_of c.args.p.now) (core_of c.count_ahead-nil.new.p) c.args.name c.count_ahead-nil.ensures.readied c.put_new.ensures.none

pub returns-clause-size : goal.returns-clause-size
returns-clause-size c = c.put_new.ensures.size ∙ ap size_of c.count_ahead-nil.ensures.segment

pub returns-clause-readied : goal.returns-clause-readied
returns-clause-readied c = readied-if c.put_new.result (core_of c.args.p.now) c.count_ahead-nil.new.p c.put_new.new.p c.count_ahead-nil.ensures.readied c.put_new.ensures.still
