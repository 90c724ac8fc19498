use Rattle.std.proofs.Common.{arith}
use Rattle.image_builder.proofs.Kept.{words-few}
use Rattle.image_builder.proofs.builder.Builder.count_words.Goals as goal

pub add_object-requires-clause-room : goal.add_object-requires-clause-room
add_object-requires-clause-room c = λ q.
    let few = words-few c.args.self.now.objects.entries q c.requires.bodies in
    let short = c.requires.few in
    let so_far = c.loop-object.invariant q in
    omega arith
