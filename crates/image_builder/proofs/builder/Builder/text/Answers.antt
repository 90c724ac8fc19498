use Rattle.std.proofs.Common.{ℕ, ◌++◌, length}
use Rattle.long_names.specs.declared.object.Object.{Object}
use Rattle.image_format.specs.Text.{head_text}
use Rattle.image_builder.specs.Parts.{count_in, texts_with}
use Rattle.image_builder.proofs.Kept.{written-on}
use Rattle.image_builder.proofs.builder.Builder.text.Goals as goal

pub loop-name-preserved : goal.loop-name-preserved
loop-name-preserved c =
    let counts = count_in c.args.counts.now in
    let entries = c.args.self.now.objects.entries in
    let e : ℕ × Object = (c.in-Some.name.now, c.in-Some.object.now) in
    written-on counts c.loop-name.out c.encode_object.new.out (head_text (length entries) c.args.next ++ texts_with counts entries) e c.loop-name.name-iterator c.next.new.self (rw c.of.ensures at c.in_ok-encode_object.ensures.ok) c.in-Some.ensures.steps c.loop-name.invariant
