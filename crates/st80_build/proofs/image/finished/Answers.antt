use Rattle.image_builder.specs.Builder.{built_heap}
use Rattle.st80_build.proofs.image.finished.Goals as goal

pub returns-in-Ok : goal.returns-in-Ok
returns-in-Ok c = λ trees. record {
  heap = built_heap c.args.heap.now.builder c.args.heap.now.next;
  is = c.in-Ok.ensures.image;
  text = c.in-Ok.ensures.text;
}
