use Rattle.image_builder.specs.declared.counts.Counts.{Counts}
use Rattle.image_builder.specs.Parts.{count_in}
use Rattle.image_builder.proofs.Images.{image-bodies, image-few, image-text, tells-on, refused-on}
use Rattle.image_builder.proofs.builder.Builder.finish.Goals as goal

pub text-requires : goal.text-requires
text-requires c = record {
  bodies = image-bodies c.args.self.now c.args.next c.in_ok-counts.ensures.image;
  few = image-few c.args.self.now c.args.next c.in_ok-counts.ensures.image;
}

pub returns-in_err-counts-clause-broken : goal.returns-in_err-counts-clause-broken
returns-in_err-counts-clause-broken c = tells-on Counts c.from_residual.result c.in_err-counts.field-0.0 _ c.from_residual.ensures.1 c.in_err-counts.ensures.broken

pub returns-in_err-counts-clause-refused : goal.returns-in_err-counts-clause-refused
returns-in_err-counts-clause-refused c = λ refused. c.in_err-counts.ensures.refused (refused-on Counts c.from_residual.result c.in_err-counts.field-0.0 c.from_residual.ensures.1 refused)

pub returns-clause-text : goal.returns-clause-text
returns-clause-text c = image-text c.args.self.now c.args.next (count_in c.in_ok-counts.counts) c.in_ok-text.text c.in_ok-counts.ensures.image c.in_ok-counts.ensures.counts c.in_ok-text.ensures
