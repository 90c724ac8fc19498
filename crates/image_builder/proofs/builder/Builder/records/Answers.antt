use Rattle.image_builder.specs.declared.counts.Counts.{Counts}
use Rattle.image_builder.specs.Parts.{count_in}
use Rattle.image_builder.proofs.Images.{tells-on, refused-on}
use Rattle.image_builder.proofs.Recs.{image-recs, image-heap, image-whole}
use Rattle.image_builder.proofs.builder.Builder.records.Goals as goal

pub returns-in_err-counts-clause-broken : goal.returns-in_err-counts-clause-broken
returns-in_err-counts-clause-broken c = tells-on Counts c.from_residual.result c.in_err-counts.field-0.0 _ c.from_residual.ensures.1 c.in_err-counts.ensures.broken

pub returns-in_err-counts-clause-refused : goal.returns-in_err-counts-clause-refused
returns-in_err-counts-clause-refused c = λ refused. c.in_err-counts.ensures.refused (refused-on Counts c.from_residual.result c.in_err-counts.field-0.0 c.from_residual.ensures.1 refused)

pub returns-clause-recs : goal.returns-clause-recs
returns-clause-recs c = image-recs c.args.self.now c.args.next (count_in c.in_ok-counts.counts) c.in_ok-recs.recs c.in_ok-counts.ensures.image c.in_ok-counts.ensures.counts c.in_ok-recs.ensures

pub returns-clause-heap : goal.returns-clause-heap
returns-clause-heap c = image-heap c.args.self.now c.args.next (count_in c.in_ok-counts.counts) c.in_ok-recs.recs c.in_ok-recs.ensures

pub returns-clause-whole : goal.returns-clause-whole
returns-clause-whole c = image-whole c.args.self.now c.args.next (count_in c.in_ok-counts.counts) c.in_ok-recs.recs c.in_ok-counts.ensures.image c.in_ok-recs.ensures
