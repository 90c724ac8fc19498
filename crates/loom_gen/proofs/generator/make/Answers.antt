use Rattle.std.proofs.Common.{sym, ◌∙◌, ap, subst}
use Rattle.image_format.specs.Text.{image_text}
use Rattle.image_format.specs.Valid.{IsImageHeap}
use Rattle.loom_gen.proofs.ImageLaws.{image-is}
use Rattle.loom_gen.proofs.BuildLaws.{built-is}
use Rattle.loom_gen.proofs.generator.make.Goals as goal

pub returns-in_err-builder-clause-image : goal.returns-in_err-builder-clause-image
returns-in_err-builder-clause-image c = image-is c.args.number c.requires

pub returns-in-Ok-clause-text : goal.returns-in-Ok-clause-text
returns-in-Ok-clause-text c = c.in-Ok.ensures.text ∙ ap image_text (built-is c.in_ok-builder.builder c.args.number c.next_name.result c.next_name.ensures.next c.in_ok-builder.ensures)

pub returns-in-Ok-clause-image : goal.returns-in-Ok-clause-image
returns-in-Ok-clause-image c = image-is c.args.number c.requires

pub returns-in-Err-Memory-clause-image : goal.returns-in-Err-Memory-clause-image
returns-in-Err-Memory-clause-image c = image-is c.args.number c.requires

pub unreachable-requires : goal.unreachable-requires
unreachable-requires c =
    let built = built-is c.in_ok-builder.builder c.args.number c.next_name.result c.next_name.ensures.next c.in_ok-builder.ensures in
    let refused = rw c.in-Err-Rule.field-0-is at c.in-Err-Rule.ensures.refused in
    refused tt (subst IsImageHeap (sym built) (image-is c.args.number c.requires))
