use Rattle.st80_objects.specs.Images.{IsFaultOf}
use Rattle.st80_objects.specs.declared.fault.ImageFault.TheVariants.{Broken}
use Rattle.st80_objects.proofs.ReadLaws.{head_broken, leaves, objects_broken, read_whole}
use Rattle.st80_objects.proofs.image.Image.read.Goals as goal

pub returns-in_err-head-clause-fault : goal.returns-in_err-head-clause-fault
returns-in_err-head-clause-fault c =
    let b = c.in_err-head.field-0.0 in
    leaves (IsFaultOf c.args.bytes.now) c.from_residual.result (Broken b) c.from_residual.ensures.1 (head_broken c.args.bytes.now b c.in_err-head.ensures.broken)

pub returns-in_err-objects-clause-fault : goal.returns-in_err-objects-clause-fault
returns-in_err-objects-clause-fault c =
    let f = c.in_err-objects.field-0.0 in
    leaves (IsFaultOf c.args.bytes.now) c.from_residual-in_err-objects.result f c.from_residual-in_err-objects.ensures.1 (objects_broken c.args.bytes.now c.in_ok-head.head c.in_ok-head.start f c.in_ok-head.ensures.head c.in_err-objects.ensures.fault)

pub returns-clause-image : goal.returns-clause-image
returns-clause-image c = read_whole c.args.bytes.now c.in_ok-head.head c.in_ok-head.start c.in_ok-objects.objects c.in_ok-head.ensures.head c.in_ok-objects.ensures.read
