-- Attached and then loaded: a step of the host, and one of the disk.
use Rattle.std.proofs.Common.{sym, ◌∙◌, subst}
use Rattle.image_memory.proofs.ImageLaws.{image-is}
use Rattle.loom_run.specs.Ends.{JudgesImage, bytes_of}
use Rattle.loom_run.specs.Meanings.{meanings}
use Rattle.loom_run.specs.Stages.{Reading}
use Rattle.loom_run.specs.Steps.{IsReadRefusal, IsRefusal}
use Rattle.loom_host.specs.declared.outside.Role.TheVariants.{Image, Work}
use Rattle.loom_run.proofs.ReadLaws.{image-counts, image-read}
use Rattle.loom_run.proofs.StepLaws.{bad-reading, file-reading, judged-disk, leaves-reading, refused-disk, refused-read, refuses}
use Rattle.loom_run.proofs.reading.read_image.Goals as goal

pub returns-in-Ok-clause-image : goal.returns-in-Ok-clause-image
returns-in-Ok-clause-image g c =
    let x = c.in-Ok.ensures.loads in
    image-is g.H.Host c.open_image.new.disk.host.now c.load.new.disk.host.now c.args.room c.load.new.disk.rest c.in-Ok.loaded x.0 x.1 x.3 x.4 c.in-Ok.ensures.heap

pub returns-in-Ok-clause-read : goal.returns-in-Ok-clause-read
returns-in-Ok-clause-read g c = λ told work.
    let x = c.in-Ok.ensures.loads in
    image-read g.H.Host c.open_image.new.disk.host.now c.load.new.disk.host.now c.args.room c.load.new.disk.rest c.in-Ok.loaded x.0 x.1 x.3 x.4 told work (c.in_ok-open_image.ensures.fresh told) (c.load.ensures.loading.image told) (x.1.bytes told)

pub returns-in-Ok-clause-objects : goal.returns-in-Ok-clause-objects
returns-in-Ok-clause-objects g c = λ told work.
    let x = c.in-Ok.ensures.loads in
    image-counts g.H.Host c.open_image.new.disk.host.now c.load.new.disk.host.now c.args.room c.load.new.disk.rest c.in-Ok.loaded x.0 x.1 x.3 x.4 told work (x.1.bytes told) x.2

pub returns-in-Ok-clause-end : goal.returns-in-Ok-clause-end
returns-in-Ok-clause-end g c = λ told. record {
  end = c.in-Ok.ensures.loads.1.end told;
  name = (c.load.ensures.loading.image told).name ∙ c.in_ok-open_image.ensures.named told;
}

pub returns-in-Err-Bad-clause-judged : goal.returns-in-Err-Bad-clause-judged
returns-in-Err-Bad-clause-judged g c = λ told.
    bad-reading g.H.Host c.args.disk.now.host.now c.open_image.new.disk.host.now c.load.new.disk.host.now c.open_image.ensures.others c.open_image.ensures.other_faults c.open_image.ensures.later c.load.ensures.loading
    c.args.room c.in-Err-Bad.rule c.in-Err-Bad.place told (c.in_ok-open_image.ensures.fresh told) (rw c.in-Err-Bad.field-0-is at c.in-Err-Bad.ensures.fault)

pub returns-in-Err-Disk-clause-judged : goal.returns-in-Err-Disk-clause-judged
returns-in-Err-Disk-clause-judged g c = λ told.
    subst (λ status. JudgesImage (g.H.Host.tells Work) status c.args.room (bytes_of (g.H.Host.roles c.load.new.disk.host.now Image))) (sym c.status_of_disk.ensures)
    (judged-disk g.H.Host c.args.disk.now.host.now c.open_image.new.disk.host.now c.load.new.disk.host.now c.open_image.ensures.others c.open_image.ensures.other_faults c.open_image.ensures.later c.load.ensures.loading
    c.args.room c.in-Err-Disk.fault told (c.in_ok-open_image.ensures.fresh told) (rw c.in-Err-Disk.field-0-is at c.in-Err-Disk.ensures.fault))

pub returns-in-Err-Disk-clause-refused : goal.returns-in-Err-Disk-clause-refused
returns-in-Err-Disk-clause-refused g c = λ row room.
    subst (λ status. IsRefusal g.H.Host.tells (meanings g.H.Host c.args.disk.now.host.now) (meanings g.H.Host c.load.new.disk.host.now) row Reading status) (sym c.status_of_disk.ensures)
    (refused-disk g.H.Host c.args.disk.now.host.now c.open_image.new.disk.host.now c.load.new.disk.host.now c.open_image.ensures.others c.open_image.ensures.other_faults c.open_image.ensures.later c.load.ensures.loading
    row c.args.room c.in-Err-Disk.fault (sym room) (rw c.in-Err-Disk.field-0-is at c.in-Err-Disk.ensures.fault))

pub returns-in-Err-Read-clause-refused : goal.returns-in-Err-Read-clause-refused
returns-in-Err-Read-clause-refused g c = λ row room.
    refused-read g.H.Host c.args.disk.now.host.now c.open_image.new.disk.host.now c.load.new.disk.host.now c.open_image.ensures.others c.open_image.ensures.other_faults c.open_image.ensures.later c.load.ensures.loading
    row c.args.room c.in-Err-Read.count (rw c.in-Err-Read.field-0-is at c.in-Err-Read.ensures.fault)

pub returns-in-Ok-clause-others : goal.returns-in-Ok-clause-others
returns-in-Ok-clause-others g c = leaves-reading g.H.Host c.args.disk.now.host.now c.open_image.new.disk.host.now c.load.new.disk.host.now c.open_image.ensures.others c.open_image.ensures.other_faults c.open_image.ensures.later c.load.ensures.loading

pub returns-in-Ok-clause-file : goal.returns-in-Ok-clause-file
returns-in-Ok-clause-file g c = file-reading g.H.Host c.args.disk.now.host.now c.open_image.new.disk.host.now c.load.new.disk.host.now c.open_image.ensures.others c.open_image.ensures.other_faults c.open_image.ensures.later c.load.ensures.loading

pub returns-in-Err-Bad-clause-others : goal.returns-in-Err-Bad-clause-others
returns-in-Err-Bad-clause-others g c = leaves-reading g.H.Host c.args.disk.now.host.now c.open_image.new.disk.host.now c.load.new.disk.host.now c.open_image.ensures.others c.open_image.ensures.other_faults c.open_image.ensures.later c.load.ensures.loading

pub returns-in-Err-Bad-clause-file : goal.returns-in-Err-Bad-clause-file
returns-in-Err-Bad-clause-file g c = file-reading g.H.Host c.args.disk.now.host.now c.open_image.new.disk.host.now c.load.new.disk.host.now c.open_image.ensures.others c.open_image.ensures.other_faults c.open_image.ensures.later c.load.ensures.loading

pub returns-in-Err-Read-clause-others : goal.returns-in-Err-Read-clause-others
returns-in-Err-Read-clause-others g c = leaves-reading g.H.Host c.args.disk.now.host.now c.open_image.new.disk.host.now c.load.new.disk.host.now c.open_image.ensures.others c.open_image.ensures.other_faults c.open_image.ensures.later c.load.ensures.loading

pub returns-in-Err-Read-clause-file : goal.returns-in-Err-Read-clause-file
returns-in-Err-Read-clause-file g c = file-reading g.H.Host c.args.disk.now.host.now c.open_image.new.disk.host.now c.load.new.disk.host.now c.open_image.ensures.others c.open_image.ensures.other_faults c.open_image.ensures.later c.load.ensures.loading

pub returns-in-Err-Disk-clause-others : goal.returns-in-Err-Disk-clause-others
returns-in-Err-Disk-clause-others g c = leaves-reading g.H.Host c.args.disk.now.host.now c.open_image.new.disk.host.now c.load.new.disk.host.now c.open_image.ensures.others c.open_image.ensures.other_faults c.open_image.ensures.later c.load.ensures.loading

pub returns-in-Err-Disk-clause-file : goal.returns-in-Err-Disk-clause-file
returns-in-Err-Disk-clause-file g c = file-reading g.H.Host c.args.disk.now.host.now c.open_image.new.disk.host.now c.load.new.disk.host.now c.open_image.ensures.others c.open_image.ensures.other_faults c.open_image.ensures.later c.load.ensures.loading

pub returns-in-Err-Memory-clause-others : goal.returns-in-Err-Memory-clause-others
returns-in-Err-Memory-clause-others g c = leaves-reading g.H.Host c.args.disk.now.host.now c.open_image.new.disk.host.now c.load.new.disk.host.now c.open_image.ensures.others c.open_image.ensures.other_faults c.open_image.ensures.later c.load.ensures.loading

pub returns-in-Err-Memory-clause-file : goal.returns-in-Err-Memory-clause-file
returns-in-Err-Memory-clause-file g c = file-reading g.H.Host c.args.disk.now.host.now c.open_image.new.disk.host.now c.load.new.disk.host.now c.open_image.ensures.others c.open_image.ensures.other_faults c.open_image.ensures.later c.load.ensures.loading

pub returns-in_err-open_image-clause-refused : goal.returns-in_err-open_image-clause-refused
returns-in_err-open_image-clause-refused g c =
    refuses (IsReadRefusal g.H.Host.tells (meanings g.H.Host c.args.disk.now.host.now) (meanings g.H.Host c.open_image.new.disk.host.now) c.args.room) c.from_residual.result c.in_err-open_image.field-0.0 c.from_residual.ensures.1 (λ row same. c.in_err-open_image.ensures.refused row)
