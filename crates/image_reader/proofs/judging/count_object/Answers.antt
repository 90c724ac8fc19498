use Rattle.std.proofs.Common.{◌≡◌, true, false, sym, subst}
use Rattle.long_names.specs.declared.object.Object.{Object}
use Rattle.disk_objects.specs.Function.{disk_of}
use Rattle.image_reader.specs.Frames.{IsDiskFault}
use Rattle.image_reader.specs.Tally.{Counts}
use Rattle.image_reader.proofs.Frames.{leaves}
use Rattle.image_reader.proofs.LookLaws.{fetched, look_fault, never_lost}
use Rattle.image_reader.proofs.judging.count_object.Goals as goal

pub returns-in_err-get-clause-fault : goal.returns-in_err-get-clause-fault
returns-in_err-get-clause-fault g c =
    leaves (IsDiskFault g.H.Host c.args.disk.now.host.now c.get.new.self.host.now) c.from_residual.result c.in_err-get.field-0.0 c.from_residual.ensures.1
    (look_fault g.H.Host c.args.disk.now.host.now c.get.new.self.host.now _ _ c.in_err-get.field-0.0 c.in_err-get.ensures.fault)

pub returns-then-not-branch-clause-fault : goal.returns-then-not-branch-clause-fault
returns-then-not-branch-clause-fault g c =
    let held_is : c.in_ok-get.field-0 ≡ false = search in
    subst (IsDiskFault g.H.Host c.args.disk.now.host.now c.get.new.self.host.now) (sym c.lost.ensures)
    (λ told. never_lost c.get.new.buf (disk_of g.H.Host c.args.disk.now.host.now c.args.disk.now.rest c.args.name) c.in_ok-get.field-0 (c.in_ok-get.ensures.found told) (c.requires.held told) held_is)

pub count_object-requires : goal.count_object-requires
count_object-requires g c =
    let held_is : c.in_ok-get.field-0 ≡ true = search in
    record { «record» = (c.in_ok-get.ensures.record held_is).0; room = c.requires.room }

pub returns-clause-counts : goal.returns-clause-counts
returns-clause-counts g c = λ o told at.
    let held_is : c.in_ok-get.field-0 ≡ true = search in
    subst (λ (x : Object). Counts x c.args.tally.now c.count_object.new.self c.count_object.result)
    (sym (fetched c.get.new.buf (disk_of g.H.Host c.args.disk.now.host.now c.args.disk.now.rest c.args.name) c.in_ok-get.field-0 o (c.in_ok-get.ensures.found told) at held_is)) c.count_object.ensures.counts
