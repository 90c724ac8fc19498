use Rattle.std.proofs.Common.{◌<◌, ◌++◌, sym, subst, arith}
use Rattle.loom_host.specs.declared.outside.Role.TheVariants.{Image, Work}
use Rattle.object_record.specs.Buffer.{raw_of}
use Rattle.disk_objects.specs.declared.rest.DiskRest.{DiskRest}
use Rattle.disk_objects.specs.Disk.{disk_held, disk_room}
use Rattle.image_format.proofs.ImageLaws.{bytes_of_all}
use Rattle.image_format.specs.Rules.{next_record_at}
use Rattle.image_reader.specs.declared.fault.LoadFault.TheVariants.{Disk}
use Rattle.image_reader.specs.Frames.{IsHalted, IsPartFault}
use Rattle.image_reader.specs.Window.{file_end, unused}
use Rattle.image_reader.proofs.Frames.{reads_loading, work_loading, loading_then, fault_later, fill_fault, rule_fault, put_fault, leaves}
use Rattle.image_reader.proofs.Next.{fill_halted, halted_more, halted_same}
use Rattle.image_reader.proofs.Stored.{still_holds}
use Rattle.image_reader.proofs.Takes.{ends_still, takes_record}
use Rattle.image_reader.proofs.records.take_next.Goals as goal

pub returns-in_err-fill-clause-halted : goal.returns-in_err-fill-clause-halted
returns-in_err-fill-clause-halted g c = λ told.
    leaves (IsHalted (file_end c.args.window.now (g.H.Host.roles c.args.disk.now.host.now Image).left) (next_record_at c.args.last c.args.next (unused c.args.window.now (g.H.Host.roles c.args.disk.now.host.now Image)))) c.from_residual.result c.in_err-fill.field-0.0 c.from_residual.ensures.1
    (fill_halted g.H.Host c.args.disk.now.host.now c.fill.new.disk.host.now _ _ c.in_err-fill.field-0.0 c.in_err-fill.ensures.fault)

pub returns-in_err-fill-clause-loading : goal.returns-in_err-fill-clause-loading
returns-in_err-fill-clause-loading g c = reads_loading g.H.Host c.args.disk.now.host.now c.fill.new.disk.host.now c.fill.ensures.reads

pub returns-in_err-fill-clause-fault : goal.returns-in_err-fill-clause-fault
returns-in_err-fill-clause-fault g c =
    leaves (IsPartFault g.H.Host c.args.disk.now.host.now c.fill.new.disk.host.now) c.from_residual.result c.in_err-fill.field-0.0 c.from_residual.ensures.1
    (fill_fault g.H.Host c.args.disk.now.host.now c.fill.new.disk.host.now c.in_err-fill.field-0.0 c.in_err-fill.ensures.fault)

pub take_record-requires : goal.take_record-requires
take_record-requires g c = record { far = omega (arith, c.requires.far, c.in_ok-fill.ensures.place) }

pub returns-in_err-measure-clause-halted : goal.returns-in_err-measure-clause-halted
returns-in_err-measure-clause-halted g c = λ told.
    let left = (g.H.Host.roles c.fill.new.disk.host.now Image).left in
    let f = c.fill.new.self in
    leaves (IsHalted (file_end c.args.window.now (g.H.Host.roles c.args.disk.now.host.now Image).left) (next_record_at c.args.last c.args.next (unused c.args.window.now (g.H.Host.roles c.args.disk.now.host.now Image)))) c.from_residual-in_err-measure.result c.in_err-measure.field-0.0 c.from_residual-in_err-measure.ensures.1
    (halted_same f.place c.args.window.now.place (f.bytes ++ left) (unused c.args.window.now (g.H.Host.roles c.args.disk.now.host.now Image)) (next_record_at c.args.last c.args.next) c.in_err-measure.field-0.0 c.in_ok-fill.ensures.place (c.in_ok-fill.ensures.rest told)
    (halted_more c.args.last c.args.next f.place f.bytes left f.ended c.in_err-measure.field-0.0 (bytes_of_all f.bytes c.take_record.ensures.range) c.in_ok-fill.ensures.enough (c.in_ok-fill.ensures.ends told) c.in_err-measure.ensures.halted))

pub returns-in_err-measure-clause-loading : goal.returns-in_err-measure-clause-loading
returns-in_err-measure-clause-loading g c = reads_loading g.H.Host c.args.disk.now.host.now c.fill.new.disk.host.now c.fill.ensures.reads

pub returns-in_err-measure-clause-fault : goal.returns-in_err-measure-clause-fault
returns-in_err-measure-clause-fault g c =
    leaves (IsPartFault g.H.Host c.args.disk.now.host.now c.fill.new.disk.host.now) c.from_residual-in_err-measure.result c.in_err-measure.field-0.0 c.from_residual-in_err-measure.ensures.1
    (rule_fault g.H.Host c.args.disk.now.host.now c.fill.new.disk.host.now c.in_err-measure.field-0.0 c.in_err-measure.ensures.fault)

pub put-requires : goal.put-requires
put-requires g c = record {
  «record» = c.in_ok-measure.ensures.taken.buffer.0;
  stands = still_holds g.H.Host c.args.disk.now.host.now c.fill.new.disk.host.now c.args.disk.now.rest c.fill.new.disk.rest (c.fill.ensures.reads.others Work (λ e. cc)) c.fill.ensures.same_rest c.requires.stands;
}

pub returns-in_err-put-clause-halted : goal.returns-in_err-put-clause-halted
returns-in_err-put-clause-halted g c = λ told.
    leaves (IsHalted (file_end c.args.window.now (g.H.Host.roles c.args.disk.now.host.now Image).left) (next_record_at c.args.last c.args.next (unused c.args.window.now (g.H.Host.roles c.args.disk.now.host.now Image)))) c.from_residual-in_err-put.result (Disk c.in_err-put.field-0.0) c.from_residual-in_err-put.ensures.1 tt

pub returns-in_err-put-clause-loading : goal.returns-in_err-put-clause-loading
returns-in_err-put-clause-loading g c =
    loading_then g.H.Host c.args.disk.now.host.now c.fill.new.disk.host.now c.put.new.self.host.now
    (reads_loading g.H.Host c.args.disk.now.host.now c.fill.new.disk.host.now c.fill.ensures.reads) (work_loading g.H.Host c.fill.new.disk.host.now c.put.new.self.host.now c.put.ensures.work)

pub returns-in_err-put-clause-fault : goal.returns-in_err-put-clause-fault
returns-in_err-put-clause-fault g c =
    let room : disk_held c.fill.new.disk.rest < disk_room c.fill.new.disk.rest = subst (λ (r : DiskRest). disk_held r < disk_room r) (sym c.fill.ensures.same_rest) c.requires.room in
    leaves (IsPartFault g.H.Host c.args.disk.now.host.now c.put.new.self.host.now) c.from_residual-in_err-put.result (Disk c.in_err-put.field-0.0) c.from_residual-in_err-put.ensures.1
    (fault_later g.H.Host c.args.disk.now.host.now c.fill.new.disk.host.now c.put.new.self.host.now (Disk c.in_err-put.field-0.0)
    (reads_loading g.H.Host c.args.disk.now.host.now c.fill.new.disk.host.now c.fill.ensures.reads)
    (put_fault g.H.Host c.fill.new.disk.host.now c.put.new.self.host.now c.fill.new.disk.rest c.put.new.self.rest (raw_of c.take_record.new.buf) c.in_err-put.field-0.0 room c.in_err-put.ensures.fault))

pub returns-clause-takes : goal.returns-clause-takes
returns-clause-takes g c =
    takes_record g.H.Host c.args.disk.now.host.now c.fill.new.disk.host.now c.put.new.self.host.now c.args.disk.now.rest c.fill.new.disk.rest c.put.new.self.rest c.args.window.now c.fill.new.self c.take_record.new.window c.args.last c.args.next c.take_record.new.buf c.in_ok-measure.measure
    c.fill.ensures.reads c.fill.ensures.same_rest c.in_ok-fill.ensures.rest c.in_ok-fill.ensures.place c.take_record.ensures.range c.in_ok-measure.ensures.taken c.in_ok-measure.ensures.end c.in_ok-measure.ensures.near
    c.put.ensures.work c.in_ok-put.ensures.stored c.in_ok-put.ensures.put c.in_ok-put.ensures.held

pub returns-clause-ends : goal.returns-clause-ends
returns-clause-ends g c = λ told. ends_still g.H.Host c.fill.new.disk.host.now c.put.new.self.host.now c.fill.new.self c.take_record.new.window c.put.ensures.work c.take_record.ensures.ended (c.in_ok-fill.ensures.ends told)

pub returns-clause-loading : goal.returns-clause-loading
returns-clause-loading g c =
    loading_then g.H.Host c.args.disk.now.host.now c.fill.new.disk.host.now c.put.new.self.host.now
    (reads_loading g.H.Host c.args.disk.now.host.now c.fill.new.disk.host.now c.fill.ensures.reads) (work_loading g.H.Host c.fill.new.disk.host.now c.put.new.self.host.now c.put.ensures.work)
