use Rattle.std.proofs.Common.{ℕ, sym, ◌∙◌, ap, cond, is_some, true, false, arith}
use Rattle.loom_host.specs.Work.{work_of}
use Rattle.loom_host.proofs.WorkLaws.{exits}
use Rattle.object_record.specs.Buffer.{raw_of}
use Rattle.disk_objects.specs.Function.{disk_of}
use Rattle.core_view.specs.Held.{Disk}
use Rattle.core_view.specs.Levels.{count_in}
use Rattle.delta_counts.proofs.LowerLaws.{ok-map}
use Rattle.purger.specs.Purge.{IsEvictFault}
use Rattle.purger.proofs.EvictLaws.{read-same, put-fault-if}
use Rattle.purger.proofs.SoundLaws.{stored-read, holds-read, put-stored}
use Rattle.purger.proofs.GivingLaws.{read-evict, evict-later-if}
use Rattle.purger.proofs.eviction.store.Goals as goal

pub put-requires-clause-stands : goal.put-requires-clause-stands
put-requires-clause-stands g c = holds-read g.H.Host c.args.disk.now.host.now c.count_of.new.disk.host.now c.args.disk.now.rest c.count_of.new.disk.rest c.count_of.ensures.reads.rest c.count_of.ensures.reads.read c.requires.stands

pub returns-clause-stored : goal.returns-clause-stored
returns-clause-stored g c = λ told stored pending at.
    let y = stored-read g.H.Host c.args.disk.now.host.now c.count_of.new.disk.host.now c.args.disk.now.rest c.count_of.new.disk.rest stored pending c.count_of.ensures.reads.rest c.count_of.ensures.reads.read at in
    ok-map c.put.result (λ d. put-stored g.H.Host c.count_of.new.disk.host.now c.put.new.self.host.now c.count_of.new.disk.rest c.put.new.self.rest stored pending (raw_of c.args.buf.now) c.in_ok-count.count y
    (c.in_ok-count.ensures.count told stored pending at ∙ ap (λ (n : ℕ). count_in (stored n)) c.name-own.ensures) d)
    (c.put.ensures.put told y.objects pending y.disk)

pub returns-in_err-count-clause-fault : goal.returns-in_err-count-clause-fault
returns-in_err-count-clause-fault g c =
    exits c.from_residual.result c.in_err-count.field-0.0
    (IsEvictFault g.H.Host c.args.disk.now.host.now c.count_of.new.disk.host.now c.args.disk.now.rest (cond (is_some (disk_of g.H.Host c.args.disk.now.host.now c.args.disk.now.rest (raw_of c.args.buf.now).name)) false true)) c.from_residual.ensures.1
    (read-evict g.H.Host c.args.disk.now.host.now c.args.disk.now.host.now c.count_of.new.disk.host.now c.args.disk.now.rest (cond (is_some (disk_of g.H.Host c.args.disk.now.host.now c.args.disk.now.rest (raw_of c.args.buf.now).name)) false true) c.in_err-count.field-0.0 (omega arith) c.in_err-count.ensures.fault)

pub returns-clause-fault : goal.returns-clause-fault
returns-clause-fault g c = evict-later-if g.H.Host c.args.disk.now.host.now c.count_of.new.disk.host.now c.put.new.self.host.now c.args.disk.now.rest c.count_of.new.disk.rest (cond (is_some (disk_of g.H.Host c.count_of.new.disk.host.now c.count_of.new.disk.rest (raw_of c.args.buf.now).name)) false true) (cond (is_some (disk_of g.H.Host c.args.disk.now.host.now c.args.disk.now.rest (raw_of c.args.buf.now).name)) false true) c.put.result
    c.count_of.ensures.reads.read.later c.count_of.ensures.reads.rest
    (λ told e. ap (λ (k : Disk). cond (is_some (k (raw_of c.args.buf.now).name)) false true) (sym (read-same g.H.Host c.args.disk.now.host.now c.count_of.new.disk.host.now c.args.disk.now.rest c.count_of.new.disk.rest c.count_of.ensures.reads.rest c.count_of.ensures.reads.read)) ∙ e)
    (put-fault-if g.H.Host c.count_of.new.disk.host.now c.put.new.self.host.now c.count_of.new.disk.rest c.put.new.self.rest (raw_of c.args.buf.now) c.put.result
    (holds-read g.H.Host c.args.disk.now.host.now c.count_of.new.disk.host.now c.args.disk.now.rest c.count_of.new.disk.rest c.count_of.ensures.reads.rest c.count_of.ensures.reads.read c.requires.stands)
    (λ objects queue is. c.a_disk_is_its_objects.ensures.objects c.count_of.new.disk.rest (work_of g.H.Host c.count_of.new.disk.host.now) objects queue (raw_of c.args.buf.now).name is) c.put.ensures.fault)
