use Rattle.std.proofs.Common.{◌++◌, ℕ, List, [], sym, ap, subst, ◌∙◌, arith}
use Rattle.loom_host.specs.declared.outside.Role.TheVariants.{Image, Work}
use Rattle.image_format.specs.Rules.{records_at}
use Rattle.disk_objects.specs.declared.rest.DiskRest.{DiskRest}
use Rattle.disk_objects.specs.Disk.{disk_held, disk_room}
use Rattle.image_reader.specs.declared.fault.LoadFault.{LoadFault}
use Rattle.image_reader.specs.Frames.{IsHalted}
use Rattle.image_reader.specs.Inside.{IsHeadFault}
use Rattle.image_reader.specs.Judged.{IsReadFault}
use Rattle.image_reader.specs.Window.{file_end, unused}
use Rattle.image_reader.proofs.Frames.{reads_loading, loading_then, fault_later, leaves}
use Rattle.image_reader.proofs.Heads.{head_fault_more}
use Rattle.image_reader.proofs.LoadLaws.{file_ends, file_head, file_roomy, fill_later, fill_unread, head_unread, more_bytes, part_read, reads_records, records_broken}
use Rattle.image_reader.proofs.Stored.{still_stored, stored_none}
use Rattle.image_reader.proofs.loading.read_image.Goals as goal

pub returns-in_err-fill-clause-loading : goal.returns-in_err-fill-clause-loading
returns-in_err-fill-clause-loading g c = reads_loading g.H.Host c.args.disk.now.host.now c.fill.new.disk.host.now c.fill.ensures.reads

pub returns-in_err-fill-clause-fault : goal.returns-in_err-fill-clause-fault
returns-in_err-fill-clause-fault g c =
    leaves (IsReadFault g.H.Host c.args.disk.now.host.now c.fill.new.disk.host.now _) c.from_residual.result c.in_err-fill.field-0.0 c.from_residual.ensures.1
    (fill_unread g.H.Host c.args.disk.now.host.now c.fill.new.disk.host.now _ c.in_err-fill.field-0.0 (reads_loading g.H.Host c.args.disk.now.host.now c.fill.new.disk.host.now c.fill.ensures.reads) c.in_err-fill.ensures.fault)

pub returns-in_err-head-clause-loading : goal.returns-in_err-head-clause-loading
returns-in_err-head-clause-loading g c = reads_loading g.H.Host c.args.disk.now.host.now c.fill.new.disk.host.now c.fill.ensures.reads

pub returns-in_err-head-clause-fault : goal.returns-in_err-head-clause-fault
returns-in_err-head-clause-fault g c =
    let w = c.fill.new.self in
    let f = c.in_err-head.field-0.0 in
    let begun = ap (λ (s : List ℕ). s ++ (g.H.Host.roles c.args.disk.now.host.now Image).left) c.new-window.ensures.bytes in
    leaves (IsReadFault g.H.Host c.args.disk.now.host.now c.fill.new.disk.host.now c.args.room) c.from_residual-in_err-head.result f c.from_residual-in_err-head.ensures.1
    (head_unread g.H.Host c.args.disk.now.host.now c.fill.new.disk.host.now c.args.room w.bytes f c.in_err-head.ensures.fault
    (λ told. subst (λ (b : List ℕ). IsHeadFault c.args.room b f) (c.in_ok-fill.ensures.rest told ∙ begun)
    (head_fault_more c.args.room w.bytes (g.H.Host.roles c.fill.new.disk.host.now Image).left w.ended f c.in_ok-fill.ensures.enough (c.in_ok-fill.ensures.ends told) c.in_err-head.ensures.fault)))

pub read_records-requires : goal.read_records-requires
read_records-requires g c =
    let rest = c.fill.ensures.same_rest in
    record {
      ends = λ told e. c.in_ok-fill.ensures.ends told (sym c.take_head.ensures.ended ∙ e);
      start = c.in_ok-head.ensures.place;
      empty = λ told. still_stored g.H.Host c.args.disk.now.host.now c.fill.new.disk.host.now c.args.disk.now.rest c.fill.new.disk.rest [] (c.fill.ensures.reads.others Work (λ e. cc)) rest (stored_none g.H.Host c.args.disk.now.host.now c.args.disk.now.rest (c.requires.empty told));
      none = ap (λ (r : DiskRest). disk_held r) rest ∙ c.requires.none;
      fits = omega (arith, c.in_ok-head.ensures.fits.0, c.requires.room, ap (λ (r : DiskRest). disk_room r) rest);
      few = c.in_ok-head.ensures.fits.1;
    }

pub returns-in_err-listed-clause-loading : goal.returns-in_err-listed-clause-loading
returns-in_err-listed-clause-loading g c =
    loading_then g.H.Host c.args.disk.now.host.now c.fill.new.disk.host.now c.read_records.new.disk.host.now (reads_loading g.H.Host c.args.disk.now.host.now c.fill.new.disk.host.now c.fill.ensures.reads) c.read_records.ensures.loading

pub returns-in_err-listed-clause-fault : goal.returns-in_err-listed-clause-fault
returns-in_err-listed-clause-fault g c =
    let f = c.in_err-listed.field-0.0 in
    let first = reads_loading g.H.Host c.args.disk.now.host.now c.fill.new.disk.host.now c.fill.ensures.reads in
    let begun = ap (λ (s : List ℕ). s ++ (g.H.Host.roles c.args.disk.now.host.now Image).left) c.new-window.ensures.bytes in
    let head = c.in_ok-head.head in
    leaves (IsReadFault g.H.Host c.args.disk.now.host.now c.read_records.new.disk.host.now c.args.room) c.from_residual-in_err-listed.result f c.from_residual-in_err-listed.ensures.1
    (part_read g.H.Host c.args.disk.now.host.now c.read_records.new.disk.host.now c.args.room f
    (fault_later g.H.Host c.args.disk.now.host.now c.fill.new.disk.host.now c.read_records.new.disk.host.now f first c.in_err-listed.ensures.fault)
    (λ rule place same told. (
      file_roomy g.H.Host c.args.disk.now.host.now c.fill.new.disk.host.now c.fill.new.disk.host.now c.fill.new.disk.host.now c.fill.new.self c.take_head.new.window c.fill.new.self c.fill.new.self c.args.room head [] [] c.args.disk.now.rest c.args.disk.now.rest
          (λ t. c.in_ok-fill.ensures.rest t ∙ begun) c.in_ok-fill.ensures.enough c.in_ok-fill.ensures.ends c.in_ok-head.ensures.read c.in_ok-head.ensures.roomy told,
      records_broken (g.H.Host.roles c.args.disk.now.host.now Image).left (unused c.take_head.new.window (g.H.Host.roles c.fill.new.disk.host.now Image)) head (file_end c.take_head.new.window (g.H.Host.roles c.fill.new.disk.host.now Image).left) rule place
          (file_ends g.H.Host c.args.disk.now.host.now c.fill.new.disk.host.now c.fill.new.disk.host.now c.fill.new.disk.host.now c.fill.new.self c.take_head.new.window c.fill.new.self c.fill.new.self c.args.room head [] [] c.args.disk.now.rest c.args.disk.now.rest
          (λ t. c.in_ok-fill.ensures.rest t ∙ begun) c.in_ok-fill.ensures.enough c.in_ok-fill.ensures.ends c.in_ok-head.ensures.read c.in_ok-head.ensures.roomy c.in_ok-head.ensures.end told)
          (file_head g.H.Host c.args.disk.now.host.now c.fill.new.disk.host.now c.fill.new.disk.host.now c.fill.new.disk.host.now c.fill.new.self c.take_head.new.window c.fill.new.self c.fill.new.self c.args.room head [] [] c.args.disk.now.rest c.args.disk.now.rest
          (λ t. c.in_ok-fill.ensures.rest t ∙ begun) c.in_ok-fill.ensures.enough c.in_ok-fill.ensures.ends c.in_ok-head.ensures.read c.in_ok-head.ensures.roomy told)
          (subst (λ (e : LoadFault). IsHalted (file_end c.take_head.new.window (g.H.Host.roles c.fill.new.disk.host.now Image).left) (records_at head.opening.objects 0 head.opening.next (unused c.take_head.new.window (g.H.Host.roles c.fill.new.disk.host.now Image))) e) same (c.in_err-listed.ensures.halted told)),
    )))

pub returns-in_err-fill-2-clause-loading : goal.returns-in_err-fill-2-clause-loading
returns-in_err-fill-2-clause-loading g c =
    loading_then g.H.Host c.args.disk.now.host.now c.fill.new.disk.host.now c.fill-2.new.disk.host.now (reads_loading g.H.Host c.args.disk.now.host.now c.fill.new.disk.host.now c.fill.ensures.reads)
    (loading_then g.H.Host c.fill.new.disk.host.now c.read_records.new.disk.host.now c.fill-2.new.disk.host.now c.read_records.ensures.loading (reads_loading g.H.Host c.read_records.new.disk.host.now c.fill-2.new.disk.host.now c.fill-2.ensures.reads))

pub returns-in_err-fill-2-clause-fault : goal.returns-in_err-fill-2-clause-fault
returns-in_err-fill-2-clause-fault g c =
    let f = c.in_err-fill-2.field-0.0 in
    let first = reads_loading g.H.Host c.args.disk.now.host.now c.fill.new.disk.host.now c.fill.ensures.reads in
    let before = loading_then g.H.Host c.args.disk.now.host.now c.fill.new.disk.host.now c.read_records.new.disk.host.now first c.read_records.ensures.loading in
    let all = loading_then g.H.Host c.args.disk.now.host.now c.read_records.new.disk.host.now c.fill-2.new.disk.host.now before (reads_loading g.H.Host c.read_records.new.disk.host.now c.fill-2.new.disk.host.now c.fill-2.ensures.reads) in
    leaves (IsReadFault g.H.Host c.args.disk.now.host.now c.fill-2.new.disk.host.now c.args.room) c.from_residual-in_err-fill-2.result f c.from_residual-in_err-fill-2.ensures.1
    (fill_unread g.H.Host c.args.disk.now.host.now c.fill-2.new.disk.host.now c.args.room f all (fill_later g.H.Host c.args.disk.now.host.now c.read_records.new.disk.host.now c.fill-2.new.disk.host.now f before c.in_err-fill-2.ensures.fault))

pub returns-clause-reads : goal.returns-clause-reads
returns-clause-reads g c =
    let begun = ap (λ (s : List ℕ). s ++ (g.H.Host.roles c.args.disk.now.host.now Image).left) c.new-window.ensures.bytes in
    reads_records g.H.Host c.args.disk.now.host.now c.fill.new.disk.host.now c.read_records.new.disk.host.now c.fill-2.new.disk.host.now c.fill.new.self c.take_head.new.window c.read_records.new.window c.fill-2.new.self c.args.room c.in_ok-head.head c.in_ok-listed.listed.names c.in_ok-listed.listed.stated.items c.read_records.new.disk.rest c.fill-2.new.disk.rest
    (λ t. c.in_ok-fill.ensures.rest t ∙ begun) c.in_ok-fill.ensures.enough c.in_ok-fill.ensures.ends c.in_ok-head.ensures.read c.in_ok-head.ensures.roomy c.in_ok-listed.ensures.takes c.in_ok-fill-2.ensures.rest
    c.take_head.ensures.range c.in_ok-head.ensures.fits.0 c.in_ok-head.ensures.fits.1 (c.fill-2.ensures.reads.others Work (λ e. cc)) c.fill-2.ensures.same_rest c.in_ok-fill-2.ensures.enough c.in_ok-fill-2.ensures.ends c.in_ok-judge_end.ensures.ok

pub returns-clause-loading : goal.returns-clause-loading
returns-clause-loading g c =
    loading_then g.H.Host c.args.disk.now.host.now c.fill.new.disk.host.now c.fill-2.new.disk.host.now (reads_loading g.H.Host c.args.disk.now.host.now c.fill.new.disk.host.now c.fill.ensures.reads)
    (loading_then g.H.Host c.fill.new.disk.host.now c.read_records.new.disk.host.now c.fill-2.new.disk.host.now c.read_records.ensures.loading (reads_loading g.H.Host c.read_records.new.disk.host.now c.fill-2.new.disk.host.now c.fill-2.ensures.reads))

pub returns-in_err-judge_end-clause-loading : goal.returns-in_err-judge_end-clause-loading
returns-in_err-judge_end-clause-loading g c =
    loading_then g.H.Host c.args.disk.now.host.now c.fill.new.disk.host.now c.fill-2.new.disk.host.now (reads_loading g.H.Host c.args.disk.now.host.now c.fill.new.disk.host.now c.fill.ensures.reads)
    (loading_then g.H.Host c.fill.new.disk.host.now c.read_records.new.disk.host.now c.fill-2.new.disk.host.now c.read_records.ensures.loading (reads_loading g.H.Host c.read_records.new.disk.host.now c.fill-2.new.disk.host.now c.fill-2.ensures.reads))

pub returns-in_err-judge_end-clause-fault : goal.returns-in_err-judge_end-clause-fault
returns-in_err-judge_end-clause-fault g c =
    let w = c.fill-2.new.self in
    let begun = ap (λ (s : List ℕ). s ++ (g.H.Host.roles c.args.disk.now.host.now Image).left) c.new-window.ensures.bytes in
    leaves (IsReadFault g.H.Host c.args.disk.now.host.now c.fill-2.new.disk.host.now c.args.room) c.from_residual-in_err-judge_end.result c.in_err-judge_end.field-0.0 c.from_residual-in_err-judge_end.ensures.1
    (subst (IsReadFault g.H.Host c.args.disk.now.host.now c.fill-2.new.disk.host.now c.args.room) (sym c.in_err-judge_end.ensures.bad.0) (λ told. more_bytes g.H.Host c.args.disk.now.host.now c.fill.new.disk.host.now c.read_records.new.disk.host.now c.fill-2.new.disk.host.now c.fill.new.self c.take_head.new.window c.read_records.new.window w c.args.room c.in_ok-head.head c.in_ok-listed.listed.names c.in_ok-listed.listed.stated.items c.read_records.new.disk.rest c.fill-2.new.disk.rest
    (λ t. c.in_ok-fill.ensures.rest t ∙ begun) c.in_ok-fill.ensures.enough c.in_ok-fill.ensures.ends c.in_ok-head.ensures.read c.in_ok-head.ensures.roomy c.in_ok-listed.ensures.takes c.in_ok-fill-2.ensures.rest
    c.in_ok-head.ensures.end c.in_ok-fill-2.ensures.place c.in_err-judge_end.ensures.bad.1 told))

pub returns-in_err-fill-clause-kept : goal.returns-in_err-fill-clause-kept
returns-in_err-fill-clause-kept g c = ap (λ (r : DiskRest). disk_room r) c.fill.ensures.same_rest

pub returns-in_err-head-clause-kept : goal.returns-in_err-head-clause-kept
returns-in_err-head-clause-kept g c = ap (λ (r : DiskRest). disk_room r) c.fill.ensures.same_rest

pub returns-in_err-listed-clause-kept : goal.returns-in_err-listed-clause-kept
returns-in_err-listed-clause-kept g c = c.read_records.ensures.room ∙ ap (λ (r : DiskRest). disk_room r) c.fill.ensures.same_rest

pub returns-in_err-fill-2-clause-kept : goal.returns-in_err-fill-2-clause-kept
returns-in_err-fill-2-clause-kept g c = ap (λ (r : DiskRest). disk_room r) c.fill-2.ensures.same_rest ∙ c.read_records.ensures.room ∙ ap (λ (r : DiskRest). disk_room r) c.fill.ensures.same_rest

pub returns-in_err-judge_end-clause-kept : goal.returns-in_err-judge_end-clause-kept
returns-in_err-judge_end-clause-kept g c = ap (λ (r : DiskRest). disk_room r) c.fill-2.ensures.same_rest ∙ c.read_records.ensures.room ∙ ap (λ (r : DiskRest). disk_room r) c.fill.ensures.same_rest

pub returns-clause-kept : goal.returns-clause-kept
returns-clause-kept g c = ap (λ (r : DiskRest). disk_room r) c.fill-2.ensures.same_rest ∙ c.read_records.ensures.room ∙ ap (λ (r : DiskRest). disk_room r) c.fill.ensures.same_rest
