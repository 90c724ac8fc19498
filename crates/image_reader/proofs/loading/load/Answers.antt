use Rattle.std.proofs.Common.{◌∙◌, refl, sym, ap, subst, arith}
use Rattle.disk_objects.specs.declared.rest.DiskRest.{DiskRest}
use Rattle.disk_objects.specs.Disk.{disk_room}
use Rattle.loom_host.specs.declared.outside.Role.TheVariants.{Image, Work}
use Rattle.loom_host.specs.Outside.{RoleState}
use Rattle.image_format.specs.Rules as rules
use Rattle.image_reader.specs.Loaded.{IsLoadFault}
use Rattle.image_reader.proofs.Frames.{fault_later, leaves, loading_then, look_loading}
use Rattle.image_reader.specs.Names.{IsRising}
use Rattle.image_reader.proofs.HeapLaws.{head_read, keeps_rules, loaded_heap}
use Rattle.image_reader.proofs.JudgeLaws.{beside-of, many-of}
use Rattle.image_reader.proofs.LoadLaws.{judged_load, read_load}
use Rattle.image_reader.proofs.Stored.{still_stored}
use Rattle.image_reader.proofs.loading.load.Goals as goal

pub returns-in_err-head-clause-fault : goal.returns-in_err-head-clause-fault
returns-in_err-head-clause-fault g c =
    let f = c.in_err-head.field-0.0 in
    leaves (IsLoadFault g.H.Host c.args.disk.now.host.now c.read_image.new.disk.host.now _) c.from_residual.result f c.from_residual.ensures.1
    (read_load g.H.Host c.args.disk.now.host.now c.read_image.new.disk.host.now c.read_image.new.disk.host.now _ f refl c.in_err-head.ensures.fault)

pub judge-requires : goal.judge-requires
judge-requires g c =
    let x = c.in_ok-head.ensures.reads in
    record { rising = subst IsRising (sym x.are.names_are) x.are.listed.rising; few = omega (arith, x.few); beside = beside-of c.in_ok-head.listed.names c.in_ok-head.listed.stated.items x.recs x.are.names_are x.stated_are; read = (x.recs, c.in_ok-head.head.opening.next, x.are) }

pub returns-in_err-judge-clause-loading : goal.returns-in_err-judge-clause-loading
returns-in_err-judge-clause-loading g c =
    loading_then g.H.Host c.args.disk.now.host.now c.read_image.new.disk.host.now c.judge.new.disk.host.now c.read_image.ensures.loading (look_loading g.H.Host c.read_image.new.disk.host.now c.judge.new.disk.host.now c.judge.ensures.read)

pub returns-in_err-judge-clause-fault : goal.returns-in_err-judge-clause-fault
returns-in_err-judge-clause-fault g c =
    let x = c.in_ok-head.ensures.reads in
    let f = c.in_err-judge.field-0.0 in
    let image : rules.Image = record { head = c.in_ok-head.head; recs = x.recs } in
    leaves (IsLoadFault g.H.Host c.args.disk.now.host.now c.judge.new.disk.host.now _) c.from_residual-in_err-judge.result f c.from_residual-in_err-judge.ensures.1
    (judged_load g.H.Host c.args.disk.now.host.now c.judge.new.disk.host.now _ image f x.read x.fits
    (λ told. c.in_err-judge.ensures.bad x.recs c.in_ok-head.head.opening.next told x.are x.stated_are)
    c.in_err-judge.ensures.rule
    (fault_later g.H.Host c.args.disk.now.host.now c.read_image.new.disk.host.now c.judge.new.disk.host.now f c.read_image.ensures.loading c.in_err-judge.ensures.fault))

pub returns-clause-loads : goal.returns-clause-loads
returns-clause-loads g c =
    let x = c.in_ok-head.ensures.reads in
    let image : rules.Image = record { head = c.in_ok-head.head; recs = x.recs } in (
      image,
      record {
        read = x.read;
        fits = x.fits;
        end = λ told. ap (λ (s : RoleState). s.left) (c.judge.ensures.read.roles Image) ∙ x.end told;
        bytes = x.bytes;
        head = keeps_rules c.in_ok-head.head (head_read c.in_ok-head.head x.seen);
        roomy = x.roomy;
        many = many-of c.in_ok-head.listed.names x.recs x.are.names_are ∙ x.many;
        records = x.are.listed.records;
        below = x.are.listed.below;
        rising = x.are.listed.rising;
        stored = λ told. still_stored g.H.Host c.read_image.new.disk.host.now c.judge.new.disk.host.now c.read_image.new.disk.rest c.judge.new.disk.rest x.recs (c.judge.ensures.read.roles Work) c.judge.ensures.rest (x.are.stored told);
        whole = λ told. c.in_ok-judge.ensures.ok x.recs c.in_ok-head.head.opening.next told x.are x.stated_are;
      },
      refl,
      refl,
      refl,
    )

pub returns-clause-loading : goal.returns-clause-loading
returns-clause-loading g c =
    loading_then g.H.Host c.args.disk.now.host.now c.read_image.new.disk.host.now c.judge.new.disk.host.now c.read_image.ensures.loading (look_loading g.H.Host c.read_image.new.disk.host.now c.judge.new.disk.host.now c.judge.ensures.read)

pub returns-clause-heap : goal.returns-clause-heap
returns-clause-heap g c = λ told.
    let x = c.in_ok-head.ensures.reads in
    let image : rules.Image = record { head = c.in_ok-head.head; recs = x.recs } in
    loaded_heap g.H.Host c.judge.new.disk.host.now c.judge.new.disk.rest image (head_read c.in_ok-head.head x.seen) (many-of c.in_ok-head.listed.names x.recs x.are.names_are ∙ x.many)
    x.are.listed.records x.are.listed.below x.are.listed.rising
    (still_stored g.H.Host c.read_image.new.disk.host.now c.judge.new.disk.host.now c.read_image.new.disk.rest c.judge.new.disk.rest x.recs (c.judge.ensures.read.roles Work) c.judge.ensures.rest (x.are.stored told))
    (c.in_ok-judge.ensures.ok x.recs c.in_ok-head.head.opening.next told x.are x.stated_are)

pub returns-in_err-judge-clause-kept : goal.returns-in_err-judge-clause-kept
returns-in_err-judge-clause-kept g c = ap (λ (r : DiskRest). disk_room r) c.judge.ensures.rest ∙ c.read_image.ensures.kept

pub returns-clause-kept : goal.returns-clause-kept
returns-clause-kept g c = ap (λ (r : DiskRest). disk_room r) c.judge.ensures.rest ∙ c.read_image.ensures.kept
