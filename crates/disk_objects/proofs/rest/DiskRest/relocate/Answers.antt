use Rattle.std.proofs.Common.{ℕ, List, sym, subst, ap}
use Rattle.std.proofs.lemmas.Result.{on_ok_weaker}
use Rattle.loom_host.specs.declared.outside.Role.TheVariants.{Work}
use Rattle.object_record.specs.Buffer.{raw_of}
use Rattle.work_directory.specs.Directory.{room_of, EndsAt}
use Rattle.work_directory.specs.declared.directory.Found.TheVariants.{Held}
use Rattle.loom_host.specs.Work.{work_of}
use Rattle.disk_objects.specs.Inside.{IsStepFault}
use Rattle.loom_host.proofs.WorkLaws.{exits}
use Rattle.disk_objects.proofs.FoundLaws.{disk-few, disk-from}
use Rattle.disk_objects.proofs.DiskLaws.{changed-named, open-given}
use Rattle.disk_objects.proofs.FaultLaws.{store-sound}
use Rattle.disk_objects.proofs.PutLaws.{relocated-in, put-moved, store-ends}
use Rattle.disk_objects.proofs.rest.DiskRest.relocate.Goals as goal

pub returns-in_err-place-clause-fault : goal.returns-in_err-place-clause-fault
returns-in_err-place-clause-fault g c =
    let h = g.H.Host in
    let fault = c.in_err-place.field-0.0 in
    exits c.from_residual.result fault
    (IsStepFault (h.tells Work) (h.faults c.args.host.now Work) (h.faults c.store.new.host Work) c.args.self.now (raw_of c.args.buf.now))
    c.from_residual.ensures.1
    (store-sound (h.tells Work) (h.faults c.args.host.now Work) (h.faults c.store.new.host Work) c.args.self.now (raw_of c.args.buf.now) fault
    (λ told.
    let v : List ℕ = work_of h c.args.host.now in
    let s = c.requires.stands told in
    c.in_err-place.ensures.sound told s.2.laid s.2.out s.2.kept.space.blocks (disk-few c.args.self.now v s.0 s.1 s.2) (disk-from c.args.self.now v s.0 s.1 s.2))
    c.in_err-place.ensures.fault)

pub set_at-requires-clause-stands : goal.set_at-requires-clause-stands
set_at-requires-clause-stands g c told =
    let h = g.H.Host in
    let s = c.requires.stands told in
    let k = s.2 in
    (relocated-in c.args.self.now c.store.new.space (work_of h c.args.host.now) (work_of h c.store.new.host) s.0 s.1 (raw_of c.args.buf.now) c.in_ok-place.place
    c.args.held k (c.in_ok-place.ensures.stores told k.laid k.out k.kept.space.blocks) c.in_ok-place.ensures.from c.requires.record.is (c.requires.held told)
    c.requires.sized.head.class c.requires.class)

pub set_at-requires-clause-there : goal.set_at-requires-clause-there
set_at-requires-clause-there g c =
    let h = g.H.Host in
    let rest = c.args.self.now in
    let at = c.requires.at in (
      at.0,
      subst (λ (n : ℕ). EndsAt h c.store.new.host rest.directory n (Held c.args.held.at at.0)) (sym c.name-name.ensures) (
        at.1.0,
        λ told.
            let s = c.requires.stands told in
            let k = s.2 in
            store-ends rest c.store.new.space (work_of h c.args.host.now) (work_of h c.store.new.host) s.0 s.1 (raw_of c.args.buf.now) c.args.held.head.link c.in_ok-place.place
            k (c.in_ok-place.ensures.stores told k.laid k.out k.kept.space.blocks) c.in_ok-place.ensures.from (raw_of c.args.buf.now).name (Held c.args.held.at at.0)
            at.1.0 (at.1.1 told),
      ),
    )

pub returns-clause-put : goal.returns-clause-put
returns-clause-put g c told objects pending k =
    let h = g.H.Host in
    let rest = c.args.self.now in
    let raw = raw_of c.args.buf.now in
    let w : List ℕ = work_of h c.store.new.host in
    let x : List ℕ = work_of h c.set_at.new.host in
    let o = put-moved rest c.store.new.space (work_of h c.args.host.now) w objects pending raw c.in_ok-place.place
    c.args.held k (c.in_ok-place.ensures.stores told k.laid k.out k.kept.space.blocks) c.in_ok-place.ensures.from c.requires.record.is (c.requires.held told)
    c.requires.sized.head.class c.requires.class c.set_at.new.self x c.args.count (ap room_of c.in_ok-set_at.ensures.still)
    (changed-named rest.directory c.set_at.new.self w x raw.name c.name-name.result _ c.name-name.ensures (c.in_ok-set_at.ensures.set told)) in
    on_ok_weaker c.give.result (λ gave. open-given _ c.give.new.self x (work_of h c.give.new.host) _ pending c.args.held.place c.args.held.head.class o gave c.give.ensures.from)
    (c.give.ensures.gives told o.laid o.out o.kept.space.blocks o.spare_out)
