use Rattle.std.proofs.Common.{ℕ, List, sym, subst}
use Rattle.std.proofs.lemmas.Result.{on_ok_weaker}
use Rattle.loom_host.specs.declared.outside.Role.TheVariants.{Work}
use Rattle.object_record.specs.Buffer.{raw_of}
use Rattle.work_directory.specs.Directory.{EndsAt}
use Rattle.work_directory.specs.declared.directory.Found.TheVariants.{Vacant}
use Rattle.loom_host.specs.Work.{work_of}
use Rattle.disk_objects.specs.Inside.{IsStepFault}
use Rattle.loom_host.proofs.WorkLaws.{exits}
use Rattle.disk_objects.proofs.FoundLaws.{disk-few, disk-from}
use Rattle.disk_objects.proofs.DiskLaws.{changed-named}
use Rattle.disk_objects.proofs.FaultLaws.{store-sound}
use Rattle.disk_objects.proofs.PutLaws.{store-added, store-ends, put-added}
use Rattle.disk_objects.proofs.rest.DiskRest.add.Goals as goal

pub returns-in_err-place-clause-fault : goal.returns-in_err-place-clause-fault
returns-in_err-place-clause-fault g c =
    let h = g.H.Host in
    let fault = c.in_err-place.field-0.0 in
    exits c.from_residual.result fault
    (IsStepFault (h.tells Work) (h.faults c.args.host.now Work) (h.faults c.store.new.host Work) c.args.self.now (raw_of c.args.buf.now))
    c.from_residual.ensures.1
    (store-sound (h.tells Work) (h.faults c.args.host.now Work) (h.faults c.store.new.host Work) c.args.self.now (raw_of c.args.buf.now) fault
    (λ told.
    let v : List ℕ = work_of h c.args.host.now in
    let s = c.requires.stands told in
    c.in_err-place.ensures.sound told s.2.laid s.2.out s.2.kept.space.blocks (disk-few c.args.self.now v s.0 s.1 s.2) (disk-from c.args.self.now v s.0 s.1 s.2))
    c.in_err-place.ensures.fault)

pub add_at-requires-clause-stands : goal.add_at-requires-clause-stands
add_at-requires-clause-stands g c told =
    let h = g.H.Host in
    let s = c.requires.stands told in
    let k = s.2 in
    (store-added c.args.self.now c.store.new.space (work_of h c.args.host.now) (work_of h c.store.new.host) s.0 s.1 (raw_of c.args.buf.now) 0 c.in_ok-place.place
    k (c.in_ok-place.ensures.stores told k.laid k.out k.kept.space.blocks) c.in_ok-place.ensures.from c.requires.room).0.kept.directory

pub add_at-requires-clause-vacant : goal.add_at-requires-clause-vacant
add_at-requires-clause-vacant g c =
    let h = g.H.Host in
    let rest = c.args.self.now in
    subst (λ (n : ℕ). EndsAt h c.store.new.host rest.directory n (Vacant c.args.at)) (sym c.name-name.ensures) (
      c.requires.vacant.0,
      λ told.
          let s = c.requires.stands told in
          let k = s.2 in
          store-ends rest c.store.new.space (work_of h c.args.host.now) (work_of h c.store.new.host) s.0 s.1 (raw_of c.args.buf.now) 0 c.in_ok-place.place
          k (c.in_ok-place.ensures.stores told k.laid k.out k.kept.space.blocks) c.in_ok-place.ensures.from (raw_of c.args.buf.now).name (Vacant c.args.at)
          c.requires.vacant.0 (c.requires.vacant.1 told),
    )

pub returns-clause-put : goal.returns-clause-put
returns-clause-put g c told objects pending k =
    let h = g.H.Host in
    let rest = c.args.self.now in
    let raw = raw_of c.args.buf.now in
    let w : List ℕ = work_of h c.store.new.host in
    let x : List ℕ = work_of h c.add_at.new.host in
    on_ok_weaker c.add_at.result (λ ch.
    put-added rest c.store.new.space c.add_at.new.self (work_of h c.args.host.now) w x objects pending raw c.in_ok-place.place c.args.count
    k (c.in_ok-place.ensures.stores told k.laid k.out k.kept.space.blocks) c.in_ok-place.ensures.from c.requires.record.is
    (c.requires.absent told) c.requires.room c.add_at.ensures.room
    (changed-named rest.directory c.add_at.new.self w x raw.name c.name-name.result _ c.name-name.ensures (ch told))) c.add_at.ensures.added
