use Rattle.std.proofs.Common.{ℕ, List, sym, subst, ap}
use Rattle.std.proofs.lemmas.Result.{on_ok_weaker}
use Rattle.object_record.specs.Buffer.{raw_of}
use Rattle.work_directory.specs.Directory.{room_of, EndsAt}
use Rattle.work_directory.specs.declared.directory.Found.TheVariants.{Held}
use Rattle.loom_host.specs.Work.{work_of}
use Rattle.disk_objects.proofs.DiskLaws.{changed-named}
use Rattle.disk_objects.proofs.PutLaws.{put-rewritten, rewritten-ends, rewritten-in}
use Rattle.disk_objects.proofs.rest.DiskRest.rewrite.Goals as goal

pub set_at-requires-clause-stands : goal.set_at-requires-clause-stands
set_at-requires-clause-stands g c told =
    let h = g.H.Host in
    let s = c.requires.stands told in
    (rewritten-in c.args.self.now (work_of h c.args.host.now) (work_of h c.write_record.new.host) s.0 s.1 (raw_of c.args.buf.now) c.args.held s.2
    c.requires.record.is (c.requires.held told) c.requires.sized.head.class c.requires.class (c.in_ok-write_record.ensures.writes told))

pub set_at-requires-clause-there : goal.set_at-requires-clause-there
set_at-requires-clause-there g c =
    let h = g.H.Host in
    let rest = c.args.self.now in
    let at = c.requires.at in (
      at.0,
      subst (λ (n : ℕ). EndsAt h c.write_record.new.host rest.directory n (Held c.args.held.at at.0)) (sym c.name-name.ensures) (
        at.1.0,
        λ told.
            let s = c.requires.stands told in
            rewritten-ends rest (work_of h c.args.host.now) (work_of h c.write_record.new.host) s.0 s.1 (raw_of c.args.buf.now) c.args.held s.2
            (c.requires.held told) c.requires.sized.head.class (c.in_ok-write_record.ensures.writes told) (raw_of c.args.buf.now).name (Held c.args.held.at at.0)
            at.1.0 (at.1.1 told),
      ),
    )

pub returns-clause-put : goal.returns-clause-put
returns-clause-put g c told objects pending k =
    let h = g.H.Host in
    let rest = c.args.self.now in
    let raw = raw_of c.args.buf.now in
    let w : List ℕ = work_of h c.write_record.new.host in
    let x : List ℕ = work_of h c.set_at.new.host in
    on_ok_weaker c.set_at.result (λ ch.
    put-rewritten rest c.set_at.new.self (work_of h c.args.host.now) w x objects pending raw c.args.count c.args.held k c.requires.record.is (c.requires.held told)
    c.requires.sized.head.class c.requires.class (c.in_ok-write_record.ensures.writes told) (ap room_of c.set_at.ensures.still)
    (changed-named rest.directory c.set_at.new.self w x raw.name c.name-name.result _ c.name-name.ensures (ch told))) c.set_at.ensures.set
