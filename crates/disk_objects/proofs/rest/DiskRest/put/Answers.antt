use Rattle.std.proofs.Common.{ℕ, List, sym, subst}
use Rattle.work_directory.specs.Directory.{EndsAt, StandsAt}
use Rattle.work_directory.specs.declared.directory.Found.TheVariants.{Vacant}
use Rattle.disk_objects.specs.Disk.{IsDisk}
use Rattle.loom_host.proofs.WorkLaws.{work-same}
use Rattle.disk_objects.proofs.PutLaws.{ends-read, stands-read}
use Rattle.disk_objects.proofs.rest.DiskRest.put.Goals as goal

pub add-requires-clause-stands : goal.add-requires-clause-stands
add-requires-clause-stands g c told =
    let s = c.requires.stands told in
    (s.0, s.1, subst (λ (w : List ℕ). IsDisk c.args.self.now w s.0 s.1) (sym (work-same g.H.Host c.args.host.now c.look.new.host c.in_ok-found.ensures.read)) s.2, tt)

pub returns-in-Vacant-clause-put : goal.returns-in-Vacant-clause-put
returns-in-Vacant-clause-put g c told objects pending k =
    c.add.ensures.put told objects pending
    (subst (λ (w : List ℕ). IsDisk c.args.self.now w objects pending) (sym (work-same g.H.Host c.args.host.now c.look.new.host c.in_ok-found.ensures.read)) k)

pub rewrite-requires-clause-stands : goal.rewrite-requires-clause-stands
rewrite-requires-clause-stands g c told =
    let s = c.requires.stands told in
    (s.0, s.1, subst (λ (w : List ℕ). IsDisk c.args.self.now w s.0 s.1) (sym (work-same g.H.Host c.args.host.now c.look.new.host c.in_ok-found.ensures.read)) s.2, tt)

pub relocate-requires-clause-stands : goal.relocate-requires-clause-stands
relocate-requires-clause-stands g c told =
    let s = c.requires.stands told in
    (s.0, s.1, subst (λ (w : List ℕ). IsDisk c.args.self.now w s.0 s.1) (sym (work-same g.H.Host c.args.host.now c.look.new.host c.in_ok-found.ensures.read)) s.2, tt)

pub add-requires-clause-vacant : goal.add-requires-clause-vacant
add-requires-clause-vacant g c =
    let h = g.H.Host in
    let d = c.args.self.now.directory in
    subst (λ (n : ℕ). EndsAt h c.look.new.host d n (Vacant c.in-Vacant.at)) c.name.ensures
    (ends-read h c.args.host.now c.look.new.host d c.name.result (Vacant c.in-Vacant.at) c.in_ok-found.ensures.read (rw c.in-Vacant.is at c.in_ok-found.ensures.end))

pub rewrite-requires-clause-at : goal.rewrite-requires-clause-at
rewrite-requires-clause-at g c =
    let h = g.H.Host in
    let d = c.args.self.now.directory in
    let held = c.in-Held.held in
    subst (λ (n : ℕ). StandsAt h c.look.new.host d n held.at) c.name.ensures
    (stands-read h c.args.host.now c.look.new.host d c.name.result held.at c.in_ok-found.ensures.read (rw c.in-Held.is at c.in_ok-found.ensures.end))

pub relocate-requires-clause-at : goal.relocate-requires-clause-at
relocate-requires-clause-at g c =
    let h = g.H.Host in
    let d = c.args.self.now.directory in
    let held = c.in-Held.held in
    subst (λ (n : ℕ). StandsAt h c.look.new.host d n held.at) c.name.ensures
    (stands-read h c.args.host.now c.look.new.host d c.name.result held.at c.in_ok-found.ensures.read (rw c.in-Held.is at c.in_ok-found.ensures.end))
