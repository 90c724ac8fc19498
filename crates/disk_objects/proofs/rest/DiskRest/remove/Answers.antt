use Rattle.std.proofs.Common.{ℕ, List, Some, ap, ◌∙◌}
use Rattle.std.proofs.lemmas.Result.{on_ok_weaker}
use Rattle.loom_host.specs.Work.{work_of}
use Rattle.loom_host.proofs.WorkLaws.{work-same}
use Rattle.disk_objects.proofs.DiskLaws.{open-given, disk-removed, removed-from}
use Rattle.disk_objects.proofs.PutLaws.{held-class}
use Rattle.disk_objects.proofs.rest.DiskRest.remove.Goals as goal

pub look_held-requires : goal.look_held-requires
look_held-requires g c = record { stands = λ told. let s = c.requires.stands told in (s.0, s.1, s.2, s.3.0) }

pub returns-clause-removed : goal.returns-clause-removed
returns-clause-removed g c told objects pending k idle =
    let h = g.H.Host in
    let rest = c.args.self.now in
    let v : List ℕ = work_of h c.args.host.now in
    let x : List ℕ = work_of h c.remove.new.host in
    let held = c.in_ok-held.held in
    let found = c.in_ok-held.ensures.found told in
    let sized = c.in_ok-held.ensures.sized in
    let r = held-class rest v objects pending k c.args.name held found sized.head.class in
    let same = work-same h c.args.host.now c.look_held.new.host c.in_ok-held.ensures.read in
    let o = disk-removed rest c.remove.new.self v x objects pending c.args.name k c.in_ok-remove.ensures.room
    (removed-from rest.directory c.remove.new.self (work_of h c.look_held.new.host) v x c.args.name same (c.in_ok-remove.ensures.removed told)) idle.1
    (record { count = held.count; place = held.place }) held.head.class found.entry (r.2.block ∙ ap (λ (n : ℕ). Some n) r.3) in
    on_ok_weaker c.give.result (λ gave. open-given _ c.give.new.self x (work_of h c.give.new.host) _ pending held.place held.head.class o gave c.give.ensures.from)
    (c.give.ensures.gives told o.laid o.out o.kept.space.blocks o.spare_out)
