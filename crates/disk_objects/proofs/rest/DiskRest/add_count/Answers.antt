use Rattle.std.proofs.Common.{◌≡◌, ℕ, List, refl, subst, sym, ap, ◌∙◌}
use Rattle.std.specs.Prelude.{IsSome}
use Rattle.std.specs.Int.{w64}
use Rattle.std.proofs.lemmas.Int.{to_z-of_z}
use Rattle.work_directory.specs.Directory.{room_of}
use Rattle.loom_host.specs.Work.{work_of}
use Rattle.work_directory.specs.Slots.{slot_at}
use Rattle.work_directory.specs.Table.{entry_of}
use Rattle.work_space.proofs.BlockLaws.{some-inside}
use Rattle.disk_objects.specs.Calls.{changed_by}
use Rattle.disk_objects.specs.Disk.{DiskObject}
use Rattle.loom_host.proofs.WorkLaws.{work-same}
use Rattle.disk_objects.proofs.DiskLaws.{disk-recounted, changed-from}
use Rattle.disk_objects.proofs.FoundLaws.{stored-there}
use Rattle.disk_objects.proofs.rest.DiskRest.add_count.Goals as goal

pub find_held-requires : goal.find_held-requires
find_held-requires g c = record { stands = λ told. let s = c.requires.stands told in (s.0, s.1, s.2, subst IsSome (sym s.3.1) refl) }

pub set_at-requires-clause-there : goal.set_at-requires-clause-there
set_at-requires-clause-there g c =
    let h = g.H.Host in
    let held = c.in_ok-held.held in
    let end = c.in_ok-held.ensures.end in (
      held.slot,
      (end.0, λ told. subst (λ (w : List ℕ). slot_at w held.at ≡ held.slot) (sym (work-same h c.args.host.now c.find_held.new.host c.in_ok-held.ensures.read)) (end.1 told)),
    )

pub returns-clause-counted : goal.returns-clause-counted
returns-clause-counted g c told objects pending k o is =
    let h = g.H.Host in
    let rest = c.args.self.now in
    let v : List ℕ = work_of h c.args.host.now in
    let found = c.in_ok-held.ensures.found told in
    let e = entry_of c.in_ok-held.held.slot in
    let same = work-same h c.args.host.now c.find_held.new.host c.in_ok-held.ensures.read in
    let st = stored-there rest v objects pending k c.args.name e found in
    let count : c.in_ok-held.held.slot.count ≡ o.count = sym (ap (λ (x : DiskObject). x.count) (some-inside (sym is ∙ st.1)) ∙ st.2.count) in (
      c.in_ok-count.ensures.count ∙ ap (changed_by c.in_ok-held.held.slot.count) (to_z-of_z w64 c.args.change c.ranges.change) ∙ ap (λ (n : ℕ). changed_by n c.args.change) count,
      disk-recounted rest c.set_at.new.self v (work_of h c.set_at.new.host) objects pending c.args.name c.in_ok-count.count k e o found is
          (ap room_of c.in_ok-set_at.ensures.still)
          (changed-from rest.directory c.set_at.new.self (work_of h c.find_held.new.host) v (work_of h c.set_at.new.host) _ _ same (c.in_ok-set_at.ensures.set told)),
    )
