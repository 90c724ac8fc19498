use Rattle.std.proofs.Common.{rules, ℕ, ℤ, List, Some, w64, SFits, sym, subst, ◌≡◌}
use Rattle.std.proofs.lemmas.Int.{to_z-of_z}
use Rattle.std.specs.FinMap as map
use Rattle.loom_host.specs.Work.{work_of}
use Rattle.disk_objects.specs.Disk.{DiskObject, Objects, IsDisk}
use Rattle.disk_objects.specs.Calls.{CanChange, changed_by}
use Rattle.delta_counts.proofs.FoldLaws.{can-entry, is-entry}
use Rattle.delta_counts.proofs.folding.fold.Goals as goal

pub used_entry-e-requires : goal.used_entry-e-requires
used_entry-e-requires g c = c.requires.used

pub add_count-requires : goal.add_count-requires
add_count-requires g c =
    let fits : SFits w64 c.used_entry-e.result.change = search rules in
    record {
      stands = λ told. subst (λ (z : ℤ). (objects : Objects) × (pending : List ℕ) × IsDisk c.args.disk.now.rest (work_of g.H.Host c.args.disk.now.host.now) objects pending × CanChange c.used_entry-e.result.name z objects pending)
          (sym (to_z-of_z w64 c.used_entry-e.result.change fits))
          (can-entry g.H.Host c.args.p.now c.args.disk.now.host.now c.args.disk.now.rest c.args.s.0 c.used_entry-e.result c.used_entry-e.ensures (c.requires.can told));
    }

pub returns-clause-folded : goal.returns-clause-folded
returns-clause-folded g c told chunks t at can =
    let fits : SFits w64 c.used_entry-e.result.change = search rules in
    is-entry g.H.Host chunks c.args.p.now c.set_change.new.p c.args.disk.now.host.now c.add_count.new.self.host.now c.args.disk.now.rest c.add_count.new.self.rest t c.args.s.0 c.in_ok-count.count c.used_entry-e.result c.used_entry-e.ensures at can
    (c.set_change.ensures.core chunks)
    (subst (λ (z : ℤ). (o : DiskObject) → map.get at.disk.objects c.used_entry-e.result.name ≡ Some o → (c.in_ok-count.count ≡ changed_by o.count z) × IsDisk c.add_count.new.self.rest (work_of g.H.Host c.add_count.new.self.host.now) (map.insert at.disk.objects c.used_entry-e.result.name (record { raw = o.raw; count = c.in_ok-count.count })) t.pending)
    (to_z-of_z w64 c.used_entry-e.result.change fits) (λ o is. c.in_ok-count.ensures.counted told at.disk.objects t.pending at.disk.disk o is))
