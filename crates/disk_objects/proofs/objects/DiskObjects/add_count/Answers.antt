use Rattle.std.proofs.Common.{◌≡◌, ℤ, sym, subst, IfOk}
use Rattle.std.specs.FinMap as map
use Rattle.std.specs.Int.{w64}
use Rattle.std.proofs.lemmas.Int.{to_z-of_z}
use Rattle.loom_host.specs.Work.{work_of}
use Rattle.disk_objects.specs.Calls.{HoldsSuch, CanChange, changed_by}
use Rattle.disk_objects.specs.Disk.{IsDisk}
use Rattle.disk_objects.proofs.FunctionLaws.{changed-if}
use Rattle.disk_objects.proofs.objects.DiskObjects.add_count.Goals as goal

pub add_count-requires : goal.add_count-requires
add_count-requires g c = record {
  stands = subst (λ (z : ℤ). HoldsSuch g.H.Host c.args.self.now.host.now c.args.self.now.rest (CanChange c.args.name z))
      (sym (to_z-of_z w64 c.args.change c.ranges.change)) c.requires.stands;
}

pub returns-clause-counted : goal.returns-clause-counted
returns-clause-counted g c told objects pending k o is =
    subst (λ (z : ℤ). IfOk c.add_count.result (λ count. (count ≡ changed_by o.count z)
    × IsDisk c.add_count.new.self (work_of g.H.Host c.add_count.new.host) (map.insert objects c.args.name (record { raw = o.raw; count = count })) pending))
    (to_z-of_z w64 c.args.change c.ranges.change) (c.add_count.ensures.counted told objects pending k o is)

pub returns-clause-changed : goal.returns-clause-changed
returns-clause-changed g c told =
    let s = c.requires.stands told in
    changed-if g.H.Host c.args.self.now.host.now c.add_count.new.host c.args.self.now.rest c.add_count.new.self s.0 s.1 s.2 c.add_count.result c.args.name c.args.change s.3.0 s.3.1
    (subst (λ (z : ℤ). IfOk c.add_count.result (λ count. (count ≡ changed_by s.3.0.count z)
    × IsDisk c.add_count.new.self (work_of g.H.Host c.add_count.new.host) (map.insert s.0 c.args.name (record { raw = s.3.0.raw; count = count })) s.1))
    (to_z-of_z w64 c.args.change c.ranges.change) (c.add_count.ensures.counted told s.0 s.1 s.2 s.3.0 s.3.1))
