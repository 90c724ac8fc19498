use Rattle.std.proofs.Common.{ℕ, Some, ap, arith, refl}
use Rattle.loom_host.specs.declared.outside.Role.TheVariants.{Work, Transcript}
use Rattle.disk_objects.specs.Disk.{disk_room}
use Rattle.leaf_lambda.specs.Parts.{core_of}
use Rattle.loom_memory.specs.Memory.{loom_told}
use Rattle.loom_memory.specs.Residents.{is_resident, fetched}
use Rattle.loom_memory.proofs.FirstLaws.{empty-bodies, empty-marks, first-exact, first-heap, first-kept, first-over, first-ready, first-rows, first-slot, first-value}
use Rattle.loom_memory.proofs.DeadLaws.{thin-off}
use Rattle.loom_memory.proofs.memory.LoomMemory.joined.Goals as goal

pub returns-clause-first : goal.returns-clause-first
unfolding loom_told
returns-clause-first g c = record {
  regs = λ r. first-value (core_of c.args.tables.parts) r;
  slots = λ i. first-slot (core_of c.args.tables.parts) i;
  rows = λ k n m. first-rows (core_of c.args.tables.parts) _ 0 c.requires.empty.unused k n m;
  marks = λ n. empty-marks (core_of c.args.tables.parts) c.requires.empty.parts.core c.requires.empty.unused n;
  path = refl;
  refusals = refl;
  last = refl;
  bounds = ap (λ (n : ℕ). Some (record { core = c.args.core; entries = c.args.entries; room = disk_room c.args.disk.rest; base = Some n; made = 0; work_faults = g.H.Host.faults c.args.disk.host.now Work; said_faults = g.H.Host.faults c.args.disk.host.now Transcript })) c.len-held.ensures.value;
}

pub returns-clause-heap : goal.returns-clause-heap
unfolding loom_told
returns-clause-heap g c = λ told h x same. first-heap g.H.Host c.args.tables.parts c.args.core c.args.entries c.args.disk.host.now c.args.disk.rest h c.args.next x same c.requires.empty told

pub returns-clause-sound : goal.returns-clause-sound
returns-clause-sound g c = record {
  kept = first-kept c.args.tables.parts _ c.requires.empty refl;
  over = first-over g.H.Host c.args.tables.parts c.args.disk.host.now c.args.disk.rest _ c.requires.loaded c.requires.empty (ap Some c.len-held.ensures.value) refl c.len-held.ensures.value (let value = c.len-held.ensures.value in let most = c.len-held.ensures.most in omega (arith, value, most)) c.requires.even;
  soon = omega arith;
  exact = first-exact g.H.Host c.args.tables.parts c.args.core c.args.entries c.args.disk.host.now c.args.disk.rest c.args.next c.requires.loaded c.requires.empty;
  thin = thin-off g.H.Host _ refl;
}

pub returns-clause-ready : goal.returns-clause-ready
unfolding loom_told
returns-clause-ready g c = first-ready _ (λ r. first-value (core_of c.args.tables.parts) r) (λ i. first-slot (core_of c.args.tables.parts) i)
    (λ n. empty-marks (core_of c.args.tables.parts) c.requires.empty.parts.core c.requires.empty.unused n)
    (λ k n m. first-rows (core_of c.args.tables.parts) _ 0 c.requires.empty.unused k n m)
    (λ told. let x = c.requires.loaded told in (x.0, x.1.held, first-heap g.H.Host c.args.tables.parts c.args.core c.args.entries c.args.disk.host.now c.args.disk.rest x.0 c.args.next x.1 x.2 c.requires.empty told))

pub returns-clause-none : goal.returns-clause-none
unfolding is_resident fetched
returns-clause-none g c = (refl, λ k. empty-bodies (core_of c.args.tables.parts) c.requires.empty.parts.core c.requires.empty.unused k)
