use Rattle.std.proofs.Common.{◌≡◌, take, Ok, IsTrue}
use Rattle.std.specs.Prelude.{All}
use Rattle.std.specs.List.{flat_map}
use Rattle.long_names.specs.Heap.{Heap, Has}
use Rattle.loom_host.specs.declared.outside.Role.TheVariants.{Work}
use Rattle.image_writer.specs.Inside.{Gathers, IsHeapOf}
use Rattle.image_writer.specs.Puts.{name_text}
use Rattle.image_writer.proofs.saving.put_records.Given as goal

abbrev pub invariant-loop-i : goal.invariant-loop-i
invariant-loop-i g l = record {
  work : g.H.Host.roles l.disk.host.now Work ≡ g.H.Host.roles l.fn.disk.host.now Work;
  rest : l.disk.rest ≡ l.fn.disk.rest;
  same_host : l.disk.host.ghost_name ≡ l.fn.disk.host.ghost_name;
  gathers : (h : Heap) → (IsTrue (g.H.Host.tells Work) → IsHeapOf g.H.Host l.fn.disk.host.now l.fn.disk.rest h × All (Has h) l.names)
      → Gathers {T = Unit {0}} g.H.Host l.fn.disk.host.now l.disk.host.now l.fn.gathered l.gathered (flat_map (name_text h) (take l.i l.names)) (Ok tt);
}
