use Rattle.std.proofs.Common.{◌≡◌, take, Ok, IsTrue}
use Rattle.std.specs.Prelude.{All}
use Rattle.std.specs.List.{flat_map}
use Rattle.long_names.specs.Heap.{Heap, Has}
use Rattle.loom_host.specs.declared.outside.Role.TheVariants.{Work}
use Rattle.disk_objects.specs.Function.{disk_of}
use Rattle.image_writer.specs.Inside.{Gathers}
use Rattle.text_lines.specs.Spelling.{name_line}
use Rattle.image_text.proofs.listing.put_objects.Given as goal

abbrev pub invariant-loop-i : goal.invariant-loop-i
invariant-loop-i g l = record {
  work : g.H.Host.roles l.disk.host.now Work ≡ g.H.Host.roles l.fn.disk.host.now Work;
  rest : l.disk.rest ≡ l.fn.disk.rest;
  same_host : l.disk.host.ghost_name ≡ l.fn.disk.host.ghost_name;
  gathers : (h : Heap) → (IsTrue (g.H.Host.tells Work) → (h.at ≡ disk_of g.H.Host l.fn.disk.host.now l.fn.disk.rest) × All (Has h) l.names)
      → Gathers {T = Unit {0}} g.H.Host l.fn.disk.host.now l.disk.host.now l.fn.gathered l.gathered (flat_map (name_line h) (take l.i l.names)) (Ok tt);
}
