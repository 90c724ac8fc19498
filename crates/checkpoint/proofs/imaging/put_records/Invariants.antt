use Rattle.std.proofs.Common.{◌≡◌, ◌+◌, ◌*◌, ◌≤◌, ◌++◌, take, IsTrue}
use Rattle.std.specs.Prelude.{All}
use Rattle.std.specs.List.{flat_map}
use Rattle.long_names.specs.Heap.{Heap, Has}
use Rattle.long_names.specs.declared.limits.TheConstants.{LONGEST_RECORD}
use Rattle.loom_host.specs.Work.{IsWorkRead}
use Rattle.loom_host.specs.declared.outside.Role.TheVariants.{Work}
use Rattle.image_writer.specs.Inside.{IsHeapOf}
use Rattle.image_writer.specs.Puts.{name_text}
use Rattle.checkpoint.specs.Area.{len_of, text_of}
use Rattle.checkpoint.specs.Sparing.{IsApart, Spares}
use Rattle.checkpoint.specs.Vault.{contents_of}
use Rattle.checkpoint.proofs.imaging.put_records.Given as goal

abbrev pub invariant-loop-i : goal.invariant-loop-i
invariant-loop-i g l = record {
  read : IsWorkRead g.H.Host l.fn.disk.host.now l.disk.host.now;
  rest : l.disk.rest ≡ l.fn.disk.rest;
  same_host : l.disk.host.ghost_name ≡ l.fn.disk.host.ghost_name;
  text : (h : Heap) → (IsTrue (g.H.Host.tells Work) → IsHeapOf g.H.Host l.fn.disk.host.now l.fn.disk.rest h × All (Has h) l.names) → IsTrue g.V.Vault.tells → IsTrue (g.H.Host.tells Work)
      → text_of l.area (contents_of (g.V.Vault.state l.vault)) ≡ text_of l.fn.area (contents_of (g.V.Vault.state l.fn.vault)) ++ flat_map (name_text h) (take l.i l.names);
  least : len_of l.fn.area ≤ len_of l.area;
  most : len_of l.area ≤ len_of l.fn.area + l.i * LONGEST_RECORD;
  parity : l.area.parity ≡ l.fn.area.parity;
  spares : IsTrue g.V.Vault.tells → Spares (IsApart l.fn.area.parity) (g.V.Vault.state l.fn.vault) (g.V.Vault.state l.vault);
  calm : g.V.Vault.faults l.vault ≡ g.V.Vault.faults l.fn.vault;
}
