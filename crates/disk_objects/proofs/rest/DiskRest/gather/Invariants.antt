use Rattle.std.proofs.Common.{◌≡◌, ℕ, IsTrue}
use Rattle.loom_host.specs.declared.outside.Role.TheVariants.{Work}
use Rattle.work_directory.specs.Directory.{first_slot, shown_at}
use Rattle.work_directory.specs.Pieces.{IsPieceOf}
use Rattle.loom_host.specs.Work.{IsWorkRead, work_of}
use Rattle.disk_objects.specs.Inside.{is_noted}
use Rattle.disk_objects.specs.Names.{seen}
use Rattle.disk_objects.proofs.rest.DiskRest.gather.Given as goal

-- the names of the blocks so far
abbrev pub invariant-loop-block : goal.invariant-loop-block
invariant-loop-block g l = record {
  read : IsWorkRead g.H.Host l.fn.host l.host;
  noted : IsTrue (g.H.Host.tells Work) → (q : ℕ) → is_noted l.names.items q ≡ seen (shown_at (work_of g.H.Host l.fn.host)) q (first_slot l.self.directory l.block);
  piece : IsTrue (g.H.Host.tells Work) → IsPieceOf (work_of g.H.Host l.fn.host) l.piece;
}
