use Rattle.std.proofs.Common.{◌≡◌, ◌-◌, ◌≤◌, IsTrue}
use Rattle.loom_host.specs.declared.outside.Role.TheVariants.{Work, Transcript}
use Rattle.disk_objects.specs.Disk.{disk_room}
use Rattle.image_reader.specs.Loaded.{heap_on}
use Rattle.image_memory.specs.Image.{HasImage}
use Rattle.blue_model.specs.declared.limits.TheConstants.{LAST_SERIAL}
use Rattle.machine_run.specs.States.{model_state}
use Rattle.checkpoint.specs.History.{Keeps}
use Rattle.checkpoint.specs.Keeping.{IsLast, serial_of}
use Rattle.guarded_run.specs.Course.{guarded_course}
use Rattle.guarded_run.specs.Legs.{guarded_first}
use Rattle.loom_words.specs.Command.{row_for}
use Rattle.loom_run.specs.Meanings.{LeavesBut, meanings}
use Rattle.loom_run.specs.Stages.{Running, roles_at}
use Rattle.loom_run.specs.Steps.{IsSameFile}
use Rattle.loom_guard.specs.Legs.{FromDisk}
use Rattle.loom_guard.specs.Turns.{IsKeptImage}
use Rattle.loom_guard.proofs.guarded.run_legs.Given as goal

abbrev pub invariant-turns : goal.invariant-turns
invariant-turns g l = record {
  image : HasImage g.H.Host l.host l.disk l.image;
  room : l.command.room ≡ disk_room l.disk;
  few : l.cpu.ran ≤ l.command.steps;
  last : IsTrue g.V.Vault.tells → IsLast (g.V.Vault.state l.vault) l.kept;
  from : IsTrue (g.H.Host.tells Work) → FromDisk g.H.Host.tells (row_for l.command) l.first l.events (serial_of l.kept) l.cpu (g.H.Host.roles l.host Transcript).put l.image.state (heap_on g.H.Host l.host l.disk l.image.next)
      (meanings g.H.Host l.fn.host) (guarded_first (serial_of l.fn.last) (g.H.Host.roles l.fn.host Transcript).put (model_state l.fn.loaded.state) (heap_on g.H.Host l.fn.host l.fn.rest l.fn.loaded.next))
      (guarded_course l.events l.command.steps (serial_of l.fn.last) (model_state l.fn.loaded.state) (heap_on g.H.Host l.fn.host l.fn.rest l.fn.loaded.next));
  keeps : IsTrue g.V.Vault.tells → Keeps (g.V.Vault.state l.fn.vault) (g.V.Vault.state l.vault) (serial_of l.kept)
      (IsKeptImage (g.H.Host.tells Work) l.events l.command.steps (guarded_first (serial_of l.fn.last) (g.H.Host.roles l.fn.host Transcript).put (model_state l.fn.loaded.state) (heap_on g.H.Host l.fn.host l.fn.rest l.fn.loaded.next)));
  file : IsTrue (g.H.Host.tells Work) → IsSameFile (g.H.Host.roles l.fn.host Work) (g.H.Host.roles l.host Work);
  others : LeavesBut (roles_at Running) (meanings g.H.Host l.fn.host) (meanings g.H.Host l.host);
  calm : g.V.Vault.faults l.vault ≡ g.V.Vault.faults l.fn.vault;
}

abbrev pub decreases-turns : goal.decreases-turns
decreases-turns g l = LAST_SERIAL - serial_of l.kept
