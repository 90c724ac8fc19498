use Rattle.std.proofs.Common.{◌≡◌, ◌-◌, length, drop, Result}
use Rattle.object_memory.specs.Told.{Told}
use Rattle.blue_model.specs.declared.cpu.Cpu.{Cpu}
use Rattle.blue_model.specs.Devices.{take_lines}
use Rattle.contexts.specs.declared.stop.Stop.{Stop}
use Rattle.contexts.specs.Serves.{Serves}
use Rattle.object_memory.specs.Calls.{IsFit}
use Rattle.devices.proofs.events.events_due.Given as goal

-- What serves the lines from this place on serves them all.
abbrev pub invariant-lines : goal.invariant-lines
invariant-lines g l =
    let told = g.M.ObjectMemory.told in
    record {
      whole : (new : Told) (now : Cpu) (answer : Result (Unit {0}) Stop) → Serves (told l.m) l.cpu new now (take_lines l.count (drop l.place l.events)) answer → Serves (told l.fn.m) l.fn.cpu new now (take_lines l.count (drop l.fn.cpu.line l.events)) answer;
      fit : IsFit g.M.ObjectMemory l.m;
      lender : g.M.ObjectMemory.lender l.m ≡ g.M.ObjectMemory.lender l.fn.m;
      outside : g.M.ObjectMemory.outside l.m ≡ g.M.ObjectMemory.outside l.fn.m;
    }

abbrev pub decreases-lines : goal.decreases-lines
decreases-lines g l = length l.events - l.place
