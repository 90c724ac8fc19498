use Rattle.std.proofs.Common.{◌≡◌, ◌-◌, Result}
use Rattle.long_names.specs.declared.value.Value.{Value}
use Rattle.object_memory.specs.Told.{Told}
use Rattle.blue_model.specs.declared.cpu.Cpu.{Cpu}
use Rattle.blue_model.specs.Processes.{wake_among}
use Rattle.contexts.specs.declared.stop.Stop.{Stop}
use Rattle.contexts.specs.Serves.{Serves}
use Rattle.object_memory.specs.Calls.{IsFit}
use Rattle.process_sched.proofs.scheduler.wake_among.Given as goal

-- What serves the rule over the lists that are left serves the whole.
abbrev pub invariant-loop-turn : goal.invariant-loop-turn
invariant-loop-turn g l =
    let told = g.M.ObjectMemory.told in
    record {
      whole : (cpu : Cpu) (new : Told) (answer : Result Value Stop) → Serves (told l.m) cpu new cpu (wake_among (l.fn.count - l.turn) ((told l.m).regs 15)) answer → Serves (told l.fn.m) cpu new cpu (wake_among l.fn.count ((told l.fn.m).regs 15)) answer;
      fit : IsFit g.M.ObjectMemory l.m;
      lender : g.M.ObjectMemory.lender l.m ≡ g.M.ObjectMemory.lender l.fn.m;
      outside : g.M.ObjectMemory.outside l.m ≡ g.M.ObjectMemory.outside l.fn.m;
    }
