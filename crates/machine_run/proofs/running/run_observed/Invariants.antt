use Rattle.std.proofs.Common.{◌≡◌, ◌+◌, ◌<◌, IsTrue}
use Rattle.object_memory.specs.Contract.{IsLater}
use Rattle.blue_model.specs.declared.step.Step.TheVariants.{Next}
use Rattle.blue_model.specs.Machine.{Machine}
use Rattle.contexts.specs.Serves.{Stands, HasRest}
use Rattle.machine_run.specs.Run.{Reaches, IsSettled}
use Rattle.object_memory.specs.Calls.{IsFit}
use Rattle.machine_run.proofs.running.run_observed.Given as goal

-- The memory stands for the machine after so many cycles, all of them counted.
abbrev pub invariant-loop-turn : goal.invariant-loop-turn
invariant-loop-turn g l =
    let told = g.M.ObjectMemory.told in
    record {
      runs : IsTrue (told l.fn.m).tells → (m : Machine) → Stands (told l.fn.m) l.fn.cpu m → Reaches l.fn.events (told l.m) l.cpu Next l.turn m;
      ran : l.cpu.ran ≡ l.fn.cpu.ran + l.turn;
      first : l.turn ≡ 0 → told l.m ≡ told l.fn.m;
      settled : 0 < l.turn → IsSettled (told l.m);
      vault : IsTrue l.cpu.vault → IsTrue l.fn.cpu.vault;
      later : IsLater (told l.fn.m) (told l.m);
      rest : HasRest (told l.m);
      fit : IsFit g.M.ObjectMemory l.m;
      lender : g.M.ObjectMemory.lender l.m ≡ g.M.ObjectMemory.lender l.fn.m;
      outside : g.M.ObjectMemory.outside l.m ≡ g.M.ObjectMemory.outside l.fn.m;
    }
