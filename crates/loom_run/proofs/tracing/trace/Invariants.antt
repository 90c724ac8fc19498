use Rattle.std.proofs.Common.{◌≡◌, ◌+◌, ◌<◌, ◌≤◌, IsTrue}
use Rattle.loom_host.specs.Outside.{SameBut, puts}
use Rattle.loom_host.specs.declared.outside.Role.TheVariants.{Saved, Work}
use Rattle.object_memory.specs.Contract.{IsLater}
use Rattle.object_memory.specs.Fit.{MayCall}
use Rattle.blue_model.specs.declared.step.Step.TheVariants.{Next}
use Rattle.blue_model.specs.Machine.{Machine}
use Rattle.contexts.specs.Serves.{HasRest, Stands}
use Rattle.loom_memory.specs.Memory.{IsSound, loom_lender, loom_outside, loom_told}
use Rattle.machine_run.specs.Run.{IsSettled, Reaches}
use Rattle.loom_run.specs.Traces.{OnlyPut, trace_of}
use Rattle.loom_run.proofs.tracing.trace.Given as goal

-- The memory stands for the machine after so many cycles, all of them counted, and their lines were put.
abbrev pub invariant-loop-turn : goal.invariant-loop-turn
invariant-loop-turn g l =
    let host = g.H.Host in
    let told = loom_told host in
    record {
      runs : IsTrue (host.tells Work) → (m : Machine) → Stands (told l.fn.m) l.fn.cpu m → Reaches l.fn.events (told l.m) l.cpu Next l.turn m;
      lines : IsTrue (host.tells Work) → IsTrue (host.tells Saved) → (m : Machine) → Stands (told l.fn.m) l.fn.cpu m → (loom_outside host l.m Saved).role ≡ puts (trace_of l.fn.events l.turn m) (loom_outside host l.fn.m Saved).role;
      ran : l.cpu.ran ≡ l.fn.cpu.ran + l.turn;
      first : l.turn ≡ 0 → told l.m ≡ told l.fn.m;
      settled : 0 < l.turn → IsSettled (told l.m);
      vault : IsTrue l.cpu.vault → IsTrue l.fn.cpu.vault;
      later : IsLater (told l.fn.m) (told l.m);
      rest : HasRest (told l.m);
      fit : MayCall (IsSound host) told l.m;
      lender : loom_lender l.m ≡ loom_lender l.fn.m;
      others : SameBut Saved (loom_outside host l.fn.m) (loom_outside host l.m);
      faults : (loom_outside host l.fn.m Saved).faults ≤ (loom_outside host l.m Saved).faults;
      only : IsTrue (host.tells Saved) → OnlyPut (loom_outside host l.fn.m Saved).role (loom_outside host l.m Saved).role;
    }
