use Rattle.std.proofs.Common.{◌≡◌, ◌-◌, [], ◌∷◌, ◌⊎◌, Option, Result}
use Rattle.long_names.specs.declared.value.Value.{Value}
use Rattle.object_memory.specs.Told.{Told}
use Rattle.blue_model.specs.declared.cpu.Cpu.{Cpu}
use Rattle.blue_model.specs.Lookup.{find_from, lookup}
use Rattle.contexts.specs.declared.stop.Stop.{Stop}
use Rattle.object_memory.specs.Calls.{IsFit}
use Rattle.send_lookup.specs.Path.{Passes, IsOnPath, Walks}
use Rattle.send_lookup.proofs.lookup.go_up.Given as goal

-- What walks the lookup from this class on walks the whole. This is the first class, or that one is on the path.
abbrev pub invariant-loop-turn : goal.invariant-loop-turn
invariant-loop-turn g l =
    let told = g.M.ObjectMemory.told in
    record {
      whole : (cpu : Cpu) (new : Told) (answer : Result (Option Value) Stop) → Walks (told l.m) cpu new (find_from (1024 - l._turn) ((told l.m).regs 23) ((told l.m).regs 20)) answer → Walks (told l.fn.m) cpu new (lookup ((told l.fn.m).regs 23) ((told l.fn.m).regs 20)) answer;
      passes : Passes (20 ∷ 21 ∷ 22 ∷ []) (told l.fn.m) (told l.m);
      first : ((told l.m).regs 20 ≡ (told l.fn.m).regs 20) ⊎ IsOnPath (told l.m) ((told l.fn.m).regs 20);
      fit : IsFit g.M.ObjectMemory l.m;
      lender : g.M.ObjectMemory.lender l.m ≡ g.M.ObjectMemory.lender l.fn.m;
      outside : g.M.ObjectMemory.outside l.m ≡ g.M.ObjectMemory.outside l.fn.m;
    }
