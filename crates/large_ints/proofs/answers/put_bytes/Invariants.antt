use Rattle.std.proofs.Common.{◌≡◌, length, get_or, Ok}
use Rattle.long_names.specs.Objects.{bytes_of}
use Rattle.object_memory.specs.Shape.{HasPartAt}
use Rattle.object_memory.specs.Calls.{IsFit}
use Rattle.blue_model.specs.declared.cpu.Cpu.{Cpu as Numbers}
use Rattle.blue_model.specs.Machine.{each, store_byte}
use Rattle.blue_model.specs.LargeInts.{fewest_bytes}
use Rattle.contexts.specs.Serves.{Serves}
use Rattle.large_ints.proofs.AnswerLaws.{IsLeft}
use Rattle.large_ints.proofs.answers.put_bytes.Given as goal

-- The turns before this one were served.
abbrev pub invariant-loop-rest : goal.invariant-loop-rest
invariant-loop-rest g l =
    let told = g.M.ObjectMemory.told in
    record {
      serves : (cpu : Numbers) → Serves (told l.fn.m) cpu (told l.m) cpu (each (λ k. store_byte ((told l.fn.m).regs 12) k (get_or (fewest_bytes l.fn.n) k 0)) l.i) (Ok tt);
      regs : (told l.m).regs ≡ (told l.fn.m).regs;
      there : HasPartAt (told l.m) 12 bytes_of (λ xs. length xs ≡ length (fewest_bytes l.fn.n));
      left : IsLeft l.fn.n l.i l.rest;
      fit : IsFit g.M.ObjectMemory l.m;
      lender : g.M.ObjectMemory.lender l.m ≡ g.M.ObjectMemory.lender l.fn.m;
      outside : g.M.ObjectMemory.outside l.m ≡ g.M.ObjectMemory.outside l.fn.m;
    }

abbrev pub decreases-loop-rest : goal.decreases-loop-rest
decreases-loop-rest g l = l.rest
