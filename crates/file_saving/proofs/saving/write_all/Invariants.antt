use Rattle.std.proofs.Common.{◌-◌, ◌≤◌, ◌++◌, List, ℕ, IsTrue, length, take, string_bytes}
use Rattle.file_saving.specs.Saving.{IsUnfinished, KeepsName}
use Rattle.file_saving.proofs.saving.write_all.Given as goal

abbrev pub invariant-loop-done : goal.invariant-loop-done
invariant-loop-done g l = record {
  within : l.done ≤ length l.buf;
  keeps : IsTrue g.S.System.tells → (bytes : List ℕ) → IsUnfinished (g.S.System.entry (string_bytes l.saving.part)) l.saving.descriptor l.saving.file bytes (g.S.System.moments l.initial.system).now
      → KeepsName (g.S.System.entry (string_bytes l.saving.path)) (g.S.System.moments l.initial.system) (g.S.System.moments l.system);
  put : IsTrue g.S.System.tells → (bytes : List ℕ) → IsUnfinished (g.S.System.entry (string_bytes l.saving.part)) l.saving.descriptor l.saving.file bytes (g.S.System.moments l.initial.system).now
      → IsUnfinished (g.S.System.entry (string_bytes l.saving.part)) l.saving.descriptor l.saving.file (bytes ++ take l.done l.buf) (g.S.System.moments l.system).now;
}

abbrev pub decreases-loop-done : goal.decreases-loop-done
decreases-loop-done g l = length l.buf - l.done
