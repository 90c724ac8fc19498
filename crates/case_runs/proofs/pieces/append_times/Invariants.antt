use Rattle.std.proofs.Common.{◌≡◌, ◌*◌, ◌+◌, length}
use Rattle.case_runs.proofs.pieces.append_times.Given as goal

abbrev pub invariant-loop : goal.invariant-loop
invariant-loop l = length l.bytes.items ≡ length l.initial.bytes.items + l.counter * length l.piece
