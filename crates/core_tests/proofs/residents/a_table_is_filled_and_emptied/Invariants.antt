use Rattle.std.proofs.Common.{◌≡◌, ◌≤◌}
use Rattle.resident_table.specs.Resident.{held_of, room_of}
use Rattle.core_tests.proofs.residents.a_table_is_filled_and_emptied.Given as goal

abbrev pub invariant-loop-k : goal.invariant-loop-k
invariant-loop-k g l = record { held : held_of l.resident ≤ l.k; room : room_of l.resident ≡ 100 }
