use Rattle.std.proofs.Common.{◌≡◌, ◌++◌, take}
use Rattle.event_file.specs.Reading.{begun_text}
use Rattle.event_file.proofs.read.Reading.take_all.Given as goal

abbrev pub invariant-loop-byte : goal.invariant-loop-byte
invariant-loop-byte l = begun_text l.self ≡ begun_text l.initial.self ++ take l.byte-index l.bytes
