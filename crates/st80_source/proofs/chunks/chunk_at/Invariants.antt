use Rattle.std.proofs.Common.{◌≡◌, ◌-◌, ◌++◌, length, map, take, slice_index}
use Rattle.st80_source.specs.Chunks.{doubled}
use Rattle.st80_source.proofs.chunks.chunk_at.Given as goal

abbrev pub invariant-each : goal.invariant-each
invariant-each l = (take l.at l.text ≡ take l.from l.text ++ doubled l.bytes.items) × (map (slice_index l.text) l.places.items ≡ l.bytes.items)

abbrev pub decreases-each : goal.decreases-each
decreases-each l = length l.text - l.at
