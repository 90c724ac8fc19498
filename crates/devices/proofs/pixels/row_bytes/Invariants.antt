use Rattle.std.proofs.Common.{◌≡◌, length, map, take}
use Rattle.std.specs.List.{range_with_len}
use Rattle.blue_model.specs.Forms.{row_byte}
use Rattle.devices.proofs.pixels.row_bytes.Given as goal

abbrev pub invariant-bytes : goal.invariant-bytes
invariant-bytes l = record {
  bytes : take l.j l.out ≡ map (row_byte l.width l.words 0) (range_with_len 0 l.j);
  length : length l.out ≡ length l.initial.out;
}
