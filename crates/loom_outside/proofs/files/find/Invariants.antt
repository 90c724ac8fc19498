use Rattle.std.proofs.Common.{◌≡◌, ◌<◌, IfSome, length, take}
use Rattle.loom_outside.specs.Files.{names, newest}
use Rattle.loom_outside.proofs.files.find.Given as goal

-- the last among those that were seen
abbrev pub invariant-loop-place : goal.invariant-loop-place
invariant-loop-place l = record {
  newest : l.found ≡ newest (names (take l.place l.files)) l.name;
  bound : IfSome l.found (λ place. place < length l.files);
}
