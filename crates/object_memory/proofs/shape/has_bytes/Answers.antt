use Rattle.std.proofs.Common.{◌+◌, ◌≤◌}
use Rattle.long_names.specs.Objects.{bytes_of}
use Rattle.object_memory.proofs.ShapeLaws.{tests_part}
use Rattle.object_memory.proofs.shape.has_bytes.Goals as goal

pub returns-clause-bytes : goal.returns-clause-bytes
returns-clause-bytes g c = tests_part _ _ c.args.of bytes_of (λ n. c.args.at + c.args.count ≤ n) _ c.in-Some.len _ c.in_ok-len.ensures.bytes c.in-Some.is c.fits.ensures
