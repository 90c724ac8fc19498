use Rattle.std.proofs.Common.{sym, ◌∙◌, ap}
use Rattle.std.specs.Int.{w32, from_be_bytes}
use Rattle.object_record.specs.Buffer.{long_at}
use Rattle.object_record.proofs.Taken.{four-taken}
use Rattle.disk_objects.proofs.record.long_at.Goals as goal

pub returns : goal.returns
unfolding long_at
returns c = c.from_be_bytes.ensures ∙ ap (from_be_bytes w32) (sym (four-taken c.args.bytes.now c.args.at c.requires))
