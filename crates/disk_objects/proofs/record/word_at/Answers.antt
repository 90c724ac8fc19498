use Rattle.std.proofs.Common.{sym, ◌∙◌, ap}
use Rattle.std.specs.Int.{w16, from_be_bytes}
use Rattle.object_record.specs.Buffer.{word_at}
use Rattle.object_record.proofs.Taken.{two-taken}
use Rattle.disk_objects.proofs.record.word_at.Goals as goal

pub returns : goal.returns
unfolding word_at
returns c = c.from_be_bytes.ensures ∙ ap (from_be_bytes w16) (sym (two-taken c.args.bytes.now c.args.at c.requires))
