use Rattle.std.proofs.Common.{length, ◌∙◌}
use Rattle.loom_host.proofs.Copies.{window-copied}
use Rattle.loom_host.proofs.bytes.read_bytes_at.Goals as goal

pub returns : goal.returns
returns c = c.copy_window.ensures ∙ window-copied c.args.bytes.now c.args.place (length c.args.buf.now)
