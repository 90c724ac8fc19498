use Rattle.std.proofs.Common.{ℕ, ◌∙◌, ◌-◌, ◌++◌, ap, length, replicate}
use Rattle.loom_host.proofs.Copies.{overwritten-pasted}
use Rattle.loom_host.proofs.bytes.write_bytes_at.Goals as goal

pub returns-clause-ok : goal.returns-clause-ok
returns-clause-ok c =
    let padded = c.in_ok-pad.ensures.ok ∙ ap (λ (end : ℕ). c.args.bytes.now.items ++ replicate (end - length c.args.bytes.now.items) 0) c.in-Some.ensures.1 in
    c.overwrite.ensures.bytes ∙ overwritten-pasted c.args.bytes.now.items c.pad.new.bytes.items c.args.place c.args.piece.now padded
