use Rattle.std.proofs.Common.{sym}
use Rattle.loom_outside.proofs.PreciousLaws.{first-none, first-some, if-none}
use Rattle.loom_outside.proofs.precious.first_line.Goals as goal

pub returns-in_err-end-clause-none : goal.returns-in_err-end-clause-none
returns-in_err-end-clause-none c = if-none c.from_residual.result (first-none c.args.bytes.now (sym c.in_err-end.ensures.at))

pub returns-clause-some : goal.returns-clause-some
returns-clause-some c = first-some c.args.bytes.now c.in_ok-end.end (sym c.in_ok-end.ensures.at)
