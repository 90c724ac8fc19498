use Rattle.std.proofs.Common.{refl, sym, ap, ◌∙◌}
use Rattle.checkpoint.specs.Layout.{is_bad, point_of}
use Rattle.checkpoint.proofs.LayoutLaws.{gate-read}
use Rattle.checkpoint.proofs.recovering.read_point.Goals as goal

pub returns-then-is_bad-clause-fault : goal.returns-then-is_bad-clause-fault
returns-then-is_bad-clause-fault g c = (
  c.in_ok-read.ensures.calm,
  refl,
  λ told. ap (is_bad c.args.parity) (sym (c.new-gate.ensures ∙ gate-read _ _ _ (c.in_ok-read.ensures.bytes told))) ∙ sym c.is_bad.ensures ∙ c.if-is_bad.true,
)

pub returns-clause-point : goal.returns-clause-point
returns-clause-point g c told = c.point.ensures ∙ ap point_of (c.new-gate.ensures ∙ gate-read _ _ _ (c.in_ok-read.ensures.bytes told))

pub returns-clause-whole : goal.returns-clause-whole
returns-clause-whole g c told =
    ap (is_bad c.args.parity) (sym (c.new-gate.ensures ∙ gate-read _ _ _ (c.in_ok-read.ensures.bytes told))) ∙ sym c.is_bad.ensures ∙ c.if-is_bad.false
