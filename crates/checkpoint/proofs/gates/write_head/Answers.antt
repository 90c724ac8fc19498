use Rattle.std.proofs.Common.{ℕ, ◌%◌, List, length, refl, ap, arith}
use Rattle.checkpoint.proofs.GateLaws.{head-apart, head-image, head-written}
use Rattle.checkpoint.proofs.SparesLaws.{spares-written}
use Rattle.checkpoint.proofs.gates.write_head.Goals as goal

pub returns-clause-head : goal.returns-clause-head
returns-clause-head g c told =
    head-written _ _ _ _ c.args.point _ _ (c.write.ensures.written told) c.head.ensures refl (omega arith) (omega arith)

pub returns-clause-image : goal.returns-clause-image
returns-clause-image g c told n =
    head-image _ _ (c.args.point.serial % 2) n _ _ _ (c.write.ensures.written told) (omega arith) refl (ap (λ (l : List ℕ). length l) c.head.ensures)

pub returns-clause-spares : goal.returns-clause-spares
returns-clause-spares g c told =
    spares-written _ _ _ _ _ _ (head-apart (c.args.point.serial % 2) _ _ (omega arith) refl (ap (λ (l : List ℕ). length l) c.head.ensures))
    (c.write.ensures.written told)
