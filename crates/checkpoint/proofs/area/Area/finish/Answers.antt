use Rattle.std.proofs.Common.{ap, length-take, take, arith}
use Rattle.checkpoint.specs.Vault.{contents_of}
use Rattle.checkpoint.proofs.AreaLaws.{finished-text, on_ok_gives}
use Rattle.checkpoint.proofs.SparesLaws.{spares-block}
use Rattle.checkpoint.proofs.SureLaws.{contents-written}
use Rattle.checkpoint.proofs.area.Area.finish.Goals as goal

pub returns-clause-text : goal.returns-clause-text
returns-clause-text g c told =
    let a = c.args.self.now in
    on_ok_gives c.write.result (finished-text (contents_of (g.V.Vault.state c.write.new.vault)) (contents_of (g.V.Vault.state c.args.vault.now)) a.block.items (take a.filled c.deref.result.now) a.parity a.blocks a.filled c.block_place-place.result
    (omega (arith, a.whole, a.room, a.block.ok.0)) (omega (arith, a.whole, a.block.ok.0)) (ap (take a.filled) c.deref.ensures.value) c.block_place-place.ensures)
    (contents-written _ _ _ _ _ (c.write.ensures.written told))

pub returns-clause-spares : goal.returns-clause-spares
returns-clause-spares g c told =
    let a = c.args.self.now in
    spares-block a.parity a.blocks _ c.block_place-place.result _ _ _ a.which (omega (arith, a.room, length-take a.filled c.deref.result.now)) c.block_place-place.ensures (c.write.ensures.written told)
