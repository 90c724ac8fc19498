use Rattle.std.proofs.Common.{◌*◌, length, ap, arith}
use Rattle.checkpoint.specs.Layout.{area_in}
use Rattle.checkpoint.specs.Vault.{contents_of}
use Rattle.checkpoint.specs.declared.layout.TheConstants.{BLOCK}
use Rattle.checkpoint.proofs.AreaLaws.{full-text, gathered-text}
use Rattle.checkpoint.proofs.SparesLaws.{spares-block}
use Rattle.checkpoint.proofs.SureLaws.{contents-written}
use Rattle.checkpoint.proofs.area.Area.put_piece.Goals as goal

pub returns-then-end-lt-BLOCK-clause-text : goal.returns-then-end-lt-BLOCK-clause-text
returns-then-end-lt-BLOCK-clause-text g c told =
    let a = c.args.self.now in
    gathered-text (area_in (contents_of (g.V.Vault.state c.args.vault.now)) a.parity (a.blocks * BLOCK)) a.block.items c.args.piece.now c.copy_into.new.block.items a.filled
    (omega (arith, a.whole, a.room, a.block.ok.0)) c.copy_into.ensures.items

pub returns-in_err-write-clause-spares : goal.returns-in_err-write-clause-spares
returns-in_err-write-clause-spares g c told =
    let a = c.args.self.now in
    spares-block a.parity a.blocks _ c.block_place-place.result c.deref.result.now _ _ a.which
    (omega (arith, a.whole, c.copy_into.ensures.len, c.copy_into.new.block.ok.0, ap length c.deref.ensures.value)) c.block_place-place.ensures (c.in_err-write.ensures.written told)

pub returns-clause-text : goal.returns-clause-text
returns-clause-text g c told =
    let a = c.args.self.now in
    full-text (contents_of (g.V.Vault.state c.write.new.vault)) (contents_of (g.V.Vault.state c.args.vault.now)) a.block.items c.args.piece.now c.copy_into.new.block.items c.deref.result.now
    a.parity a.blocks a.filled c.block_place-place.result (omega (arith, a.whole, a.room, a.block.ok.0)) (omega (arith, a.whole, c.copy_into.ensures.len, c.copy_into.new.block.ok.0))
    (omega (arith, c.requires.room, c.if-end-lt-BLOCK.false)) c.copy_into.ensures.items c.deref.ensures.value c.block_place-place.ensures (contents-written _ _ _ _ _ (c.in_ok-write.ensures.written told))

pub returns-clause-spares : goal.returns-clause-spares
returns-clause-spares g c told =
    let a = c.args.self.now in
    spares-block a.parity a.blocks _ c.block_place-place.result c.deref.result.now _ _ a.which
    (omega (arith, a.whole, c.copy_into.ensures.len, c.copy_into.new.block.ok.0, ap length c.deref.ensures.value)) c.block_place-place.ensures (c.in_ok-write.ensures.written told)
