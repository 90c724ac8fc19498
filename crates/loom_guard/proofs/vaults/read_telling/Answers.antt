use Rattle.std.proofs.Common.{ℕ, ◌%◌, List, length, sym, ap, ◌∙◌, arith}
use Rattle.checkpoint.specs.Layout.{image_in}
use Rattle.checkpoint.specs.Vault.{contents_of}
use Rattle.checkpoint.proofs.LayoutLaws.{length-area_in}
use Rattle.loom_guard.proofs.TellingLaws.{tells-read, up_to}
use Rattle.loom_guard.proofs.vaults.read_telling.Goals as goal

pub returns-then-len-eq-FRONT-clause-tells : goal.returns-then-len-eq-FRONT-clause-tells
returns-then-len-eq-FRONT-clause-tells g c = λ told.
    let bytes = contents_of (g.V.Vault.state c.args.vault.now) in
    let first = c.in_ok-front.ensures.image told in
    tells-read c.args.room c.telling_len-len.result bytes c.args.point c.in_ok-front.front c.in_ok-front.front (omega (arith, c.requires.point)) c.telling_len-len.ensures.within.1 first
    (first ∙ ap (λ n. image_in bytes (up_to c.args.point n)) (sym c.if-len-eq-FRONT.true)) (rw c.bytes.ensures at c.are_bytes.ensures)
    (λ whole len begins range. c.telling_len-len.ensures.tells whole len (begins ∙ sym c.bytes-2.ensures) range)

pub returns-clause-tells : goal.returns-clause-tells
returns-clause-tells g c = λ told.
    let bytes = contents_of (g.V.Vault.state c.args.vault.now) in
    tells-read c.args.room c.telling_len-len.result bytes c.args.point c.in_ok-front.front c.in_ok-image.image (omega (arith, c.requires.point)) c.telling_len-len.ensures.within.1 (c.in_ok-front.ensures.image told)
    (rw c.in_ok-front.ensures.still at (c.in_ok-image.ensures.image told)) (rw c.bytes-3.ensures at c.are_bytes-2.ensures)
    (λ whole len begins range. c.telling_len-len.ensures.tells whole len (begins ∙ sym c.bytes-2.ensures) range)

pub returns-then-len-eq-FRONT-clause-most : goal.returns-then-len-eq-FRONT-clause-most
returns-then-len-eq-FRONT-clause-most g c = λ told.
    let long = ap (λ (i : List ℕ). length i) (c.in_ok-front.ensures.image told) ∙ length-area_in (contents_of (g.V.Vault.state c.args.vault.now)) (c.args.point.serial % 2) 36 in
    omega (arith, long)

pub returns-clause-most : goal.returns-clause-most
returns-clause-most g c = λ told.
    let long = ap (λ (i : List ℕ). length i) (c.in_ok-image.ensures.image told) ∙ length-area_in (contents_of (g.V.Vault.state c.read_image.new.vault)) (c.args.point.serial % 2) c.telling_len-len.result in
    omega (arith, long, c.telling_len-len.ensures.roomy)
