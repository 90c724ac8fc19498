use Rattle.std.proofs.Common.{◌≡◌, length, drop, take, length-drop, length-take, refl, ◌∙◌, ap, arith}
use Rattle.object_record.specs.Buffer.{raw_of}
use Rattle.checkpoint.specs.Area.{text_of}
use Rattle.checkpoint.specs.Vault.{contents_of}
use Rattle.checkpoint.proofs.AreaLaws.{on_ok_gives}
use Rattle.checkpoint.proofs.ImagingLaws.{counted-fits, counted-text}
use Rattle.checkpoint.proofs.SparesLaws.{apart-then}
use Rattle.checkpoint.proofs.imaging.put_counted.Goals as goal

pub split_at-requires : goal.split_at-requires
split_at-requires g c = (counted-fits (raw_of c.args.buf.now) c.bytes-bytes.result.now c.requires.record.is c.bytes-bytes.ensures).0

pub returns-in_err-put-2-clause-spares : goal.returns-in_err-put-2-clause-spares
returns-in_err-put-2-clause-spares g c told = apart-then _ _ _ _ _ c.in_ok-put.ensures.parity (c.in_ok-put.ensures.spares told) (c.in_err-put-2.ensures.spares told)

pub put-requires-3 : goal.put-requires-3
put-requires-3 g c =
    let fits = counted-fits (raw_of c.args.buf.now) c.bytes-bytes.result.now c.requires.record.is c.bytes-bytes.ensures in
    let tail : c.split_at.result.1.now ≡ drop 16 c.bytes-bytes.result.now = search in
    record {
      fits = omega (arith, fits.0, fits.1, c.requires.fits, c.in_ok-put.ensures.len, c.in_ok-put-2.ensures.len, ap length tail, length-drop 16 c.bytes-bytes.result.now, length-take 8 c.bytes-bytes.result.now);
    }

pub returns-clause-text : goal.returns-clause-text
returns-clause-text g c told =
    let tail : c.split_at.result.1.now ≡ drop 16 c.bytes-bytes.result.now = search in
    on_ok_gives c.put-3.result (counted-text (raw_of c.args.buf.now) c.bytes-bytes.result.now (take 8 c.bytes-bytes.result.now) c.bytes_of_u64.result c.split_at.result.1.now
    (text_of c.args.area.now (contents_of (g.V.Vault.state c.args.vault.now))) _ _ _ c.args.count c.bytes-bytes.ensures refl c.bytes_of_u64.ensures tail
    (c.in_ok-put.ensures.text told) (c.in_ok-put-2.ensures.text told)) (c.put-3.ensures.text told)

pub returns-clause-most : goal.returns-clause-most
returns-clause-most g c =
    let fits = counted-fits (raw_of c.args.buf.now) c.bytes-bytes.result.now c.requires.record.is c.bytes-bytes.ensures in
    let tail : c.split_at.result.1.now ≡ drop 16 c.bytes-bytes.result.now = search in
    on_ok_gives c.put-3.result (λ more. omega (arith, more, fits.0, fits.1, c.in_ok-put.ensures.len, c.in_ok-put-2.ensures.len, ap length tail, length-drop 16 c.bytes-bytes.result.now, length-take 8 c.bytes-bytes.result.now))
    c.put-3.ensures.len

pub returns-clause-spares : goal.returns-clause-spares
returns-clause-spares g c told =
    apart-then _ _ _ _ _ (c.in_ok-put-2.ensures.parity ∙ c.in_ok-put.ensures.parity)
    (apart-then _ _ _ _ _ c.in_ok-put.ensures.parity (c.in_ok-put.ensures.spares told) (c.in_ok-put-2.ensures.spares told)) (c.put-3.ensures.spares told)
