use Rattle.std.proofs.Common.{ℕ, ◌++◌, ap, ◌∙◌}
use Rattle.std.proofs.lemmas.Result.{err_from_is_err_and}
use Rattle.std.specs.List.{flat_map}
use Rattle.disk_objects.specs.Disk.{disk_held}
use Rattle.image_format.specs.Heads.{opening_text, state_text}
use Rattle.image_writer.specs.Inside.{opening_of}
use Rattle.image_writer.specs.Puts.{name_text}
use Rattle.checkpoint.specs.Area.{len_of, text_of}
use Rattle.checkpoint.specs.Vault.{contents_of}
use Rattle.checkpoint.proofs.ImagingLaws.{image-text, kept-later, read-still}
use Rattle.checkpoint.proofs.SparesLaws.{apart-then}
use Rattle.checkpoint.proofs.imaging.write_image.Goals as goal

pub returns-in_err-put_records-clause-spares : goal.returns-in_err-put_records-clause-spares
returns-in_err-put_records-clause-spares g c told =
    apart-then _ _ _ _ _ c.in_ok-put_head.ensures.parity (c.in_ok-put_head.ensures.spares told) (c.in_err-put_records.ensures.spares told)

pub returns-in_err-put_records-clause-fault : goal.returns-in_err-put_records-clause-fault
returns-in_err-put_records-clause-fault g c = λ h p.
    let e = err_from_is_err_and c.from_residual-in_err-put_records.result c.from_residual-in_err-put_records.ensures.1 in
    rw (e.1, e.2) (kept-later g.H.Host c.args.disk.now.host.now c.args.disk.now.host.now c.put_records.new.disk.host.now (g.V.Vault.faults c.args.vault.now) (g.V.Vault.faults c.put_head.new.vault) _ _
    (read-still g.H.Host c.args.disk.now.host.now) c.in_ok-put_head.ensures.calm (c.in_err-put_records.ensures.fault h p))

pub returns-in_err-finish-clause-spares : goal.returns-in_err-finish-clause-spares
returns-in_err-finish-clause-spares g c told =
    apart-then _ _ _ _ _ (c.in_ok-put_records.ensures.parity ∙ c.in_ok-put_head.ensures.parity)
    (apart-then _ _ _ _ _ c.in_ok-put_head.ensures.parity (c.in_ok-put_head.ensures.spares told) (c.in_ok-put_records.ensures.spares told)) (c.in_err-finish.ensures.spares told)

pub returns-clause-text : goal.returns-clause-text
returns-clause-text g c = λ h p told work.
    let head = λ (n : ℕ). opening_text (opening_of n c.args.next) ++ state_text c.args.kept.now in
    image-text c.args.area.now c.args.area.now.parity c.put_records.new.area.parity c.len-3.result (len_of c.put_records.new.area)
    (contents_of (g.V.Vault.state c.args.vault.now)) (contents_of (g.V.Vault.state c.finish.new.vault)) (text_of c.put_records.new.area (contents_of (g.V.Vault.state c.put_records.new.vault)))
    (text_of c.put_head.new.area (contents_of (g.V.Vault.state c.put_head.new.vault))) (head c.len-2.result) (head (disk_held c.args.disk.now.rest)) (flat_map (name_text h) c.args.names.now)
    c.requires.begun (c.in_ok-put_records.ensures.parity ∙ c.in_ok-put_head.ensures.parity) c.len-3.ensures (ap head c.len-2.ensures.value)
    (c.in_ok-put_head.ensures.text told) (c.in_ok-put_records.ensures.text h p told work) (c.in_ok-finish.ensures.text told)

pub returns-clause-spares : goal.returns-clause-spares
returns-clause-spares g c told =
    apart-then _ _ _ _ _ (c.in_ok-put_records.ensures.parity ∙ c.in_ok-put_head.ensures.parity)
    (apart-then _ _ _ _ _ c.in_ok-put_head.ensures.parity (c.in_ok-put_head.ensures.spares told) (c.in_ok-put_records.ensures.spares told)) (c.in_ok-finish.ensures.spares told)
