use Rattle.std.proofs.Common.{◌≡◌, ◌++◌, ℕ, List, OnOk, subst}
use Rattle.image_writer.proofs.DiskFacts.{held_text}
use Rattle.checkpoint.specs.Area.{text_of}
use Rattle.checkpoint.specs.Vault.{contents_of}
use Rattle.checkpoint.proofs.imaging.put_record.Goals as goal

pub returns-clause-text : goal.returns-clause-text
returns-clause-text g c = λ h p told work.
    subst (λ (t : List ℕ). OnOk c.put_counted.result (text_of c.put_counted.new.area (contents_of (g.V.Vault.state c.put_counted.new.vault)) ≡ text_of c.args.area.now (contents_of (g.V.Vault.state c.args.vault.now)) ++ t))
    (held_text g.H.Host c.args.disk.now.host.now c.args.disk.now.rest h c.args.name c.get_counted.new.buf c.in_ok-count.field-0 c.in-Some.count (p work).0 (p work).1
    (c.in_ok-count.ensures.counted work) c.in-Some.is (c.in_ok-count.ensures.found work) c.in_ok-count.ensures.record)
    (c.put_counted.ensures.text told)
