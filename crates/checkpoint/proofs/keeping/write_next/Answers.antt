use Rattle.std.proofs.Common.{◌≡◌, ℕ, ◌+◌, ◌%◌, IsTrue, refl, ap, ◌∙◌}
use Rattle.std.proofs.lemmas.Result.{err_from_is_err_and}
use Rattle.loom_host.specs.declared.outside.Role.TheVariants.{Work}
use Rattle.disk_objects.specs.Disk.{disk_held}
use Rattle.checkpoint.specs.Inside.{image_text}
use Rattle.checkpoint.specs.Keeping.{serial_of}
use Rattle.checkpoint.proofs.ImagingLaws.{kept-later, read-still}
use Rattle.checkpoint.proofs.KeepLaws.{all-last, all-stops, all-text, closing-stops, failed-leaves, leaves-last, still-stops, written-stops}
use Rattle.checkpoint.proofs.keeping.write_next.Goals as goal

pub returns-in_err-area-clause-stops : goal.returns-in_err-area-clause-stops
returns-in_err-area-clause-stops g c h named told =
    still-stops (g.V.Vault.state c.args.vault.now) c.args.last (c.requires.last told) (serial_of c.args.last + 1) ((serial_of c.args.last + 1) % 2) refl refl
    (λ text. IsTrue (g.H.Host.tells Work) → text ≡ image_text (disk_held c.args.disk.now.rest) c.args.next c.args.kept.now c.args.names.now h)

pub returns-in_err-close_gate-clause-stops : goal.returns-in_err-close_gate-clause-stops
returns-in_err-close_gate-clause-stops g c h named told =
    closing-stops (g.V.Vault.state c.args.vault.now) c.args.last (c.requires.last told) (serial_of c.args.last + 1) (c.next_serial-serial.result % 2) refl
    (ap (λ (m : ℕ). m % 2) c.next_serial-serial.ensures)
    (λ text. IsTrue (g.H.Host.tells Work) → text ≡ image_text (disk_held c.args.disk.now.rest) c.args.next c.args.kept.now c.args.names.now h)
    (g.V.Vault.state c.close_gate.new.vault) (c.in_err-close_gate.ensures.spares told) (c.in_err-close_gate.ensures.left told)

pub returns-in_err-point-clause-stops : goal.returns-in_err-point-clause-stops
returns-in_err-point-clause-stops g c h named told =
    written-stops (g.V.Vault.state c.args.vault.now) c.args.last (c.requires.last told) (serial_of c.args.last + 1) (c.next_serial-serial.result % 2) refl
    (ap (λ (m : ℕ). m % 2) c.next_serial-serial.ensures)
    (λ text. IsTrue (g.H.Host.tells Work) → text ≡ image_text (disk_held c.args.disk.now.rest) c.args.next c.args.kept.now c.args.names.now h)
    (g.V.Vault.state c.close_gate.new.vault) (g.V.Vault.state c.write_beside.new.vault)
    (record {
      spares = c.in_ok-close_gate.ensures.spares told;
      left = c.in_ok-close_gate.ensures.left told;
      closed = c.in_ok-close_gate.ensures.closed told;
      synced = c.in_ok-close_gate.ensures.synced told;
    })
    (c.in_err-point.ensures.spares told)

pub returns-in_err-point-clause-fault : goal.returns-in_err-point-clause-fault
returns-in_err-point-clause-fault g c h named =
    let p = err_from_is_err_and c.from_residual-in_err-point.result c.from_residual-in_err-point.ensures.1 in
    rw (p.1, p.2) (kept-later g.H.Host c.args.disk.now.host.now c.args.disk.now.host.now c.write_beside.new.disk.host.now (g.V.Vault.faults c.args.vault.now) (g.V.Vault.faults c.close_gate.new.vault)
    (g.V.Vault.faults c.write_beside.new.vault) c.in_err-point.field-0.0 (read-still g.H.Host c.args.disk.now.host.now) c.in_ok-close_gate.ensures.calm (c.in_err-point.ensures.fault h named))

pub returns-in_err-open_gate-clause-stops : goal.returns-in_err-open_gate-clause-stops
returns-in_err-open_gate-clause-stops g c h named told =
    all-stops (g.V.Vault.state c.args.vault.now) c.args.last (c.requires.last told) (serial_of c.args.last + 1) (c.next_serial-serial.result % 2) refl
    (ap (λ (m : ℕ). m % 2) c.next_serial-serial.ensures)
    (λ text. IsTrue (g.H.Host.tells Work) → text ≡ image_text (disk_held c.args.disk.now.rest) c.args.next c.args.kept.now c.args.names.now h)
    (g.V.Vault.state c.close_gate.new.vault) (g.V.Vault.state c.write_beside.new.vault) (g.V.Vault.state c.open_gate.new.vault) c.in_ok-point.point
    (record {
      spares = c.in_ok-close_gate.ensures.spares told;
      left = c.in_ok-close_gate.ensures.left told;
      closed = c.in_ok-close_gate.ensures.closed told;
      synced = c.in_ok-close_gate.ensures.synced told;
    })
    (record {
      spares = c.in_ok-point.ensures.spares told;
      synced = c.in_ok-point.ensures.synced told;
      head = c.in_ok-point.ensures.head told;
      point = record {
        next = refl;
        which = ap (λ (m : ℕ). m % 2) c.next_serial-serial.ensures;
        below = c.requires.below;
        serial = c.in_ok-point.ensures.point.0 ∙ c.next_serial-serial.ensures;
        least = c.in_ok-point.ensures.point.1;
        most = c.in_ok-point.ensures.point.2;
      };
      text = c.in_ok-point.ensures.text h named told;
    })
    (c.in_err-open_gate.ensures.spares told)

pub returns-clause-kept : goal.returns-clause-kept
returns-clause-kept g c told =
    all-last (g.V.Vault.state c.args.vault.now) c.args.last (c.requires.last told) (serial_of c.args.last + 1) (c.next_serial-serial.result % 2) refl
    (ap (λ (m : ℕ). m % 2) c.next_serial-serial.ensures) (λ text. Unit {0})
    (g.V.Vault.state c.close_gate.new.vault) (g.V.Vault.state c.write_beside.new.vault) (g.V.Vault.state c.open_gate.new.vault) c.in_ok-point.point
    (record {
      spares = c.in_ok-close_gate.ensures.spares told;
      left = c.in_ok-close_gate.ensures.left told;
      closed = c.in_ok-close_gate.ensures.closed told;
      synced = c.in_ok-close_gate.ensures.synced told;
    })
    (record {
      spares = c.in_ok-point.ensures.spares told;
      synced = c.in_ok-point.ensures.synced told;
      head = c.in_ok-point.ensures.head told;
      point = record {
        next = refl;
        which = ap (λ (m : ℕ). m % 2) c.next_serial-serial.ensures;
        below = c.requires.below;
        serial = c.in_ok-point.ensures.point.0 ∙ c.next_serial-serial.ensures;
        least = c.in_ok-point.ensures.point.1;
        most = c.in_ok-point.ensures.point.2;
      };
      text = tt;
    })
    (c.in_ok-open_gate.ensures.spares told) (c.in_ok-open_gate.ensures.open told) (c.in_ok-open_gate.ensures.synced told)

pub returns-clause-image : goal.returns-clause-image
returns-clause-image g c h named told work =
    all-text (g.V.Vault.state c.args.vault.now) c.args.last (c.requires.last told) (serial_of c.args.last + 1) (c.next_serial-serial.result % 2) refl
    (ap (λ (m : ℕ). m % 2) c.next_serial-serial.ensures)
    (λ text. IsTrue (g.H.Host.tells Work) → text ≡ image_text (disk_held c.args.disk.now.rest) c.args.next c.args.kept.now c.args.names.now h)
    (g.V.Vault.state c.close_gate.new.vault) (g.V.Vault.state c.write_beside.new.vault) (g.V.Vault.state c.open_gate.new.vault) c.in_ok-point.point
    (record {
      spares = c.in_ok-close_gate.ensures.spares told;
      left = c.in_ok-close_gate.ensures.left told;
      closed = c.in_ok-close_gate.ensures.closed told;
      synced = c.in_ok-close_gate.ensures.synced told;
    })
    (record {
      spares = c.in_ok-point.ensures.spares told;
      synced = c.in_ok-point.ensures.synced told;
      head = c.in_ok-point.ensures.head told;
      point = record {
        next = refl;
        which = ap (λ (m : ℕ). m % 2) c.next_serial-serial.ensures;
        below = c.requires.below;
        serial = c.in_ok-point.ensures.point.0 ∙ c.next_serial-serial.ensures;
        least = c.in_ok-point.ensures.point.1;
        most = c.in_ok-point.ensures.point.2;
      };
      text = c.in_ok-point.ensures.text h named told;
    })
    (c.in_ok-open_gate.ensures.spares told) work

pub returns-clause-stops : goal.returns-clause-stops
returns-clause-stops g c h named told =
    all-stops (g.V.Vault.state c.args.vault.now) c.args.last (c.requires.last told) (serial_of c.args.last + 1) (c.next_serial-serial.result % 2) refl
    (ap (λ (m : ℕ). m % 2) c.next_serial-serial.ensures)
    (λ text. IsTrue (g.H.Host.tells Work) → text ≡ image_text (disk_held c.args.disk.now.rest) c.args.next c.args.kept.now c.args.names.now h)
    (g.V.Vault.state c.close_gate.new.vault) (g.V.Vault.state c.write_beside.new.vault) (g.V.Vault.state c.open_gate.new.vault) c.in_ok-point.point
    (record {
      spares = c.in_ok-close_gate.ensures.spares told;
      left = c.in_ok-close_gate.ensures.left told;
      closed = c.in_ok-close_gate.ensures.closed told;
      synced = c.in_ok-close_gate.ensures.synced told;
    })
    (record {
      spares = c.in_ok-point.ensures.spares told;
      synced = c.in_ok-point.ensures.synced told;
      head = c.in_ok-point.ensures.head told;
      point = record {
        next = refl;
        which = ap (λ (m : ℕ). m % 2) c.next_serial-serial.ensures;
        below = c.requires.below;
        serial = c.in_ok-point.ensures.point.0 ∙ c.next_serial-serial.ensures;
        least = c.in_ok-point.ensures.point.1;
        most = c.in_ok-point.ensures.point.2;
      };
      text = c.in_ok-point.ensures.text h named told;
    })
    (c.in_ok-open_gate.ensures.spares told)

-- ---- what a refusal leaves

pub returns-in_err-area-clause-left : goal.returns-in_err-area-clause-left
returns-in_err-area-clause-left g c told =
    let p = err_from_is_err_and c.from_residual.result c.from_residual.ensures.1 in
    rw p.1 (leaves-last (g.V.Vault.state c.args.vault.now) (g.V.Vault.state c.args.vault.now) (serial_of c.args.last + 1) _
    (still-stops (g.V.Vault.state c.args.vault.now) c.args.last (c.requires.last told) (serial_of c.args.last + 1) ((serial_of c.args.last + 1) % 2) refl refl (λ text. ⊥)))

pub returns-in_err-close_gate-clause-left : goal.returns-in_err-close_gate-clause-left
returns-in_err-close_gate-clause-left g c told =
    let p = err_from_is_err_and c.from_residual-in_err-close_gate.result c.from_residual-in_err-close_gate.ensures.1 in
    rw (p.1, p.2) (failed-leaves _ _ (g.V.Vault.state c.args.vault.now) (g.V.Vault.state c.close_gate.new.vault) c.in_err-close_gate.field-0.0 c.in_err-close_gate.ensures.fault)

pub returns-in_err-point-clause-left : goal.returns-in_err-point-clause-left
returns-in_err-point-clause-left g c told =
    let p = err_from_is_err_and c.from_residual-in_err-point.result c.from_residual-in_err-point.ensures.1 in
    rw p.1 (leaves-last (g.V.Vault.state c.args.vault.now) (g.V.Vault.state c.write_beside.new.vault) (serial_of c.args.last + 1) _
    (written-stops (g.V.Vault.state c.args.vault.now) c.args.last (c.requires.last told) (serial_of c.args.last + 1) (c.next_serial-serial.result % 2) refl
    (ap (λ (m : ℕ). m % 2) c.next_serial-serial.ensures) (λ text. ⊥)
    (g.V.Vault.state c.close_gate.new.vault) (g.V.Vault.state c.write_beside.new.vault)
    (record {
      spares = c.in_ok-close_gate.ensures.spares told;
      left = c.in_ok-close_gate.ensures.left told;
      closed = c.in_ok-close_gate.ensures.closed told;
      synced = c.in_ok-close_gate.ensures.synced told;
    })
    (c.in_err-point.ensures.spares told)))

pub returns-in_err-open_gate-clause-left : goal.returns-in_err-open_gate-clause-left
returns-in_err-open_gate-clause-left g c told =
    let p = err_from_is_err_and c.from_residual-in_err-open_gate.result c.from_residual-in_err-open_gate.ensures.1 in
    rw (p.1, p.2) (failed-leaves _ _ (g.V.Vault.state c.args.vault.now) (g.V.Vault.state c.open_gate.new.vault) c.in_err-open_gate.field-0.0 c.in_err-open_gate.ensures.fault)
