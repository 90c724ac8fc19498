use Rattle.std.proofs.Common.{◌≡◌, ◌+◌, ◌%◌, IsTrue, refl, ◌∙◌}
use Rattle.std.proofs.lemmas.Result.{IfErr-weaker, IfOk-weaker, err_from_is_err_and}
use Rattle.loom_host.specs.declared.outside.Role.TheVariants.{Work}
use Rattle.disk_objects.specs.Disk.{disk_held}
use Rattle.image_writer.specs.Saved.{disk_heap, saved_text}
use Rattle.image_writer.proofs.DiskFacts.{still_holds}
use Rattle.image_writer.proofs.PutsLaws.{read_then}
use Rattle.checkpoint.specs.Inside.{image_text}
use Rattle.checkpoint.specs.Keeping.{serial_of}
use Rattle.checkpoint.specs.Vault.{contents_of}
use Rattle.checkpoint.specs.declared.fault.VaultFault.TheVariants as fault
use Rattle.checkpoint.proofs.ImagingLaws.{kept-later}
use Rattle.checkpoint.proofs.KeepDisk.{names-fault, read-few, read-named, read-stands, read-text, stops-text}
use Rattle.checkpoint.proofs.KeepLaws.{leaves-last, still-stops}
use Rattle.checkpoint.proofs.MomentLaws.{extends-still}
use Rattle.checkpoint.proofs.keeping.keep.Goals as goal

pub returns-in_err-names-clause-point : goal.returns-in_err-names-clause-point
returns-in_err-names-clause-point g c = let p = err_from_is_err_and c.from_residual.result c.from_residual.ensures.1 in rw p.1 tt

pub returns-in_err-names-clause-kept : goal.returns-in_err-names-clause-kept
returns-in_err-names-clause-kept g c told = let p = err_from_is_err_and c.from_residual.result c.from_residual.ensures.1 in rw p.1 tt

pub returns-in_err-names-clause-image : goal.returns-in_err-names-clause-image
returns-in_err-names-clause-image g c told work = let p = err_from_is_err_and c.from_residual.result c.from_residual.ensures.1 in rw p.1 tt

pub returns-in_err-names-clause-stops : goal.returns-in_err-names-clause-stops
returns-in_err-names-clause-stops g c told =
    still-stops (g.V.Vault.state c.args.vault.now) c.args.last (c.requires.last told) (serial_of c.args.last + 1) ((serial_of c.args.last + 1) % 2) refl refl
    (λ text. IsTrue (g.H.Host.tells Work) →
    text ≡ saved_text (disk_heap g.H.Host c.args.disk.now.host.now c.args.disk.now.rest c.args.next) c.args.state.now)

pub returns-in_err-names-clause-extends : goal.returns-in_err-names-clause-extends
returns-in_err-names-clause-extends g c told = extends-still _ _ refl

pub returns-in_err-names-clause-fault : goal.returns-in_err-names-clause-fault
returns-in_err-names-clause-fault g c =
    let p = err_from_is_err_and c.from_residual.result c.from_residual.ensures.1 in
    rw (p.1, p.2) (names-fault g.H.Host c.args.disk.now.host.now c.names.new.self.host.now c.args.disk.now.rest (g.V.Vault.faults c.args.vault.now) c.in_err-names.field-0.0 c.in_err-names.ensures.fault)

pub returns-in_err-buf-clause-point : goal.returns-in_err-buf-clause-point
returns-in_err-buf-clause-point g c = let p = err_from_is_err_and c.from_residual-in_err-buf.result c.from_residual-in_err-buf.ensures.1 in rw p.1 tt

pub returns-in_err-buf-clause-kept : goal.returns-in_err-buf-clause-kept
returns-in_err-buf-clause-kept g c told = let p = err_from_is_err_and c.from_residual-in_err-buf.result c.from_residual-in_err-buf.ensures.1 in rw p.1 tt

pub returns-in_err-buf-clause-image : goal.returns-in_err-buf-clause-image
returns-in_err-buf-clause-image g c told work = let p = err_from_is_err_and c.from_residual-in_err-buf.result c.from_residual-in_err-buf.ensures.1 in rw p.1 tt

pub returns-in_err-buf-clause-stops : goal.returns-in_err-buf-clause-stops
returns-in_err-buf-clause-stops g c told =
    still-stops (g.V.Vault.state c.args.vault.now) c.args.last (c.requires.last told) (serial_of c.args.last + 1) ((serial_of c.args.last + 1) % 2) refl refl
    (λ text. IsTrue (g.H.Host.tells Work) →
    text ≡ saved_text (disk_heap g.H.Host c.args.disk.now.host.now c.args.disk.now.rest c.args.next) c.args.state.now)

pub returns-in_err-buf-clause-extends : goal.returns-in_err-buf-clause-extends
returns-in_err-buf-clause-extends g c told = extends-still _ _ refl

pub returns-in_err-buf-clause-fault : goal.returns-in_err-buf-clause-fault
returns-in_err-buf-clause-fault g c =
    let p = err_from_is_err_and c.from_residual-in_err-buf.result c.from_residual-in_err-buf.ensures.1 in
    rw (p.1, p.2) refl

pub returns-in_err-kept-clause-point : goal.returns-in_err-kept-clause-point
returns-in_err-kept-clause-point g c = let p = err_from_is_err_and c.from_residual-in_err-kept.result c.from_residual-in_err-kept.ensures.1 in rw p.1 tt

pub returns-in_err-kept-clause-kept : goal.returns-in_err-kept-clause-kept
returns-in_err-kept-clause-kept g c told = let p = err_from_is_err_and c.from_residual-in_err-kept.result c.from_residual-in_err-kept.ensures.1 in rw p.1 tt

pub returns-in_err-kept-clause-image : goal.returns-in_err-kept-clause-image
returns-in_err-kept-clause-image g c told work = let p = err_from_is_err_and c.from_residual-in_err-kept.result c.from_residual-in_err-kept.ensures.1 in rw p.1 tt

pub returns-in_err-kept-clause-stops : goal.returns-in_err-kept-clause-stops
returns-in_err-kept-clause-stops g c told =
    still-stops (g.V.Vault.state c.args.vault.now) c.args.last (c.requires.last told) (serial_of c.args.last + 1) ((serial_of c.args.last + 1) % 2) refl refl
    (λ text. IsTrue (g.H.Host.tells Work) →
    text ≡ saved_text (disk_heap g.H.Host c.args.disk.now.host.now c.args.disk.now.rest c.args.next) c.args.state.now)

pub returns-in_err-kept-clause-extends : goal.returns-in_err-kept-clause-extends
returns-in_err-kept-clause-extends g c told = extends-still _ _ refl

pub returns-in_err-kept-clause-fault : goal.returns-in_err-kept-clause-fault
returns-in_err-kept-clause-fault g c =
    let p = err_from_is_err_and c.from_residual-in_err-kept.result c.from_residual-in_err-kept.ensures.1 in
    rw (p.1, p.2) (kept-later g.H.Host c.args.disk.now.host.now c.names.new.self.host.now c.kept_state.new.disk.host.now (g.V.Vault.faults c.args.vault.now) (g.V.Vault.faults c.args.vault.now)
    (g.V.Vault.faults c.args.vault.now) (fault.Disk c.in_err-kept.field-0.0) c.names.ensures.read refl (refl, c.in_err-kept.ensures.fault))

pub returns-in_err-kept-clause-read : goal.returns-in_err-kept-clause-read
returns-in_err-kept-clause-read g c = read_then g.H.Host _ _ _ c.names.ensures.read c.kept_state.ensures.read

pub returns-in_err-kept-clause-rest : goal.returns-in_err-kept-clause-rest
returns-in_err-kept-clause-rest g c = c.kept_state.ensures.rest ∙ c.names.ensures.rest

pub returns-in_err-kept-clause-same_host : goal.returns-in_err-kept-clause-same_host
returns-in_err-kept-clause-same_host g c = c.kept_state.ensures.same_host ∙ c.names.ensures.same_host

pub kept_state-requires : goal.kept_state-requires
kept_state-requires g c = record {
  stands = still_holds g.H.Host c.args.disk.now.host.now c.names.new.self.host.now c.args.disk.now.rest c.names.new.self.rest (c.names.ensures.read.roles Work)
      c.names.ensures.rest c.requires.stands;
}

pub write_next-requires : goal.write_next-requires
write_next-requires g c = record {
  stands = read-stands g.H.Host c.args.disk.now.host.now c.names.new.self.host.now c.kept_state.new.disk.host.now
      c.args.disk.now.rest c.names.new.self.rest c.kept_state.new.disk.rest c.args.next c.args.state.now c.in_ok-kept.kept c.in_ok-names.names
      c.requires.stands c.requires.exact c.names.ensures.read c.kept_state.ensures.read c.names.ensures.rest c.kept_state.ensures.rest
      c.in_ok-names.ensures.names c.in_ok-kept.ensures.state;
  few = read-few g.H.Host c.args.disk.now.host.now c.names.new.self.host.now c.kept_state.new.disk.host.now
      c.args.disk.now.rest c.names.new.self.rest c.kept_state.new.disk.rest c.args.next c.args.state.now c.in_ok-kept.kept c.in_ok-names.names
      c.requires.stands c.requires.exact c.names.ensures.read c.kept_state.ensures.read c.names.ensures.rest c.kept_state.ensures.rest
      c.in_ok-names.ensures.names c.in_ok-kept.ensures.state;
  last = c.requires.last;
  below = c.requires.below;
}

pub returns-clause-image : goal.returns-clause-image
returns-clause-image g c told work =
    IfOk-weaker c.write_next.result _ _ (λ point is. is ∙ read-text g.H.Host c.args.disk.now.host.now c.names.new.self.host.now c.kept_state.new.disk.host.now
    c.args.disk.now.rest c.names.new.self.rest c.kept_state.new.disk.rest c.args.next c.args.state.now c.in_ok-kept.kept c.in_ok-names.names
    c.requires.stands c.requires.exact c.names.ensures.read c.kept_state.ensures.read c.names.ensures.rest c.kept_state.ensures.rest
    c.in_ok-names.ensures.names c.in_ok-kept.ensures.state work)
    (c.write_next.ensures.image (disk_heap g.H.Host c.args.disk.now.host.now c.args.disk.now.rest c.args.next)
    (read-named g.H.Host c.args.disk.now.host.now c.names.new.self.host.now c.kept_state.new.disk.host.now
    c.args.disk.now.rest c.names.new.self.rest c.kept_state.new.disk.rest c.args.next c.args.state.now c.in_ok-kept.kept c.in_ok-names.names
    c.requires.stands c.requires.exact c.names.ensures.read c.kept_state.ensures.read c.names.ensures.rest c.kept_state.ensures.rest
    c.in_ok-names.ensures.names c.in_ok-kept.ensures.state) told work)

pub returns-clause-stops : goal.returns-clause-stops
returns-clause-stops g c told =
    stops-text (IsTrue (g.H.Host.tells Work)) (g.V.Vault.state c.args.vault.now) (g.V.Vault.state c.write_next.new.vault)
    (contents_of (g.V.Vault.state c.args.vault.now))
    (serial_of c.args.last + 1)
    (image_text (disk_held c.kept_state.new.disk.rest) c.args.next c.in_ok-kept.kept c.in_ok-names.names (disk_heap g.H.Host c.args.disk.now.host.now c.args.disk.now.rest c.args.next))
    (saved_text (disk_heap g.H.Host c.args.disk.now.host.now c.args.disk.now.rest c.args.next) c.args.state.now)
    (read-text g.H.Host c.args.disk.now.host.now c.names.new.self.host.now c.kept_state.new.disk.host.now
    c.args.disk.now.rest c.names.new.self.rest c.kept_state.new.disk.rest c.args.next c.args.state.now c.in_ok-kept.kept c.in_ok-names.names
    c.requires.stands c.requires.exact c.names.ensures.read c.kept_state.ensures.read c.names.ensures.rest c.kept_state.ensures.rest
    c.in_ok-names.ensures.names c.in_ok-kept.ensures.state)
    (c.write_next.ensures.stops (disk_heap g.H.Host c.args.disk.now.host.now c.args.disk.now.rest c.args.next)
    (read-named g.H.Host c.args.disk.now.host.now c.names.new.self.host.now c.kept_state.new.disk.host.now
    c.args.disk.now.rest c.names.new.self.rest c.kept_state.new.disk.rest c.args.next c.args.state.now c.in_ok-kept.kept c.in_ok-names.names
    c.requires.stands c.requires.exact c.names.ensures.read c.kept_state.ensures.read c.names.ensures.rest c.kept_state.ensures.rest
    c.in_ok-names.ensures.names c.in_ok-kept.ensures.state) told)

pub returns-clause-read : goal.returns-clause-read
returns-clause-read g c = read_then g.H.Host _ _ _ (read_then g.H.Host _ _ _ c.names.ensures.read c.kept_state.ensures.read) c.write_next.ensures.read

pub returns-clause-rest : goal.returns-clause-rest
returns-clause-rest g c = c.write_next.ensures.rest ∙ c.kept_state.ensures.rest ∙ c.names.ensures.rest

pub returns-clause-same_host : goal.returns-clause-same_host
returns-clause-same_host g c = c.write_next.ensures.same_host ∙ c.kept_state.ensures.same_host ∙ c.names.ensures.same_host

pub returns-clause-fault : goal.returns-clause-fault
returns-clause-fault g c =
    IfErr-weaker c.write_next.result _ _
    (λ f is. kept-later g.H.Host c.args.disk.now.host.now c.kept_state.new.disk.host.now c.write_next.new.disk.host.now _ (g.V.Vault.faults c.args.vault.now) _ f
    (read_then g.H.Host _ _ _ c.names.ensures.read c.kept_state.ensures.read) refl is)
    (c.write_next.ensures.fault (disk_heap g.H.Host c.args.disk.now.host.now c.args.disk.now.rest c.args.next)
    (read-named g.H.Host c.args.disk.now.host.now c.names.new.self.host.now c.kept_state.new.disk.host.now
    c.args.disk.now.rest c.names.new.self.rest c.kept_state.new.disk.rest c.args.next c.args.state.now c.in_ok-kept.kept c.in_ok-names.names
    c.requires.stands c.requires.exact c.names.ensures.read c.kept_state.ensures.read c.names.ensures.rest c.kept_state.ensures.rest
    c.in_ok-names.ensures.names c.in_ok-kept.ensures.state))

-- ---- what a refusal leaves

pub returns-in_err-names-clause-left : goal.returns-in_err-names-clause-left
returns-in_err-names-clause-left g c told =
    let p = err_from_is_err_and c.from_residual.result c.from_residual.ensures.1 in
    rw p.1 (leaves-last (g.V.Vault.state c.args.vault.now) (g.V.Vault.state c.args.vault.now) (serial_of c.args.last + 1) _
    (still-stops (g.V.Vault.state c.args.vault.now) c.args.last (c.requires.last told) (serial_of c.args.last + 1) ((serial_of c.args.last + 1) % 2) refl refl (λ text. ⊥)))

pub returns-in_err-buf-clause-left : goal.returns-in_err-buf-clause-left
returns-in_err-buf-clause-left g c told =
    let p = err_from_is_err_and c.from_residual-in_err-buf.result c.from_residual-in_err-buf.ensures.1 in
    rw p.1 (leaves-last (g.V.Vault.state c.args.vault.now) (g.V.Vault.state c.args.vault.now) (serial_of c.args.last + 1) _
    (still-stops (g.V.Vault.state c.args.vault.now) c.args.last (c.requires.last told) (serial_of c.args.last + 1) ((serial_of c.args.last + 1) % 2) refl refl (λ text. ⊥)))

pub returns-in_err-kept-clause-left : goal.returns-in_err-kept-clause-left
returns-in_err-kept-clause-left g c told =
    let p = err_from_is_err_and c.from_residual-in_err-kept.result c.from_residual-in_err-kept.ensures.1 in
    rw p.1 (leaves-last (g.V.Vault.state c.args.vault.now) (g.V.Vault.state c.args.vault.now) (serial_of c.args.last + 1) _
    (still-stops (g.V.Vault.state c.args.vault.now) c.args.last (c.requires.last told) (serial_of c.args.last + 1) ((serial_of c.args.last + 1) % 2) refl refl (λ text. ⊥)))
