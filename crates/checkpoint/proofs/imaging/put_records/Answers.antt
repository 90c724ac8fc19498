use Rattle.std.proofs.Common.{◌++◌, ℕ, List, refl, sym, ap, ◌∙◌, arith}
use Rattle.std.proofs.lemmas.List.{append-nil}
use Rattle.std.proofs.lemmas.Result.{err_from_is_err_and}
use Rattle.long_names.specs.Heap.{Has}
use Rattle.loom_host.specs.declared.outside.Role.TheVariants.{Work}
use Rattle.image_writer.specs.Puts.{name_text}
use Rattle.image_writer.proofs.DiskFacts.{same_heap, still_holds}
use Rattle.image_writer.proofs.PutsLaws.{all_at, all_text, read_then}
use Rattle.checkpoint.specs.Area.{text_of}
use Rattle.checkpoint.specs.Vault.{contents_of}
use Rattle.checkpoint.proofs.ImagingLaws.{kept-later, read-still, records-more}
use Rattle.checkpoint.proofs.SparesLaws.{apart-then, spares-still}
use Rattle.checkpoint.proofs.imaging.put_records.Goals as goal

pub put_record-requires-clause-stands : goal.put_record-requires-clause-stands
put_record-requires-clause-stands g c = still_holds g.H.Host c.args.disk.now.host.now c.loop-i.disk.host.now c.args.disk.now.rest c.loop-i.disk.rest (c.loop-i.invariant.read.roles Work) c.loop-i.invariant.rest c.requires.stands

pub put_record-requires-clause-fits : goal.put_record-requires-clause-fits
put_record-requires-clause-fits g c = omega (arith, c.requires.fits, c.loop-i.invariant.most)

pub loop-i-init : goal.loop-i-init
loop-i-init g c = record {
  read = read-still g.H.Host _;
  rest = refl;
  same_host = refl;
  text = λ h p told work. sym (append-nil (text_of c.args.area.now (contents_of (g.V.Vault.state c.args.vault.now))));
  least = omega arith;
  most = omega arith;
  parity = refl;
  spares = λ told. spares-still _ _ _ refl;
  calm = refl;
}

pub loop-i-preserved : goal.loop-i-preserved
loop-i-preserved g c = record {
  read = read_then g.H.Host _ _ _ c.loop-i.invariant.read c.in_ok-put_record.ensures.read;
  rest = c.in_ok-put_record.ensures.rest ∙ c.loop-i.invariant.rest;
  same_host = c.in_ok-put_record.ensures.same_host ∙ c.loop-i.invariant.same_host;
  text = λ h p told work.
      records-more (name_text h) c.args.names.now c.loop-i.i c.item-name.result.now (text_of c.args.area.now (contents_of (g.V.Vault.state c.args.vault.now)))
      (text_of c.loop-i.area (contents_of (g.V.Vault.state c.loop-i.vault))) _ c.item-name.ensures
      (c.in_ok-put_record.ensures.text h (λ told. (
        same_heap g.H.Host c.args.disk.now.host.now c.loop-i.disk.host.now c.args.disk.now.rest c.loop-i.disk.rest h (c.loop-i.invariant.read.roles Work) c.loop-i.invariant.rest (p told).0,
        all_at (Has h) c.args.names.now c.loop-i.i c.item-name.result.now (p told).1 c.item-name.ensures,
      )) told work)
      (c.loop-i.invariant.text h p told work);
  least = omega (arith, c.loop-i.invariant.least, c.in_ok-put_record.ensures.least);
  most = omega (arith, c.loop-i.invariant.most, c.in_ok-put_record.ensures.most);
  parity = c.in_ok-put_record.ensures.parity ∙ c.loop-i.invariant.parity;
  spares = λ told. apart-then _ _ _ _ _ c.loop-i.invariant.parity (c.loop-i.invariant.spares told) (c.in_ok-put_record.ensures.spares told);
  calm = c.in_ok-put_record.ensures.calm ∙ c.loop-i.invariant.calm;
}

pub returns-in_err-put_record-clause-spares : goal.returns-in_err-put_record-clause-spares
returns-in_err-put_record-clause-spares g c told = apart-then _ _ _ _ _ c.loop-i.invariant.parity (c.loop-i.invariant.spares told) (c.in_err-put_record.ensures.spares told)

pub returns-in_err-put_record-clause-read : goal.returns-in_err-put_record-clause-read
returns-in_err-put_record-clause-read g c = read_then g.H.Host _ _ _ c.loop-i.invariant.read c.in_err-put_record.ensures.read

pub returns-in_err-put_record-clause-fault : goal.returns-in_err-put_record-clause-fault
returns-in_err-put_record-clause-fault g c = λ h p.
    let e = err_from_is_err_and c.from_residual.result c.from_residual.ensures.1 in
    rw (e.1, e.2) (kept-later g.H.Host c.args.disk.now.host.now c.loop-i.disk.host.now _ (g.V.Vault.faults c.args.vault.now) (g.V.Vault.faults c.loop-i.vault) _ _ c.loop-i.invariant.read c.loop-i.invariant.calm
    (c.in_err-put_record.ensures.fault h (λ told. (
      same_heap g.H.Host c.args.disk.now.host.now c.loop-i.disk.host.now c.args.disk.now.rest c.loop-i.disk.rest h (c.loop-i.invariant.read.roles Work) c.loop-i.invariant.rest (p told).0,
      all_at (Has h) c.args.names.now c.loop-i.i c.item-name.result.now (p told).1 c.item-name.ensures,
    ))))

pub returns-clause-text : goal.returns-clause-text
returns-clause-text g c = λ h p told work.
    c.loop-i.invariant.text h p told work ∙ ap (λ (l : List ℕ). text_of c.args.area.now (contents_of (g.V.Vault.state c.args.vault.now)) ++ l) (all_text (name_text h) c.args.names.now c.loop-i.i (omega arith))
