use Rattle.std.proofs.Common.{◌+◌, take, drop, refl, sym, ◌∙◌, arith}
use Rattle.std.specs.List.{flat_map}
use Rattle.long_names.specs.Heap.{Has}
use Rattle.image_writer.proofs.DiskFacts.{still_holds, same_disk}
use Rattle.image_writer.proofs.GatherLaws.{gathers_of, no_gathers}
use Rattle.image_writer.proofs.PutsLaws.{more_text, rest_text, all_text, all_at}
use Rattle.text_lines.specs.Spelling.{name_line}
use Rattle.image_text.proofs.PutSteps.{then_part, stop_part}
use Rattle.image_text.proofs.listing.put_objects.Goals as goal

pub put_object-requires : goal.put_object-requires
put_object-requires g c = record { stands = still_holds g.H.Host c.args.disk.now.host.now c.loop-i.disk.host.now c.args.disk.now.rest c.loop-i.disk.rest c.loop-i.invariant.work c.loop-i.invariant.rest c.requires.stands }

pub loop-i-init : goal.loop-i-init
loop-i-init g c = record { work = refl; rest = refl; same_host = refl; gathers = λ h p. no_gathers g.H.Host c.args.disk.now.host.now c.args.gathered.now (tt {0}) }

pub loop-i-preserved : goal.loop-i-preserved
loop-i-preserved g c = record {
  work = c.in_ok-put_object.ensures.work ∙ c.loop-i.invariant.work;
  rest = c.in_ok-put_object.ensures.rest ∙ c.loop-i.invariant.rest;
  same_host = c.in_ok-put_object.ensures.same_host ∙ c.loop-i.invariant.same_host;
  gathers = λ h p.
      then_part g.H.Host _ _ _ _ _ _ (flat_map (name_line h) (take c.loop-i.i c.args.names.now)) _ (name_line h c.item-name.result.now) _ (tt {0}) _
      refl (more_text (name_line h) c.args.names.now c.loop-i.i c.item-name.result.now c.item-name.ensures) (c.loop-i.invariant.gathers h p)
      (c.in_ok-put_object.ensures.gathers h (λ told. ((p told).0 ∙ sym (same_disk g.H.Host c.args.disk.now.host.now c.loop-i.disk.host.now c.args.disk.now.rest c.loop-i.disk.rest c.loop-i.invariant.work c.loop-i.invariant.rest), all_at (Has h) c.args.names.now c.loop-i.i c.item-name.result.now (p told).1 c.item-name.ensures)));
}

pub returns-in_err-put_object-clause-gathers : goal.returns-in_err-put_object-clause-gathers
returns-in_err-put_object-clause-gathers g c = λ h p.
    stop_part g.H.Host _ _ _ _ _ _ _ (flat_map (name_line h) (take c.loop-i.i c.args.names.now)) _ (name_line h c.item-name.result.now) (flat_map (name_line h) (drop (c.loop-i.i + 1) c.args.names.now)) _ (tt {0}) c.in_err-put_object.field-0.0 c.from_residual.result
    refl (rest_text (name_line h) c.args.names.now c.loop-i.i c.item-name.result.now c.item-name.ensures) (c.loop-i.invariant.gathers h p)
    (c.in_err-put_object.ensures.gathers h (λ told. ((p told).0 ∙ sym (same_disk g.H.Host c.args.disk.now.host.now c.loop-i.disk.host.now c.args.disk.now.rest c.loop-i.disk.rest c.loop-i.invariant.work c.loop-i.invariant.rest), all_at (Has h) c.args.names.now c.loop-i.i c.item-name.result.now (p told).1 c.item-name.ensures)))
    c.from_residual.ensures.1

pub returns-clause-gathers : goal.returns-clause-gathers
returns-clause-gathers g c = λ h p. gathers_of g.H.Host _ _ _ _ _ _ _ (all_text (name_line h) c.args.names.now c.loop-i.i (omega arith)) (c.loop-i.invariant.gathers h p)
