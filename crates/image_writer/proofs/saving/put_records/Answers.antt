use Rattle.std.proofs.Common.{◌+◌, ◌++◌, take, drop, refl, ◌∙◌, arith}
use Rattle.std.specs.List.{flat_map}
use Rattle.long_names.specs.Heap.{Has}
use Rattle.image_writer.specs.Puts.{name_text}
use Rattle.image_writer.proofs.DiskFacts.{still_holds, same_heap}
use Rattle.image_writer.proofs.GatherLaws.{then_gathers, stop_gathers, gathers_of, no_gathers}
use Rattle.image_writer.proofs.PutsLaws.{more_text, rest_text, all_text, all_at}
use Rattle.image_writer.proofs.saving.put_records.Goals as goal

pub put_record-requires : goal.put_record-requires
put_record-requires g c = record { stands = still_holds g.H.Host c.args.disk.now.host.now c.loop-i.disk.host.now c.args.disk.now.rest c.loop-i.disk.rest c.loop-i.invariant.work c.loop-i.invariant.rest c.requires.stands }

pub loop-i-init : goal.loop-i-init
loop-i-init g c = record { work = refl; rest = refl; same_host = refl; gathers = λ h p. no_gathers g.H.Host c.args.disk.now.host.now c.args.gathered.now (tt {0}) }

pub loop-i-preserved : goal.loop-i-preserved
loop-i-preserved g c = record {
  work = c.in_ok-put_record.ensures.work ∙ c.loop-i.invariant.work;
  rest = c.in_ok-put_record.ensures.rest ∙ c.loop-i.invariant.rest;
  same_host = c.in_ok-put_record.ensures.same_host ∙ c.loop-i.invariant.same_host;
  gathers = λ h p.
      gathers_of g.H.Host _ _ _ _ _ _ _ (more_text (name_text h) c.args.names.now c.loop-i.i c.item-name.result.now c.item-name.ensures)
      (then_gathers g.H.Host _ _ _ _ _ _ (flat_map (name_text h) (take c.loop-i.i c.args.names.now)) (name_text h c.item-name.result.now) (tt {0}) _ (c.loop-i.invariant.gathers h p)
      (c.in_ok-put_record.ensures.gathers h (λ told. (same_heap g.H.Host c.args.disk.now.host.now c.loop-i.disk.host.now c.args.disk.now.rest c.loop-i.disk.rest h c.loop-i.invariant.work c.loop-i.invariant.rest (p told).0, all_at (Has h) c.args.names.now c.loop-i.i c.item-name.result.now (p told).1 c.item-name.ensures))));
}

pub returns-in_err-put_record-clause-gathers : goal.returns-in_err-put_record-clause-gathers
returns-in_err-put_record-clause-gathers g c = λ h p.
    gathers_of g.H.Host _ _ _ _ _ _ c.from_residual.result (rest_text (name_text h) c.args.names.now c.loop-i.i c.item-name.result.now c.item-name.ensures)
    (then_gathers g.H.Host _ _ _ _ _ _ (flat_map (name_text h) (take c.loop-i.i c.args.names.now)) (name_text h c.item-name.result.now ++ flat_map (name_text h) (drop (c.loop-i.i + 1) c.args.names.now)) (tt {0}) c.from_residual.result (c.loop-i.invariant.gathers h p)
    (stop_gathers g.H.Host _ _ _ _ _ (name_text h c.item-name.result.now) (flat_map (name_text h) (drop (c.loop-i.i + 1) c.args.names.now)) c.in_err-put_record.field-0.0 c.from_residual.result
    (c.in_err-put_record.ensures.gathers h (λ told. (same_heap g.H.Host c.args.disk.now.host.now c.loop-i.disk.host.now c.args.disk.now.rest c.loop-i.disk.rest h c.loop-i.invariant.work c.loop-i.invariant.rest (p told).0, all_at (Has h) c.args.names.now c.loop-i.i c.item-name.result.now (p told).1 c.item-name.ensures)))
    c.from_residual.ensures.1))

pub returns-clause-gathers : goal.returns-clause-gathers
returns-clause-gathers g c = λ h p. gathers_of g.H.Host _ _ _ _ _ _ _ (all_text (name_text h) c.args.names.now c.loop-i.i (omega arith)) (c.loop-i.invariant.gathers h p)
