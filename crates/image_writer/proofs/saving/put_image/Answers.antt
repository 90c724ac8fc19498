use Rattle.std.proofs.Common.{ℕ, List, [], ◌++◌, ap}
use Rattle.std.proofs.lemmas.List.{append-nil}
use Rattle.std.specs.List.{flat_map}
use Rattle.loom_host.specs.declared.outside.Role.TheVariants.{Work}
use Rattle.disk_objects.specs.Disk.{disk_held}
use Rattle.image_format.specs.Heads.{opening_text, state_text}
use Rattle.image_writer.specs.Inside.{opening_of}
use Rattle.image_writer.specs.Puts.{name_text}
use Rattle.image_writer.proofs.DiskFacts.{still_holds, same_heap}
use Rattle.image_writer.proofs.GatherLaws.{then_gathers, stop_gathers, gathers_of, gathered_puts}
use Rattle.image_writer.proofs.saving.put_image.Goals as goal

pub put_records-requires : goal.put_records-requires
put_records-requires g c = record {
  stands = still_holds g.H.Host c.args.disk.now.host.now c.put_head.new.disk.host.now c.args.disk.now.rest c.put_head.new.disk.rest
      (c.in_ok-put_head.ensures.gathers.puts.others Work (λ e. cc)) c.put_head.ensures.rest c.requires.stands;
}

pub returns-in_err-put_head-clause-puts : goal.returns-in_err-put_head-clause-puts
returns-in_err-put_head-clause-puts g c = λ h p.
    let a = opening_text (opening_of (disk_held c.args.disk.now.rest) c.args.next) ++ state_text c.args.state.now in
    gathered_puts g.H.Host _ _ _ (a ++ flat_map (name_text h) c.args.names.now) c.from_residual.result c.new-gathered.ensures
    (stop_gathers g.H.Host _ _ _ _ [] a (flat_map (name_text h) c.args.names.now) c.in_err-put_head.field-0.0 c.from_residual.result c.in_err-put_head.ensures.gathers c.from_residual.ensures.1)

pub returns-in_err-put_records-clause-puts : goal.returns-in_err-put_records-clause-puts
returns-in_err-put_records-clause-puts g c = λ h p.
    let a = opening_text (opening_of (disk_held c.args.disk.now.rest) c.args.next) ++ state_text c.args.state.now in
    let b = flat_map (name_text h) c.args.names.now in
    gathered_puts g.H.Host _ _ _ (a ++ b) c.from_residual-in_err-put_records.result c.new-gathered.ensures
    (then_gathers g.H.Host _ _ _ _ _ [] a b _ c.from_residual-in_err-put_records.result c.in_ok-put_head.ensures.gathers
    (gathers_of g.H.Host _ _ _ _ (b ++ []) b c.from_residual-in_err-put_records.result (append-nil b)
    (stop_gathers g.H.Host _ _ _ _ [] b [] c.in_err-put_records.field-0.0 c.from_residual-in_err-put_records.result
    (c.in_err-put_records.ensures.gathers h (λ told. (same_heap g.H.Host c.args.disk.now.host.now c.put_head.new.disk.host.now c.args.disk.now.rest c.put_head.new.disk.rest h (c.in_ok-put_head.ensures.gathers.puts.others Work (λ e. cc)) c.put_head.ensures.rest (p told).0, (p told).1)))
    c.from_residual-in_err-put_records.ensures.1)))

pub returns-clause-puts : goal.returns-clause-puts
returns-clause-puts g c = λ h p.
    let a = opening_text (opening_of (disk_held c.args.disk.now.rest) c.args.next) ++ state_text c.args.state.now in
    let b = flat_map (name_text h) c.args.names.now in
    gathered_puts g.H.Host _ _ _ (a ++ b) c.flush.result c.new-gathered.ensures
    (gathers_of g.H.Host _ _ _ _ (a ++ (b ++ [])) (a ++ b) c.flush.result (ap (λ (t : List ℕ). a ++ t) (append-nil b))
    (then_gathers g.H.Host _ _ _ _ _ [] a (b ++ []) _ c.flush.result c.in_ok-put_head.ensures.gathers
    (then_gathers g.H.Host _ _ _ _ _ [] b [] _ c.flush.result
    (c.in_ok-put_records.ensures.gathers h (λ told. (same_heap g.H.Host c.args.disk.now.host.now c.put_head.new.disk.host.now c.args.disk.now.rest c.put_head.new.disk.rest h (c.in_ok-put_head.ensures.gathers.puts.others Work (λ e. cc)) c.put_head.ensures.rest (p told).0, (p told).1)))
    c.flush.ensures.gathers)))
