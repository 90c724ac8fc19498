use Rattle.std.proofs.Common.{ℕ, List, [], ◌++◌, refl, sym, ap, ◌∙◌}
use Rattle.std.proofs.lemmas.List.{append-nil}
use Rattle.std.specs.List.{flat_map}
use Rattle.loom_host.specs.declared.outside.Role.TheVariants.{Work}
use Rattle.image_writer.proofs.DiskFacts.{still_holds, same_disk}
use Rattle.image_writer.proofs.GatherLaws.{gathered_puts}
use Rattle.text_lines.specs.Spelling.{head_parts, line_of, name_line}
use Rattle.image_text.proofs.PutSteps.{then_part, stop_part, stop_first}
use Rattle.image_text.proofs.listing.put_text.Goals as goal

pub put_objects-requires : goal.put_objects-requires
put_objects-requires g c = record {
  stands = still_holds g.H.Host c.args.disk.now.host.now c.put.new.disk.host.now c.args.disk.now.rest c.put.new.disk.rest
      (c.in_ok-put.ensures.gathers.puts.others Work (λ e. cc)) c.put.ensures.rest c.requires.stands;
}

pub returns-in_err-put-clause-puts : goal.returns-in_err-put-clause-puts
returns-in_err-put-clause-puts g c = λ h p.
    let a = line_of (head_parts c.args.next c.args.state.now) in
    gathered_puts g.H.Host _ _ _ (a ++ flat_map (name_line h) c.args.names.now) c.from_residual.result c.new-gathered.ensures
    (stop_first g.H.Host _ _ _ _ [] _ a (flat_map (name_line h) c.args.names.now) _ c.in_err-put.field-0.0 c.from_residual.result
    (c.as_bytes.ensures.value ∙ c.as_str.ensures.value ∙ c.first_line-line.ensures) refl c.in_err-put.ensures.gathers c.from_residual.ensures.1)

pub returns-in_err-put_objects-clause-puts : goal.returns-in_err-put_objects-clause-puts
returns-in_err-put_objects-clause-puts g c = λ h p.
    let a = line_of (head_parts c.args.next c.args.state.now) in
    let b = flat_map (name_line h) c.args.names.now in
    gathered_puts g.H.Host _ _ _ (a ++ b) c.from_residual-in_err-put_objects.result c.new-gathered.ensures
    (stop_part g.H.Host _ _ _ _ _ _ [] _ _ b [] (a ++ b) _ c.in_err-put_objects.field-0.0 c.from_residual-in_err-put_objects.result
    refl (rw (c.as_bytes.ensures.value ∙ c.as_str.ensures.value ∙ c.first_line-line.ensures) (ap (λ (t : List ℕ). a ++ t) (append-nil b))) c.in_ok-put.ensures.gathers
    (c.in_err-put_objects.ensures.gathers h (λ told. ((p told).0 ∙ sym (same_disk g.H.Host c.args.disk.now.host.now c.put.new.disk.host.now c.args.disk.now.rest c.put.new.disk.rest (c.in_ok-put.ensures.gathers.puts.others Work (λ e. cc)) c.put.ensures.rest), (p told).1)))
    c.from_residual-in_err-put_objects.ensures.1)

pub returns-clause-puts : goal.returns-clause-puts
returns-clause-puts g c = λ h p.
    let a = line_of (head_parts c.args.next c.args.state.now) in
    let b = flat_map (name_line h) c.args.names.now in
    gathered_puts g.H.Host _ _ _ (a ++ b) c.flush.result c.new-gathered.ensures
    (then_part g.H.Host _ _ _ _ _ [] (a ++ b) _ [] (a ++ b) _ c.flush.result refl (append-nil (a ++ b))
    (then_part g.H.Host _ _ _ _ _ _ _ _ b (a ++ b) _ _ refl (rw (c.as_bytes.ensures.value ∙ c.as_str.ensures.value ∙ c.first_line-line.ensures) refl) c.in_ok-put.ensures.gathers
    (c.in_ok-put_objects.ensures.gathers h (λ told. ((p told).0 ∙ sym (same_disk g.H.Host c.args.disk.now.host.now c.put.new.disk.host.now c.args.disk.now.rest c.put.new.disk.rest (c.in_ok-put.ensures.gathers.puts.others Work (λ e. cc)) c.put.ensures.rest), (p told).1))))
    c.flush.ensures.gathers)
