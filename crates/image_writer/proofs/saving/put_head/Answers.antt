use Rattle.std.proofs.Common.{ℕ, List, ◌++◌, ap, ◌∙◌}
use Rattle.image_format.specs.Heads.{opening_text, state_text}
use Rattle.disk_objects.specs.Disk.{disk_held}
use Rattle.image_writer.specs.Inside.{opening_of}
use Rattle.image_writer.proofs.GatherLaws.{then_gathers, stop_gathers, gathers_of}
use Rattle.image_writer.proofs.saving.put_head.Goals as goal

pub returns-in_err-put-clause-gathers : goal.returns-in_err-put-clause-gathers
returns-in_err-put-clause-gathers g c =
    let text = c.bytes.ensures ∙ ap (λ (n : ℕ). opening_text (opening_of n c.args.next)) c.len.ensures.value in
    gathers_of g.H.Host _ _ _ _ _ _ c.from_residual.result (ap (λ (s : List ℕ). s ++ state_text c.args.state.now) text)
    (stop_gathers g.H.Host _ _ _ _ _ c.bytes.result (state_text c.args.state.now) c.in_err-put.field-0.0 c.from_residual.result c.in_err-put.ensures.gathers c.from_residual.ensures.1)

pub returns-clause-gathers : goal.returns-clause-gathers
returns-clause-gathers g c =
    let text = c.bytes.ensures ∙ ap (λ (n : ℕ). opening_text (opening_of n c.args.next)) c.len.ensures.value in
    gathers_of g.H.Host _ _ _ _ _ _ c.put-2.result (ap (λ (s : List ℕ). s ++ c.bytes-2.result) text ∙ ap (λ (s : List ℕ). opening_text (opening_of (disk_held c.args.disk.now.rest) c.args.next) ++ s) c.bytes-2.ensures)
    (then_gathers g.H.Host _ _ _ _ _ _ c.bytes.result c.bytes-2.result _ c.put-2.result c.in_ok-put.ensures.gathers c.put-2.ensures.gathers)
