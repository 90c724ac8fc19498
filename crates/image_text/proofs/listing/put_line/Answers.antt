use Rattle.std.proofs.Common.{[], ◌∷◌, ◌++◌, refl, ◌∙◌, append_assoc}
use Rattle.object_record.specs.Buffer.{raw_of}
use Rattle.image_text.specs.Items.{head_text, spaced_contents}
use Rattle.image_text.proofs.LineLaws.{line_is}
use Rattle.image_text.proofs.PutSteps.{then_part, stop_part, stop_first}
use Rattle.image_text.proofs.listing.put_line.Goals as goal

pub returns-in_err-put-clause-gathers : goal.returns-in_err-put-clause-gathers
returns-in_err-put-clause-gathers g c =
    let r = raw_of c.args.buf.now in
    stop_first g.H.Host _ _ _ _ _ _ (head_text r) (spaced_contents r.body ++ 10 ∷ []) _ c.in_err-put.field-0.0 c.from_residual.result
    (c.as_bytes.ensures.value ∙ c.as_str.ensures.value ∙ c.object_head-head.ensures) (line_is r c.requires.is.size) c.in_err-put.ensures.gathers c.from_residual.ensures.1

pub returns-in_err-put_contents-clause-gathers : goal.returns-in_err-put_contents-clause-gathers
returns-in_err-put_contents-clause-gathers g c =
    let r = raw_of c.args.buf.now in
    stop_part g.H.Host _ _ _ _ _ _ _ _ _ (spaced_contents r.body) (10 ∷ []) _ _ c.in_err-put_contents.field-0.0 c.from_residual-in_err-put_contents.result
    refl (rw (c.as_bytes.ensures.value ∙ c.as_str.ensures.value ∙ c.object_head-head.ensures) (line_is r c.requires.is.size)) c.in_ok-put.ensures.gathers c.in_err-put_contents.ensures.gathers c.from_residual-in_err-put_contents.ensures.1

pub returns-clause-gathers : goal.returns-clause-gathers
returns-clause-gathers g c =
    let r = raw_of c.args.buf.now in
    then_part g.H.Host _ _ _ _ _ _ (head_text r ++ spaced_contents r.body) _ (10 ∷ []) _ _ _
    refl (append_assoc (head_text r) (spaced_contents r.body) (10 ∷ []) ∙ line_is r c.requires.is.size)
    (then_part g.H.Host _ _ _ _ _ _ _ _ (spaced_contents r.body) (head_text r ++ spaced_contents r.body) _ _ refl (rw (c.as_bytes.ensures.value ∙ c.as_str.ensures.value ∙ c.object_head-head.ensures) refl) c.in_ok-put.ensures.gathers c.in_ok-put_contents.ensures.gathers)
    c.put-2.ensures.gathers
