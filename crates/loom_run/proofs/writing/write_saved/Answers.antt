-- The disk is joined again over the host, and leaves it as the putting did; then Saved is ended, or that fails.
use Rattle.std.proofs.Common.{◌≡◌, false, rules, sym, ◌∙◌, subst}
use Rattle.std.specs.Prelude.{IfErr, is_ok}
use Rattle.long_names.specs.Kept.{kept, no_roots}
use Rattle.image_writer.specs.Saved.{saved_text}
use Rattle.loom_host.specs.declared.outside.Role.TheVariants.{Saved, Work}
use Rattle.loom_words.specs.Command.{row_for}
use Rattle.loom_run.specs.Ends.{AttachedOnce, MadeBy}
use Rattle.loom_run.specs.Meanings.{LeavesBut, meanings}
use Rattle.loom_run.specs.Stages.{Saving, roles_at}
use Rattle.loom_run.specs.Steps.{IsRefusal, IsRefusalAt}
use Rattle.loom_run.proofs.EndsLaws.{refused-since}
use Rattle.loom_run.proofs.StepLaws.{attached-ended, fails-then, leaves-ended, made-by}
use Rattle.loom_run.proofs.writing.write_saved.Goals as goal

same-host : {H : Type 0} (now end : H) (P : H → Type 0) → end ≡ now → P now → P end
same-host now end P same x = subst P (sym same) x

pub put_saved-put-requires : goal.put_saved-put-requires
put_saved-put-requires g c = record {
  ended = λ work. rw (c.again-disk.ensures.now, c.again-disk.ensures.rest) (c.requires.ended work);
}

-- it couldn't be put
pub returns-in-Err : goal.returns-in-Err
returns-in-Err g c =
    let host = g.H.Host in
    let old = c.args.host.now in
    let mid = c.into_host-host.result.now in
    let text = c.args.command.now.saved.now in
    record {
      attached = λ told. same-host mid _ (λ x. AttachedOnce text (host.roles old Saved) (host.roles x Saved)) (search rules) (rw c.into_host-host.ensures.now (rw c.again-disk.ensures.now at (c.put_saved-put.ensures.attached told)));
      put = λ told work h ended. same-host mid _ (λ x. MadeBy false text (saved_text (kept h no_roots) c.args.state.now) (host.roles old Saved) (host.roles x Saved)) (search rules)
          (rw c.into_host-host.ensures.now (rw c.again-disk.ensures.now at (c.in-Err.ensures.put told work h (rw (c.again-disk.ensures.now, c.again-disk.ensures.rest) ended))));
      file = same-host mid _ (λ x. host.roles x Work ≡ host.roles old Work) (search rules) (rw c.into_host-host.ensures.now (rw c.again-disk.ensures.now at c.put_saved-put.ensures.file));
      others = same-host mid _ (λ x. LeavesBut (roles_at Saving) (meanings host old) (meanings host x)) (search rules) (rw c.into_host-host.ensures.now (rw c.again-disk.ensures.now at c.put_saved-put.ensures.others));
      refused = same-host mid _ (λ x. IsRefusal host.tells (meanings host old) (meanings host x) (row_for c.args.command.now) Saving c.in-Err.status) (search rules)
          (rw c.into_host-host.ensures.now (rw c.again-disk.ensures.now at c.in-Err.ensures.refused));
    }

-- it was put, and then it was ended, or not
pub returns-in-Ok : goal.returns-in-Ok
returns-in-Ok g c =
    let host = g.H.Host in
    let old = c.args.host.now in
    let mid = c.into_host-host.result.now in
    let new = c.end_image.new.host in
    let row = row_for c.args.command.now in
    let text = c.args.command.now.saved.now in
    let end = c.end_image.ensures in
    record {
      attached = λ told. same-host new _ (λ x. AttachedOnce text (host.roles old Saved) (host.roles x Saved)) (search rules)
          (attached-ended text (host.roles old Saved) (host.roles mid Saved) (host.roles new Saved) c.end_image.result (rw c.into_host-host.ensures.now (rw c.again-disk.ensures.now at (c.put_saved-put.ensures.attached told))) (end.ended told) (end.still told));
      put = λ told work h ended. same-host new _ (λ x. MadeBy (is_ok c.end_image.result) text (saved_text (kept h no_roots) c.args.state.now) (host.roles old Saved) (host.roles x Saved)) (search rules)
          (made-by text (saved_text (kept h no_roots) c.args.state.now) (host.roles old Saved) (host.roles mid Saved) (host.roles new Saved) c.end_image.result
          (rw c.into_host-host.ensures.now (rw c.again-disk.ensures.now at (c.in-Ok.ensures.put told work h (rw (c.again-disk.ensures.now, c.again-disk.ensures.rest) ended)))) (end.ended told) (end.still told));
      file = same-host new _ (λ x. host.roles x Work ≡ host.roles old Work) (search rules)
          (end.others Work (λ e. cc) ∙ rw c.into_host-host.ensures.now (rw c.again-disk.ensures.now at c.put_saved-put.ensures.file));
      others = same-host new _ (λ x. LeavesBut (roles_at Saving) (meanings host old) (meanings host x)) (search rules)
          (leaves-ended host old mid new (rw c.into_host-host.ensures.now (rw c.again-disk.ensures.now at c.put_saved-put.ensures.others)) end.others end.other_faults end.later);
      refused = same-host new _ (λ x. IfErr c.end_image.result (IsRefusal host.tells (meanings host old) (meanings host x) row Saving)) (search rules)
          (fails-then c.end_image.result (IsRefusalAt host.tells (meanings host mid) (meanings host new) Saving) (IsRefusal host.tells (meanings host old) (meanings host new) row Saving)
          (λ status refused. refused-since host.tells (meanings host old) (meanings host mid) (meanings host new) row Saving status
          (let first : LeavesBut (roles_at Saving) (meanings host old) (meanings host mid) = rw c.into_host-host.ensures.now (rw c.again-disk.ensures.now at c.put_saved-put.ensures.others) in first.later) (refused row)) end.refused);
    }
