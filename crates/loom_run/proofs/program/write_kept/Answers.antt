-- Saved is written and ended, and then Display is written, each or not.
use Rattle.loom_host.specs.declared.outside.Role.TheVariants.{Saved, Display, Work}
use Rattle.loom_words.specs.Command.{row_for}
use Rattle.loom_run.specs.Meanings.{meanings}
use Rattle.loom_run.specs.Stages.{Saving, Drawing}
use Rattle.loom_run.proofs.EndsLaws.{refused-of}
use Rattle.loom_run.proofs.ProgramLaws.{drawing-refused, leaves-drawing, leaves-saving, run-finished, saving-refused}
use Rattle.loom_run.proofs.WrittenLaws.{finished-refusal}
use Rattle.loom_run.proofs.program.write_kept.Goals as goal

pub returns-in-Err : goal.returns-in-Err
returns-in-Err g c = record {
  ends = λ tells sub before left course used through.
      let old = meanings g.H.Host c.args.host.now in
      let far = meanings g.H.Host c.write_saved.new.host in
      let row = row_for c.args.command.now in
      saving-refused tells before row old course c.args.ended.now.finished left used (λ work. (through work).1) far
      (λ told. c.write_saved.ensures.attached (sub Saved told)) c.write_saved.ensures.file c.write_saved.ensures.others c.in-Err.status
      (refused-of g.H.Host.tells tells sub old far row Saving c.in-Err.status c.in-Err.ensures.refused)
      (λ told work. c.in-Err.ensures.put (sub Saved told) (sub Work work) left (through work).0);
  others = leaves-saving (meanings g.H.Host c.args.host.now) (meanings g.H.Host c.write_saved.new.host) c.write_saved.ensures.others;
}

pub returns-in-Ok : goal.returns-in-Ok
returns-in-Ok g c = record {
  ends = λ tells sub before left course used through.
      let old = meanings g.H.Host c.args.host.now in
      let far = meanings g.H.Host c.write_saved.new.host in
      let now = meanings g.H.Host c.write_display.new.host in
      let row = row_for c.args.command.now in
      run-finished tells before row old course c.args.ended.now.finished left used (λ work. (through work).1) far
      (λ told. c.write_saved.ensures.attached (sub Saved told)) c.write_saved.ensures.file c.write_saved.ensures.others
      (λ told work. c.in_default.ensures.put (sub Saved told) (sub Work work) left (through work).0) now
      (λ told. c.write_display.ensures.attached (sub Display told)) c.write_display.ensures.others c.status_of_end.result (finished-refusal now row c.status_of_end.result c.status_of_end.ensures.finished (c.status_of_end.ensures.ran c.args.command.now.steps c.requires.counted))
      c.status_of_end.ensures.goes (λ told. (rw c.bytes.ensures at c.in-Ok.ensures.put) (sub Display told));
  others = leaves-drawing (meanings g.H.Host c.args.host.now) (meanings g.H.Host c.write_saved.new.host) (meanings g.H.Host c.write_display.new.host) c.write_saved.ensures.others c.write_display.ensures.others;
}

pub returns-in-Err-write_display : goal.returns-in-Err-write_display
returns-in-Err-write_display g c = record {
  ends = λ tells sub before left course used through.
      let old = meanings g.H.Host c.args.host.now in
      let far = meanings g.H.Host c.write_saved.new.host in
      let now = meanings g.H.Host c.write_display.new.host in
      let row = row_for c.args.command.now in
      drawing-refused tells before row old course c.args.ended.now.finished left used (λ work. (through work).1) far
      (λ told. c.write_saved.ensures.attached (sub Saved told)) c.write_saved.ensures.file c.write_saved.ensures.others
      (λ told work. c.in_default.ensures.put (sub Saved told) (sub Work work) left (through work).0) now
      (λ told. c.write_display.ensures.attached (sub Display told)) c.write_display.ensures.others c.in-Err-write_display.status
      (refused-of g.H.Host.tells tells sub far now row Drawing c.in-Err-write_display.status c.in-Err-write_display.ensures.refused)
      (λ told. (rw c.bytes.ensures at c.in-Err-write_display.ensures.put) (sub Display told));
  others = leaves-drawing (meanings g.H.Host c.args.host.now) (meanings g.H.Host c.write_saved.new.host) (meanings g.H.Host c.write_display.new.host) c.write_saved.ensures.others c.write_display.ensures.others;
}
