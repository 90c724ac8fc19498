-- Saved is ended, or keeps what was put to it.
use Rattle.std.proofs.Common.{refl, subst, sym}
use Rattle.loom_words.specs.Command.{paths_for}
use Rattle.loom_run.specs.Meanings.{meanings}
use Rattle.loom_run.specs.Steps.{ConversionEnds}
use Rattle.loom_run.proofs.ConvertLaws.{conversion-ended, conversion-unended}
use Rattle.loom_run.proofs.converting.end_conversion.Goals as goal

pub returns-in-Ok : goal.returns-in-Ok
returns-in-Ok g c = record {
  ends = λ before x.
      let old = meanings g.H.Host c.args.host.now in
      let new = meanings g.H.Host c.end_saved.new.host in
      let paths = paths_for c.args.conversion.now in
      subst (λ status. ConversionEnds g.H.Host.tells before new c.args.way paths status) (sym c.status_of_count.ensures)
      (conversion-ended g.H.Host.tells before c.args.way paths old new c.args.objects x c.end_saved.ensures.others c.end_saved.ensures.other_faults c.end_saved.ensures.cause.later c.in-Ok.ensures.ended);
}

pub returns-in-Err : goal.returns-in-Err
returns-in-Err g c = record {
  ends = λ before x.
      let old = meanings g.H.Host c.args.host.now in
      let new = meanings g.H.Host c.end_saved.new.host in
      conversion-unended g.H.Host.tells before c.args.way (paths_for c.args.conversion.now) old new c.args.objects x c.end_saved.ensures.others c.end_saved.ensures.other_faults c.end_saved.ensures.cause.later c.fault_count.result
      (c.fault_count.ensures, (rw c.in-Err.is at c.end_saved.ensures.cause.rose) refl) c.in-Err.ensures.still;
}
