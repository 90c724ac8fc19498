use Rattle.std.proofs.Common.{refl, arith}
use Rattle.loom_host.specs.declared.outside.Role.TheVariants.{Saved, Work}
use Rattle.image_writer.proofs.PutsLaws.{only_prefix, only_puts}
use Rattle.image_writer.proofs.pieces.write.Goals as goal

pub returns-in-Ok-clause-puts : goal.returns-in-Ok-clause-puts
returns-in-Ok-clause-puts g c = record {
  put = λ w s. rw c.in-Ok.is at (c.write_to.ensures.put s);
  failed = λ w s. tt;
  only_put = λ s. only_puts c.args.bytes.now (g.H.Host.roles c.args.disk.now.host.now Saved) (g.H.Host.roles c.write_to.new.self.host.now Saved) (rw c.in-Ok.is at (c.write_to.ensures.put s));
  others = c.write_to.ensures.others;
  other_faults = λ r i j. c.write_to.ensures.other_faults r i;
  later = c.write_to.ensures.cause.later;
  later_work = (let same = c.write_to.ensures.other_faults Work (λ e. cc) in omega (arith, same));
  fault = tt;
}

pub returns-in-Err-clause-puts : goal.returns-in-Err-clause-puts
returns-in-Err-clause-puts g c = record {
  put = λ w s. tt;
  failed = λ w s. rw c.in-Err.is at (c.write_to.ensures.failed s);
  only_put = λ s. only_prefix c.args.bytes.now (g.H.Host.roles c.args.disk.now.host.now Saved) (g.H.Host.roles c.write_to.new.self.host.now Saved) (rw c.in-Err.is at (c.write_to.ensures.failed s));
  others = c.write_to.ensures.others;
  other_faults = λ r i j. c.write_to.ensures.other_faults r i;
  later = c.write_to.ensures.cause.later;
  later_work = (let same = c.write_to.ensures.other_faults Work (λ e. cc) in omega (arith, same));
  fault = (c.fault_count.ensures, c.write_to.ensures.cause.rose (rw c.in-Err.is refl));
}
