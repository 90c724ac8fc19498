use Rattle.std.proofs.Common.{ap, arith}
use Rattle.loom_host.specs.Outside.{RoleState}
use Rattle.loom_host.specs.declared.outside.Role.TheVariants.{Work}
use Rattle.loom_host.specs.Work.{work_of}
use Rattle.loom_host.proofs.WorkLaws.{holds-its}
use Rattle.work_directory.proofs.SlotLaws.{writes}
use Rattle.work_directory.proofs.slot.write.Goals as goal

pub returns-in-Ok-clause-writes : goal.returns-in-Ok-clause-writes
returns-in-Ok-clause-writes g c = λ told n l. writes (work_of g.H.Host c.args.host.now) (work_of g.H.Host c.write_at.new.self) n c.args.at
    c.place_of.result c.args.bytes.now
    c.requires.size l c.requires.spelled c.place_of.ensures (ap (λ (s : RoleState). s.contents) (c.in-Ok.ensures.contents told))

pub returns-in-Ok-clause-work : goal.returns-in-Ok-clause-work
returns-in-Ok-clause-work g c = record {
  others = c.in-Ok.ensures.others;
  work = λ told. holds-its (g.H.Host.roles c.args.host.now Work) (g.H.Host.roles c.write_at.new.self Work) _
      (c.in-Ok.ensures.contents told);
  other_faults = c.in-Ok.ensures.other_faults;
  later = c.in-Ok.ensures.cause.later;
  writes = omega (arith, c.in-Ok.ensures.writes, c.in-Ok.ensures.limit);
}

pub returns-in-Err-clause-work : goal.returns-in-Err-clause-work
returns-in-Err-clause-work g c = record {
  others = c.in-Err.ensures.others;
  work = λ told. let l = c.in-Err.ensures.failed told in holds-its (g.H.Host.roles c.args.host.now Work)
      (g.H.Host.roles c.write_at.new.self Work) l.0 l.1;
  other_faults = c.in-Err.ensures.other_faults;
  later = c.in-Err.ensures.cause.later;
  writes = omega (arith, c.in-Err.ensures.writes, c.in-Err.ensures.limit);
}
