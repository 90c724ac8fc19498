use Rattle.std.proofs.Common.{◌∙◌, ap, Err}
use Rattle.loom_host.specs.Outside.{RoleState}
use Rattle.loom_host.specs.declared.outside.Role.TheVariants.{Events}
use Rattle.loom_run.proofs.StepLaws.{bad_taken}
use Rattle.loom_run.proofs.reading.read_lines.Goals as goal

pub returns-in-Ok-read_events-clause-end : goal.returns-in-Ok-read_events-clause-end
returns-in-Ok-read_events-clause-end g c = λ told. record {
  end = c.in-Ok-read_events.ensures.end told;
  name = ap (λ (s : RoleState). s.name) (c.in-Ok-read_events.ensures.taken told).3 ∙ (c.in-Ok.ensures.attached told).named;
}

pub returns-in-Err-Bad-clause-judged : goal.returns-in-Err-Bad-clause-judged
returns-in-Err-Bad-clause-judged g c = λ told.
    let line = c.in-Err-Bad.line in
    bad_taken line _ (g.H.Host.roles c.attach.new.self Events) (g.H.Host.roles c.read_events.new.host Events) (c.in-Ok.ensures.fresh told) (c.in-Err-Bad.ensures.taken told) (c.in-Err-Bad.ensures.bad told line (ap Err c.in-Err-Bad.field-0-is))
