use Rattle.std.proofs.Common.{◌≡◌, Bool, true, false, not, sym, ◌∙◌}
use Rattle.blue_model.specs.Devices.{due, events_due, check_timer}
use Rattle.contexts.proofs.ServesLaws.{serves_then}
use Rattle.contexts.proofs.Steps.{numbers_then, pick_false, done_serves}
use Rattle.devices.proofs.DueLaws.{lines_none}
use Rattle.devices.proofs.events.is_idle.Goals as goal

not_reached : (b : Bool) → not b ≡ true → b ≡ false
not_reached false e = cc
not_reached true e = let no : ◌≡◌ {A = Bool} false true = e in absurd (cc)

pub returns : goal.returns
unfolding due events_due check_timer
returns c = λ idle t ready.
    let early = not_reached _ idle in
    serves_then _ (numbers_then _ (lines_none c.args.cpu.now.ran c.args.cpu.now.line c.args.events.now ready (sym c.is_due.ensures.due ∙ c.if-is_due.false)))
    (numbers_then _ (pick_false _ _ _ (sym (rw c.clock.ensures at c.is_reached.ensures) ∙ early) (done_serves ready)))
