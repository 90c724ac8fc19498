use Rattle.std.proofs.Common.{◌≡◌, ◌++◌, ◌+◌, ◌-◌, ◌%◌, IsTrue, length}
use Rattle.loom_host.specs.declared.outside.Role.TheVariants.{Events}
use Rattle.loom_host.specs.Outside.{TookSome}
use Rattle.event_file.specs.Inside.{most_text}
use Rattle.event_file.specs.Reading.{IsBegun, IsEventsOnly, begun_text}
use Rattle.event_file.specs.declared.limits.TheConstants.{PIECE}
use Rattle.event_file.proofs.read.read_events.Given as goal

abbrev pub invariant-pieces : goal.invariant-pieces
invariant-pieces g l = record {
  text : IsTrue (g.H.Host.tells Events) → begun_text l.reading ++ (g.H.Host.roles l.host Events).left ≡ (g.H.Host.roles l.initial.host Events).left;
  taken : IsTrue (g.H.Host.tells Events) → TookSome (length (begun_text l.reading)) (g.H.Host.roles l.initial.host Events) (g.H.Host.roles l.host Events);
  begun : IsBegun l.reading;
  aligned : length (begun_text l.reading) % PIECE ≡ 0;
  others : IsEventsOnly g.H.Host l.initial.host l.host;
}

abbrev pub decreases-pieces : goal.decreases-pieces
decreases-pieces g l = most_text + 1 - length (begun_text l.reading)
