-- One value for each role.
use Rattle.std.specs.Borrow.{Lends, MutBor, Fml, RattleType}
use Rattle.loom_host.specs.declared.outside.Role.{Role}
use Rattle.loom_host.specs.declared.outside.Role.TheVariants.{Image, Events, Work, Saved, Display, Transcript, Notes}
use Rattle.loom_outside.specs.declared.per_role.PerRole.{PerRole}
use Rattle.loom_outside.specs.contracts.per_role.PerRole.{the_row}

module _ {X : Type 0} where
  -- the value of a role
  abbrev pub at_role : PerRole X → Role → X
  at_role p Image = p.image
  at_role p Events = p.events
  at_role p Work = p.work
  at_role p Saved = p.saved
  at_role p Display = p.display
  at_role p Transcript = p.transcript
  at_role p Notes = p.notes

  -- with another value for a role
  abbrev pub with_role : PerRole X → Role → X → PerRole X
  with_role p Image x = record p { image = x }
  with_role p Events x = record p { events = x }
  with_role p Work x = record p { work = x }
  with_role p Saved x = record p { saved = x }
  with_role p Display x = record p { display = x }
  with_role p Transcript x = record p { transcript = x }
  with_role p Notes x = record p { notes = x }

-- p ends with the last value behind r as the value of this role
abbrev pub lends_role : (R : RattleType) → MutBor (PerRole R.Denot) → Role → MutBor R.Denot → Fml
lends_role R p role r = Lends (the_row R) R p r (with_role p.now role)
