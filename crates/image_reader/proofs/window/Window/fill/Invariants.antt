use Rattle.std.proofs.Common.{◌≡◌, ◌+◌, ◌-◌, IsTrue, length, cond}
use Rattle.loom_host.specs.declared.outside.Role.TheVariants.{Image}
use Rattle.image_reader.specs.Frames.{ReadsImage}
use Rattle.image_reader.specs.Window.{EndsTruly, unused}
use Rattle.image_reader.proofs.window.Window.fill.Given as goal

abbrev pub invariant-loop-self : goal.invariant-loop-self
invariant-loop-self g l = record {
  rest : IsTrue (g.H.Host.tells Image) → unused l.self (g.H.Host.roles l.disk.host.now Image) ≡ unused l.initial.self (g.H.Host.roles l.initial.disk.host.now Image);
  ends : IsTrue (g.H.Host.tells Image) → EndsTruly l.self (g.H.Host.roles l.disk.host.now Image);
  place : l.self.place ≡ l.initial.self.place;
  reads : ReadsImage g.H.Host l.initial.disk.host.now l.disk.host.now;
  same_rest : l.disk.rest ≡ l.initial.disk.rest;
  same_host : l.disk.host.ghost_name ≡ l.initial.disk.host.ghost_name;
}

abbrev pub decreases-loop-self : goal.decreases-loop-self
decreases-loop-self g l = cond l.self.ended 0 (1 + (262164 - length l.self.bytes))
