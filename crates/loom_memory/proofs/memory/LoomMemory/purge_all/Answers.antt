use Rattle.std.proofs.Common.{◌∙◌}
use Rattle.loom_memory.specs.Memory.{loom_told}
use Rattle.loom_memory.proofs.AskLaws.{ask-minds, thins-last, thins-now}
use Rattle.loom_memory.proofs.FirstRoomLaws.{alive-last}
use Rattle.loom_memory.proofs.MakingLaws.{thinned-ready}
use Rattle.delta_counts.proofs.LowerLaws.{ok-map}
use Rattle.delta_counts.proofs.FaultLaws.{err-map}
use Rattle.loom_memory.specs.Effects.{IsFaulted, Pages}
use Rattle.loom_memory.proofs.memory.LoomMemory.purge_all.Goals as goal

pub put_out-requires : goal.put_out-requires
put_out-requires g c = record {
  fit = record {
    sound = c.in-Ok.ensures.leaves.sound;
    ready = thinned-ready (loom_told g.H.Host c.args.self.now) (loom_told g.H.Host c.thin.new.self) c.in-Ok.ensures.frees.thins.thinned c.requires.fit.ready;
  };
}

pub returns-in-Ok-clause-called : goal.returns-in-Ok-clause-called
returns-in-Ok-clause-called g c = thins-last c.put_out.result (loom_told g.H.Host c.args.self.now) (loom_told g.H.Host c.thin.new.self) (loom_told g.H.Host c.put_out.new.self) c.in-Ok.ensures.frees.thins.thinned (ok-map c.put_out.result (λ (x : Pages g.H.Host c.thin.new.self c.put_out.new.self). x.quiet) c.put_out.ensures.pages) (err-map c.put_out.result (λ f (x : IsFaulted (loom_told g.H.Host c.thin.new.self) (loom_told g.H.Host c.put_out.new.self) f). x.purging) c.put_out.ensures.faulted) (err-map c.put_out.result (λ f (x : IsFaulted (loom_told g.H.Host c.thin.new.self) (loom_told g.H.Host c.put_out.new.self) f). x.lost) c.put_out.ensures.faulted) c.requires.fit.ready

pub returns-in-Ok-clause-fit : goal.returns-in-Ok-clause-fit
returns-in-Ok-clause-fit g c = record {
  sound = c.put_out.ensures.leaves.sound;
  ready = thins-now c.put_out.result (loom_told g.H.Host c.args.self.now) (loom_told g.H.Host c.thin.new.self) (loom_told g.H.Host c.put_out.new.self) c.in-Ok.ensures.frees.thins.thinned (ok-map c.put_out.result (λ (x : Pages g.H.Host c.thin.new.self c.put_out.new.self). x.quiet) c.put_out.ensures.pages) c.requires.fit.ready;
  lender = c.put_out.ensures.leaves.lender ∙ c.thin.ensures.leaves.lender;
  outside = c.put_out.ensures.leaves.outside ∙ c.thin.ensures.leaves.outside;
}

pub returns-in-Ok-clause-fetches : goal.returns-in-Ok-clause-fetches
returns-in-Ok-clause-fetches g c = c.put_out.ensures.leaves.fetches ∙ c.thin.ensures.leaves.fetches

pub returns-in-Ok-clause-minds : goal.returns-in-Ok-clause-minds
returns-in-Ok-clause-minds g c = ask-minds c.put_out.result g.H.Host c.args.self.now c.thin.new.self c.put_out.new.self c.in-Ok.ensures.frees.thins.minds (ok-map c.put_out.result (λ (x : Pages g.H.Host c.thin.new.self c.put_out.new.self). x.minds) c.put_out.ensures.pages)

pub returns-in-Ok-clause-gone : goal.returns-in-Ok-clause-gone
returns-in-Ok-clause-gone g c = alive-last c.put_out.result g.H.Host c.thin.new.self c.put_out.new.self c.in-Ok.ensures.swept.again (ok-map c.put_out.result (λ (x : Pages g.H.Host c.thin.new.self c.put_out.new.self). x.quiet) c.put_out.ensures.pages)
