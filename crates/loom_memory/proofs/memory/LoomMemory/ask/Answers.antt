use Rattle.loom_memory.specs.Memory.{loom_told}
use Rattle.loom_memory.proofs.AskLaws.{ask-early, ask-full, ask-refused, ask-spared, ask-sure}
use Rattle.loom_memory.proofs.TimeLaws.{asked-gone, asked-time}
use Rattle.loom_memory.proofs.MakingLaws.{thinned-ready}
use Rattle.std.proofs.Common.{◌∙◌}
use Rattle.delta_counts.proofs.LowerLaws.{ok-map}
use Rattle.delta_counts.proofs.FaultLaws.{err-map}
use Rattle.loom_memory.specs.Effects.{Frees, IsFaulted}
use Rattle.loom_memory.proofs.EffectLaws.{asks-then}
use Rattle.loom_memory.proofs.memory.LoomMemory.ask.Goals as goal

pub free_first-requires : goal.free_first-requires
free_first-requires g c = record {
  fit = record {
    sound = c.in-Ok.ensures.leaves.sound;
    ready = thinned-ready (loom_told g.H.Host c.args.self.now) (loom_told g.H.Host c.ask_room.new.self) c.in-Ok.ensures.asks.thinned c.requires.fit.ready;
  };
}

pub returns-in-Ok-clause-asks : goal.returns-in-Ok-clause-asks
returns-in-Ok-clause-asks g c = asks-then c.free_first.result g.H.Host c.args.self.now c.ask_room.new.self c.free_first.new.self c.in-Ok.ensures.asks c.free_first.ensures.frees

pub returns-in-Ok-clause-leaves : goal.returns-in-Ok-clause-leaves
returns-in-Ok-clause-leaves g c = record {
  sound = c.free_first.ensures.leaves.sound;
  fetches = c.free_first.ensures.leaves.fetches ∙ c.ask_room.ensures.leaves.fetches;
  lender = c.free_first.ensures.leaves.lender ∙ c.ask_room.ensures.leaves.lender;
  outside = c.free_first.ensures.leaves.outside ∙ c.ask_room.ensures.leaves.outside;
}

pub returns-in-Ok-clause-roomy : goal.returns-in-Ok-clause-roomy
returns-in-Ok-clause-roomy g c = ask-early c.free_first.result c.args.self.now c.ask_room.new.self c.free_first.new.self c.args.words c.in-Ok.ensures.roomy c.free_first.ensures.roomy

pub returns-in-Ok-clause-early : goal.returns-in-Ok-clause-early
returns-in-Ok-clause-early g c = ask-early c.free_first.result c.args.self.now c.ask_room.new.self c.free_first.new.self c.args.words c.in-Ok.ensures.early c.free_first.ensures.roomy

pub returns-in-Ok-clause-err : goal.returns-in-Ok-clause-err
returns-in-Ok-clause-err g c = ask-refused c.free_first.result (loom_told g.H.Host c.args.self.now) (loom_told g.H.Host c.ask_room.new.self) (loom_told g.H.Host c.free_first.new.self) c.in-Ok.ensures.asks.thinned (err-map c.free_first.result (λ f (x : IsFaulted (loom_told g.H.Host c.ask_room.new.self) (loom_told g.H.Host c.free_first.new.self) f). x.making) c.free_first.ensures.faulted) (err-map c.free_first.result (λ f (x : IsFaulted (loom_told g.H.Host c.ask_room.new.self) (loom_told g.H.Host c.free_first.new.self) f). x.lost) c.free_first.ensures.faulted)

pub returns-in-Ok-clause-full : goal.returns-in-Ok-clause-full
returns-in-Ok-clause-full g c = ask-full c.free_first.result (err-map c.free_first.result (λ f (x : IsFaulted (loom_told g.H.Host c.ask_room.new.self) (loom_told g.H.Host c.free_first.new.self) f). x.lost) c.free_first.ensures.faulted)

pub returns-in-Ok-clause-spared : goal.returns-in-Ok-clause-spared
returns-in-Ok-clause-spared g c = ask-spared _ c.free_first.result g.H.Host c.args.self.now c.ask_room.new.self c.free_first.new.self c.args.words c.in-Ok.ensures.asks.room c.free_first.ensures.sure

pub returns-in-Err-clause-spared : goal.returns-in-Err-clause-spared
returns-in-Err-clause-spared g c = λ undrained room. c.in-Err.ensures.spared undrained

pub returns-in-Ok-clause-sure : goal.returns-in-Ok-clause-sure
returns-in-Ok-clause-sure g c = ask-sure _ c.free_first.result c.args.self.now c.ask_room.new.self c.args.words c.in-Ok.ensures.asks.room c.free_first.ensures.sure

pub returns-in-Err-clause-sure : goal.returns-in-Err-clause-sure
returns-in-Err-clause-sure g c = λ low room. c.in-Err.ensures.sure low

pub returns-in-Ok-clause-gone : goal.returns-in-Ok-clause-gone
returns-in-Ok-clause-gone g c = asked-gone c.free_first.result g.H.Host c.args.self.now c.ask_room.new.self c.free_first.new.self c.args.words c.in-Ok.ensures.roomy c.in-Ok.ensures.alive c.free_first.ensures.gone c.free_first.ensures.still

pub returns-in-Ok-clause-due : goal.returns-in-Ok-clause-due
returns-in-Ok-clause-due g c = asked-time c.free_first.result g.H.Host c.args.self.now c.ask_room.new.self c.free_first.new.self c.in-Ok.ensures.roomy c.in-Ok.ensures.alive (ok-map c.free_first.result (λ (x : Frees g.H.Host c.ask_room.new.self c.free_first.new.self). x.thins.due) c.free_first.ensures.frees) c.free_first.ensures.still
