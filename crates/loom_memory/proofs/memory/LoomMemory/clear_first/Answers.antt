use Rattle.loom_memory.specs.Memory.{loom_told}
use Rattle.loom_memory.proofs.FirstRoomLaws.{calm-first, err-first, gentle-first, gone-first, idle-first, leaf-first, ledger-first, read-first, sure-first}
use Rattle.loom_memory.proofs.MakingLaws.{thinned-ready}
use Rattle.delta_counts.proofs.LowerLaws.{ok-map}
use Rattle.delta_counts.proofs.FaultLaws.{err-map}
use Rattle.loom_memory.specs.Effects.{IsFaulted, Pages}
use Rattle.loom_memory.proofs.EffectLaws.{thins-then}
use Rattle.loom_memory.proofs.memory.LoomMemory.clear_first.Goals as goal

pub clear-requires : goal.clear-requires
clear-requires g c = record {
  fit = record {
    sound = c.in-Ok.ensures.leaves.sound;
    ready = thinned-ready (loom_told g.H.Host c.args.self.now) (loom_told g.H.Host c.free_first.new.self) c.in-Ok.ensures.frees.thins.thinned c.requires.fit.ready;
  };
}

pub returns-in-Ok-clause-thins : goal.returns-in-Ok-clause-thins
returns-in-Ok-clause-thins g c = thins-then c.clear.result g.H.Host c.args.self.now c.free_first.new.self c.clear.new.self c.requires.fit.ready c.in-Ok.ensures.frees.thins c.clear.ensures.pages

pub returns-in-Ok-clause-gone : goal.returns-in-Ok-clause-gone
returns-in-Ok-clause-gone g c = gone-first c.clear.result g.H.Host c.args.self.now c.free_first.new.self c.clear.new.self c.args.words 27 c.in-Ok.ensures.gone (ok-map c.clear.result (λ (x : Pages g.H.Host c.free_first.new.self c.clear.new.self). x.quiet) c.clear.ensures.pages)

pub returns-in-Ok-clause-calm : goal.returns-in-Ok-clause-calm
returns-in-Ok-clause-calm g c = calm-first c.clear.result c.args.self.now c.free_first.new.self c.clear.new.self c.in-Ok.ensures.frees.thins.pins c.in-Ok.ensures.frees.calm (ok-map c.clear.result (λ (x : Pages g.H.Host c.free_first.new.self c.clear.new.self). x.calm) c.clear.ensures.pages)

pub returns-in-Ok-clause-leaf : goal.returns-in-Ok-clause-leaf
returns-in-Ok-clause-leaf g c = leaf-first c.clear.result g.H.Host c.args.self.now c.free_first.new.self c.clear.new.self c.requires.fit.sound c.in-Ok.ensures.leaves.sound c.in-Ok.ensures.frees.calm c.in-Ok.ensures.frees.thins.minds (ok-map c.clear.result (λ (x : Pages g.H.Host c.free_first.new.self c.clear.new.self). x.leaf) c.clear.ensures.pages)

pub returns-in-Ok-clause-record : goal.returns-in-Ok-clause-record
returns-in-Ok-clause-record g c =
    read-first c.clear.result g.H.Host c.args.self.now c.free_first.new.self c.clear.new.self c.requires.fit.sound c.in-Ok.ensures.leaves.sound c.clear.ensures.leaves.sound c.in-Ok.ensures.frees.calm c.in-Ok.ensures.frees.thins.minds c.in-Ok.ensures.frees.thins.thinned c.free_first.ensures.buf c.clear.ensures.buf (ok-map c.clear.result (λ (x : Pages g.H.Host c.free_first.new.self c.clear.new.self). x.calm) c.clear.ensures.pages) (ok-map c.clear.result (λ (x : Pages g.H.Host c.free_first.new.self c.clear.new.self). x.leaf) c.clear.ensures.pages) (ok-map c.clear.result (λ (x : Pages g.H.Host c.free_first.new.self c.clear.new.self). x.quiet) c.clear.ensures.pages)

pub returns-in-Ok-clause-ledger : goal.returns-in-Ok-clause-ledger
returns-in-Ok-clause-ledger g c = ledger-first c.clear.result c.args.self.now.ledger c.free_first.new.self.ledger c.clear.new.self.ledger c.in-Ok.ensures.frees.ledger (ok-map c.clear.result (λ (x : Pages g.H.Host c.free_first.new.self c.clear.new.self). x.ledger) c.clear.ensures.pages)

pub returns-in-Ok-clause-gentle : goal.returns-in-Ok-clause-gentle
returns-in-Ok-clause-gentle g c = gentle-first c.clear.result g.H.Host c.args.self.now c.free_first.new.self c.clear.new.self c.args.words c.in-Ok.ensures.roomy c.clear.ensures.gentle

pub returns-in-Ok-clause-idle : goal.returns-in-Ok-clause-idle
returns-in-Ok-clause-idle g c = idle-first c.clear.result c.args.self.now c.free_first.new.self c.clear.new.self c.args.words c.in-Ok.ensures.roomy c.clear.ensures.idle

pub returns-in-Ok-clause-sure : goal.returns-in-Ok-clause-sure
returns-in-Ok-clause-sure g c = sure-first c.clear.result c.args.self.now c.free_first.new.self c.args.words c.in-Ok.ensures.roomy c.clear.ensures.sure

pub returns-in-Ok-clause-err : goal.returns-in-Ok-clause-err
returns-in-Ok-clause-err g c = err-first c.clear.result (loom_told g.H.Host c.args.self.now) (loom_told g.H.Host c.free_first.new.self) (loom_told g.H.Host c.clear.new.self) c.in-Ok.ensures.frees.thins.thinned (err-map c.clear.result (λ f (x : IsFaulted (loom_told g.H.Host c.free_first.new.self) (loom_told g.H.Host c.clear.new.self) f). x.access) c.clear.ensures.faulted)

pub returns-in-Err-clause-err : goal.returns-in-Err-clause-err
returns-in-Err-clause-err g c = λ a of target silent none. c.in-Err.ensures.faulted.access a silent none
