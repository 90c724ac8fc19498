use Rattle.std.proofs.Common.{◌∙◌}
use Rattle.loom_memory.specs.Memory.{loom_told}
use Rattle.loom_memory.proofs.SettleLaws.{rested-whole, settle-last, settle-now, settle-stays, settled-ready}
use Rattle.loom_memory.proofs.FirstRoomLaws.{gone-settled}
use Rattle.loom_memory.proofs.LivingLaws.{lasted-last}
use Rattle.delta_counts.proofs.LowerLaws.{ok-map}
use Rattle.delta_counts.proofs.FaultLaws.{err-map}
use Rattle.loom_memory.specs.Effects.{IsFaulted, Pages}
use Rattle.loom_memory.specs.Thinned.{is_thinned}
use Rattle.loom_memory.proofs.EffectLaws.{ended-then}
use Rattle.loom_memory.proofs.memory.LoomMemory.settle_slowly.Goals as goal

pub spare_entries-requires : goal.spare_entries-requires
spare_entries-requires g c = record {
  fit = record {
    sound = c.in-Ok.ensures.leaves.sound;
    ready = settled-ready (loom_told g.H.Host c.args.self.now) (loom_told g.H.Host c.settle_disk.new.self) c.in-Ok.ensures.settles.settled c.requires.fit.ready;
  };
}

pub returns-in-Ok-clause-called : goal.returns-in-Ok-clause-called
returns-in-Ok-clause-called g c = settle-last c.spare_entries.result (loom_told g.H.Host c.args.self.now) (loom_told g.H.Host c.settle_disk.new.self) (loom_told g.H.Host c.spare_entries.new.self) c.in-Ok.ensures.settles.settled (ok-map c.spare_entries.result (λ (x : Pages g.H.Host c.settle_disk.new.self c.spare_entries.new.self). x.quiet) c.spare_entries.ensures.pages) (err-map c.spare_entries.result (λ f (x : IsFaulted (loom_told g.H.Host c.settle_disk.new.self) (loom_told g.H.Host c.spare_entries.new.self) f). x.settling) c.spare_entries.ensures.faulted) (err-map c.spare_entries.result (λ f (x : IsFaulted (loom_told g.H.Host c.settle_disk.new.self) (loom_told g.H.Host c.spare_entries.new.self) f). x.lost) c.spare_entries.ensures.faulted)

pub returns-in-Ok-clause-fit : goal.returns-in-Ok-clause-fit
returns-in-Ok-clause-fit g c = record {
  sound = c.spare_entries.ensures.leaves.sound;
  ready = settle-now c.spare_entries.result (loom_told g.H.Host c.args.self.now) (loom_told g.H.Host c.settle_disk.new.self) (loom_told g.H.Host c.spare_entries.new.self) c.in-Ok.ensures.settles.settled (ok-map c.spare_entries.result (λ (x : Pages g.H.Host c.settle_disk.new.self c.spare_entries.new.self). x.quiet) c.spare_entries.ensures.pages) c.requires.fit.ready;
  lender = c.spare_entries.ensures.leaves.lender ∙ c.settle_disk.ensures.leaves.lender;
  outside = c.spare_entries.ensures.leaves.outside ∙ c.settle_disk.ensures.leaves.outside;
}

pub returns-in-Ok-clause-fetches : goal.returns-in-Ok-clause-fetches
returns-in-Ok-clause-fetches g c = c.spare_entries.ensures.leaves.fetches ∙ c.settle_disk.ensures.leaves.fetches

pub returns-in-Ok-clause-stays : goal.returns-in-Ok-clause-stays
returns-in-Ok-clause-stays g c = settle-stays c.spare_entries.result g.H.Host c.args.self.now c.settle_disk.new.self c.spare_entries.new.self c.args.self.now.pager.levels.whole.parts.core c.settle_disk.new.self.pager.levels.whole.parts.core c.in-Ok.ensures.settles.entries c.in-Ok.ensures.settles.bodies c.spare_entries.ensures.stays

pub returns-in-Ok-clause-whole : goal.returns-in-Ok-clause-whole
returns-in-Ok-clause-whole g c = λ room enough. rested-whole c.spare_entries.result g.H.Host c.args.self.now c.settle_disk.new.self c.spare_entries.new.self (c.in-Ok.ensures.rests room enough).same (ok-map c.spare_entries.result (λ (x : Pages g.H.Host c.settle_disk.new.self c.spare_entries.new.self). x.quiet) c.spare_entries.ensures.pages)

pub returns-in-Ok-clause-ended : goal.returns-in-Ok-clause-ended
returns-in-Ok-clause-ended g c = ended-then c.spare_entries.result g.H.Host c.args.self.now c.settle_disk.new.self c.spare_entries.new.self c.in-Ok.ensures.settles c.spare_entries.ensures.pages

pub returns-in-Ok-clause-gone : goal.returns-in-Ok-clause-gone
returns-in-Ok-clause-gone g c = gone-settled c.spare_entries.result g.H.Host c.args.self.now c.settle_disk.new.self c.spare_entries.new.self 0 128 c.in-Ok.ensures.gone (ok-map c.spare_entries.result (λ (x : Pages g.H.Host c.settle_disk.new.self c.spare_entries.new.self). x.quiet) c.spare_entries.ensures.pages)

pub returns-in-Ok-clause-thins : goal.returns-in-Ok-clause-thins
unfolding is_thinned
returns-in-Ok-clause-thins g c = λ full. ok-map c.spare_entries.result (λ (x : Pages g.H.Host c.settle_disk.new.self c.spare_entries.new.self). x.flag ∙ c.in-Ok.ensures.thins full) c.spare_entries.ensures.pages

pub returns-in-Ok-clause-lasts : goal.returns-in-Ok-clause-lasts
returns-in-Ok-clause-lasts g c = λ full on enough. lasted-last c.spare_entries.result c.args.self.now c.settle_disk.new.self c.spare_entries.new.self enough (c.in-Ok.ensures.lasts full on).same c.spare_entries.ensures.stays c.spare_entries.ensures.sure

pub returns-in-Err-clause-lasts : goal.returns-in-Err-clause-lasts
returns-in-Err-clause-lasts g c = λ full on enough. c.in-Err.ensures.lasts full on
