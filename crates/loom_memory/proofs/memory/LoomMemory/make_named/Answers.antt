use Rattle.loom_memory.proofs.TimeLaws.{made-gone}
use Rattle.std.proofs.Common.{◌≡◌, ℕ, IsTrue, ◌∙◌, sym, subst}
use Rattle.purger.specs.Purge.{HasRoom}
use Rattle.long_names.specs.Access.{Make, Nothing}
use Rattle.loom_memory.specs.Memory.{loom_told}
use Rattle.loom_memory.specs.New.{making_of}
use Rattle.loom_memory.proofs.AccessLaws.{refused-is}
use Rattle.loom_memory.proofs.AddLaws.{making-words, next-low}
use Rattle.loom_memory.proofs.MadeLaws.{asked-last, core-none, made-early, made-sparing}
use Rattle.loom_memory.proofs.MakingLaws.{made-last, made-now, made-ref, thinned-ready}
use Rattle.loom_memory.specs.Own.{IsAskedLast}
use Rattle.loom_memory.proofs.SparedLaws.{spared-making, sure-making}
use Rattle.long_names.specs.declared.value.Value.TheVariants.{Ref}
use Rattle.loom_host.specs.declared.outside.Role.TheVariants.{Work}
use Rattle.loom_memory.proofs.MindLaws.{minds-told}
use Rattle.delta_counts.proofs.LowerLaws.{ok-map}
use Rattle.loom_memory.specs.Effects.{Puts}
use Rattle.loom_memory.proofs.EffectLaws.{rests-cached, rests-resting}
use Rattle.loom_memory.proofs.memory.LoomMemory.make_named.Goals as goal

pub make_here-requires-clause-fit : goal.make_here-requires-clause-fit
make_here-requires-clause-fit g c = record {
  sound = c.in-Ok.ensures.leaves.sound;
  ready = thinned-ready (loom_told g.H.Host c.args.self.now) (loom_told g.H.Host c.ask.new.self) c.in-Ok.ensures.asks.thinned c.requires.fit.ready;
}

pub returns-in-Ok-clause-makes : goal.returns-in-Ok-clause-makes
unfolding loom_told
returns-in-Ok-clause-makes g c = record {
  access =
      made-last c.make_here.result (loom_told g.H.Host c.args.self.now) (loom_told g.H.Host c.ask.new.self) (loom_told g.H.Host c.make_here.new.self) c.args.to c.args.class (making_of c.args.kind c.args.len c.args.header)
      c.in-Ok.ensures.asks.thinned (ok-map c.make_here.result (λ (x : Puts g.H.Host c.ask.new.self c.make_here.new.self c.args.to c.args.class (making_of c.args.kind c.args.len c.args.header)). x.made) c.make_here.ensures.puts) c.make_here.ensures.err c.make_here.ensures.other (next-low g.H.Host c.args.self.now c.args.name c.requires.name.next c.requires.name.low) c.make_here.ensures.core;
  name = made-ref c.make_here.result (loom_told g.H.Host c.ask.new.self) (loom_told g.H.Host c.make_here.new.self) c.args.to c.args.class (making_of c.args.kind c.args.len c.args.header) (ok-map c.make_here.result (λ (x : Puts g.H.Host c.ask.new.self c.make_here.new.self c.args.to c.args.class (making_of c.args.kind c.args.len c.args.header)). x.made) c.make_here.ensures.puts);
  there = ok-map c.make_here.result (λ (x : Puts g.H.Host c.ask.new.self c.make_here.new.self c.args.to c.args.class (making_of c.args.kind c.args.len c.args.header)). x.there) c.make_here.ensures.puts;
  fetches = c.make_here.ensures.leaves.fetches ∙ c.ask.ensures.leaves.fetches;
  early = made-early c.make_here.result g.H.Host c.args.self.now c.ask.new.self c.make_here.new.self c.args.to c.args.class (making_of c.args.kind c.args.len c.args.header) _ (c.words_new.ensures.words ∙ making-words c.args.kind c.args.len c.args.header) c.in-Ok.ensures.early (ok-map c.make_here.result (λ (x : Puts g.H.Host c.ask.new.self c.make_here.new.self c.args.to c.args.class (making_of c.args.kind c.args.len c.args.header)). x.made) c.make_here.ensures.puts);
  own =
      let asked = c.in-Ok.ensures in
      let made = c.make_here.ensures in
      made-sparing c.make_here.result g.H.Host c.args.self.now c.ask.new.self c.make_here.new.self c.args.to c.args.class (making_of c.args.kind c.args.len c.args.header) _ (making-words c.args.kind c.args.len c.args.header)
      c.requires.fit.sound asked.leaves.sound made.leaves.sound (λ h has. asked.roomy h (subst (λ (k : ℕ). HasRoom c.args.self.now.pager.levels.parts k 27) (sym c.words_new.ensures.words) has)) (λ h has. asked.early h (subst (λ (k : ℕ). HasRoom c.args.self.now.pager.levels.parts k 27) (sym c.words_new.ensures.words) has)) asked.asks.next asked.asks.room asked.asks.bodies (ok-map c.make_here.result (λ (x : Puts g.H.Host c.ask.new.self c.make_here.new.self c.args.to c.args.class (making_of c.args.kind c.args.len c.args.header)). x.made) made.puts) (rests-resting _ c.make_here.result g.H.Host c.ask.new.self c.make_here.new.self made.rests) (rests-cached _ c.make_here.result g.H.Host c.ask.new.self c.make_here.new.self made.rests);
  minds = minds-told c.make_here.result (IsTrue (g.H.Host.tells Work)) g.H.Host c.args.self.now c.ask.new.self c.make_here.new.self (λ k. (loom_told g.H.Host c.make_here.new.self).regs c.args.to ≡ Ref k) c.in-Ok.ensures.asks.minds (ok-map c.make_here.result (λ (x : Puts g.H.Host c.ask.new.self c.make_here.new.self c.args.to c.args.class (making_of c.args.kind c.args.len c.args.header)). x.minds) c.make_here.ensures.puts);
  full = asked-last c.make_here.result g.H.Host c.args.self.now c.make_here.new.self (next-low g.H.Host c.args.self.now c.args.name c.requires.name.next c.requires.name.low) c.make_here.ensures.full;
  spared = spared-making c.make_here.result g.H.Host c.args.self.now c.ask.new.self c.make_here.new.self (making_of c.args.kind c.args.len c.args.header) _ (making-words c.args.kind c.args.len c.args.header) (λ h has. c.in-Ok.ensures.roomy h (subst (λ (k : ℕ). HasRoom c.args.self.now.pager.levels.parts k 27) (sym c.words_new.ensures.words) has)) (λ h has. c.in-Ok.ensures.early h (subst (λ (k : ℕ). HasRoom c.args.self.now.pager.levels.parts k 27) (sym c.words_new.ensures.words) has)) c.make_here.ensures.spared;
  sure = sure-making c.make_here.result g.H.Host c.args.self.now c.ask.new.self (making_of c.args.kind c.args.len c.args.header) _ (making-words c.args.kind c.args.len c.args.header) (λ h has. c.in-Ok.ensures.roomy h (subst (λ (k : ℕ). HasRoom c.args.self.now.pager.levels.parts k 27) (sym c.words_new.ensures.words) has)) c.make_here.ensures.sure;
  gone = made-gone c.make_here.result g.H.Host c.args.self.now c.ask.new.self c.make_here.new.self c.args.to c.args.class (making_of c.args.kind c.args.len c.args.header) _ (c.words_new.ensures.words ∙ making-words c.args.kind c.args.len c.args.header) c.in-Ok.ensures.asks.thinned c.in-Ok.ensures.gone c.in-Ok.ensures.due (ok-map c.make_here.result (λ (x : Puts g.H.Host c.ask.new.self c.make_here.new.self c.args.to c.args.class (making_of c.args.kind c.args.len c.args.header)). x.made) c.make_here.ensures.puts) c.make_here.ensures.due;
}

pub returns-in-Ok-clause-fit : goal.returns-in-Ok-clause-fit
returns-in-Ok-clause-fit g c = record {
  sound = c.make_here.ensures.leaves.sound;
  ready = made-now c.make_here.result (loom_told g.H.Host c.ask.new.self) (loom_told g.H.Host c.make_here.new.self) c.args.to c.args.class (making_of c.args.kind c.args.len c.args.header) (ok-map c.make_here.result (λ (x : Puts g.H.Host c.ask.new.self c.make_here.new.self c.args.to c.args.class (making_of c.args.kind c.args.len c.args.header)). x.made) c.make_here.ensures.puts)
      (thinned-ready (loom_told g.H.Host c.args.self.now) (loom_told g.H.Host c.ask.new.self) c.in-Ok.ensures.asks.thinned c.requires.fit.ready);
  lender = c.make_here.ensures.leaves.lender ∙ c.ask.ensures.leaves.lender;
  outside = c.make_here.ensures.leaves.outside ∙ c.ask.ensures.leaves.outside;
}

pub returns-in-Err-clause-makes : goal.returns-in-Err-clause-makes
unfolding loom_told
returns-in-Err-clause-makes g c = record {
  access = refused-is (loom_told g.H.Host c.args.self.now) (loom_told g.H.Host c.ask.new.self) (Make c.args.to c.args.class (making_of c.args.kind c.args.len c.args.header)) (λ _. Nothing) c.in-Err.f
      (c.in-Err.ensures.err c.args.to c.args.class (making_of c.args.kind c.args.len c.args.header) (next-low g.H.Host c.args.self.now c.args.name c.requires.name.next c.requires.name.low));
  name = tt;
  there = tt;
  fetches = c.ask.ensures.leaves.fetches;
  early = λ told low has. tt;
  own = tt;
  minds = tt;
  full = core-none c.in-Err.f (IsAskedLast g.H.Host c.args.self.now c.ask.new.self) c.in-Err.ensures.full;
  spared = λ space. c.in-Err.ensures.spared space.0 (subst (λ (k : ℕ). HasRoom c.args.self.now.pager.levels.parts k 27) (sym (c.words_new.ensures.words ∙ making-words c.args.kind c.args.len c.args.header)) space.1);
  sure = λ all. c.in-Err.ensures.sure all.room (subst (λ (k : ℕ). HasRoom c.args.self.now.pager.levels.parts k 27) (sym (c.words_new.ensures.words ∙ making-words c.args.kind c.args.len c.args.header)) all.space);
  gone = tt;
}
