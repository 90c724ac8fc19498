use Rattle.loom_memory.proofs.TimeLaws.{keeps-then}
use Rattle.std.proofs.Common.{◌≡◌, refl, ◌∙◌}
use Rattle.long_names.specs.Access.{WriteWords, Nothing}
use Rattle.loom_memory.specs.Memory.{loom_told}
use Rattle.loom_memory.proofs.AccessLaws.{refused-is}
use Rattle.loom_memory.proofs.MakingLaws.{thinned-ready}
use Rattle.loom_memory.proofs.FreedLaws.{can-freed}
use Rattle.loom_memory.proofs.ReachLaws.{done-by, store-freed, stored-heap}
use Rattle.loom_memory.proofs.StoreLaws.{err-of, store-ready}
use Rattle.long_names.specs.State.{name_at}
use Rattle.loom_memory.proofs.GentleLaws.{then-store, err-store}
use Rattle.loom_memory.proofs.KeepingLaws.{then-keeps}
use Rattle.purger.specs.Purge.{HasRoom}
use Rattle.loom_memory.specs.Damage.{words_read}
use Rattle.loom_memory.proofs.DamageLaws.{thinned-damage}
use Rattle.loom_memory.proofs.MindLaws.{minds-stored}
use Rattle.loom_memory.proofs.OneLaws.{brings-then}
use Rattle.loom_memory.proofs.memory.LoomMemory.write_words.Goals as goal

pub store_words-requires-clause-fit : goal.store_words-requires-clause-fit
store_words-requires-clause-fit g c = record {
  sound = c.in-Ok.ensures.leaves.sound;
  ready = thinned-ready (loom_told g.H.Host c.args.self.now) (loom_told g.H.Host c.open.new.self) c.in-Ok.ensures.thinned c.requires.fit.ready;
}

pub store_words-requires-clause-may : goal.store_words-requires-clause-may
unfolding loom_told
store_words-requires-clause-may g c = λ told. can-freed (loom_told g.H.Host c.args.self.now) (loom_told g.H.Host c.open.new.self) (WriteWords c.args.of c.args.at c.args.from.now) c.args.of refl c.in-Ok.ensures.thinned c.requires.may.heap told

pub returns-in-Ok-clause-access : goal.returns-in-Ok-clause-access
returns-in-Ok-clause-access g c = store-freed c.store_words.result (loom_told g.H.Host c.args.self.now) (loom_told g.H.Host c.open.new.self) (loom_told g.H.Host c.store_words.new.self) (WriteWords c.args.of c.args.at c.args.from.now) c.args.of refl tt refl refl c.in-Ok.ensures.thinned c.store_words.ensures.stored (err-of c.store_words.result (loom_told g.H.Host c.open.new.self) (loom_told g.H.Host c.store_words.new.self) (WriteWords c.args.of c.args.at c.args.from.now) tt refl c.store_words.ensures.err) (c.in-Ok.ensures.opened.core (WriteWords c.args.of c.args.at c.args.from.now) refl refl)

pub returns-in-Err-clause-access : goal.returns-in-Err-clause-access
returns-in-Err-clause-access g c = refused-is (loom_told g.H.Host c.args.self.now) (loom_told g.H.Host c.open.new.self) (WriteWords c.args.of c.args.at c.args.from.now) (λ _. Nothing) c.in-Err.f (c.in-Err.ensures.err (WriteWords c.args.of c.args.at c.args.from.now) refl refl tt)

pub returns-in-Ok-clause-fit : goal.returns-in-Ok-clause-fit
returns-in-Ok-clause-fit g c = record {
  sound = c.store_words.ensures.leaves.sound;
  ready = store-ready c.store_words.result (loom_told g.H.Host c.open.new.self) (loom_told g.H.Host c.store_words.new.self) (WriteWords c.args.of c.args.at c.args.from.now) refl (thinned-ready (loom_told g.H.Host c.args.self.now) (loom_told g.H.Host c.open.new.self) c.in-Ok.ensures.thinned c.requires.fit.ready) c.store_words.ensures.stored;
  lender = c.store_words.ensures.leaves.lender ∙ c.in-Ok.ensures.leaves.lender;
  outside = c.store_words.ensures.leaves.outside ∙ c.in-Ok.ensures.leaves.outside;
}

pub returns-in-Ok-clause-own : goal.returns-in-Ok-clause-own
returns-in-Ok-clause-own g c = then-store c.store_words.result g.H.Host c.args.self.now c.open.new.self c.store_words.new.self (name_at ((loom_told g.H.Host c.args.self.now).regs c.args.of)) c.in-Ok.s c.in-Ok.ensures.own c.store_words.ensures.resting c.store_words.ensures.sure c.open.new.self.pager.levels.whole.parts.core c.store_words.ensures.leaves.sound

pub returns-in-Err-clause-own : goal.returns-in-Err-clause-own
returns-in-Err-clause-own g c = err-store g.H.Host c.args.self.now c.open.new.self (name_at ((loom_told g.H.Host c.args.self.now).regs c.args.of)) c.in-Err.f c.in-Err.ensures.own

pub returns-in-Ok-clause-cached : goal.returns-in-Ok-clause-cached
returns-in-Ok-clause-cached g c = then-keeps c.store_words.result g.H.Host c.args.self.now c.open.new.self c.store_words.new.self c.in-Ok.ensures.cached c.store_words.ensures.cached

pub returns-in-Ok-clause-damage : goal.returns-in-Ok-clause-damage
returns-in-Ok-clause-damage g c =
    let m = c.args.self.now in
    thinned-damage c.store_words.result g.H.Host m c.open.new.self c.args.of c.in-Ok.s.0 c.store_words.new.self.pager.levels.disk.rest (HasRoom m.pager.levels.parts (words_read c.store_words.new.self) 27) c.in-Ok.ensures.leaves.sound c.in-Ok.ensures.thinned c.requires.may.names c.in-Ok.ensures.opened.word c.store_words.ensures.damage

pub returns-in-Ok-clause-minds : goal.returns-in-Ok-clause-minds
returns-in-Ok-clause-minds g c =
    let n = name_at ((loom_told g.H.Host c.args.self.now).regs c.args.of) in
    minds-stored c.store_words.result g.H.Host c.args.self.now c.open.new.self c.store_words.new.self (λ k. k ≡ n) c.in-Ok.ensures.minds c.open.new.self.pager.levels.whole.parts.core c.store_words.ensures.leaves.sound c.store_words.ensures.resting c.store_words.ensures.none c.store_words.ensures.cached

pub returns-in-Ok-clause-brings : goal.returns-in-Ok-clause-brings
returns-in-Ok-clause-brings g c = brings-then c.args.self.now c.open.new.self c.store_words.new.self _ c.open.ensures.brings c.store_words.ensures.leaves.fetches

pub returns-in-Ok-clause-gone : goal.returns-in-Ok-clause-gone
returns-in-Ok-clause-gone g c = done-by c.store_words.result g.H.Host c.args.self.now c.open.new.self c.store_words.new.self (name_at ((loom_told g.H.Host c.args.self.now).regs c.args.of)) (WriteWords c.args.of c.args.at c.args.from.now) c.in-Ok.ensures.thinned c.in-Ok.ensures.freed (stored-heap c.store_words.result g.H.Host c.open.new.self c.store_words.new.self (WriteWords c.args.of c.args.at c.args.from.now) c.store_words.ensures.stored)
    c.store_words.ensures.due (keeps-then c.store_words.result c.args.self.now c.open.new.self c.store_words.new.self c.in-Ok.ensures.freed.stays c.store_words.ensures.flag)
