use Rattle.loom_memory.proofs.FirstRoomLaws.{same-first}
use Rattle.std.proofs.Common.{subst, sym, refl, ◌∙◌}
use Rattle.long_names.specs.State.{IsRef, name_at}
use Rattle.long_names.specs.Access.{Swap, Nothing, IsUnpinned}
use Rattle.object_memory.specs.Told.{Told}
use Rattle.loom_memory.specs.Memory.{loom_told}
use Rattle.loom_memory.specs.Gentle.{IsQuiet}
use Rattle.loom_memory.proofs.AccessLaws.{after-quiet, refused-is, quiet-ready, quiet-trans}
use Rattle.loom_memory.proofs.StoreLaws.{store-last, store-ready}
use Rattle.loom_memory.proofs.SwapLaws.{put-away, swap-core}
use Rattle.loom_memory.specs.Own.{IsUnmarked}
use Rattle.loom_memory.proofs.KeepingLaws.{both-keep}
use Rattle.loom_memory.proofs.MindLaws.{minds-swapped}
use Rattle.loom_memory.proofs.memory.LoomMemory.swap.Goals as goal
use Rattle.loom_memory.proofs.memory.LoomMemory.swap.Goals.{After-exchange}
use Rattle.delta_counts.proofs.LowerLaws.{ok-of}
use Rattle.loom_memory.proofs.memory.LoomMemory.swap.Given as given

pub put_away-requires-in-Ok-clause-fit : goal.put_away-requires-in-Ok-clause-fit
put_away-requires-in-Ok-clause-fit g c = record {
  sound = c.in-Ok.ensures.leaves.sound;
  ready = quiet-ready (loom_told g.H.Host c.args.self.now) (loom_told g.H.Host c.put_away.new.self) c.in-Ok.ensures.quiet c.requires.fit.ready;
}

pub put_away-requires-in-Ok-clause-name : goal.put_away-requires-in-Ok-clause-name
put_away-requires-in-Ok-clause-name g c = subst (λ (z : Told). IsRef (z.regs c.args.b)) (sym c.in-Ok.ensures.quiet.same) c.requires.may.names.1

pub put_away-requires-in-Ok-clause-unpinned : goal.put_away-requires-in-Ok-clause-unpinned
put_away-requires-in-Ok-clause-unpinned g c = subst (λ (z : Told). IsUnpinned z.slots (name_at (z.regs c.args.b))) (sym c.in-Ok.ensures.quiet.same) c.requires.may.slots.1

both-quiet : (g : given.Over) (c : After-exchange g) → IsQuiet (loom_told g.H.Host c.args.self.now) (loom_told g.H.Host c.put_away-in-Ok.new.self)
both-quiet g c = quiet-trans (loom_told g.H.Host c.args.self.now) (loom_told g.H.Host c.put_away.new.self) (loom_told g.H.Host c.put_away-in-Ok.new.self) c.in-Ok.ensures.quiet c.in-Ok-put_away.ensures.quiet

pub exchange-requires-clause-fit : goal.exchange-requires-clause-fit
exchange-requires-clause-fit g c = record {
  sound = c.in-Ok-put_away.ensures.leaves.sound;
  ready = quiet-ready (loom_told g.H.Host c.put_away.new.self) (loom_told g.H.Host c.put_away-in-Ok.new.self) c.in-Ok-put_away.ensures.quiet (quiet-ready (loom_told g.H.Host c.args.self.now) (loom_told g.H.Host c.put_away.new.self) c.in-Ok.ensures.quiet c.requires.fit.ready);
}

pub exchange-requires-clause-names : goal.exchange-requires-clause-names
exchange-requires-clause-names g c =
    let quiet = quiet-trans (loom_told g.H.Host c.args.self.now) (loom_told g.H.Host c.put_away.new.self) (loom_told g.H.Host c.put_away-in-Ok.new.self) c.in-Ok.ensures.quiet c.in-Ok-put_away.ensures.quiet in
    (subst (λ (z : Told). IsRef (z.regs c.args.a)) (sym quiet.same) c.requires.may.names.0, subst (λ (z : Told). IsRef (z.regs c.args.b)) (sym quiet.same) c.requires.may.names.1)

pub exchange-requires-clause-away : goal.exchange-requires-clause-away
exchange-requires-clause-away g c = (c.in-Ok-put_away.ensures.still c.args.a c.in-Ok.ensures.away, c.in-Ok-put_away.ensures.away)

pub returns-in-Ok-put_away-clause-access : goal.returns-in-Ok-put_away-clause-access
returns-in-Ok-put_away-clause-access g c = store-last c.exchange.result (loom_told g.H.Host c.args.self.now) (loom_told g.H.Host c.put_away-in-Ok.new.self) (loom_told g.H.Host c.exchange.new.self) (Swap c.args.a c.args.b) refl tt refl (both-quiet g c) c.exchange.ensures.swapped c.exchange.ensures.err (swap-core (loom_told g.H.Host c.args.self.now) c.args.a c.args.b)

pub returns-in-Ok-put_away-clause-fit : goal.returns-in-Ok-put_away-clause-fit
returns-in-Ok-put_away-clause-fit g c = record {
  sound = c.exchange.ensures.leaves.sound;
  ready = store-ready c.exchange.result (loom_told g.H.Host c.put_away-in-Ok.new.self) (loom_told g.H.Host c.exchange.new.self) (Swap c.args.a c.args.b) refl (quiet-ready (loom_told g.H.Host c.args.self.now) (loom_told g.H.Host c.put_away-in-Ok.new.self) (both-quiet g c) c.requires.fit.ready) c.exchange.ensures.swapped;
  lender = c.exchange.ensures.leaves.lender ∙ c.in-Ok-put_away.ensures.leaves.lender ∙ c.in-Ok.ensures.leaves.lender;
  outside = c.exchange.ensures.leaves.outside ∙ c.in-Ok-put_away.ensures.leaves.outside ∙ c.in-Ok.ensures.leaves.outside;
}

pub returns-in-Err-put_away-clause-access : goal.returns-in-Err-put_away-clause-access
returns-in-Err-put_away-clause-access g c = refused-is (loom_told g.H.Host c.args.self.now) (loom_told g.H.Host c.put_away-in-Ok.new.self) (Swap c.args.a c.args.b) (λ _. Nothing) c.in-Err-put_away.f
    (after-quiet (loom_told g.H.Host c.args.self.now) (loom_told g.H.Host c.put_away.new.self) (loom_told g.H.Host c.put_away-in-Ok.new.self) (Swap c.args.a c.args.b) c.in-Err-put_away.f tt refl c.in-Ok.ensures.quiet (c.in-Err-put_away.ensures.err (Swap c.args.a c.args.b) tt refl))

pub returns-in-Err-clause-access : goal.returns-in-Err-clause-access
returns-in-Err-clause-access g c = refused-is (loom_told g.H.Host c.args.self.now) (loom_told g.H.Host c.put_away.new.self) (Swap c.args.a c.args.b) (λ _. Nothing) c.in-Err.f (c.in-Err.ensures.err (Swap c.args.a c.args.b) tt refl)

pub returns-in-Ok-put_away-clause-own : goal.returns-in-Ok-put_away-clause-own
returns-in-Ok-put_away-clause-own g c =
    let first = c.in-Ok.ensures in
    let second = c.in-Ok-put_away.ensures in
    put-away c.exchange.result g.H.Host c.args.self.now c.put_away.new.self c.put_away-in-Ok.new.self c.exchange.new.self c.args.a c.args.b second.leaves.sound first.quiet (both-quiet g c) c.requires.may.names.0 c.requires.may.names.1 (second.still c.args.a first.away) second.away
    first.others second.others first.leaves.fetches second.leaves.fetches c.exchange.ensures.parts (ok-of c.exchange.result c.exchange.ensures.leaves.fetches)

pub returns-in-Ok-put_away-clause-cached : goal.returns-in-Ok-put_away-clause-cached
returns-in-Ok-put_away-clause-cached g c =
    let m = c.args.self.now in
    both-keep c.exchange.result g.H.Host m c.put_away.new.self c.put_away-in-Ok.new.self c.exchange.new.self c.args.b c.in-Ok.ensures.quiet (IsUnmarked g.H.Host m (name_at ((loom_told g.H.Host m).regs c.args.a))) c.in-Ok.ensures.cached c.in-Ok-put_away.ensures.cached c.exchange.ensures.cached

pub returns-in-Ok-put_away-clause-minds : goal.returns-in-Ok-put_away-clause-minds
returns-in-Ok-put_away-clause-minds g c = minds-swapped c.exchange.result g.H.Host c.args.self.now c.put_away.new.self c.put_away-in-Ok.new.self c.exchange.new.self c.in-Ok.ensures.minds c.in-Ok-put_away.ensures.minds c.exchange.ensures.parts c.exchange.ensures.cached

pub returns-in-Ok-put_away-clause-due : goal.returns-in-Ok-put_away-clause-due
returns-in-Ok-put_away-clause-due g c = same-first c.exchange.result c.args.self.now.due c.put_away-in-Ok.new.self.due c.exchange.new.self.due (c.in-Ok-put_away.ensures.due ∙ c.in-Ok.ensures.due) c.exchange.ensures.due
