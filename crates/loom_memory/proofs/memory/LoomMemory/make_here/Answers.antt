use Rattle.loom_memory.proofs.FirstRoomLaws.{same-first}
use Rattle.std.proofs.Common.{◌<◌, ◌∙◌, ℕ, ap, sym, subst, arith}
use Rattle.loom_memory.specs.Memory.{loom_told}
use Rattle.loom_memory.specs.New.{making_of}
use Rattle.loom_memory.proofs.AccessLaws.{quiet-ready}
use Rattle.loom_memory.proofs.AddLaws.{core-ok, core-there, making-words, unfit-new}
use Rattle.loom_memory.proofs.MadeLaws.{core-any, core-lost, lost-core}
use Rattle.loom_memory.proofs.MakingLaws.{after-quiet-as, full-as, quiet-thinned, refused-each, refused-if}
use Rattle.disk_objects.specs.Disk.{disk_room}
use Rattle.purger.specs.Purge.{HasRoom}
use Rattle.loom_memory.specs.declared.ledger.Ledger.{Ledger}
use Rattle.loom_memory.proofs.SparedLaws.{rest-spared, sure-then, spared-then, spared-trans}
use Rattle.delta_counts.proofs.FaultLaws.{err-map}
use Rattle.loom_memory.specs.Makings.{IsLost}
use Rattle.loom_memory.proofs.EffectLaws.{lost-other, puts-then, rests-then}
use Rattle.object_memory.specs.declared.fault.MemFault.{MemFault}
use Rattle.object_memory.specs.declared.fault.MemFault.TheVariants.{CoreFull, WorkFull, NamesSpent, WorkFault, Damaged, Said, Memory}
use Rattle.object_memory.specs.Contract.{LeavesAll}
use Rattle.loom_memory.specs.Memory.{IsSound}
use Rattle.loom_memory.proofs.memory.LoomMemory.make_here.Goals as goal

pub returns-then-words-self-clause-err : goal.returns-then-words-self-clause-err
returns-then-words-self-clause-err g c = full-as (loom_told g.H.Host c.args.self.now) (loom_told g.H.Host c.full_new.new.self) c.args.to c.args.class (making_of c.args.kind c.args.len c.args.header) c.words_new-words.result c.full_new.result c.full_new.ensures.err (c.words_new-words.ensures.words ∙ making-words c.args.kind c.args.len c.args.header)

pub put_object-requires-clause-fit : goal.put_object-requires-clause-fit
put_object-requires-clause-fit g c = record {
  sound = c.in-Ok.ensures.leaves.sound;
  ready = quiet-ready (loom_told g.H.Host c.args.self.now) (loom_told g.H.Host c.page.new.self) c.in-Ok.ensures.pages.quiet c.requires.fit.ready;
}

pub returns-then-enough-clause-puts : goal.returns-then-enough-clause-puts
returns-then-enough-clause-puts g c = puts-then c.put_object.result g.H.Host c.args.self.now c.page.new.self c.put_object.new.self c.args.to c.args.class (making_of c.args.kind c.args.len c.args.header) c.in-Ok.ensures.pages c.put_object.ensures.puts

pub returns-then-enough-clause-core : goal.returns-then-enough-clause-core
returns-then-enough-clause-core g c = core-ok c.put_object.result (core-there g.H.Host c.args.self.now c.args.to c.args.class c.words_new-words.result (making_of c.args.kind c.args.len c.args.header) (c.words_new-words.ensures.words ∙ making-words c.args.kind c.args.len c.args.header) (let fits = c.if-words-self.false in omega (arith, fits)))

pub returns-then-enough-clause-err : goal.returns-then-enough-clause-err
returns-then-enough-clause-err g c = refused-if c.put_object.result (loom_told g.H.Host c.args.self.now) (loom_told g.H.Host c.page.new.self) (loom_told g.H.Host c.put_object.new.self) c.args.to c.args.class (making_of c.args.kind c.args.len c.args.header)
    (quiet-thinned (loom_told g.H.Host c.args.self.now) (loom_told g.H.Host c.page.new.self) c.in-Ok.ensures.pages.quiet c.requires.fit.ready)
    (refused-each c.put_object.result (loom_told g.H.Host c.page.new.self) (loom_told g.H.Host c.put_object.new.self) c.args.to c.args.class (making_of c.args.kind c.args.len c.args.header) c.put_object.ensures.err) (err-map c.put_object.result (λ f (x : IsLost f). lost-other f x) c.put_object.ensures.fault)

pub full_new-requires-in-Ok-clause-fit : goal.full_new-requires-in-Ok-clause-fit
full_new-requires-in-Ok-clause-fit g c = record {
  sound = c.in-Ok.ensures.leaves.sound;
  ready = quiet-ready (loom_told g.H.Host c.args.self.now) (loom_told g.H.Host c.page.new.self) c.in-Ok.ensures.pages.quiet c.requires.fit.ready;
}

pub full_new-requires-in-Ok-clause-unfit : goal.full_new-requires-in-Ok-clause-unfit
full_new-requires-in-Ok-clause-unfit g c = λ need is.
    let n = c.page.new.self in
    unfit-new n.pager.levels.parts n.regs n.pager.pinned n.ledger c.args.name c.words_new-words.result need n.pager.levels.whole c.in-Ok.ensures.leaves.sound.kept (c.in-Ok.ensures.short c.if-enough.false) c.entries_are_counted.ensures c.chunks_never_overlap-in-Ok.ensures is

pub returns-else-enough-clause-err : goal.returns-else-enough-clause-err
returns-else-enough-clause-err g c = after-quiet-as (loom_told g.H.Host c.args.self.now) (loom_told g.H.Host c.page.new.self) (loom_told g.H.Host c.full_new-in-Ok.new.self) c.args.to c.args.class (making_of c.args.kind c.args.len c.args.header) c.full_new-in-Ok.result c.in-Ok.ensures.pages.quiet c.requires.fit.ready c.full_new-in-Ok.ensures.other
    (full-as (loom_told g.H.Host c.page.new.self) (loom_told g.H.Host c.full_new-in-Ok.new.self) c.args.to c.args.class (making_of c.args.kind c.args.len c.args.header) c.words_new-words.result c.full_new-in-Ok.result c.full_new-in-Ok.ensures.err (c.words_new-words.ensures.words ∙ making-words c.args.kind c.args.len c.args.header))

pub returns-in-Err-clause-err : goal.returns-in-Err-clause-err
returns-in-Err-clause-err g c = λ low. c.in-Err.ensures.faulted.making c.args.to c.args.class (making_of c.args.kind c.args.len c.args.header) low

pub returns-then-enough-clause-leaves : goal.returns-then-enough-clause-leaves
returns-then-enough-clause-leaves g c = record {
  sound = c.put_object.ensures.leaves.sound;
  fetches = c.put_object.ensures.leaves.fetches ∙ c.page.ensures.leaves.fetches;
  lender = c.put_object.ensures.leaves.lender ∙ c.page.ensures.leaves.lender;
  outside = c.put_object.ensures.leaves.outside ∙ c.page.ensures.leaves.outside;
}

pub returns-then-enough-clause-rests : goal.returns-then-enough-clause-rests
returns-then-enough-clause-rests g c = rests-then _ c.put_object.result g.H.Host c.args.self.now c.page.new.self c.put_object.new.self (λ room. c.in-Ok.ensures.rests (subst (λ (k : ℕ). HasRoom c.args.self.now.pager.levels.parts k 27) (sym c.words_new-words.ensures.words) room)) c.put_object.ensures.rests

pub returns-then-words-self-clause-full : goal.returns-then-words-self-clause-full
returns-then-words-self-clause-full g c =
    let kept = c.full_new.ensures.kept in
    let held = kept.1 in
    let room = ap (λ d. disk_room d.rest) kept.0 in
    let low = c.requires.held in
    core-any c.full_new.result (c.full_new.new.self.ledger.held < disk_room c.full_new.new.self.pager.levels.disk.rest) (omega (arith, held, room, low))

pub returns-else-enough-clause-full : goal.returns-else-enough-clause-full
returns-else-enough-clause-full g c =
    let kept = c.full_new-in-Ok.ensures.kept in
    let held = kept.1 ∙ ap (λ (k : Ledger). k.held) c.in-Ok.ensures.pages.ledger in
    let room = ap (λ d. disk_room d.rest) kept.0 ∙ c.in-Ok.ensures.pages.limit in
    let low = c.requires.held in
    core-any c.full_new-in-Ok.result (c.full_new-in-Ok.new.self.ledger.held < disk_room c.full_new-in-Ok.new.self.pager.levels.disk.rest) (omega (arith, held, room, low))

pub returns-then-enough-clause-full : goal.returns-then-enough-clause-full
returns-then-enough-clause-full g c = lost-core c.put_object.result (c.put_object.new.self.ledger.held < disk_room c.put_object.new.self.pager.levels.disk.rest) c.put_object.ensures.fault

pub returns-in-Err-clause-full : goal.returns-in-Err-clause-full
returns-in-Err-clause-full g c = core-lost c.in-Err.f (c.page.new.self.ledger.held < disk_room c.page.new.self.pager.levels.disk.rest) c.in-Err.ensures.faulted.lost

pub returns-then-words-self-clause-spared : goal.returns-then-words-self-clause-spared
returns-then-words-self-clause-spared g c = λ room. c.full_new.ensures.spared

pub returns-then-enough-clause-spared : goal.returns-then-enough-clause-spared
returns-then-enough-clause-spared g c =
    spared-then c.put_object.result g.H.Host c.args.self.now c.page.new.self c.put_object.new.self
    (λ room. (c.in-Ok.ensures.rests (subst (λ (k : ℕ). HasRoom c.args.self.now.pager.levels.parts k 27) (sym c.words_new-words.ensures.words) room)).resting)
    (λ room. (c.in-Ok.ensures.rests (subst (λ (k : ℕ). HasRoom c.args.self.now.pager.levels.parts k 27) (sym c.words_new-words.ensures.words) room)).cached) c.put_object.ensures.spared

pub returns-else-enough-clause-spared : goal.returns-else-enough-clause-spared
returns-else-enough-clause-spared g c = λ room.
    let has = subst (λ (k : ℕ). HasRoom c.args.self.now.pager.levels.parts k 27) (sym c.words_new-words.ensures.words) room in
    spared-trans g.H.Host c.args.self.now c.page.new.self c.full_new-in-Ok.new.self (rest-spared g.H.Host c.args.self.now c.page.new.self (c.in-Ok.ensures.rests has).resting (c.in-Ok.ensures.rests has).cached) c.full_new-in-Ok.ensures.spared

pub returns-in-Err-clause-spared : goal.returns-in-Err-clause-spared
returns-in-Err-clause-spared g c = λ room. absurd (c.in-Err.ensures.sure (subst (λ (k : ℕ). HasRoom c.args.self.now.pager.levels.parts k 27) (sym c.words_new-words.ensures.words) room))

pub returns-then-words-self-clause-sure : goal.returns-then-words-self-clause-sure
returns-then-words-self-clause-sure g c = λ told room.
    let past = c.if-words-self.true in
    let size = c.requires.fit.sound.kept.size in
    let all = c.chunks_never_overlap.ensures.all in
    let same = c.words_new-words.ensures.words in
    let low = room.0 in
    omega (arith, past, size, all, same, low)

pub returns-then-enough-clause-sure : goal.returns-then-enough-clause-sure
returns-then-enough-clause-sure g c = sure-then _ _ c.put_object.result c.put_object.ensures.sure

pub returns-else-enough-clause-sure : goal.returns-else-enough-clause-sure
returns-else-enough-clause-sure g c = λ told room. let no = c.if-enough.false in let yes = c.in-Ok.ensures.enough (subst (λ (k : ℕ). HasRoom c.args.self.now.pager.levels.parts k 27) (sym c.words_new-words.ensures.words) room) in cc

pub returns-in-Err-clause-sure : goal.returns-in-Err-clause-sure
returns-in-Err-clause-sure g c = λ told room. c.in-Err.ensures.sure (subst (λ (k : ℕ). HasRoom c.args.self.now.pager.levels.parts k 27) (sym c.words_new-words.ensures.words) room)

left-by : (f : MemFault) (P : Type 0) → P → LeavesAll f P
left-by (WorkFault count) P p = tt
left-by (Damaged place name) P p = tt
left-by (CoreFull need) P p = p
left-by (WorkFull live room) P p = p
left-by NamesSpent P p = p
left-by (Said count) P p = p
left-by Memory P p = p

pub returns-else-enough-clause-leaves : goal.returns-else-enough-clause-leaves
returns-else-enough-clause-leaves g c = record {
  sound = left-by c.full_new-in-Ok.result (IsSound g.H.Host c.full_new-in-Ok.new.self) c.full_new-in-Ok.ensures.leaves.sound;
  fetches = c.full_new-in-Ok.ensures.leaves.fetches ∙ c.page.ensures.leaves.fetches;
  lender = c.full_new-in-Ok.ensures.leaves.lender ∙ c.page.ensures.leaves.lender;
  outside = c.full_new-in-Ok.ensures.leaves.outside ∙ c.page.ensures.leaves.outside;
}

pub returns-then-enough-clause-due : goal.returns-then-enough-clause-due
returns-then-enough-clause-due g c = same-first c.put_object.result c.args.self.now.due c.page.new.self.due c.put_object.new.self.due c.in-Ok.ensures.pages.due c.put_object.ensures.due

pub returns-then-enough-clause-other : goal.returns-then-enough-clause-other
returns-then-enough-clause-other g c = err-map c.put_object.result (λ f (x : IsLost f). lost-other f x) c.put_object.ensures.fault

pub returns-in-Err-clause-other : goal.returns-in-Err-clause-other
returns-in-Err-clause-other g c = lost-other c.in-Err.f c.in-Err.ensures.faulted.lost
