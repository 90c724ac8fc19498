use Rattle.loom_memory.proofs.TimeLaws.{time-quiet}
use Rattle.std.proofs.Common.{◌≡◌, ℕ, ◌∙◌, ap, subst, arith}
use Rattle.loom_host.specs.declared.outside.Role.TheVariants.{Work}
use Rattle.object_record.specs.Buffer.{raw_of}
use Rattle.object_record.specs.Objects.{object_in}
use Rattle.long_names.specs.Counting.{counted}
use Rattle.core_view.proofs.Steps.{outside-used}
use Rattle.leaf_lambda.specs.Parts.{core_of}
use Rattle.disk_objects.specs.Function.{disk_of}
use Rattle.loom_memory.specs.declared.ledger.Ledger.{Ledger}
use Rattle.loom_memory.specs.Memory.{loom_told, IsRefusedAt}
use Rattle.loom_memory.proofs.CallLaws.{leaf-words}
use Rattle.loom_memory.proofs.BringLaws.{read-sized, unfit}
use Rattle.loom_memory.proofs.FirstRoomLaws.{alive-quiet, leaf-then}
use Rattle.loom_memory.proofs.FreedLaws.{at-freed}
use Rattle.loom_memory.proofs.MakingLaws.{quiet-thinned, thinned-ready, thinned-trans}
use Rattle.loom_memory.proofs.GentleLaws.{gentle-trans}
use Rattle.loom_memory.proofs.DamageLaws.{full-damage}
use Rattle.loom_memory.proofs.MindLaws.{minds-then}
use Rattle.loom_memory.proofs.memory.LoomMemory.bring_leaf.Goals as goal

pub come-requires-clause-leaf : goal.come-requires-clause-leaf
come-requires-clause-leaf g c = let still = leaf-then c.args.self.now.pager.pinned (core_of c.args.self.now.pager.levels.parts) (core_of c.clear_first.new.self.pager.levels.parts) c.args.s.0 c.args.self.now.pager.levels.whole.parts.core c.clear_first.new.self.pager.levels.whole.parts.core c.in-Ok.ensures.calm c.requires.out (c.in-Ok.ensures.leaf c.args.s.0 c.requires.out c.requires.leaf) in (still.used, still.leaf)

pub come-requires-clause-record : goal.come-requires-clause-record
come-requires-clause-record g c = (c.in-Ok.ensures.record c.args.s.0 c.args.words c.requires.out c.requires.leaf c.requires.record).record_there

pub come-requires-clause-there : goal.come-requires-clause-there
come-requires-clause-there g c = (c.in-Ok.ensures.record c.args.s.0 c.args.words c.requires.out c.requires.leaf c.requires.record).there

pub come-requires-clause-room : goal.come-requires-clause-room
come-requires-clause-room g c =
    let most = (c.in-Ok.ensures.room c.if-enough.true).0 in
    let size = (c.in-Ok.ensures.record c.args.s.0 c.args.words c.requires.out c.requires.leaf c.requires.record).sized in
    omega (arith, most, size)

pub come-requires-clause-spare : goal.come-requires-clause-spare
come-requires-clause-spare g c = (c.in-Ok.ensures.room c.if-enough.true).1

pub returns-then-enough-clause-thins : goal.returns-then-enough-clause-thins
returns-then-enough-clause-thins g c = record {
  thinned =
      let t = loom_told g.H.Host c.args.self.now in
      let u = loom_told g.H.Host c.clear_first.new.self in
      let v = loom_told g.H.Host c.come.new.self in
      thinned-trans t u v c.in-Ok.ensures.thins.thinned (quiet-thinned u v c.come.ensures.gains.quiet (thinned-ready t u c.in-Ok.ensures.thins.thinned c.requires.fit.ready));
  minds =
      let m = c.args.self.now in
      let u = c.clear_first.new.self in
      let s = c.args.s.0 in
      minds-then g.H.Host m u c.come.new.self (λ k. ⊥) (λ k. k ≡ ((core_of u.pager.levels.parts).entries s).name) (λ k. k ≡ ((core_of m.pager.levels.parts).entries s).name) (λ k no. absurd no) (λ k is. is ∙ c.in-Ok.ensures.calm.live s c.requires.out) c.in-Ok.ensures.thins.minds c.come.ensures.minds;
  regs = c.come.ensures.gains.regs ∙ c.in-Ok.ensures.thins.regs;
  pins = c.come.ensures.gains.pins ∙ c.in-Ok.ensures.thins.pins;
  next = c.come.ensures.gains.next ∙ ap (λ (k : Ledger). k.next) c.in-Ok.ensures.ledger;
  due = time-quiet g.H.Host c.args.self.now c.clear_first.new.self c.come.new.self c.in-Ok.ensures.thins.due c.come.ensures.gains.due c.come.ensures.gains.quiet;
  flag = λ on. c.come.ensures.gains.flag ∙ c.in-Ok.ensures.thins.flag on;
}

pub returns-then-enough-clause-comes : goal.returns-then-enough-clause-comes
returns-then-enough-clause-comes g c = record {
  gone = λ lacks due. alive-quiet (loom_told g.H.Host c.clear_first.new.self) (loom_told g.H.Host c.come.new.self) c.come.ensures.gains.quiet (c.in-Ok.ensures.gone lacks due);
  gentle = λ room. gentle-trans g.H.Host c.args.self.now c.clear_first.new.self c.come.new.self (c.in-Ok.ensures.gentle room) c.come.ensures.gains.gentle;
}

pub full-requires-in-Ok-clause-fit : goal.full-requires-in-Ok-clause-fit
full-requires-in-Ok-clause-fit g c = record {
  sound = c.in-Ok.ensures.leaves.sound;
  ready = thinned-ready (loom_told g.H.Host c.args.self.now) (loom_told g.H.Host c.clear_first.new.self) c.in-Ok.ensures.thins.thinned c.requires.fit.ready;
}

pub full-requires-in-Ok-clause-used : goal.full-requires-in-Ok-clause-used
full-requires-in-Ok-clause-used g c = (leaf-then c.args.self.now.pager.pinned (core_of c.args.self.now.pager.levels.parts) (core_of c.clear_first.new.self.pager.levels.parts) c.args.s.0 c.args.self.now.pager.levels.whole.parts.core c.clear_first.new.self.pager.levels.whole.parts.core c.in-Ok.ensures.calm c.requires.out (c.in-Ok.ensures.leaf c.args.s.0 c.requires.out c.requires.leaf)).used

pub full-requires-in-Ok-clause-sized : goal.full-requires-in-Ok-clause-sized
unfolding loom_told
full-requires-in-Ok-clause-sized g c = λ told.
    let m = c.args.self.now in
    let n = c.clear_first.new.self in
    let still = leaf-then m.pager.pinned (core_of m.pager.levels.parts) (core_of n.pager.levels.parts) c.args.s.0 c.args.self.now.pager.levels.whole.parts.core c.clear_first.new.self.pager.levels.whole.parts.core c.in-Ok.ensures.calm c.requires.out (c.in-Ok.ensures.leaf c.args.s.0 c.requires.out c.requires.leaf) in
    leaf-words (g.H.Host.tells Work) (core_of n.pager.levels.parts) (disk_of g.H.Host n.pager.levels.disk.host.now n.pager.levels.disk.rest) n.ledger.next c.args.s.0 c.args.words told c.clear_first.new.self.pager.levels.whole.parts.core still.used still.leaf
    (read-sized (g.H.Host.tells Work) n.buf (disk_of g.H.Host n.pager.levels.disk.host.now n.pager.levels.disk.rest) ((core_of n.pager.levels.parts).entries c.args.s.0).name c.args.words
    (c.in-Ok.ensures.record c.args.s.0 c.args.words c.requires.out c.requires.leaf c.requires.record))

pub full-requires-in-Ok-clause-unfit : goal.full-requires-in-Ok-clause-unfit
full-requires-in-Ok-clause-unfit g c = λ need is.
    let n = c.clear_first.new.self in
    let still = leaf-then c.args.self.now.pager.pinned (core_of c.args.self.now.pager.levels.parts) (core_of n.pager.levels.parts) c.args.s.0 c.args.self.now.pager.levels.whole.parts.core c.clear_first.new.self.pager.levels.whole.parts.core c.in-Ok.ensures.calm c.requires.out (c.in-Ok.ensures.leaf c.args.s.0 c.requires.out c.requires.leaf) in
    unfit n.pager.levels.parts n.regs n.pager.pinned n.ledger c.args.s.0 c.args.words need (object_in (raw_of c.args.self.now.buf)) n.pager.levels.whole c.in-Ok.ensures.leaves.sound.kept (c.in-Ok.ensures.short c.if-enough.false) c.entries_are_counted.ensures c.chunks_never_overlap.ensures still.used still.leaf c.requires.record.sized is

pub returns-else-enough-clause-err : goal.returns-else-enough-clause-err
returns-else-enough-clause-err g c =
    let calm = c.in-Ok.ensures.calm in
    at-freed (loom_told g.H.Host c.args.self.now) (loom_told g.H.Host c.clear_first.new.self) (loom_told g.H.Host c.full-in-Ok.new.self) ((core_of c.args.self.now.pager.levels.parts).entries c.args.s.0).name c.full-in-Ok.result c.in-Ok.ensures.thins.thinned
    (subst (λ (k : ℕ). IsRefusedAt (loom_told g.H.Host c.clear_first.new.self) (loom_told g.H.Host c.full-in-Ok.new.self) k c.full-in-Ok.result) (calm.live c.args.s.0 c.requires.out) c.full-in-Ok.ensures.err)

pub returns-in-Err-clause-err : goal.returns-in-Err-clause-err
returns-in-Err-clause-err g c = λ a of target named silent none. c.in-Err.ensures.err a of target silent none

pub full-requires-clause-sized : goal.full-requires-clause-sized
unfolding loom_told
full-requires-clause-sized g c = λ told.
    let m = c.args.self.now in
    leaf-words (g.H.Host.tells Work) (core_of m.pager.levels.parts) (disk_of g.H.Host m.pager.levels.disk.host.now m.pager.levels.disk.rest) m.ledger.next c.args.s.0 c.args.words told c.args.self.now.pager.levels.whole.parts.core (outside-used (core_of m.pager.levels.parts) c.args.s.0 c.args.self.now.pager.levels.whole.parts.core c.requires.out) c.requires.leaf
    (read-sized (g.H.Host.tells Work) m.buf (disk_of g.H.Host m.pager.levels.disk.host.now m.pager.levels.disk.rest) ((core_of m.pager.levels.parts).entries c.args.s.0).name c.args.words c.requires.record)

pub full-requires-clause-unfit : goal.full-requires-clause-unfit
full-requires-clause-unfit g c = λ need is fits. let all = is.all in let most = fits.words in let past = c.if-words-self.true in absurd (omega arith)

pub full-requires-clause-used : goal.full-requires-clause-used
full-requires-clause-used g c = outside-used (core_of c.args.self.now.pager.levels.parts) c.args.s.0 c.args.self.now.pager.levels.whole.parts.core c.requires.out

pub returns-then-enough-clause-counted : goal.returns-then-enough-clause-counted
returns-then-enough-clause-counted g c = c.come.ensures.counted ∙ ap counted c.clear_first.ensures.leaves.fetches

pub returns-then-enough-clause-buf : goal.returns-then-enough-clause-buf
returns-then-enough-clause-buf g c = c.come.ensures.buf ∙ c.in-Ok.ensures.buf

pub returns-then-words-self-clause-damage : goal.returns-then-words-self-clause-damage
returns-then-words-self-clause-damage g c = λ room. full-damage c.full.new.self.pager.levels.disk.rest ((core_of c.args.self.now.pager.levels.parts).entries c.args.s.0).name c.full.result c.full.ensures.is

pub returns-else-enough-clause-damage : goal.returns-else-enough-clause-damage
returns-else-enough-clause-damage g c = λ room. full-damage c.full-in-Ok.new.self.pager.levels.disk.rest ((core_of c.args.self.now.pager.levels.parts).entries c.args.s.0).name c.full-in-Ok.result c.full-in-Ok.ensures.is

pub returns-else-enough-clause-buf : goal.returns-else-enough-clause-buf
returns-else-enough-clause-buf g c = c.full-in-Ok.ensures.buf ∙ c.in-Ok.ensures.buf

pub returns-in-Err-clause-damage : goal.returns-in-Err-clause-damage
returns-in-Err-clause-damage g c = λ room. absurd (c.in-Err.ensures.sure room)
