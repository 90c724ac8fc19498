use Rattle.std.proofs.Common.{[], Some, sym, ◌∙◌, ap, subst, IsTrue}
use Rattle.loom_host.specs.declared.outside.Role.TheVariants.{Work}
use Rattle.object_memory.specs.Told.{Told}
use Rattle.object_record.specs.Objects.{value_in}
use Rattle.object_table.specs.declared.entry.Entry.{Entry}
use Rattle.core_view.specs.Words.{meant}
use Rattle.core_view.proofs.Core.{placed-used}
use Rattle.leaf_lambda.specs.Parts.{core_of}
use Rattle.leaf_lambda.proofs.RecordLaws.{value-is}
use Rattle.disk_objects.specs.Function.{disk_of}
use Rattle.loom_memory.specs.Known.{IsNameable}
use Rattle.loom_memory.specs.Memory.{loom_told}
use Rattle.loom_memory.specs.Gentle.{IsQuiet}
use Rattle.loom_memory.proofs.FieldLaws.{at-same}
use Rattle.loom_memory.proofs.ExactLaws.{brought-nameable}
use Rattle.loom_memory.proofs.LambdaLaws.{no-value, lambda-told, lambda-value}
use Rattle.loom_memory.proofs.GentleLaws.{peek-trans, steady-peek}
use Rattle.long_names.specs.declared.value.Value.{Value}
use Rattle.loom_memory.specs.declared.ledger.Ledger.{Ledger}
use Rattle.loom_memory.specs.Below.{IsBelow}
use Rattle.object_memory.specs.declared.fault.MemFault.TheVariants.{Damaged}
use Rattle.purger.specs.declared.eviction.TheConstants.{NOWHERE}
use Rattle.loom_memory.proofs.DamageLaws.{nowhere-damage}
use Rattle.loom_memory.proofs.memory.LoomMemory.lambda_word.Goals as goal
use Rattle.loom_memory.proofs.memory.LoomMemory.lambda_word.Given as given

pub word_for-requires-clause-named : goal.word_for-requires-clause-named
unfolding loom_told
word_for-requires-clause-named g c = λ told n is.
    let m = c.args.self.now in
    subst (λ (t : Told). IsNameable t.heap n) (sym c.in-Ok.ensures.peeks.quiet.same)
    (brought-nameable (loom_told g.H.Host m).heap (loom_told g.H.Host m).regs (loom_told g.H.Host m).slots c.args.of c.args.i n (c.requires.fit.ready.whole told)
    (lambda-told (g.H.Host.tells Work) (core_of m.pager.levels.parts) (disk_of g.H.Host m.pager.levels.disk.host.now m.pager.levels.disk.rest) m.ledger.next c.args.s.0 c.args.at.place 0 c.args.of c.args.i (value_in c.in-Ok.long) (loom_told g.H.Host m).regs told c.args.self.now.pager.levels.whole.parts.core c.requires.lambda (c.in-Ok.ensures.long told) (ap (meant (core_of m.pager.levels.parts).entries [] 0) (sym c.requires.word))
    ∙ ap Some (value-is c.in-Ok.long c.in-Some.v (sym c.in-Some.ensures.value) ∙ is)))

pub returns-in-Some-clause-peeks : goal.returns-in-Some-clause-peeks
returns-in-Some-clause-peeks g c = record {
  quiet = subst (λ (t : Told). IsQuiet (loom_told g.H.Host c.args.self.now) t) (sym c.word_for.ensures.enters.told) c.in-Ok.ensures.peeks.quiet;
  peek = peek-trans g.H.Host c.args.self.now c.read_lambda.new.self c.word_for.new.self c.in-Ok.ensures.peeks.peek (steady-peek g.H.Host c.read_lambda.new.self c.word_for.new.self c.word_for.ensures.enters.steady);
  regs = c.word_for.ensures.enters.regs ∙ c.in-Ok.ensures.peeks.regs;
  due = c.word_for.ensures.enters.due ∙ c.in-Ok.ensures.peeks.due;
  flag = c.word_for.ensures.enters.flag ∙ c.in-Ok.ensures.peeks.flag;
}

pub returns-in-Some-clause-means : goal.returns-in-Some-clause-means
unfolding loom_told
returns-in-Some-clause-means g c = λ told.
    let m = c.args.self.now in
    lambda-told (g.H.Host.tells Work) (core_of m.pager.levels.parts) (disk_of g.H.Host m.pager.levels.disk.host.now m.pager.levels.disk.rest) m.ledger.next c.args.s.0 c.args.at.place 0 c.args.of c.args.i (value_in c.in-Ok.long) (loom_told g.H.Host m).regs told c.args.self.now.pager.levels.whole.parts.core c.requires.lambda (c.in-Ok.ensures.long told) (ap (meant (core_of m.pager.levels.parts).entries [] 0) (sym c.requires.word))
    ∙ ap Some (value-is c.in-Ok.long c.in-Some.v (sym c.in-Some.ensures.value) ∙ sym c.word_for.ensures.means)

pub returns-in-Some-clause-at : goal.returns-in-Some-clause-at
returns-in-Some-clause-at g c =
    let n = c.read_lambda.new.self in
    let at = c.in-Ok.ensures.at in
    (at.0, at-same (core_of n.pager.levels.parts) (core_of c.word_for.new.self.pager.levels.parts) c.args.s.0 c.args.at.place c.args.i at.0 (c.word_for.ensures.entries c.args.s.0 (placed-used ((core_of n.pager.levels.parts).entries c.args.s.0).state c.args.at.place at.1.place)) c.word_for.ensures.chunks at.1)

pub returns-in-Some-clause-mark : goal.returns-in-Some-clause-mark
returns-in-Some-clause-mark g c =
    let n = c.read_lambda.new.self in
    ap (λ (e : Entry). e.flags.marked) (c.word_for.ensures.entries c.args.s.0 (placed-used ((core_of n.pager.levels.parts).entries c.args.s.0).state c.args.at.place c.in-Ok.ensures.at.1.place)) ∙ c.in-Ok.ensures.mark

none-there : (g : given.Over) (c : goal.After-amiss g) → IsTrue (loom_told g.H.Host c.args.self.now).tells → ⊥
unfolding loom_told
none-there g c = λ told.
    let m = c.args.self.now in
    no-value c.in-Ok.long (sym c.in-None.ensures.value) (lambda-value (core_of m.pager.levels.parts) (disk_of g.H.Host m.pager.levels.disk.host.now m.pager.levels.disk.rest) c.args.s.0 c.args.at.place c.args.i (value_in c.in-Ok.long) c.args.self.now.pager.levels.whole.parts.core (c.requires.fit.sound.over.valued told) c.requires.lambda (c.in-Ok.ensures.long told))

pub amiss-requires-clause-used : goal.amiss-requires-clause-used
amiss-requires-clause-used g c = placed-used ((core_of c.read_lambda.new.self.pager.levels.parts).entries c.args.s.0).state c.args.at.place c.in-Ok.ensures.at.1.place

pub returns-in-None-clause-err : goal.returns-in-None-clause-err
returns-in-None-clause-err g c = λ a silent none. c.amiss.ensures.err (loom_told g.H.Host c.args.self.now) a c.in-Ok.ensures.peeks.quiet c.requires.fit.ready silent none (none-there g c)

pub returns-in-Some-clause-below : goal.returns-in-Some-clause-below
returns-in-Some-clause-below g c =
    let n = c.word_for.new.self in
    subst (λ (v : Value). IsBelow n.ledger.next v) (value-is c.in-Ok.long c.in-Some.v (sym c.in-Some.ensures.value) ∙ sym c.word_for.ensures.means)
    (subst (λ (k : Ledger). IsBelow k.next (value_in c.in-Ok.long)) (sym c.word_for.ensures.enters.ledger) c.in-Ok.ensures.below)

pub returns-in-Err-clause-err : goal.returns-in-Err-clause-err
returns-in-Err-clause-err g c = c.in-Err.ensures.err

pub returns-in-None-clause-damage : goal.returns-in-None-clause-damage
returns-in-None-clause-damage g c = nowhere-damage c.amiss.new.self.pager.levels.disk.rest ((core_of c.args.self.now.pager.levels.parts).entries c.args.s.0).name c.amiss.result (c.amiss.ensures.is ∙ ap (Damaged NOWHERE) c.in-Ok.ensures.named)

pub returns-in-Some-clause-leaves : goal.returns-in-Some-clause-leaves
returns-in-Some-clause-leaves g c = record {
  sound = c.word_for.ensures.leaves.sound;
  fetches = c.word_for.ensures.enters.steady.idle.fetches ∙ c.read_lambda.ensures.leaves.fetches;
  lender = c.word_for.ensures.leaves.lender ∙ c.read_lambda.ensures.leaves.lender;
  outside = c.word_for.ensures.leaves.outside ∙ c.read_lambda.ensures.leaves.outside;
}
