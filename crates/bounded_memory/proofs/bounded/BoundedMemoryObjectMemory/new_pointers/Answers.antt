use Rattle.std.proofs.Common.{refl, ◌∙◌}
use Rattle.long_names.specs.Objects.{OfPointers}
use Rattle.bounded_memory.proofs.SizeLaws.{pointers-size}
use Rattle.bounded_memory.proofs.MemoryLaws.{cannot-make, makes-object, makes-sound, makes-ready}
use Rattle.bounded_memory.proofs.bounded.BoundedMemoryObjectMemory.new_pointers.Goals as goal

pub returns-in_err-can_make-clause-access : goal.returns-in_err-can_make-clause-access
returns-in_err-can_make-clause-access c =
    let e = c.in_err-can_make.ensures in
    cannot-make c.args.self.now c.can_make.new.self c.args.to c.args.class (OfPointers c.args.n) c.new.result.words c.from_residual.result c.in_err-can_make.field-0.0 c.from_residual.ensures.1 c.requires.fit.ready c.requires.fit.sound (c.new.ensures.words ∙ pointers-size c.args.n) e.refused e.later e.cause

pub returns-clause-access : goal.returns-clause-access
returns-clause-access c =
    let e = c.in_ok-can_make.ensures in
    let f = c.made.ensures in
    makes-object c.args.self.now c.can_make.new.self c.new_pointers-result.new.self c.made.new.self c.args.to c.args.class (OfPointers c.args.n) c.new.result.words c.new_pointers-result.result c.made.result e.kept (c.new.ensures.words ∙ pointers-size c.args.n) e.named e.room c.new_pointers-result.ensures.access c.new_pointers-result.ensures.kept f.ok f.counted f.err f.told f.refusals f.faults

pub returns-clause-fit : goal.returns-clause-fit
returns-clause-fit c = record {
  sound = makes-sound c.args.self.now c.can_make.new.self c.new_pointers-result.new.self c.made.new.self c.args.to c.args.class (OfPointers c.args.n) c.new_pointers-result.result c.made.result c.in_ok-can_make.ensures.kept c.requires.fit.ready c.requires.fit.sound c.new_pointers-result.ensures.access c.new_pointers-result.ensures.fit.ready c.made.ensures.ok c.made.ensures.err;
  ready = makes-ready c.args.self.now c.can_make.new.self c.new_pointers-result.new.self c.made.new.self c.args.to c.args.class (OfPointers c.args.n) c.new_pointers-result.result c.made.result c.in_ok-can_make.ensures.kept c.requires.fit.ready c.new_pointers-result.ensures.access c.new_pointers-result.ensures.fit.ready c.made.ensures.ok;
  lender = refl;
  outside = refl;
}
