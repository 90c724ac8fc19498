use Rattle.std.proofs.Common.{refl, w16, ◌∙◌}
use Rattle.std.proofs.Math.Facts.{to_z-of_z}
use Rattle.long_names.specs.Objects.{OfMethod}
use Rattle.bounded_memory.proofs.SizeLaws.{method-size}
use Rattle.bounded_memory.proofs.MemoryLaws.{cannot-make, makes-object, makes-sound, makes-ready}
use Rattle.bounded_memory.proofs.bounded.BoundedMemoryObjectMemory.new_method.Goals as goal

pub returns-in_err-can_make-clause-access : goal.returns-in_err-can_make-clause-access
returns-in_err-can_make-clause-access c =
    let e = c.in_err-can_make.ensures in
    cannot-make c.args.self.now c.can_make.new.self c.args.to c.args.class (OfMethod c.args.header c.args.code) c.new.result.words c.from_residual.result c.in_err-can_make.field-0.0 c.from_residual.ensures.1 c.requires.fit.ready c.requires.fit.sound (c.new.ensures.words ∙ method-size c.args.header c.args.code c.literal_count.result (record { sfits = c.ranges.header.sfits }) c.literal_count.ensures) e.refused e.later e.cause

pub returns-clause-access : goal.returns-clause-access
returns-clause-access c =
    let e = c.in_ok-can_make.ensures in
    let f = c.made.ensures in
    makes-object c.args.self.now c.can_make.new.self c.new_method-result.new.self c.made.new.self c.args.to c.args.class (OfMethod c.args.header c.args.code) c.new.result.words c.new_method-result.result c.made.result e.kept (c.new.ensures.words ∙ method-size c.args.header c.args.code c.literal_count.result (record { sfits = c.ranges.header.sfits }) c.literal_count.ensures) e.named e.room (rw (to_z-of_z {w = w16} {z = c.args.header} (record { sfits = c.ranges.header.sfits })) at c.new_method-result.ensures.access) c.new_method-result.ensures.kept f.ok f.counted f.err f.told f.refusals f.faults

pub returns-clause-fit : goal.returns-clause-fit
returns-clause-fit c = record {
  sound = makes-sound c.args.self.now c.can_make.new.self c.new_method-result.new.self c.made.new.self c.args.to c.args.class (OfMethod c.args.header c.args.code) c.new_method-result.result c.made.result c.in_ok-can_make.ensures.kept c.requires.fit.ready c.requires.fit.sound (rw (to_z-of_z {w = w16} {z = c.args.header} (record { sfits = c.ranges.header.sfits })) at c.new_method-result.ensures.access) c.new_method-result.ensures.fit.ready c.made.ensures.ok c.made.ensures.err;
  ready = makes-ready c.args.self.now c.can_make.new.self c.new_method-result.new.self c.made.new.self c.args.to c.args.class (OfMethod c.args.header c.args.code) c.new_method-result.result c.made.result c.in_ok-can_make.ensures.kept c.requires.fit.ready (rw (to_z-of_z {w = w16} {z = c.args.header} (record { sfits = c.ranges.header.sfits })) at c.new_method-result.ensures.access) c.new_method-result.ensures.fit.ready c.made.ensures.ok;
  lender = refl;
  outside = refl;
}
