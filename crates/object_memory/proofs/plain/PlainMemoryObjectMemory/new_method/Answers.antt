use Rattle.std.proofs.Common.{w16, refl}
use Rattle.std.proofs.Math.Facts.{to_z-of_z}
use Rattle.long_names.specs.Objects.{OfMethod}
use Rattle.long_names.specs.State.{name_at}
use Rattle.object_memory.specs.Plain.{plain_told}
use Rattle.object_memory.proofs.PlainLaws.{made-is, made-named, makes-object, makes-ready, keeps}
use Rattle.object_memory.proofs.plain.PlainMemoryObjectMemory.new_method.Goals as goal

pub returns-clause-access : goal.returns-clause-access
returns-clause-access c =
    let t = plain_told c.args.self.now in
    let class = name_at (t.regs c.args.class) in
    let is = rw (to_z-of_z {w = w16} {z = c.args.header} (record { sfits = c.ranges.header.sfits })) at (made-is t _ c.args.to class _ _ c.make.result c.make.ensures.made c.new_method-body.ensures) in
    makes-object t _ c.args.to c.args.class (OfMethod c.args.header c.args.code) c.make.result refl c.requires.fit.ready refl c.make.ensures.room is c.make.ensures.refused c.make.ensures.cause c.make.ensures.later

pub returns-clause-name : goal.returns-clause-name
returns-clause-name c =
    let t = plain_told c.args.self.now in
    made-named t _ c.args.to _ c.make.result (made-is t _ c.args.to _ _ _ c.make.result c.make.ensures.made c.new_method-body.ensures)

pub returns-clause-fit : goal.returns-clause-fit
returns-clause-fit c = record {
  sound = keeps c.make.result (Unit {0}) tt;
  ready = (let t = plain_told c.args.self.now in
      let class = name_at (t.regs c.args.class) in
      let is = rw (to_z-of_z {w = w16} {z = c.args.header} (record { sfits = c.ranges.header.sfits })) at (made-is t _ c.args.to class _ _ c.make.result c.make.ensures.made c.new_method-body.ensures) in
      makes-ready t _ c.args.to c.args.class (OfMethod c.args.header c.args.code) c.make.result c.requires.fit.ready refl (λ i j k. refl) is);
  lender = refl;
  outside = refl;
}
