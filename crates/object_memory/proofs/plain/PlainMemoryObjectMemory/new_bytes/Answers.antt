use Rattle.std.proofs.Common.{refl}
use Rattle.long_names.specs.Objects.{OfBytes, body_made}
use Rattle.long_names.specs.State.{name_at}
use Rattle.object_memory.specs.Plain.{plain_told}
use Rattle.object_memory.proofs.PlainLaws.{made-is, made-named, makes-object, makes-ready, keeps}
use Rattle.object_memory.proofs.plain.PlainMemoryObjectMemory.new_bytes.Goals as goal

pub returns-clause-access : goal.returns-clause-access
returns-clause-access c =
    let t = plain_told c.args.self.now in
    let what = OfBytes c.args.n in
    makes-object t _ c.args.to c.args.class what c.make.result refl c.requires.fit.ready refl c.make.ensures.room (made-is t _ c.args.to (name_at (t.regs c.args.class)) _ (body_made what) c.make.result c.make.ensures.made c.new_bytes-body.ensures) c.make.ensures.refused c.make.ensures.cause c.make.ensures.later

pub returns-clause-name : goal.returns-clause-name
returns-clause-name c =
    let t = plain_told c.args.self.now in
    made-named t _ c.args.to _ c.make.result (made-is t _ c.args.to (name_at (t.regs c.args.class)) _ (body_made (OfBytes c.args.n)) c.make.result c.make.ensures.made c.new_bytes-body.ensures)

pub returns-clause-fit : goal.returns-clause-fit
returns-clause-fit c = record {
  sound = keeps c.make.result (Unit {0}) tt;
  ready = (let t = plain_told c.args.self.now in
      let what = OfBytes c.args.n in
      makes-ready t _ c.args.to c.args.class what c.make.result c.requires.fit.ready refl (λ i j k. refl) (made-is t _ c.args.to (name_at (t.regs c.args.class)) _ (body_made what) c.make.result c.make.ensures.made c.new_bytes-body.ensures));
  lender = refl;
  outside = refl;
}
