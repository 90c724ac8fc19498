use Rattle.std.proofs.Common.{arith}
use Rattle.st80_view.specs.Viewed.{recs_of}
use Rattle.st80_view.proofs.CalledLaws.{called_here, called_later, called_none}
use Rattle.st80_view.proofs.view.View.first_called.Goals as goal

pub returns-then-is_class_named : goal.returns-then-is_class_named
returns-then-is_class_named c = called_here (recs_of c.args.self.now) c.args.recs.now c.args.text.now c.loop-rec.rec-index c.rec-item.result c.is_class_named.result c.loop-rec-test.true c.rec-item.is c.is_class_named.ensures c.if-is_class_named.true c.loop-rec.invariant

pub loop-rec-preserved : goal.loop-rec-preserved
loop-rec-preserved c = called_later (recs_of c.args.self.now) c.args.recs.now c.args.text.now c.loop-rec.rec-index c.rec-item.result c.is_class_named.result c.loop-rec-test.true c.rec-item.is c.is_class_named.ensures c.if-is_class_named.false c.loop-rec.invariant

pub returns : goal.returns
returns c = called_none (recs_of c.args.self.now) c.args.recs.now c.args.text.now c.loop-rec.rec-index (let end = c.loop-rec-test.false in omega (arith, end)) c.loop-rec.invariant
