use Rattle.std.proofs.Common.{ap, ◌∙◌, List}
use Rattle.long_names.specs.declared.object.Rec.{Rec}
use Rattle.st80_objects.specs.Images.{objects_of}
use Rattle.st80_view.specs.Names.{first_called}
use Rattle.st80_view.specs.Viewed.{recs_of}
use Rattle.st80_view.proofs.CalledLaws.{called_some}
use Rattle.st80_view.proofs.view.View.class_called.Goals as goal

pub returns-clause-there : goal.returns-clause-there
returns-clause-there c = called_some (recs_of c.args.self.now) c.args.text.now c.first_called.result (c.first_called.ensures ∙ ap (first_called (recs_of c.args.self.now) c.args.text.now) (c.all.ensures.all ∙ ap objects_of c.image.ensures))
