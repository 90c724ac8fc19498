use Rattle.std.proofs.lemmas.Result.{IfOk-weaker}
use Rattle.st80_outside.specs.Right.{Guards, Resumes, Runs}
use Rattle.st80.proofs.rows.row_of.Goals as goal

pub returns-in-Image-clause-right : goal.returns-in-Image-clause-right
returns-in-Image-clause-right c = IfOk-weaker c.image_row.result _ _ (λ words right. Runs _ right) c.image_row.ensures

pub returns-in-Guarded-clause-right : goal.returns-in-Guarded-clause-right
returns-in-Guarded-clause-right c = IfOk-weaker c.guarded_row.result _ _ (λ words right. Guards _ _ right) c.guarded_row.ensures

pub returns-in-Kept-clause-right : goal.returns-in-Kept-clause-right
returns-in-Kept-clause-right c = IfOk-weaker c.kept_row.result _ _ (λ words right. Resumes _ _ right) c.kept_row.ensures
