use Rattle.blue_model.proofs.FailLaws.{row_leaves, picture_leaves}
use Rattle.blue_model.proofs.laws.a_picture_changes_nothing.Goals as goal

pub returns-clause-row : goal.returns-clause-row
returns-clause-row c = row_leaves

pub returns-clause-whole : goal.returns-clause-whole
returns-clause-whole c = picture_leaves
